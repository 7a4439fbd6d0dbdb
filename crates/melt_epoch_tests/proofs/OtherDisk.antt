-- What is well formed of a heap does not depend on the disk, but for the word after all homes.
use Rattle.std.proofs.Common.{◌≡◌, ℕ, ◌+◌, ◌<◌, ◌≤◌, List, subst, inl, inr}
use Rattle.std.specs.Prelude.{◌↔◌, ◌^◌}
use Rattle.melt_word.specs.Words.{cost_of}
use Rattle.melt_word.specs.declared.header.Header.{Header}
use Rattle.melt_word.specs.declared.reference.Ref.{Ref}
use Rattle.melt_word.specs.declared.reference.Ref.TheVariants.{Null, Clean, Stale, Disk}
use Rattle.melt_scion.specs.State.{State, Forwards, HeaderAt, IsFresh, ObjectAt, Scion}
use Rattle.melt_scion.specs.Placed.{FormedWords, ForwardMayStand, ForwardStands, HasHome, IsHomeWord, IsReferenceWord}
use Rattle.melt_scion.specs.Placed.{Maps, MayStand, ScionStands}
use Rattle.melt_scion.specs.Heaps.{OnDisk, state_of}
use Rattle.melt_scion.specs.declared.heap.Heap.{Heap}
use Rattle.melt_scion.specs.declared.registers.Registers.{Registers}

module _ (maps : Maps) (heap : Heap) (held after : List Registers) (disk other : OnDisk)
    (ends : disk.end ≡ other.end) where
  abbrev s : State
  s = state_of heap held disk

  abbrev t : State
  t = state_of heap after other

  header_back : (a : ℕ) (h : Header) → HeaderAt t a h → HeaderAt s a h
  header_back a h is = record { in_range = is.in_range; word = is.word }

  header_then : (a : ℕ) (h : Header) → HeaderAt s a h → HeaderAt t a h
  header_then a h is = record { in_range = is.in_range; word = is.word }

  fresh_then : (a : ℕ) → IsFresh s a → IsFresh t a
  fresh_then a fresh h starts = fresh h (header_back a h starts)

  object_then : (a : ℕ) (h : Header) → ObjectAt s a h → ObjectAt t a h
  object_then a h is = record {
    starts = header_then a h is.starts;
    first = is.first;
    within = is.within;
    below = is.below;
  }

  forwards_same : (home a : ℕ) → Forwards s home a ↔ Forwards t home a
  forwards_same home a = (
    λ is. record { place = is.place; within = is.within; sends = is.sends },
    λ is. record { place = is.place; within = is.within; sends = is.sends },
  )

  may_stand : (r : Ref) → MayStand maps s r → MayStand maps t r
  may_stand Null is = tt
  may_stand (Clean a) is = (is.0, fresh_then a is.1)
  may_stand (Stale a) is = is
  may_stand (Disk home) is = (is.0, subst (λ (end : ℕ). home < end) ends is.1)

  reference_then : (word : ℕ) → IsReferenceWord maps s word → IsReferenceWord maps t word
  reference_then word is = record {
    reference = is.reference;
    in_range = is.in_range;
    is = is.is;
    stands = may_stand is.reference is.stands;
  }

  has_home : (a words home scion : ℕ) → HasHome s a words home scion → HasHome t a words home scion
  has_home a words home scion has =
      let same : Forwards s home a ↔ Forwards t home a = forwards_same home a in
      record {
        in_range = has.in_range;
        is = has.is;
        within = subst (λ (end : ℕ). home + words ≤ end) ends has.within;
        forwarded = (λ none. same.0 (has.forwarded.0 none), λ there. has.forwarded.1 (same.1 there));
        live = has.live;
      }

  home_word_then : (a words : ℕ) → IsHomeWord s a words → IsHomeWord t a words
  home_word_then a words (inl none) = inl none
  home_word_then a words (inr (home, scion, has)) = inr (home, scion, has_home a words home scion has)

  scion_then : (k : ℕ) (x : Scion) → ScionStands maps s k x → ScionStands maps t k x
  scion_then k x is = record {
    first = is.first;
    small = is.small;
    named = is.named;
    home_word = is.home_word;
  }

  forward_stands : (home a : ℕ) → ForwardStands maps s home a → ForwardStands maps t home a
  forward_stands home a is = record {
    named = is.named;
    home_word = is.home_word;
    fresh = fresh_then a is.fresh;
  }

  forward_then : (word : ℕ) → ForwardMayStand maps s word → ForwardMayStand maps t word
  forward_then word (inl none) = inl none
  forward_then word (inr (home, a, sends, is)) = inr (home, a, sends, forward_stands home a is)

  pub words_on_other : FormedWords maps s → FormedWords maps t
  words_on_other formed = record {
    small = formed.small;
    first_end = subst (λ (end : ℕ). 1 ≤ end) ends formed.first_end;
    small_end = subst (λ (end : ℕ). end ≤ 2 ^ 32) ends formed.small_end;
    objects = λ a n named. let is = formed.objects a n named in (is.0, object_then a is.0 is.1);
    apart = λ a b n m h named_a named_b starts. formed.apart a b n m h named_a named_b (header_back a h starts);
    slots = λ a n i h named starts below.
        reference_then (t.word (a + 2 + i)) (formed.slots a n i h named (header_back a h starts) below);
    home_words = λ a n h named starts.
        home_word_then a (cost_of h.shape) (formed.home_words a n h named (header_back a h starts));
    globals = λ g below. reference_then (t.global g) (formed.globals g below);
    scions = λ k x live. scion_then k x (formed.scions k x live);
    forwards = λ p below. forward_then (t.forward p) (formed.forwards p below);
    one_forward = formed.one_forward;
  }
