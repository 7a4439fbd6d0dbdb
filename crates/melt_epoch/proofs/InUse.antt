-- What a state holds and shows is said by the words in use: those before the first free place, within the space.
use Rattle.std.proofs.Common.{◌≡◌, ℕ, ◌+◌, ◌<◌, ◌≤◌, Bool, List, sym, ◌∙◌, ap, arith, true, false}
use Rattle.std.specs.Prelude.{◌↔◌, Some}
use Rattle.melt_model.specs.declared.history.Entry.{Entry}
use Rattle.melt_word.specs.Words.{cost_of}
use Rattle.melt_word.specs.declared.header.Header.{Header}
use Rattle.melt_scion.proofs.Changing.{keeps_heads}
use Rattle.melt_scion.proofs.Following.{same_history}
use Rattle.melt_scion.proofs.Geometry.{header_moves, one_header}
use Rattle.melt_scion.proofs.Parts.{PartAt, head_part, home_part}
use Rattle.melt_scion.proofs.Staying.{SameParts}
use Rattle.melt_scion.specs.Placed.{FormedWords, Holds, IsNamed, Maps}
use Rattle.melt_scion.specs.State.{IsFresh, State}
use Rattle.melt_core.proofs.Holding.{holds_same}
use Rattle.melt_core.specs.StaleBits.{BitIs, BitsTold, Sight}
use Rattle.melt_rule.specs.Sights.{last_sight}

-- The words in use stay, and all else but the first free place. What ended before that, and within the space, still
-- does.
pub record SameInUse (s t : State) : Type 0 where
  pub base : t.base ≡ s.base
  pub ends : (end : ℕ) → end ≤ s.free → end ≤ s.base.size + 1 → end ≤ t.free
  pub word : (k : ℕ) → k < s.free → k < s.base.size + 1 → t.word k ≡ s.word k
  pub global : (g : ℕ) → t.global g ≡ s.global g
  pub forward : (p : ℕ) → t.forward p ≡ s.forward p

module _ (maps : Maps) (s t : State) (formed : FormedWords maps s) (same : SameInUse s t) where
  -- each word of an object is in use
  part_same : (a n p x : ℕ) (h : Header) → PartAt maps s a n p x h → t.word x ≡ s.word x
  part_same a n p x h part =
      let object = formed.objects a n part.named in
      let header : object.0 ≡ h = one_header s a object.0 h object.1.starts part.starts in
      let cost : cost_of object.0.shape ≡ cost_of h.shape = ap (λ (k : Header). cost_of k.shape) header in
      let below : a + cost_of object.0.shape ≤ s.free = object.1.below in
      let within : a + cost_of object.0.shape ≤ s.base.size + 1 = object.1.within in
      let inside : p < cost_of h.shape = part.within in
      let is : x ≡ a + p = part.is in
      same.word x (omega arith) (omega arith)

  header_same : (a n : ℕ) → maps.address a ≡ Some n → t.word a ≡ s.word a
  header_same a n named =
      let object = formed.objects a n named in
      part_same a n 0 a object.0 (head_part maps s a n object.0 named object.1.starts)

  home_same : (a n : ℕ) → maps.address a ≡ Some n → t.word (a + 1) ≡ s.word (a + 1)
  home_same a n named =
      let object = formed.objects a n named in
      part_same a n 1 (a + 1) object.0 (home_part maps s a n object.0 named object.1.starts)

  parts_stay : SameParts maps s t
  parts_stay = record {
    keeps = keeps_heads maps s t (record {
      base = same.base;
      ends = same.ends;
      forward = same.forward;
      header = header_same;
      home_word = home_same;
    });
    part = λ a n p x h part after. part_same a n p x h part;
    global = same.global;
    forward = same.forward;
  }

  -- an object without the stale bit has none after
  pub fresh_in_use : (a : ℕ) → IsNamed maps a → IsFresh s a → IsFresh t a
  fresh_in_use a named fresh header starts =
      fresh header (header_moves s t a header (sym (header_same a named.0 named.1)) starts)

  -- each object has the bit that it had
  pub bit_in_use : (h : List Entry) (n : ℕ) (stale : Bool)
      → BitIs (last_sight h maps s) n stale ↔ BitIs (last_sight h maps t) n stale
  bit_in_use h n stale = (
    λ is. record {
      address = is.address;
      named = is.named;
      shape = is.shape;
      small = is.small;
      word = header_same is.address n is.named ∙ is.word;
    },
    λ is. record {
      address = is.address;
      named = is.named;
      shape = is.shape;
      small = is.small;
      word = sym (header_same is.address n is.named) ∙ is.word;
    },
  )

  -- so the bits are told
  pub bits_in_use : (u : Sight) (h : List Entry) → BitsTold u (last_sight h maps s) → BitsTold u (last_sight h maps t)
  bits_in_use u h told = record {
    since = λ n fresh. told.since n ((bit_in_use h n false).1 fresh);
    passed = λ n fresh was. told.passed n ((bit_in_use h n false).1 fresh) was;
    stale = λ n stale. told.stale n ((bit_in_use h n true).1 stale);
    used = λ n in_use used. (bit_in_use h n false).0 (told.used n in_use used);
    in_use = told.in_use;
    stays = told.stays;
    homes = told.homes;
  }

-- the state stands for the history
pub holds_in_use : (told : Bool) (h : List Entry) (maps : Maps) (s t : State) → SameInUse s t → Holds told h maps s
    → Holds told h maps t
holds_in_use told h maps s t same holds =
    holds_same told h h maps s t (parts_stay maps s t holds.formed same) (same_history h) holds
