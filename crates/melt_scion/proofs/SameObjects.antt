-- What settling an object and a write at its home have in common: all objects stay as they are, but for home words, and
-- so do homes. Scions, forwarding words and records may change.
use Rattle.std.proofs.Common.{◌≡◌, ◌≢◌, ℕ, ◌+◌, ◌<◌, ◌≤◌, sym, ◌∙◌, ap, subst, arith, inl, inr, List}
use Rattle.std.specs.Prelude.{◌↔◌, Some, Contains}
use Rattle.melt_model.specs.History.{last}
use Rattle.melt_model.specs.declared.history.Entry.{Entry}
use Rattle.melt_model.specs.declared.history.Value.{Value}
use Rattle.melt_model.specs.declared.history.Value.TheVariants.{Num}
use Rattle.melt_model.specs.declared.history.Slot.TheVariants.{Field, Global}
use Rattle.melt_word.specs.Words.{IsHomeAndScion, home_word, cost_of}
use Rattle.melt_word.specs.declared.header.Shape.{Shape}
use Rattle.melt_word.specs.declared.header.Header.{Header}
use Rattle.melt_word.specs.declared.reference.Ref as words
use Rattle.melt_word.specs.declared.reference.Ref.TheVariants.{Null, Clean, Stale, Disk}
use Rattle.melt_forward.specs.Forwarding.{Sends}
use Rattle.melt_scion.specs.State.{Home, Scion, State, HeaderAt, IsFresh, Forwards, Follow, IsReserved}
use Rattle.melt_scion.specs.Placed.{Maps, IsNamed, MayStand, IsReferenceWord, MayHold, IsHomeWord}
use Rattle.melt_scion.specs.Placed.{ScionStands, ForwardStands, ForwardMayStand, FormedWords, Stands, HomeStands}
use Rattle.melt_scion.specs.Placed.{IsFreeHome, IsTaken, Tells}
use Rattle.melt_scion.specs.Settles.{SameSizes, SameHomes}
use Rattle.melt_scion.proofs.Geometry.{header_moves}
use Rattle.melt_scion.proofs.Parts.{PartAt, head_part, slot_part, number_part}
use Rattle.melt_scion.proofs.KeptRecords.{HasStub}

-- all words of objects stay but for home words, all globals, and all homes
pub record SameObjects (maps : Maps) (s t : State) : Type 0 where
  pub sizes : SameSizes s.base t.base
  pub homes : SameHomes s.base t.base
  pub free : t.free ≡ s.free
  pub part : (a n p x : ℕ) (header : Header) → PartAt maps s a n p x header → p ≢ 1 → t.word x ≡ s.word x
  pub global : (g : ℕ) → t.global g ≡ s.global g

-- home words, scions and forwarding words name each other
pub record NamesMatch (maps : Maps) (t : State) : Type 0 where
  pub home_words : (a n : ℕ) (header : Header) → maps.address a ≡ Some n → HeaderAt t a header →
      IsHomeWord t a (cost_of header.shape)
  pub scions : (k : ℕ) (x : Scion) → t.base.scion k ≡ Some x → ScionStands maps t k x
  pub forwards : (p : ℕ) → p < t.base.forwards → ForwardMayStand maps t (t.forward p)
  pub one_forward : (p q home a b : ℕ) → p < t.base.forwards → q < t.base.forwards → Sends (t.forward p) home a →
      Sends (t.forward q) home b → p ≡ q

-- the records at homes, and the home words of the objects that have one
pub record HomesTell (h : List Entry) (maps : Maps) (t : State) : Type 0 where
  pub free_homes : (home : ℕ) → Contains t.base.free_homes home → IsFreeHome t.base home
  pub homes : (home n : ℕ) → maps.home home ≡ Some n → HomeStands h maps t home n
  pub home_words : (a n home : ℕ) → maps.address a ≡ Some n → maps.home home ≡ Some n →
      (scion : ℕ) × (t.word (a + 1) ≡ home_word (Some (record { home = home; scion = scion })))
  pub named_homes : (a n home scion : ℕ) → maps.address a ≡ Some n →
      IsHomeAndScion (record { home = home; scion = scion }) →
      t.word (a + 1) ≡ home_word (Some (record { home = home; scion = scion })) → maps.home home ≡ Some n
  pub stubs : (k : ℕ) (x : Scion) → t.base.scion k ≡ Some x → HasStub maps t.base k x.home

module _ (maps : Maps) (s t : State) (formed : FormedWords maps s) (same : SameObjects maps s t) where
  -- the headers are those from before
  header_same : (a n : ℕ) → maps.address a ≡ Some n → t.word a ≡ s.word a
  header_same a n named =
      let object = formed.objects a n named in
      same.part a n 0 a object.0 (head_part maps s a n object.0 named object.1.starts) (omega arith)

  -- so an object has the header that it had
  pub header_was : (a n : ℕ) (header : Header) → maps.address a ≡ Some n → HeaderAt t a header → HeaderAt s a header
  header_was a n header named starts = header_moves s t a header (sym (header_same a n named)) starts

  -- and is fresh if it was
  fresh_on : (a : ℕ) → IsNamed maps a → IsFresh s a → IsFresh t a
  fresh_on a named fresh header starts = fresh header (header_was a named.0 header named.1 starts)

  -- references may stand on, and stand for what they stood for
  may_on : (r : words.Ref) → MayStand maps s r → MayStand maps t r
  may_on Null may = tt
  may_on (Clean a) may = (may.0, fresh_on a may.0 may.1)
  may_on (Stale a) may = may
  may_on (Disk home) may =
      let below : home < s.base.end = may.1 in
      let end : t.base.end ≡ s.base.end = same.homes.end in
      (may.0, omega arith)

  word_on : (old later : ℕ) → later ≡ old → IsReferenceWord maps s old → IsReferenceWord maps t later
  word_on old later stays is = record {
    reference = is.reference;
    in_range = is.in_range;
    is = stays ∙ is.is;
    stands = may_on is.reference is.stands;
  }

  stands_on : (old later : ℕ) (v : Value) → later ≡ old → Stands maps old v → Stands maps later v
  stands_on old later v stays is = subst (λ w. Stands maps w v) (sym stays) is

  hold_on : (a : ℕ) → MayHold maps s a → MayHold maps t a
  hold_on a (inl nothing) = inl nothing
  hold_on a (inr holds) = inr (holds.0, fresh_on a holds.0 holds.1)

  -- slots and globals are those from before
  slot_same : (a n i : ℕ) (header : Header) → maps.address a ≡ Some n → HeaderAt s a header → i < header.shape.refs →
      t.word (a + 2 + i) ≡ s.word (a + 2 + i)
  slot_same a n i header named starts below =
      same.part a n (2 + i) (a + 2 + i) header (slot_part maps s a n i header named starts below) (omega arith)

  global_within : (g : ℕ) → g < t.base.globals → g < s.base.globals
  global_within g below = let globals : t.base.globals ≡ s.base.globals = same.sizes.globals in omega arith

  pub forward_within : (p : ℕ) → p < t.base.forwards → p < s.base.forwards
  forward_within p below = let count : t.base.forwards ≡ s.base.forwards = same.sizes.forwards in omega arith

  -- an object keeps its home where its home word stays, its home is forwarded as it was, and live scions stay
  pub home_word_on : (a cost : ℕ) → t.word (a + 1) ≡ s.word (a + 1) →
      ((home : ℕ) → Forwards s home a ↔ Forwards t home a) →
      ((k : ℕ) (x : Scion) → s.base.scion k ≡ Some x → t.base.scion k ≡ Some x) → IsHomeWord s a cost →
      IsHomeWord t a cost
  home_word_on a cost stays forwards live (inl none) = inl (stays ∙ none)
  home_word_on a cost stays forwards live (inr has) =
      let end : t.base.end ≡ s.base.end = same.homes.end in
      let within : has.0 + cost ≤ s.base.end = has.2.within in
      inr (
        has.0,
        has.1,
        record {
          in_range = has.2.in_range;
          is = stays ∙ has.2.is;
          within = omega arith;
          forwarded = (
            λ none. (forwards has.0).0 (has.2.forwarded.0 none),
            λ is. has.2.forwarded.1 ((forwards has.0).1 is),
          );
          live = λ some. live has.1 _ (has.2.live some);
        },
      )

  -- a scion stands where the home word of its object stays
  pub scion_on : (k : ℕ) (x : Scion) → t.word (x.address + 1) ≡ s.word (x.address + 1) → ScionStands maps s k x →
      ScionStands maps t k x
  scion_on k x stays is = record {
    first = is.first;
    small = is.small;
    named = is.named;
    home_word = stays ∙ is.home_word;
  }

  -- and so does a forwarding word
  pub forward_on : (word : ℕ) → ((home a : ℕ) → Sends word home a → ForwardStands maps s home a →
      t.word (a + 1) ≡ s.word (a + 1)) → ForwardMayStand maps s word → ForwardMayStand maps t word
  forward_on word stays (inl none) = inl none
  forward_on word stays (inr is) = inr (
    is.0,
    is.1,
    is.2,
    record {
      named = is.3.named;
      home_word = stays is.0 is.1 is.2 is.3 ∙ is.3.home_word;
      fresh = fresh_on is.1 is.3.named is.3.fresh;
    },
  )

  -- the words are well formed where home words, scions and forwarding words are
  pub words_on : NamesMatch maps t → FormedWords maps t
  words_on names =
      let size : t.base.size ≡ s.base.size = same.sizes.size in
      let end : t.base.end ≡ s.base.end = same.homes.end in
      let free : t.free ≡ s.free = same.free in
      record {
        small = let small : s.base.size < 1073741824 = formed.small in omega arith;
        first_end = let first : 1 ≤ s.base.end = formed.first_end in omega arith;
        small_end = let small : s.base.end ≤ 4294967296 = formed.small_end in omega arith;
        objects = λ a n named.
            let was = formed.objects a n named in
            let within : a + cost_of was.0.shape ≤ s.base.size + 1 = was.1.within in
            let below : a + cost_of was.0.shape ≤ s.free = was.1.below in (
              was.0,
              record {
                starts = header_moves t s a was.0 (header_same a n named) was.1.starts;
                first = was.1.first;
                within = omega arith;
                below = omega arith;
              },
            );
        apart = λ a b n m header first second starts less.
            formed.apart a b n m header first second (header_was a n header first starts) less;
        slots = λ a n i header named starts below.
            let was = header_was a n header named starts in
            word_on (s.word (a + 2 + i)) (t.word (a + 2 + i)) (slot_same a n i header named was below)
            (formed.slots a n i header named was below);
        home_words = names.home_words;
        globals = λ g below.
            word_on (s.global g) (t.global g) (same.global g) (formed.globals g (global_within g below));
        scions = names.scions;
        forwards = names.forwards;
        one_forward = names.one_forward;
      }

  -- and so are registers that stay
  pub registers_on : ((u r : ℕ) → t.register u r ≡ s.register u r) → ((u r : ℕ) → MayHold maps s (s.register u r)) →
      (u r : ℕ) → MayHold maps t (t.register u r)
  registers_on stay hold u r = subst (MayHold maps t) (sym (stay u r)) (hold_on (s.register u r) (hold u r))

  -- the homes are those from before
  reserved_same : (home : ℕ) (z : Shape) → IsReserved s.base.homes home z ↔ IsReserved t.base.homes home z
  reserved_same home z = (
    subst (λ (homes : List Home). IsReserved homes home z) (sym same.homes.homes),
    subst (λ (homes : List Home). IsReserved homes home z) same.homes.homes,
  )

  -- so a home that was reserved still is
  pub reserved_on : (home : ℕ) (z : Shape) → IsReserved s.base.homes home z → IsReserved t.base.homes home z
  reserved_on home z = (reserved_same home z).0

  -- the free homes are those from before
  pub was_free : (home : ℕ) → Contains t.base.free_homes home → Contains s.base.free_homes home
  was_free home = subst (λ (homes : List ℕ). Contains homes home) same.homes.free_homes

  -- and one that was taken
  taken_on : (home : ℕ) → IsTaken s.base home ↔ IsTaken t.base home
  taken_on home = (
    λ is. record {
      reserved_for = is.reserved_for;
      reserved = (reserved_same home is.reserved_for).0 is.reserved;
      not_free = λ free. is.not_free (was_free home free);
    },
    λ is. record {
      reserved_for = is.reserved_for;
      reserved = (reserved_same home is.reserved_for).1 is.reserved;
      not_free = λ free. is.not_free (subst (λ (homes : List ℕ). Contains homes home) (sym same.homes.free_homes) free);
    },
  )

  -- the state tells the history where records and home words do
  pub tells_on : (h : List Entry) → Tells h maps s → HomesTell h maps t → Tells h maps t
  tells_on h tells homes = record {
    one_address = tells.one_address;
    one_home = tells.one_home;
    homes_follow =
        subst (λ (hs : List Home). Follow 1 hs t.base.end) (sym same.homes.homes)
        (subst (λ (end : ℕ). Follow 1 s.base.homes end) (sym same.homes.end) tells.homes_follow);
    taken = λ home. (
      λ has. (taken_on home).0 ((tells.taken home).0 has),
      λ is. (tells.taken home).1 ((taken_on home).1 is),
    );
    free_homes = homes.free_homes;
    shapes = λ a n header named starts. tells.shapes a n header named (header_was a n header named starts);
    slots = λ a n i header named starts below.
        let was = header_was a n header named starts in
        stands_on (s.word (a + 2 + i)) (t.word (a + 2 + i)) (last h (Field n i))
        (slot_same a n i header named was below) (tells.slots a n i header named was below);
    numbers = λ a n j header named starts below.
        let was = header_was a n header named starts in
        let x : ℕ = a + 2 + header.shape.refs + j in
        ap Num (same.part a n (2 + header.shape.refs + j) x header (number_part maps s a n j header named was below)
        (omega arith))
        ∙ tells.numbers a n j header named was below;
    globals = λ g below.
        stands_on (s.global g) (t.global g) (last h (Global g)) (same.global g)
        (tells.globals g (global_within g below));
    homes = homes.homes;
    home_words = homes.home_words;
    named_homes = homes.named_homes;
    stubs = homes.stubs;
  }
