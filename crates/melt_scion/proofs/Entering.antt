-- A stretch outside all objects becomes an object.
use Rattle.std.proofs.Common.{◌≡◌, ◌≢◌, ℕ, ◌+◌, ◌<◌, ◌≤◌, refl, sym, ◌∙◌, ap, subst, arith, ◌⊎◌, inl, inr}
use Rattle.std.proofs.lemmas.Bool.Decides.{eqb_tells}
use Rattle.std.specs.Prelude.{◌↔◌, ◌^◌, Some, false}
use Rattle.melt_word.specs.Words.{IsShape, header_word, cost_of}
use Rattle.melt_word.specs.declared.header.Shape.{Shape}
use Rattle.melt_word.specs.declared.header.Header.{Header}
use Rattle.melt_forward.specs.Forwarding.{Sends}
use Rattle.melt_scion.specs.State.{Base, State, HeaderAt, ObjectAt, Forwards}
use Rattle.melt_scion.specs.Placed.{Maps, IsReferenceWord, IsHomeWord, ForwardMayStand, FormedWords}
use Rattle.melt_scion.specs.Regions.{Region, Owns}
use Rattle.melt_scion.specs.Changes.{NameAppears}
use Rattle.melt_scion.proofs.Geometry.{one_header, header_moves}
use Rattle.melt_scion.proofs.Keeping.{KeepsObjects, IsReferenceWord_stays}
use Rattle.melt_scion.proofs.Parts.{PartAt, head_part, home_part, slot_part, part_outside}
use Rattle.melt_scion.proofs.Frame.{ObjectAt_stays, home_word_stays, scions_stay}

-- the words for an object of the shape
abbrev pub stretch : ℕ → Shape → Region
stretch at z = record { at = at; words = cost_of z }

-- The stretch belonged to one thread, and has the header of a fresh object now. Nothing else has changed in words and
-- globals, and the objects of before are forwarded as they were.
pub record ObjectAppears (maps new : Maps) (s t : State) (at n : ℕ) (z : Shape) : Type 0 where
  pub owns : Owns maps s (stretch at z)
  pub named : NameAppears maps new at n
  pub base : t.base ≡ s.base
  pub free : s.free ≤ t.free
  pub small : IsShape z
  pub header : t.word at ≡ header_word (record { shape = z; stale = false })
  pub others : (k : ℕ) → (at ≤ k → k < at + cost_of z → ⊥) → t.word k ≡ s.word k
  pub global : (g : ℕ) → t.global g ≡ s.global g
  pub forwards : (home a m : ℕ) → maps.address a ≡ Some m → Forwards s home a ↔ Forwards t home a

-- the words of the new object may stand, and so may all forwarding words
pub record NewWords (new : Maps) (t : State) (at : ℕ) (z : Shape) : Type 0 where
  pub slots : (i : ℕ) → i < z.refs → IsReferenceWord new t (t.word (at + 2 + i))
  pub home_word : IsHomeWord t at (cost_of z)
  pub forwards : (p : ℕ) → p < t.base.forwards → ForwardMayStand new t (t.forward p)
  pub one_forward : (p q home a b : ℕ) → p < t.base.forwards → q < t.base.forwards → Sends (t.forward p) home a →
      Sends (t.forward q) home b → p ≡ q

module _ (maps new : Maps) (s t : State) (at n : ℕ) (z : Shape) (formed : FormedWords maps s)
    (appears : ObjectAppears maps new s t at n z) where
  abbrev new_header : Header
  new_header = record { shape = z; stale = false }

  -- the words of other objects stay
  pub old_part : (a m p x : ℕ) (h : Header) → PartAt maps s a m p x h → t.word x ≡ s.word x
  old_part a m p x h part =
      appears.others x (λ from below. part_outside maps s x appears.owns part from below refl)

  -- no object was at the address
  pub other_address : (a m : ℕ) → maps.address a ≡ Some m → a ≢ at
  other_address a m named =
      let object = formed.objects a m named in
      part_outside maps s at appears.owns (head_part maps s a m object.0 named object.1.starts) (omega arith)
      (omega arith)

  old_head : (a m : ℕ) → maps.address a ≡ Some m → t.word a ≡ s.word a
  old_head a m named =
      let object = formed.objects a m named in
      old_part a m 0 a object.0 (head_part maps s a m object.0 named object.1.starts)

  pub keeps_appears : KeepsObjects maps new s t
  keeps_appears = record {
    base = appears.base;
    ends = λ end below inside. let more : s.free ≤ t.free = appears.free in omega arith;
    names = λ a m named. appears.named.others a (other_address a m named) ∙ named;
    homes = appears.named.home;
    was = λ a m header named starts.
        (header, header_moves s t a header (sym (old_head a m named)) starts, refl, λ fresh. fresh);
    now = λ a m header named starts. (header, header_moves t s a header (old_head a m named) starts, refl);
    home_word = λ a m named.
        let object = formed.objects a m named in
        old_part a m 1 (a + 1) object.0 (home_part maps s a m object.0 named object.1.starts);
    forwards = appears.forwards;
  }

  -- a name is the new one, or one of before
  pub name_cases : (a m : ℕ) → new.address a ≡ Some m → ((a ≡ at) × (m ≡ n)) ⊎ (maps.address a ≡ Some m)
  name_cases a m named = elim (eqb_tells a at) [
    | inl same ↦ inl (
      same.1,
      (let e : Some m ≡ Some n = sym named ∙ (ap new.address same.1 ∙ appears.named.here) in cc),
    )
    | inr other ↦ inr (sym (appears.named.others a other.1) ∙ named)
  ]

  new_starts : HeaderAt t at new_header
  new_starts = record { in_range = appears.small; word = appears.header }

  -- the shape of the new object
  pub new_shape : (a : ℕ) (h : Header) → a ≡ at → HeaderAt t a h → h.shape ≡ z
  new_shape a h here starts =
      ap (λ (x : Header). x.shape)
      (one_header t at h new_header (subst (λ (c : ℕ). HeaderAt t c h) here starts) new_starts)

  pub header_was : (a m : ℕ) (h : Header) → maps.address a ≡ Some m → HeaderAt t a h → HeaderAt s a h
  header_was a m h named starts = header_moves s t a h (sym (old_head a m named)) starts

  new_object : (a : ℕ) → a ≡ at → (h : Header) × ObjectAt t a h
  new_object a here =
      let object : (h : Header) × ObjectAt t at h = (
        new_header,
        record {
          starts = new_starts;
          first = appears.owns.first;
          within = subst (λ (b : Base). at + cost_of z ≤ b.size + 1) (sym appears.base) appears.owns.within;
          below = let was : at + cost_of z ≤ s.free = appears.owns.below in let more : s.free ≤ t.free = appears.free in
              omega arith;
        },
      ) in
      subst (λ (c : ℕ). (h : Header) × ObjectAt t c h) (sym here) object

  new_apart : (a b m k : ℕ) (h : Header) → new.address a ≡ Some m → new.address b ≡ Some k → HeaderAt t a h → a < b →
      a + cost_of h.shape ≤ b
  new_apart a b m k h named_a named_b starts less = elim (name_cases a m named_a) [
    | inl new_a ↦ elim (name_cases b k named_b) [
      | inl new_b ↦ absurd (let x : a ≡ at = new_a.0 in let y : b ≡ at = new_b.0 in omega arith)
      | inr old_b ↦
          let object = formed.objects b k old_b in
          let apart = appears.owns.outside b k object.0 old_b object.1.starts in
          let after : at < b → at + cost_of z ≤ b = apart.after in
          let cost : cost_of h.shape ≡ cost_of z = ap cost_of (new_shape a h new_a.0 starts) in
          let x : a ≡ at = new_a.0 in
          let ends : at + cost_of z ≤ b = after (omega arith) in
          omega arith
    ]
    | inr old_a ↦
        let was : HeaderAt s a h = header_was a m h old_a starts in
        elim (name_cases b k named_b) [
          | inl new_b ↦
              let before : a < at → a + cost_of h.shape ≤ at = (appears.owns.outside a m h old_a was).before in
              let y : b ≡ at = new_b.0 in
              let ends : a + cost_of h.shape ≤ at = before (omega arith) in
              omega arith
          | inr old_b ↦ formed.apart a b m k h old_a old_b was less
        ]
  ]

  -- the words with one object more are well formed
  pub Formed_enters : NewWords new t at z → FormedWords new t
  Formed_enters words = record {
    small = subst (λ (b : Base). b.size < 2 ^ 30) (sym appears.base) formed.small;
    first_end = subst (λ (b : Base). 1 ≤ b.end) (sym appears.base) formed.first_end;
    small_end = subst (λ (b : Base). b.end ≤ 2 ^ 32) (sym appears.base) formed.small_end;
    objects = λ a m named. elim (name_cases a m named) [
      | inl here ↦ new_object a here.0
      | inr old ↦ let was = formed.objects a m old in ObjectAt_stays maps new s t keeps_appears a m was.0 old was.1
    ];
    apart = new_apart;
    slots = λ a m i h named starts below. elim (name_cases a m named) [
      | inl here ↦
          let refs : h.shape.refs ≡ z.refs = ap (λ (x : Shape). x.refs) (new_shape a h here.0 starts) in
          subst (λ (c : ℕ). IsReferenceWord new t (t.word (c + 2 + i))) (sym here.0) (words.slots i (omega arith))
      | inr old ↦
          let was : HeaderAt s a h = header_was a m h old starts in
          subst (IsReferenceWord new t)
          (sym (old_part a m (2 + i) (a + 2 + i) h (slot_part maps s a m i h old was below)))
          (IsReferenceWord_stays maps new s t keeps_appears (s.word (a + 2 + i)) (formed.slots a m i h old was below))
    ];
    home_words = λ a m h named starts. elim (name_cases a m named) [
      | inl here ↦
          subst (λ (c : ℕ). IsHomeWord t c (cost_of h.shape)) (sym here.0)
          (subst (λ (y : Shape). IsHomeWord t at (cost_of y)) (sym (new_shape a h here.0 starts)) words.home_word)
      | inr old ↦ home_word_stays maps new s t keeps_appears a m h formed old starts
    ];
    globals = λ g below.
        subst (IsReferenceWord new t) (sym (appears.global g))
        (IsReferenceWord_stays maps new s t keeps_appears (s.global g)
        (formed.globals g (subst (λ (b : Base). g < b.globals) appears.base below)));
    scions = scions_stay maps new s t keeps_appears formed;
    forwards = words.forwards;
    one_forward = words.one_forward;
  }
