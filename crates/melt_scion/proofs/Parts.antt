-- The parts of an object, each with its place after the header.
use Rattle.std.proofs.Common.{◌≡◌, ◌≢◌, ℕ, ◌+◌, ◌<◌, ◌≤◌, ap, arith, inl, inr}
use Rattle.std.specs.Prelude.{Some}
use Rattle.melt_word.specs.Words.{cost_of}
use Rattle.melt_word.specs.declared.header.Header.{Header}
use Rattle.melt_scion.specs.State.{State, HeaderAt}
use Rattle.melt_scion.specs.Placed.{Maps, FormedWords}
use Rattle.melt_scion.specs.Regions.{Region, Owns}
use Rattle.melt_scion.proofs.Geometry.{one_part}

-- the word x is the place p of the object n at a, which has this header
pub record PartAt (maps : Maps) (s : State) (a n p x : ℕ) (h : Header) : Type 0 where
  pub named : maps.address a ≡ Some n
  pub starts : HeaderAt s a h
  pub within : p < cost_of h.shape
  pub is : x ≡ a + p

module _ (maps : Maps) (s : State) where
  -- the first word of an object
  pub head_part : (a n : ℕ) (h : Header) → maps.address a ≡ Some n → HeaderAt s a h → PartAt maps s a n 0 a h
  head_part a n h named starts = record { named = named; starts = starts; within = omega arith; is = omega arith }

  -- its home word
  pub home_part : (a n : ℕ) (h : Header) → maps.address a ≡ Some n → HeaderAt s a h → PartAt maps s a n 1 (a + 1) h
  home_part a n h named starts = record { named = named; starts = starts; within = omega arith; is = omega arith }

  -- one of its slots
  pub slot_part : (a n i : ℕ) (h : Header) → maps.address a ≡ Some n → HeaderAt s a h → i < h.shape.refs →
      PartAt maps s a n (2 + i) (a + 2 + i) h
  slot_part a n i h named starts below =
      record { named = named; starts = starts; within = omega arith; is = omega arith }

  -- one of its number words
  pub number_part : (a n j : ℕ) (h : Header) → maps.address a ≡ Some n → HeaderAt s a h → j < h.shape.nums →
      PartAt maps s a n (2 + h.shape.refs + j) (a + 2 + h.shape.refs + j) h
  number_part a n j h named starts below =
      record { named = named; starts = starts; within = omega arith; is = omega arith }

  -- parts at different places are different words
  pub parts_differ : {a b n m p q x y : ℕ} {h k : Header} → FormedWords maps s → PartAt maps s a n p x h
      → PartAt maps s b m q y k → q ≢ p → y ≢ x
  parts_differ {p} {q} formed this that differ =
      elim (one_part p q formed this.named that.named this.starts that.starts this.within that.within this.is that.is) [
        | inl same ↦ absurd (differ same.2)
        | inr other ↦ other
      ]

  -- two slots at one word are one slot
  pub same_slot : {a b n m : ℕ} (i j : ℕ) {h k : Header} → FormedWords maps s → PartAt maps s a n (2 + i) (a + 2 + i) h
      → PartAt maps s b m (2 + j) (b + 2 + j) k → b + 2 + j ≡ a + 2 + i → (m ≡ n) × (j ≡ i)
  same_slot i j formed this that same =
      elim (one_part (2 + i) (2 + j) formed this.named that.named this.starts that.starts this.within that.within
      this.is that.is) [
        | inl one ↦ (one.3, (let e : 2 + j ≡ 2 + i = one.2 in omega arith))
        | inr other ↦ absurd (other same)
      ]

  -- two number words at one word are one
  pub same_number : {a b n m : ℕ} (i j : ℕ) {h k : Header} → FormedWords maps s
      → PartAt maps s a n (2 + h.shape.refs + i) (a + 2 + h.shape.refs + i) h
      → PartAt maps s b m (2 + k.shape.refs + j) (b + 2 + k.shape.refs + j) k
      → b + 2 + k.shape.refs + j ≡ a + 2 + h.shape.refs + i → (m ≡ n) × (j ≡ i)
  same_number i j {h} {k} formed this that same =
      elim (one_part (2 + h.shape.refs + i) (2 + k.shape.refs + j) formed this.named that.named this.starts that.starts
      this.within that.within this.is that.is) [
        | inl one ↦ (
          one.3,
          (let e : 2 + k.shape.refs + j ≡ 2 + h.shape.refs + i = one.2 in
              let z : k.shape.refs ≡ h.shape.refs = ap (λ (x : Header). x.shape.refs) one.1 in omega arith),
        )
        | inr other ↦ absurd (other same)
      ]

  -- no word is a slot and a number word
  pub slot_or_number : {a b n m : ℕ} (i j : ℕ) {h k : Header} → FormedWords maps s
      → PartAt maps s a n (2 + i) (a + 2 + i) h → PartAt maps s b m (2 + k.shape.refs + j) (b + 2 + k.shape.refs + j) k
      → i < h.shape.refs → b + 2 + k.shape.refs + j ≢ a + 2 + i
  slot_or_number i j {h} {k} formed this that below =
      elim (one_part (2 + i) (2 + k.shape.refs + j) formed this.named that.named this.starts that.starts this.within
      that.within this.is that.is) [
        | inl one ↦ absurd (let e : 2 + k.shape.refs + j ≡ 2 + i = one.2 in let z : k.shape.refs ≡ h.shape.refs =
            ap (λ (x : Header). x.shape.refs) one.1 in omega arith)
        | inr other ↦ other
      ]

  outside_word : (a p : ℕ) {x : ℕ} (y ca b cb : ℕ) → (a < b → a + ca ≤ b) → (b < a → b + cb ≤ a)
      → (0 < ca → 0 < cb → a ≢ b) → p < ca → x ≡ a + p → b ≤ y → y < b + cb → x ≢ y
  outside_word a p y ca b cb up down differ in_a is from below = λ same. grind arith

  -- no word of an object lies in a region of a thread
  pub part_outside : {r : Region} {a n p x : ℕ} (y : ℕ) {h : Header} → Owns maps s r → PartAt maps s a n p x h
      → r.at ≤ y → y < r.at + r.words → x ≢ y
  part_outside {r} {a} {n} {p} y {h} owns part from below =
      let apart = owns.outside a n h part.named part.starts in
      outside_word a p y (cost_of h.shape) r.at r.words apart.before apart.after apart.differ part.within part.is from
      below
