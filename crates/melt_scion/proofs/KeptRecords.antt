-- A record on disk stays what it is where its words do, even if the end moves on and more homes have names.
use Rattle.std.proofs.Common.{◌≡◌, ℕ, ◌+◌, ◌*◌, ◌<◌, ◌≤◌, sym, ◌∙◌, ap, subst, arith, ◌⊎◌, inl, inr, List}
use Rattle.std.specs.Prelude.{Some}
use Rattle.melt_model.specs.History.{last}
use Rattle.melt_model.specs.declared.history.Entry.{Entry}
use Rattle.melt_model.specs.declared.history.Value.{Value}
use Rattle.melt_model.specs.declared.history.Value.TheVariants.{Num}
use Rattle.melt_model.specs.declared.history.Slot.TheVariants.{Field}
use Rattle.melt_word.specs.Words.{IsRef, ref_word, cost_of}
use Rattle.melt_word.specs.declared.header.Shape.{Shape}
use Rattle.melt_word.specs.declared.reference.Ref.{Ref}
use Rattle.melt_word.specs.declared.reference.Ref.TheVariants.{Null, Clean, Stale, Disk}
use Rattle.melt_record.specs.declared.head.Head.{Head}
use Rattle.melt_record.specs.declared.head.Kind.TheVariants.{Stub}
use Rattle.melt_record.specs.Records.{IsSlotWord, IsSecondWord}
use Rattle.melt_scion.specs.State.{Base, Scion, State, Forwards, IsReserved}
use Rattle.melt_scion.specs.Placed.{Maps, Stands, value_of, HeadIs, IsBody, IsStub, IsForwarded, IsFreeHome}
use Rattle.melt_scion.proofs.Keeping.{named_value}
use Rattle.melt_scion.proofs.Homes.{IsNowhere}

-- what stands at a home with a name is one of the three
abbrev pub IsOneOfThree : List Entry → Maps → State → ℕ → ℕ → Shape → Type 0
IsOneOfThree h maps s home n z =
    IsBody h maps s.base home n z ⊎ (IsStub maps s.base home n z ⊎ IsForwarded maps s home n)

-- the home of an object has the record of a Stub of this scion
abbrev pub HasStub : Maps → Base → ℕ → ℕ → Type 0
HasStub maps b scion home =
    (n : ℕ) × (z : Shape) × (maps.home home ≡ Some n) × HeadIs b home (record { shape = z; kind = Stub scion })

-- each home keeps its name
abbrev pub KeepsHomes : Maps → Maps → Type 0
KeepsHomes maps new = (home n : ℕ) → maps.home home ≡ Some n → new.home home ≡ Some n

-- the words of the record of this shape stay, and the end does not come nearer
pub record KeepsRecord (b c : Base) (home : ℕ) (z : Shape) : Type 0 where
  pub end : b.end ≤ c.end
  pub words : (j : ℕ) → j < cost_of z → c.image (home + j) ≡ b.image (home + j)

-- a slot word before an end lies before all later ones
pub slot_word_kept : (end later word : ℕ) → end ≤ later → IsSlotWord end word → IsSlotWord later word
slot_word_kept end later word up (inl none) = inl none
slot_word_kept end later word up (inr is) =
    let below : is.0 < end = is.2 in
    inr (is.0, is.1, omega arith, is.3)

-- the reference of a slot word has no address
slot_value_kept : (maps new : Maps) (end : ℕ) (r : Ref) (v : Value) → KeepsHomes maps new → IsRef r →
    IsSlotWord end (ref_word r) → value_of maps r ≡ Some v → value_of new r ≡ Some v
slot_value_kept maps new end Null v homes range slot is = is
slot_value_kept maps new end (Clean a) v homes range slot is =
    let first : 0 < a = range.not_null in
    absurd (elim slot [ inl none ↦ omega arith | inr some ↦ let e : 4 * a ≡ 4 * some.0 + 3 = some.3 in omega arith ])
slot_value_kept maps new end (Stale a) v homes range slot is =
    absurd (elim slot [
      | inl none ↦ omega arith
      | inr some ↦ let e : 4 * a + 1 ≡ 4 * some.0 + 3 = some.3 in omega arith
    ])
slot_value_kept maps new end (Disk home) v homes range slot is =
    named_value (maps.home home) (new.home home) v (λ n e. homes home n e) is

-- a slot word stands for what it stood for
pub slot_stands_kept : (maps new : Maps) (end word : ℕ) (v : Value) → KeepsHomes maps new → IsSlotWord end word →
    Stands maps word v → Stands new word v
slot_stands_kept maps new end word v homes slot stands = record {
  reference = stands.reference;
  in_range = stands.in_range;
  is = stands.is;
  stands_for = slot_value_kept maps new end stands.reference v homes stands.in_range
      (subst (IsSlotWord end) stands.is slot) stands.stands_for;
}

module _ (b c : Base) (home : ℕ) (z : Shape) (keeps : KeepsRecord b c home z) where
  -- its first word
  first_kept : c.image home ≡ b.image home
  first_kept =
      let e : home + 0 ≡ home = omega arith in
      ap c.image (sym e) ∙ (keeps.words 0 (omega arith) ∙ ap b.image e)

  -- a head stays
  pub head_kept : (head : Head) → HeadIs b home head → HeadIs c home head
  head_kept head is = record {
    first_word =
        let within : home + cost_of head.shape ≤ b.end = is.first_word.within in
        let up : b.end ≤ c.end = keeps.end in
        record {
          in_range = is.first_word.in_range;
          within = omega arith;
          spelled = first_kept ∙ is.first_word.spelled;
        };
    second_word =
        subst (λ w. IsSecondWord w head.kind) (sym (keeps.words 1 (omega arith))) is.second_word;
  }

  -- and so does a word after it
  pub part_kept : (i : ℕ) → i < z.refs + z.nums → c.image (home + 2 + i) ≡ b.image (home + 2 + i)
  part_kept i below =
      let e : home + (2 + i) ≡ home + 2 + i = omega arith in
      ap c.image (sym e) ∙ (keeps.words (2 + i) (omega arith) ∙ ap b.image e)

  -- which is a number word
  number_kept : (j : ℕ) → j < z.nums → c.image (home + 2 + z.refs + j) ≡ b.image (home + 2 + z.refs + j)
  number_kept j below =
      let e : home + 2 + (z.refs + j) ≡ home + 2 + z.refs + j = omega arith in
      ap c.image (sym e) ∙ (part_kept (z.refs + j) (omega arith) ∙ ap b.image e)

  -- a Body stays where its object gets no address
  pub body_kept : (h : List Entry) (maps new : Maps) (n : ℕ) → KeepsHomes maps new →
      (IsNowhere maps n → IsNowhere new n) → IsBody h maps b home n z → IsBody h new c home n z
  body_kept h maps new n homes nowhere body = record {
    nowhere = nowhere body.nowhere;
    head = head_kept _ body.head;
    slots = λ i below.
        subst (λ w. Stands new w (last h (Field n i))) (sym (part_kept i (omega arith)))
        (slot_stands_kept maps new b.end (b.image (home + 2 + i)) (last h (Field n i)) homes (body.are_slots i below)
        (body.slots i below));
    are_slots = λ i below.
        subst (IsSlotWord c.end) (sym (part_kept i (omega arith)))
        (slot_word_kept b.end c.end (b.image (home + 2 + i)) keeps.end (body.are_slots i below));
    numbers = λ j below. ap Num (number_kept j below) ∙ body.numbers j below;
  }

-- a free home stays one where the words of its record do
pub free_home_kept : (b c : Base) (home : ℕ) (is : IsFreeHome b home) →
    IsReserved c.homes home is.reserved_for → KeepsRecord b c home is.reserved_for → IsFreeHome c home
free_home_kept b c home is reserved keeps = record {
  reserved_for = is.reserved_for;
  reserved = reserved;
  head = is.head;
  stands = head_kept b c home is.reserved_for keeps is.head is.stands;
  cost = is.cost;
}

module _ (h : List Entry) (maps : Maps) (s t : State) (live : (k : ℕ) (x : Scion) → s.base.scion k ≡ Some x →
    t.base.scion k ≡ Some x) where
  -- where objects keep their names and live scions stay, so does what stands at a home whose record stays
  pub three_kept : (home n : ℕ) (z : Shape) → KeepsRecord s.base t.base home z →
      ((a : ℕ) → maps.address a ≡ Some n → Forwards s home a → Forwards t home a) →
      IsOneOfThree h maps s home n z → IsOneOfThree h maps t home n z
  three_kept home n z keeps forwards (inl body) =
      inl (body_kept s.base t.base home z keeps h maps maps n (λ k m is. is) (λ none. none) body)
  three_kept home n z keeps forwards (inr (inl stub)) = inr (inl (record {
    scion = stub.scion;
    address = stub.address;
    head = head_kept s.base t.base home z keeps _ stub.head;
    live = live stub.scion _ stub.live;
    named = stub.named;
  }))
  three_kept home n z keeps forwards (inr (inr forwarded)) = inr (inr (record {
    address = forwarded.address;
    forwards = forwards forwarded.address forwarded.named forwarded.forwards;
    named = forwarded.named;
  }))
