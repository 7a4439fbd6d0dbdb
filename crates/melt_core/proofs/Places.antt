-- A slot of an object or a global is replaced.
use Rattle.std.proofs.Common.{◌≡◌, ℕ, zero, suc, ◌+◌, ◌*◌, ◌<◌, ◌≤◌, refl, sym, ◌∙◌, ap, subst, arith, inl, inr, List}
use Rattle.std.specs.Prelude.{◌^◌, Option, None, Some, IsSomeAnd}
use Rattle.std.specs.Option.{option_map}
use Rattle.melt_model.specs.History as model
use Rattle.melt_model.specs.History.{shape, made, last, IsSlot, IsReference, CanHold}
use Rattle.melt_model.specs.declared.history.Entry.{Entry}
use Rattle.melt_model.specs.declared.history.Value.{Value}
use Rattle.melt_model.specs.declared.history.Value.TheVariants.{Nil, Ref}
use Rattle.melt_model.specs.declared.history.Slot.{Slot}
use Rattle.melt_word.specs.Words.{IsRef, IsAddress, ref_word, cost_of}
use Rattle.melt_word.specs.declared.header.Shape.{Shape}
use Rattle.melt_word.specs.declared.reference.Ref as words
use Rattle.melt_word.specs.declared.reference.Ref.TheVariants.{Clean}
use Rattle.melt_word.proofs.OneToOne.{same_ref}
use Rattle.melt_scion.specs.State.{State, IsFresh, NoGaps}
use Rattle.melt_scion.specs.Placed.{Maps, IsNamed, IsReferenceWord, MayHold, value_of, value_at, Stands, FormedWords}
use Rattle.melt_scion.specs.Placed.{Tells}
use Rattle.melt_scion.proofs.Keeping.{NoGaps_stays}
use Rattle.melt_scion.proofs.Following.{ValueChanges}
use Rattle.melt_scion.proofs.Writing.{Formed_slot, Tells_slot, Formed_global, Tells_global}
use Rattle.melt_scion.proofs.Making.{null_may, null_stands, named_made}
use Rattle.melt_core.specs.declared.call.Place.{Place}
use Rattle.melt_core.specs.declared.call.Place.TheVariants.{Field, Global}
use Rattle.melt_core.specs.Known.{word_in, IsPlace, SlotAt}
use Rattle.melt_core.specs.Events.{PlaceChanges}

-- an object of a shape has slots below that shape's
below_refs : (i : ℕ) (z w : Shape) → z ≡ w → i < w.refs → i < z.refs
below_refs i z w same below = let e : z.refs ≡ w.refs = ap (λ (x : Shape). x.refs) same in omega arith

-- the address of an object is in range
named_in_range : (maps : Maps) (s : State) (a : ℕ) → FormedWords maps s → IsNamed maps a → IsAddress a
named_in_range maps s a formed named =
    let object = formed.objects a named.0 named.1 in
    let within : a + cost_of object.0.shape ≤ s.base.size + 1 = object.1.within in
    let first : 1 ≤ a = object.1.first in
    let small : s.base.size < 2 ^ 30 = formed.small in
    record { not_null = omega arith; small = omega arith }

-- the word of an object without the stale bit may stand
pub clean_may : (maps : Maps) (s : State) (a : ℕ) → FormedWords maps s → IsNamed maps a → IsFresh s a →
    IsReferenceWord maps s (4 * a)
clean_may maps s a formed named fresh = record {
  reference = Clean a;
  in_range = named_in_range maps s a formed named;
  is = refl;
  stands = (named, fresh);
}

-- what a register holds may stand
pub held_may : (maps : Maps) (s : State) (a : ℕ) → FormedWords maps s → MayHold maps s a →
    IsReferenceWord maps s (4 * a)
held_may maps s a formed (inl nothing) = null_may maps s (4 * a) (omega arith)
held_may maps s a formed (inr holds) = clean_may maps s a formed holds.0 holds.1

-- it stands for its value
pub held_stands : (maps : Maps) (s : State) (a : ℕ) (v : Value) → FormedWords maps s → MayHold maps s a →
    value_at maps a ≡ Some v → Stands maps (4 * a) v
held_stands maps s zero v formed may is = subst (Stands maps 0) (let e : Nil ≡ v = cc in e) (null_stands maps 0 refl)
held_stands maps s (suc a) v formed (inl nothing) is = absurd (omega arith)
held_stands maps s (suc a) v formed (inr holds) is = record {
  reference = Clean (suc a);
  in_range = named_in_range maps s (suc a) formed holds.0;
  is = refl;
  stands_for = is;
}

-- the clean address stands for the value of the reference that was there
pub untagged_stands : (maps : Maps) (s : State) (word target : ℕ) (found : words.Ref) (v : Value) → FormedWords maps s →
    IsNamed maps target → IsRef found → word ≡ ref_word found → value_of maps found ≡ value_of maps
    (Clean target) → Stands maps word v →
    Stands maps (ref_word (Clean target)) v
untagged_stands maps s word target found v formed named range is same stands =
    let one : found ≡ stands.reference = same_ref found stands.reference range stands.in_range (sym is ∙ stands.is) in
    record {
      reference = Clean target;
      in_range = named_in_range maps s target formed named;
      is = refl;
      stands_for = sym same ∙ (ap (value_of maps) one ∙ stands.stands_for);
    }

-- the word at a place stands for the last value of its slot
pub place_stands : (h : List Entry) (maps : Maps) (s : State) (place : Place) (at : Slot) → Tells h maps s →
    IsPlace maps s place → SlotAt maps place at → Stands maps (word_in s place) (last h at)
place_stands h maps s (Field object i) at tells is where_at =
    let o = is.1 in
    subst (λ (x : Slot). Stands maps (s.word (object + 2 + i)) (last h x)) (sym where_at.2)
    (tells.slots object where_at.0 i o.header where_at.1 o.starts (below_refs i o.header.shape is.0 o.shape_is is.2))
place_stands h maps s (Global g) at tells is where_at =
    subst (λ (x : Slot). Stands maps (s.global g) (last h x)) (sym where_at) (tells.globals g is)

-- and so does the reference that is found there
pub found_stands : (h : List Entry) (maps : Maps) (s : State) (place : Place) (at : Slot) (r : words.Ref) →
    Tells h maps s → IsPlace maps s place → SlotAt maps place at → IsRef r → word_in s place ≡ ref_word r →
    value_of maps r ≡ Some (last h at)
found_stands h maps s place at r tells is where_at range found =
    let stands = place_stands h maps s place at tells is where_at in
    subst (λ (x : words.Ref). value_of maps x ≡ Some (last h at))
    (same_ref stands.reference r stands.in_range range (sym stands.is ∙ found)) stands.stands_for

-- the slot of a place is one
pub place_is_slot : (h : List Entry) (maps : Maps) (s : State) (place : Place) (at : Slot) → Tells h maps s →
    IsPlace maps s place → SlotAt maps place at → IsSlot h s.base.globals at
place_is_slot h maps s (Field object i) at tells is where_at =
    let o = is.1 in
    let below : i < o.header.shape.refs = below_refs i o.header.shape is.0 o.shape_is is.2 in
    subst (IsSlot h s.base.globals) (sym where_at.2)
    (subst (λ (z : Option model.Shape). IsSomeAnd z (λ y. i < y.refs))
    (sym (tells.shapes object where_at.0 o.header where_at.1 o.starts)) below)
place_is_slot h maps s (Global g) at tells is where_at = subst (IsSlot h s.base.globals) (sym where_at) is

-- what a register holds was made
held_is_reference : (h : List Entry) (maps : Maps) (s : State) (a : ℕ) (v : Value) → FormedWords maps s →
    Tells h maps s → value_at maps a ≡ Some v → IsReference h v
held_is_reference h maps s zero v formed tells is = subst (IsReference h) (let e : Nil ≡ v = cc in e) tt
held_is_reference h maps s (suc a) v formed tells is =
    named_is_reference (maps.address (suc a)) is (λ n named. named_made h maps s (suc a) n formed tells named)
  where
    named_is_reference : (name : Option ℕ) → option_map Ref name ≡ Some v → ((n : ℕ) → name ≡ Some n → n < made h) →
        IsReference h v
    named_is_reference None is below = absurd (cc)
    named_is_reference (Some n) is below = subst (IsReference h) (let e : Ref n ≡ v = cc in e) (below n refl)

-- and may be written to the slot of a place
pub place_can_hold : {h : List Entry} {maps : Maps} {s : State} (place : Place) (at : Slot) (a : ℕ) {v : Value}
    → FormedWords maps s → Tells h maps s → SlotAt maps place at → value_at maps a ≡ Some v → CanHold h at v
place_can_hold {h} {maps} {s} (Field object i) at a {v} formed tells where_at is =
    subst (λ (x : Slot). CanHold h x v) (sym where_at.2) (held_is_reference h maps s a v formed tells is)
place_can_hold {h} {maps} {s} (Global g) at a {v} formed tells where_at is =
    subst (λ (x : Slot). CanHold h x v) (sym where_at) (held_is_reference h maps s a v formed tells is)

-- the words stay well formed
pub Formed_place : (maps : Maps) (s t : State) (place : Place) (word : ℕ) → FormedWords maps s →
    IsPlace maps s place → PlaceChanges s t place word → IsReferenceWord maps s word → FormedWords maps t
Formed_place maps s t (Field object i) word formed is changes may =
    let o = is.1 in
    Formed_slot maps s t object o.number i word o.header formed o.named o.starts
    (below_refs i o.header.shape is.0 o.shape_is is.2) changes may
Formed_place maps s t (Global g) word formed is changes may = Formed_global maps s t g word changes formed may

-- what no event changes stays
pub place_base : (s t : State) (place : Place) (word : ℕ) → PlaceChanges s t place word → t.base ≡ s.base
place_base s t (Field object i) word changes = changes.base
place_base s t (Global g) word changes = changes.base

-- a search for a home ends at the first empty forwarding word, as before
pub NoGaps_place : (s t : State) (place : Place) (word : ℕ) → PlaceChanges s t place word → NoGaps s → NoGaps t
NoGaps_place s t (Field object i) word changes gaps = NoGaps_stays s t changes.base changes.forward gaps
NoGaps_place s t (Global g) word changes gaps = NoGaps_stays s t changes.base changes.forward gaps

-- the words tell the later history
pub Tells_place : {before after : List Entry} {maps : Maps} {s : State} (t : State) (place : Place) {at : Slot}
    {word : ℕ} {v : Value} → FormedWords maps s → IsPlace maps s place → SlotAt maps place at
    → PlaceChanges s t place word → ValueChanges before after at v → Stands maps word v → Tells before maps s
    → Tells after maps t
Tells_place {before} {after} {maps} {s} t (Field object i) {word} {v} formed is where_at changes values stands tells =
    let o = is.1 in
    Tells_slot maps s t object where_at.0 i word o.header formed where_at.1 o.starts
    (below_refs i o.header.shape is.0 o.shape_is is.2) changes before after v
    (subst (λ (x : Slot). ValueChanges before after x v) where_at.2 values) stands tells
Tells_place {before} {after} {maps} {s} t (Global g) {word} {v} formed is where_at changes values stands tells =
    Tells_global maps s t g word changes before after v
    (subst (λ (x : Slot). ValueChanges before after x v) where_at values) stands tells
