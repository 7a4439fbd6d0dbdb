-- A store into a slot, a global or a number word keeps the rule: one word changes, and the history has its entry.
use Rattle.std.proofs.Common.{◌≡◌, ℕ, zero, suc, ◌*◌, ◌<◌, ◌≤◌, List, refl, sym, ◌∙◌, ap, subst}
use Rattle.std.proofs.Common.{arith, inl, inr, false}
use Rattle.std.specs.Prelude.{None, Some}
use Rattle.std.specs.Option.{option_map}
use Rattle.std.proofs.lemmas.Option.{same_Some}
use Rattle.melt_model.specs.History.{given}
use lib.ListN.{get_elem?}
use mathlib.Core.Option.{some}
use Rattle.melt_model.specs.declared.history.Act.{Act}
use Rattle.melt_model.specs.declared.history.Act.TheVariants.{Write}
use Rattle.melt_model.specs.declared.history.Slot.{Slot}
use Rattle.melt_model.specs.declared.history.Slot.TheVariants as slot
use Rattle.melt_model.specs.declared.history.Value.{Value}
use Rattle.melt_model.specs.declared.history.Value.TheVariants.{Ref, Num}
use Rattle.melt_word.specs.declared.header.Shape.{Shape}
use Rattle.melt_scion.specs.Changes.{WordChanges}
use Rattle.melt_scion.specs.Placed.{Maps, MayHold, value_at}
use Rattle.melt_scion.specs.Regions.{no_region}
use Rattle.melt_scion.specs.State.{State}
use Rattle.melt_core.specs.Answering.{with_entry}
use Rattle.melt_core.specs.Events.{Event, PlaceChanges, IsNumberWord, number_place}
use Rattle.melt_core.specs.Events.Event.{writes_place, writes_number}
use Rattle.melt_core.specs.Known.{IsPlace, SlotAt}
use Rattle.melt_core.specs.declared.call.Place.{Place}
use Rattle.melt_rule.proofs.Keeping.{IsStep, adds, keeps_bits}
use Rattle.melt_rule.proofs.Leaving.{OnlyObjects, leaves_none}
use Rattle.melt_rule.specs.Rule.{SeatStands, Kept, is_lacking, is_reading}
use Rattle.melt_rule.specs.Shown.{shows}
use Rattle.melt_rule.specs.Tells.{view_after, Names, Ends}
use Rattle.melt_rule.specs.declared.began.Start.{Start}
use Rattle.melt_rule.specs.declared.view.View.{View}

-- the address of an object in a register stands for the object
held_value : (maps : Maps) (held n : ℕ) → 1 ≤ held → maps.address held ≡ Some n → value_at maps held ≡ Some (Ref n)
held_value maps zero n first named = absurd (omega arith)
held_value maps (suc a) n first named = ap (option_map Ref) named

module _ (start : Start) (words after : List ℕ) (views : List View) (kept : Kept start words views) (id : ℕ) (v : View)
    (at : get_elem? views id ≡ some v) (live : 0 < v.parts) (goes_on : is_lacking v.doing ≡ false)
    (only : OnlyObjects start words after) where
  abbrev old : State
  old = shows start.began words

  abbrev new : State
  new = shows start.began after

  stood : SeatStands start.began kept.maps old kept.history v
  stood = kept.seats id v at live

  -- the view after a store
  abbrev pub wrote : Act → View
  wrote act = view_after v (with_entry v.thread kept.history (Some act)) v.known None

  ends : (act : Act) → is_reading v.doing ≡ false → ((n : ℕ) → given kept.history act ≡ Some (Ref n) → ⊥)
      → Event start.began.told kept.history kept.maps kept.maps old new no_region 0 (Some act)
      → IsStep start words after views kept id v at live (wrote act) × Ends v (wrote act) act
  ends act left none event =
      let w : View = wrote act in
      let step =
      leaves_none start words after views kept id v at live goes_on only 0 (Some act) None event (inr refl) tt
      (keeps_bits start words after views kept id v at live (Some act) v.known None (inl refl) (inl left) (λ n gives.
      absurd (none n (ap (given kept.history) (same_Some act gives.0 gives.1) ∙ gives.2)))) in
      (step.0, record { adds = adds start words after views kept id v at live w step.0 act step.1; is = refl })

  -- an address that is known, or none, is one that a register may hold
  may_hold : (held : ℕ) (value : Value) → Names v.known held value → MayHold kept.maps old held
  may_hold held value (inl none) = inl none.0
  may_hold held value (inr some_) = inr ((some_.0, stood.known held some_.0 some_.2), stood.fresh held some_.0 some_.2)

  -- and stands for its value
  value_held : (held : ℕ) (value : Value) → Names v.known held value → value_at kept.maps held ≡ Some value
  value_held held value (inl none) =
      subst (λ (a : ℕ). value_at kept.maps a ≡ Some value) (sym none.0) (ap Some (sym none.1))
  value_held held value (inr some_) =
      let n : ℕ = some_.0 in
      let named : kept.maps.address held ≡ Some n = stood.known held n some_.2 in
      let object = kept.holds.formed.objects held n named in
      held_value kept.maps held n object.1.first named ∙ ap Some (sym some_.1)

  -- a store into a place
  pub stores : (place : Place) (slot : Slot) (held : ℕ) (value : Value) → IsPlace kept.maps old place
      → SlotAt kept.maps place slot → Names v.known held value → PlaceChanges old new place (4 * held)
      → is_reading v.doing ≡ false
      → IsStep start words after views kept id v at live (wrote (Write slot value))
      × Ends v (wrote (Write slot value)) (Write slot value)
  stores place slot held value there is_slot names changes left =
      ends (Write slot value) left (λ n gives. absurd (cc))
      (writes_place place slot held value refl there is_slot (may_hold held value names)
      (λ told. value_held held value names)
      changes)

  -- a store into a number word
  pub puts : (object n j word : ℕ) (shape : Shape) → IsNumberWord kept.maps old object shape n j
      → WordChanges old new (number_place object shape j) word → is_reading v.doing ≡ false
      → IsStep start words after views kept id v at live (wrote (Write (slot.Cell n j) (Num word)))
      × Ends v (wrote (Write (slot.Cell n j) (Num word))) (Write (slot.Cell n j) (Num word))
  puts object n j word shape is changes left =
      ends (Write (slot.Cell n j) (Num word)) left (λ m gives. absurd (cc))
      (writes_number object n j word shape refl is changes)
