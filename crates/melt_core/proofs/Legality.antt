-- Each event keeps the history legal.
use Rattle.std.proofs.Common.{◌≡◌, ℕ, ◌*◌, ◌<◌, sym, ◌∙◌, ap, subst, arith, List}
use Rattle.std.specs.Prelude.{Bool, true, Option, Some, IsSomeAnd}
use Rattle.melt_model.specs.History as model
use Rattle.melt_model.specs.History.{last, IsSlot, CanHold, MayFollow, Legal}
use Rattle.melt_model.specs.declared.history.Entry.{Entry}
use Rattle.melt_model.specs.declared.history.Act.{Act}
use Rattle.melt_model.specs.declared.history.Act.TheVariants.{Make, Read, Write}
use Rattle.melt_model.specs.declared.history.Value.{Value}
use Rattle.melt_model.specs.declared.history.Value.TheVariants.{Num}
use Rattle.melt_model.specs.declared.history.Slot.{Slot}
use Rattle.melt_model.specs.declared.history.Slot.TheVariants as slot
use Rattle.melt_model.proofs.Histories.{Legal-push}
use Rattle.melt_word.specs.Words.{IsShape}
use Rattle.melt_word.specs.declared.header.Shape.{Shape}
use Rattle.melt_scion.specs.State.{Base, State}
use Rattle.melt_scion.specs.Placed.{Maps, Tells, Holds}
use Rattle.melt_scion.specs.Regions.{Region}
use Rattle.melt_core.specs.Answering.{entry, with_entry}
use Rattle.melt_core.specs.Events.{IsNumberWord, number_place, LastAt, Event}
use Rattle.melt_core.specs.declared.call.Place.{Place}
use Rattle.melt_core.specs.Known.{IsPlace}
use Rattle.melt_core.proofs.Places.{place_is_slot, place_can_hold, place_base}

-- a number word is a slot
number_is_slot : {h : List Entry} {maps : Maps} {s : State} {object n j : ℕ} {shape : Shape} → Tells h maps s
    → IsNumberWord maps s object shape n j → IsSlot h s.base.globals (slot.Cell n j)
number_is_slot {object} {n} {j} {shape} tells is =
    let o = is.object_is in
    let nums : o.header.shape.nums ≡ shape.nums = ap (λ (z : Shape). z.nums) o.shape_is in
    let under : j < shape.nums = is.below in
    let below : j < o.header.shape.nums = omega arith in
    subst (λ (z : Option model.Shape). IsSomeAnd z (λ y. j < y.nums))
    (sym (tells.shapes object n o.header is.named o.starts)) below

-- its word is its last value
number_is_last : {h : List Entry} {maps : Maps} {s : State} {object n j : ℕ} {shape : Shape} → Tells h maps s
    → IsNumberWord maps s object shape n j → Num (s.word (number_place object shape j)) ≡ last h (slot.Cell n j)
number_is_last {s} {object} {n} {j} {shape} tells is =
    let o = is.object_is in
    let nums : o.header.shape.nums ≡ shape.nums = ap (λ (z : Shape). z.nums) o.shape_is in
    let under : j < shape.nums = is.below in
    let below : j < o.header.shape.nums = omega arith in
    ap (λ (z : Shape). Num (s.word (number_place object z j))) (sym o.shape_is)
    ∙ tells.numbers object n j o.header is.named o.starts below

module _ (thread : ℕ) (h : List Entry) (maps : Maps) (s : State) (legal : Legal h s.base.globals)
    (tells : Tells h maps s) where
  legal_entry : (act : Act) → MayFollow h s.base.globals act → Legal (with_entry thread h (Some act)) s.base.globals
  legal_entry act follows = Legal-push h (entry thread act) s.base.globals legal follows

  legal_read : (at : Slot) (value : Value) → IsSlot h s.base.globals at → value ≡ last h at →
      Legal (with_entry thread h (Some (Read at value))) s.base.globals
  legal_read at value is lasts = legal_entry (Read at value)
      (record { read_slot = is; read_last = lasts; write_slot = tt; write_value = tt; small = tt })

  legal_write : (at : Slot) (value : Value) → IsSlot h s.base.globals at → CanHold h at value →
      Legal (with_entry thread h (Some (Write at value))) s.base.globals
  legal_write at value is can = legal_entry (Write at value)
      (record { read_slot = tt; read_last = tt; write_slot = is; write_value = can; small = tt })

  legal_make : (shape : Shape) → IsShape shape →
      Legal (with_entry thread h (Some (Make shape.refs shape.nums))) s.base.globals
  legal_make shape small = legal_entry (Make shape.refs shape.nums)
      (record { read_slot = tt; read_last = tt; write_slot = tt; write_value = tt; small = (small.refs, small.nums) })

  legal_read_place : (place : Place) (at : Slot) (value : Value) → IsPlace maps s place →
      LastAt h maps place at value → Legal (with_entry thread h (Some (Read at value))) s.base.globals
  legal_read_place place at value is lasts = legal_read at value
      (place_is_slot h maps s place at tells is lasts.slot) lasts.last

-- the globals stay as many
same_globals : (k : List Entry) (s t : State) → t.base ≡ s.base → Legal k s.base.globals → Legal k t.base.globals
same_globals k s t base legal = subst (λ (b : Base). Legal k b.globals) (sym base) legal

module _ (told : Bool) (thread : ℕ) (h : List Entry) (maps new : Maps) (s t : State) where
  -- each event keeps the history legal
  pub legal_event : (mine : Region) (cleared : ℕ) (act : Option Act) → Holds told h maps s →
      (told ≡ true → Legal h s.base.globals) →
      Event told h maps new s t mine cleared act → told ≡ true → Legal (with_entry thread h act) t.base.globals
  legal_event mine cleared act holds legal (Event.quiet is same) tell = same_globals h s t same.base (legal tell)
  legal_event mine cleared act holds legal (Event.reads_place place at value is same slot clean lasts) tell =
      same_globals _ s t same.base
      (legal_read_place thread h maps s (legal tell) (holds.tells tell) place at value slot (lasts tell))
  legal_event mine cleared act holds legal (Event.reads_number object n j shape is same number) tell =
      same_globals _ s t same.base
      (legal_read thread h maps s (legal tell) (holds.tells tell) (slot.Cell n j)
      (Num (s.word (number_place object shape j)))
      (number_is_slot (holds.tells tell) number)
      (number_is_last (holds.tells tell) number))
  legal_event mine cleared act holds legal
      (Event.writes_place place at address value is slot where_at may value_is changes) tell =
      same_globals _ s t (place_base s t place (4 * address) changes)
      (legal_write thread h maps s (legal tell) (holds.tells tell) at value
      (place_is_slot h maps s place at (holds.tells tell) slot where_at)
      (place_can_hold place at address holds.formed (holds.tells tell) where_at (value_is tell)))
  legal_event mine cleared act holds legal (Event.writes_number object n j word shape is number changes) tell =
      same_globals _ s t changes.base
      (legal_write thread h maps s (legal tell) (holds.tells tell) (slot.Cell n j) (Num word)
      (number_is_slot (holds.tells tell) number) tt)
  legal_event mine cleared act holds legal (Event.claims words is moves) tell = same_globals h s t moves.base
      (legal tell)
  legal_event mine cleared act holds legal (Event.stores r at word is owns from below changes) tell =
      same_globals h s t changes.base (legal tell)
  legal_event mine cleared act holds legal
      (Event.publishes address stored shape small stores all changes appears) tell =
      same_globals _ s t changes.base (legal_make thread h maps s (legal tell) (holds.tells tell) shape small)
  legal_event mine cleared act holds legal (Event.clears address header is named starts changes) tell =
      same_globals h s t changes.base (legal tell)
  legal_event mine cleared act holds legal
      (Event.untags place at found target value is slot range was named fresh same lasts changes) tell =
      same_globals _ s t (place_base s t place (4 * target) changes)
      (legal_read_place thread h maps s (legal tell) (holds.tells tell) place at value slot (lasts tell))
  legal_event mine cleared act holds legal
      (Event.commits home tried p n address shape rest may changes appears) tell =
      same_globals h s t changes.base (legal tell)
