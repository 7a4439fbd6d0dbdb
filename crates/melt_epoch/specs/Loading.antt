-- What a load of a reference comes to, from the word that was found on.
use Rattle.std.specs.Prelude.{◌≡◌, ◌⊎◌, ℕ, ◌+◌, ◌<◌, ◌≤◌, ◌++◌, Bool, true, List, Option, None, Some, Result, Ok, Err}
use Rattle.atomic_table.specs.declared.shared.Seat.{Seat}
use Rattle.melt_model.specs.History.{last, shape}
use Rattle.melt_model.specs.Thread.{value_in}
use Rattle.melt_model.specs.declared.history.Act.TheVariants.{Read}
use Rattle.melt_model.specs.declared.history.Entry.{Entry}
use Rattle.melt_model.specs.declared.history.Slot.{Slot}
use Rattle.melt_model.specs.declared.history.Slot.TheVariants as slot
use Rattle.melt_model.specs.declared.history.Value.{Value}
use Rattle.melt_model.specs.declared.history.Value.TheVariants.{Nil, Ref}
use Rattle.melt_model.specs.declared.operations.Op.{Op}
use Rattle.melt_model.specs.declared.operations.Op.TheVariants.{GLoad, Load}
use Rattle.melt_model.specs.declared.operations.Reply.{Reply}
use Rattle.melt_word.specs.Words.{IsShape, cost_of}
use Rattle.melt_word.specs.declared.header.Shape.{Shape}
use Rattle.melt_word.specs.declared.reference.Ref as word
use Rattle.melt_word.specs.declared.reference.Ref.TheVariants.{Disk}
use Rattle.melt_scion.specs.Scions.{Scions}
use Rattle.melt_core.specs.declared.answer.Pause.TheVariants.{Space}
use Rattle.melt_core.specs.declared.answer.Refusal.{Refusal}
use Rattle.melt_core.specs.declared.answer.Refusal.TheVariants.{Pause}
use Rattle.melt_core.specs.declared.call.Place.{Place}
use Rattle.melt_core.specs.declared.call.Place.TheVariants.{Field, Global}
use Rattle.melt_rule.specs.Rule.{Begins, Has}
use Rattle.melt_rule.specs.Seats.{knows_of}
use Rattle.melt_rule.specs.Tells.{Adds, Looks, Names, Sees}
use Rattle.melt_rule.specs.declared.began.Pair.{Pair}
use Rattle.melt_rule.specs.declared.view.View.{View}
use Rattle.melt_epoch.specs.Bringing.{IsFull, IsLost, ReadsAll, Stays}
use Rattle.melt_epoch.specs.Calls.{Counts, Lacked, Replies, WasAsked}
use Rattle.melt_epoch.specs.declared.mutator.Mutator.{Mutator}
use Rattle.melt_epoch.specs.declared.load.Loaded.{Loaded}
use Rattle.melt_epoch.specs.declared.load.Loaded.TheVariants as loaded
use Rattle.melt_record.specs.declared.head.Kind.TheVariants.{Body}
use Rattle.melt_scion.specs.GhostMaps.{named}
use Rattle.melt_scion.specs.Placed.{HeadIs}
use Rattle.melt_rule.specs.Shown.{base_at}

-- the place is that of the slot in the history, by what is known of addresses
abbrev pub KnownSlot : List Pair → Place → Slot → Type 0
KnownSlot known (Field object i) s = (n : ℕ) × Has known object n × (s ≡ slot.Field n i)
KnownSlot known (Global g) s = s ≡ slot.Global g

-- a word was found at the place of a slot
pub record Found (w : View) (place : Place) (found : word.Ref) : Type 0 where
  pub before : View
  pub slot : Slot
  pub at : KnownSlot before.known place slot
  pub looks : Looks before w slot place found

-- a home that was found lies before the end of the disk
abbrev pub IsBefore : ℕ → word.Ref → Type 0
IsBefore end (Disk home) = home < end
IsBefore end found = Unit {0}

-- Where the epoch is told, the slot held an object of this shape at some time in the call, and at the home of the
-- object its Body stands on disk.
pub record Held (v w : View) (s : Slot) (z : Shape) : Type 0 where
  pub then_ : List Entry
  pub object : ℕ
  pub home : ℕ
  pub of : named v.began.maps.homes home ≡ Some object
  pub body : HeadIs (base_at v.began) home (record { shape = z; kind = Body })
  pub from : Begins v.seen then_
  pub until : Begins then_ w.seen
  pub held : last then_ s ≡ Ref object
  pub shaped : shape w.seen object ≡ Some (record { refs = z.refs; nums = z.nums })

abbrev pub HeldHas : View → View → Slot → Shape → Type 0
HeldHas v w s z = v.began.told ≡ true → Held v w s z

-- A load was answered by an address, which is that of what it read. It claimed words for one copy at most, of an object
-- that the slot held.
pub record Loads (v w : View) (s : Slot) (most address : ℕ) : Type 0 where
  pub value : Value
  pub adds : Adds v w.seen (Read s value)
  pub names : Names w.known address value
  pub words : ℕ
  pub wins : ℕ
  pub counts : Counts v w words wins most
  pub claims : ((words ≡ 0) × (wins ≡ 0)) ⊎ ((z : Shape) × (words ≡ cost_of z) × (wins ≤ 1) × HeldHas v w s z)
  pub over : w.doing ≡ None

-- It was refused, as all forwarding words send other homes: the look and each of these words was read.
pub record LoadFull (v w : View) (s : Slot) (most : ℕ) (refusal : Refusal) : Type 0 where
  pub words : ℕ
  pub full : IsFull v w words most refusal
  pub read : ReadsAll v w (v.began.forwards + 1)
  pub claims : (words ≡ 0) ⊎ ((z : Shape) × (words ≡ cost_of z) × HeldHas v w s z)

-- Or as the words for a copy end past the last one.
pub record LoadLacks (v w : View) (s : Slot) (most : ℕ) (refusal : Refusal) : Type 0 where
  pub shape : Shape
  pub small : IsShape shape
  pub held : HeldHas v w s shape
  pub is : refusal ≡ Pause (Space (cost_of shape))
  pub sees : Sees v w.seen
  pub lacked : Lacked v w (cost_of shape) most
  pub over : w.doing ≡ None

-- Or as no record was read of a home before the end of the disk.
pub record LoadLost (told : Bool) (image : Option (List ℕ)) (scions : Scions) (end before after : ℕ) (v w : View)
    (most : ℕ) (refusal : Refusal) : Type 0 where
  pub home : ℕ
  pub below : home < end
  pub stays : Stays v w most
  pub lost : IsLost told image scions end home before after refusal

-- why it was refused, after a look at the slot
abbrev pub LoadRefused : Bool → Option (List ℕ) → Scions → ℕ → ℕ → ℕ → View → View → Slot → ℕ → Refusal → Type 0
LoadRefused told image scions end before after v w s most refusal =
    LoadFull v w s most refusal ⊎ (LoadLacks v w s most refusal
    ⊎ LoadLost told image scions end before after v w most refusal)

-- what a load comes to after a look
abbrev pub Resolves : Bool → Option (List ℕ) → Scions → ℕ → ℕ → ℕ → View → View → Slot → ℕ → Result ℕ Refusal → Type 0
Resolves told image scions end before after v w s most (Ok address) = Loads v w s most address
Resolves told image scions end before after v w s most (Err refusal) =
    LoadRefused told image scions end before after v w s most refusal

-- The call found the stop word set.
pub record LoadAsked (v w : View) (most : ℕ) (refusal : Refusal) : Type 0 where
  pub was : WasAsked v w refusal
  pub stays : Stays v w most

-- what a load of a global comes to
abbrev pub LoadsGlobal : Bool → Option (List ℕ) → Scions → ℕ → ℕ → ℕ → View → View → ℕ → ℕ → Result ℕ Refusal → Type 0
LoadsGlobal told image scions end before after v w g most (Ok address) = Loads v w (slot.Global g) most address
LoadsGlobal told image scions end before after v w g most (Err refusal) =
    LoadAsked v w most refusal ⊎ LoadRefused told image scions end before after v w (slot.Global g) most refusal

-- An object was found to lack the slot.
pub record LacksSlot (v w : View) (n i most : ℕ) : Type 0 where
  pub z : Shape
  pub few : z.refs ≤ i
  pub shaped : v.began.told ≡ true → shape w.seen n ≡ Some (record { refs = z.refs; nums = z.nums })
  pub stays : Stays v w most

-- It has the slot, which was loaded.
pub record LoadsFrom (v w : View) (n i most address : ℕ) : Type 0 where
  pub z : Shape
  pub below : i < z.refs
  pub loads : Loads v w (slot.Field n i) most address
  pub shaped : v.began.told ≡ true
      → shape (v.seen ++ loads.adds.between) n ≡ Some (record { refs = z.refs; nums = z.nums })

-- what a load of a slot comes to, by the value that its register stands for
abbrev pub LoadsSlot : Bool → Option (List ℕ) → Scions → ℕ → ℕ → ℕ → View → View → Value → ℕ → ℕ
    → Result Loaded Refusal → Type 0
LoadsSlot told image scions end before after v w value i most (Ok loaded.Nil) = (value ≡ Nil) × (w ≡ v)
LoadsSlot told image scions end before after v w value i most (Ok loaded.Range) =
    (n : ℕ) × (value ≡ Ref n) × LacksSlot v w n i most
LoadsSlot told image scions end before after v w value i most (Ok (loaded.At address)) =
    (n : ℕ) × (value ≡ Ref n) × LoadsFrom v w n i most address
LoadsSlot told image scions end before after v w value i most (Err refusal) =
    (n : ℕ) × (value ≡ Ref n) × (LoadAsked v w most refusal
    ⊎ LoadRefused told image scions end before after v w (slot.Field n i) most refusal)

-- A load was answered, and its register holds what it read. It claimed words for one copy at most, of an object that
-- the slot held.
pub record HasLoaded (v w : View) (old new : List Value) (o : Op) (s : Slot) (most : ℕ) (reply : Reply) : Type 0 where
  pub replies : Replies v w old new o reply
  pub words : ℕ
  pub wins : ℕ
  pub counts : Counts v w words wins most
  pub claims : ((words ≡ 0) × (wins ≡ 0)) ⊎ ((z : Shape) × (words ≡ cost_of z) × (wins ≤ 1) × HeldHas v w s z)

-- what a load of a global comes to, by the registers
abbrev pub GlobalLoaded : Bool → Option (List ℕ) → Scions → ℕ → ℕ → ℕ → View → View → List Value → List Value → ℕ → ℕ
    → ℕ
    → Result Reply Refusal → Type 0
GlobalLoaded told image scions end before after v w old new dst g most (Ok reply) =
    HasLoaded v w old new (GLoad dst g) (slot.Global g) most reply
GlobalLoaded told image scions end before after v w old new dst g most (Err refusal) =
    (new ≡ old) × (LoadAsked v w most refusal
    ⊎ LoadRefused told image scions end before after v w (slot.Global g) most refusal)

-- the same of a mutator before and after, by its seats and its readers
abbrev pub IsGlobalLoaded : {R : Type 0} → (R → Option (List ℕ)) → (R → ℕ) → Bool → Scions → ℕ → Mutator R → Mutator R
    → ℕ
    → ℕ → ℕ → Result Reply Refusal → Type 0
IsGlobalLoaded {R} image faults told scions end m n dst g most result = (s t : Seat ℕ View) (p q : R) → m.seat ≡ Some s
    → n.seat ≡ Some t → m.reader ≡ Some p → n.reader ≡ Some q
    → GlobalLoaded told (image p) scions end (faults p) (faults q) (knows_of s) (knows_of t) m.values n.values dst g
    most
    result

-- A load of a slot was answered, and its register holds what it read, if there is such a slot. It claimed words for one
-- copy at most, of an object that the slot held.
pub record HasRead (v w : View) (old new : List Value) (dst src i most : ℕ) (reply : Reply) : Type 0 where
  pub replies : Replies v w old new (Load dst src i) reply
  pub words : ℕ
  pub wins : ℕ
  pub counts : Counts v w words wins most
  pub claims : ((words ≡ 0) × (wins ≡ 0)) ⊎ ((n : ℕ) × (z : Shape) × (value_in old src ≡ Ref n) × (words ≡ cost_of z)
      × (wins ≤ 1) × HeldHas v w (slot.Field n i) z)

-- what a load of a slot comes to, by the registers
abbrev pub SlotLoaded : Bool → Option (List ℕ) → Scions → ℕ → ℕ → ℕ → View → View → List Value → List Value → ℕ → ℕ → ℕ
    → ℕ
    → Result Reply Refusal → Type 0
SlotLoaded told image scions end before after v w old new dst src i most (Ok reply) =
    HasRead v w old new dst src i most reply
SlotLoaded told image scions end before after v w old new dst src i most (Err refusal) =
    (new ≡ old) × (n : ℕ) × (value_in old src ≡ Ref n) × (LoadAsked v w most refusal
    ⊎ LoadRefused told image scions end before after v w (slot.Field n i) most refusal)

-- the same of a mutator before and after, by its seats and its readers
abbrev pub IsSlotLoaded : {R : Type 0} → (R → Option (List ℕ)) → (R → ℕ) → Bool → Scions → ℕ → Mutator R → Mutator R → ℕ
    → ℕ
    → ℕ → ℕ → Result Reply Refusal → Type 0
IsSlotLoaded {R} image faults told scions end m n dst src i most result = (s t : Seat ℕ View) (p q : R)
    → m.seat ≡ Some s → n.seat ≡ Some t → m.reader ≡ Some p → n.reader ≡ Some q
    → SlotLoaded told (image p) scions end (faults p) (faults q) (knows_of s) (knows_of t) m.values n.values dst src i
    most
    result

-- its reader reads two runs of words at most
abbrev pub ReadsTwice : {R : Type 0} → (R → ℕ) → Mutator R → Mutator R → Type 0
ReadsTwice {R} reads m n = (p q : R) → m.reader ≡ Some p → n.reader ≡ Some q → reads q ≤ reads p + 2

-- and its count of faults does not fall
abbrev pub KeepsCount : {R : Type 0} → (R → ℕ) → Mutator R → Mutator R → Type 0
KeepsCount {R} faults m n = (p q : R) → m.reader ≡ Some p → n.reader ≡ Some q → faults p ≤ faults q
