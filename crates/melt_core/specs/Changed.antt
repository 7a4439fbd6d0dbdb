-- The small changes of which events are made, as changes of a view.
use Rattle.std.specs.Prelude.{◌≡◌, ◌≢◌, ℕ, ◌<◌, true, false, [], ◌∷◌, ◌++◌, length, slice_index, slice_set, Option, None}
use Rattle.std.specs.Prelude.{Some, IsSome}
use Rattle.melt_model.specs.Thread.{found}
use Rattle.melt_model.specs.declared.history.Entry.{Entry}
use Rattle.melt_model.specs.declared.history.Act.TheVariants.{Read}
use Rattle.melt_model.specs.declared.history.Slot.{Slot}
use Rattle.melt_model.specs.declared.operations.Op.{Op}
use Rattle.melt_word.specs.Words.{IsRef, ref_word}
use Rattle.melt_word.specs.declared.reference.Ref.{Ref}
use Rattle.melt_forward.specs.Forwarding.{Sends, SendsAnother, forward_word, probe}
use Rattle.melt_space.specs.Space.{SetsWord}
use Rattle.melt_scion.specs.Changes.{NameAppears}
use Rattle.melt_scion.specs.Heaps.{OnDisk}
use Rattle.melt_scion.specs.Placed.{FormedWords}
use Rattle.melt_core.specs.declared.call.Search.{Search}
use Rattle.melt_core.specs.declared.call.Activation.{Activation}
use Rattle.melt_core.specs.declared.probing.Probe.{Probe}
use Rattle.melt_core.specs.declared.probing.Probe.TheVariants.{At, Empty, Another}
use Rattle.melt_core.specs.declared.answer.StepResult.{StepResult}
use Rattle.melt_core.specs.declared.answer.StepResult.TheVariants.{Answered}
use Rattle.melt_core.specs.declared.call.Call.{Call}
use Rattle.melt_core.specs.declared.call.Place.{Place}
use Rattle.melt_core.specs.declared.call.Stage.{Stage}
use Rattle.melt_core.specs.Answering.{entry}
use Rattle.melt_core.specs.Known.{IsPlace, SlotAt}
use Rattle.melt_core.specs.Views.{View, Standing, registers_in, numbers_of, maps, state, held_value}

-- the word is that of the reference
pub record HoldsRef (word : ℕ) (reference : Ref) : Type 0 where
  pub in_range : IsRef reference
  pub is : word ≡ ref_word reference

-- the stop word is set
abbrev pub stopped : View → View
stopped v = record v { stop = true }

-- the history has room for one entry more
abbrev pub HasRoomForEntry : View → Type 0
HasRoomForEntry v = length v.log < v.capacity

-- the call of a thread is this, or is over
abbrev pub with_call : View → ℕ → Option Call → View
with_call v t call = record v { calls = slice_set v.calls t call }

-- the call of a thread is of this operation, and at this stage
abbrev pub with_stage : View → ℕ → Op → Stage → View
with_stage v t o stage = with_call v t (Some (record { op = o; stage = stage }))

-- a register of a thread holds this address
abbrev pub with_register : View → ℕ → ℕ → ℕ → View
with_register v t r address =
    record v { held = slice_set v.held t (record { regs = slice_set (registers_in v.held t) r address }) }

-- the history has one entry more
abbrev pub noted : View → Entry → View
noted v e = record v { log = v.log ++ e ∷ [] }

-- a word of the space is replaced
pub record HasSetWord (v w : View) (at word : ℕ) : Type 0 where
  pub sets : SetsWord v.space w.space at word
  pub only : w ≡ record v { space = w.space }

-- the object at the address has this number
pub record HasNamed (v w : View) (address number : ℕ) : Type 0 where
  pub named : IsSome w.names
  pub size : length (numbers_of w.names) ≡ length (numbers_of v.names)
  pub appears : NameAppears (maps v) (maps w) address number
  pub only : w ≡ record v { names = w.names }

-- the address is 0, or that of an object
abbrev pub IsNamedOrNone : View → ℕ → Type 0
IsNamedOrNone v address = address ≢ 0 → IsSome ((maps v).address address)

-- only words of the space and globals differ
abbrev pub OnlyWords : View → View → Type 0
OnlyWords v w = w ≡ record v { space = w.space; globals = w.globals }

-- the place is there, over some disk
abbrev pub HasPlace : View → Place → Type 0
HasPlace v place = (disk : OnDisk) × IsPlace (maps v) (state disk v) place

-- and the words are well formed over it
pub record StandsAt (v : View) (place : Place) : Type 0 where
  pub disk : OnDisk
  pub formed : FormedWords (maps v) (state disk v)
  pub there : IsPlace (maps v) (state disk v) place

-- What an address stands for was read at a place into a register, and the call is over.
pub record HasRead (v w : View) (t : ℕ) (place : Place) (dst address : ℕ) (result : StepResult) : Type 0 where
  pub slot : Slot
  pub is_slot : SlotAt (maps v) place slot
  pub answered : result ≡ Answered (found (held_value v.names address))
  pub is : w ≡ with_call (with_register (noted v (entry t (Read slot (held_value v.names address)))) t dst address) t
      None

-- The words are well formed over some disk, and a search has a forwarding word to read next.
pub record CanProbe (v : View) (search : Search) : Type 0 where
  pub disk : OnDisk
  pub stands : Standing false disk v
  pub within : search.tried < length v.forward

-- where that word is, and the word
abbrev pub probed_place : View → Search → ℕ
probed_place v search = probe search.home (length v.forward) search.tried

abbrev pub probed_word : View → Search → ℕ
probed_word v search = slice_index v.forward (probed_place v search)

-- what it tells of the home
abbrev pub TellsOf : View → Search → Probe → Type 0
TellsOf v search (At address) = Sends (probed_word v search) search.home address
TellsOf v search Empty = probed_word v search ≡ 0
TellsOf v search Another = SendsAnother (probed_word v search) search.home

-- The forwarding word sends the home to the copy, which has the number of the home's object, if that has one.
pub record HasEntered (v w : View) (a : Activation) : Type 0 where
  pub number : ℕ
  pub number_is : (n : ℕ) → (maps v).home a.search.home ≡ Some n → number ≡ n
  pub named : IsSome w.names
  pub size : length (numbers_of w.names) ≡ length (numbers_of v.names)
  pub appears : NameAppears (maps v) (maps w) a.address number
  pub only : w ≡ record v {
    forward = slice_set v.forward (probed_place v a.search) (forward_word a.search.home a.address);
    names = w.names;
  }
