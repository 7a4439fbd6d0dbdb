-- How the words of a view stay, or change, whatever registers, calls and history are after it.
use Rattle.std.proofs.Common.{◌≡◌, ℕ, List, refl, ap, subst}
use Rattle.melt_space.specs.Space.{SpaceWords, SetsWord}
use Rattle.melt_scion.specs.Changes.{SameWords, WordChanges}
use Rattle.melt_scion.specs.declared.registers.Registers.{Registers}
use Rattle.melt_scion.specs.Heaps.{OnDisk}
use Rattle.melt_core.specs.declared.call.Place.{Place}
use Rattle.melt_core.specs.Changed.{OnlyWords}
use Rattle.melt_core.specs.Events.{PlaceChanges}
use Rattle.melt_core.specs.Views.{View, state, shown, base_in}

-- nothing changes but registers
pub same_after : (disk : OnDisk) (v : View) (held : List Registers)
    → SameWords (state disk v) (shown disk v v.space held v.free)
same_after disk v held = record { base = refl; free = refl; word = λ k. refl; global = λ g. refl; forward = λ p. refl }

-- nothing changes
pub same_words : (disk : OnDisk) (v : View) → SameWords (state disk v) (state disk v)
same_words disk v = same_after disk v v.held

-- a word of the space was set
pub word_set : (disk : OnDisk) (v : View) (space : SpaceWords) (held : List Registers) (at word : ℕ)
    → SetsWord v.space space at word → WordChanges (state disk v) (shown disk v space held v.free) at word
word_set disk v space held at word sets = record {
  base = ap (λ (n : ℕ). record (base_in disk v.space v.scions v.globals v.forward) { size = n }) sets.size;
  free = refl;
  here = sets.here;
  others = sets.others;
  global = λ g. refl;
  forward = λ p. refl;
}

-- only words of the space and globals differ
abbrev pub over : View → SpaceWords → List ℕ → View
over v space globals = record v { space = space; globals = globals }

-- the word that was set at a place, in a view that differs in words alone
pub only_place : (disk : OnDisk) (v m : View) (place : Place) (word set : ℕ) → OnlyWords v m → set ≡ word
    → PlaceChanges (state disk v) (state disk m) place set
    → PlaceChanges (state disk v) (state disk (over v m.space m.globals)) place word
only_place disk v m place word set only is changes =
    subst (PlaceChanges (state disk v) (state disk (over v m.space m.globals)) place) is
    (subst (λ (x : View). PlaceChanges (state disk v) (state disk x) place set) only changes)
