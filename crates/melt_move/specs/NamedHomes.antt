-- The names of new homes.
use Rattle.std.specs.Prelude.{◌≡◌, ◌≢◌, ℕ, ◌+◌, ◌≤◌, length, take, slice_get, Option, None, Some}
use Rattle.melt_scion.specs.Names.{name_at}
use Rattle.melt_scion.specs.HomeNames.{home_name}
use Rattle.melt_scion.specs.GhostMaps.{NamePairs, named}
use Rattle.melt_scion.specs.declared.heap.Names.{Names}
use Rattle.melt_move.specs.declared.homes.Given.{Given}
use Rattle.melt_move.specs.declared.homes.NewHomes.{NewHomes}
use Rattle.melt_move.specs.Plans.{need_for}

-- where the home of the given object begins
abbrev pub home_at : NewHomes → ℕ → ℕ
home_at homes k = homes.first + need_for (take k homes.given.items)

-- each new home has the number of its object, and other homes are named as before
pub record NamesGiven (homes : NewHomes) (number old new : ℕ → Option ℕ) : Type 0 where
  pub each : (k n : ℕ) (g : Given) → slice_get homes.given.items k ≡ Some g → number g.from ≡ Some n
      → new (home_at homes k) ≡ Some n
  pub others : (home : ℕ) → ((k : ℕ) (g : Given) → slice_get homes.given.items k ≡ Some g → home ≢ home_at homes k)
      → new home ≡ old home

-- the names that a heap keeps, or else those that contracts have
abbrev pub NamesHomesOf : NewHomes → Option Names → NamePairs → Option Names → NamePairs → Type 0
NamesHomesOf homes None old None new =
    NamesGiven homes (named old.addresses) (named old.homes) (named new.homes) × (new.addresses ≡ old.addresses)
NamesHomesOf homes (Some old) pairs (Some new) pairs_after =
    NamesGiven homes (name_at old.addresses) (home_name old.homes) (home_name new.homes)
    × (new.addresses ≡ old.addresses)
NamesHomesOf homes None old (Some new) pairs = ⊥
NamesHomesOf homes (Some old) pairs None new = ⊥

-- there is room for the names of the new homes
abbrev pub HasSpare : NewHomes → Option Names → Type 0
HasSpare homes None = Unit {0}
HasSpare homes (Some names) = length homes.given.items ≤ names.homes.spare
