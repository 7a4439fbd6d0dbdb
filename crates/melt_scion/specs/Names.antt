-- The names of addresses: a finite map from addresses to the numbers of objects.
use Rattle.std.specs.Prelude.{◌≡◌, ◌≢◌, ℕ, ◌<◌, ◌≤◌, suc, zero, Bool, if◌then◌else◌, List, [], ◌∷◌, length, Option}
use Rattle.std.specs.Prelude.{None, Some, slice_index_or}

-- the number of the object at an address, of which the list has one for each address from 1 on
abbrev pub name_at : List (Option ℕ) → ℕ → Option ℕ
name_at names zero = None
name_at names (suc k) = slice_index_or names k None

-- the numbers of the addresses that have one
abbrev pub names_of : List Bool → List ℕ → List (Option ℕ)
names_of [] numbers = []
names_of (named ∷ more) [] = []
names_of (named ∷ more) (number ∷ numbers) = (if named then Some number else None) ∷ names_of more numbers

-- one address has this number now, and nothing else changes
pub record SetsName (old new : List (Option ℕ)) (address number : ℕ) : Type 0 where
  pub here : name_at new address ≡ Some number
  pub others : (k : ℕ) → k ≢ address → name_at new k ≡ name_at old k
  pub size : length new ≡ length old

-- the addresses up to this one have no number now, and the others have theirs
pub record Clears (old new : List (Option ℕ)) (last : ℕ) : Type 0 where
  pub cleared : (k : ℕ) → k ≤ last → name_at new k ≡ None
  pub others : (k : ℕ) → last < k → name_at new k ≡ name_at old k
  pub size : length new ≡ length old
