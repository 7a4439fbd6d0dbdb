-- The table of scions: a finite map from scions to homes and addresses, and two lists beside it.
use Rattle.std.specs.Prelude.{◌≡◌, ◌≢◌, ◌↔◌, ℕ, ◌+◌, ◌<◌, ◌≤◌, suc, zero, if◌then◌else◌, List, [], ◌∷◌, ◌++◌, length}
use Rattle.std.specs.Prelude.{replicate, Option, None, Some, IsSome, map, nat_eq, slice_index_or}
use Rattle.std.specs.List.{AllPairs, Contains, range_with_len}
use Rattle.std.specs.Option.{option_map}
use Rattle.melt_links.specs.Links.{NodeLists, list_at}

pub record Scions : Type 0 where
  -- for each number from 1 on, the home and the address of the scion, where it is live
  pub pairs : List (Option (ℕ × ℕ))
  -- the numbers that are not live, in the order in which they are to be given
  pub unused : List ℕ
  -- the live scions, in the order of a walk
  pub live : List ℕ

-- the home and the address of a scion, if it is live
abbrev pub scion_at : Scions → ℕ → Option (ℕ × ℕ)
scion_at table zero = None
scion_at table (suc k) = slice_index_or table.pairs k None

abbrev pub IsLive : Scions → ℕ → Type 0
IsLive table scion = IsSome (scion_at table scion)

-- no number stands in the list twice
abbrev pub EachOnce : List ℕ → Type 0
EachOnce numbers = AllPairs (λ x y. x ≢ y) numbers

-- one of the numbers from 1 on that the table is for, and not live
pub record IsUnused (table : Scions) (number : ℕ) : Type 0 where
  pub from_1 : 0 < number
  pub in_range : number ≤ length table.pairs
  pub not_live : scion_at table number ≡ None

-- the two lists have each number that the table is for once, in the one or in the other
pub record IsTable (table : Scions) : Type 0 where
  pub live : (number : ℕ) → Contains table.live number ↔ IsLive table number
  pub live_once : EachOnce table.live
  pub unused : (number : ℕ) → Contains table.unused number ↔ IsUnused table number
  pub unused_once : EachOnce table.unused
  pub all : length table.live + length table.unused ≡ length table.pairs

-- a table for the numbers from 1 to n, of which none is live
abbrev pub empty_table : ℕ → Scions
empty_table n = record { pairs = replicate n None; unused = range_with_len 1 n; live = [] }

-- the one list is the other with x put somewhere
pub record IsPutIn (x : ℕ) (less more : List ℕ) : Type 0 where
  pub front : List ℕ
  pub back : List ℕ
  pub less_is : less ≡ front ++ back
  pub more_is : more ≡ front ++ x ∷ back

-- the first unused number is live now, and the others keep what they have and their order
pub record Adds (old new : Scions) (home address scion : ℕ) : Type 0 where
  pub was_unused : scion_at old scion ≡ None
  pub given : old.unused ≡ scion ∷ new.unused
  pub here : scion_at new scion ≡ Some (home, address)
  pub others : (k : ℕ) → k ≢ scion → scion_at new k ≡ scion_at old k
  pub order : IsPutIn scion old.live new.live
  pub size : length new.pairs ≡ length old.pairs

-- the scion is the first unused number now, and the others keep what they have and their order
pub record Frees (old new : Scions) (scion : ℕ) : Type 0 where
  pub taken : new.unused ≡ scion ∷ old.unused
  pub gone : scion_at new scion ≡ None
  pub others : (k : ℕ) → k ≢ scion → scion_at new k ≡ scion_at old k
  pub order : IsPutIn scion new.live old.live
  pub size : length new.pairs ≡ length old.pairs

-- the scion has this address now, and its home as before
pub record SetsAddress (old new : Scions) (scion address : ℕ) : Type 0 where
  pub here : scion_at new scion ≡ option_map (λ pair. (pair.0, address)) (scion_at old scion)
  pub others : (k : ℕ) → k ≢ scion → scion_at new k ≡ scion_at old k
  pub unused : new.unused ≡ old.unused
  pub live : new.live ≡ old.live
  pub size : length new.pairs ≡ length old.pairs

abbrev pub first_of : List ℕ → Option ℕ
first_of [] = None
first_of (x ∷ xs) = Some x

-- the number after x in the list
abbrev pub next_after : List ℕ → ℕ → Option ℕ
next_after [] x = None
next_after (y ∷ ys) x = if nat_eq y x then first_of ys else next_after ys x

-- How this crate keeps a table. Nothing above it names what follows.

-- The table of these pairs. Node k is the number k + 1; list 0 has those that are not live, and list 1 those that are.
abbrev pub table_of : List (Option (ℕ × ℕ)) → NodeLists → Scions
table_of pairs links =
    record { pairs = pairs; unused = map suc (list_at links 0); live = map suc (list_at links 1) }

-- What is kept of a table: its numbers fit, and each has a pair and a node, which stands in one of two lists.
pub record IsKept (pairs : List (Option (ℕ × ℕ))) (links : NodeLists) : Type 0 where
  pub table : IsTable (table_of pairs links)
  pub small : length pairs < 4294967296
  pub nodes : links.nodes ≡ length pairs
  pub lists : length links.lists ≡ 2
