-- The two maps of a heap that keeps no names: lists of pairs, each of a key and the number of an object.
use Rattle.std.specs.Prelude.{ℕ, ◌==◌, if◌then◌else◌, List, [], ◌∷◌, Option, None, Some, refl}
use Rattle.std.specs.Coded.{Coded, code_by, coded×, coded_ℕ, coded_list}

pub record NamePairs : Type 0 where
  -- the addresses at which an object stands
  pub addresses : List (ℕ × ℕ)
  -- the homes that an object has on disk
  pub homes : List (ℕ × ℕ)

abbrev pub name_pairs_code : Coded NamePairs
name_pairs_code =
    let pairs : Coded (List (ℕ × ℕ)) = coded_list (coded× coded_ℕ coded_ℕ) in
    code_by (List (ℕ × ℕ) × List (ℕ × ℕ)) (coded× pairs pairs) (λ n. (n.addresses, n.homes))
    (λ p. record { addresses = p.0; homes = p.1 }) (λ _. refl)

-- the number that the pairs give to a key: that of the first pair with this key
abbrev pub named : List (ℕ × ℕ) → ℕ → Option ℕ
named [] key = None
named (pair ∷ pairs) key = if pair.0 == key then Some pair.1 else named pairs key

-- no address and no home has a number
abbrev pub no_pairs : NamePairs
no_pairs = record { addresses = []; homes = [] }

-- the same maps, where the object at this address has this number
abbrev pub numbered : NamePairs → ℕ → ℕ → NamePairs
numbered maps address number = record { addresses = (address, number) ∷ maps.addresses; homes = maps.homes }
