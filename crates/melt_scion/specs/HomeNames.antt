-- The names of homes: a finite map from homes to the numbers of objects, and how many more homes may be put into it.
use Rattle.std.specs.Prelude.{ℕ, Option, refl}
use Rattle.std.specs.Coded.{Coded, code_by, coded×, coded_ℕ}
use Rattle.std.specs.Ordering.{nat_cmp}
use Rattle.std.specs.FinMap.{FinMap, get, code}

pub record NamedHomes : Type 0 where
  -- the numbers of the homes that have one
  pub names : FinMap nat_cmp ℕ
  -- how many homes may be named yet
  pub spare : ℕ

abbrev pub named_homes_code : Coded NamedHomes
named_homes_code =
    code_by (FinMap nat_cmp ℕ × ℕ) (coded× (code coded_ℕ coded_ℕ) coded_ℕ) (λ h. (h.names, h.spare))
    (λ p. record { names = p.0; spare = p.1 }) (λ _. refl)

-- the number of the object that has this home
abbrev pub home_name : NamedHomes → ℕ → Option ℕ
home_name homes home = get homes.names home
