-- What the names of homes are, from the entries of the map that they are kept in.
use Rattle.std.proofs.Common.{◌≡◌, ◌≢◌, ℕ, Bool, true, false, List, [], ◌∷◌, None, Some, cond, refl, sym, ◌∙◌, ap}
use Rattle.std.proofs.Common.{arith}
use Rattle.std.specs.Prelude.{nat_eq, is_some}
use Rattle.std.specs.Ordering.{nat_cmp, eq_by_cmp}
use Rattle.std.specs.Cmp.{nat_cmp_total}
use Rattle.std.specs.Map.{lookup}
use Rattle.std.specs.FinMap.{FinMap, get, insert, remove, contains_key, find, from_entries, get-from_entries}
use Rattle.std.specs.FinMap.{get-insert, get-remove, same_map, nat_cmp-IsAntisymmetric}
use Rattle.std.proofs.lemmas.Bool.Decides.{nat_tests}
use Rattle.melt_scion.specs.HomeNames.{NamedHomes, home_name}

-- numbers that the order does not tell apart
tied : (x y : ℕ) → eq_by_cmp nat_cmp x y ≡ nat_eq x y
tied x y = grind (arith, nat_tests)

turned : (x y : ℕ) → nat_eq x y ≡ nat_eq y x
turned x y = grind (arith, nat_tests)

found : (home : ℕ) (entries : List (ℕ × ℕ)) → find nat_cmp home entries ≡ lookup (nat_eq home) entries
found home [] = refl
found home (e ∷ es) =
    ap (λ (b : Bool). cond b (Some e.1) (find nat_cmp home es)) (tied home e.0)
    ∙ ap (cond (nat_eq home e.0) (Some e.1)) (found home es)

-- the name of a home
pub name_is : (entries : List (ℕ × ℕ)) (home : ℕ)
    → get (from_entries {R = nat_cmp} entries) home ≡ lookup (nat_eq home) entries
name_is entries home = get-from_entries nat_cmp_total entries home ∙ found home entries

-- entries in which one home has another name now
pub name_set : (old new : List (ℕ × ℕ)) (home number : ℕ)
    → ((q : ℕ) → lookup (nat_eq q) new ≡ cond (nat_eq home q) (Some number) (lookup (nat_eq q) old))
    → from_entries {R = nat_cmp} new ≡ insert (from_entries old) home number
name_set old new home number is =
    same_map nat_cmp_total nat_cmp-IsAntisymmetric _ _ (λ q.
    name_is new q ∙ (is q ∙ (
    ap (λ (b : Bool). cond b (Some number) (lookup (nat_eq q) old)) (turned home q ∙ sym (tied q home))
    ∙ (ap (cond (eq_by_cmp nat_cmp q home) (Some number)) (sym (name_is old q))
    ∙ sym (get-insert nat_cmp_total (from_entries old) home number q)))))

-- and entries in which it has none
pub name_gone : (old new : List (ℕ × ℕ)) (home : ℕ)
    → ((q : ℕ) → lookup (nat_eq q) new ≡ cond (nat_eq home q) None (lookup (nat_eq q) old))
    → from_entries {R = nat_cmp} new ≡ remove (from_entries old) home
name_gone old new home is =
    same_map nat_cmp_total nat_cmp-IsAntisymmetric _ _ (λ q.
    name_is new q ∙ (is q ∙ (
    ap (λ (b : Bool). cond b None (lookup (nat_eq q) old)) (turned home q ∙ sym (tied q home))
    ∙ (ap (cond (eq_by_cmp nat_cmp q home) None) (sym (name_is old q))
    ∙ sym (get-remove nat_cmp_total (from_entries old) home q)))))

-- entries that answer alike are the same names
pub names_same : (old new : List (ℕ × ℕ)) → ((q : ℕ) → lookup (nat_eq q) new ≡ lookup (nat_eq q) old)
    → from_entries {R = nat_cmp} new ≡ from_entries old
names_same old new is =
    same_map nat_cmp_total nat_cmp-IsAntisymmetric _ _ (λ q. name_is new q ∙ (is q ∙ sym (name_is old q)))

-- whether a home has a name
pub named : (entries : List (ℕ × ℕ)) (home number : ℕ) → lookup (nat_eq home) entries ≡ Some number
    → contains_key (from_entries {R = nat_cmp} entries) home ≡ true
named entries home number is = ap is_some (name_is entries home ∙ is)

pub not_named : (entries : List (ℕ × ℕ)) (home : ℕ) → lookup (nat_eq home) entries ≡ None
    → contains_key (from_entries {R = nat_cmp} entries) home ≡ false
not_named entries home is = ap is_some (name_is entries home ∙ is)

same_home : (home : ℕ) → eq_by_cmp nat_cmp home home ≡ true
same_home home = grind (arith, nat_tests)

other_home : (q home : ℕ) → q ≢ home → eq_by_cmp nat_cmp q home ≡ false
other_home q home differ = grind (arith, nat_tests)

-- a home whose name was set, and the others
pub home_set : (old new : NamedHomes) (home number : ℕ) → new.names ≡ insert old.names home number
    → home_name new home ≡ Some number
home_set old new home number is =
    ap (λ (names : FinMap nat_cmp ℕ). get names home) is
    ∙ (get-insert nat_cmp_total old.names home number home
    ∙ ap (λ (b : Bool). cond b (Some number) (get old.names home)) (same_home home))

pub home_set_others : (old new : NamedHomes) (home number q : ℕ) → new.names ≡ insert old.names home number
    → q ≢ home → home_name new q ≡ home_name old q
home_set_others old new home number q is differ =
    ap (λ (names : FinMap nat_cmp ℕ). get names q) is
    ∙ (get-insert nat_cmp_total old.names home number q
    ∙ ap (λ (b : Bool). cond b (Some number) (get old.names q)) (other_home q home differ))
