-- The names that are made of the maps of a heap that keeps none are those maps.
use Rattle.std.proofs.Common.{◌≡◌, ◌≢◌, ℕ, zero, suc, ◌+◌, ◌<◌, ◌≤◌, List, [], ◌∷◌, length, false, refl, sym, ◌∙◌}
use Rattle.std.proofs.Common.{ap, arith, inl, inr, cond}
use Rattle.std.proofs.lemmas.Bool.{cases_lt}
use Rattle.std.proofs.lemmas.Bool.Decides.{nat_tests}
use Rattle.std.proofs.lemmas.List.{get_or_past}
use Rattle.std.specs.Cmp.{nat_cmp_total}
use Rattle.std.specs.FinMap.{find, from_entries, get, get-from_entries}
use Rattle.std.specs.Option.{is_some}
use Rattle.std.specs.Ordering.{eq_by_cmp, nat_cmp}
use Rattle.std.specs.Prelude.{◌==◌, Bool, Option, None, Some, replicate, slice_index_or}
use Rattle.melt_scion.specs.GhostMaps.{NamePairs, named, no_pairs}
use Rattle.melt_scion.specs.Heaps.{no_names}
use Rattle.melt_scion.specs.Names.{name_at}
use Rattle.melt_core.specs.Views.{names_along, names_for}

-- there is a name for each address
pub along_length : (pairs : List (ℕ × ℕ)) (most from : ℕ) → length (names_along pairs most from) ≡ most
along_length pairs zero from = refl
along_length pairs (suc most) from = let rest = along_length pairs most (suc from) in omega (arith, rest)

-- which is the one that the pairs give
along_at : (pairs : List (ℕ × ℕ)) (most from k a : ℕ) → from + k ≡ a → k < most
    → slice_index_or (names_along pairs most from) k None ≡ named pairs a
along_at pairs zero from k a at below = absurd (omega (arith, below))
along_at pairs (suc most) from zero a at below =
    let same : from ≡ a = omega (arith, at) in ap (named pairs) same
along_at pairs (suc most) from (suc k) a at below =
    along_at pairs most (suc from) k a (omega (arith, at)) (omega (arith, below))

none_named : (pairs : List (ℕ × ℕ)) (a : ℕ) → ((n : ℕ) → named pairs a ≡ Some n → ⊥) → named pairs a ≡ None
none_named pairs a none = by_name (named pairs a) refl
  where
    by_name : (o : Option ℕ) → named pairs a ≡ o → o ≡ None
    by_name None is = refl
    by_name (Some n) is = absurd (none n is)

-- so it is at each address of a word
pub names_inside : (pairs : List (ℕ × ℕ)) (words a : ℕ) → 1 ≤ a → a ≤ words
    → name_at (names_along pairs words 1) a ≡ named pairs a
names_inside pairs words zero first last = absurd (omega (arith, first))
names_inside pairs words (suc k) first last = along_at pairs words 1 k (suc k) (omega arith) (omega (arith, last))

-- and no other has a name
pub names_outside : (pairs : List (ℕ × ℕ)) (words a : ℕ) → words < a → name_at (names_along pairs words 1) a ≡ None
names_outside pairs words zero past = absurd (omega (arith, past))
names_outside pairs words (suc k) past =
    get_or_past (names_along pairs words 1) k None
    (let size = along_length pairs words 1 in omega (arith, size, past))

-- where the pairs name no address past the last one, that is so of all addresses
pub names_are : (pairs : List (ℕ × ℕ)) (words : ℕ)
    → ((a n : ℕ) → named pairs a ≡ Some n → (1 ≤ a) × (a ≤ words)) → (a : ℕ)
    → name_at (names_along pairs words 1) a ≡ named pairs a
names_are pairs words within zero =
    sym (none_named pairs 0 (λ n is. let first : 1 ≤ 0 = (within 0 n is).0 in omega (arith, first)))
names_are pairs words within (suc k) = elim (cases_lt words (suc k)) [
  | inl past ↦ names_outside pairs words (suc k) past
      ∙ sym (none_named pairs (suc k) (λ n is.
      let last : suc k ≤ words = (within (suc k) n is).1 in omega (arith, last, past)))
  | inr last ↦ names_inside pairs words (suc k) (omega arith) (omega (arith, last))
]

-- numbers that the order does not tell apart
tied : (x y : ℕ) → eq_by_cmp nat_cmp x y ≡ (y == x)
tied x y = grind (arith, nat_tests)

found : (pairs : List (ℕ × ℕ)) (home : ℕ) → find nat_cmp home pairs ≡ named pairs home
found [] home = refl
found (pair ∷ pairs) home =
    ap (λ (b : Bool). cond b (Some pair.1) (find nat_cmp home pairs)) (tied home pair.0)
    ∙ ap (cond (pair.0 == home) (Some pair.1)) (found pairs home)

pub homes_are : (pairs : List (ℕ × ℕ)) (home : ℕ) → get (from_entries {R = nat_cmp} pairs) home ≡ named pairs home
homes_are pairs home = get-from_entries nat_cmp_total pairs home ∙ found pairs home

pub is_none : {A : Type 0} (o : Option A) → is_some o ≡ false → o ≡ None
is_none None none = refl
is_none (Some x) none = absurd (cc)

-- without pairs nothing is named
along_none : (most from : ℕ) → names_along [] most from ≡ replicate most None
along_none zero from = refl
along_none (suc most) from = ap (λ (names : List (Option ℕ)). None ∷ names) (along_none most (suc from))

pub names_none : (words : ℕ) → names_for words no_pairs ≡ no_names words
names_none words =
    ap (λ (names : List (Option ℕ)). record (names_for words no_pairs) { addresses = names }) (along_none words 1)

-- The pairs that give these names to the addresses from one on.
abbrev pub pairs_along : ℕ → List (Option ℕ) → List (ℕ × ℕ)
pairs_along from [] = []
pairs_along from (None ∷ names) = pairs_along (suc from) names
pairs_along from (Some n ∷ names) = (from, n) ∷ pairs_along (suc from) names

pub pair_here : (from n a : ℕ) (pairs : List (ℕ × ℕ)) → from ≡ a → named ((from, n) ∷ pairs) a ≡ Some n
pair_here from n a pairs at = grind (arith, nat_tests, at)

pub pair_unlike : (from n a : ℕ) (pairs : List (ℕ × ℕ)) → a ≢ from → named ((from, n) ∷ pairs) a ≡ named pairs a
pair_unlike from n a pairs other = grind (arith, nat_tests, other)

-- they name no address before it
pairs_before : (from : ℕ) (names : List (Option ℕ)) (a : ℕ) → a < from → named (pairs_along from names) a ≡ None
pairs_before from [] a before = refl
pairs_before from (None ∷ names) a before = pairs_before (suc from) names a (omega (arith, before))
pairs_before from (Some n ∷ names) a before =
    pair_unlike from n a (pairs_along (suc from) names) (λ e. omega (arith, e, before))
    ∙ pairs_before (suc from) names a (omega (arith, before))

-- and from it on each as the names do
pairs_at : (from : ℕ) (names : List (Option ℕ)) (k a : ℕ) → from + k ≡ a
    → named (pairs_along from names) a ≡ slice_index_or names k None
pairs_at from [] k a at = refl
pairs_at from (None ∷ names) zero a at = pairs_before (suc from) names a (omega (arith, at))
pairs_at from (None ∷ names) (suc k) a at = pairs_at (suc from) names k a (omega (arith, at))
pairs_at from (Some n ∷ names) zero a at = pair_here from n a (pairs_along (suc from) names) (omega (arith, at))
pairs_at from (Some n ∷ names) (suc k) a at =
    pair_unlike from n a (pairs_along (suc from) names) (λ e. omega (arith, e, at))
    ∙ pairs_at (suc from) names k a (omega (arith, at))

-- names are the same where the pairs are for these addresses
along_same : (p q : List (ℕ × ℕ)) (most from : ℕ)
    → ((k a : ℕ) → from + k ≡ a → k < most → named p a ≡ named q a) → names_along p most from ≡ names_along q most from
along_same p q zero from same = refl
along_same p q (suc most) from same =
    ap (λ (o : Option ℕ). o ∷ names_along p most (suc from)) (same 0 from (omega arith) (omega arith))
    ∙ ap (λ (names : List (Option ℕ)). named q from ∷ names)
    (along_same p q most (suc from) (λ k a at below. same (suc k) a (omega (arith, at)) (omega (arith, below))))

-- The same names by pairs of these addresses alone.
abbrev pub within_pairs : ℕ → NamePairs → NamePairs
within_pairs words pairs =
    record { addresses = pairs_along 1 (names_along pairs.addresses words 1); homes = pairs.homes }

pub within_same : (words : ℕ) (pairs : NamePairs) → names_for words (within_pairs words pairs) ≡ names_for words pairs
within_same words pairs =
    ap (λ (names : List (Option ℕ)). record (names_for words pairs) { addresses = names })
    (along_same (within_pairs words pairs).addresses pairs.addresses words 1 (λ k a at below.
    pairs_at 1 (names_along pairs.addresses words 1) k a at ∙ along_at pairs.addresses words 1 k a at below))

pub within_words : (words : ℕ) (pairs : NamePairs) (a n : ℕ) → named (within_pairs words pairs).addresses a ≡ Some n
    → (1 ≤ a) × (a ≤ words)
within_words words pairs zero n is =
    absurd (let e : None ≡ Some n = sym (pairs_before 1 (names_along pairs.addresses words 1) 0 (omega arith)) ∙ is in cc)
within_words words pairs (suc k) n is = elim (cases_lt k words) [
  | inl below ↦ (omega arith, omega (arith, below))
  | inr past ↦ absurd (let e : None ≡ Some n =
      sym (get_or_past (names_along pairs.addresses words 1) k None
      (let size = along_length pairs.addresses words 1 in omega (arith, size, past)))
      ∙ (sym (pairs_at 1 (names_along pairs.addresses words 1) k (suc k) (omega arith)) ∙ is) in cc)
]
