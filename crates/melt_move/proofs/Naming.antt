-- The names of new homes, one after the other.
use Rattle.std.proofs.Common.{◌≡◌, ◌≢◌, ℕ, zero, suc, ◌+◌, ◌-◌, ◌<◌, ◌≤◌, List, [], ◌∷◌, length, take, eqb, refl}
use Rattle.std.proofs.Common.{sym, ◌∙◌, ap, subst, arith, inl, inr}
use Rattle.std.specs.Prelude.{slice_get, Option, None, Some, Bool, true, false, if◌then◌else◌}
use Rattle.std.proofs.lemmas.Bool.{cases_eq, eq-eqb, ne_eqb, cond-true, cond-false}
use Rattle.std.proofs.lemmas.Option.{same_Some, slice_get_within}
use Rattle.melt_word.specs.Words.{cost_of}
use Rattle.melt_scion.specs.GhostMaps.{NamePairs, named}
use Rattle.melt_scion.specs.declared.heap.Names.{Names}
use Rattle.melt_copy.specs.Copied.{with_number}
use Rattle.melt_move.specs.declared.homes.Given.{Given}
use Rattle.melt_move.specs.declared.homes.NewHomes.{NewHomes}
use Rattle.melt_move.specs.Plans.{need_for}
use Rattle.melt_move.specs.NamedHomes.{NamesGiven, NamesHomesOf, home_at}
use Rattle.melt_move.proofs.Needs.{need-cons, need-before}

-- the words of the first homes and one more
pub need-next : (given : List Given) (i : ℕ) (g : Given) → slice_get given i ≡ Some g
    → need_for (take (suc i) given) ≡ need_for (take i given) + cost_of g.shape
need-next [] i g at = absurd (cc)
need-next (x ∷ given) zero g at =
    let cost = ap (λ (y : Given). cost_of y.shape) (same_Some x g at) in omega (arith, cost, need-cons x [])
need-next (x ∷ given) (suc i) g at =
    omega (arith, need-next given i g at, need-cons x (take (suc i) given), need-cons x (take i given))

-- each home begins before the next one
pub home_at-before : (homes : NewHomes) (i j : ℕ) (g : Given) → slice_get homes.given.items i ≡ Some g → i < j
    → home_at homes i < home_at homes j
home_at-before homes i j g at before = omega (arith, need-before homes.given.items i j g at before)

-- where a home ends
pub home_at-next : (homes : NewHomes) (i : ℕ) (g : Given) → slice_get homes.given.items i ≡ Some g
    → home_at homes (i + 1) ≡ home_at homes i + cost_of g.shape
home_at-next homes i g at =
    let one : i + 1 ≡ suc i = omega arith in
    ap (home_at homes) one ∙ omega (arith, need-next homes.given.items i g at)

-- a place is spare less at most
pub spare_falls : (known : Bool) (before after : ℕ) → after ≡ (if known then before else before - 1)
    → before ≤ after + 1
spare_falls true before after is = omega arith
spare_falls false before after is = omega arith

-- The first new homes, so many of them, have the numbers of their objects, and other homes are named as before.
pub record NamesFirst (homes : NewHomes) (count : ℕ) (number old new : ℕ → Option ℕ) : Type 0 where
  pub each : (k n : ℕ) (g : Given) → k < count → slice_get homes.given.items k ≡ Some g → number g.from ≡ Some n
      → new (home_at homes k) ≡ Some n
  pub others : (home : ℕ)
      → ((k : ℕ) (g : Given) → k < count → slice_get homes.given.items k ≡ Some g → home ≢ home_at homes k)
      → new home ≡ old home

-- one home more, where its object has a number
pub names_more : {homes : NewHomes} {count m : ℕ} {g : Given} {found : Option ℕ} {number old before : ℕ → Option ℕ}
    (after : ℕ → Option ℕ) → slice_get homes.given.items count ≡ Some g → NamesFirst homes count number old before
    → found ≡ number g.from → found ≡ Some m → after (home_at homes count) ≡ Some m
    → ((q : ℕ) → q ≢ home_at homes count → after q ≡ before q) → NamesFirst homes (count + 1) number old after
names_more {homes} {count} {m} {g} {number} after at names found_is some here others = record {
  each = λ k n x below there numbered. elim (cases_eq k count) [
    | inl same ↦
        let both : Some x ≡ Some g = sym there ∙ (ap (slice_get homes.given.items) same ∙ at) in
        let one : x ≡ g = same_Some x g both in
        let is : number g.from ≡ Some n = ap (λ (y : Given). number y.from) (sym one) ∙ numbered in
        let number_is : Some m ≡ Some n = sym some ∙ (found_is ∙ is) in
        ap (λ (i : ℕ). after (home_at homes i)) same ∙ (here ∙ number_is)
    | inr other ↦
        let less : k < count = omega (arith, below, other) in
        let apart = home_at-before homes k count x there less in
        others (home_at homes k) (λ same. omega (arith, same, apart)) ∙ names.each k n x less there numbered
  ];
  others = λ home free.
      others home (free count g (omega arith) at)
      ∙ names.others home (λ k x below there. free k x (omega (arith, below)) there);
}

-- and where it has none
pub names_same : {homes : NewHomes} {count : ℕ} {g : Given} {found : Option ℕ} {number old now : ℕ → Option ℕ}
    → slice_get homes.given.items count ≡ Some g → NamesFirst homes count number old now → found ≡ number g.from
    → found ≡ None → NamesFirst homes (count + 1) number old now
names_same {homes} {count} {g} {number} at names found_is none = record {
  each = λ k n x below there numbered. elim (cases_eq k count) [
    | inl same ↦
        let both : Some x ≡ Some g = sym there ∙ (ap (slice_get homes.given.items) same ∙ at) in
        let one : x ≡ g = same_Some x g both in
        let is : number g.from ≡ Some n = ap (λ (y : Given). number y.from) (sym one) ∙ numbered in
        let number_is : None ≡ Some n = sym none ∙ (found_is ∙ is) in
        absurd (cc)
    | inr other ↦ names.each k n x (omega (arith, below, other)) there numbered
  ];
  others = λ home free. names.others home (λ k x below there. free k x (omega (arith, below)) there);
}

-- all of them
pub names_all : (homes : NewHomes) (count : ℕ) (number old new : ℕ → Option ℕ) → length homes.given.items ≡ count
    → NamesFirst homes count number old new → NamesGiven homes number old new
names_all homes count number old new whole names = record {
  each = λ k n g at. names.each k n g (omega (arith, slice_get_within homes.given.items k g at, whole)) at;
  others = λ home free. names.others home (λ k g below at. free k g at);
}

-- the pairs of the homes from one on, in front of others
abbrev pub given_pairs : List (ℕ × ℕ) → ℕ → List Given → List (ℕ × ℕ) → List (ℕ × ℕ)
given_pairs addresses home [] pairs = pairs
given_pairs addresses home (g ∷ given) pairs =
    with_number home (named addresses g.from) (given_pairs addresses (home + cost_of g.shape) given pairs)

-- the names of a heap that keeps none
abbrev pub given_names : NamePairs → NewHomes → NamePairs
given_names old homes = record {
  addresses = old.addresses;
  homes = given_pairs old.addresses homes.first homes.given.items old.homes;
}

-- another home than that of the first pair
passed : (home q : ℕ) (o : Option ℕ) (pairs : List (ℕ × ℕ)) → home ≢ q
    → named (with_number home o pairs) q ≡ named pairs q
passed home q None pairs other = refl
passed home q (Some n) pairs other = cond-false (eqb home q) (Some n) (named pairs q) (ne_eqb home q other)

hit : (home q n : ℕ) (o : Option ℕ) (pairs : List (ℕ × ℕ)) → home ≡ q → o ≡ Some n
    → named (with_number home o pairs) q ≡ Some n
hit home q n None pairs same is = absurd (cc)
hit home q n (Some m) pairs same is = cond-true (eqb home q) (Some m) (named pairs q) (eq-eqb home q same) ∙ is

offset_after : (home cost : ℕ) (g : Given) (given : List Given) (k : ℕ) → cost ≡ cost_of g.shape
    → home + cost + need_for (take k given) ≡ home + need_for (take (suc k) (g ∷ given))
offset_after home cost g given k is = omega (arith, is, need-cons g (take k given))

pairs_each : (addresses : List (ℕ × ℕ)) (home : ℕ) (given : List Given) (pairs : List (ℕ × ℕ)) (k : ℕ) {n : ℕ}
    {g : Given} → slice_get given k ≡ Some g → named addresses g.from ≡ Some n
    → named (given_pairs addresses home given pairs) (home + need_for (take k given)) ≡ Some n
pairs_each addresses home [] pairs k {n} {g} at is = absurd (cc)
pairs_each addresses home (x ∷ given) pairs zero {n} {g} at is =
    let one : x ≡ g = same_Some x g at in
    hit home (home + need_for []) n (named addresses x.from)
    (given_pairs addresses (home + cost_of x.shape) given pairs) (omega arith)
    (ap (λ (y : Given). named addresses y.from) one ∙ is)
pairs_each addresses home (x ∷ given) pairs (suc k) {n} {g} at is =
    let q : ℕ = home + need_for (take (suc k) (x ∷ given)) in
    let next = offset_after home (cost_of x.shape) x given k refl in
    let rest : List (ℕ × ℕ) = given_pairs addresses (home + cost_of x.shape) given pairs in
    passed home q (named addresses x.from) rest (omega (arith, need-cons x (take k given)))
    ∙ (ap (named rest) (sym next) ∙ pairs_each addresses (home + cost_of x.shape) given pairs k at is)

pairs_others : (addresses : List (ℕ × ℕ)) (home : ℕ) (given : List Given) (pairs : List (ℕ × ℕ)) (q : ℕ)
    → ((k : ℕ) (g : Given) → slice_get given k ≡ Some g → q ≢ home + need_for (take k given))
    → named (given_pairs addresses home given pairs) q ≡ named pairs q
pairs_others addresses home [] pairs q free = refl
pairs_others addresses home (x ∷ given) pairs q free =
    let rest : List (ℕ × ℕ) = given_pairs addresses (home + cost_of x.shape) given pairs in
    passed home q (named addresses x.from) rest (λ same. free 0 x refl (omega (arith, same)))
    ∙ pairs_others addresses (home + cost_of x.shape) given pairs q
    (λ k g at same. free (suc k) g at (same ∙ offset_after home (cost_of x.shape) x given k refl))

-- the pairs name each new home, and no other anew
pub pairs_given : (old : NamePairs) (homes : NewHomes)
    → NamesGiven homes (named old.addresses) (named old.homes) (named (given_names old homes).homes)
pairs_given old homes = record {
  each = λ k n g. pairs_each old.addresses homes.first homes.given.items old.homes k {n = n} {g = g};
  others = λ home. pairs_others old.addresses homes.first homes.given.items old.homes home;
}

-- a heap that keeps no names
pub names_none : (homes : NewHomes) (names : Option Names) (old new : NamePairs) → names ≡ None
    → new ≡ given_names old homes → NamesHomesOf homes names old names new
names_none homes None old new none is = (
  subst (λ (pairs : NamePairs). NamesGiven homes (named old.addresses) (named old.homes) (named pairs.homes)) (sym is)
      (pairs_given old homes),
  ap (λ (pairs : NamePairs). pairs.addresses) is,
)
names_none homes (Some names) old new none is = absurd (cc)
