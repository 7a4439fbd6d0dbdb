-- The search for a home tries each place once.
use Rattle.std.proofs.Common.{◌≡◌, ℕ, ◌+◌, ◌-◌, ◌*◌, ◌%◌, ◌^◌, ◌<◌, ◌≤◌, suc, zero, sym, ◌∙◌, arith}
use Rattle.std.specs.Prelude.{if◌then◌else◌, nat_lt}
use Rattle.std.proofs.Math.Nat.{mod-lt}
use Rattle.std.proofs.lemmas.Bool.Decides.{nat_tests}
use Rattle.melt_forward.specs.Forwarding.{start, probe}

start_within : (home count : ℕ) → 0 < count → start home count < count
unfolding start
start_within home count some = mod-lt (home * 2654435769 % 2 ^ 32) some

-- a place counted on from place 0, where place 0 comes after the last
abbrev wrapped : ℕ → ℕ → ℕ
wrapped count place = if nat_lt place count then place else place - count

probe_is : (home count k : ℕ) → k < count → probe home count k ≡ wrapped count (start home count + k)
probe_is home count zero below = let first = start_within home count below in grind (arith, nat_tests)
probe_is home count (suc k) below =
    let first : start home count < count = start_within home count (omega arith) in
    let before = probe_is home count k (omega arith) in
    grind (arith, nat_tests)

-- that place, by one test
pub probe_by_test : (home count k : ℕ) → k < count → let first = home * 2654435769 % 2 ^ 32 % count in
    (k < count - first → first + k ≡ probe home count k)
    × (count - first ≤ k → k - (count - first) ≡ probe home count k)
unfolding start
probe_by_test home count k below =
    let first = start_within home count (omega arith) in
    let is = probe_is home count k below in (
      λ before. grind (arith, nat_tests),
      λ after. grind (arith, nat_tests),
    )

-- the places that are tried are those of the words
pub probe_within : (home count k : ℕ) → k < count → probe home count k < count
probe_within home count k below =
    let first = start_within home count (omega arith) in
    let is = probe_is home count k below in
    grind (arith, nat_tests)

-- two tries are at two places
pub one_try : (home count i j : ℕ) → i < count → j < count → probe home count i ≡ probe home count j → i ≡ j
one_try home count i j i_below j_below same =
    let first = start_within home count (omega arith) in
    let i_is = probe_is home count i i_below in
    let j_is = probe_is home count j j_below in
    grind (arith, nat_tests)

-- the place is tried after k others, and this once among so many tries
pub record IsTriedOnce (home count place k : ℕ) : Type 0 where
  pub in_range : k < count
  pub here : probe home count k ≡ place
  pub once : (j : ℕ) → j < count → probe home count j ≡ place → j ≡ k

-- after how many others, from the start of a search on
abbrev tries : ℕ → ℕ → ℕ → ℕ
tries start count place = if nat_lt place start then place + count - start else place - start

tries_within : (start count place : ℕ) → start < count → place < count → tries start count place < count
tries_within start count place first below = grind (arith, nat_tests)

tries_reach : (start count place : ℕ) → start < count → place < count
    → wrapped count (start + tries start count place) ≡ place
tries_reach start count place first below = grind (arith, nat_tests)

pub each_place_once : (home count place : ℕ) → place < count → (k : ℕ) × IsTriedOnce home count place k
each_place_once home count place below =
    let first = start_within home count (omega arith) in
    let k = tries (start home count) count place in
    let k_below : k < count = tries_within (start home count) count place first below in
    let here = probe_is home count k k_below ∙ tries_reach (start home count) count place first below in (
      k,
      record {
        in_range = k_below;
        here = here;
        once = λ j j_below same. one_try home count j k j_below k_below (same ∙ sym here);
      },
    )
