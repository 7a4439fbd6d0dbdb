-- What the rounds are where a draw or the number of the round decides.
use Rattle.std.proofs.Common.{◌≡◌, ◌≢◌, ℕ, zero, suc, ◌+◌, ◌-◌, ◌*◌, ◌%◌, ◌<◌, ◌≤◌, ◌^◌, [], ◌∷◌, refl, ap, ◌∙◌, arith}
use Rattle.std.proofs.lemmas.Bool.{ne_eqb}
use Rattle.std.proofs.Math.Nat.{pow-succ'}
use Rattle.std.specs.Int.{bit_at}
use Rattle.std.specs.Int.Count.{leading_unique}
use Rattle.melt_model.specs.declared.operations.Op.TheVariants as op
use Rattle.melt_gen.specs.Workloads.{front_round, look_round, highest, way, leaf, tree_round}

pub front_odd : (a w k : ℕ) → 0 < k → w % 2 ≡ 1 → front_round a w k ≡ op.GLoad 2 a ∷ op.Load 2 2 0 ∷ op.GStore a 2 ∷ []
front_odd a w zero some odd = absurd (omega arith)
front_odd a w (suc k) some odd = rw odd refl

pub front_even : (a w k : ℕ) → 0 < k → w % 2 ≡ 0 → front_round a w k ≡ []
front_even a w zero some even = absurd (omega arith)
front_even a w (suc k) some even = rw even refl

pub look_sixteenth : (v k : ℕ) → k % 16 ≡ 15 → look_round v k ≡ op.Load 2 0 (v % 4) ∷ op.Get 2 0 ∷ []
look_sixteenth v k e = rw e refl

pub look_other : (v k : ℕ) → k % 16 ≢ 15 → look_round v k ≡ []
look_other v k ne = rw (ne_eqb (k % 16) 15 ne) refl

-- the one place with a power of 2 at most n, of which twice is above n
pub highest_is : (n i : ℕ) → i < 32 → 2 ^ i ≤ n → n < 2 * 2 ^ i → highest n ≡ i
highest_is n i small low high =
    let on : i + 1 ≡ suc i = omega arith in
    let double : 2 ^ (i + 1) ≡ 2 * 2 ^ i = ap (λ (j : ℕ). 2 ^ j) on ∙ pow-succ' 2 i in
    let zeros = leading_unique 32 n (31 - i) (i + 1) (omega arith) (omega (arith, double)) (omega (arith, double)) in
    omega (arith, zeros)

pub way_step : (n i : ℕ) → 0 < i → way n i ≡ op.Load 0 0 (bit_at n i) ∷ way n (i - 1)
way_step n zero some = absurd (omega arith)
way_step n (suc i) some =
    let same : i ≡ suc i - 1 = omega arith in
    ap (λ (j : ℕ). op.Load 0 0 (bit_at n (suc i)) ∷ way n j) same

pub leaf_round : (t w k : ℕ) → 0 < k → tree_round t w k ≡ leaf t w (k + 1)
leaf_round t w zero some = absurd (omega arith)
leaf_round t w (suc k) some = refl
