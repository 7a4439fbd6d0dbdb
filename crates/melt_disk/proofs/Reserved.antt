-- Homes that follow one another.
use Rattle.std.proofs.Common.{◌≡◌, ℕ, zero, suc, ◌+◌, ◌≤◌, ◌⊎◌, inl, inr, List, [], ◌∷◌, ◌++◌, Contains, sym, ◌∙◌, ap}
use Rattle.std.proofs.Common.{subst, arith}
use Rattle.melt_word.specs.Words.{IsShape, cost_of}
use Rattle.melt_disk.specs.Homes.{AreAdjacent, Home, LiesIn, IsApart}

pub Follow-ends : (homes : List Home) (from end : ℕ) → AreAdjacent from homes end → from ≤ end
Follow-ends [] from end follow = omega (arith, follow)
Follow-ends (home ∷ homes) from end follow = omega (arith, Follow-ends homes (from + cost_of home.shape) end follow.2)

first_lies : (first : Home) (homes : List Home) (from end : ℕ) → AreAdjacent from (first ∷ homes) end
    → LiesIn from end first
first_lies first homes from end follow =
    record {
      begins = omega (arith, follow.0);
      shape = follow.1;
      ends = omega (arith, follow.0, Follow-ends homes (from + cost_of first.shape) end follow.2);
    }

pub Follow-lies : (homes : List Home) (from end : ℕ) (home : Home) → AreAdjacent from homes end → Contains homes home
    → LiesIn from end home
Follow-lies [] from end home follow (k, below, is) = absurd (omega (arith, below))
Follow-lies (first ∷ homes) from end home follow (zero, below, is) =
    subst (λ (h : Home). LiesIn from end h) is (first_lies first homes from end follow)
Follow-lies (first ∷ homes) from end home follow (suc k, below, is) =
    let lies = Follow-lies homes (from + cost_of first.shape) end home follow.2 (k, omega (arith, below), is) in
    record { begins = omega (arith, lies.begins); shape = lies.shape; ends = lies.ends }

-- one more home after them
pub Follow-more : (homes : List Home) (from end : ℕ) (home : Home) → AreAdjacent from homes end → home.at ≡ end
    → IsShape home.shape → AreAdjacent from (homes ++ home ∷ []) (end + cost_of home.shape)
Follow-more [] from end home follow at shape = (at ∙ sym follow, shape, ap (λ n. n + cost_of home.shape) follow)
Follow-more (first ∷ homes) from end home follow at shape =
    (follow.0, follow.1, Follow-more homes (from + cost_of first.shape) end home follow.2 at shape)

-- Two of these homes are one, or have no word in common.
pub Follow-apart : (homes : List Home) (from end : ℕ) (one other : Home) → AreAdjacent from homes end
    → Contains homes one
    → Contains homes other → (one ≡ other) ⊎ IsApart one.at (cost_of one.shape) other.at (cost_of other.shape)
Follow-apart [] from end one other follow (k, below, is) also = absurd (omega (arith, below))
Follow-apart (first ∷ homes) from end one other follow (zero, below, is) (zero, below', is') = inl (sym is ∙ is')
Follow-apart (first ∷ homes) from end one other follow (zero, below, is) (suc k, below', is') =
    let lies = Follow-lies homes (from + cost_of first.shape) end other follow.2 (k, omega (arith, below'), is') in
    let ends : one.at + cost_of one.shape ≡ from + cost_of first.shape =
    ap (λ (h : Home). h.at + cost_of h.shape) (sym is) ∙ ap (λ n. n + cost_of first.shape) follow.0 in
    inr (inl (omega (arith, ends, lies.begins)))
Follow-apart (first ∷ homes) from end one other follow (suc k, below, is) (zero, below', is') =
    let lies = Follow-lies homes (from + cost_of first.shape) end one follow.2 (k, omega (arith, below), is) in
    let ends : other.at + cost_of other.shape ≡ from + cost_of first.shape =
    ap (λ (h : Home). h.at + cost_of h.shape) (sym is') ∙ ap (λ n. n + cost_of first.shape) follow.0 in
    inr (inr (omega (arith, ends, lies.begins)))
Follow-apart (first ∷ homes) from end one other follow (suc k, below, is) (suc k', below', is') =
    Follow-apart homes (from + cost_of first.shape) end one other follow.2 (k, omega (arith, below), is) (
      k',
      omega (arith, below'),
      is',
    )
