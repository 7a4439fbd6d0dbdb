-- The words that homes need, cost by cost.
use Rattle.std.proofs.Common.{◌≡◌, ℕ, ◌+◌, ◌*◌, ◌<◌, ◌≤◌, List, length, take, get_or, sum_by, ◌∙◌, ap, zero-add, arith}
use Rattle.std.specs.List.{enumerate_from}
use Rattle.std.proofs.lemmas.List.{take_all}
use Rattle.std.proofs.lemmas.List.FromFn.{get_or-enumerate_from, length-enumerate_from}
use Rattle.std.proofs.lemmas.List.Sums.{sum_by_more, sum_by_more_le}
use Rattle.melt_disk.specs.Homes.{need_of}

abbrev pub words_of : ℕ × ℕ → ℕ
words_of entry = entry.0 * entry.1

-- the words of the homes of the costs below this one
abbrev pub need_below : List ℕ → ℕ → ℕ
need_below counts cost = sum_by words_of (take cost (enumerate_from 0 counts))

words_at_cost : (counts : List ℕ) (cost : ℕ) → cost < length counts
    → words_of (get_or (enumerate_from 0 counts) cost (0, 0)) ≡ cost * get_or counts cost 0
words_at_cost counts cost h =
    ap words_of (get_or-enumerate_from 0 counts cost (0, 0) h) ∙ ap (λ n. n * get_or counts cost 0) (zero-add cost)

pub need_below-more : (counts : List ℕ) (cost : ℕ) → cost < length counts
    → need_below counts (cost + 1) ≡ need_below counts cost + cost * get_or counts cost 0
need_below-more counts cost h =
    let within : cost < length (enumerate_from 0 counts) = omega (arith, length-enumerate_from 0 counts) in
    sum_by_more words_of (enumerate_from 0 counts) cost (0, 0) within
    ∙ ap (λ n. need_below counts cost + n) (words_at_cost counts cost h)

pub need_below-le : (counts : List ℕ) (cost : ℕ) → cost < length counts
    → need_below counts cost + cost * get_or counts cost 0 ≤ need_of counts
need_below-le counts cost h =
    let within : cost < length (enumerate_from 0 counts) = omega (arith, length-enumerate_from 0 counts) in
    let spent : need_below counts cost + words_of (get_or (enumerate_from 0 counts) cost (0, 0)) ≤ need_of counts =
    sum_by_more_le words_of (enumerate_from 0 counts) cost (0, 0) within in
    rw (words_at_cost counts cost h) at spent

pub need_below-all : (counts : List ℕ) (cost : ℕ) → length counts ≤ cost → need_below counts cost ≡ need_of counts
need_below-all counts cost h =
    let all : length (enumerate_from 0 counts) ≤ cost = omega (arith, length-enumerate_from 0 counts) in
    ap (λ (entries : List (ℕ × ℕ)). sum_by words_of entries) (take_all cost (enumerate_from 0 counts) all)
