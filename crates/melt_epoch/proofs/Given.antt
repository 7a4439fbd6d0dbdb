-- How the first seat gives a seat to each of the other mutators.
use Rattle.std.proofs.Common.{◌≡◌, ℕ, suc, ◌+◌, ◌-◌, ◌<◌, ◌≤◌}
use Rattle.std.proofs.Common.{List, [], ◌∷◌, length, map, drop, get_or}
use Rattle.std.proofs.Common.{refl, sym, ◌∙◌, ap, arith}
use Rattle.melt_rule.specs.Giving.{first_away, others_away, giver_view, given_view}
use Rattle.melt_rule.specs.Rule.{first_or_0, first_view, others_of}
use Rattle.melt_rule.specs.declared.began.Start.{Start}
use Rattle.melt_rule.specs.declared.view.Away.{Away}
use Rattle.melt_rule.specs.declared.view.View.{View}
use Rattle.melt_epoch.proofs.Mutating.{get_map, map_drop}
use Rattle.melt_epoch.specs.Ends.{unseated}
use Rattle.melt_epoch.specs.Gathering.{fresh_view}
use Rattle.melt_epoch.specs.declared.mutator.Mutator.{Mutator}

-- the thread has seen the history with which the epoch begins
abbrev pub away_at : Start → ℕ → Away
away_at start t = record { thread = t; seen = start.began.history }

-- the view of the first seat, where the threads from k on have no seat yet
abbrev pub giver_at : Start → ℕ → View
giver_at start k = record (first_view start) {
  parts = length start.began.threads + 1 - k;
  away = map (away_at start) (drop k start.began.threads);
}

after_first : (start : Start) (ts : List ℕ) → map (away_at start) (others_of ts) ≡ map (away_at start) (drop 1 ts)
after_first start [] = refl
after_first start (t ∷ ts) = refl

pub giver_first : (start : Start) → first_view start ≡ giver_at start 1
giver_first start = λ i. record (first_view start) {
  parts = (let same : length start.began.threads ≡ length start.began.threads + 1 - 1 = omega arith in same) i;
  away = after_first start start.began.threads i;
}

module _ (start : Start) (k : ℕ) (below : k < length start.began.threads) where
  threads : List ℕ
  threads = start.began.threads

  next_away : map (away_at start) (drop k start.began.threads)
      ≡ away_at start (get_or start.began.threads k 0) ∷ map (away_at start) (drop (suc k) start.began.threads)
  next_away = map_drop (away_at start) start.began.threads k 0 below

  pub giver_next : giver_view (giver_at start k) ≡ giver_at start (k + 1)
  giver_next =
      let fewer : length start.began.threads + 1 - k - 1 ≡ length start.began.threads + 1 - (k + 1) = omega arith in
      let next : suc k ≡ k + 1 = omega arith in
      let away : others_away (map (away_at start) (drop k start.began.threads))
      ≡ map (away_at start) (drop (k + 1) start.began.threads) =
      ap others_away next_away ∙ ap (λ (n : ℕ). map (away_at start) (drop n start.began.threads)) next in
      λ i. record (first_view start) { parts = fewer i; away = away i }

  pub given_next : given_view (giver_at start k) ≡ fresh_view start (get_or start.began.threads k 0)
  given_next = λ i. record (first_view start) {
    parts = 1;
    thread = (first_away (next_away i)).thread;
    seen = (first_away (next_away i)).seen;
    mine = (first_away (next_away i)).seen;
    away = [];
  }

  pub some_away : 0 < length (giver_at start k).away
  some_away = let n = ap length next_away in omega arith

  pub more_parts : 2 ≤ (giver_at start k).parts
  more_parts = omega arith

-- where all threads have seats
pub giver_last : (start : Start) (k : ℕ) → k ≡ length start.began.threads
    → giver_at start k ≡ fresh_view start (get_or start.began.threads 0 0)
giver_last start k all =
    let one : length start.began.threads + 1 - k ≡ 1 = omega arith in
    λ i. record (first_view start) {
      parts = one i;
      thread = heads start.began.threads i;
      away = (ap (λ (n : ℕ). map (away_at start) (drop n start.began.threads)) all
          ∙ none start.began.threads) i;
    }
  where
    heads : (ts : List ℕ) → first_or_0 ts ≡ get_or ts 0 0
    heads [] = refl
    heads (t ∷ ts) = refl

    none : (ts : List ℕ) → map (away_at start) (drop (length ts) ts) ≡ []
    none [] = refl
    none (t ∷ ts) = none ts

module _ {R : Type 0} where
  pub same_threads : (ms : List (Mutator R))
      → map (λ (m : Mutator R). m.thread) (map unseated ms) ≡ map (λ (m : Mutator R). m.thread) ms
  same_threads [] = refl
  same_threads (m ∷ ms) = ap (λ (ts : List ℕ). m.thread ∷ ts) (same_threads ms)

  -- the thread of the k-th mutator is that of the epoch
  pub thread_at : (ms olds : List (Mutator R)) (ts : List ℕ) (k : ℕ) (d : Mutator R)
      → map unseated ms ≡ map unseated olds → map (λ (m : Mutator R). m.thread) olds ≡ ts → k < length ms
      → get_or ts k 0 ≡ (get_or ms k d).thread
  thread_at ms olds ts k d kept are below =
      let thread : Mutator R → ℕ = λ m. m.thread in
      let same : map thread ms ≡ ts =
      sym (same_threads ms) ∙ (ap (map thread) kept ∙ (same_threads olds ∙ are)) in
      ap (λ (l : List ℕ). get_or l k 0) (sym same) ∙ get_map thread ms k d 0 below
