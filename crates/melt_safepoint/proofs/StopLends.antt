-- How often readers were lent to a run that was stopped.
use Rattle.std.proofs.Common.{◌≡◌, ℕ, ◌+◌, ◌≤◌, List, length, ap, arith, subst}
use Rattle.melt_model.specs.declared.reports.Journal.{Journal}
use Rattle.melt_safepoint.specs.Lends.{LendsAtMost, LendsFew, LendsTwice}
use Rattle.melt_safepoint.specs.Rows.{StopKeeps, StopLends, StopTwice}
use Rattle.melt_safepoint.specs.declared.ending.Stop.{Stop}
use Rattle.melt_safepoint.specs.declared.ending.Stop.TheVariants.{NoMemory, Halted}
use Rattle.melt_safepoint.proofs.Lends.{lends_after, lends_more, lends_one, lends_since, lends_then}
use Rattle.melt_safepoint.proofs.Lends.{lends_twice, twice_first, twice_none, twice_then}

-- as many threads have as many readers at most
pub stop_by : (readers : ℕ → ℕ) {m n : ℕ} (more a b : ℕ) (js : List Journal) (stop : Stop) → m ≡ n
    → StopLends (readers m) more a b js stop → StopLends (readers n) more a b js stop
stop_by readers more a b js stop same lends = subst (λ (k : ℕ). StopLends (readers k) more a b js stop) same lends

pub twice_stop_by : (readers : ℕ → ℕ) {m n : ℕ} (more a b : ℕ) (js : List Journal) (stop : Stop) → m ≡ n
    → StopTwice (readers m) more a b js stop → StopTwice (readers n) more a b js stop
twice_stop_by readers more a b js stop same lends =
    subst (λ (k : ℕ). StopTwice (readers k) more a b js stop) same lends

-- in an epoch, which makes no collection
pub stop_one : (k a b : ℕ) (js : List Journal) (stop : Stop) → LendsAtMost k a b → StopKeeps js stop
    → StopLends k 1 a b js stop
stop_one k a b js NoMemory lends keeps = tt
stop_one k a b js (Halted ended) lends keeps = lends_one k a b js ended.journal.items lends keeps

-- and so for more
pub stop_more : (k : ℕ) {m : ℕ} (n a b : ℕ) (js : List Journal) (stop : Stop) → m ≤ n → StopLends k m a b js stop
    → StopLends k n a b js stop
stop_more k n a b js NoMemory less lends = tt
stop_more k n a b js (Halted ended) less lends = lends_more n less lends

-- after collections that were made meanwhile
pub stop_since : (k m : ℕ) {a b : ℕ} (c : ℕ) (js mid : List Journal) (stop : Stop) → b ≡ a → length js ≤ length mid
    → StopLends k m b c mid stop → StopLends k m a c js stop
stop_since k m c js mid NoMemory same grows lends = tt
stop_since k m c js mid (Halted ended) same grows lends =
    lends_since js same grows lends

-- one after the other
pub stop_then : {k m : ℕ} (n : ℕ) {a b : ℕ} (c : ℕ) {js mid : List Journal} (stop : Stop) → LendsFew k m a b js mid
    → StopLends k n b c mid stop → StopLends k (m + n) a c js stop
stop_then n c NoMemory first second = tt
stop_then n c (Halted ended) first second =
    lends_then first second

-- after a collection
pub stop_after : (k m : ℕ) {a b : ℕ} (c : ℕ) (js mid : List Journal) (stop : Stop) → b ≡ a → length js + 1 ≤ length mid
    → StopLends k (m + 1) b c mid stop → StopLends k m a c js stop
stop_after k m c js mid NoMemory same paid lends = tt
stop_after k m c js mid (Halted ended) same paid lends =
    lends_after m js same paid lends

-- the collections after this one pay for two epochs each
pub stop_twice : (k : ℕ) {a b : ℕ} (js mid : List Journal) (stop : Stop) → b ≡ a → length js + 1 ≤ length mid → (c : ℕ)
    → StopLends k 2 b c mid stop → StopTwice k 0 a c js stop
stop_twice k {a} js mid NoMemory same paid c lends = tt
stop_twice k {a} js mid (Halted ended) same paid c lends =
    let few : LendsFew k 1 a c js ended.journal.items =
    lends_after 1 js same paid lends in
    lends_twice k a c js ended.journal.items (omega (arith, paid, lends.grows)) few

-- none was begun
pub twice_stop_none : (k a b : ℕ) (js mid : List Journal) (stop : Stop) → b ≡ a → length js ≤ length mid
    → StopKeeps mid stop → StopTwice k 0 a b js stop
twice_stop_none k a b js mid NoMemory same grows keeps = tt
twice_stop_none k a b js mid (Halted ended) same grows keeps =
    twice_none k a b js ended.journal.items same (omega (arith, grows, ap length keeps))

-- the first one could not begin
pub twice_stop_first : (k a b : ℕ) (js : List Journal) (stop : Stop) → LendsAtMost k a b → StopKeeps js stop
    → StopTwice k 1 a b js stop
twice_stop_first k a b js NoMemory lends keeps = tt
twice_stop_first k a b js (Halted ended) lends keeps = twice_first k a b js ended.journal.items lends keeps

-- one after the other
pub twice_stop_then : {k m : ℕ} (n : ℕ) {a b : ℕ} (c : ℕ) {js mid : List Journal} (stop : Stop)
    → LendsTwice k m a b js mid → StopTwice k n b c mid stop → StopTwice k (m + n) a c js stop
twice_stop_then n c NoMemory first second = tt
twice_stop_then n c (Halted ended) first second =
    twice_then first second
