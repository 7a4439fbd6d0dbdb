-- How often readers are lent, beside the collections that are made.
use Rattle.std.proofs.Common.{◌≡◌, ℕ, ◌+◌, ◌*◌, ◌≤◌, zero, suc, List, [], ◌∷◌, length, ◌∙◌}
use Rattle.std.proofs.Common.{ap, arith, inl, inr, length-append, subst, sym}
use Rattle.melt_model.specs.declared.config.Config.{Config}
use Rattle.melt_model.specs.declared.reports.Journal.{Journal}
use Rattle.melt_model.specs.declared.reports.Phase.{Phase}
use Rattle.melt_model.specs.declared.reports.Report.{Report}
use Rattle.melt_trace.specs.Script.{Script}
use Rattle.melt_safepoint.specs.declared.thread.ThreadState.{ThreadState}
use Rattle.melt_safepoint.specs.Threads.{AllEnded, SomeGoesOn}
use Rattle.melt_safepoint.specs.Journals.{OneMore, Planned}
use Rattle.melt_safepoint.specs.Run.{CountsLends, HasNoOperations, HasRisen}
use Rattle.melt_safepoint.specs.Lends.{LendsAtMost, LendsFew, LendsTwice}
use Rattle.melt_safepoint.specs.Rows.{KeepsRun, Row, SomeStands}
use Rattle.melt_safepoint.specs.Shown.{Shown}

-- one collection more is one entry more
pub one_longer : {phase : Phase} {js later : List Journal} → OneMore phase js later → length later ≡ length js + 1
one_longer {phase} {js} {later} more = ap length more.journal ∙ length-append js (more.entry ∷ [])

-- and so many are so many
pub planned_longer : (config : Config) (n : ℕ) (js later : List Journal) → Planned config n js later
    → length later ≡ length js + n
planned_longer config zero js later planned = omega (arith, ap length planned)
planned_longer config (suc n) js later planned =
    omega (arith, planned_longer config n js planned.0 planned.1, one_longer planned.2)

-- a count that has risen, and has risen on
pub risen_then : (a b c : ℕ) → HasRisen a b → HasRisen b c → HasRisen a c
risen_then a b c first second = elim second [
  | inl on ↦ elim first [ inl up ↦ inl (omega (arith, up, on)) | inr full ↦ inr (omega (arith, full, on)) ]
  | inr full ↦ inr full
]

-- a count that stays has risen
pub risen_same : (a b : ℕ) → b ≡ a → HasRisen a b
risen_same a b same = inl (omega (arith, same))

-- so many readers for each of so many epochs, and of so many more
readers_sum : (k m n : ℕ) → k * (m + n) ≡ k * m + k * n
readers_sum k m n = grind arith

readers_none : (k : ℕ) → k * 0 ≡ 0
readers_none k = grind arith

readers_one : (k : ℕ) → k * 1 ≡ k
readers_one k = grind arith

-- as many threads have as many readers at most
pub most_by : (readers : ℕ → ℕ) {m n a b : ℕ} → m ≡ n → LendsAtMost (readers m) a b → LendsAtMost (readers n) a b
most_by readers {m} {n} {a} {b} same lends = subst (λ (k : ℕ). LendsAtMost (readers k) a b) same lends

pub few_by : (readers : ℕ → ℕ) {m n more a b : ℕ} {js later : List Journal} → m ≡ n
    → LendsFew (readers m) more a b js later → LendsFew (readers n) more a b js later
few_by readers {m} {n} {more} {a} {b} {js} {later} same lends =
    subst (λ (k : ℕ). LendsFew (readers k) more a b js later) same lends

pub twice_by : (readers : ℕ → ℕ) {m n more a b : ℕ} {js later : List Journal} → m ≡ n
    → LendsTwice (readers m) more a b js later → LendsTwice (readers n) more a b js later
twice_by readers {m} {n} {more} {a} {b} {js} {later} same lends =
    subst (λ (k : ℕ). LendsTwice (readers k) more a b js later) same lends

-- and a run that goes on has as many threads as before
pub as_many : (shown later : Shown) (old new : Row) → SomeStands shown old → KeepsRun shown later old new
    → length new.states ≡ length old.states
as_many shown later old new was keeps =
    (keeps was.0 was.1 was.2 was.3).table.count ∙ sym was.3.table.count

-- one epoch was begun, and no collection made
pub lends_one : (k a b : ℕ) (js later : List Journal) → LendsAtMost k a b → later ≡ js → LendsFew k 1 a b js later
lends_one k a b js later lends same = record {
  epochs = 1;
  lent = omega (arith, lends.few, readers_one k);
  few = omega (arith, ap length same);
  grows = omega (arith, ap length same);
  rises = lends.rises;
}

-- none was
pub lends_none : (k a b : ℕ) (js later : List Journal) → b ≡ a → length js ≤ length later → LendsFew k 0 a b js later
lends_none k a b js later is grows = record {
  epochs = 0;
  lent = omega (arith, is, readers_none k);
  few = omega (arith, grows);
  grows = grows;
  rises = risen_same a b is;
}

-- where no more than so many were begun, no more than more
pub lends_more : {k m : ℕ} (n : ℕ) {a b : ℕ} {js later : List Journal} → m ≤ n → LendsFew k m a b js later
    → LendsFew k n a b js later
lends_more n less lends = record {
  epochs = lends.epochs;
  lent = lends.lent;
  few = omega (arith, less, lends.few);
  grows = lends.grows;
  rises = lends.rises;
}

-- and so after collections that were made meanwhile
pub lends_since : {k m a b c : ℕ} (js : List Journal) {mid later : List Journal} → b ≡ a → length js ≤ length mid
    → LendsFew k m b c mid later → LendsFew k m a c js later
lends_since {a} {b} {c} js same grows lends = record {
  epochs = lends.epochs;
  lent = omega (arith, lends.lent, same);
  few = omega (arith, grows, lends.few);
  grows = omega (arith, grows, lends.grows);
  rises = risen_then a b c (risen_same a b same) lends.rises;
}

-- one after the other
pub lends_then : {k m n a b c : ℕ} {js mid later : List Journal} → LendsFew k m a b js mid → LendsFew k n b c mid later
    → LendsFew k (m + n) a c js later
lends_then {k} {a} {b} {c} first second = record {
  epochs = first.epochs + second.epochs;
  lent = omega (arith, first.lent, second.lent, readers_sum k first.epochs second.epochs);
  few = omega (arith, first.few, second.few);
  grows = omega (arith, first.grows, second.grows);
  rises = risen_then a b c first.rises second.rises;
}

-- a collection that was made pays for an epoch after it
pub lends_after : {k : ℕ} (m : ℕ) {a b c : ℕ} (js : List Journal) {mid later : List Journal} → b ≡ a
    → length js + 1 ≤ length mid → LendsFew k (m + 1) b c mid later → LendsFew k m a c js later
lends_after m {a} {b} {c} js same paid lends = record {
  epochs = lends.epochs;
  lent = omega (arith, lends.lent, same);
  few = omega (arith, paid, lends.few);
  grows = omega (arith, paid, lends.grows);
  rises = risen_then a b c (risen_same a b same) lends.rises;
}

-- it pays for two
pub lends_twice : (k a b : ℕ) (js later : List Journal) → length js + 1 ≤ length later → LendsFew k 1 a b js later
    → LendsTwice k 0 a b js later
lends_twice k a b js later more lends = record {
  epochs = lends.epochs;
  lent = lends.lent;
  few = omega (arith, lends.few, more);
  rises = lends.rises;
}

-- where none was begun, none is paid for
pub twice_none : (k a b : ℕ) (js later : List Journal) → b ≡ a → length js ≤ length later → LendsTwice k 0 a b js later
twice_none k a b js later is grows = record {
  epochs = 0;
  lent = omega (arith, is, readers_none k);
  few = omega (arith, grows);
  rises = risen_same a b is;
}

-- the first epoch is paid for by nothing
pub twice_first : (k a b : ℕ) (js later : List Journal) → LendsAtMost k a b → later ≡ js → LendsTwice k 1 a b js later
twice_first k a b js later lends same = record {
  epochs = 1;
  lent = omega (arith, lends.few, readers_one k);
  few = omega (arith, ap length same);
  rises = lends.rises;
}

-- one after the other
pub twice_then : {k m n a b c : ℕ} {js mid later : List Journal} → LendsTwice k m a b js mid
    → LendsTwice k n b c mid later → LendsTwice k (m + n) a c js later
twice_then {k} {a} {b} {c} first second = record {
  epochs = first.epochs + second.epochs;
  lent = omega (arith, first.lent, second.lent, readers_sum k first.epochs second.epochs);
  few = omega (arith, first.few, second.few);
  rises = risen_then a b c first.rises second.rises;
}

-- some thread has not ended, or all have
pub all_not_some : (states : List ThreadState) → SomeGoesOn states → AllEnded states → ⊥
all_not_some states some all = some.1.2 (all some.0 some.1.0 some.1.1)

-- what a run that had made no collection leaves of the count of lends
pub counts_lends : {k : ℕ} (script : Script) (report : Report) {a b : ℕ} {js later : List Journal} → js ≡ []
    → report.journal ≡ later → LendsTwice k 1 a b js later → (HasNoOperations script → b ≡ a)
    → CountsLends k script report a b
counts_lends script report none is twice idle = record {
  epochs = twice.epochs;
  lent = twice.lent;
  few = omega (arith, twice.few, ap length none, ap length is);
  rises = twice.rises;
  none = idle;
}
