-- What the tests of epochs need of threads.
use Rattle.std.specs.Prelude.{◌≡◌, ℕ, true, List, [], Some, slice_get}
use Rattle.melt_trace.specs.Script.{Script}
use Rattle.melt_epoch.specs.declared.mutator.Mutator.{Mutator}
use Rattle.melt_safepoint.specs.declared.thread.ThreadState.{ThreadState}
use Rattle.melt_pool.specs.Epochs.{Rests}
use Rattle.melt_pool.specs.declared.worker.Worker.{Worker}

-- a thread of the script before an epoch with the empty history
abbrev pub IsNew : {R : Type 0} → Script → Mutator (Worker R) → Type 0
IsNew script m = (s : ThreadState) × Rests true script [] s m

-- and so each of these
abbrev pub AllNew : {R : Type 0} → Script → List (Mutator (Worker R)) → Type 0
AllNew {R} script ms = (k : ℕ) (m : Mutator (Worker R)) → slice_get ms k ≡ Some m → IsNew script m
