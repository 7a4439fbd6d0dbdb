-- How many collections a run has made, by the replies and the ends of its threads.
use Rattle.std.specs.Prelude.{ℕ, ◌+◌, ◌*◌, ◌≤◌, List, length, map, sum}
use Rattle.melt_model.specs.declared.config.Config.{Config}
use Rattle.melt_trace.specs.Script.{Script}
use Rattle.melt_safepoint.specs.declared.thread.Mode.{Mode}
use Rattle.melt_safepoint.specs.declared.thread.Mode.TheVariants.{Ended}
use Rattle.melt_safepoint.specs.declared.thread.ThreadState.{ThreadState}
use Rattle.melt_safepoint.specs.Asked.{collects, collections}
use Rattle.melt_safepoint.specs.Threads.{owing, replies_of}

-- how many threads have ended
abbrev pub over : Mode → ℕ
over (Ended e) = 1
over mode = 0

abbrev pub overs : List ThreadState → ℕ
overs states = sum (map (λ (s : ThreadState). over s.mode) states)

-- the replies of all threads
abbrev pub answers : List ThreadState → ℕ
answers states = sum (map (λ (s : ThreadState). length s.replies.items) states)

-- So many collections were made: no fewer than the replies brought, but for the silent ones that are still to come, and
-- no fewer than the `collect`s that were answered; and beyond these three at most for each reply and each end of a
-- thread. Where a call is made alone, so many were made for it that its reply, or the end of its thread, is still to
-- pay for.
pub record CountsCollections (script : Script) (config : Config) (unpaid : ℕ) (states : List ThreadState) (made : ℕ)
    : Type 0 where
  pub collected : collections script config (replies_of states) (length script.programs) ≤ made + owing states
  pub asked : collects script (replies_of states) (length script.programs) ≤ made
  pub bounded : made + owing states ≤ collections script config (replies_of states) (length script.programs)
      + 3 * (answers states + overs states) + unpaid
  pub pays : unpaid + 3 * overs states ≤ 3 * length states
