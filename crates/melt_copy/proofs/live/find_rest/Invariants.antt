use Rattle.std.proofs.Common.{◌≡◌, ℕ, ◌+◌, ◌-◌, ◌<◌, ◌≤◌, length, take}
use Rattle.std.specs.Prelude.{slice_get, Some}
use Rattle.melt_scion.specs.State.{State}
use Rattle.melt_copy.specs.declared.forwarding.Relocation.{Relocation}
use Rattle.melt_copy.specs.Moving.{words_in}
use Rattle.melt_copy.specs.Tracking.{Grows, Tracks, goes}
use Rattle.melt_copy.specs.Reaching.{FindsSlots}
use Rattle.melt_copy.proofs.live.find_rest.Given as goal

abbrev pub invariant-loop-done : goal.invariant-loop-done
invariant-loop-done g l = record {
  within : l.done ≤ length l.forwarding.moves.items;
  finds : (s : State) → Tracks l.space s l.fn.forwarding → (k : ℕ) (m : Relocation) → k < l.done
      → slice_get l.forwarding.moves.items k ≡ Some m → FindsSlots s (goes l.forwarding) m;
  grows : Grows l.fn.forwarding l.forwarding;
  tracks : (s : State) → Tracks l.space s l.fn.forwarding → Tracks l.space s l.forwarding;
  visits : l.steps ≤ l.fn.steps + words_in (take l.done l.forwarding.moves.items);
}

abbrev pub decreases-loop-done : goal.decreases-loop-done
decreases-loop-done g l = l.space.used + 1 - l.done
