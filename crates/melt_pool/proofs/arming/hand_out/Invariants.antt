use Rattle.std.proofs.Common.{◌≡◌, ◌<◌, ◌≤◌, ℕ, length}
use Rattle.std.specs.Prelude.{slice_get, vec_capacity}
use Rattle.melt_pool.proofs.Armed.{DoneFrom, HandedAt}
use Rattle.melt_pool.proofs.arming.hand_out.Given as goal

abbrev pub invariant-loop-state : goal.invariant-loop-state
invariant-loop-state g l = record {
  few : length l.states.items ≤ length l.fn.states.items;
  front : (t : ℕ) → t < length l.states.items → slice_get l.states.items t ≡ slice_get l.fn.states.items t;
  done : DoneFrom (HandedAt l.fn.states.items) (length l.states.items) l.fn.mutators l.mutators;
  room : vec_capacity l.states ≡ vec_capacity l.fn.states;
}

abbrev pub decreases-loop-state : goal.decreases-loop-state
decreases-loop-state g l = length l.states.items
