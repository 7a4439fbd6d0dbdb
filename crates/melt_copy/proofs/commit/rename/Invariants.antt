use Rattle.std.proofs.Common.{◌≡◌, ℕ, ◌+◌, ◌≤◌, length, take}
use Rattle.melt_scion.specs.Names.{name_at}
use Rattle.melt_copy.specs.Moving.{name_after}
use Rattle.melt_copy.proofs.commit.rename.Given as goal

abbrev pub invariant-loop-m : goal.invariant-loop-m
invariant-loop-m g l = record {
  names : (k : ℕ) → name_at l.names k ≡ name_after (name_at l.fn.names) (take (length l.yielded) l.moves) k;
  size : length l.names ≡ length l.fn.names;
  visits : l.steps ≤ l.fn.steps + length l.yielded;
  within : length l.yielded ≤ length l.moves;
}
