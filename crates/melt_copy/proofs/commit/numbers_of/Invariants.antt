use Rattle.std.proofs.Common.{◌≡◌, ◌+◌, ◌≤◌, length, map, take}
use Rattle.std.specs.Vec.{vec_capacity}
use Rattle.melt_scion.specs.Names.{name_at}
use Rattle.melt_copy.specs.declared.forwarding.Relocation.{Relocation}
use Rattle.melt_copy.proofs.commit.numbers_of.Given as goal

abbrev pub invariant-loop-m : goal.invariant-loop-m
invariant-loop-m g l = record {
  numbers : l.numbers.items ≡ map (λ (m : Relocation). name_at l.names m.from) (take l.m-index l.moves);
  capacity : vec_capacity l.numbers ≡ length l.moves;
  visits : l.steps ≤ l.fn.steps + l.m-index;
}
