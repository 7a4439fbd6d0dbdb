use Rattle.std.proofs.Common.{◌-◌, ◌≤◌, ◌<◌, vec_len}
use Rattle.melt_io.specs.Outside.{TakesFront}
use Rattle.melt_io.proofs.whole.read_all.Given as goal

abbrev pub invariant-loop-bytes : goal.invariant-loop-bytes
invariant-loop-bytes g l = record {
  piece : 0 < vec_len l.piece;
  within : vec_len l.bytes ≤ l.limit;
  taken : TakesFront (g.S.Source.left l.initial.s) l.bytes.items (g.S.Source.left l.s);
  count : g.S.Source.faults l.initial.s ≤ g.S.Source.faults l.s;
}

abbrev pub decreases-loop-bytes : goal.decreases-loop-bytes
decreases-loop-bytes g l = l.limit - vec_len l.bytes
