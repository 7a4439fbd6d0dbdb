use Rattle.std.proofs.Common.{arith, length-drop}
use Rattle.melt_io.proofs.Told.{Appends-take}
use Rattle.melt_io.proofs.whole.write_all.Goals as goal

pub loop-at-preserved : goal.loop-at-preserved
loop-at-preserved g c = record {
  within = omega (arith, c.in_ok-at.ensures.within, length-drop c.loop-at.at c.args.bytes.now);
  written = Appends-take _ _ _ _ _ _ c.loop-at.invariant.written c.in_ok-at.ensures.appended;
  count = omega (arith, c.loop-at.invariant.count, c.in_ok-at.ensures.count);
}
