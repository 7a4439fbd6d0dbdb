use Rattle.std.proofs.Common.{[], arith}
use Rattle.melt_copy.specs.Tracking.{goes}
use Rattle.melt_copy.proofs.Committing.{forwards_more}
use Rattle.melt_copy.proofs.commit.forward_held.Goals as goal

pub loop-registers-preserved : goal.loop-registers-preserved
loop-registers-preserved g c = record {
  forwards =
      forwards_more (goes c.args.forwarding.now) c.args.held.now c.loop-registers.held c.loop-registers.registers-index
      (record { regs = [] }) c.forward_thread.new.registers
      c.loop-registers.invariant.forwards (omega arith) c.forward_thread.ensures.registers;
  visits = omega (arith, c.loop-registers.invariant.visits, c.forward_thread.ensures.visits, c.tick.ensures);
}
