use Rattle.std.proofs.Common.{[], arith, replicate}
use Rattle.melt_scion.proofs.Starting.{nothing_at}
use Rattle.melt_copy.proofs.Committing.{forwards_more}
use Rattle.melt_move.proofs.Nothing.{nothing_held}
use Rattle.melt_move.proofs.collect.drop_held.Goals as goal

pub loop-registers-preserved : goal.loop-registers-preserved
loop-registers-preserved g c = record {
  dropped = forwards_more (λ address. 0) c.args.held.now c.loop-registers.held c.loop-registers.registers-index
      (record { regs = [] }) (record { regs = replicate 16 0 }) c.loop-registers.invariant.dropped (omega arith)
      (nothing_at 16);
  visits = omega (arith, c.loop-registers.invariant.visits, c.tick.ensures);
}

pub returns-clause-nothing : goal.returns-clause-nothing
returns-clause-nothing g c = λ t r.
    nothing_held c.args.held.now c.loop-registers.held c.loop-registers.registers-index t r
    c.loop-registers.invariant.dropped (omega arith)
