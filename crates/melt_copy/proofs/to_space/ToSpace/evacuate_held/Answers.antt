use Rattle.std.proofs.Common.{[], arith}
use Rattle.melt_copy.proofs.Gathered.{thread_at, thread_found, all_moved}
use Rattle.melt_copy.proofs.to_space.ToSpace.evacuate_held.Goals as goal

pub evacuate_thread-requires : goal.evacuate_thread-requires
evacuate_thread-requires g c = (
  c.requires.0,
  thread_at c.loop-registers.invariant.so_far (record { regs = [] }) (omega arith) c.requires.0 c.requires.1,
)

pub loop-registers-preserved : goal.loop-registers-preserved
loop-registers-preserved g c = record {
  so_far =
      thread_found c.loop-registers.invariant.so_far (record { regs = [] }) (omega arith)
      c.evacuate_thread.new.registers c.evacuate_thread.ensures.moves c.evacuate_thread.ensures.finds
      c.evacuate_thread.ensures.more c.evacuate_thread.ensures.evacuates c.requires;
  visits = omega (arith, c.loop-registers.invariant.visits, c.tick.ensures, c.evacuate_thread.ensures.visits);
}

pub returns-clause-moves : goal.returns-clause-moves
returns-clause-moves g c = all_moved c.loop-registers.invariant.so_far (omega arith) c.requires
