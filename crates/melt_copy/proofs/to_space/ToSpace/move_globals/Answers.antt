use Rattle.std.proofs.Common.{arith}
use Rattle.melt_copy.proofs.Gathered.{global_at, global_moved}
use Rattle.melt_copy.proofs.to_space.ToSpace.move_globals.Goals as goal

pub move_word-requires : goal.move_word-requires
move_word-requires g c =
    (c.requires.0, 0, global_at c.loop-word.invariant.so_far (omega arith) c.requires.0 c.requires.1)

pub loop-word-preserved : goal.loop-word-preserved
loop-word-preserved g c = record {
  so_far =
      global_moved c.loop-word.invariant.so_far (omega arith) (omega arith) c.move_word.ensures.moves
      c.move_word.ensures.more c.move_word.ensures.evacuates;
  visits = omega (arith, c.loop-word.invariant.visits, c.tick.ensures, c.move_word.ensures.visits);
}

pub returns-clause-moves : goal.returns-clause-moves
returns-clause-moves g c = λ i below. c.loop-word.invariant.so_far.done i (omega (arith, below))
