use Rattle.std.proofs.Common.{◌+◌, ◌≤◌}
use Rattle.melt_space.specs.Space.{word_at}
use Rattle.melt_scion.specs.State.{State}
use Rattle.melt_move.specs.GivingHomes.{HasGiven, HasMarks, WasChosen, GivesTo, IsAmongMarked}
use Rattle.melt_move.proofs.homes.Giving.give_named.Given as goal

abbrev pub invariant-loop-m : goal.invariant-loop-m
invariant-loop-m g l = record {
  gives : GivesTo (word_at l.space) (IsAmongMarked l.choice.stay.moves.items l.marks l.m-index) l.fn.self.homes
      l.self.homes;
  all : (s : State) → HasGiven l.space s l.fn.self → WasChosen s l.choice → HasMarks s l.marks
      → HasGiven l.space s l.self;
  visits : l.steps ≤ l.fn.steps + l.m-index;
}
