use Rattle.std.proofs.Common.{◌+◌, ◌≤◌}
use Rattle.melt_space.specs.Space.{word_at}
use Rattle.melt_scion.specs.State.{State}
use Rattle.melt_move.specs.GivingHomes.{HasGiven, WasChosen, GivesTo, IsAmong}
use Rattle.melt_move.proofs.homes.Giving.give_leaving.Given as goal

abbrev pub invariant-loop-d : goal.invariant-loop-d
invariant-loop-d g l = record {
  gives : GivesTo (word_at l.space) (IsAmong l.choice.leaving.items l.d-index) l.fn.self.homes l.self.homes;
  all : (s : State) → HasGiven l.space s l.fn.self → WasChosen s l.choice → HasGiven l.space s l.self;
  visits : l.steps ≤ l.fn.steps + l.d-index;
}
