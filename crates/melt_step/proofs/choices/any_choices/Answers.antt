use Rattle.melt_step.proofs.Choosing.{chosen_told}
use Rattle.melt_step.proofs.choices.any_choices.Goals as goal

pub returns : goal.returns
returns c = chosen_told
