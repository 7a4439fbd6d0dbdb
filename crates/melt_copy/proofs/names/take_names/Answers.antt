use Rattle.std.proofs.Common.{sym, ◌∙◌}
use Rattle.melt_copy.proofs.Starting.{none_carried}
use Rattle.melt_copy.proofs.names.take_names.Goals as goal

pub returns-in-Some-clause-carried : goal.returns-in-Some-clause-carried
returns-in-Some-clause-carried c =
    none_carried c.args.words c.args.names.now c.in-Some.names c.in_ok-moved.moved c.requires.made
    (sym c.take.ensures.value ∙ c.in-Some.is) c.in_ok-moved.ensures
