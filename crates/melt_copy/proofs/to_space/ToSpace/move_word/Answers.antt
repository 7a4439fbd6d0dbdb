use Rattle.std.proofs.Common.{ap}
use Rattle.melt_scion.specs.State.{address_in}
use Rattle.melt_copy.proofs.Forwarded.{referred_at}
use Rattle.melt_copy.proofs.to_space.ToSpace.move_word.Goals as goal

pub returns-in-Clean-clause-evacuates : goal.returns-in-Clean-clause-evacuates
returns-in-Clean-clause-evacuates g c = λ d done for.
    c.evacuate.ensures.evacuates d done
    (referred_at _ c.reference_of.ensures.in_range c.reference_of.ensures.is (ap address_in c.in-Clean.is) for)

pub returns-in-Stale-clause-evacuates : goal.returns-in-Stale-clause-evacuates
returns-in-Stale-clause-evacuates g c = λ d done for.
    c.evacuate-in-Stale.ensures.evacuates d done
    (referred_at _ c.reference_of.ensures.in_range c.reference_of.ensures.is (ap address_in c.in-Stale.is) for)
