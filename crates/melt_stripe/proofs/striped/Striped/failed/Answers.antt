use Rattle.melt_stripe.proofs.striped.Striped.failed.Goals as goal

pub returns-clause-at_fault : goal.returns-clause-at_fault
returns-clause-at_fault g c = rw (← c.self.view_is) c.self.invariant.2
