-- The turns give the event to a thread that can go on.
use Rattle.std.proofs.Common.{◌≡◌, ◌<◌, List, length, arith, ap, subst}
use Rattle.std.proofs.lemmas.Option.{slice_get_within}
use Rattle.melt_safepoint.specs.declared.thread.ThreadState.{ThreadState}
use Rattle.melt_step.specs.Turns.{GoesAt}
use Rattle.melt_step.proofs.epoch.take_turn.Given.{Over}
use Rattle.melt_step.proofs.epoch.take_turn.Goals as goal
use Rattle.melt_step.proofs.epoch.take_turn.Goals.{In_ok-thread}

pub next-requires : goal.next-requires
next-requires g c =
    let table = c.requires.stands.3.4.table in
    omega (arith, ap length c.deref.ensures.value, table.count, table.threads, table.stands.few)

-- the thread that was given
goes : (g : Over) (c : In_ok-thread g) → GoesAt c.args.run.now.states.items c.in_ok-thread.thread
goes g c =
    subst (λ (xs : List ThreadState). GoesAt xs c.in_ok-thread.thread) c.deref.ensures.value
    c.in_ok-thread.ensures.goes

pub make_turn-requires : goal.make_turn-requires
make_turn-requires g c = (
  omega arith,
  (c.requires.stands, (c.requires.stop, goes g (goal.at.make_turn-requires g c).In_ok-thread)),
)

pub returns-clause-there : goal.returns-clause-there
returns-clause-there g c =
    let goes = goes g (goal.at.returns-clause-there g c).In_ok-thread in
    let within : c.in_ok-thread.thread < length c.args.run.now.states.items =
    slice_get_within c.args.run.now.states.items c.in_ok-thread.thread goes.0 goes.1 in
    let same : length c.make_turn.new.run.states.items ≡ length c.args.run.now.states.items =
    c.make_turn.ensures.there in
    omega (arith, within, same)
