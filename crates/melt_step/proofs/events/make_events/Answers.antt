-- What the events of the call were, where they were made in one go.
use Rattle.std.proofs.Common.{◌≡◌, ◌<◌, Bool, List, false, true, length, refl, sym, ◌∙◌, ap, rules, subst}
use Rattle.std.specs.Prelude.{None, Option}
use Rattle.melt_record.specs.declared.damage.Damaged.{Damaged as Damage}
use Rattle.melt_scion.specs.Heaps.{OnDisk}
use Rattle.melt_core.specs.declared.answer.Refusal.TheVariants.{Damaged}
use Rattle.melt_core.specs.declared.answer.StepResult.{StepResult}
use Rattle.melt_core.specs.declared.answer.StepResult.TheVariants.{Answered, Going, Refused}
use Rattle.melt_core.specs.declared.call.Call.{Call}
use Rattle.melt_core.specs.Advances.{Advances, IsDamage, MayAdvance, MakesEvent, MakesEventsBy, MakesEvents}
use Rattle.melt_core.specs.Advances.{MayMakeEvent}
use Rattle.melt_core.specs.Stages.{NeedsNoRead}
use Rattle.melt_core.specs.Views.{Standing, call_in, call_of, stage_in, stage_of, view}
use Rattle.melt_core.proofs.Disks.{moves_advance}
use Rattle.melt_core.proofs.ReadsLeft.{no_damage, uses_nothing}
use Rattle.melt_safepoint.specs.declared.thread.ThreadState.{ThreadState}
use Rattle.melt_safepoint.specs.Losses.{CountsLoss}
use Rattle.melt_safepoint.specs.Modes.{mode_for}
use Rattle.melt_safepoint.specs.Tables.{SetsStop, TakesTurn}
use Rattle.melt_safepoint.proofs.Losses.{refused_counts}
use Rattle.melt_safepoint.proofs.WordsMade.{made_ended}
use Rattle.melt_step.proofs.AtOnce.{LastEvent, all_made, at_once_goes, at_once_told, gone_none, last_event}
use Rattle.melt_step.proofs.Calling.{KeepsOthers_both, begins_ready, goes_sets, refused_call, refused_sets, refused_step}
use Rattle.melt_step.proofs.Calling.{calls_dropped, thread_there, told_sets}
use Rattle.melt_step.proofs.Tied.{drop_ties, events_tie}
use Rattle.melt_step.proofs.events.make_events.Goals as goal
use Rattle.melt_step.proofs.events.make_events.Goals.{After-call_at_once}
use Rattle.melt_step.proofs.events.make_events.Given.{Over}

-- the last event of the call, over each disk that is seen so
last : (g : Over) (c : After-call_at_once g) (result : StepResult) → MakesEvents (view c.args.core.now)
    (view c.call_at_once.new.self) c.args.thread c.in-Some.op result → (told : Bool) (disk : OnDisk)
    → Standing told disk (view c.args.core.now)
    → LastEvent told disk (view c.args.core.now) (view c.call_at_once.new.self) c.args.thread c.in-Some.op result
last g c result on told disk stands =
    last_event on.more (view c.call_at_once.new.self) c.in-Some.op result c.requires.ready.forwards
    (gone_none told disk (view c.args.core.now) c.args.thread stands) on.moves

-- and over the one for which the thread is ready
here : (g : Over) (c : After-call_at_once g) (result : StepResult) → MakesEvents (view c.args.core.now)
    (view c.call_at_once.new.self) c.args.thread c.in-Some.op result
    → LastEvent false c.requires.ready.disk (view c.args.core.now) (view c.call_at_once.new.self) c.args.thread
    c.in-Some.op result
here g c result on = last g c result on false c.requires.ready.disk c.requires.ready.stands

-- the stop word is as it was, where the last event left it so
stops : (g : Over) (c : After-call_at_once g) (result : StepResult) → (event : LastEvent false c.requires.ready.disk
    (view c.args.core.now) (view c.call_at_once.new.self) c.args.thread c.in-Some.op result)
    → (view c.call_at_once.new.self).stop ≡ event.before.stop
    → (view c.call_at_once.new.self).stop ≡ (view c.args.core.now).stop
stops g c result event same = same ∙ event.gone.stop

-- the thread is there
there : (g : Over) (c : After-call_at_once g) (result : StepResult) → MakesEvents (view c.args.core.now)
    (view c.call_at_once.new.self) c.args.thread c.in-Some.op result
    → c.args.thread < length (view c.call_at_once.new.self).held
there g c result on =
    let event = here g c result on in
    thread_there (view c.args.core.now) (view c.call_at_once.new.self) c.args.thread
    (KeepsOthers_both (view c.args.core.now) event.before (view c.call_at_once.new.self) c.args.thread
    event.gone.others event.event.others) c.requires.ready.thread

-- no call is in flight
none : (g : Over) (c : After-call_at_once g) → call_of (view c.args.core.now) c.args.thread ≡ None
none g c = (c.in-Some.ensures).first

-- a call that is refused is so in its first event
only : (g : Over) (c : After-call_at_once g) (why : Rattle.melt_core.specs.declared.answer.Refusal.Refusal)
    → MakesEvents (view c.args.core.now) (view c.call_at_once.new.self) c.args.thread c.in-Some.op (Refused why)
    → MakesEvent (view c.args.core.now) (view c.call_at_once.new.self) c.args.thread c.in-Some.op (Refused why)
only g c why on =
    subst (λ n. MakesEventsBy n (view c.args.core.now) (view c.call_at_once.new.self) c.args.thread c.in-Some.op
    (Refused why)) (on.refused why refl) on.moves

-- the thread may make the first one
may : (g : Over) (c : After-call_at_once g) → MayMakeEvent (view c.args.core.now) c.args.thread c.in-Some.op
may g c =
    let advances : MayAdvance c.args.end (view c.args.core.now) c.args.thread c.in-Some.op = search rules in
    record { disk = advances.disk; asks = advances.asks }

-- and so it reads nothing
no_read : (g : Over) (c : After-call_at_once g) → NeedsNoRead (stage_of (view c.args.core.now) c.args.thread)
no_read g c = subst (λ (x : Option Call). NeedsNoRead (stage_in x)) (sym (none g c)) tt

pub answered-requires-clause-thread : goal.answered-requires-clause-thread
answered-requires-clause-thread g c =
    there g (goal.at.answered-requires-clause-thread g c).After-call_at_once (Answered c.in-Answered.reply)
    c.in-Answered.ensures

pub answered-requires-clause-no_call : goal.answered-requires-clause-no_call
answered-requires-clause-no_call g c =
    (here g (goal.at.answered-requires-clause-no_call g c).After-call_at_once (Answered c.in-Answered.reply)
    c.in-Answered.ensures).event.outcome.call

pub refused-requires-clause-thread : goal.refused-requires-clause-thread
refused-requires-clause-thread g c =
    there g (goal.at.refused-requires-clause-thread g c).After-call_at_once (Refused c.in-Refused.refusal)
    c.in-Refused.ensures

pub refused-requires-clause-no_call : goal.refused-requires-clause-no_call
refused-requires-clause-no_call g c =
    let event = here g (goal.at.refused-requires-clause-no_call g c).After-call_at_once (Refused c.in-Refused.refusal)
    c.in-Refused.ensures in
    refused_call _ c.requires.ready.disk event.before (view c.call_at_once.new.self) c.args.thread
    c.in-Some.op c.in-Refused.refusal event.event.outcome

pub returns-in-Going-clause-step : goal.returns-in-Going-clause-step
returns-in-Going-clause-step g c told disk under stands =
    at_once_goes c.args.state.now c.in-Some.ensures.running c.in-Some.ensures.next c.in-Some.ensures.no_collect
    c.requires.ready.forwards
    (last g (goal.at.returns-in-Going-clause-step g c).After-call_at_once Going c.in-Going.ensures told disk stands)

pub returns-in-Going-clause-stop : goal.returns-in-Going-clause-stop
returns-in-Going-clause-stop g c =
    let at = (goal.at.returns-in-Going-clause-stop g c).After-call_at_once in
    let event = here g at Going c.in-Going.ensures in
    goes_sets (view c.args.core.now) (view c.call_at_once.new.self) c.args.state.now c.in-Some.ensures.running
    (stops g at Going event event.event.outcome.stop)

pub returns-in-Going-clause-makes : goal.returns-in-Going-clause-makes
returns-in-Going-clause-makes g c disk under stands =
    all_made
    (last g (goal.at.returns-in-Going-clause-makes g c).After-call_at_once Going c.in-Going.ensures true disk stands)
    refl

pub returns-in-Going-clause-ties : goal.returns-in-Going-clause-ties
returns-in-Going-clause-ties g c =
    events_tie c.in-Going.ensures.more (view c.call_at_once.new.self) Going (may g (goal.at.returns-in-Going-clause-ties g c).After-call_at_once)
    c.in-Going.ensures.moves

pub returns-in-Answered-clause-step : goal.returns-in-Answered-clause-step
returns-in-Answered-clause-step g c told disk under stands =
    at_once_told (view c.answered.new.core) c.in-Some.ensures.running c.in-Some.ensures.next
    c.in-Some.ensures.no_collect
    (last g (goal.at.returns-in-Answered-clause-step g c).After-call_at_once (Answered c.in-Answered.reply)
    c.in-Answered.ensures told disk stands) c.answered.ensures.takes c.answered.ensures.drops

pub returns-in-Answered-clause-stop : goal.returns-in-Answered-clause-stop
returns-in-Answered-clause-stop g c =
    let at = (goal.at.returns-in-Answered-clause-stop g c).After-call_at_once in
    let event = here g at (Answered c.in-Answered.reply) c.in-Answered.ensures in
    told_sets (view c.args.core.now) (view c.call_at_once.new.self) (view c.answered.new.core) c.args.thread
    (stops g at (Answered c.in-Answered.reply) event event.event.outcome.stop) c.answered.ensures.takes
    c.answered.ensures.drops

pub returns-in-Answered-clause-makes : goal.returns-in-Answered-clause-makes
returns-in-Answered-clause-makes g c disk under stands past had =
    made_ended (view c.call_at_once.new.self) (view c.answered.new.core) c.args.thread c.answered.new.state.mode
    c.answered.ensures.drops past
    (all_made (last g (goal.at.returns-in-Answered-clause-makes g c).After-call_at_once (Answered c.in-Answered.reply)
    c.in-Answered.ensures true disk stands) refl past had)

pub returns-in-Answered-clause-ties : goal.returns-in-Answered-clause-ties
returns-in-Answered-clause-ties g c begun disk under stands sixteen tied =
    drop_ties begun (view c.call_at_once.new.self) (view c.answered.new.core) c.args.thread c.answered.new.state.mode
    c.answered.ensures.drops
    (events_tie c.in-Answered.ensures.more (view c.call_at_once.new.self) (Answered c.in-Answered.reply)
    (may g (goal.at.returns-in-Answered-clause-ties g c).After-call_at_once) c.in-Answered.ensures.moves begun disk
    under stands sixteen tied)

pub returns-in-Refused-clause-step : goal.returns-in-Refused-clause-step
returns-in-Refused-clause-step g c =
    let at = (goal.at.returns-in-Refused-clause-step g c).After-call_at_once in
    let may : MayAdvance c.args.end (view c.args.core.now) c.args.thread c.in-Some.op = search rules in
    let moves = only g at c.in-Refused.refusal c.in-Refused.ensures in
    let image = g.R.RecordReader.image c.args.reader.now in
    let advances : Advances c.args.end image (view c.args.core.now) (view c.call_at_once.new.self) c.args.thread
    c.in-Some.op (Refused c.in-Refused.refusal) =
    moves_advance image may moves in
    let damage : (damaged : Damage) → c.in-Refused.refusal ≡ Damaged damaged
    → IsDamage image c.args.end (view c.args.core.now) c.args.thread damaged =
    λ damaged is. absurd (no_damage c.args.end (view c.args.core.now) (view c.call_at_once.new.self) c.args.thread
    c.in-Some.op (Refused c.in-Refused.refusal) may moves (no_read g at) damaged (ap Refused is)) in
    subst (TakesTurn c.args.end image (view c.args.core.now) (view c.refused.new.core) c.args.thread
    c.args.state.now) (sym c.refused.ensures.waits)
    (λ told disk under stands.
    refused_step (view c.refused.new.core) c.args.state.now c.in-Some.ensures.running c.in-Some.ensures.next
    c.in-Some.ensures.no_collect
    (begins_ready c.in-Refused.refusal c.requires.ready c.in-Some.ensures.next under stands damage)
    (advances.over disk under.ends) c.refused.ensures.drops)

pub returns-in-Refused-clause-stop : goal.returns-in-Refused-clause-stop
returns-in-Refused-clause-stop g c =
    let at = (goal.at.returns-in-Refused-clause-stop g c).After-call_at_once in
    let moves = only g at c.in-Refused.refusal c.in-Refused.ensures in
    subst (SetsStop (view c.args.core.now) (view c.refused.new.core)) (sym c.refused.ensures.waits)
    (refused_sets _ c.requires.ready.disk (view c.call_at_once.new.self) c.args.thread c.in-Some.op c.args.state.now
    c.in-Refused.refusal (moves.over c.requires.ready.disk c.requires.ready.stands).outcome c.refused.ensures.drops)

pub returns-in-Refused-clause-makes : goal.returns-in-Refused-clause-makes
returns-in-Refused-clause-makes g c disk under stands past had =
    made_ended (view c.call_at_once.new.self) (view c.refused.new.core) c.args.thread _ c.refused.ensures.drops past
    (all_made (last g (goal.at.returns-in-Refused-clause-makes g c).After-call_at_once (Refused c.in-Refused.refusal)
    c.in-Refused.ensures true disk stands) refl past had)

pub returns-in-Refused-clause-ties : goal.returns-in-Refused-clause-ties
returns-in-Refused-clause-ties g c begun disk under stands sixteen tied =
    drop_ties begun (view c.call_at_once.new.self) (view c.refused.new.core) c.args.thread
    (mode_for c.in-Refused.refusal) c.refused.ensures.drops
    (events_tie c.in-Refused.ensures.more (view c.call_at_once.new.self) (Refused c.in-Refused.refusal)
    (may g (goal.at.returns-in-Refused-clause-ties g c).After-call_at_once) c.in-Refused.ensures.moves begun disk
    under stands sixteen tied)

pub returns-in-Refused-clause-lost : goal.returns-in-Refused-clause-lost
returns-in-Refused-clause-lost g c =
    let at = (goal.at.returns-in-Refused-clause-lost g c).After-call_at_once in
    let may : MayAdvance c.args.end (view c.args.core.now) c.args.thread c.in-Some.op = search rules in
    let faults = g.R.RecordReader.faults c.args.reader.now in
    let uses = uses_nothing c.args.end (view c.args.core.now) (view c.call_at_once.new.self) c.args.thread
    c.in-Some.op (Refused c.in-Refused.refusal) may (only g at c.in-Refused.refusal c.in-Refused.ensures)
    (no_read g at) faults (g.R.RecordReader.reads c.args.reader.now) in
    subst (λ (after : ThreadState). CountsLoss c.args.state.now after faults faults) (sym c.refused.ensures.waits)
    (refused_counts c.args.state.now c.in-Refused.refusal faults faults uses.fault uses.count)

pub returns-in-Answered-clause-next : goal.returns-in-Answered-clause-next
returns-in-Answered-clause-next g c =
    let event = here g (goal.at.returns-in-Answered-clause-next g c).After-call_at_once (Answered c.in-Answered.reply)
    c.in-Answered.ensures in
    c.next_op.ensures (view c.answered.new.core) c.args.thread
    (ap (λ (calls : List (Option Call)). call_in calls c.args.thread)
    (calls_dropped (view c.call_at_once.new.self) (view c.answered.new.core) c.args.thread c.answered.new.state.mode
    c.answered.ensures.drops) ∙ event.event.outcome.call)
