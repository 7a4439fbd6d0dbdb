-- What the event was, by the mode of the thread.
use Rattle.std.proofs.Common.{rules, refl, sym, subst, inl, ap}
use Rattle.std.specs.Prelude.{◌≡◌}
use Rattle.melt_record.specs.declared.damage.Damaged.{Damaged as Damage}
use Rattle.melt_core.specs.declared.answer.Refusal.TheVariants.{Damaged}
use Rattle.melt_core.specs.Views.{view}
use Rattle.melt_core.specs.Advances.{IsDamage, MayAdvance, MayMakeEvent}
use Rattle.melt_core.specs.StaleBits.{TiedTo}
use Rattle.melt_core.specs.declared.answer.StepResult.TheVariants.{Answered, Going, Refused}
use Rattle.melt_safepoint.specs.declared.thread.ThreadState.{ThreadState}
use Rattle.melt_safepoint.specs.Losses.{CountsLoss}
use Rattle.melt_safepoint.specs.Modes.{mode_for}
use Rattle.melt_safepoint.proofs.Losses.{counts_none, refused_counts, told_kept}
use Rattle.melt_safepoint.specs.Tables.{SetsStop, TakesTurn}
use Rattle.melt_safepoint.specs.Threads.{DueBy}
use Rattle.melt_step.proofs.Calling.{begins_ready, goes_sets, goes_step, refused_call, refused_sets, refused_step}
use Rattle.melt_step.proofs.Calling.{thread_there, told_sets, told_step, waits_step}
use Rattle.melt_safepoint.proofs.WordsMade.{made_ended, made_stopped}
use Rattle.melt_step.proofs.Tied.{drop_ties, event_ties}
use Rattle.melt_step.proofs.events.make_event.Given.{Over}
use Rattle.melt_step.proofs.events.make_event.Goals as goal
use Rattle.melt_step.proofs.events.make_event.Goals.{After-advance}

pub returns-in-Running-Some-Collect-clause-step : goal.returns-in-Running-Some-Collect-clause-step
returns-in-Running-Some-Collect-clause-step g c told disk under stands =
    waits_step c.args.thread c.args.state.now _ stands c.ask.ensures
    (inl (c.in-Running-Some-Collect.is-0, search rules, refl))

pub returns-in-Running-Some-Collect-clause-makes : goal.returns-in-Running-Some-Collect-clause-makes
returns-in-Running-Some-Collect-clause-makes g c disk under stands =
    made_stopped (view c.args.core.now) (view c.ask.new.self) c.ask.ensures

pub returns-in-Running-Some-Collect-clause-ties : goal.returns-in-Running-Some-Collect-clause-ties
returns-in-Running-Some-Collect-clause-ties g c begun disk under stands sixteen tied =
    subst (TiedTo begun) (sym c.ask.ensures) tied

-- the thread may make its event
may : (g : Over) (c : After-advance g) → MayMakeEvent (view c.args.core.now) c.args.thread c.in-Running-Some.op
may g c =
    let advances : MayAdvance c.args.end (view c.args.core.now) c.args.thread c.in-Running-Some.op = search rules in
    record { disk = advances.disk; asks = advances.asks }

pub answered-requires : goal.answered-requires
answered-requires g c = record {
  thread = thread_there (view c.args.core.now) (view c.advance.new.self) c.args.thread
      (c.in-Answered.ensures.advances.over c.requires.ready.disk c.requires.ready.ends).others c.requires.ready.thread;
  no_call = (c.in-Answered.ensures.advances.over c.requires.ready.disk c.requires.ready.ends).outcome.call;
  room = search rules;
}

pub refused-requires : goal.refused-requires
refused-requires g c = record {
  thread = thread_there (view c.args.core.now) (view c.advance.new.self) c.args.thread
      (c.in-Refused.ensures.advances.over c.requires.ready.disk c.requires.ready.ends).others c.requires.ready.thread;
  no_call =
      refused_call _ c.requires.ready.disk (view c.args.core.now) (view c.advance.new.self) c.args.thread
      c.in-Running-Some.op c.in-Refused.refusal
      (c.in-Refused.ensures.advances.over c.requires.ready.disk c.requires.ready.ends).outcome;
}

pub returns-in-Going : goal.returns-in-Going
returns-in-Going g c = record {
  step = λ told disk under stands.
      goes_step c.args.state.now (search rules) (search rules) (search rules) stands under.tells
      c.requires.ready.forwards (c.in-Going.ensures.advances.over disk under.ends);
  stop =
      goes_sets (view c.args.core.now) (view c.advance.new.self) c.args.state.now (search rules)
      (c.in-Going.ensures.advances.over c.requires.ready.disk c.requires.ready.ends).outcome.stop;
  due = λ other. absurd (other refl);
  image = search rules;
  makes = λ disk under. (c.in-Going.ensures.advances.over disk under.ends).makes (under.tells refl);
  ties = event_ties Going (may g (goal.at.returns-in-Going g c).After-advance) c.in-Going.ensures.advances.over;
  lost = counts_none c.args.state.now c.args.state.now _ _ (search rules) (search rules);
}

pub returns-in-Answered : goal.returns-in-Answered
returns-in-Answered g c = record {
  step = λ told disk under stands.
      let event = c.in-Answered.ensures.advances.over disk under.ends in
      told_step (view c.answered.new.core) (search rules) (search rules) (search rules) stands
      (event.keeps told under.tells stands) event.others event.outcome c.answered.ensures.takes
      c.answered.ensures.drops;
  stop =
      told_sets (view c.args.core.now) (view c.advance.new.self) (view c.answered.new.core) c.args.thread
      (c.in-Answered.ensures.advances.over c.requires.ready.disk c.requires.ready.ends).outcome.stop
      c.answered.ensures.takes c.answered.ensures.drops;
  due = c.answered.ensures.due;
  image = search rules;
  makes = λ disk under stands past had.
      made_ended (view c.advance.new.self) (view c.answered.new.core) c.args.thread c.answered.new.state.mode
      c.answered.ensures.drops past
      ((c.in-Answered.ensures.advances.over disk under.ends).makes (under.tells refl) stands past had);
  ties = λ begun disk under stands sixteen tied.
      drop_ties begun (view c.advance.new.self) (view c.answered.new.core) c.args.thread c.answered.new.state.mode
      c.answered.ensures.drops
      (event_ties (Answered c.in-Answered.reply) (may g (goal.at.returns-in-Answered g c).After-advance)
      c.in-Answered.ensures.advances.over begun disk under stands sixteen tied);
  lost =
      counts_none c.args.state.now c.answered.new.state _ _
      (told_kept c.args.state.now c.answered.new.state c.in-Answered.reply c.answered.ensures.takes) (search rules);
}

pub returns-in-Refused : goal.returns-in-Refused
returns-in-Refused g c =
    let drops = c.refused.ensures.drops in
    let damage : (damaged : Damage) → c.in-Refused.refusal ≡ Damaged damaged
    → IsDamage (g.R.RecordReader.image c.args.reader.now) c.args.end (view c.args.core.now) c.args.thread damaged =
    λ damaged is. c.in-Refused.ensures.damage damaged (ap Refused is) in
    record {
      step =
          subst (TakesTurn c.args.end (g.R.RecordReader.image c.args.reader.now) (view c.args.core.now)
          (view c.refused.new.core) c.args.thread c.args.state.now) (sym c.refused.ensures.waits)
          (λ told disk under stands.
          refused_step (view c.refused.new.core) c.args.state.now (search rules) (search rules) (search rules)
          (begins_ready c.in-Refused.refusal c.requires.ready (search rules) under stands damage)
          (c.in-Refused.ensures.advances.over disk under.ends) drops);
      stop =
          subst (SetsStop (view c.args.core.now) (view c.refused.new.core)) (sym c.refused.ensures.waits)
          (refused_sets _ c.requires.ready.disk (view c.advance.new.self) c.args.thread c.in-Running-Some.op
          c.args.state.now c.in-Refused.refusal
          (c.in-Refused.ensures.advances.over c.requires.ready.disk c.requires.ready.ends).outcome drops);
      due =
          subst (DueBy c.args.every c.args.state.now) (sym c.refused.ensures.waits)
          (λ other. absurd (other refl));
      image = search rules;
      makes = λ disk under stands past had.
          made_ended (view c.advance.new.self) (view c.refused.new.core) c.args.thread _ drops past
          ((c.in-Refused.ensures.advances.over disk under.ends).makes (under.tells refl) stands past had);
      ties = λ begun disk under stands sixteen tied.
          drop_ties begun (view c.advance.new.self) (view c.refused.new.core) c.args.thread
          (mode_for c.in-Refused.refusal) drops
          (event_ties (Refused c.in-Refused.refusal) (may g (goal.at.returns-in-Refused g c).After-advance)
          c.in-Refused.ensures.advances.over begun disk under stands sixteen tied);
      lost =
          subst (λ (after : ThreadState). CountsLoss c.args.state.now after
          (g.R.RecordReader.faults c.args.reader.now) (g.R.RecordReader.faults c.advance.new.reader))
          (sym c.refused.ensures.waits)
          (refused_counts c.args.state.now c.in-Refused.refusal _ _ c.in-Refused.ensures.uses.fault
          c.in-Refused.ensures.uses.count);
    }

pub returns-in_default-clause-step : goal.returns-in_default-clause-step
returns-in_default-clause-step g c told disk under stands =
    waits_step c.args.thread c.args.state.now _ stands c.ask-in_default.ensures (search rules)

pub returns-in_default-clause-makes : goal.returns-in_default-clause-makes
returns-in_default-clause-makes g c disk under stands =
    made_stopped (view c.args.core.now) (view c.ask-in_default.new.self) c.ask-in_default.ensures

pub returns-in_default-clause-ties : goal.returns-in_default-clause-ties
returns-in_default-clause-ties g c begun disk under stands sixteen tied =
    subst (TiedTo begun) (sym c.ask-in_default.ensures) tied
