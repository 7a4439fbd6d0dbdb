-- Each event goes on with the call, or ends it.
use Rattle.std.proofs.Common.{◌≡◌, ◌∙◌, length, rules, true, false, refl, sym, ap, subst}
use Rattle.std.specs.Prelude.{ℕ, Bool, List, Option, None, Some}
use Rattle.melt_record.specs.declared.damage.Damaged.{Damaged as Damage}
use Rattle.melt_core.specs.Advances.{AdvancesWhere, IsDamage, MayAdvance, TellsDisk}
use Rattle.melt_core.specs.Views.{View, Standing, view}
use Rattle.melt_core.specs.declared.answer.Refusal.{Refusal}
use Rattle.melt_core.specs.declared.answer.Refusal.TheVariants.{Damaged}
use Rattle.melt_core.specs.declared.answer.StepResult.{StepResult}
use Rattle.melt_core.specs.declared.answer.StepResult.TheVariants.{Answered, Going, Refused}
use Rattle.melt_model.specs.declared.operations.Op.{Op}
use Rattle.melt_scion.specs.Heaps.{OnDisk}
use Rattle.melt_safepoint.specs.declared.thread.ThreadState.{ThreadState}
use Rattle.melt_safepoint.specs.Modes.{mode_for}
use Rattle.melt_safepoint.specs.Shown.{Underlies}
use Rattle.melt_safepoint.proofs.Shown.{under_untold}
use Rattle.melt_safepoint.proofs.Modes.{lacks_space}
use Rattle.melt_step.specs.Lone.{CalledOver, IsAloneReady}
use Rattle.melt_step.specs.Made.{MakesInUse}
use Rattle.melt_step.specs.Tied.{KeepsTied}
use Rattle.melt_step.proofs.Calling.{KeepsOthers_both, goes_nearer, refused_call, thread_there}
use Rattle.melt_step.proofs.LoneCalls.{OnCall, call_asks, call_goes, call_lacks, call_lost, call_reads, call_told, few_still}
use Rattle.melt_step.proofs.LoneCalls.{never_pauses}
use Rattle.melt_safepoint.proofs.WordsMade.{made_ended}
use Rattle.melt_step.proofs.Tied.{drop_ties, event_ties}
use Rattle.melt_step.proofs.alone.call_alone.Goals as goal

-- an event of the call makes what comes into use, also after those before it
event_makes : {image before : Option (List ℕ)} {finish : ℕ} {u v w : View} {t : ℕ} {o : Op} {result : StepResult}
    → before ≡ image → MakesInUse finish image u v
    → ((disk : OnDisk) → Underlies true finish image disk → Standing true disk u → Standing true disk v)
    → ((disk : OnDisk) → disk.end ≡ finish → AdvancesWhere (TellsDisk before disk) disk v w t o result)
    → MakesInUse finish image u w
event_makes {image} {before} {finish} {u} {v} {w} {t} {o} {result} same makes keeps event disk under stands past had =
    (event disk under.ends).makes
    (subst (λ (x : Option (List ℕ)). TellsDisk x disk) (sym same) (under.tells refl)) (keeps disk under stands) past
    (makes disk under stands past had)

-- and keeps the stale bit tied
event_after : {image before : Option (List ℕ)} {finish : ℕ} {u v w : View} {t : ℕ} {s : ThreadState} {o : Op}
    (result : StepResult) → before ≡ image → IsAloneReady finish u t s o → OnCall u v t o
    → ((told : Bool) (disk : OnDisk) → Underlies told finish image disk → Standing told disk u → Standing told disk v)
    → KeepsTied finish image u v t
    → ((disk : OnDisk) → disk.end ≡ finish → AdvancesWhere (TellsDisk before disk) disk v w t o result)
    → KeepsTied finish image u w t
event_after {image} {before} {finish} {v} {t} {o} result same ready on keeps ties event begun disk under
    stands sixteen tied =
    let may : MayAdvance finish v t o = call_asks ready on
    (keeps false ready.disk (under_untold finish image ready.disk ready.ends) ready.stands) in
    event_ties result (record { disk = may.disk; asks = may.asks }) event begun disk
    (subst (λ (x : Option (List ℕ)). Underlies true finish x disk) (sym same) under) (keeps true disk under stands)
    (ap length on.registers ∙ sixteen) (ties begun disk under stands sixteen tied)

pub advance-requires : goal.advance-requires
advance-requires g c =
    call_asks c.requires.ready c.loop-reply.invariant.on (c.loop-reply.invariant.stands false c.requires.ready.disk
    (under_untold c.args.end (g.R.RecordReader.image c.args.reader.now) c.requires.ready.disk c.requires.ready.ends)
    c.requires.ready.stands)

pub loop-reply-smaller : goal.loop-reply-smaller
loop-reply-smaller g c =
    goes_nearer c.requires.ready.disk (view c.loop-reply.core) (view c.advance.new.self) c.args.thread c.args.op
    (c.in-Going.ensures.advances.over c.requires.ready.disk c.requires.ready.ends).outcome
    (few_still (view c.args.core.now) (view c.loop-reply.core) c.args.thread c.args.op c.loop-reply.invariant.on
    c.requires.ready.forwards)

pub loop-reply-preserved : goal.loop-reply-preserved
loop-reply-preserved g c = record {
  on =
      call_goes c.requires.ready.none_forwarded c.loop-reply.invariant.on
      (c.in-Going.ensures.advances.over c.requires.ready.disk c.requires.ready.ends);
  stands = λ told disk under stands.
      (c.in-Going.ensures.advances.over disk under.ends).keeps told
      (subst (λ (image : Option (List ℕ)). told ≡ true → TellsDisk image disk) (sym c.loop-reply.invariant.image)
      under.tells) (c.loop-reply.invariant.stands told disk under stands);
  makes = event_makes c.loop-reply.invariant.image c.loop-reply.invariant.makes (c.loop-reply.invariant.stands true)
      c.in-Going.ensures.advances.over;
  ties = event_after Going c.loop-reply.invariant.image c.requires.ready c.loop-reply.invariant.on
      c.loop-reply.invariant.stands c.loop-reply.invariant.ties c.in-Going.ensures.advances.over;
  state = c.loop-reply.invariant.state;
  image = c.in-Going.ensures.image ∙ c.loop-reply.invariant.image;
  faults = search rules;
}

pub answered-requires-clause-thread : goal.answered-requires-clause-thread
answered-requires-clause-thread g c =
    thread_there (view c.args.core.now) (view c.advance.new.self) c.args.thread
    (KeepsOthers_both (view c.args.core.now) (view c.loop-reply.core) (view c.advance.new.self) c.args.thread
    c.loop-reply.invariant.on.others
    (c.in-Answered.ensures.advances.over c.requires.ready.disk c.requires.ready.ends).others) c.requires.ready.thread

pub answered-requires-clause-no_call : goal.answered-requires-clause-no_call
answered-requires-clause-no_call g c =
    (c.in-Answered.ensures.advances.over c.requires.ready.disk c.requires.ready.ends).outcome.call

pub returns-in-Answered-clause-called : goal.returns-in-Answered-clause-called
returns-in-Answered-clause-called g c told disk under stands =
    let event = c.in-Answered.ensures.advances.over disk under.ends in
    let stood = c.loop-reply.invariant.stands told disk under stands in
    call_told (view c.answered.new.core) c.requires.ready.waits c.requires.ready.next c.requires.ready.no_collect
    c.loop-reply.invariant.on stood (event.keeps told
    (subst (λ (image : Option (List ℕ)). told ≡ true → TellsDisk image disk)
    (sym c.loop-reply.invariant.image) under.tells)
    stood) event.others event.outcome (search rules) c.answered.ensures.drops

pub returns-in-Some-clause-called : goal.returns-in-Some-clause-called
returns-in-Some-clause-called g c told disk under stands =
    let space = lacks_space c.in-Refused.refusal c.in-Some.need (sym c.words_lacked.ensures ∙ c.in-Some.is) in
    subst (λ (s : ThreadState). CalledOver told disk (view c.args.core.now) (view c.advance.new.self) c.args.thread
    c.args.state.now s c.args.op (Some c.in-Some.need)) (sym c.loop-reply.invariant.state)
    (call_lacks c.in-Some.need _ c.args.state.now c.requires.ready.bounds c.requires.ready.none_forwarded
    c.loop-reply.invariant.on (c.loop-reply.invariant.stands told disk under stands)
    (subst (λ (image : Option (List ℕ)). told ≡ true → TellsDisk image disk)
    (sym c.loop-reply.invariant.image) under.tells)
    (subst (λ (why : Refusal). AdvancesWhere (TellsDisk (g.R.RecordReader.image c.loop-reply.reader) disk) disk
    (view c.loop-reply.core) (view c.advance.new.self) c.args.thread c.args.op (Refused why)) space
    (c.in-Refused.ensures.advances.over disk under.ends)))

pub refused-requires-clause-thread : goal.refused-requires-clause-thread
refused-requires-clause-thread g c =
    thread_there (view c.args.core.now) (view c.advance.new.self) c.args.thread
    (KeepsOthers_both (view c.args.core.now) (view c.loop-reply.core) (view c.advance.new.self) c.args.thread
    c.loop-reply.invariant.on.others
    (c.in-Refused.ensures.advances.over c.requires.ready.disk c.requires.ready.ends).others) c.requires.ready.thread

pub refused-requires-clause-no_call : goal.refused-requires-clause-no_call
refused-requires-clause-no_call g c =
    refused_call _ c.requires.ready.disk (view c.loop-reply.core) (view c.advance.new.self) c.args.thread c.args.op
    c.in-Refused.refusal (c.in-Refused.ensures.advances.over c.requires.ready.disk c.requires.ready.ends).outcome

pub returns-in-None-clause-called : goal.returns-in-None-clause-called
returns-in-None-clause-called g c told disk under stands =
    let damage : (damaged : Damage) → c.in-Refused.refusal ≡ Damaged damaged
    → IsDamage (g.R.RecordReader.image c.loop-reply.reader) c.args.end (view c.loop-reply.core) c.args.thread damaged =
    λ damaged is. c.in-Refused.ensures.damage damaged (ap Refused is) in
    let seen : Underlies told c.args.end (g.R.RecordReader.image c.loop-reply.reader) disk =
    subst (λ (image : Option (List ℕ)). Underlies told c.args.end image disk)
    (sym c.loop-reply.invariant.image) under in
    let event = c.in-Refused.ensures.advances.over disk under.ends in
    let no_pause = never_pauses _ disk (view c.advance.new.self) c.in-Refused.refusal c.requires.ready.some_forward
    c.loop-reply.invariant.on event.outcome (sym c.words_lacked.ensures ∙ c.in-None.is) in
    subst (λ (after : ThreadState). CalledOver told disk (view c.args.core.now) (view c.refused.new.core) c.args.thread
    c.args.state.now after c.args.op None) (sym c.refused.ensures.waits)
    (subst (λ (s : ThreadState). CalledOver told disk (view c.args.core.now) (view c.refused.new.core) c.args.thread
    c.args.state.now (record s { mode = mode_for c.in-Refused.refusal }) c.args.op None)
    (sym c.loop-reply.invariant.state)
    (call_lost (view c.refused.new.core) c.args.state.now c.requires.ready.waits c.requires.ready.next no_pause
    c.loop-reply.invariant.on (call_reads c.in-Refused.refusal c.loop-reply.invariant.on seen
    (c.loop-reply.invariant.stands told disk under stands) damage) event c.refused.ensures.drops))

pub returns-in-Answered-clause-makes : goal.returns-in-Answered-clause-makes
returns-in-Answered-clause-makes g c disk under stands past had =
    made_ended (view c.advance.new.self) (view c.answered.new.core) c.args.thread c.answered.new.state.mode
    c.answered.ensures.drops past
    (event_makes c.loop-reply.invariant.image c.loop-reply.invariant.makes (c.loop-reply.invariant.stands true)
    c.in-Answered.ensures.advances.over disk under stands past had)

pub returns-in-Some-clause-makes : goal.returns-in-Some-clause-makes
returns-in-Some-clause-makes g c =
    event_makes c.loop-reply.invariant.image c.loop-reply.invariant.makes (c.loop-reply.invariant.stands true)
    c.in-Refused.ensures.advances.over

pub returns-in-None-clause-makes : goal.returns-in-None-clause-makes
returns-in-None-clause-makes g c disk under stands past had =
    made_ended (view c.advance.new.self) (view c.refused.new.core) c.args.thread (mode_for c.in-Refused.refusal)
    c.refused.ensures.drops past
    (event_makes c.loop-reply.invariant.image c.loop-reply.invariant.makes (c.loop-reply.invariant.stands true)
    c.in-Refused.ensures.advances.over disk under stands past had)

pub returns-in-Answered-clause-ties : goal.returns-in-Answered-clause-ties
returns-in-Answered-clause-ties g c begun disk under stands sixteen tied =
    drop_ties begun (view c.advance.new.self) (view c.answered.new.core) c.args.thread c.answered.new.state.mode
    c.answered.ensures.drops
    (event_after (Answered c.in-Answered.reply) c.loop-reply.invariant.image c.requires.ready c.loop-reply.invariant.on
    c.loop-reply.invariant.stands c.loop-reply.invariant.ties c.in-Answered.ensures.advances.over begun disk
    under stands sixteen tied)

pub returns-in-Some-clause-ties : goal.returns-in-Some-clause-ties
returns-in-Some-clause-ties g c =
    event_after (Refused c.in-Refused.refusal) c.loop-reply.invariant.image c.requires.ready c.loop-reply.invariant.on
    c.loop-reply.invariant.stands c.loop-reply.invariant.ties c.in-Refused.ensures.advances.over

pub returns-in-None-clause-ties : goal.returns-in-None-clause-ties
returns-in-None-clause-ties g c begun disk under stands sixteen tied =
    drop_ties begun (view c.advance.new.self) (view c.refused.new.core) c.args.thread
    (mode_for c.in-Refused.refusal) c.refused.ensures.drops
    (event_after (Refused c.in-Refused.refusal) c.loop-reply.invariant.image c.requires.ready c.loop-reply.invariant.on
    c.loop-reply.invariant.stands c.loop-reply.invariant.ties c.in-Refused.ensures.advances.over begun disk
    under stands sixteen tied)
