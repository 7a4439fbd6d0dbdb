-- A call whose events are made each right after the one before.
use Rattle.std.proofs.Common.{◌≡◌, ◌≢◌, ℕ, zero, suc, ◌<◌, ◌≤◌, Bool, true, length, refl, ◌∙◌, ap, subst, arith, inl, inr}
use Rattle.std.specs.Prelude.{Some}
use Rattle.melt_model.specs.declared.operations.Op.{Op}
use Rattle.melt_model.specs.declared.operations.Op.TheVariants.{Collect}
use Rattle.melt_model.specs.declared.operations.Reply.{Reply}
use Rattle.melt_scion.specs.Heaps.{OnDisk}
use Rattle.melt_core.specs.declared.answer.StepResult.{StepResult}
use Rattle.melt_core.specs.declared.answer.StepResult.TheVariants.{Answered, Going}
use Rattle.melt_core.specs.Advances.{AdvancesOver, CallGoesOn, IsAnswered, KeepsOthers, KeepsOwn, MakesEventsBy}
use Rattle.melt_core.specs.Made.{KeepsMade}
use Rattle.melt_core.specs.Stages.{events_left}
use Rattle.melt_core.specs.Views.{Standing, View, stage_of}
use Rattle.melt_core.proofs.Disks.{stands_untold}
use Rattle.melt_safepoint.specs.declared.thread.ThreadState.{ThreadState}
use Rattle.melt_safepoint.specs.declared.thread.Mode.TheVariants.{Running}
use Rattle.melt_safepoint.specs.Modes.{owes_silent}
use Rattle.melt_safepoint.specs.Tables.{DropsIfEnded, ThreadStep}
use Rattle.melt_safepoint.specs.Threads.{TakesReply, most_forwards}
use Rattle.melt_step.proofs.Calling.{KeepsOthers_both, dropped_stands, goes_nearer, told_state}

-- A call has gone on by some events, or by none.
pub record HasGone (told : Bool) (disk : OnDisk) (v u : View) (t : ℕ) : Type 0 where
  pub stands : Standing told disk u
  pub others : KeepsOthers v u t
  pub own : KeepsOwn v u t
  pub stop : u.stop ≡ v.stop
  pub makes : told ≡ true → KeepsMade v u
  pub left : events_left most_forwards (stage_of u t) ≤ events_left most_forwards (stage_of v t)

pub gone_none : (told : Bool) (disk : OnDisk) (v : View) (t : ℕ) → Standing told disk v → HasGone told disk v v t
gone_none told disk v t stands = record {
  stands = stands;
  others = record {
    globals = refl;
    words = refl;
    forwards = refl;
    threads = refl;
    capacity = refl;
    calls = λ u other. refl;
    records = λ u other. refl;
    registers = λ u other. refl;
    values = λ u other. refl;
  };
  own = record { history = refl; registers = refl; values = refl };
  stop = refl;
  makes = λ is past had. had;
  left = omega arith;
}

-- as many forwarding words as before
few_still : (told : Bool) (disk : OnDisk) (v u : View) (t : ℕ) → HasGone told disk v u t
    → length v.forward ≤ most_forwards → length u.forward ≤ most_forwards
few_still told disk v u t gone few =
    let same : length u.forward ≡ length v.forward = gone.others.forwards in omega (arith, same, few)

-- what a told event made came into use
made_on : {told : Bool} {disk : OnDisk} {v u w : View} {t : ℕ} {o : Op} {result : StepResult} → HasGone told disk v u t
    → AdvancesOver disk u w t o result → told ≡ true → KeepsMade v w
made_on {disk} {u} gone event is past had =
    event.makes tt (subst (λ (b : Bool). Standing b disk u) is gone.stands) past (gone.makes is past had)

-- and by one more
gone_on : {told : Bool} {disk : OnDisk} {v u w : View} {t : ℕ} {o : Op} → length v.forward ≤ most_forwards
    → HasGone told disk v u t → AdvancesOver disk u w t o Going → HasGone told disk v w t
gone_on {told} {disk} {v} {u} {w} {t} {o} few gone event =
    let goes : CallGoesOn disk u w t o = event.outcome in
    let nearer : events_left most_forwards (stage_of w t) < events_left most_forwards (stage_of u t) =
    goes_nearer disk u w t o goes (few_still told disk v u t gone few) in
    let left : events_left most_forwards (stage_of u t) ≤ events_left most_forwards (stage_of v t) = gone.left in
    record {
      stands = event.keeps told (λ is. tt) gone.stands;
      others = KeepsOthers_both v u w t gone.others event.others;
      own = record {
        history = goes.own.history ∙ gone.own.history;
        registers = goes.own.registers ∙ gone.own.registers;
        values = goes.own.values ∙ gone.own.values;
      };
      stop = goes.stop ∙ gone.stop;
      makes = made_on gone event;
      left = omega (arith, nearer, left);
    }

-- the last event of those that were made, after those by which the call went on
pub record LastEvent (told : Bool) (disk : OnDisk) (v w : View) (t : ℕ) (o : Op) (result : StepResult) : Type 0 where
  pub before : View
  pub gone : HasGone told disk v before t
  pub event : AdvancesOver disk before w t o result

pub last_event : {told : Bool} {disk : OnDisk} (more : ℕ) {v u : View} (w : View) {t : ℕ} (o : Op) (result : StepResult)
    → length v.forward ≤ most_forwards → HasGone told disk v u t → MakesEventsBy more u w t o result
    → LastEvent told disk v w t o result
last_event {told} {disk} zero {u} w o result few gone moves =
    record { before = u; gone = gone; event = moves.over disk (stands_untold told disk u gone.stands) }
last_event {told} {disk} (suc more) {u} w o result few gone moves =
    last_event more w o result few (gone_on few gone (moves.1.over disk (stands_untold told disk u gone.stands)))
    moves.2

-- all that was made came into use
pub all_made : {told : Bool} {disk : OnDisk} {v w : View} {t : ℕ} {o : Op} {result : StepResult}
    → LastEvent told disk v w t o result → told ≡ true → KeepsMade v w
all_made last = made_on last.gone last.event

-- the call goes on
pub at_once_goes : {told : Bool} {disk : OnDisk} {v w : View} {t : ℕ} {o : Op} (s : ThreadState) → s.mode ≡ Running
    → s.op ≡ Some o → o ≢ Collect → length v.forward ≤ most_forwards → LastEvent told disk v w t o Going
    → ThreadStep told disk v w t s s
at_once_goes {told} {disk} {v} {w} {t} {o} s running next no_collect few last =
    let u : View = last.before in
    let goes : CallGoesOn disk u w t o = last.event.outcome in
    let nearer : events_left most_forwards (stage_of w t) < events_left most_forwards (stage_of u t) =
    goes_nearer disk u w t o goes (few_still told disk v u t last.gone few) in
    let left : events_left most_forwards (stage_of u t) ≤ events_left most_forwards (stage_of v t) =
    last.gone.left in
    record {
      stands = last.event.keeps told (λ is. tt) last.gone.stands;
      others = KeepsOthers_both v u w t last.gone.others last.event.others;
      what = inr (inl (record {
        same = refl;
        running = running;
        call = record { op = o; stage = goes.stage };
        flight = goes.call;
        op = next;
        no_collect = no_collect;
        nearer = omega (arith, nearer, left);
        history = goes.own.history ∙ last.gone.own.history;
        values = goes.own.values ∙ last.gone.own.values;
      }));
    }

-- the call was answered
pub at_once_told : {told : Bool} {disk : OnDisk} {v w : View} (x : View) {t : ℕ} {o : Op} {reply : Reply}
    {s after : ThreadState} → s.mode ≡ Running → s.op ≡ Some o → o ≢ Collect
    → LastEvent told disk v w t o (Answered reply) → TakesReply s after reply → DropsIfEnded w x t after.mode
    → ThreadStep told disk v x t s after
at_once_told {told} {disk} {v} {w} x {t} {o} {reply} {after} running next no_collect last takes drops =
    let u : View = last.before in
    let answered : IsAnswered disk u w t o reply = last.event.outcome in
    let later = dropped_stands told disk w x t after.mode (last.event.keeps told (λ is. tt) last.gone.stands) drops in
    record {
      stands = later.0;
      others = KeepsOthers_both v w x t (KeepsOthers_both v u w t last.gone.others last.event.others) later.1;
      what =
          inr (inr (inr (inr (told_state v x next no_collect last.gone.own.history last.gone.own.values last.gone.stands
          answered (ap owes_silent running) takes drops))));
    }
