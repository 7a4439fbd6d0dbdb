-- What an event or a reply makes of a thread.
use Rattle.std.proofs.Common.{true, ◌≡◌, ◌≢◌, ℕ, ◌<◌, ◌≤◌, false, List, length, refl, sym, ◌∙◌, ap, subst}
use Rattle.std.proofs.Common.{arith, inl, inr}
use Rattle.std.specs.Prelude.{Bool, Option, None, Some, ◌⊎◌}
use Rattle.std.proofs.lemmas.Option.{same_Some}
use Rattle.melt_model.specs.declared.history.Entry.{Entry}
use Rattle.melt_model.specs.declared.history.Value.{Value}
use Rattle.melt_model.specs.declared.operations.Op.{Op}
use Rattle.melt_model.specs.declared.operations.Op.TheVariants.{Collect}
use Rattle.melt_model.specs.declared.operations.Reply.{Reply}
use Rattle.melt_model.specs.declared.reports.ThreadEnd.{ThreadEnd}
use Rattle.melt_model.specs.declared.reports.ThreadEnd.TheVariants as end
use Rattle.melt_record.specs.declared.damage.Damaged.{Damaged}
use Rattle.melt_scion.specs.Heaps.{OnDisk, register_in}
use Rattle.melt_core.specs.Answering.{Answers, with_entry}
use Rattle.melt_core.specs.Views.{View, values_of, maps, state, rest_of, call_of, stage_in, stage_of, Standing}
use Rattle.melt_core.specs.Advances.{AdvancesWhere, KeepsOthers, IsAnswered, CallGoesOn, Pauses}
use Rattle.melt_core.specs.Advances.{Continues, Refuses, IsLost, IsDamage, TellsDisk}
use Rattle.melt_core.specs.Stages.{events_left, Fits, LoadsAt, ReadsAt}
use Rattle.melt_core.specs.Known.{Known, Misses}
use Rattle.melt_core.specs.declared.call.Call.{Call}
use Rattle.melt_core.specs.declared.call.Place.{Place}
use Rattle.melt_core.specs.declared.call.Place.TheVariants.{Field, Global}
use Rattle.melt_core.specs.declared.call.Search.{Search}
use Rattle.melt_core.specs.declared.call.Stage.{Stage}
use Rattle.melt_core.specs.declared.call.Stage.TheVariants.{Missed, HeadRead}
use Rattle.melt_core.specs.declared.answer.Pause.{Pause}
use Rattle.melt_core.specs.declared.answer.Pause.TheVariants as pause
use Rattle.melt_core.specs.declared.answer.Refusal.{Refusal}
use Rattle.melt_core.specs.declared.answer.Refusal.TheVariants as refusal
use Rattle.melt_core.specs.declared.answer.StepResult.TheVariants.{Going, Refused}
use Rattle.melt_core.specs.Changed.{stopped}
use Rattle.melt_core.specs.Epochs.{HasDropped}
use Rattle.melt_core.proofs.Resting.{stands_stopped}
use Rattle.melt_core.proofs.Tasks.{load_is, gload_is}
use Rattle.melt_safepoint.specs.declared.thread.ThreadState.{ThreadState}
use Rattle.melt_safepoint.specs.declared.thread.Mode.{Mode}
use Rattle.melt_safepoint.specs.declared.thread.Mode.TheVariants.{Running, Due, Silent, Collecting, Asked, Lacking}
use Rattle.melt_safepoint.specs.declared.thread.Mode.TheVariants.{Ended}
use Rattle.melt_safepoint.specs.Needs.{IsLoad}
use Rattle.melt_safepoint.specs.Shown.{Underlies}
use Rattle.melt_safepoint.specs.Threads.{most_forwards, TakesReply}
use Rattle.melt_safepoint.specs.Modes.{owes_silent, Waits, IsEnded, mode_for}
use Rattle.melt_safepoint.specs.Endings.{SeesDamage, IsLostBy}
use Rattle.melt_safepoint.proofs.Modes.{told_runs, told_goes, NoPause}
use Rattle.melt_safepoint.specs.Tables.{DropsIfEnded, ThreadTold, ThreadStep, ThreadWaits, ThreadGoes, ThreadRefused}
use Rattle.melt_safepoint.specs.Tables.{ThreadLost, SetsStop, IsReady}
use Rattle.melt_safepoint.proofs.TableModes.{drop_cases, dropped_keeps, nothing_keeps, stop_keeps}

-- a thread waits for a collection
pub waits_step : {told : Bool} {disk : OnDisk} {v w : View} (t : ℕ) (s : ThreadState) (mode : Mode)
    → Standing told disk v → w ≡ stopped v
    → ((s.mode ≡ Running) × (s.op ≡ Some Collect) × (mode ≡ Collecting)) ⊎ ((s.mode ≡ Due) × (mode ≡ Silent))
    → ThreadStep told disk v w t s (record s { mode = mode })
waits_step {told} {disk} {v} t s mode stands is before =
    record {
      stands = subst (Standing told disk) (sym is) (stands_stopped disk told v stands);
      others = subst (λ (x : View). KeepsOthers v x t) (sym is) (stop_keeps v true t);
      what = inl (mode, record { only = refl; stop = is; before = before });
    }

-- one that has not ended drops nothing
pub drops_none : (v : View) (t : ℕ) (mode : Mode) → ((e : ThreadEnd) → mode ≡ Ended e → ⊥) → DropsIfEnded v v t mode
drops_none v t Running goes = refl
drops_none v t Due goes = refl
drops_none v t Silent goes = refl
drops_none v t Collecting goes = refl
drops_none v t Asked goes = refl
drops_none v t Lacking goes = refl
drops_none v t (Ended e) goes = absurd (goes e refl)

-- what others have of two events, one after the other
pub KeepsOthers_both : (v u w : View) (t : ℕ) → KeepsOthers v u t → KeepsOthers u w t → KeepsOthers v w t
KeepsOthers_both v u w t first next = record {
  globals = next.globals ∙ first.globals;
  words = next.words ∙ first.words;
  forwards = next.forwards ∙ first.forwards;
  threads = next.threads ∙ first.threads;
  capacity = next.capacity ∙ first.capacity;
  calls = λ u other. next.calls u other ∙ first.calls u other;
  records = λ u other. next.records u other ∙ first.records u other;
  registers = λ u other. next.registers u other ∙ first.registers u other;
  values = λ u other. next.values u other ∙ first.values u other;
}

-- and there are as many threads
pub thread_there : (v w : View) (t : ℕ) → KeepsOthers v w t → t < length v.held → t < length w.held
thread_there v w t others within =
    let same : length w.held ≡ length v.held = others.threads in omega (arith, same, within)

-- how a reply leaves the history and the registers of its thread, told or not
pub answers_told : {told : Bool} {disk : OnDisk} (v : View) {u w : View} {t : ℕ} {o : Op} {reply : Reply}
    → u.log ≡ v.log → values_of u t ≡ values_of v t → Standing told disk u → IsAnswered disk u w t o reply → told ≡ true
    → Answers t v.log (values_of v t) o reply w.log (values_of w t)
answers_told {disk} v {u} {w} {t} {o} {reply} log values stood answered is =
    let stood_told : Standing true disk u = subst (λ (b : Bool). Standing b disk u) is stood in
    let here : Answers t u.log (values_of u t) o reply w.log (values_of w t) = answered.answers stood_told in
    subst (λ (h : List Entry). Answers t h (values_of v t) o reply w.log (values_of w t)) log
    (subst (λ (vs : List Value). Answers t u.log vs o reply w.log (values_of w t)) values here)

-- a thread got its reply, by the last event of a call that the others saw nothing of
pub told_state : {told : Bool} {disk : OnDisk} (v : View) {u w : View} (x : View) {t : ℕ} {o : Op} {reply : Reply}
    {s after : ThreadState} → s.op ≡ Some o → o ≢ Collect → u.log ≡ v.log → values_of u t ≡ values_of v t
    → Standing told disk u → IsAnswered disk u w t o reply → owes_silent s.mode ≡ false → TakesReply s after reply
    → DropsIfEnded w x t after.mode → ThreadTold told v x t s after
told_state v {w} x {t} {o} {reply} {after} next no_collect log values stood answered open_ takes drops =
    let noted : w.log ≡ with_entry t v.log answered.history.0 =
    answered.history.1 ∙ ap (λ (h : List Entry). with_entry t h answered.history.0) log in
    elim (drop_cases w x t after.mode drops) [
      | inl ended ↦
          let dropped : HasDropped w x t = ended.1 in
          let history : x.log ≡ w.log = ap (λ (y : View). y.log) dropped.only in
          record {
            op = o;
            reply = reply;
            next = next;
            takes = takes;
            history = (answered.history.0, history ∙ noted);
            answers = λ is. (
              values_of w t,
              subst (λ (h : List Entry). Answers t v.log (values_of v t) o reply h (values_of w t)) (sym history)
                  (answers_told v log values stood answered is),
              inl ended.0,
            );
            dropped = λ over. dropped.here;
            call = ap (λ (y : View). call_of y t) dropped.only ∙ answered.call;
            not_due = open_;
            no_collect = λ goes. no_collect;
          }
      | inr goes ↦ record {
        op = o;
        reply = reply;
        next = next;
        takes = takes;
        history = (answered.history.0, ap (λ (y : View). y.log) goes.1 ∙ noted);
        answers = λ is. (
          values_of w t,
          subst (λ (y : View). Answers t v.log (values_of v t) o reply y.log (values_of w t)) (sym goes.1)
              (answers_told v log values stood answered is),
          inr (ap (λ (y : View). values_of y t) (sym goes.1)),
        );
        dropped = λ over. absurd (goes.0 over);
        call = ap (λ (y : View). call_of y t) goes.1 ∙ answered.call;
        not_due = open_;
        no_collect = λ can. no_collect;
      }
    ]

-- all is well after a call that is over, and the others saw nothing of it
pub dropped_stands : (told : Bool) (disk : OnDisk) (w x : View) (t : ℕ) (mode : Mode) → Standing told disk w
    → DropsIfEnded w x t mode → Standing told disk x × KeepsOthers w x t
dropped_stands told disk w x t mode stands drops =
    elim (drop_cases w x t mode drops) [
      | inl ended ↦ (
        ended.1.keeps told disk stands,
        dropped_keeps w x t ended.1,
      )
      | inr goes ↦ (
        subst (Standing told disk) (sym goes.1) stands,
        subst (λ (y : View). KeepsOthers w y t) (sym goes.1) (nothing_keeps w t),
      )
    ]

-- and the stop word is as it was
pub stop_dropped : (w x : View) (t : ℕ) (mode : Mode) → DropsIfEnded w x t mode → x.stop ≡ w.stop
stop_dropped w x t mode drops = elim (drop_cases w x t mode drops) [
  | inl ended ↦ ap (λ (y : View). y.stop) ended.1.only
  | inr goes ↦ ap (λ (y : View). y.stop) goes.1
]

-- and so are the calls in flight
pub calls_dropped : (w x : View) (t : ℕ) (mode : Mode) → DropsIfEnded w x t mode → x.calls ≡ w.calls
calls_dropped w x t mode drops = elim (drop_cases w x t mode drops) [
  | inl ended ↦ ap (λ (y : View). y.calls) ended.1.only
  | inr goes ↦ ap (λ (y : View). y.calls) goes.1
]

-- what an event is that leaves the stop word, of a thread that waits for nothing after it
pub stop_same : (v w : View) (after : ThreadState) → w.stop ≡ v.stop → (Waits after.mode → ⊥)
    → (after.mode ≡ Asked → ⊥) → SetsStop v w after
stop_same v w after same rests runs = record {
  waits = λ waits. absurd (rests waits);
  stop = λ is. inl (sym same ∙ is);
  stays = λ is. same ∙ is;
  asked = λ asked. absurd (runs asked);
}

-- the thread runs on with its call
pub goes_sets : (v w : View) (s : ThreadState) → s.mode ≡ Running → w.stop ≡ v.stop → SetsStop v w s
goes_sets v w s running same =
    stop_same v w s same (λ waits. subst Waits running waits)
    (λ asked. let none : Running ≡ Asked = sym running ∙ asked in cc)

-- a call that goes on has fewer events after it
pub goes_nearer : (disk : OnDisk) (v w : View) (t : ℕ) (o : Op) → CallGoesOn disk v w t o
    → length v.forward ≤ most_forwards
    → events_left most_forwards (stage_in (call_of w t)) < events_left most_forwards (stage_in (call_of v t))
goes_nearer disk v w t o goes few =
    subst (λ (now : Option Call). events_left most_forwards (stage_in now)
    < events_left most_forwards (stage_in (call_of v t))) (sym goes.call) (goes.nearer most_forwards few)

-- an event after which the call goes on
pub goes_step : {told : Bool} {tells : Type 0} {disk : OnDisk} {v w : View} {t : ℕ} {o : Op} (s : ThreadState)
    → s.mode ≡ Running → s.op ≡ Some o → o ≢ Collect → Standing told disk v → (told ≡ true → tells)
    → length v.forward ≤ most_forwards → AdvancesWhere tells disk v w t o Going → ThreadStep told disk v w t s s
goes_step {told} {disk} {v} {w} {t} {o} s running next no_collect stands tell few advances =
    let goes : CallGoesOn disk v w t o = advances.outcome in
    let call : Call = record { op = o; stage = goes.stage } in
    record {
      stands = advances.keeps told tell stands;
      others = advances.others;
      what = inr (inl (record {
        same = refl;
        running = running;
        call = call;
        flight = goes.call;
        op = next;
        no_collect = no_collect;
        nearer = goes_nearer disk v w t o goes few;
        history = goes.own.history;
        values = goes.own.values;
      }));
    }

-- the thread waits after a call that paused
pause_sets : (v w : View) (t : ℕ) (o : Op) (s : ThreadState) (cause : Pause) → Pauses v w t o cause
    → SetsStop v w (record s { mode = mode_for (refusal.Pause cause) })
pause_sets v w t o s pause.Asked is = record {
  waits = λ waits. absurd waits;
  stop = λ set. inl (ap (λ (y : View). y.stop) (sym is.same) ∙ set);
  stays = λ set. ap (λ (y : View). y.stop) is.same ∙ set;
  asked = λ asked. ap (λ (y : View). y.stop) is.same ∙ is.pauses.1;
}
pause_sets v w t o s (pause.Space need) is = record {
  waits = λ waits. is.stop;
  stop = λ set. inr tt;
  stays = λ set. is.stop;
  asked = λ asked. is.stop;
}
pause_sets v w t o s pause.Forward is = record {
  waits = λ waits. is.stop;
  stop = λ set. inr tt;
  stays = λ set. is.stop;
  asked = λ asked. is.stop;
}

-- a call that paused drops nothing
pause_drops : (w x : View) (t : ℕ) (cause : Pause) → DropsIfEnded w x t (mode_for (refusal.Pause cause)) → x ≡ w
pause_drops w x t pause.Asked is = is
pause_drops w x t (pause.Space need) is = is
pause_drops w x t pause.Forward is = is

-- the operation that loads at a place is a load
load_at : (register : ℕ → ℕ) (o : Op) (place : Place) (dst : ℕ) → LoadsAt register o place dst → IsLoad o
load_at register o (Field object i) dst loads = subst IsLoad (sym (load_is o loads.0 dst i loads.1)) tt
load_at register o (Global g) dst loads = subst IsLoad (sym (gload_is o dst g loads)) tt

-- a home that a search read is before the end of the disk
searched : (told : Bool) (disk : OnDisk) (v : View) (search : Search) (home : ℕ)
    → Misses told (maps v) (state disk v) search → search.home ≡ home → home < disk.end
searched told disk v search home misses is =
    subst (λ (k : ℕ). k < disk.end) is misses.searches.looked.may_stand.1

-- what reads the disk is a load, at a home that is before its end
pub reads_load : (told : Bool) (disk : OnDisk) (v : View) (t home : ℕ) (o : Op) → Standing told disk v
    → Continues (call_of v t) o → ReadsAt (stage_of v t) home → IsLoad o × (home < disk.end)
reads_load told disk v t home o stands continued reads = by_call (call_of v t) refl continued reads
  where
    by_stage : (g : Stage) → Fits (register_in v.held t) o g → Known told (maps v) (state disk v) (rest_of v t) g
        → ReadsAt (Some g) home → IsLoad o × (home < disk.end)
    by_stage (Missed search) fits known reads = (
      load_at (register_in v.held t) o search.place search.dst fits,
      searched told disk v search home known.0 reads,
    )
    by_stage (HeadRead search shape) fits known reads = (
      load_at (register_in v.held t) o search.place search.dst fits,
      searched told disk v search home known.0 reads,
    )
    by_stage g fits known reads = absurd reads

    by_call : (now : Option Call) → call_of v t ≡ now → Continues now o → ReadsAt (stage_in now) home
        → IsLoad o × (home < disk.end)
    by_call None is continued reads = absurd reads
    by_call (Some c) is continued reads =
        by_stage c.stage
        (subst (λ (p : Op). Fits (register_in v.held t) p c.stage) (sym continued) (stands.fits t c is))
        (stands.known t c is) reads

-- where and with what the event of a call began that was refused
pub record Begins (told : Bool) (image : Option (List ℕ)) (disk : OnDisk) (v : View) (t : ℕ) (o : Op) (why : Refusal)
    : Type 0 where
  pub stands : Standing told disk v
  pub continued : Continues (call_of v t) o
  pub tells : told ≡ true → TellsDisk image disk
  pub damage : (damaged : Damaged) → why ≡ refusal.Damaged damaged → IsDamage image disk.end v t damaged

-- why the thread has ended
lost_cause : {told : Bool} {image : Option (List ℕ)} {disk : OnDisk} {v : View} (w : View) {t : ℕ} {o : Op}
    (why : Refusal) → NoPause why → Begins told image disk v t o why → Refuses (TellsDisk image disk) disk v w t o why
    → IsLostBy told disk.end why × (home : ℕ) × IsLost v w t home
lost_cause {told} {image} {disk} {v} w {t} {o} (refusal.Pause cause) none begins is = absurd none
lost_cause {told} {image} {disk} {v} w {t} {o} refusal.DiskFault none begins is = (tt, is.0, is.1)
lost_cause {told} {image} {disk} {v} w {t} {o} (refusal.Damaged damaged) none begins is =
    let below : damaged.home < disk.end =
    (reads_load told disk v t damaged.home o begins.stands begins.continued is.lost.reads).1 in
    let damage : IsDamage image disk.end v t damaged = begins.damage damaged refl in
    let sees : SeesDamage told disk.end damaged = record {
      untold = λ is_told.
          is.untold (begins.tells is_told) (subst (λ (b : Bool). Standing b disk v) is_told begins.stands);
      read = λ config within. record {
        end = disk.end;
        within = within;
        below = below;
        scions = v.scions;
        stage = stage_of v t;
        words = damage.words;
        breaks = damage.breaks;
      };
    } in
    (sees, damaged.home, is.lost)

-- what an ended thread dropped
drops_lost : (w x : View) (t : ℕ) (why : Refusal) → NoPause why → DropsIfEnded w x t (mode_for why) → HasDropped w x t
drops_lost w x t (refusal.Pause cause) none drops = absurd none
drops_lost w x t refusal.DiskFault none drops = drops
drops_lost w x t (refusal.Damaged damaged) none drops = drops

-- A thread has ended, as its record could not be read, or is none, in the last event of a call that the history saw
-- nothing of.
pub lost_state : {told : Bool} {image : Option (List ℕ)} {disk : OnDisk} (v : View) {u : View} (w x : View) {t : ℕ}
    {o : Op} (s : ThreadState) {why : Refusal} → s.op ≡ Some o → owes_silent s.mode ≡ false → (IsEnded s.mode → ⊥)
    → u.log ≡ v.log → NoPause why → Begins told image disk u t o why → Refuses (TellsDisk image disk) disk u w t o why
    → DropsIfEnded w x t (mode_for why) → ThreadLost told disk.end v x t s (record s { mode = mode_for why })
lost_state {told} {disk} v {u} w x {t} {o} s {why} next open_ goes log none begins is drops =
    let cause = lost_cause w why none begins is in
    let lost : IsLost u w t cause.1 = cause.2 in
    let dropped : HasDropped w x t = drops_lost w x t why none drops in
    record {
      op = o;
      next = next;
      loads = (reads_load told disk u t cause.1 o begins.stands begins.continued lost.reads).0;
      refusal = why;
      cause = cause.0;
      only = refl;
      not_due = open_;
      goes = goes;
      call = ap (λ (y : View). call_of y t) dropped.only ∙ lost.call;
      history = ap (λ (y : View). y.log) dropped.only ∙ (lost.own.history ∙ log);
      dropped = dropped.here;
    }

-- an event by which a thread got its reply
pub told_step : {told : Bool} {disk : OnDisk} {v w : View} (x : View) {t : ℕ} {o : Op} {reply : Reply}
    {s after : ThreadState} → s.mode ≡ Running → s.op ≡ Some o → o ≢ Collect → Standing told disk v
    → Standing told disk w → KeepsOthers v w t → IsAnswered disk v w t o reply → TakesReply s after reply
    → DropsIfEnded w x t after.mode → ThreadStep told disk v x t s after
told_step {told} {disk} {v} {w} x {t} {after} running next no_collect stood stands others answered takes drops =
    let later = dropped_stands told disk w x t after.mode stands drops in
    record {
      stands = later.0;
      others = KeepsOthers_both v w x t others later.1;
      what =
          inr (inr (inr (inr (told_state v x next no_collect refl refl stood answered (ap owes_silent running) takes
          drops))));
    }

-- what it does to the stop word
pub told_sets : (v w x : View) (t : ℕ) {s after : ThreadState} {reply : Reply} → w.stop ≡ v.stop
    → TakesReply s after reply → DropsIfEnded w x t after.mode → SetsStop v x after
told_sets v w x t {s} {after} {reply} same takes drops =
    stop_same v x after (stop_dropped w x t after.mode drops ∙ same) (told_goes s after reply takes)
    (told_runs s after reply takes)

-- an event by which the call was refused
pub refused_step : {told : Bool} {image : Option (List ℕ)} {disk : OnDisk} {v w : View} (x : View) {t : ℕ} {o : Op}
    (s : ThreadState) {why : Refusal} → s.mode ≡ Running → s.op ≡ Some o → o ≢ Collect
    → Begins told image disk v t o why → AdvancesWhere (TellsDisk image disk) disk v w t o (Refused why)
    → DropsIfEnded w x t (mode_for why) → ThreadStep told disk v x t s (record s { mode = mode_for why })
refused_step {told} {image} {disk} {v} {w} x {t} {o} s {why} running next no_collect begins advances drops =
    let later = dropped_stands told disk w x t (mode_for why) (advances.keeps told begins.tells begins.stands) drops in
    record {
      stands = later.0;
      others = KeepsOthers_both v w x t advances.others later.1;
      what = by_cause why begins advances.outcome drops;
    }
  where
    waits : (cause : Pause) → Pauses v w t o cause → x ≡ w
        → ThreadRefused v x t s (record s { mode = mode_for (refusal.Pause cause) })
    waits cause is same = record {
      running = running;
      op = o;
      next = next;
      no_collect = no_collect;
      cause = cause;
      pauses = subst (λ (y : View). Pauses v y t o cause) (sym same) is;
      only = refl;
    }

    alive : IsEnded s.mode → ⊥
    alive over = subst IsEnded running over

    by_cause : (r : Refusal) → Begins told image disk v t o r → Refuses (TellsDisk image disk) disk v w t o r
        → DropsIfEnded w x t (mode_for r)
        → ((mode : Mode) × ThreadWaits v x t s (record s { mode = mode_for r }) mode)
        ⊎ (ThreadGoes v x t s (record s { mode = mode_for r }) ⊎ (ThreadRefused v x t s (record s { mode = mode_for r })
        ⊎ (ThreadLost told disk.end v x t s (record s { mode = mode_for r })
        ⊎ ThreadTold told v x t s (record s { mode = mode_for r }))))
    by_cause (refusal.Pause cause) from is over = inr (inr (inl (waits cause is (pause_drops w x t cause over))))
    by_cause refusal.DiskFault from is over =
        inr (inr (inr (inl (lost_state v w x s next (ap owes_silent running) alive refl tt from is over))))
    by_cause (refusal.Damaged damaged) from is over =
        inr (inr (inr (inl (lost_state v w x s next (ap owes_silent running) alive refl tt from is over))))

module _ (tells : Type 0) (disk : OnDisk) where
  -- what it does to the stop word
  pub refused_sets : {v : View} (w : View) {x : View} (t : ℕ) (o : Op) (s : ThreadState) (why : Refusal)
      → Refuses tells disk v w t o why → DropsIfEnded w x t (mode_for why)
      → SetsStop v x (record s { mode = mode_for why })
  refused_sets {v} w {x} t o s (refusal.Pause cause) is drops =
      subst (λ (y : View). SetsStop v y (record s { mode = mode_for (refusal.Pause cause) }))
      (sym (pause_drops w x t cause drops)) (pause_sets v w t o s cause is)
  refused_sets {v} w {x} t o s refusal.DiskFault is drops =
      stop_same v x (record s { mode = Ended end.DiskFault })
      (stop_dropped w x t (Ended end.DiskFault) drops ∙ is.1.stop) (λ waits. waits) (λ asked. cc)
  refused_sets {v} w {x} t o s (refusal.Damaged damaged) is drops =
      let over : Mode = mode_for (refusal.Damaged damaged) in
      stop_same v x (record s { mode = over }) (stop_dropped w x t over drops ∙ is.lost.stop) (λ waits. waits)
      (λ asked. cc)

  -- the call is over
  pub refused_call : (v w : View) (t : ℕ) (o : Op) (why : Refusal)
      → Refuses tells disk v w t o why → call_of w t ≡ None
  refused_call v w t o (refusal.Pause pause.Asked) is = ap (λ (y : View). call_of y t) is.same ∙ is.first
  refused_call v w t o (refusal.Pause (pause.Space need)) is = is.call
  refused_call v w t o (refusal.Pause pause.Forward) is = is.call
  refused_call v w t o refusal.DiskFault is = is.1.call
  refused_call v w t o (refusal.Damaged damaged) is = is.lost.call

-- the call in flight is that of the next operation
pub continues_next : (now : Option Call) (next : Option Op) (o : Op) → ((c : Call) → now ≡ Some c → next ≡ Some c.op)
    → next ≡ Some o → Continues now o
continues_next None next o call is = tt
continues_next (Some c) next o call is = same_Some o c.op (sym is ∙ call c refl)

-- what may be read of the disk in the event of a thread that is ready
pub begins_ready : {told : Bool} {image : Option (List ℕ)} {finish : ℕ} {disk : OnDisk} {v : View} {t : ℕ} {o : Op}
    {s : ThreadState} (why : Refusal) → IsReady finish v t s → s.op ≡ Some o → Underlies told finish image disk
    → Standing told disk v → ((damaged : Damaged) → why ≡ refusal.Damaged damaged → IsDamage image finish v t damaged)
    → Begins told image disk v t o why
begins_ready {image} {v} {t} {o} {s} why ready next under stands damage = record {
  stands = stands;
  continued = continues_next (call_of v t) s.op o (λ c is. (ready.call c is).1) next;
  tells = under.tells;
  damage = λ damaged is. subst (λ (k : ℕ). IsDamage image k v t damaged) (sym under.ends) (damage damaged is);
}
