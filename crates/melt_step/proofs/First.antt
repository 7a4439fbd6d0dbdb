-- The call that a thread that lacked room makes alone, after a collection.
use Rattle.std.proofs.Common.{◌≡◌, ◌≢◌, ℕ, ◌+◌, ◌*◌, ◌<◌, ◌≤◌, zero, suc, true, false, List, ◌∷◌, length}
use Rattle.std.proofs.Common.{refl, sym, ◌∙◌, ap, subst, arith, inl, inr}
use Rattle.std.proofs.Math.ListN.{set}
use Rattle.std.proofs.lemmas.Bool.{cases_eq}
use Rattle.std.proofs.lemmas.Option.{same_Some}
use Rattle.std.specs.Prelude.{Bool, Option, None, Some, IsSome, IfSome, slice_get, ◌⊎◌}
use Rattle.melt_model.specs.Alive.{Held, words_of, CostsSum}
use Rattle.melt_model.specs.Thread.{value_in}
use Rattle.melt_model.specs.declared.config.Config.{Config}
use Rattle.melt_model.specs.declared.history.Entry.{Entry}
use Rattle.melt_model.specs.declared.history.Value.{Value}
use Rattle.melt_model.specs.declared.operations.Op.{Op}
use Rattle.melt_model.specs.declared.operations.Op.TheVariants as op
use Rattle.melt_model.specs.declared.operations.Op.TheVariants.{Collect}
use Rattle.melt_model.specs.declared.reports.Journal.{Journal}
use Rattle.melt_model.proofs.Sums.{CostsSum-one}
use Rattle.melt_trace.specs.Grammar.{InRange}
use Rattle.melt_trace.specs.Script.{Script}
use Rattle.melt_scion.specs.Heaps.{OnDisk}
use Rattle.melt_core.specs.Advances.{InBounds, KeepsOthers, TellsDisk}
use Rattle.melt_core.specs.StaleBits.{BitsTold, TiedTo, sight}
use Rattle.melt_core.specs.Views.{View, Standing, call_of, value, values_of, IsQuiet}
use Rattle.melt_safepoint.specs.declared.thread.Mode.{Mode}
use Rattle.melt_safepoint.specs.declared.thread.Mode.TheVariants.{Lacking}
use Rattle.melt_safepoint.specs.declared.thread.ThreadState.{ThreadState}
use Rattle.melt_safepoint.specs.Journals.{IsTight, before}
use Rattle.melt_safepoint.specs.Passing.{IsLacking, CalledAt, WaitsForRoom}
use Rattle.melt_safepoint.specs.Needs.{NeedsWords}
use Rattle.melt_safepoint.specs.Shown.{Shown, Underlies}
use Rattle.melt_safepoint.specs.Threads.{DueBy, OweAfterCollects, jobs_of, left, with_first}
use Rattle.melt_safepoint.specs.Modes.{FitsMode, IsEnded, jobs, mode_for}
use Rattle.melt_safepoint.specs.Endings.{TiedMoments}
use Rattle.melt_safepoint.proofs.LackingWords.{lacks_words}
use Rattle.melt_safepoint.proofs.Staying.{one_address, tied_still}
use Rattle.melt_safepoint.proofs.Counting.{Adds, counts_paid}
use Rattle.melt_safepoint.proofs.Cuts.{held_words_same, needs_same}
use Rattle.melt_safepoint.proofs.Journals.{before_end}
use Rattle.melt_safepoint.proofs.Modes.{lost_ends}
use Rattle.melt_safepoint.proofs.Threads.{set_got}
use Rattle.melt_safepoint.proofs.Lacking.{lacking_open, Frees, frees_ended, told_goes, called_at}
use Rattle.melt_safepoint.specs.Collections.{AllMarked, MadeSoFar}
use Rattle.melt_step.specs.Lone.{IsAloneReady, CalledAlone, CalledOver, LacksAlone}
use Rattle.melt_step.specs.Going.{CallsFirst, StandsInside, MadeCall, MakesCall, MomentsSince}
use Rattle.melt_safepoint.specs.Epochs.{LacksFirst}
use Rattle.melt_safepoint.specs.Passing.{NoneOwn}
use Rattle.melt_safepoint.specs.Rows.{AwaitsCall, CollectorStands, JustCollected, LacksBy, LacksWords, LeftBy, OnlyHeld}
use Rattle.melt_safepoint.specs.Rows.{Row, SomeAwaits, StandsBut, last_of}
use Rattle.melt_step.specs.Made.{MakesInUse}
use Rattle.melt_step.specs.Tied.{KeepsTied}
use Rattle.melt_step.proofs.Since.{since_begun}
use Rattle.melt_step.proofs.Tied.{bits_told, has_registers, tied_begins}
use Rattle.melt_safepoint.specs.Tables.{IsReady, TableStands, ThreadLost, ThreadStep, ThreadTold}
use Rattle.melt_safepoint.specs.declared.collector.Collector.{Collector}
use Rattle.melt_safepoint.proofs.TableCounts.{adds_got, adds_lost, counts_of}
use Rattle.melt_safepoint.proofs.Tables.{Table_lacks, Table_step, Table_untold, log_step, moments_step, table_ready}

-- what it has next
pub lacking_next : {told : Bool} {script : Script} {config : Config} {disk : OnDisk} {v : View}
    {states : List ThreadState} {t : ℕ} {s : ThreadState} → TableStands told script config disk v states
    → IsLacking states t s → IsSome s.op × (s.op ≢ Some Collect)
lacking_next {told} {script} {config} {disk} {v} {states} {t} {s} table was =
    let fits : FitsMode Lacking s.op =
    subst (λ (m : Mode). FitsMode m s.op) was.lacking (table.each t s was.at).fits in
    (fits.0, fits.1)

-- what there is, if there is something
what_is : (next : Option Op) → IsSome next → (o : Op) × (next ≡ Some o)
what_is None is = absurd (cc)
what_is (Some o) is = (o, refl)

-- so it has a next operation
pub has_next : {told : Bool} {script : Script} {config : Config} {disk : OnDisk} {v : View}
    {states : List ThreadState} {t : ℕ} {s : ThreadState} → TableStands told script config disk v states
    → IsLacking states t s → (o : Op) × (s.op ≡ Some o)
has_next {told} {script} {config} {disk} {v} {states} {t} {s} table was = what_is s.op (lacking_next table was).0

-- what an operation of a script names is there
in_bounds : (globals : ℕ) (o : Op) → InRange globals o → InBounds globals o
in_bounds globals (op.New dst refs nums) is = is
in_bounds globals (op.Load dst src i) is = (is.0, is.1)
in_bounds globals (op.Store obj i src) is = (is.0, is.2)
in_bounds globals (op.Get src j) is = is.0
in_bounds globals (op.Put obj j x) is = is.0
in_bounds globals (op.GLoad dst g) is = is
in_bounds globals (op.GStore g src) is = is
in_bounds globals (op.Same a b) is = is
in_bounds globals (op.Copy dst src) is = is
in_bounds globals (op.Drop r) is = is
in_bounds globals op.Collect is = tt

-- the thread may make its call alone
pub alone_ready : {told : Bool} {script : Script} {config : Config} {shown : Shown} {forced : ℕ} {run : Row} {t : ℕ}
    {s : ThreadState} (o : Op) → AwaitsCall told script config shown forced run t → IsLacking run.states t s
    → s.op ≡ Some o → run.view.stop ≡ false → IsAloneReady shown.end run.view t s o
alone_ready {told} {script} {config} {shown} {forced} {run} {t} {s} o awaits was next stop =
    let v : View = run.view in
    let table =
    Table_untold told script config awaits.stands.disk v run.states awaits.stands.table in
    let ready : IsReady shown.end v t s =
    table_ready t table awaits.stands.under.ends was.at in
    let fits = lacking_next table was in
    record {
      disk = awaits.stands.disk;
      ends = awaits.stands.under.ends;
      stands = table.stands;
      thread = ready.thread;
      waits = was.lacking;
      next = next;
      no_collect = λ is. fits.1 (next ∙ ap Some is);
      bounds = in_bounds (length v.globals) o
          (subst (λ (x : Option Op). IfSome x (InRange (length v.globals))) next ready.in_range);
      no_call = awaits.stands.quiet t;
      no_stop = stop;
      none_forwarded = awaits.collected.none_forwarded;
      forwards = table.forwards;
      some_forward = table.some_forward;
      entries = ready.entries fits.0;
      few = ready.few;
      room = ready.room fits.0;
    }

-- what a call did over each disk that is seen so, seen by other names
pub called_by : (shown : Shown) {finish : ℕ} {image : Option (List ℕ)} {v w : View} (t : ℕ) (s after : ThreadState)
    (o : Op) (lacks : Option ℕ) → shown.end ≡ finish → shown.image ≡ image
    → CalledAlone finish image v w t s after o lacks → CalledAlone shown.end shown.image v w t s after o lacks
called_by shown t s after o lacks ends shows called = λ told disk under.
    called told disk (record {
      ends = under.ends ∙ ends;
      tells = λ is. subst (λ (x : Option (List ℕ)). TellsDisk x disk) shows (under.tells is);
    })

-- and what it made
pub makes_by : (shown : Shown) (finish : ℕ) (image : Option (List ℕ)) (v w : View) → shown.end ≡ finish
    → shown.image ≡ image → MakesInUse finish image v w → MakesInUse shown.end shown.image v w
makes_by shown finish image v w ends shows makes = λ disk under.
    makes disk (record {
      ends = under.ends ∙ ends;
      tells = λ is. subst (λ (x : Option (List ℕ)). TellsDisk x disk) shows (under.tells is);
    })

-- and to what the stale bit is tied after it
pub ties_by : (shown : Shown) (finish : ℕ) (image : Option (List ℕ)) (v w : View) (t : ℕ) → shown.end ≡ finish
    → shown.image ≡ image → KeepsTied finish image v w t → KeepsTied shown.end shown.image v w t
ties_by shown finish image v w t ends shows ties = λ begun disk under.
    ties begun disk (record {
      ends = under.ends ∙ ends;
      tells = λ is. subst (λ (x : Option (List ℕ)). TellsDisk x disk) shows (under.tells is);
    })

-- what a call did over the disk under the run
call_over : {told : Bool} {script : Script} {config : Config} {shown : Shown} {forced : ℕ} {old new : Row} {t : ℕ}
    {lacks : Option ℕ} (awaits : AwaitsCall told script config shown forced old t)
    (m : MakesCall shown old new t lacks)
    → CalledOver told awaits.stands.disk old.view new.view t m.s m.after m.op lacks
call_over {told} {script} {config} {shown} {forced} {old} {new} {t} {lacks} awaits m =
    m.called told awaits.stands.disk awaits.stands.under awaits.stands.table.stands

-- what came of a call that lacked nothing
came : {told : Bool} {disk : OnDisk} {v w : View} {t : ℕ} {s after : ThreadState} {o : Op} {lacks : Option ℕ}
    → lacks ≡ None → CalledOver told disk v w t s after o lacks
    → (w.stop ≡ false) × (ThreadLost told disk.end v w t s after ⊎ ThreadTold told v w t s after)
came {told} {disk} {v} {w} {t} {s} {after} {o} {lacks} is over = elim over.what [
  | inl made ↦ (made.1, made.2)
  | inr other ↦ absurd (let some : lacks ≡ Some other.0 = other.1 in cc)
]

-- what a call lacked
lacked : {told : Bool} {disk : OnDisk} {v w : View} {t : ℕ} {s after : ThreadState} {o : Op} {lacks : Option ℕ}
    (need : ℕ) → lacks ≡ Some need → CalledOver told disk v w t s after o lacks
    → LacksAlone told v w t s after o need
lacked {told} {disk} {v} {w} {t} {s} {after} {o} {lacks} need is over = elim over.what [
  | inl made ↦ absurd (let none : lacks ≡ None = made.0 in cc)
  | inr other ↦ subst (LacksAlone told v w t s after o) (same_Some other.0 need (sym other.1 ∙ is)) other.2
]

-- whatever it made is in use
call_makes : {told : Bool} {script : Script} {config : Config} {shown : Shown} {forced : ℕ} {old new : Row} {t : ℕ}
    {lacks : Option ℕ} → AwaitsCall told script config shown forced old t → MakesCall shown old new t lacks
    → told ≡ true → MadeSoFar config new.view new.collector.journal.items
call_makes {told} {script} {config} {shown} {forced} {old} {new} {t} {lacks} awaits m is =
    let stands : StandsBut (suc forced) told script config shown old = awaits.stands in
    let disk : OnDisk = stands.disk in
    subst (λ (c : Collector). MadeSoFar config new.view c.journal.items) (sym m.collector)
    (m.makes disk (subst (λ (b : Bool). Underlies b shown.end shown.image disk) is stands.under)
    (subst (λ (b : Bool). Standing b disk old.view) is stands.table.stands)
    (config.heap * length old.collector.journal.items) (stands.made is))

-- the stale bit is tied to the history since the epoch began
call_tied : {told : Bool} {script : Script} {config : Config} {shown : Shown} {forced : ℕ} {old new : Row} {t : ℕ}
    {lacks : Option ℕ} → AwaitsCall told script config shown forced old t → MakesCall shown old new t lacks
    → told ≡ true → TiedTo old.view new.view
call_tied {told} {script} {config} {shown} {forced} {old} {new} {t} {lacks} awaits m is =
    let stands : StandsBut (suc forced) told script config shown old = awaits.stands in
    let disk : OnDisk = stands.disk in
    m.ties old.view disk (subst (λ (b : Bool). Underlies b shown.end shown.image disk) is stands.under)
    (subst (λ (b : Bool). Standing b disk old.view) is stands.table.stands)
    (has_registers t stands.table is m.was.at (lacking_open m.was)) (tied_begins old.view stands.quiet)

-- a call that lacked nothing is an event of its thread
call_step : {told : Bool} {script : Script} {config : Config} {shown : Shown} {forced : ℕ} {old new : Row} {t : ℕ}
    {lacks : Option ℕ} (awaits : AwaitsCall told script config shown forced old t)
    (m : MakesCall shown old new t lacks) → lacks ≡ None
    → ThreadStep told awaits.stands.disk old.view new.view t m.s m.after
call_step {told} {script} {config} {shown} {forced} {old} {new} {t} {lacks} awaits m none =
    let over = call_over awaits m in
    record { stands = over.stands; others = over.others; what = inr (inr (inr (came none over).1)) }

-- so the run stands after it
pub made_stands : {told : Bool} {script : Script} {config : Config} {shown : Shown} {forced : ℕ} {old new : Row} {t : ℕ}
    {lacks : Option ℕ} → AwaitsCall told script config shown forced old t → MakesCall shown old new t lacks
    → lacks ≡ None → StandsInside old.view told script config shown new
made_stands {told} {script} {config} {shown} {forced} {old} {new} {t} {lacks} awaits m none =
    let v : View = old.view in
    let w : View = new.view in
    let states : List ThreadState = old.states in
    let stands : StandsBut (suc forced) told script config shown old = awaits.stands in
    let disk : OnDisk = stands.disk in
    let open_ : IsEnded m.s.mode → ⊥ = lacking_open m.was in
    let within : disk.end ≤ config.disk =
    subst (λ (n : ℕ). n ≤ config.disk) (sym stands.under.ends) stands.collector.within in
    let step : ThreadStep told disk v w t m.s m.after = call_step awaits m none in
    let due : DueBy config.every m.s m.after = subst (λ (n : ℕ). DueBy n m.s m.after) stands.every m.due in
    let fits = lacking_next stands.table m.was in
    let table : TableStands told script config disk w (set states t m.after) =
    Table_step within stands.table m.was.at open_ step due in
    let moments : told ≡ true → MomentsSince v script w.log (set states t m.after) config old.collector.journal.items =
    λ tells. since_begun told tells stands.table.stands (stands.moments tells)
    (log_step within stands.table m.was.at open_ step due)
    (moments_step old.collector.journal.items within stands.table m.was.at open_ step due (stands.moments tells).have) in
    let adds : Adds script config states (set states t m.after) 0 1 = elim (came none (call_over awaits m)).1 [
      | inl is ↦ adds_lost stands.table m.was.at is
      | inr got ↦ adds_got stands.table m.was.at due open_ got (λ same. fits.1 (got.next ∙ ap Some same))
    ] in
    record {
      disk = disk;
      under = stands.under;
      none_free = stands.none_free;
      table = subst (TableStands told script config disk w) (sym m.states) table;
      words = m.words ∙ stands.words;
      every = m.every ∙ stands.every;
      told_is = m.told ∙ stands.told_is;
      collector = subst (CollectorStands config shown) (sym m.collector) stands.collector;
      moments = λ tells.
          subst (λ (c : Collector). MomentsSince v script w.log new.states config c.journal.items) (sym m.collector)
          (subst (λ (xs : List ThreadState). MomentsSince v script w.log xs config old.collector.journal.items)
          (sym m.states) (moments tells));
      made = call_makes awaits m;
      counts = counts_of script config new (set states t m.after) old.collector m.states m.collector
          (counts_paid script config (suc forced) states (set states t m.after) (length old.collector.journal.items)
          (omega (arith, awaits.few)) stands.counts adds);
      tied = call_tied awaits m;
    }

-- no call is in flight after an event that leaves none of its thread
quiet_after : (v w : View) (t : ℕ) → KeepsOthers v w t → call_of w t ≡ None → IsQuiet v → IsQuiet w
quiet_after v w t others here quiet u = elim (cases_eq u t) [
  | inl same ↦ ap (call_of w) same ∙ here
  | inr differ ↦ others.calls u differ ∙ quiet u
]

-- a call that was answered, or ended its thread, is not in flight
ended_call : {told : Bool} {finish : ℕ} {v w : View} {t : ℕ} {s after : ThreadState}
    → ThreadLost told finish v w t s after ⊎ ThreadTold told v w t s after → call_of w t ≡ None
ended_call {told} {finish} {v} {w} {t} {s} {after} what = elim what [ inl lost ↦ lost.call | inr got ↦ got.call ]

-- so none is in flight
pub made_quiet : {told : Bool} {script : Script} {config : Config} {shown : Shown} {forced : ℕ} {old new : Row} {t : ℕ}
    {lacks : Option ℕ} → AwaitsCall told script config shown forced old t → MakesCall shown old new t lacks
    → lacks ≡ None → IsQuiet new.view
made_quiet {told} {script} {config} {shown} {forced} {old} {new} {t} {lacks} awaits m none =
    let over = call_over awaits m in
    quiet_after old.view new.view t over.others (ended_call (came none over).1) awaits.stands.quiet

-- and the stop word is not set
pub made_stop : {told : Bool} {script : Script} {config : Config} {shown : Shown} {forced : ℕ} {old new : Row} {t : ℕ}
    {lacks : Option ℕ} → AwaitsCall told script config shown forced old t → MakesCall shown old new t lacks
    → lacks ≡ None → new.view.stop ≡ false
made_stop {told} {script} {config} {shown} {forced} {old} {new} {t} {lacks} awaits m none =
    (came none (call_over awaits m)).0

-- a thread that got its reply has less to do
told_jobs : (told : Bool) (v w : View) (t : ℕ) (s after : ThreadState) → s.mode ≡ Lacking
    → ThreadTold told v w t s after → jobs_of after < jobs_of s
told_jobs told v w t s after lacking got =
    let first : left s ≡ got.op ∷ s.cursor.operations =
    ap (λ (o : Option Op). with_first o s.cursor.operations) got.next in
    let a : ℕ = length (left after) in
    let b : ℕ = length (left s) in
    let count : b ≡ a + 1 = omega (arith, ap length first, ap length got.takes.to_come) in
    subst (λ (m : Mode). jobs after.mode a < jobs m b) (sym lacking) (elim got.takes.fits [
      | inl runs ↦ subst (λ (m : Mode). jobs m a < jobs Lacking b) (sym runs.0)
          (let less : 1 + 2 * a < 1 + 2 * b = omega (arith, count) in less)
      | inr rest ↦ elim rest [
        | inl due ↦ subst (λ (m : Mode). jobs m a < jobs Lacking b) (sym due)
            (let less : 2 + 2 * a < 1 + 2 * b = omega (arith, count) in less)
        | inr ended ↦ subst (λ (m : Mode). jobs m a < jobs Lacking b) (sym ended.0)
            (let less : 0 < 1 + 2 * b = omega arith in less)
      ]
    ])

-- so it is after a call that was answered, or ended its thread
frees_call : {told : Bool} {finish : ℕ} {v w : View} {t : ℕ} {s after : ThreadState} → s.mode ≡ Lacking
    → ThreadLost told finish v w t s after ⊎ ThreadTold told v w t s after → Frees s after
frees_call {told} {finish} {v} {w} {t} {s} {after} lacking what = elim what [
  | inl lost ↦ subst (Frees s) (sym lost.only)
      (frees_ended s (mode_for lost.refusal) lacking (lost_ends told finish lost.refusal lost.cause))
  | inr got ↦ record {
    fewer = told_jobs told v w t s after lacking got;
    goes = told_goes s after got.reply got.takes;
  }
]

-- so it is of the thread whose call was made
pub made_called : {told : Bool} {script : Script} {config : Config} {shown : Shown} {forced : ℕ} {old new : Row} {t : ℕ}
    {lacks : Option ℕ} → AwaitsCall told script config shown forced old t → MakesCall shown old new t lacks
    → lacks ≡ None → CalledAt old.states new.states t
made_called {told} {script} {config} {shown} {forced} {old} {new} {t} {lacks} awaits m none =
    called_at m.was m.states (frees_call m.was.lacking (came none (call_over awaits m)).1)

-- A run whose core alone is new, with the same history.
pub record SameRun (old new : Row) : Type 0 where
  pub history : new.view.log ≡ old.view.log
  pub states : new.states ≡ old.states
  pub collector : new.collector ≡ old.collector
  pub words : new.words ≡ old.words
  pub every : new.every ≡ old.every
  pub told : new.told ≡ old.told

-- it stands, where its threads do
stands_same : {unpaid : ℕ} {told : Bool} {script : Script} {config : Config} {shown : Shown} {old new : Row}
    (stands : StandsBut unpaid told script config shown old) → SameRun old new
    → TableStands told script config stands.disk new.view old.states → IsQuiet new.view
    → (told ≡ true → MadeSoFar config new.view new.collector.journal.items)
    → (told ≡ true → BitsTold (sight old.view) (sight new.view)) → StandsBut unpaid told script config shown new
stands_same {unpaid} {told} {script} {config} {shown} {old} {new} stands same table quiet made bits =
    let w : View = new.view in
    record {
      disk = stands.disk;
      under = stands.under;
      none_free = stands.none_free;
      table = subst (TableStands told script config stands.disk w) (sym same.states) table;
      quiet = quiet;
      words = same.words ∙ stands.words;
      every = same.every ∙ stands.every;
      told_is = same.told ∙ stands.told_is;
      collector = subst (CollectorStands config shown) (sym same.collector) stands.collector;
      moments = λ tells.
          subst (λ (c : Collector). TiedMoments script (sight w) new.states config c.journal.items) (sym same.collector)
          (subst (λ (xs : List ThreadState). TiedMoments script (sight w) xs config old.collector.journal.items)
          (sym same.states)
          (tied_still same.history
          (one_address (subst (λ (b : Bool). Standing b stands.disk w) tells table.stands)) (bits tells)
          (stands.moments tells)));
      made = made;
      counts = counts_of script config new old.states old.collector same.states same.collector stands.counts;
    }

-- the values in all registers, where those of one thread and of the others stay
values_stay : (v w : View) (t : ℕ) → KeepsOthers v w t → values_of w t ≡ values_of v t → (u r : ℕ)
    → value w u r ≡ value v u r
values_stay v w t others here u r =
    let all : values_of w u ≡ values_of v u = elim (cases_eq u t) [
      | inl same ↦ subst (λ (k : ℕ). values_of w k ≡ values_of v k) (sym same) here
      | inr differ ↦ others.values u differ
    ] in
    ap (λ (xs : List Value). value_in xs r) all

-- the threads are as they were after a call that lacked words
pub lacked_states : {told : Bool} {script : Script} {config : Config} {shown : Shown} {forced : ℕ} {old new : Row}
    {t : ℕ} {lacks : Option ℕ} (need : ℕ) → AwaitsCall told script config shown forced old t
    → MakesCall shown old new t lacks → lacks ≡ Some need → new.states ≡ old.states
lacked_states {told} {script} {config} {shown} {forced} {old} {new} {t} {lacks} need awaits m is =
    let alone = lacked need is (call_over awaits m) in
    m.states ∙ (ap (λ (x : ThreadState). set old.states t x) alone.same ∙ set_got old.states t m.s m.was.at)

-- no bit has changed but as the history tells
lacked_bits : {told : Bool} {script : Script} {config : Config} {shown : Shown} {forced : ℕ} {old new : Row} {t : ℕ}
    {lacks : Option ℕ} (need : ℕ) → AwaitsCall told script config shown forced old t
    → MakesCall shown old new t lacks → lacks ≡ Some need → told ≡ true → BitsTold (sight old.view) (sight new.view)
lacked_bits {told} {script} {config} {shown} {forced} {old} {new} {t} {lacks} need awaits m is tells =
    let over = call_over awaits m in
    bits_told old.view new.view
    (subst (λ (b : Bool). Standing b awaits.stands.disk old.view) tells awaits.stands.table.stands)
    (quiet_after old.view new.view t over.others (lacked need is over).call awaits.stands.quiet)
    (call_tied awaits m tells)

-- the run stands after a call that lacked words
lacked_stands : {told : Bool} {script : Script} {config : Config} {shown : Shown} {forced : ℕ} {old new : Row}
    {t : ℕ} {lacks : Option ℕ} (need : ℕ) → AwaitsCall told script config shown forced old t
    → MakesCall shown old new t lacks → lacks ≡ Some need → StandsBut (suc forced) told script config shown new
lacked_stands {told} {script} {config} {shown} {forced} {old} {new} {t} {lacks} need awaits m is =
    let over = call_over awaits m in
    let alone = lacked need is over in
    let same : SameRun old new = record {
      history = alone.history;
      states = lacked_states need awaits m is;
      collector = m.collector;
      words = m.words;
      every = m.every;
      told = m.told;
    } in
    stands_same awaits.stands same
    (Table_lacks awaits.stands.table m.was.at m.was.lacking over.stands over.others
    (alone.call, alone.history, alone.values))
    (quiet_after old.view new.view t over.others alone.call awaits.stands.quiet) (call_makes awaits m)
    (lacked_bits need awaits m is)

-- and the thread lacks them
pub lacked_words : {told : Bool} {script : Script} {config : Config} {shown : Shown} {forced : ℕ} {old new : Row}
    {t : ℕ} {lacks : Option ℕ} (need : ℕ) → AwaitsCall told script config shown forced old t
    → MakesCall shown old new t lacks → lacks ≡ Some need → LacksWords told script config shown forced new t need
lacked_words {told} {script} {config} {shown} {forced} {old} {new} {t} {lacks} need awaits m is =
    let v : View = old.view in
    let w : View = new.view in
    let over = call_over awaits m in
    let alone = lacked need is over in
    let states : new.states ≡ old.states = lacked_states need awaits m is in
    let words : length v.space.list ≡ config.heap = awaits.stands.table.words in
    let above : length v.space.list + 1 < v.free + need = alone.above in
    lacks_words awaits (lacked_stands need awaits m is) (record {
      states = states;
      collector = m.collector;
      history = alone.history;
      values = values_stay v w t over.others alone.values;
      above = omega (arith, above, words);
      small = alone.small;
      none_forwarded = alone.none_forwarded;
      marked = λ tells. alone.marked;
      bits = lacked_bits need awaits m is;
      op = m.op;
      next = λ x at. ap (λ (y : ThreadState). y.op) (sym (same_Some m.s x (sym m.was.at ∙ at))) ∙ m.next;
      needs = alone.needs;
    })

-- so the call was made
call_made : {seen shown : Shown} {forced : ℕ} {old new : Row} {t : ℕ} {lacks : Option ℕ}
    → SomeAwaits seen forced old t → MakesCall seen old new t lacks → MakesCall shown old new t lacks → lacks ≡ None
    → MadeCall shown old new t
call_made {seen} {shown} {forced} {old} {new} {t} {lacks} some here m none = record {
  keeps = λ told script config more awaits. made_stands awaits m none;
  quiet = made_quiet some.3 here none;
  stop = made_stop some.3 here none;
  called = made_called some.3 here none;
}

-- or it lacked words
call_lacked : {seen shown : Shown} {forced : ℕ} {old new : Row} {t : ℕ} {lacks : Option ℕ} (need : ℕ)
    → SomeAwaits seen forced old t → MakesCall seen old new t lacks → MakesCall shown old new t lacks
    → lacks ≡ Some need → LacksFirst shown t need old new
call_lacked {seen} {shown} {forced} {old} {new} {t} {lacks} need some here m is = record {
  keeps = λ told script config more awaits. lacked_words need awaits m is;
  bits = λ told script config more awaits. lacked_bits need awaits m is;
  states = lacked_states need some.3 here is;
  collector = m.collector;
}

-- what came of the call
pub calls_first : {seen shown : Shown} {forced : ℕ} {old new : Row} {t : ℕ} (lacks : Option ℕ)
    → SomeAwaits seen forced old t → MakesCall seen old new t lacks → MakesCall shown old new t lacks
    → CallsFirst shown old new t lacks
calls_first {seen} {shown} {forced} {old} {new} {t} None some here m = call_made some here m refl
calls_first {seen} {shown} {forced} {old} {new} {t} (Some need) some here m = call_lacked need some here m refl
