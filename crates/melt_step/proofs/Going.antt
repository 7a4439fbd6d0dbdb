-- A run goes on by events and safepoints.
use Rattle.std.proofs.Common.{◌≡◌, ◌≢◌, ℕ, ◌*◌, ◌<◌, ◌≤◌, Bool, true, false, List, length, refl, sym, ◌∙◌, subst, arith}
use Rattle.std.proofs.Math.ListN.{set}
use Rattle.std.specs.Prelude.{IfSome, None, Option, Some, slice_get}
use Rattle.melt_model.specs.declared.config.Config.{Config}
use Rattle.melt_model.specs.declared.operations.Op.TheVariants.{Collect}
use Rattle.melt_trace.specs.Script.{Script}
use Rattle.melt_scion.specs.Heaps.{OnDisk}
use Rattle.melt_core.specs.StaleBits.{TiedTo}
use Rattle.melt_core.specs.Views.{View, IsQuiet, Standing}
use Rattle.melt_safepoint.specs.declared.thread.ThreadState.{ThreadState}
use Rattle.melt_safepoint.specs.Shown.{Shown, Underlies}
use Rattle.melt_safepoint.specs.Threads.{DueBy}
use Rattle.melt_safepoint.specs.Modes.{MayGo}
use Rattle.melt_safepoint.proofs.Modes.{goes_on}
use Rattle.melt_safepoint.proofs.Counting.{Adds, counts_on}
use Rattle.melt_safepoint.specs.declared.collector.Collector.{Collector}
use Rattle.melt_safepoint.specs.Rows.{CollectorStands, Row}
use Rattle.melt_step.specs.Going.{ComesToRest, StandsInside, KeepsGoing, MadeCall, MomentsSince, SomeStandsInside}
use Rattle.melt_safepoint.specs.Collections.{MadeSoFar}
use Rattle.melt_step.specs.Made.{MakesInUse}
use Rattle.melt_step.specs.Tied.{KeepsTied}
use Rattle.melt_safepoint.specs.Tables.{TakesTurn, ThreadStep, ThreadTold, TableStands, potential}
use Rattle.melt_core.proofs.Disks.{stands_untold}
use Rattle.melt_safepoint.proofs.Tables.{Table_step, Table_untold, log_step, moments_step}
use Rattle.melt_safepoint.proofs.TableCounts.{collections_step, counts_of}
use Rattle.melt_step.proofs.Potentials.{step_jobs, step_nearer}
use Rattle.melt_safepoint.specs.Epochs.{MayRunEpoch, RestsWell, RunsEpoch, to_do}
use Rattle.melt_safepoint.specs.Rows.{RunStands}
use Rattle.melt_safepoint.specs.Tables.{KnowsStop}
use Rattle.melt_safepoint.specs.Threads.{AllWait}
use Rattle.melt_safepoint.proofs.MakingAgain.{AgainBelow}
use Rattle.melt_safepoint.proofs.Tables.{waiting_quiet}
use Rattle.melt_safepoint.proofs.ToDo.{to_do_within_set}
use Rattle.melt_step.proofs.Since.{since_by, since_first, since_more, since_over}
use Rattle.melt_step.proofs.Tied.{bits_told, has_registers, tied_begins}

-- a run stands on after an event of a thread that can go on
pub step_keeps : {finish : ℕ} {image : Option (List ℕ)} (old new : Row) (t : ℕ) {s : ThreadState} (after : ThreadState)
    → slice_get old.states t ≡ Some s → MayGo s.mode → TakesTurn finish image old.view new.view t s after
    → new.states ≡ set old.states t after → DueBy old.every s after → MakesInUse finish image old.view new.view
    → KeepsTied finish image old.view new.view t
    → new.every ≡ old.every → new.words ≡ old.words → new.told ≡ old.told → new.collector ≡ old.collector
    → (shown : Shown) → shown.end ≡ finish → shown.image ≡ image → KeepsGoing shown old new
step_keeps {finish} {image} old new t {s} after at goes turn states due makes ties every words is_told collector shown
    ends shows begun told script config stands =
    let had : List ThreadState = old.states in
    let disk : OnDisk = stands.disk in
    let table : TableStands told script config disk old.view had = stands.table in
    let under : Underlies told finish image disk =
    subst (λ (n : ℕ). Underlies told n image disk) ends
    (subst (λ (x : Option (List ℕ)). Underlies told shown.end x disk) shows stands.under) in
    let step : ThreadStep told disk old.view new.view t s after = turn told disk under table.stands in
    let within : disk.end ≤ config.disk =
    subst (λ (n : ℕ). n ≤ config.disk) (sym stands.under.ends) stands.collector.within in
    let other : (got : ThreadTold told old.view new.view t s after) → got.op ≢ Collect =
    λ got. got.no_collect goes in
    let by : DueBy config.every s after = subst (λ (n : ℕ). DueBy n s after) stands.every due in
    let adds : Adds script config had (set had t after) 0 0 =
    collections_step table at step by (goes_on s.mode goes) other in
    record {
      disk = disk;
      under = stands.under;
      none_free = stands.none_free;
      table = subst (TableStands told script config disk new.view) (sym states)
          (Table_step within table at (goes_on s.mode goes) step by);
      words = words ∙ stands.words;
      every = every ∙ stands.every;
      told_is = is_told ∙ stands.told_is;
      collector = subst (CollectorStands config shown) (sym collector) stands.collector;
      moments = λ is.
          subst (λ (xs : List ThreadState). MomentsSince begun script new.view.log xs config new.collector.journal.items)
          (sym states)
          (subst (λ (c : Collector). MomentsSince begun script new.view.log (set had t after) config c.journal.items)
          (sym collector)
          (since_more (stands.moments is) (log_step within table at (goes_on s.mode goes) step by)
          (moments_step old.collector.journal.items within table at (goes_on s.mode goes) step by
          (stands.moments is).have)));
      made = λ is.
          subst (λ (c : Collector). MadeSoFar config new.view c.journal.items) (sym collector)
          (makes disk (subst (λ (b : Bool). Underlies b finish image disk) is under)
          (subst (λ (b : Bool). Standing b disk old.view) is table.stands)
          (config.heap * length old.collector.journal.items) (stands.made is));
      counts = counts_of script config new (set had t after) old.collector states collector
          (counts_on script config had (set had t after) (length old.collector.journal.items) stands.counts adds);
      tied = λ is.
          ties begun disk (subst (λ (b : Bool). Underlies b finish image disk) is under)
          (subst (λ (b : Bool). Standing b disk old.view) is table.stands)
          (has_registers t table is at (goes_on s.mode goes)) (stands.tied is);
    }

-- it has less to do than before
pub step_less : {begun : View} {told : Bool} {script : Script} {config : Config} {shown : Shown} {finish : ℕ}
    (image : Option (List ℕ)) {old : Row} (w : View) (t : ℕ) {s : ThreadState} (after : ThreadState) → StandsInside begun told script config shown old
    → shown.end ≡ finish → slice_get old.states t ≡ Some s → MayGo s.mode → TakesTurn finish image old.view w t s after
    → potential (set old.states t after) w.calls < potential old.states old.view.calls
step_less {told} {script} {config} {finish} image {old} w t {s} after stands ends at goes turn =
    let disk : OnDisk = stands.disk in
    let v : View = old.view in
    let table : TableStands false script config disk v old.states =
    Table_untold told script config disk v old.states stands.table in
    let under : Underlies false finish image disk =
    record { ends = stands.under.ends ∙ ends; tells = λ wrong. absurd (let w : false ≡ true = wrong in cc) } in
    let step : ThreadStep false disk v w t s after = turn false disk under table.stands in
    let before : Standing false disk v = table.stands in
    let later : Standing false disk w = step.stands in
    step_nearer table at goes step (later.each ∙ (step.others.threads ∙ sym before.each))

-- it has no more to do than before
pub step_to_do : {begun : View} {told : Bool} {script : Script} {config : Config} {shown : Shown} {finish : ℕ}
    (image : Option (List ℕ)) {old : Row} (w : View) (t : ℕ) {s : ThreadState} (after : ThreadState)
    → StandsInside begun told script config shown old → shown.end ≡ finish → slice_get old.states t ≡ Some s → MayGo s.mode
    → TakesTurn finish image old.view w t s after → to_do (set old.states t after) ≤ to_do old.states
step_to_do {told} {finish} image {old} w t {s} after stands ends at goes turn =
    let disk : OnDisk = stands.disk in
    let under : Underlies false finish image disk =
    record { ends = stands.under.ends ∙ ends; tells = λ wrong. absurd (let w : false ≡ true = wrong in cc) } in
    let step : ThreadStep false disk old.view w t s after =
    turn false disk under (stands_untold told disk old.view stands.table.stands) in
    to_do_within_set old.states t s after at (step_jobs goes step)

-- the history has as much room as before
pub step_capacity : {begun : View} {told : Bool} {script : Script} {config : Config} {shown : Shown} {finish : ℕ}
    (image : Option (List ℕ)) {old : Row} (w : View) (t : ℕ) {s : ThreadState} (after : ThreadState)
    → StandsInside begun told script config shown old → shown.end ≡ finish → TakesTurn finish image old.view w t s after
    → w.capacity ≡ old.view.capacity
step_capacity {told} {finish} image {old} w t {s} after stands ends turn =
    let disk : OnDisk = stands.disk in
    let under : Underlies false finish image disk =
    record { ends = stands.under.ends ∙ ends; tells = λ wrong. absurd (let w : false ≡ true = wrong in cc) } in
    let step : ThreadStep false disk old.view w t s after =
    turn false disk under (stands_untold told disk old.view stands.table.stands) in
    step.others.capacity

-- a run whose threads made their calls again
pub again_keeps : (shown : Shown) (old new : Row) (n : ℕ) → AgainBelow old.states new.states n
    → IsQuiet old.view → new.view ≡ old.view → new.collector ≡ old.collector → new.every ≡ old.every
    → new.words ≡ old.words → new.told ≡ old.told → KeepsGoing shown old new
again_keeps shown old new n again quiet core collector every words is_told begun told script config stands =
    let table : TableStands told script config stands.disk old.view old.states = stands.table in
    let n : ℕ = length old.collector.journal.items in
    record {
      disk = stands.disk;
      under = stands.under;
      none_free = stands.none_free;
      table = subst (λ (v : View). TableStands told script config stands.disk v new.states) (sym core)
          (again.table told script config stands.disk old.view table quiet);
      words = words ∙ stands.words;
      every = every ∙ stands.every;
      told_is = is_told ∙ stands.told_is;
      collector = subst (CollectorStands config shown) (sym collector) stands.collector;
      moments = λ is.
          subst (λ (v : View). MomentsSince begun script v.log new.states config new.collector.journal.items) (sym core)
          (subst (λ (c : Collector). MomentsSince begun script old.view.log new.states config c.journal.items)
          (sym collector)
          (since_by new.states (stands.moments is)
          (again.moments script old.view.log config old.collector.journal.items (stands.moments is).moments
          (stands.moments is).have)));
      made = λ is.
          subst (λ (v : View). MadeSoFar config v new.collector.journal.items) (sym core)
          (subst (λ (c : Collector). MadeSoFar config old.view c.journal.items) (sym collector) (stands.made is));
      counts = counts_of script config new new.states old.collector refl collector
          (counts_on script config old.states new.states n stands.counts
          (again.collected script config table.count));
      tied = λ is. subst (TiedTo begun) (sym core) (stands.tied is);
    }

-- what stood for some script stands on
pub some_on : (finish : ℕ) (image : Option (List ℕ)) (old new : Row) → SomeStandsInside finish image old
    → ((shown : Shown) → shown.end ≡ finish → shown.image ≡ image → KeepsGoing shown old new)
    → SomeStandsInside finish image new
some_on finish image old new some keeps = (
  some.0,
  some.1,
  some.2,
  (
    some.3.0,
    some.3.1,
    some.3.2,
    some.3.3,
    keeps some.0 some.1 some.2 some.3.3 some.3.0 some.3.1 some.3.2 some.3.4,
  ),
)

-- a run between two epochs stands as in one that begins
pub goes_from : {told : Bool} {script : Script} {config : Config} {shown : Shown} {run : Row}
    → RunStands told script config shown run → StandsInside run.view told script config shown run
goes_from {told} {script} {config} {shown} {run} stands = record {
  disk = stands.disk;
  under = stands.under;
  none_free = stands.none_free;
  table = stands.table;
  words = stands.words;
  every = stands.every;
  told_is = stands.told_is;
  collector = stands.collector;
  moments = λ is. since_first told is stands.table.stands (stands.moments is);
  made = stands.made;
  counts = stands.counts;
  tied = λ is. tied_begins run.view stands.quiet;
}

-- and so after one, where no thread can go on
pub stands_from : {begun : View} {told : Bool} {script : Script} {config : Config} {shown : Shown} {run : Row}
    → AllWait run.states → StandsInside begun told script config shown run → RunStands told script config shown run
stands_from {told} {script} {config} {shown} {run} waits goes = record {
  disk = goes.disk;
  under = goes.under;
  none_free = goes.none_free;
  table = goes.table;
  quiet = waiting_quiet told script config goes.disk run.view run.states goes.table waits;
  words = goes.words;
  every = goes.every;
  told_is = goes.told_is;
  collector = goes.collector;
  moments = λ is. since_over told is goes.table.stands
      (waiting_quiet told script config goes.disk run.view run.states goes.table waits) (goes.tied is) (goes.moments is);
  made = goes.made;
  counts = goes.counts;
}

-- no thread that is asked to stop is alone in waiting
pub known_rests : (v : View) (states : List ThreadState) → KnowsStop v states → AllWait states → RestsWell states
known_rests v states known waits = record {
  waits = waits;
  asked = λ t s at is. known.stop (known.asked t s at is);
}

-- an epoch in which no call is made first has ended
pub runs_all : (shown : Shown) (first : Option ℕ) (old new : Row) → first ≡ None → ComesToRest shown old new
    → RestsWell new.states → to_do new.states ≤ to_do old.states → new.collector ≡ old.collector
    → RunsEpoch shown first old new
runs_all shown first old new none comes rests less collector =
    let stood : (told : Bool) (script : Script) (config : Config) → MayRunEpoch told script config shown first old
    → RunStands told script config shown old =
    λ told script config may.
    (subst (λ (f : Option ℕ). MayRunEpoch told script config shown f old) none may).0 in
    record {
      keeps = λ told script config may.
          (comes old.view told script config (goes_from (stood told script config may))).0;
      bits = λ told script config may is.
          let stands : RunStands told script config shown old = stood told script config may in
          let after = comes old.view told script config (goes_from stands) in
          bits_told old.view new.view (subst (λ (b : Bool). Standing b stands.disk old.view) is stands.table.stands)
          after.0.quiet (after.1 is);
      rests = rests;
      less = less;
      first_less = subst (λ (f : Option ℕ). IfSome f (λ t. to_do new.states < to_do old.states)) (sym none) tt;
      collector = collector;
    }

-- and one in which one was made first
pub runs_after : (shown : Shown) (first : Option ℕ) (t : ℕ) (old mid new : Row) → first ≡ Some t
    → MadeCall shown old mid t → to_do mid.states < to_do old.states → mid.collector ≡ old.collector
    → ComesToRest shown mid new → RestsWell new.states → to_do new.states ≤ to_do mid.states
    → new.collector ≡ mid.collector → RunsEpoch shown first old new
runs_after shown first t old mid new some made fewer same comes rests less collector =
    let under : to_do new.states < to_do old.states = omega (arith, fewer, less) in
    let awaits : (told : Bool) (script : Script) (config : Config) → MayRunEpoch told script config shown first old
    → MayRunEpoch told script config shown (Some t) old =
    λ told script config may. subst (λ (f : Option ℕ). MayRunEpoch told script config shown f old) some may in
    record {
      keeps = λ told script config may.
          let call = awaits told script config may in
          (comes old.view told script config (made.keeps told script config call.0 call.1)).0;
      bits = λ told script config may is.
          let call = awaits told script config may in
          let after = comes old.view told script config (made.keeps told script config call.0 call.1) in
          bits_told old.view new.view
          (subst (λ (b : Bool). Standing b call.1.stands.disk old.view) is call.1.stands.table.stands) after.0.quiet
          (after.1 is);
      rests = rests;
      less = omega (arith, under);
      first_less = subst (λ (f : Option ℕ). IfSome f (λ u. to_do new.states < to_do old.states)) (sym some) under;
      collector = collector ∙ same;
    }
