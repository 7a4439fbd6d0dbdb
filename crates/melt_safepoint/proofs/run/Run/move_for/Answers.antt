-- The call is made after one Move more, or again after another, or its thread ends.
use Rattle.std.proofs.Common.{◌≡◌, ℕ, ◌+◌, ◌<◌, suc, refl, sym, ◌∙◌, ap, subst, arith, inl}
use Rattle.std.proofs.Math.ListN.{length-set}
use Rattle.std.proofs.lemmas.Result.{err_from_is_err_and}
use Rattle.std.specs.Prelude.{Bool, List, Some, None, Option, length}
use Rattle.melt_model.specs.declared.config.Config.{Config}
use Rattle.melt_trace.specs.Script.{Script}
use Rattle.melt_core.proofs.Disks.{stands_untold}
use Rattle.melt_safepoint.specs.Collections.{NoneForwarded}
use Rattle.melt_safepoint.specs.Engines.{LendsEach}
use Rattle.melt_safepoint.specs.Epochs.{EndsEpoch, LacksFirst, RunsEpoch, to_do}
use Rattle.melt_safepoint.specs.Makes.{MovesOnce}
use Rattle.melt_safepoint.specs.Lends.{LendsFew}
use Rattle.melt_safepoint.specs.Losses.{CountsLosses, losses}
use Rattle.melt_safepoint.specs.Passing.{NoneOwn}
use Rattle.melt_safepoint.specs.Rows.{AwaitsCall, LacksWords, RunStands, journal_of, row_of}
use Rattle.melt_safepoint.specs.Shown.{Shown}
use Rattle.melt_safepoint.specs.Writes.{WroteSince}
use Rattle.melt_safepoint.specs.declared.collector.Collector.{Collector}
use Rattle.melt_safepoint.specs.declared.thread.ThreadState.{ThreadState}
use Rattle.melt_safepoint.proofs.Collected.{journal_more, may_collect, moved_one}
use Rattle.melt_safepoint.proofs.Composing.{stop_counts_then}
use Rattle.melt_safepoint.proofs.Epochs.{goes_journal, goes_keeps, goes_less, goes_rests}
use Rattle.melt_safepoint.proofs.Gone.{gone_less, gone_own, gone_settled}
use Rattle.melt_safepoint.proofs.Lacking.{room_waits}
use Rattle.melt_safepoint.proofs.Lends.{lends_more, lends_none, lends_one, lends_after, lends_then, most_by}
use Rattle.melt_safepoint.proofs.Losses.{counts_same, counts_then}
use Rattle.melt_safepoint.proofs.StopLends.{stop_after, stop_more, stop_one, stop_since, stop_then}
use Rattle.melt_safepoint.proofs.TwoMoves.{awaits_again, forced_stops, if_err_from, if_ok_from, no_room_left}
use Rattle.melt_safepoint.proofs.TwoMoves.{moved_again, moved_none}
use Rattle.melt_safepoint.proofs.Writes.{stop_wrote_none, stop_wrote_then, wrote_none, wrote_then}
use Rattle.melt_safepoint.proofs.run.Run.move_for.Given.{Over}
use Rattle.melt_safepoint.proofs.run.Run.move_for.Goals as goal
use Rattle.melt_safepoint.proofs.run.Run.move_for.Goals.{After-out_of_heap, In_ok-moved, In_ok-next, In-None, In-Some}

pub loop-forced-init : goal.loop-forced-init
loop-forced-init g c = record {
  few = omega arith;
  lacks = λ told script config lacks. lacks;
  moved = λ told script config lacks. moved_none told script config (row_of g.E.Machine.view c.args.self) c.args.thread
      c.args.need;
  states = refl;
  lost = counts_same c.args.self.states.items c.args.self.states.items _ _ refl (omega arith);
  wrote = wrote_none _ _ _ _ refl refl;
  lends = λ n by. lends_none _ _ _ _ _ refl (omega arith);
  count = omega arith;
  same_disk = refl;
}

pub may_move-requires : goal.may_move-requires
may_move-requires g c =
    let lacks = c.loop-forced.invariant.lacks c.requires.lacks.0 c.requires.lacks.1 c.requires.lacks.2
    c.requires.lacks.3 in
    (lacks.stands.disk, stands_untold c.requires.lacks.0 lacks.stands.disk _ lacks.stands.table.stands)

pub collect-requires : goal.collect-requires
collect-requires g c κs =
    let lacks = c.loop-forced.invariant.lacks c.requires.lacks.0 c.requires.lacks.1 c.requires.lacks.2
    c.requires.lacks.3 in (
      (refl, tt),
      (
        c.requires.engine,
        may_collect c.requires.lacks.0 c.requires.lacks.1 c.requires.lacks.2 _
            (row_of g.E.Machine.view c.loop-forced.run) lacks.stands,
      ),
    )

pub returns-in_err-moved-clause-stopped : goal.returns-in_err-moved-clause-stopped
returns-in_err-moved-clause-stopped g c =
    let exit = err_from_is_err_and c.from_residual.result c.from_residual.ensures.1 in
    rw (exit.1, exit.2) (λ told script config lacks.
    let still = c.loop-forced.invariant.lacks told script config lacks in
    c.in_err-moved.ensures.stopped told script config (
      (suc c.loop-forced.forced, still.stands),
      λ is. still.tight,
      room_waits c.loop-forced.run.states.items c.args.thread still.waits,
    ))

pub returns-in_err-moved-clause-stop_wrote : goal.returns-in_err-moved-clause-stop_wrote
returns-in_err-moved-clause-stop_wrote g c =
    let exit = err_from_is_err_and c.from_residual.result c.from_residual.ensures.1 in
    rw (exit.1, exit.2) (stop_wrote_then _ _ c.loop-forced.invariant.wrote c.in_err-moved.ensures.stop_wrote)

-- after one Move more the thread awaits its call
awaits : (g : Over) (c : In_ok-moved g) (told : Bool) (script : Script) (config : Config)
    → LacksWords told script config (g.S.DiskSpace.sees.shown c.args.space.now) 0 (row_of g.E.Machine.view c.args.self)
    c.args.thread c.args.need
    → AwaitsCall told script config (g.S.DiskSpace.sees.shown c.collect.new.space) (suc c.loop-forced.forced)
    (row_of g.E.Machine.view c.in_ok-moved.moved) c.args.thread
awaits g c told script config lacks =
    awaits_again (c.may_move.ensures.some c.loop-forced-test.true)
    (c.loop-forced.invariant.lacks told script config lacks) c.in_ok-moved.ensures.made

pub run_epoch-requires : goal.run_epoch-requires
run_epoch-requires g c κs =
    let at = (goal.at.run_epoch-requires g c).In_ok-moved in
    let lacks = c.requires.lacks in (
      (refl, tt),
      (
        c.requires.engine,
        (lacks.0, lacks.1, lacks.2, (suc c.loop-forced.forced, awaits g at lacks.0 lacks.1 lacks.2 lacks.3)),
      ),
    )

pub returns-in_err-next-clause-stopped : goal.returns-in_err-next-clause-stopped
returns-in_err-next-clause-stopped g c =
    let exit = err_from_is_err_and c.from_residual-in_err-next.result c.from_residual-in_err-next.ensures.1 in
    rw (exit.1, exit.2) (λ told script config lacks.
    forced_stops _ c.args.thread c.loop-forced.need c.loop-forced.forced _ c.in_ok-moved.ensures.made
    (c.may_move.ensures.some c.loop-forced-test.true) c.in_err-next.ensures.stopped told script config
    (c.loop-forced.invariant.lacks told script config lacks))

-- no thread more was lost with the Move
move_lost : (g : Over) (c : In_ok-moved g)
    → CountsLosses c.args.self.states.items c.in_ok-moved.moved.states.items
    (g.S.DiskSpace.sees.read_faults c.args.space.now) (g.S.DiskSpace.sees.read_faults c.collect.new.space)
move_lost g c =
    counts_then c.args.self.states.items c.loop-forced.run.states.items c.in_ok-moved.moved.states.items _ _ _
    c.loop-forced.invariant.lost (counts_same c.loop-forced.run.states.items c.in_ok-moved.moved.states.items _ _
    (ap losses c.in_ok-moved.ensures.made.states) (omega (arith, c.collect.ensures.read_faults)))

pub returns-in_err-next-clause-stop_counts : goal.returns-in_err-next-clause-stop_counts
returns-in_err-next-clause-stop_counts g c =
    let exit = err_from_is_err_and c.from_residual-in_err-next.result c.from_residual-in_err-next.ensures.1 in
    let at = (goal.at.returns-in_err-next-clause-stop_counts g c).In_ok-moved in
    rw (exit.1, exit.2) (stop_counts_then _ _ _ _ _
    (omega (arith, c.loop-forced.invariant.count, c.collect.ensures.count)) c.run_epoch.ensures.count (move_lost g at)
    c.in_err-next.ensures.stop_counts)

-- a Move leaves as many threads
moved_many : (g : Over) (c : In_ok-moved g)
    → length c.in_ok-moved.moved.states.items ≡ length c.args.self.states.items
moved_many g c =
    ap (λ (states : List ThreadState). length states) (c.in_ok-moved.ensures.made.states ∙ c.loop-forced.invariant.states)

pub returns-in_err-next-clause-stop_lends : goal.returns-in_err-next-clause-stop_lends
returns-in_err-next-clause-stop_lends g c =
    let exit = err_from_is_err_and c.from_residual-in_err-next.result c.from_residual-in_err-next.ensures.1 in
    let many = moved_many g (goal.at.returns-in_err-next-clause-stop_lends g c).In_ok-moved in
    rw (exit.1, exit.2) (λ readers by. stop_more _ 1 _ _ _ _ (omega arith)
    (stop_then 0 _ _ (c.loop-forced.invariant.lends readers by)
    (stop_after _ 0 _ _ (journal_of (row_of g.E.Machine.view c.in_ok-moved.moved)) _ c.collect.ensures.lends
    (omega (arith, journal_more c.in_ok-moved.ensures.made))
    (stop_one _ _ _ _ _ (most_by readers many (c.run_epoch.ensures.lends readers by))
    c.in_err-next.ensures.stop_keeps))))

-- what was written with the Move
move_wrote : (g : Over) (c : In_ok-moved g)
    → WroteSince (journal_of (row_of g.E.Machine.view c.args.self))
    (journal_of (row_of g.E.Machine.view c.in_ok-moved.moved)) (g.S.DiskSpace.sees.writes c.args.space.now)
    (g.S.DiskSpace.sees.writes c.collect.new.space)
move_wrote g c = wrote_then c.loop-forced.invariant.wrote c.in_ok-moved.ensures.wrote

pub returns-in_err-next-clause-stop_wrote : goal.returns-in_err-next-clause-stop_wrote
returns-in_err-next-clause-stop_wrote g c =
    let exit = err_from_is_err_and c.from_residual-in_err-next.result c.from_residual-in_err-next.ensures.1 in
    let at = (goal.at.returns-in_err-next-clause-stop_wrote g c).In_ok-moved in
    rw (exit.1, exit.2) (stop_wrote_then _ _ (move_wrote g at)
    (stop_wrote_none _ _ _ _ c.in_err-next.ensures.stop_keeps c.run_epoch.ensures.writes))

-- how the Move was made, and what the call came to after it
once : (g : Over) (c : In_ok-next g) (told : Bool) (script : Script) (config : Config) (lacks : Option ℕ)
    → EndsEpoch (g.S.DiskSpace.sees.shown c.collect.new.space) (Some c.args.thread)
    (row_of g.E.Machine.view c.in_ok-moved.moved) (row_of g.E.Machine.view c.in_ok-next.next) lacks
    → LacksWords told script config (g.S.DiskSpace.sees.shown c.args.space.now) 0 (row_of g.E.Machine.view c.args.self)
    c.args.thread c.args.need
    → MovesOnce told script config (suc c.loop-forced.forced) (row_of g.E.Machine.view c.loop-forced.run)
    (row_of g.E.Machine.view c.in_ok-next.next) c.args.thread lacks
once g c told script config lacks ends was = record {
  shown = g.S.DiskSpace.sees.shown c.collect.new.space;
  mid = row_of g.E.Machine.view c.in_ok-moved.moved;
  moved = moved_one _ _ _ _ c.in_ok-moved.ensures.made;
  states = c.in_ok-moved.ensures.made.states;
  awaits = awaits g (goal.at.In_ok-next g c).In_ok-moved told script config was;
  called = ends;
}

-- so many readers were lent for the Move and the epoch after it
once_lends : (g : Over) (c : In_ok-next g)
    → journal_of (row_of g.E.Machine.view c.in_ok-next.next) ≡ journal_of (row_of g.E.Machine.view c.in_ok-moved.moved)
    → (readers : ℕ → ℕ)
    → LendsEach g.C.Fn g.F.Fn g.E.Machine.view g.E.Machine.stored g.S.DiskSpace.sees c.args.engine.now readers
    → LendsFew (readers (length c.args.self.states.items)) 0 (g.S.DiskSpace.sees.lends c.args.space.now) (g.S.DiskSpace.sees.lends c.run_epoch.new.space)
    (journal_of (row_of g.E.Machine.view c.args.self)) (journal_of (row_of g.E.Machine.view c.in_ok-next.next))
once_lends g c same readers by =
    let many = moved_many g (goal.at.In_ok-next g c).In_ok-moved in
    let js = journal_of (row_of g.E.Machine.view c.in_ok-next.next) in
    lends_then (c.loop-forced.invariant.lends readers by)
    (lends_after 0 _ c.collect.ensures.lends (omega (arith, journal_more c.in_ok-moved.ensures.made))
    (lends_one _ _ _ _ _ (most_by readers many (c.run_epoch.ensures.lends readers by)) same))

-- the call was made after the Move
made : (g : Over) (c : In-None g) → RunsEpoch (g.S.DiskSpace.sees.shown c.collect.new.space) (Some c.args.thread)
    (row_of g.E.Machine.view c.in_ok-moved.moved) (row_of g.E.Machine.view c.in_ok-next.next)
made g c = rw c.in-None.is at c.in_ok-next.ensures.ends

pub returns-in-None-clause-keeps : goal.returns-in-None-clause-keeps
returns-in-None-clause-keeps g c =
    let at = goal.at.returns-in-None-clause-keeps g c in
    λ told script config lacks.
    subst (λ (shown : Shown). RunStands told script config shown (row_of g.E.Machine.view c.in_ok-next.next))
    (sym c.run_epoch.ensures.shown) ((made g at.In-None).keeps told script config
    (suc c.loop-forced.forced, awaits g at.In_ok-moved told script config lacks))

pub returns-in-None-clause-makes : goal.returns-in-None-clause-makes
returns-in-None-clause-makes g c told script config lacks =
    let at = goal.at.returns-in-None-clause-makes g c in
    let few : c.loop-forced.forced < 2 = c.may_move.ensures.some c.loop-forced-test.true in (
      c.loop-forced.forced + 1,
      omega (arith, few),
      c.loop-forced.invariant.moved told script config lacks 1 (row_of g.E.Machine.view c.in_ok-next.next)
          (inl (refl, once g at.In_ok-next told script config None (made g at.In-None) lacks)),
    )

pub returns-in-None-clause-lends : goal.returns-in-None-clause-lends
returns-in-None-clause-lends g c =
    let at = goal.at.returns-in-None-clause-lends g c in
    λ readers by. lends_more 1 (omega arith)
    (once_lends g at.In_ok-next (ap (λ (x : Collector). x.journal.items) (made g at.In-None).collector) readers by)

-- an epoch in which no collection was made wrote nothing
once_wrote : (g : Over) (c : In_ok-next g)
    → journal_of (row_of g.E.Machine.view c.in_ok-next.next) ≡ journal_of (row_of g.E.Machine.view c.in_ok-moved.moved)
    → WroteSince (journal_of (row_of g.E.Machine.view c.args.self))
    (journal_of (row_of g.E.Machine.view c.in_ok-next.next)) (g.S.DiskSpace.sees.writes c.args.space.now)
    (g.S.DiskSpace.sees.writes c.run_epoch.new.space)
once_wrote g c same =
    wrote_then (move_wrote g (goal.at.In_ok-next g c).In_ok-moved)
    (wrote_none _ (journal_of (row_of g.E.Machine.view c.in_ok-next.next)) _ _ same c.run_epoch.ensures.writes)

pub returns-in-None-clause-wrote : goal.returns-in-None-clause-wrote
returns-in-None-clause-wrote g c =
    let at = goal.at.returns-in-None-clause-wrote g c in
    once_wrote g at.In_ok-next (ap (λ (x : Collector). x.journal.items) (made g at.In-None).collector)

-- the call lacked words after the Move too
lacked : (g : Over) (c : In-Some g) → LacksFirst (g.S.DiskSpace.sees.shown c.collect.new.space) c.args.thread
    c.in-Some.more
    (row_of g.E.Machine.view c.in_ok-moved.moved) (row_of g.E.Machine.view c.in_ok-next.next)
lacked g c = rw c.in-Some.is at c.in_ok-next.ensures.ends

pub loop-forced-preserved : goal.loop-forced-preserved
loop-forced-preserved g c =
    let at = goal.at.loop-forced-preserved g c in
    let few : c.loop-forced.forced < 2 = c.may_move.ensures.some c.loop-forced-test.true in
    let lack = lacked g at.In-Some in
    let more : c.loop-forced.forced + 1 ≡ suc c.loop-forced.forced = omega arith in
    record {
      few = omega (arith, few);
      lacks = λ told script config lacks. rw (more, c.run_epoch.ensures.shown)
          (lack.keeps told script config (suc c.loop-forced.forced) (awaits g at.In_ok-moved told script config lacks));
      moved = λ told script config lacks. rw more
          (moved_again (row_of g.E.Machine.view c.args.self) c.args.need
          (c.loop-forced.invariant.moved told script config lacks)
          (once g at.In_ok-next told script config (Some c.in-Some.more) lack lacks));
      states = lack.states ∙ c.in_ok-moved.ensures.made.states ∙ c.loop-forced.invariant.states;
      lost = counts_then c.args.self.states.items c.in_ok-moved.moved.states.items c.in_ok-next.next.states.items _ _ _
          (move_lost g at.In_ok-moved) c.in_ok-next.ensures.lost;
      wrote = once_wrote g at.In_ok-next (ap (λ (x : Collector). x.journal.items) lack.collector);
      lends = once_lends g at.In_ok-next (ap (λ (x : Collector). x.journal.items) lack.collector);
      count = omega (arith, c.loop-forced.invariant.count, c.collect.ensures.count, c.run_epoch.ensures.count);
      same_disk = c.run_epoch.ensures.same_disk ∙ c.collect.ensures.same_disk ∙ c.loop-forced.invariant.same_disk;
    }

pub out_of_heap-requires : goal.out_of_heap-requires
out_of_heap-requires g c =
    let lacks = c.requires.lacks in
    record {
      lacks = (
        g.S.DiskSpace.sees.shown c.loop-forced.space,
        (
          c.loop-forced.forced,
          (
            lacks.0,
            lacks.1,
            lacks.2,
            c.loop-forced.invariant.lacks lacks.0 lacks.1 lacks.2 lacks.3,
          ),
        ),
      );
    }

-- the run stands after the end of the thread
gone_on : (g : Over) (c : After-out_of_heap g) (told : Bool) (script : Script) (config : Config)
    → LacksWords told script config (g.S.DiskSpace.sees.shown c.args.space.now) 0 (row_of g.E.Machine.view c.args.self)
    c.args.thread c.args.need
    → RunStands told script config (g.S.DiskSpace.sees.shown c.loop-forced.space)
    (row_of g.E.Machine.view c.out_of_heap.result)
gone_on g c told script config was =
    let lacks = c.loop-forced.invariant.lacks told script config was in
    c.out_of_heap.ensures.keeps (g.S.DiskSpace.sees.shown c.loop-forced.space) told script config c.loop-forced.forced
    lacks
    (no_room_left (c.may_move.ensures.none c.loop-forced-test.false) told script config lacks)

-- no forwarding word is filled then
gone_rests : (g : Over) (c : After-out_of_heap g) → NoneForwarded (g.E.Machine.view c.out_of_heap.result.machine)
gone_rests g c =
    let was = c.requires.lacks in
    let lacks = c.loop-forced.invariant.lacks was.0 was.1 was.2 was.3 in
    gone_settled c.out_of_heap.ensures.gone lacks.none_forwarded

-- and no thread waits for a collection
gone_waits : (g : Over) (c : After-out_of_heap g) → NoneOwn c.out_of_heap.result.states.items
gone_waits g c =
    let was = c.requires.lacks in
    let lacks = c.loop-forced.invariant.lacks was.0 was.1 was.2 was.3 in
    gone_own c.out_of_heap.ensures.gone lacks.own

pub next_epoch-requires : goal.next_epoch-requires
next_epoch-requires g c κs =
    let at = (goal.at.next_epoch-requires g c).After-out_of_heap in
    let was = c.requires.lacks in (
      (refl, tt),
      (
        c.requires.engine,
        ((was.0, was.1, was.2, gone_on g at was.0 was.1 was.2 was.3), (gone_rests g at, gone_waits g at)),
      ),
    )

pub returns-clause-keeps : goal.returns-clause-keeps
returns-clause-keeps g c =
    let at = (goal.at.returns-clause-keeps g c).After-out_of_heap in
    if_ok_from c.next_epoch.result _ _ (λ run goes told script config lacks.
    subst (λ (shown : Shown). RunStands told script config shown (row_of g.E.Machine.view run))
    (sym c.next_epoch.ensures.shown) (goes_keeps told script config _ (row_of g.E.Machine.view c.out_of_heap.result)
    (row_of g.E.Machine.view run) goes (gone_on g at told script config lacks) (gone_rests g at) (gone_waits g at)))
    c.next_epoch.ensures.goes

pub returns-clause-makes : goal.returns-clause-makes
returns-clause-makes g c =
    if_ok_from c.next_epoch.result _ _ (λ run goes told script config lacks. (
      c.loop-forced.forced + 0,
      omega (arith, c.loop-forced.invariant.few),
      c.loop-forced.invariant.moved told script config lacks 0 (row_of g.E.Machine.view run) (record {
        shown = g.S.DiskSpace.sees.shown c.loop-forced.space;
        gone = row_of g.E.Machine.view c.out_of_heap.result;
        ends = c.out_of_heap.ensures.gone;
        goes = goes;
      }),
    )) c.next_epoch.ensures.goes

pub returns-clause-less : goal.returns-clause-less
returns-clause-less g c =
    if_ok_from c.next_epoch.result _ _ (λ run goes. omega (
      arith,
      goes_less _ (row_of g.E.Machine.view c.out_of_heap.result) (row_of g.E.Machine.view run) goes,
      gone_less c.out_of_heap.ensures.gone,
      ap to_do c.loop-forced.invariant.states,
    )) c.next_epoch.ensures.goes

pub returns-clause-rests : goal.returns-clause-rests
returns-clause-rests g c =
    if_ok_from c.next_epoch.result _ _ (λ run goes.
    goes_rests _ (row_of g.E.Machine.view c.out_of_heap.result) (row_of g.E.Machine.view run) goes)
    c.next_epoch.ensures.goes

-- no collection was made as the thread ended
gone_journal : (g : Over) (c : After-out_of_heap g)
    → journal_of (row_of g.E.Machine.view c.out_of_heap.result) ≡ journal_of (row_of g.E.Machine.view c.loop-forced.run)
gone_journal g c = ap (λ (x : Collector). x.journal.items) c.out_of_heap.ensures.gone.collector

pub returns-clause-wrote : goal.returns-clause-wrote
returns-clause-wrote g c =
    let at = (goal.at.returns-clause-wrote g c).After-out_of_heap in
    if_ok_from c.next_epoch.result _ _ (λ run goes. wrote_then c.loop-forced.invariant.wrote
    (wrote_none _ (journal_of (row_of g.E.Machine.view run)) _ _
    (goes_journal _ (row_of g.E.Machine.view c.out_of_heap.result) (row_of g.E.Machine.view run) goes
    ∙ gone_journal g at) c.next_epoch.ensures.writes)) c.next_epoch.ensures.goes

pub returns-clause-stop_wrote : goal.returns-clause-stop_wrote
returns-clause-stop_wrote g c =
    let at = (goal.at.returns-clause-stop_wrote g c).After-out_of_heap in
    if_err_from c.next_epoch.result _ _ (λ stop keeps. stop_wrote_then _ stop
    (wrote_then c.loop-forced.invariant.wrote (wrote_none _ (journal_of (row_of g.E.Machine.view c.out_of_heap.result))
    (g.S.DiskSpace.sees.writes c.loop-forced.space) _ (gone_journal g at) refl))
    (stop_wrote_none _ _ _ stop keeps c.next_epoch.ensures.writes)) c.next_epoch.ensures.stop_keeps

-- the end of a thread leaves as many threads
gone_many : (g : Over) (c : After-out_of_heap g)
    → length c.out_of_heap.result.states.items ≡ length c.args.self.states.items
gone_many g c =
    ap (λ (states : List ThreadState). length states) c.out_of_heap.ensures.gone.states
    ∙ length-set c.loop-forced.run.states.items c.args.thread _
    ∙ ap (λ (states : List ThreadState). length states) c.loop-forced.invariant.states

pub returns-clause-lends : goal.returns-clause-lends
returns-clause-lends g c =
    let many = gone_many g (goal.at.returns-clause-lends g c).After-out_of_heap in
    if_ok_from c.next_epoch.result _ _ (λ run goes readers by.
    lends_then (c.loop-forced.invariant.lends readers by)
    (lends_one _ _ _ _ _ (most_by readers many (c.next_epoch.ensures.lends readers by))
    (goes_journal _ (row_of g.E.Machine.view c.out_of_heap.result) (row_of g.E.Machine.view run) goes
    ∙ ap (λ (x : Collector). x.journal.items) c.out_of_heap.ensures.gone.collector))) c.next_epoch.ensures.goes

pub returns-clause-stopped : goal.returns-clause-stopped
returns-clause-stopped g c =
    let at = (goal.at.returns-clause-stopped g c).After-out_of_heap in
    if_err_from c.next_epoch.result _ _ (λ stop stops told script config lacks.
    stops told script config (gone_on g at told script config lacks)) c.next_epoch.ensures.stopped

pub returns-clause-stop_counts : goal.returns-clause-stop_counts
returns-clause-stop_counts g c =
    if_err_from c.next_epoch.result _ _ (λ stop counts.
    stop_counts_then stop _ _ _ _ c.loop-forced.invariant.count c.next_epoch.ensures.count
    (counts_then c.args.self.states.items
    c.loop-forced.run.states.items c.out_of_heap.result.states.items _ _ _ c.loop-forced.invariant.lost
    (counts_same c.loop-forced.run.states.items c.out_of_heap.result.states.items _ _ c.out_of_heap.ensures.lost
    (omega arith))) counts) c.next_epoch.ensures.stop_counts

pub returns-clause-stop_lends : goal.returns-clause-stop_lends
returns-clause-stop_lends g c =
    let many = gone_many g (goal.at.returns-clause-stop_lends g c).After-out_of_heap in
    if_err_from c.next_epoch.result _ _ (λ stop keeps readers by.
    stop_then 1 _ stop (c.loop-forced.invariant.lends readers by)
    (stop_since _ 1 _ (journal_of (row_of g.E.Machine.view c.loop-forced.run))
    (journal_of (row_of g.E.Machine.view c.out_of_heap.result)) stop refl
    (omega (arith, ap (λ (x : Collector). length x.journal.items) c.out_of_heap.ensures.gone.collector))
    (stop_one _ _ _ _ stop (most_by readers many (c.next_epoch.ensures.lends readers by)) keeps)))
    c.next_epoch.ensures.stop_keeps
