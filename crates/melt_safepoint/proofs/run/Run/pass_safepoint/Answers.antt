-- Collections, and an epoch, give the threads less to do.
use Rattle.std.proofs.Common.{◌≡◌, ◌≢◌, ℕ, ◌+◌, ◌≤◌, Bool, List, length, refl, sym, ◌∙◌, ap, subst, arith}
use Rattle.std.proofs.Common.{zero, suc, inl, inr}
use Rattle.std.proofs.lemmas.Result.{err_from_is_err_and}
use Rattle.melt_model.specs.declared.config.Config.{Config}
use Rattle.melt_trace.specs.Script.{Script}
use Rattle.melt_safepoint.specs.Collections.{NoneForwarded}
use Rattle.melt_safepoint.specs.Epochs.{to_do}
use Rattle.melt_safepoint.specs.Losses.{CountsLosses}
use Rattle.melt_safepoint.specs.Makes.{if_none_was}
use Rattle.melt_safepoint.specs.Passing.{NoneOwn, OneWaits}
use Rattle.melt_safepoint.specs.Rows.{AwaitsCall, Row, RunStands, journal_of, row_of}
use Rattle.melt_safepoint.specs.Shown.{Shown}
use Rattle.melt_safepoint.specs.Threads.{SomeGoesOn, collections_due}
use Rattle.melt_safepoint.specs.Writes.{WroteSince}
use Rattle.melt_safepoint.specs.declared.thread.ThreadState.{ThreadState}
use Rattle.melt_safepoint.proofs.Collected.{may_collect}
use Rattle.melt_safepoint.proofs.Composing.{BeforeCall, awaits_call, before_made, before_same, stop_counts_then}
use Rattle.melt_safepoint.proofs.Composing.{begins_rest, stops_planned, stops_rest, stops_there}
use Rattle.melt_safepoint.proofs.Epochs.{goes_journal, goes_keeps, goes_less, goes_rests, someone_waits}
use Rattle.melt_safepoint.proofs.Lacking.{room_goes, room_waits}
use Rattle.melt_safepoint.proofs.Lends.{few_by, lends_after, lends_one, lends_since, lends_twice, most_by, planned_longer}
use Rattle.melt_safepoint.proofs.Losses.{CountsBefore, counts_made, counts_same, counts_then}
use Rattle.melt_safepoint.proofs.OwnCollections.{own_due, own_less}
use Rattle.melt_safepoint.proofs.Safepoints.{lowest_before, none_lacks, none_own, room_before}
use Rattle.melt_safepoint.proofs.StopLends.{stop_by, stop_more, stop_one, stop_twice, twice_stop_none}
use Rattle.melt_safepoint.proofs.ToDo.{collected_within}
use Rattle.melt_safepoint.proofs.TwoMoves.{if_err_from, if_ok_from}
use Rattle.melt_safepoint.proofs.Writes.{stop_wrote_none, stop_wrote_then, wrote_none, wrote_then}
use Rattle.melt_safepoint.proofs.run.Run.pass_safepoint.Given.{Over}
use Rattle.melt_safepoint.proofs.run.Run.pass_safepoint.Goals as goal
use Rattle.melt_safepoint.proofs.run.Run.pass_safepoint.Goals.{In_ok-run, In_default, Joined-len-made}
use Rattle.melt_safepoint.proofs.run.Run.pass_safepoint.Goals.{then-len-made+in_ok-run-2, else-len-made}

pub collect_for_all-requires : goal.collect_for_all-requires
collect_for_all-requires g c κs =
    let was = c.requires.stands in
    ((refl, tt), (c.requires.engine, (was.0, was.1, was.2, begins_rest c.requires.rests.waits was.3)))

-- a thread waits
waits : (g : Over) (c : In_ok-run g) → OneWaits c.args.self.states.items
waits g c = someone_waits c.args.self.states.items c.requires.rests c.requires.some

-- the run stands after the collections for which threads waited
stands : (g : Over) (c : In_ok-run g) → RunStands c.requires.stands.0 c.requires.stands.1 c.requires.stands.2
    (g.S.DiskSpace.sees.shown c.collect_for_all.new.space) (row_of g.E.Machine.view c.in_ok-run.run')
stands g c =
    (c.in_ok-run.ensures.keeps c.requires.stands.0 c.requires.stands.1 c.requires.stands.2
    (begins_rest c.requires.rests.waits c.requires.stands.3)).0

-- so many collections more were made for threads that waited for their own
own_longer : (g : Over) (c : In_ok-run g) → length (journal_of (row_of g.E.Machine.view c.in_ok-run.run'))
    ≡ length (journal_of (row_of g.E.Machine.view c.args.self)) + collections_due c.args.self.states.items
own_longer g c =
    planned_longer c.requires.stands.2 (collections_due c.args.self.states.items)
    (journal_of (row_of g.E.Machine.view c.args.self)) (journal_of (row_of g.E.Machine.view c.in_ok-run.run'))
    (c.in_ok-run.ensures.made.planned c.requires.stands.0 c.requires.stands.1 c.requires.stands.2
    (begins_rest c.requires.rests.waits c.requires.stands.3))

-- no thread more was lost with them
lost : (g : Over) (c : In_ok-run g) → CountsLosses c.args.self.states.items c.in_ok-run.run'.states.items
    (g.S.DiskSpace.sees.read_faults c.args.space.now) (g.S.DiskSpace.sees.read_faults c.collect_for_all.new.space)
lost g c = counts_same c.args.self.states.items c.in_ok-run.run'.states.items _ _ c.in_ok-run.ensures.lost
    (omega (arith, c.in_ok-run.ensures.read_faults))

-- no thread lacks room: then one was made
due : (g : Over) (c : In_default g) → collections_due c.args.self.states.items ≢ 0
due g c =
    own_due (row_of g.E.Machine.view c.args.self) (row_of g.E.Machine.view c.in_ok-run.run') c.in_ok-run.ensures.all
    (waits g (goal.at.In_default g c).In_ok-run) c.in_default.ensures.none

-- no forwarding word is filled after it
settled : (g : Over) (c : In_default g) → NoneForwarded (g.E.Machine.view c.in_ok-run.run'.machine)
settled g c = (c.in_ok-run.ensures.made.made (due g c)).none_forwarded

-- and no thread waits for one of its own
own : (g : Over) (c : In_ok-run g) → NoneOwn c.in_ok-run.run'.states.items
own g c = none_own c.args.self.states.items c.in_ok-run.run'.states.items c.in_ok-run.ensures.all

pub next_epoch-requires : goal.next_epoch-requires
next_epoch-requires g c κs =
    let at = goal.at.next_epoch-requires g c in (
      (refl, tt),
      (
        c.requires.engine,
        (
          (c.requires.stands.0, c.requires.stands.1, c.requires.stands.2, stands g at.In_ok-run),
          (settled g at.In_default, own g at.In_ok-run),
        ),
      ),
    )

pub returns-in_default-clause-keeps : goal.returns-in_default-clause-keeps
returns-in_default-clause-keeps g c =
    let at = goal.at.returns-in_default-clause-keeps g c in
    if_ok_from c.next_epoch.result _ _ (λ run goes told script config had.
    subst (λ (shown : Shown). RunStands told script config shown (row_of g.E.Machine.view run))
    (sym c.next_epoch.ensures.shown) (goes_keeps told script config _ (row_of g.E.Machine.view c.in_ok-run.run')
    (row_of g.E.Machine.view run) goes
    (c.in_ok-run.ensures.keeps told script config (begins_rest c.requires.rests.waits had)).0 (settled g at.In_default)
    (own g at.In_ok-run))) c.next_epoch.ensures.goes

pub returns-in_default-clause-made : goal.returns-in_default-clause-made
returns-in_default-clause-made g c =
    if_ok_from c.next_epoch.result _ _ (λ run goes told script config had. record {
      own = journal_of (row_of g.E.Machine.view c.in_ok-run.run');
      asked = c.in_ok-run.ensures.made.planned told script config (begins_rest c.requires.rests.waits had);
      room = inl (
        none_lacks c.args.self.states.items c.in_ok-run.run'.states.items c.in_ok-run.ensures.all
            c.in_default.ensures.none,
        record {
          shown = g.S.DiskSpace.sees.shown c.collect_for_all.new.space;
          mid = row_of g.E.Machine.view c.in_ok-run.run';
          after = refl;
          goes = goes;
        },
      );
    }) c.next_epoch.ensures.goes

pub returns-in_default-clause-less : goal.returns-in_default-clause-less
returns-in_default-clause-less g c =
    let at = goal.at.returns-in_default-clause-less g c in
    if_ok_from c.next_epoch.result _ _ (λ run goes. omega (
      arith,
      goes_less _ (row_of g.E.Machine.view c.in_ok-run.run') (row_of g.E.Machine.view run) goes,
      own_less c.args.self.states.items c.in_ok-run.run'.states.items c.in_ok-run.ensures.all (waits g at.In_ok-run)
          c.in_default.ensures.none,
    )) c.next_epoch.ensures.goes

pub returns-in_default-clause-rests : goal.returns-in_default-clause-rests
returns-in_default-clause-rests g c =
    if_ok_from c.next_epoch.result _ _ (λ run goes.
    goes_rests _ (row_of g.E.Machine.view c.in_ok-run.run') (row_of g.E.Machine.view run) goes)
    c.next_epoch.ensures.goes

pub returns-in_default-clause-lost : goal.returns-in_default-clause-lost
returns-in_default-clause-lost g c =
    let at = (goal.at.returns-in_default-clause-lost g c).In_ok-run in
    if_ok_from c.next_epoch.result _ _ (λ run more. counts_then c.args.self.states.items c.in_ok-run.run'.states.items
    run.states.items _ _ _ (lost g at) more) c.next_epoch.ensures.lost

pub returns-in_default-clause-wrote : goal.returns-in_default-clause-wrote
returns-in_default-clause-wrote g c =
    if_ok_from c.next_epoch.result _ _ (λ run goes. wrote_then c.in_ok-run.ensures.wrote
    (wrote_none _ (journal_of (row_of g.E.Machine.view run)) _ _
    (goes_journal _ (row_of g.E.Machine.view c.in_ok-run.run') (row_of g.E.Machine.view run) goes)
    c.next_epoch.ensures.writes)) c.next_epoch.ensures.goes

-- one collection at least was made for the threads
some_own : (n : ℕ) → n ≢ 0 → 1 ≤ n
some_own zero some = absurd (some refl)
some_own (suc n) some = omega arith

own_more : (g : Over) (c : In_default g) → length (journal_of (row_of g.E.Machine.view c.args.self)) + 1
    ≤ length (journal_of (row_of g.E.Machine.view c.in_ok-run.run'))
own_more g c =
    omega (arith, own_longer g (goal.at.In_default g c).In_ok-run, some_own _ (due g c))

pub returns-in_default-clause-lends : goal.returns-in_default-clause-lends
returns-in_default-clause-lends g c =
    let at = (goal.at.returns-in_default-clause-lends g c).In_default in
    if_ok_from c.next_epoch.result _ _ (λ run goes readers by.
    let js = journal_of (row_of g.E.Machine.view run) in
    let same = goes_journal _ (row_of g.E.Machine.view c.in_ok-run.run') (row_of g.E.Machine.view run) goes in
    lends_twice _ _ _ (journal_of (row_of g.E.Machine.view c.args.self)) js
    (omega (arith, own_more g at, ap length same))
    (lends_since _ c.in_ok-run.ensures.lends (omega (arith, own_more g at))
    (lends_one _ _ _ _ _ (most_by readers c.in_ok-run.ensures.all.count (c.next_epoch.ensures.lends readers by)) same)))
    c.next_epoch.ensures.goes

pub returns-in_default-clause-stopped : goal.returns-in_default-clause-stopped
returns-in_default-clause-stopped g c =
    if_err_from c.next_epoch.result _ _ (λ stop stops. stops_rest _ _ (row_of g.E.Machine.view c.args.self) stop
    c.requires.rests.waits (stops_there _ _ _ (row_of g.E.Machine.view c.args.self)
    (row_of g.E.Machine.view c.in_ok-run.run') stop c.in_ok-run.ensures.keeps stops)) c.next_epoch.ensures.stopped

pub returns-in_default-clause-stop_counts : goal.returns-in_default-clause-stop_counts
returns-in_default-clause-stop_counts g c =
    let at = (goal.at.returns-in_default-clause-stop_counts g c).In_ok-run in
    if_err_from c.next_epoch.result _ _ (λ stop counts. stop_counts_then stop _ _ _ _ c.in_ok-run.ensures.count
    c.next_epoch.ensures.count (lost g at) counts)
    c.next_epoch.ensures.stop_counts

pub returns-in_default-clause-stop_wrote : goal.returns-in_default-clause-stop_wrote
returns-in_default-clause-stop_wrote g c =
    if_err_from c.next_epoch.result _ _ (λ stop keeps. stop_wrote_then _ stop c.in_ok-run.ensures.wrote
    (stop_wrote_none _ _ _ stop keeps c.next_epoch.ensures.writes)) c.next_epoch.ensures.stop_keeps

pub returns-in_default-clause-stop_lends : goal.returns-in_default-clause-stop_lends
returns-in_default-clause-stop_lends g c =
    let at = (goal.at.returns-in_default-clause-stop_lends g c).In_default in
    if_err_from c.next_epoch.result _ _ (λ stop keeps readers by.
    stop_twice _ _ (journal_of (row_of g.E.Machine.view c.in_ok-run.run')) stop c.in_ok-run.ensures.lends
    (own_more g at) _ (stop_more _ 2 _ _ _ stop (omega arith)
    (stop_one _ _ _ _ stop
    (most_by readers c.in_ok-run.ensures.all.count (c.next_epoch.ensures.lends readers by)) keeps)))
    c.next_epoch.ensures.stop_keeps

pub collect-requires : goal.collect-requires
collect-requires g c κs = (
  (refl, tt),
  (
    c.requires.engine,
    may_collect c.requires.stands.0 c.requires.stands.1 c.requires.stands.2 _
        (row_of g.E.Machine.view c.in_ok-run.run') (stands g (goal.at.collect-requires g c).In_ok-run),
  ),
)

pub returns-in_err-run-clause-stopped : goal.returns-in_err-run-clause-stopped
returns-in_err-run-clause-stopped g c =
    let exit = err_from_is_err_and c.from_residual.result c.from_residual.ensures.1 in
    rw (exit.1, exit.2)
    (stops_rest _ _ (row_of g.E.Machine.view c.args.self) _ c.requires.rests.waits c.in_err-run.ensures.stopped)

pub returns-in_err-run-2-clause-stopped : goal.returns-in_err-run-2-clause-stopped
returns-in_err-run-2-clause-stopped g c =
    let exit = err_from_is_err_and c.from_residual-in_err-run-2.result c.from_residual-in_err-run-2.ensures.1 in
    rw (exit.1, exit.2)
    (stops_rest _ _ (row_of g.E.Machine.view c.args.self) _ c.requires.rests.waits
    (stops_there _ _ _ (row_of g.E.Machine.view c.args.self) (row_of g.E.Machine.view c.in_ok-run.run') _
    c.in_ok-run.ensures.keeps
    (stops_planned _ _ (row_of g.E.Machine.view c.in_ok-run.run') _
    (room_waits c.in_ok-run.run'.states.items c.in-Some.thread c.in-Some.ensures.some) c.in_err-run-2.ensures.stopped)))

pub returns-in_err-run-2-clause-stop_counts : goal.returns-in_err-run-2-clause-stop_counts
returns-in_err-run-2-clause-stop_counts g c =
    let exit = err_from_is_err_and c.from_residual-in_err-run-2.result c.from_residual-in_err-run-2.ensures.1 in
    rw (exit.1, exit.2)
    (stop_counts_then _ _ _ _ _ c.in_ok-run.ensures.count c.in_err-run-2.ensures.count
    (lost g (goal.at.returns-in_err-run-2-clause-stop_counts g c).In_ok-run) c.in_err-run-2.ensures.stop_counts)

pub returns-in_err-run-2-clause-stop_wrote : goal.returns-in_err-run-2-clause-stop_wrote
returns-in_err-run-2-clause-stop_wrote g c =
    let exit = err_from_is_err_and c.from_residual-in_err-run-2.result c.from_residual-in_err-run-2.ensures.1 in
    rw (exit.1, exit.2) (stop_wrote_then _ _ c.in_ok-run.ensures.wrote c.in_err-run-2.ensures.stop_wrote)

pub returns-in_err-run-2-clause-stop_lends : goal.returns-in_err-run-2-clause-stop_lends
returns-in_err-run-2-clause-stop_lends g c =
    let at = (goal.at.returns-in_err-run-2-clause-stop_lends g c).In_ok-run in
    let exit = err_from_is_err_and c.from_residual-in_err-run-2.result c.from_residual-in_err-run-2.ensures.1 in
    rw (exit.1, exit.2)
    (λ n by. twice_stop_none _ _ _ (journal_of (row_of g.E.Machine.view c.args.self))
    (journal_of (row_of g.E.Machine.view c.in_ok-run.run')) _
    (c.in_err-run-2.ensures.lends ∙ c.in_ok-run.ensures.lends) (omega (arith, own_longer g at))
    c.in_err-run-2.ensures.stop_keeps)

-- how the run stands before the call that is made first
before_call : (g : Over) (c : Joined-len-made g) → BeforeCall (collections_due c.args.self.states.items)
    (g.S.DiskSpace.sees.shown c.collect_for_all.new.space) (g.S.DiskSpace.sees.shown c.if-len-made.space)
    (row_of g.E.Machine.view c.in_ok-run.run') (row_of g.E.Machine.view c.if-len-made.run)
before_call g c =
    let mid : Row = row_of g.E.Machine.view c.in_ok-run.run' in
    let lacks : SomeGoesOn mid.states = room_goes mid.states c.in-Some.thread c.in-Some.ensures.some in
    let longer = own_longer g (goal.at.Joined-len-made g c).In_ok-run in
    elim c.if-len-made.branch [
      | then-len-made+in_ok-run-2 w ↦ rw (w.space-is, w.run-is)
          (before_made _ _ _ mid (row_of g.E.Machine.view w.in_ok-run-2.run')
          (omega (arith, longer, w.if-len-made.true, c.len-made.ensures)) w.in_ok-run-2.ensures.made lacks)
      | else-len-made w ↦ rw (w.space-is, w.run-is)
          (let was : collections_due c.args.self.states.items ≢ 0 =
          λ none. absurd (omega (arith, none, longer, w.if-len-made.false, c.len-made.ensures)) in
          before_same _ _ mid was (c.in_ok-run.ensures.made.made was) lacks)
    ]

-- the run stands before that call
keeps_before : (g : Over) (c : Joined-len-made g) (told : Bool) (script : Script) (config : Config)
    → RunStands told script config (g.S.DiskSpace.sees.shown c.args.space.now) (row_of g.E.Machine.view c.args.self)
    → AwaitsCall told script config (g.S.DiskSpace.sees.shown c.if-len-made.space) 0
    (row_of g.E.Machine.view c.if-len-made.run) c.in-Some.thread
keeps_before g c told script config had =
    awaits_call c.in-Some.thread c.in_ok-run.ensures.keeps c.requires.rests.waits c.in_ok-run.ensures.all
    (before_call g c) c.in-Some.ensures.some told script config (begins_rest c.requires.rests.waits had)

pub make_room-requires : goal.make_room-requires
make_room-requires g c κs =
    let at = (goal.at.make_room-requires g c).Joined-len-made in
    let was = c.requires.stands in
    ((refl, tt), (c.requires.engine, (was.0, was.1, was.2, keeps_before g at was.0 was.1 was.2 was.3)))

-- what was counted before that call
counts_before : (g : Over) (c : Joined-len-made g)
    → CountsBefore c.args.self.states.items c.if-len-made.run.states.items
    (g.S.DiskSpace.sees.faults c.args.space.now) (g.S.DiskSpace.sees.faults c.if-len-made.space)
    (g.S.DiskSpace.sees.read_faults c.args.space.now) (g.S.DiskSpace.sees.read_faults c.if-len-made.space)
counts_before g c =
    let states : List ThreadState = c.args.self.states.items in
    let mid : List ThreadState = c.in_ok-run.run'.states.items in
    let first = lost g (goal.at.Joined-len-made g c).In_ok-run in
    elim c.if-len-made.branch [
      | then-len-made+in_ok-run-2 w ↦ rw (w.space-is, w.run-is)
          (counts_made _ _ _ w.in_ok-run-2.ensures.made.states c.in_ok-run.ensures.count w.in_ok-run-2.ensures.count
          first w.in_ok-run-2.ensures.read_faults)
      | else-len-made w ↦ rw (w.space-is, w.run-is)
          (record { count = c.in_ok-run.ensures.count; lost = first })
    ]

-- as many threads are there before that call
before_many : (g : Over) (c : Joined-len-made g)
    → length c.if-len-made.run.states.items ≡ length c.args.self.states.items
before_many g c =
    ap (λ (states : List ThreadState). length states) (before_call g c).states ∙ c.in_ok-run.ensures.all.count

-- no reader was lent
before_lends : (g : Over) (c : Joined-len-made g)
    → g.S.DiskSpace.sees.lends c.if-len-made.space ≡ g.S.DiskSpace.sees.lends c.args.space.now
before_lends g c =
    elim c.if-len-made.branch [
      | then-len-made+in_ok-run-2 w ↦ rw w.space-is (w.in_ok-run-2.ensures.lends ∙ c.in_ok-run.ensures.lends)
      | else-len-made w ↦ rw w.space-is c.in_ok-run.ensures.lends
    ]

-- what was written before the call
before_wrote : (g : Over) (c : Joined-len-made g) → WroteSince (journal_of (row_of g.E.Machine.view c.args.self))
    (journal_of (row_of g.E.Machine.view c.if-len-made.run)) (g.S.DiskSpace.sees.writes c.args.space.now)
    (g.S.DiskSpace.sees.writes c.if-len-made.space)
before_wrote g c =
    elim c.if-len-made.branch [
      | then-len-made+in_ok-run-2 w ↦ rw (w.space-is, w.run-is)
          (wrote_then c.in_ok-run.ensures.wrote w.in_ok-run-2.ensures.wrote)
      | else-len-made w ↦ rw (w.space-is, w.run-is) c.in_ok-run.ensures.wrote
    ]

-- and the disk is the one of before
before_disk : (g : Over) (c : Joined-len-made g)
    → g.S.DiskSpace.sees.name c.if-len-made.space ≡ g.S.DiskSpace.sees.name c.args.space.now
before_disk g c =
    elim c.if-len-made.branch [
      | then-len-made+in_ok-run-2 w ↦ rw w.space-is (w.in_ok-run-2.ensures.same_disk ∙ c.in_ok-run.ensures.same_disk)
      | else-len-made w ↦ rw w.space-is c.in_ok-run.ensures.same_disk
    ]

-- so many collections were made before the call
all_longer : (g : Over) (c : Joined-len-made g) → length (journal_of (row_of g.E.Machine.view c.if-len-made.run))
    ≡ length (journal_of (row_of g.E.Machine.view c.in_ok-run.run'))
    + if_none_was (collections_due c.args.self.states.items)
all_longer g c =
    planned_longer c.requires.stands.2 (if_none_was (collections_due c.args.self.states.items))
    (journal_of (row_of g.E.Machine.view c.in_ok-run.run')) (journal_of (row_of g.E.Machine.view c.if-len-made.run))
    ((before_call g c).planned c.requires.stands.0 c.requires.stands.1 c.requires.stands.2
    (c.in_ok-run.ensures.keeps c.requires.stands.0 c.requires.stands.1 c.requires.stands.2
    (begins_rest c.requires.rests.waits c.requires.stands.3)))

-- one at least
one_or_more : (n : ℕ) → 1 ≤ n + if_none_was n
one_or_more zero = omega arith
one_or_more (suc n) = omega arith

before_longer : (g : Over) (c : Joined-len-made g) → length (journal_of (row_of g.E.Machine.view c.args.self)) + 1
    ≤ length (journal_of (row_of g.E.Machine.view c.if-len-made.run))
before_longer g c =
    omega (
      arith,
      all_longer g c,
      own_longer g (goal.at.Joined-len-made g c).In_ok-run,
      one_or_more (collections_due c.args.self.states.items),
    )

pub returns-clause-keeps : goal.returns-clause-keeps
returns-clause-keeps g c =
    let at = (goal.at.returns-clause-keeps g c).Joined-len-made in
    if_ok_from c.make_room.result _ _ (λ run keeps told script config had.
    keeps told script config (keeps_before g at told script config had)) c.make_room.ensures.keeps

pub returns-clause-made : goal.returns-clause-made
returns-clause-made g c =
    let at = (goal.at.returns-clause-made g c).Joined-len-made in
    if_ok_from c.make_room.result _ _ (λ run makes told script config had. record {
      own = journal_of (row_of g.E.Machine.view c.in_ok-run.run');
      asked = c.in_ok-run.ensures.made.planned told script config (begins_rest c.requires.rests.waits had);
      room = inr (
        c.in-Some.thread,
        room_before c.args.self.states.items c.in_ok-run.run'.states.items c.in-Some.thread c.in_ok-run.ensures.all
            c.in-Some.ensures.some,
        lowest_before c.args.self.states.items c.in_ok-run.run'.states.items c.in-Some.thread c.in_ok-run.ensures.all
            c.in-Some.ensures.first,
        record {
          shown = g.S.DiskSpace.sees.shown c.if-len-made.space;
          mid = row_of g.E.Machine.view c.if-len-made.run;
          planned = (before_call g at).planned told script config
              (c.in_ok-run.ensures.keeps told script config (begins_rest c.requires.rests.waits had));
          awaits = keeps_before g at told script config had;
          makes = makes told script config (keeps_before g at told script config had);
        },
      );
    }) c.make_room.ensures.makes

pub returns-clause-less : goal.returns-clause-less
returns-clause-less g c =
    let at = (goal.at.returns-clause-less g c).Joined-len-made in
    if_ok_from c.make_room.result _ _ (λ run less. omega (
      arith,
      less,
      ap to_do (before_call g at).states,
      collected_within c.args.self.states.items c.in_ok-run.run'.states.items c.in_ok-run.ensures.all,
    )) c.make_room.ensures.less

pub returns-clause-lost : goal.returns-clause-lost
returns-clause-lost g c =
    let at = (goal.at.returns-clause-lost g c).Joined-len-made in
    if_ok_from c.make_room.result _ _ (λ run more. counts_then c.args.self.states.items
    c.if-len-made.run.states.items run.states.items _ _ _ (counts_before g at).lost more) c.make_room.ensures.lost

pub returns-clause-lends : goal.returns-clause-lends
returns-clause-lends g c =
    let at = (goal.at.returns-clause-lends g c).Joined-len-made in
    if_ok_from c.make_room.result _ _ (λ run few readers by.
    let lends = few_by readers (before_many g at) (few readers by) in
    let js = journal_of (row_of g.E.Machine.view run) in
    lends_twice _ _ _ (journal_of (row_of g.E.Machine.view c.args.self)) js
    (omega (arith, before_longer g at, lends.grows))
    (lends_after 1 _ (before_lends g at) (before_longer g at) lends)) c.make_room.ensures.lends

pub returns-clause-wrote : goal.returns-clause-wrote
returns-clause-wrote g c =
    let at = (goal.at.returns-clause-wrote g c).Joined-len-made in
    if_ok_from c.make_room.result _ _ (λ run wrote. wrote_then (before_wrote g at) wrote) c.make_room.ensures.wrote

pub returns-clause-stop_wrote : goal.returns-clause-stop_wrote
returns-clause-stop_wrote g c =
    let at = (goal.at.returns-clause-stop_wrote g c).Joined-len-made in
    if_err_from c.make_room.result _ _ (λ stop wrote. stop_wrote_then _ stop (before_wrote g at) wrote)
    c.make_room.ensures.stop_wrote

pub returns-clause-same_disk : goal.returns-clause-same_disk
returns-clause-same_disk g c =
    c.make_room.ensures.same_disk ∙ before_disk g (goal.at.returns-clause-same_disk g c).Joined-len-made

pub returns-clause-count : goal.returns-clause-count
returns-clause-count g c =
    let counts = counts_before g (goal.at.returns-clause-count g c).Joined-len-made in
    omega (arith, counts.count, c.make_room.ensures.count)

pub returns-clause-stopped : goal.returns-clause-stopped
returns-clause-stopped g c =
    let at = (goal.at.returns-clause-stopped g c).Joined-len-made in
    if_err_from c.make_room.result _ _ (λ stop stops told script config had.
    stops told script config (keeps_before g at told script config had)) c.make_room.ensures.stopped

pub returns-clause-stop_counts : goal.returns-clause-stop_counts
returns-clause-stop_counts g c =
    let counts = counts_before g (goal.at.returns-clause-stop_counts g c).Joined-len-made in
    if_err_from c.make_room.result _ _ (λ stop more. stop_counts_then stop _ _ _ _ counts.count
    c.make_room.ensures.count counts.lost more)
    c.make_room.ensures.stop_counts

pub returns-clause-stop_lends : goal.returns-clause-stop_lends
returns-clause-stop_lends g c =
    let at = (goal.at.returns-clause-stop_lends g c).Joined-len-made in
    if_err_from c.make_room.result _ _ (λ stop lends readers by.
    stop_twice _ _ (journal_of (row_of g.E.Machine.view c.if-len-made.run)) stop (before_lends g at)
    (before_longer g at) _ (stop_by readers 2 _ _ _ stop (before_many g at) (lends readers by)))
    c.make_room.ensures.stop_lends
