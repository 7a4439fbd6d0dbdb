-- The epoch is run after its beginning, by a reader that is given back.
use Rattle.std.proofs.Common.{◌≡◌, ℕ, List, Vec, Global, sym, ◌∙◌, ap, subst, arith}
use Rattle.std.specs.Prelude.{◌==◌, Bool, Option}
use Rattle.melt_model.specs.declared.reports.Journal.{Journal}
use Rattle.melt_disk.specs.Homes.{Stale}
use Rattle.melt_core.specs.Views.{View, stores, view}
use Rattle.melt_core.proofs.Disks.{stands_untold}
use Rattle.melt_safepoint.specs.Ended.{EndedStands}
use Rattle.melt_safepoint.specs.Losses.{CountsLosses}
use Rattle.melt_safepoint.specs.Epochs.{EndsEpoch, SomeMayRun}
use Rattle.melt_safepoint.specs.Rows.{Row, StopsBut, row_of}
use Rattle.melt_safepoint.specs.declared.ending.Stop.TheVariants.{Halted}
use Rattle.melt_safepoint.specs.Shown.{Shown, shown_by}
use Rattle.melt_safepoint.specs.declared.thread.ThreadState.{ThreadState}
use Rattle.melt_safepoint.proofs.Losses.{counts_back, fresh_counts}
use Rattle.melt_step.specs.Going.{core_view, kept_view}
use Rattle.melt_step.specs.Stored.{stored_view}
use Rattle.melt_step.proofs.Stored.{capacity_stores, stands_whole, stored_same, stored_so}
use Rattle.melt_step.proofs.Epochs.{Renews, may_settled, may_stands, renews_ends, renews_may}
use Rattle.melt_step.proofs.ordered.run_ordered.Given.{Over}
use Rattle.melt_step.proofs.ordered.run_ordered.Goals as goal
use Rattle.melt_step.proofs.ordered.run_ordered.Goals.{After-begin_epoch-run, Start}

-- what is seen of a space that ends where it ended and tells what it told
same_shown : {Disk : Type 0} (image : Disk → Option (List ℕ)) (a b : Stale Disk) → b.end ≡ a.end → b.limit ≡ a.limit
    → image b.disk.now ≡ image a.disk.now → shown_by image b ≡ shown_by image a
same_shown {Disk} image a b ends limits tells = λ i. record { end = ends i; limit = limits i; image = tells i }

-- the run may go on, so its core stands and shows to the engine what it shows
whole : (shown : Shown) (first : Option ℕ) (stored : Bool) (v : View) (row : Row)
    → SomeMayRun shown first (record row { view = stored_view stored v })
    → (stored_view stored v ≡ v) × (stores v ≡ stored)
whole shown first stored v row may =
    let stands = (may_stands may.0 may.1 may.2 _ _ _ may.3).1.table.stands in
    (stands_whole stored v stands, stored_so stored v stands.named)

-- and so does the run
shows : (g : Over) (c : Start g) → (row_of kept_view c.args.run ≡ row_of core_view c.args.run)
    × (stores (view c.args.run.machine.core) ≡ (g.row.STORED == 1))
shows g c =
    let row : Row = row_of core_view c.args.run in
    let is = whole _ _ (g.row.STORED == 1) (view c.args.run.machine.core) row c.requires.may in
    (ap (λ (v : View). record row { view = v }) is.0, is.1)

pub returns-in-Err-Failed-clause-runs : goal.returns-in-Err-Failed-clause-runs
returns-in-Err-Failed-clause-runs g c =
    let row = (shows g (goal.at.returns-in-Err-Failed-clause-runs g c).Start).0 in
    let same : shown_by g.D.StaleDisk.image c.lend.new.self ≡ shown_by g.D.StaleDisk.image c.args.space.now =
    same_shown g.D.StaleDisk.image c.args.space.now c.lend.new.self c.lend.ensures.end c.lend.ensures.limit
    c.lend.ensures.image in
    record {
      ends = tt;
      shown = same;
      same_disk = c.lend.ensures.same_disk;
      writes = c.lend.ensures.writes;
      count = c.lend.ensures.count;
      lost = tt;
      stopped = subst (λ (x : Row). StopsBut (shown_by g.D.StaleDisk.image c.args.space.now)
          (shown_by g.D.StaleDisk.image c.lend.new.self) x (Halted c.give_up.result)) (sym row)
          (λ told script config before.
          subst (λ (shown : Shown). EndedStands told script config shown c.give_up.result) (sym same)
          (c.give_up.ensures.stands told script config before.0.0 _ before.0.1 before.1));
      stop_counts = (
        λ is. c.lend.ensures.failed (cc (c.in-Err-Failed.is, c.in-Err-Failed.field-0-is)),
        subst (CountsLosses c.args.run.states.items c.give_up.result.states.items _) (sym c.lend.ensures.read_faults)
            (c.give_up.ensures.lost _),
      );
      stop_keeps = ap (λ (v : Vec Journal Global). v.items) c.give_up.ensures.journal;
      stores = c.give_up.ensures.stores;
    }

pub begin_epoch-run-requires : goal.begin_epoch-run-requires
begin_epoch-run-requires g c =
    let row = shows g (goal.at.begin_epoch-run-requires g c).Start in
    let may = subst (SomeMayRun (shown_by g.D.StaleDisk.image c.args.space.now) c.args.first) row.0 c.requires.may in
    let stands = (may_stands may.0 may.1 may.2 _ _ c.args.first may.3).1 in (
      omega arith,
      (
        stands.quiet,
        (may_settled may.0 may.1 may.2 _ _ c.args.first may.3, (stands.disk, stands_untold may.0 stands.disk (view c.args.run.machine.core) stands.table.stands)),
      ),
    )

-- the epoch has begun
renews : (g : Over) (c : After-begin_epoch-run g) → Renews (row_of core_view c.args.run)
    (row_of core_view c.begin_epoch-run.result)
renews g c = record {
  finished = c.begin_epoch-run.ensures.finished;
  rests = c.begin_epoch-run.ensures.rests;
  free = c.begin_epoch-run.ensures.free;
  states = ap (λ (v : Vec ThreadState Global). v.items) c.begin_epoch-run.ensures.states;
  collector = c.begin_epoch-run.ensures.collector;
  words = c.begin_epoch-run.ensures.words;
  every = c.begin_epoch-run.ensures.every;
  told = c.begin_epoch-run.ensures.told;
}

pub go_through-lacks-requires : goal.go_through-lacks-requires
go_through-lacks-requires g c =
    let row = shows g (goal.at.go_through-lacks-requires g c).Start in
    let may = subst (SomeMayRun (shown_by g.D.StaleDisk.image c.args.space.now) c.args.first) row.0 c.requires.may in
    let begun = renews g (goal.at.go_through-lacks-requires g c).After-begin_epoch-run in (
      omega arith,
      (
        (
          shown_by g.D.StaleDisk.image c.args.space.now,
          sym (c.end.ensures ∙ c.lend.ensures.end),
          sym c.in-Ok.ensures.lent,
          (may.0, may.1, may.2, renews_may may.0 may.1 may.2 _ c.args.first begun may.3),
        ),
        c.begin_epoch-run.ensures.stop,
      ),
    )

pub returns-clause-runs : goal.returns-clause-runs
returns-clause-runs g c =
    let begun = renews g (goal.at.returns-clause-runs g c).After-begin_epoch-run in
    let row = shows g (goal.at.returns-clause-runs g c).Start in
    let w : View = view c.go_through-lacks.new.run.machine.core in
    let so : stores w ≡ (g.row.STORED == 1) =
    c.go_through-lacks.ensures.stored
    ∙ (capacity_stores (view c.args.run.machine.core) (view c.begin_epoch-run.result.machine.core)
    c.begin_epoch-run.ensures.finished.capacity ∙ row.1) in
    let later : row_of kept_view c.go_through-lacks.new.run ≡ row_of core_view c.go_through-lacks.new.run =
    ap (λ (v : View). record (row_of core_view c.go_through-lacks.new.run) { view = v })
    (stored_same (g.row.STORED == 1) w so) in
    let states : List ThreadState = c.args.run.states.items in
    let after : List ThreadState = c.go_through-lacks.new.run.states.items in
    record {
      ends = subst (λ (x : Row). EndsEpoch (shown_by g.D.StaleDisk.image c.args.space.now) c.args.first x
          (row_of kept_view c.go_through-lacks.new.run) c.go_through-lacks.result) (sym row.0)
          (subst (λ (x : Row). EndsEpoch (shown_by g.D.StaleDisk.image c.args.space.now) c.args.first
          (row_of core_view c.args.run) x c.go_through-lacks.result) (sym later)
          (renews_ends _ _ _ _ c.args.first c.go_through-lacks.result begun
          (c.go_through-lacks.ensures.ends (shown_by g.D.StaleDisk.image c.args.space.now)
          (sym (c.end.ensures ∙ c.lend.ensures.end)) (sym c.in-Ok.ensures.lent))));
      shown = same_shown g.D.StaleDisk.image c.args.space.now c.give_back.new.self
          (c.give_back.ensures.end ∙ c.lend.ensures.end) (c.give_back.ensures.limit ∙ c.lend.ensures.limit)
          (c.give_back.ensures.image ∙ c.lend.ensures.image);
      same_disk = c.give_back.ensures.same_disk ∙ c.lend.ensures.same_disk;
      writes = c.give_back.ensures.writes ∙ c.lend.ensures.writes;
      count = omega (arith, c.give_back.ensures.count, c.lend.ensures.count);
      lost = subst (CountsLosses states after _) (sym c.give_back.ensures.read_faults)
          (counts_back states after _ _ _
          (fresh_counts begun.states c.lend.ensures.read_faults c.in-Ok.ensures.no_fault_yet
          c.go_through-lacks.ensures.lost));
      stopped = tt;
      stop_counts = tt;
      stop_keeps = tt;
      stores = tt;
    }
