-- The core stands, so it shows to the engine what it shows.
use Rattle.std.proofs.Common.{◌≡◌, ap, sym, subst}
use Rattle.std.specs.Prelude.{◌==◌, Bool, Err, Result}
use Rattle.melt_model.specs.declared.reports.Phase.{Phase}
use Rattle.melt_move.specs.Planned.{phase_done}
use Rattle.melt_core.specs.Views.{View, view}
use Rattle.melt_safepoint.specs.Collections.{CollectsCore, IsRefusedCore, MayCollect}
use Rattle.melt_safepoint.specs.Shown.{Shown, shown_by}
use Rattle.melt_safepoint.specs.declared.collector.CollectRefusal.{CollectRefusal}
use Rattle.melt_step.specs.Stored.{stored_view}
use Rattle.melt_step.proofs.Stored.{stands_whole, stored_same, stored_so}
use Rattle.melt_step.proofs.ordered.collect_ordered.Goals as goal

pub collect_core-requires-clause-may : goal.collect_core-requires-clause-may
collect_core-requires-clause-may g c κs within =
    let may = c.requires.may in
    subst (MayCollect c.args.space.now.end)
    (stands_whole (g.row.STORED == 1) (view c.args.machine.core) may.stands) may

pub collect_core-requires-clause-stored : goal.collect_core-requires-clause-stored
collect_core-requires-clause-stored g c κs within =
    stored_so (g.row.STORED == 1) (view c.args.machine.core) c.requires.may.stands.named

pub returns-in-Ok : goal.returns-in-Ok
returns-in-Ok g c =
    let stored : Bool = g.row.STORED == 1 in
    let v : View = view c.args.machine.core in
    let w : View = view c.in-Ok.core in
    let phase : Phase = phase_done c.args.force c.args.collector.now.plan.next in
    let shown : Shown = shown_by g.D.StaleDisk.image c.args.space.now in
    let later : Shown = shown_by g.D.StaleDisk.image c.collect_core.new.space in
    record {
      collects = record {
        collected = subst (λ (x : View). CollectsCore phase shown later x (stored_view stored w) c.args.collector.now
            c.collect_core.new.collector) (sym (stands_whole stored v c.requires.may.stands))
            (subst (λ (x : View). CollectsCore phase shown later v x c.args.collector.now c.collect_core.new.collector)
            (sym (stored_same stored w c.in-Ok.ensures.stored)) c.in-Ok.ensures.collected);
        refused = tt;
        stores = tt;
        journal_stays = tt;
        failed = λ left is. absurd (cc);
        same_disk = c.collect_core.ensures.keeps.same_disk;
        count = c.collect_core.ensures.keeps.count;
        read_faults = c.collect_core.ensures.keeps.read_faults;
        lends = c.collect_core.ensures.keeps.lends;
        wrote = c.in-Ok.ensures.wrote;
        refused_wrote = tt;
      };
    }

-- the refusal of an answer
err_is : {A : Type 0} (x y : CollectRefusal) → ◌≡◌ {A = Result A CollectRefusal} (Err x) (Err y) → x ≡ y
err_is x y is = cc

pub returns-in-Err : goal.returns-in-Err
returns-in-Err g c =
    let stored : Bool = g.row.STORED == 1 in
    let v : View = view c.args.machine.core in
    let phase : Phase = phase_done c.args.force c.args.collector.now.plan.next in
    let shown : Shown = shown_by g.D.StaleDisk.image c.args.space.now in
    let later : Shown = shown_by g.D.StaleDisk.image c.collect_core.new.space in
    record {
      collects = record {
        collected = tt;
        refused = subst (λ (x : View). IsRefusedCore phase shown later x c.in-Err.refusal)
            (sym (stands_whole stored v c.requires.may.stands)) c.in-Err.ensures.refused;
        stores = c.in-Err.ensures.stores;
        journal_stays = c.in-Err.ensures.journal_stays;
        failed = λ left is. c.in-Err.ensures.failed left (ap Err (err_is _ _ is));
        same_disk = c.collect_core.ensures.keeps.same_disk;
        count = c.collect_core.ensures.keeps.count;
        read_faults = c.collect_core.ensures.keeps.read_faults;
        lends = c.collect_core.ensures.keeps.lends;
        wrote = tt;
        refused_wrote = c.in-Err.ensures.refused_wrote;
      };
    }
