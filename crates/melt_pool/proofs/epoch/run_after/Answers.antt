use Rattle.std.proofs.Common.{◌≡◌, sym, subst}
use Rattle.std.proofs.Math.ListN.{set}
use Rattle.std.proofs.lemmas.Option.{get_or_from_slice_get, slice_get-get_or}
use Rattle.std.specs.Prelude.{Some, slice_get, slice_index_or}
use Rattle.melt_epoch.specs.Mutators.{HasReader}
use Rattle.melt_epoch.specs.declared.mutator.Mutator.{Mutator}
use Rattle.melt_pool.specs.Firsts.{AllCame, CameFirst, MayCall}
use Rattle.melt_pool.specs.Workers.{image_of}
use Rattle.melt_pool.specs.declared.first.First.TheVariants.{Went}
use Rattle.melt_pool.specs.declared.worker.Worker.{Worker}
use Rattle.melt_pool.proofs.After.{Went_at, all_run_after, changed_may_run, came_others}
use Rattle.melt_pool.proofs.Changed.{all_set, set_changes}
use Rattle.melt_pool.proofs.epoch.run_after.Goals as goal

pub call_first-came-requires-clause-runs : goal.call_first-came-requires-clause-runs
call_first-came-requires-clause-runs g c =
    let runs = c.requires.runs in
    (runs.0, runs.1 c.args.t c.index-mutators-t.result c.requires.place)

pub call_first-came-requires-clause-reader : goal.call_first-came-requires-clause-reader
call_first-came-requires-clause-reader g c = c.requires.readers c.args.t c.index-mutators-t.result c.requires.place

pub call_first-came-requires-clause-calls : goal.call_first-came-requires-clause-calls
call_first-came-requires-clause-calls g c =
    let calls = c.requires.calls in
    let ms = c.args.mutators.now in
    let is : slice_index_or ms c.args.t c.index-mutators-t.result ≡ calls.0 =
    get_or_from_slice_get ms c.args.t calls.0 c.index-mutators-t.result calls.1 in
    subst MayCall (sym is) calls.2

pub run_all-requires-clause-runs : goal.run_all-requires-clause-runs
run_all-requires-clause-runs g c κs within =
    let words = c.args.epoch.now.words in
    let finish = c.args.epoch.now.end in
    let every = c.args.every in
    let faults = g.R.RecordReader.faults in
    let ms = c.args.mutators.now in
    let t = c.args.t in
    let n = c.call_first-came.new.m in
    let m : Mutator (Worker g.row.R.Denot) = slice_index_or ms t c.index-mutators-t.result in
    let at : slice_get ms t ≡ Some m = slice_get-get_or ms t c.index-mutators-t.result c.requires.place in
    let came : CameFirst faults finish every words m n Went =
    subst (CameFirst faults finish every words m n) c.in-Went.is c.call_first-came.ensures.came in
    let changed = set_changes t ms m n (Went_at faults finish every words) at (
      c.call_first-came.ensures.thread,
      came,
    ) in
    let runs = c.requires.runs in
    (runs.0, changed_may_run faults finish every words runs.0 t ms (set ms t n) changed runs.1)

pub run_all-requires-clause-readers : goal.run_all-requires-clause-readers
run_all-requires-clause-readers g c κs within =
    let words = c.args.epoch.now.words in
    let image = g.R.RecordReader.image in
    let ms = c.args.mutators.now in
    let t = c.args.t in
    let n = c.call_first-came.new.m in
    let m : Mutator (Worker g.row.R.Denot) = slice_index_or ms t c.index-mutators-t.result in
    let at : slice_get ms t ≡ Some m = slice_get-get_or ms t c.index-mutators-t.result c.requires.place in
    all_set (HasReader (image_of image) words) t ms m n at c.call_first-came.ensures.reader c.requires.readers

pub returns-in-Went : goal.returns-in-Went
returns-in-Went g c =
    let words = c.args.epoch.now.words in
    let finish = c.args.epoch.now.end in
    let every = c.args.every in
    let faults = g.R.RecordReader.faults in
    let ms = c.args.mutators.now in
    let t = c.args.t in
    let n = c.call_first-came.new.m in
    let rs = c.run_all.new.mutators in
    let m : Mutator (Worker g.row.R.Denot) = slice_index_or ms t c.index-mutators-t.result in
    let at : slice_get ms t ≡ Some m = slice_get-get_or ms t c.index-mutators-t.result c.requires.place in
    let came : CameFirst faults finish every words m n Went =
    subst (CameFirst faults finish every words m n) c.in-Went.is c.call_first-came.ensures.came in
    let changed = set_changes t ms m n (Went_at faults finish every words) at (
      c.call_first-came.ensures.thread,
      came,
    ) in
    record {
      came = subst (AllCame faults finish every (Some t) words ms rs) (sym c.in-Went.is)
          (all_run_after faults finish every words t ms (set ms t n) rs changed c.run_all.ensures.runs);
    }

pub returns-in_default : goal.returns-in_default
returns-in_default g c =
    let words = c.args.epoch.now.words in
    let finish = c.args.epoch.now.end in
    let every = c.args.every in
    let faults = g.R.RecordReader.faults in
    let ms = c.args.mutators.now in
    let t = c.args.t in
    let n = c.call_first-came.new.m in
    let m : Mutator (Worker g.row.R.Denot) = slice_index_or ms t c.index-mutators-t.result in
    let at : slice_get ms t ≡ Some m = slice_get-get_or ms t c.index-mutators-t.result c.requires.place in
    record {
      came = came_others faults finish every words t ms m n at c.call_first-came.result c.in_default.not-Went
          c.call_first-came.ensures.came;
    }
