use Rattle.std.proofs.Common.{ℕ, sym, subst}
use Rattle.std.proofs.lemmas.Option.{slice_get_within}
use Rattle.std.specs.Prelude.{IfSome, Option}
use Rattle.melt_pool.specs.Firsts.{AllRunFrom, MayCallAt}
use Rattle.melt_pool.proofs.After.{all_run}
use Rattle.melt_pool.proofs.epoch.run_from.Goals as goal

pub run_after-requires-clause-place : goal.run_after-requires-clause-place
run_after-requires-clause-place g c κs within =
    let calls = subst (λ (o : Option ℕ). IfSome o (MayCallAt c.args.mutators.now)) c.in-Some.is c.requires.first in
    slice_get_within c.args.mutators.now c.in-Some.t calls.0 calls.1

pub returns-in-None : goal.returns-in-None
returns-in-None g c =
    let words = c.args.epoch.now.words in
    let finish = c.args.epoch.now.end in
    let every = c.args.every in
    let faults = g.R.RecordReader.faults in
    let ms = c.args.mutators.now in
    let rs = c.run_all.new.mutators in
    record {
      came = subst (λ (o : Option ℕ). AllRunFrom faults finish every o words ms rs) (sym c.in-None.is)
          (all_run faults finish every words ms rs c.run_all.ensures.runs);
    }
