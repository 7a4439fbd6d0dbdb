use Rattle.std.proofs.Common.{◌≡◌, rules, ap}
use Rattle.std.specs.Prelude.{Some, IfSome}
use Rattle.melt_core.specs.Stages.{LooksAtStop}
use Rattle.melt_model.specs.Thread.{value_in}
use Rattle.melt_epoch.specs.declared.mutator.Mutator.{Mutator}
use Rattle.melt_safepoint.specs.Modes.{FitsMode}
use Rattle.melt_safepoint.specs.declared.thread.Mode.TheVariants.{Running, Lacking}
use Rattle.melt_pool_tests.proofs.Starting.{refused_lacks, refused_new, refused_starts}
use Rattle.melt_pool_tests.proofs.tests.refuse.Goals as goal

pub returns : goal.returns
returns g c =
    let m = c.args.mutator.now in
    let n = c.set_reader.new.self in
    let worker = c.in-Some.worker in
    let state = c.in-Some-take.state in
    let there : m.reader ≡ Some worker = search rules in
    let had : worker.state ≡ Some state = search rules in
    let is : n ≡ record m { reader = Some (record worker { state = Some (record state { mode = Lacking }) }) } =
    search rules in
    let runs : state.mode ≡ Running = search rules in
    let fits : FitsMode Lacking state.op = search rules in
    let looks : IfSome state.op (LooksAtStop (value_in m.values)) = search rules in
    record {
      thread = ap (λ (x : Mutator _). x.thread) is;
      may_start = refused_starts m n worker state there had is;
      new = λ script. refused_new m n worker state there had is script runs fits looks;
      lacks = refused_lacks m n worker state there had is;
    }
