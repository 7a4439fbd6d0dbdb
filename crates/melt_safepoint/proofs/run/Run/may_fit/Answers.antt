-- What is held is told by one number.
use Rattle.std.proofs.Common.{◌≡◌, arith}
use Rattle.std.proofs.lemmas.Bool.Decides.{nat_tests}
use Rattle.melt_model.specs.Alive.{Held, words_of}
use Rattle.melt_model.proofs.Sums.{CostsSum-one}
use Rattle.melt_core.specs.Views.{value}
use Rattle.melt_safepoint.proofs.run.Run.may_fit.Goals as goal

pub returns : goal.returns
returns g c = λ disk stands held holds.
    let v = g.E.Machine.view c.args.self.now.machine in
    let one : c.held.result ≡ held =
    CostsSum-one (words_of v.log) (Held (value v)) c.held.result held (c.held.ensures.held disk stands) holds in
    grind (arith, nat_tests)
