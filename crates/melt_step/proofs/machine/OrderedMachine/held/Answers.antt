use Rattle.std.proofs.Common.{true, sym, subst}
use Rattle.std.specs.Prelude.{◌==◌}
use Rattle.melt_model.specs.Alive.{CostsSum, Held, words_of}
use Rattle.melt_core.specs.Holdings.{IsSound}
use Rattle.melt_core.specs.Views.{Standing, View, value, view}
use Rattle.melt_step.proofs.Stored.{stands_whole}
use Rattle.melt_step.proofs.machine.OrderedMachine.held.Goals as goal

pub held-requires : goal.held-requires
held-requires g c =
    let stored = g.row.STORED == 1 in
    subst IsSound (stands_whole stored (view c.args.self.now.core) c.requires.sound.1) c.requires.sound

pub returns : goal.returns
returns g c = record {
  held = λ disk stands.
      let stored = g.row.STORED == 1 in
      let v : View = view c.args.self.now.core in
      let whole = stands_whole stored v stands in
      subst (λ (x : View). CostsSum (words_of x.log) (Held (value x)) c.held.result) (sym whole)
      (c.held.ensures disk (subst (Standing true disk) whole stands));
}
