use Rattle.std.proofs.Common.{ℕ, sym, subst, ◌∙◌}
use Rattle.std.specs.Prelude.{Option, Some}
use Rattle.melt_model.specs.declared.operations.Op.{Op}
use Rattle.melt_scion.specs.Heaps.{OnDisk}
use Rattle.melt_core.specs.declared.call.Place.{Place}
use Rattle.melt_core.specs.Advances.{AdvancesOver, Asks}
use Rattle.melt_core.specs.Changed.{with_stage}
use Rattle.melt_core.specs.Stages.{LooksFrom}
use Rattle.melt_core.specs.declared.answer.StepResult.TheVariants.{Going}
use Rattle.melt_core.specs.declared.call.Stage.{Stage}
use Rattle.melt_core.specs.Views.{View, maps, stage_of, state, view}
use Rattle.melt_core.proofs.Asked.{asks_over}
use Rattle.melt_core.proofs.Loading.{looks_at, look_advances, home_advances, look_reads}
use Rattle.melt_core.proofs.Loading.{finds_null, finds_clean}
use Rattle.melt_core.proofs.Noting.{held_named}
use Rattle.melt_core.proofs.Objects.{tagged_is}
use Rattle.melt_core.proofs.Staged.{call_again, read_from, staged_stage}
use Rattle.melt_core.proofs.machine.Core.look.Goals as goal

-- the view at the stage, at which the look is asked for
from : {disk : OnDisk} (v : View) (t : ℕ) (o : Op) (place : Place) (dst : ℕ) (stage : Stage)
    → Asks disk (with_stage v t o stage) t o → LooksFrom (Some stage) place dst
    → LooksFrom (stage_of (with_stage v t o stage) t) place dst
from v t o place dst stage asks looks =
    subst (λ (g : Option Stage). LooksFrom g place dst) (sym (staged_stage v t o stage asks)) looks

pub read-requires-in-Clean-clause-named : goal.read-requires-in-Clean-clause-named
read-requires-in-Clean-clause-named c =
    let v : View = view c.args.self.now in
    let u : View = with_stage v c.args.thread c.args.op c.requires.0 in
    let disk = c.requires.2.disk in
    let asks = c.requires.2.asks in
    let at = looks_at disk u c.args.thread c.args.op c.args.place c.args.dst asks
    (from v c.args.thread c.args.op c.args.place c.args.dst c.requires.0 asks c.requires.1) in
    held_named (maps v) (state disk v) c.in-Clean.address
    (finds_clean c.args.thread c.args.op c.args.place c.args.dst asks.stands at.0 at.1
    (c.in-Clean.ensures disk)).may_hold

pub returns-in-Stale : goal.returns-in-Stale
returns-in-Stale c = λ stage looks may. record {
  over = λ disk stands.
      let v : View = view c.args.self.now in
      let u : View = with_stage v c.args.thread c.args.op stage in
      let asks = asks_over u c.args.thread c.args.op may disk stands in
      subst (λ (w : View). AdvancesOver disk u w c.args.thread c.args.op Going)
      (call_again v c.args.thread c.args.op stage _ ∙ sym c.set_call.ensures)
      (look_advances c.args.place c.args.dst asks
      (from v c.args.thread c.args.op c.args.place c.args.dst stage asks looks) (c.in-Stale.ensures disk));
}

pub returns-in-Disk : goal.returns-in-Disk
returns-in-Disk c = λ stage looks may. record {
  over = λ disk stands.
      let v : View = view c.args.self.now in
      let u : View = with_stage v c.args.thread c.args.op stage in
      let asks = asks_over u c.args.thread c.args.op may disk stands in
      subst (λ (w : View). AdvancesOver disk u w c.args.thread c.args.op Going)
      (call_again v c.args.thread c.args.op stage _ ∙ sym c.set_call-in-Disk.ensures)
      (home_advances c.args.place c.args.dst asks
      (from v c.args.thread c.args.op c.args.place c.args.dst stage asks looks) (c.in-Disk.ensures disk));
}

pub returns-in-Null : goal.returns-in-Null
returns-in-Null c = λ stage looks may. record {
  over = λ disk stands.
      let v : View = view c.args.self.now in
      let u : View = with_stage v c.args.thread c.args.op stage in
      let asks = asks_over u c.args.thread c.args.op may disk stands in
      let looks = from v c.args.thread c.args.op c.args.place c.args.dst stage asks looks in
      let at = looks_at disk u c.args.thread c.args.op c.args.place c.args.dst asks looks in
      look_reads asks looks
      (finds_null disk u c.args.thread c.args.op c.args.place c.args.dst stands at.0 at.1 (c.in-Null.ensures disk))
      (tagged_is _ _ (c.in-Null.ensures disk)) (read_from c.args.op stage c.read.ensures);
}

pub returns-in-Clean : goal.returns-in-Clean
returns-in-Clean c = λ stage looks may. record {
  over = λ disk stands.
      let v : View = view c.args.self.now in
      let u : View = with_stage v c.args.thread c.args.op stage in
      let asks = asks_over u c.args.thread c.args.op may disk stands in
      let looks = from v c.args.thread c.args.op c.args.place c.args.dst stage asks looks in
      let at = looks_at disk u c.args.thread c.args.op c.args.place c.args.dst asks looks in
      look_reads asks looks
      (finds_clean c.args.thread c.args.op c.args.place c.args.dst stands at.0 at.1 (c.in-Clean.ensures disk))
      (tagged_is _ _ (c.in-Clean.ensures disk)) (read_from c.args.op stage c.read-in-Clean.ensures);
}
