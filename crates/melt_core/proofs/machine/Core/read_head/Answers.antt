use Rattle.std.proofs.Common.{sym, subst}
use Rattle.melt_core.specs.Advances.{Advances, IsDamage}
use Rattle.melt_core.specs.declared.answer.StepResult.TheVariants.{Going}
use Rattle.melt_core.specs.Changed.{with_call}
use Rattle.melt_core.specs.Views.{View, view}
use Rattle.melt_core.proofs.Recorded.{missed_fault, head_advances, head_damaged, head_is_damage, head_uses, ok_of}
use Rattle.melt_core.proofs.Recorded.{is_damaged}
use Rattle.melt_core.proofs.machine.Core.read_head.Goals as goal

pub returns-then-is_err-clause-advances : goal.returns-then-is_err-clause-advances
returns-then-is_err-clause-advances g c =
    let v : View = view c.args.self.now in
    subst (λ (w : View). Advances c.args.end (g.R.RecordReader.image c.args.reader.now) v w c.args.thread c.args.op
    c.lose.result) (sym c.lose.ensures.over)
    (subst (Advances c.args.end (g.R.RecordReader.image c.args.reader.now) v
    (with_call v c.args.thread _) c.args.thread c.args.op) (sym c.lose.ensures.refused)
    (missed_fault c.args.end (g.R.RecordReader.image c.args.reader.now) v c.args.thread c.args.op c.args.search
    c.requires.asks c.requires.stage))

pub returns-in-Ok-clause-advances : goal.returns-in-Ok-clause-advances
returns-in-Ok-clause-advances g c =
    let v : View = view c.args.self.now in
    let image = g.R.RecordReader.image c.args.reader.now in
    let after = c.in-Ok.ensures.stage in
    subst (λ (w : View). Advances c.args.end image v w c.args.thread c.args.op Going) (sym c.set_stage.ensures)
    (head_advances c.args.end image v c.args.thread c.args.op c.args.search c.read_at.new.words (record {
      may = c.requires.asks;
      at = c.requires.stage;
      read = ok_of c.read_at.result _ c.read_at.ensures.words (sym c.is_err.ensures.value) c.if-is_err.false;
    }) after.0 c.in-Ok.stage after.1 after.2)

pub returns-in-Ok-clause-uses : goal.returns-in-Ok-clause-uses
returns-in-Ok-clause-uses g c =
    let v : View = view c.args.self.now in
    let disk = c.requires.asks.disk in
    head_uses c.in-Ok.stage c.in-Ok.ensures.stage.0 c.requires.asks.asks c.requires.stage c.set_stage.ensures
    (c.in-Ok.ensures.stage.2 disk) c.read_at.ensures.count c.read_at.ensures.one_read

pub returns-in-Err-clause-advances : goal.returns-in-Err-clause-advances
returns-in-Err-clause-advances g c =
    let v : View = view c.args.self.now in
    let image = g.R.RecordReader.image c.args.reader.now in
    subst (λ (w : View). Advances c.args.end image v w c.args.thread c.args.op c.lose-in-Err.result)
    (sym c.lose-in-Err.ensures.over)
    (subst (Advances c.args.end image v (with_call v c.args.thread _) c.args.thread c.args.op)
    (sym c.lose-in-Err.ensures.refused)
    (head_damaged c.args.end image v c.args.thread c.args.op c.args.search c.read_at.new.words (record {
      may = c.requires.asks;
      at = c.requires.stage;
      read = ok_of c.read_at.result _ c.read_at.ensures.words (sym c.is_err.ensures.value) c.if-is_err.false;
    }) c.in-Err.damaged c.in-Err.ensures.damage))

pub returns-in-Err-clause-damage : goal.returns-in-Err-clause-damage
returns-in-Err-clause-damage g c = λ damaged is.
    let v : View = view c.args.self.now in
    let image = g.R.RecordReader.image c.args.reader.now in
    subst (IsDamage image c.args.end v c.args.thread)
    (is_damaged c.lose-in-Err.result c.in-Err.damaged damaged c.lose-in-Err.ensures.refused is)
    (head_is_damage c.args.end image v c.args.thread c.args.op c.args.search c.read_at.new.words (record {
      may = c.requires.asks;
      at = c.requires.stage;
      read = ok_of c.read_at.result _ c.read_at.ensures.words (sym c.is_err.ensures.value) c.if-is_err.false;
    }) c.in-Err.damaged c.in-Err.ensures.damage)
