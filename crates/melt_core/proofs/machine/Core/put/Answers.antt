use Rattle.std.proofs.Common.{sym, subst, arith, ◌≡◌}
use Rattle.std.specs.Prelude.{None}
use Rattle.melt_model.specs.declared.operations.Reply.TheVariants as reply
use Rattle.melt_core.specs.Advances.{AdvancesOver}
use Rattle.melt_core.specs.Answering.{entry}
use Rattle.melt_core.specs.Changed.{noted, with_stage, with_call}
use Rattle.melt_core.specs.Noted.{act_named}
use Rattle.melt_core.specs.declared.parts.Deed.TheVariants.{Write}
use Rattle.melt_core.specs.declared.parts.Touched.TheVariants.{Number}
use Rattle.melt_core.specs.Events.{number_place}
use Rattle.melt_core.specs.declared.answer.StepResult.TheVariants.{Answered}
use Rattle.melt_core.specs.declared.call.Access.TheVariants.{Put}
use Rattle.melt_core.specs.declared.call.Stage.{Stage}
use Rattle.melt_core.specs.declared.call.Stage.TheVariants.{Headed}
use Rattle.melt_core.specs.Views.{View, maps, view}
use Rattle.melt_core.proofs.Noting.{headed_named}
use Rattle.melt_core.proofs.Asked.{asks_over}
use Rattle.melt_core.proofs.Staged.{staged_stage}
use Rattle.melt_core.proofs.Writing.{put_advances, written_again}
use Rattle.melt_core.proofs.machine.Core.put.Goals as goal

pub returns : goal.returns
returns c = record {
  over = λ disk stands.
      let stage : Stage = Headed c.args.cell.address c.args.cell.shape (Put c.args.cell.j c.args.number) in
      let v : View = view c.args.self.now in
      let u : View = with_stage v c.args.thread c.args.op stage in
      let asks = asks_over u c.args.thread c.args.op c.requires disk stands in
      let at = staged_stage v c.args.thread c.args.op stage asks in
      let m : View = view c.set_word.new.self in
      subst (λ (w : View). AdvancesOver disk u w c.args.thread c.args.op (Answered reply.Done)) (sym c.set_call.ensures)
      (subst (λ (n : View). AdvancesOver disk u (with_call n c.args.thread None) c.args.thread c.args.op
      (Answered reply.Done))
      (sym c.note.ensures)
      (subst (λ (x : View). AdvancesOver disk u
      (with_call (noted x (entry c.args.thread (act_named (maps x)
      (Write (Number c.args.cell.address c.args.cell.j c.args.number))))) c.args.thread None)
      c.args.thread c.args.op (Answered reply.Done)) (sym c.set_word.ensures.only)
      (subst (λ (w : View). AdvancesOver disk u w c.args.thread c.args.op (Answered reply.Done))
      (written_again v m.space v.globals c.args.thread c.args.op stage _)
      (put_advances asks at (headed_named asks at)
      (let e : _ ≡ number_place c.args.cell.address c.args.cell.shape c.args.cell.j =
      omega (arith, c.from.ensures, c.from-2.ensures) in e) c.set_word.ensures.sets))));
}
