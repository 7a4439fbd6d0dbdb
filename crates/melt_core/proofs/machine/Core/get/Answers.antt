use Rattle.std.proofs.Common.{sym, ◌∙◌, ap, subst, arith, ◌≡◌}
use Rattle.std.specs.Prelude.{None}
use Rattle.melt_model.specs.declared.operations.Reply.TheVariants as reply
use Rattle.melt_space.specs.Space.{word_at}
use Rattle.melt_core.specs.Advances.{AdvancesOver}
use Rattle.melt_core.specs.Changed.{with_stage, with_call}
use Rattle.melt_core.specs.Events.{number_place}
use Rattle.melt_core.specs.declared.answer.StepResult.TheVariants.{Answered}
use Rattle.melt_core.specs.declared.call.Access.TheVariants.{Get}
use Rattle.melt_core.specs.declared.call.Stage.{Stage}
use Rattle.melt_core.specs.declared.call.Stage.TheVariants.{Headed}
use Rattle.melt_core.specs.Views.{View, view}
use Rattle.melt_core.proofs.Asked.{asks_over}
use Rattle.melt_core.proofs.Noting.{headed_named}
use Rattle.melt_core.proofs.Reading.{get_advances}
use Rattle.melt_core.proofs.Staged.{noted_again, staged_stage}
use Rattle.melt_core.proofs.machine.Core.get.Goals as goal

pub returns : goal.returns
returns c = record {
  over = λ disk stands.
      let stage : Stage = Headed c.args.cell.address c.args.cell.shape (Get c.args.cell.j) in
      let v : View = view c.args.self.now in
      let u : View = with_stage v c.args.thread c.args.op stage in
      let asks = asks_over u c.args.thread c.args.op c.requires disk stands in
      let at = staged_stage v c.args.thread c.args.op stage asks in
      subst (λ (w : View). AdvancesOver disk u w c.args.thread c.args.op (Answered (reply.Num c.word-number.result)))
      (sym c.set_call.ensures)
      (subst (λ (m : View). AdvancesOver disk u (with_call m c.args.thread None) c.args.thread c.args.op
      (Answered (reply.Num c.word-number.result))) (sym c.note.ensures)
      (subst (λ (w : View). AdvancesOver disk u w c.args.thread c.args.op
      (Answered (reply.Num c.word-number.result))) (noted_again v c.args.thread c.args.op stage _)
      (get_advances asks at (headed_named asks at) (c.word-number.ensures ∙ ap (word_at v.space)
      (let e : _ ≡ number_place c.args.cell.address c.args.cell.shape c.args.cell.j =
      omega (arith, c.from.ensures, c.from-2.ensures) in e)))));
}
