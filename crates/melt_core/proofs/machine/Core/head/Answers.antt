-- The header that was read is that of the object in the register.
use Rattle.std.proofs.Common.{sym, subst}
use Rattle.melt_model.specs.declared.operations.Reply.TheVariants as reply
use Rattle.melt_core.specs.Advances.{AdvancesOver}
use Rattle.melt_core.specs.Known.{IsObjectAt}
use Rattle.melt_core.specs.declared.answer.StepResult.TheVariants.{Going, Answered}
use Rattle.melt_core.specs.Views.{View, maps, state, view}
use Rattle.melt_core.proofs.Asked.{asks_over}
use Rattle.melt_core.proofs.Reading.{head_object, head_advances, range_advances}
use Rattle.melt_core.proofs.machine.Core.head.Goals as goal

pub returns-then-not-is_within : goal.returns-then-not-is_within
returns-then-not-is_within c = record {
  over = λ disk stands.
      let asks = asks_over (view c.args.self.now) c.args.thread c.args.op c.requires.asks disk stands in
      let v : View = view c.args.self.now in
      subst (λ (w : View). AdvancesOver disk v w c.args.thread c.args.op (Answered reply.Range))
      (sym c.set_call.ensures)
      (range_advances asks c.requires.stage
      (subst (λ a. IsObjectAt (maps v) (state disk v) a c.shape-shape.result) c.register-address.ensures
      (head_object c.shape-shape.result asks c.requires.stage c.register-address.ensures c.shape-shape.ensures))
      (λ part. let within = c.is_within.ensures.1 part in cc));
}

pub returns : goal.returns
returns c = record {
  over = λ disk stands.
      let asks = asks_over (view c.args.self.now) c.args.thread c.args.op c.requires.asks disk stands in
      let v : View = view c.args.self.now in
      subst (λ (w : View). AdvancesOver disk v w c.args.thread c.args.op Going) (sym c.set_stage.ensures)
      (head_advances asks c.requires.stage c.register-address.ensures
      (head_object c.shape-shape.result asks c.requires.stage c.register-address.ensures c.shape-shape.ensures)
      (c.is_within.ensures.0 (cc)));
}
