use Rattle.std.proofs.Common.{◌≡◌, sym, ◌∙◌, ap, subst}
use Rattle.std.specs.Prelude.{length, Some}
use Rattle.melt_core.specs.Advances.{AdvancesOver}
use Rattle.melt_core.specs.declared.answer.StepResult.TheVariants.{Going}
use Rattle.melt_core.specs.declared.call.Activation.{Activation}
use Rattle.melt_core.specs.declared.call.Stage.{Stage}
use Rattle.melt_core.specs.declared.call.Stage.TheVariants.{Copied, Retrying}
use Rattle.melt_core.specs.declared.probing.Probe.{Probe}
use Rattle.melt_core.specs.Changed.{with_call}
use Rattle.melt_core.specs.Stages.{retried}
use Rattle.melt_core.specs.Views.{View, view}
use Rattle.melt_core.proofs.Asked.{asks_over, known_at}
use Rattle.melt_core.proofs.Searching.{after_word, few_more, not_over, retry_advances}
use Rattle.melt_core.proofs.machine.Core.retry.Goals.{in-At, in-Empty, in-Another}
use Rattle.melt_core.proofs.machine.Core.retry.Goals as goal

pub retried-requires : goal.retried-requires
retried-requires c =
    let v : View = view c.args.self.now in
    let asks = c.requires.asks.asks in
    let a : Activation = c.args.activation in
    few_more c.requires.asks.disk v a.search asks.stands
    (known_at c.requires.asks.disk v c.args.thread c.args.op (Retrying a) asks c.requires.stage).searches.probed
    (not_over a.search.tried (length v.forward) (λ all. let e = c.if-is_over.ensures.1 all in cc)) c.in-Another.ensures

pub returns : goal.returns
returns c = record {
  over = λ disk stands.
      let v : View = view c.args.self.now in
      let asks = asks_over v c.args.thread c.args.op c.requires.asks disk stands in
      let a : Activation = c.args.activation in
      let next : Probe → Stage = after_word a.search (Copied a) (Retrying (retried a)) in
      let stage : c.match-probe.stage ≡ next c.probe.result = elim c.match-probe.branch [
        | in-At w ↦ w.stage-is ∙ (w.reached-stage.ensures ∙ sym (ap next w.in-At.is))
        | in-Empty w ↦ w.stage-is ∙ sym (ap next w.in-Empty.is)
        | in-Another w ↦
            w.stage-is ∙ (ap (λ (b : Activation). Retrying b) w.retried.ensures ∙ sym (ap next w.in-Another.is))
      ] in
      subst (λ (w : View). AdvancesOver disk v w c.args.thread c.args.op Going) (sym c.set_stage.ensures)
      (subst (λ (g : Stage). AdvancesOver disk v (with_call v c.args.thread
      (Some (record { op = c.args.op; stage = g }))) c.args.thread c.args.op Going) (sym stage)
      (retry_advances disk v c.args.thread c.args.op a c.probe.result asks c.requires.stage
      (not_over a.search.tried (length v.forward) (λ all. let e = c.if-is_over.ensures.1 all in cc)) c.probe.ensures));
}
