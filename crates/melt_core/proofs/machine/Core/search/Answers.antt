use Rattle.std.proofs.Common.{◌≡◌, sym, ◌∙◌, ap, subst}
use Rattle.std.specs.Prelude.{length, Some}
use Rattle.melt_core.specs.Advances.{AdvancesOver}
use Rattle.melt_core.specs.declared.answer.StepResult.TheVariants.{Going}
use Rattle.melt_core.specs.declared.call.Search.{Search}
use Rattle.melt_core.specs.declared.call.Stage.{Stage}
use Rattle.melt_core.specs.declared.call.Stage.TheVariants.{Missed, Searching}
use Rattle.melt_core.specs.declared.probing.Probe.{Probe}
use Rattle.melt_core.specs.Changed.{with_call}
use Rattle.melt_core.specs.Stages.{further}
use Rattle.melt_core.specs.Views.{View, view}
use Rattle.melt_core.proofs.Asked.{asks_over, known_at}
use Rattle.melt_core.proofs.Searching.{after_word, few_more, not_over, search_advances}
use Rattle.melt_core.proofs.machine.Core.search.Goals.{in-At, in-Empty, in-Another}
use Rattle.melt_core.proofs.machine.Core.search.Goals as goal

pub further-requires : goal.further-requires
further-requires c =
    let v : View = view c.args.self.now in
    let asks = c.requires.asks.asks in
    few_more c.requires.asks.disk v c.args.search asks.stands
    (known_at c.requires.asks.disk v c.args.thread c.args.op (Searching c.args.search) asks c.requires.stage).probed
    (not_over c.args.search.tried (length v.forward) (λ all. let e = c.if-is_over.ensures.1 all in cc))
    c.in-Another.ensures

pub returns : goal.returns
returns c = record {
  over = λ disk stands.
      let v : View = view c.args.self.now in
      let asks = asks_over v c.args.thread c.args.op c.requires.asks disk stands in
      let next : Probe → Stage = after_word c.args.search (Missed c.args.search) (Searching (further c.args.search)) in
      let stage : c.match-probe.stage ≡ next c.probe.result = elim c.match-probe.branch [
        | in-At w ↦ w.stage-is ∙ (w.reached-stage.ensures ∙ sym (ap next w.in-At.is))
        | in-Empty w ↦ w.stage-is ∙ sym (ap next w.in-Empty.is)
        | in-Another w ↦
            w.stage-is ∙ (ap (λ (s : Search). Searching s) w.further.ensures ∙ sym (ap next w.in-Another.is))
      ] in
      subst (λ (w : View). AdvancesOver disk v w c.args.thread c.args.op Going) (sym c.set_stage.ensures)
      (subst (λ (g : Stage). AdvancesOver disk v (with_call v c.args.thread
      (Some (record { op = c.args.op; stage = g }))) c.args.thread c.args.op Going) (sym stage)
      (search_advances disk v c.args.thread c.args.op c.args.search c.probe.result asks c.requires.stage
      (not_over c.args.search.tried (length v.forward) (λ all. let e = c.if-is_over.ensures.1 all in cc))
      c.probe.ensures));
}
