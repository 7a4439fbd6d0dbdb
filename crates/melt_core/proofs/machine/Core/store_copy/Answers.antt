use Rattle.std.proofs.Common.{sym, subst, arith, ◌≡◌, ◌+◌, ◌<◌}
use Rattle.std.specs.Prelude.{Some}
use Rattle.melt_word.specs.Words.{cost_of}
use Rattle.melt_core.specs.Advances.{AdvancesOver}
use Rattle.melt_core.specs.Changed.{with_call}
use Rattle.melt_core.specs.declared.answer.StepResult.TheVariants.{Going}
use Rattle.melt_core.specs.declared.call.Stage.{Stage}
use Rattle.melt_core.specs.declared.call.Stage.TheVariants.{Copied, Copying}
use Rattle.melt_core.specs.declared.machine.Core.{Core}
use Rattle.melt_core.specs.Views.{View, call_of, view}
use Rattle.melt_core.proofs.Asked.{asks_over, call_at}
use Rattle.melt_core.proofs.Bodies.{copying_known, copy_header_advances, copy_word_advances}
use Rattle.melt_core.proofs.machine.Core.store_copy.Goals.{then-next-cost, else-next-cost}
use Rattle.melt_core.proofs.machine.Core.store_copy.Goals as goal

pub set_stage-requires-clause-call : goal.set_stage-requires-clause-call
set_stage-requires-clause-call c =
    let disk = c.requires.asks.disk in
    let stage : Stage = Copying c.args.activation c.args.stored in
    let call = call_at disk (view c.args.self.now) c.args.thread c.args.op stage c.requires.asks.asks
    c.requires.stage in (
      stage,
      elim c.if-next-cost.branch [
        | then-next-cost w ↦
            subst (λ (x : Core). call_of (view x) c.args.thread ≡ Some (record { op = c.args.op; stage = stage }))
            (sym w.self-is)
            (subst (λ (m : View). call_of m c.args.thread ≡ Some (record { op = c.args.op; stage = stage }))
            (sym w.set_word.ensures.only) call)
        | else-next-cost w ↦
            subst (λ (x : Core). call_of (view x) c.args.thread ≡ Some (record { op = c.args.op; stage = stage }))
            (sym w.self-is)
            (subst (λ (m : View). call_of m c.args.thread ≡ Some (record { op = c.args.op; stage = stage }))
            (sym w.set_word-else-next-cost.ensures.only) call)
      ],
    )

pub returns : goal.returns
returns c = record {
  over = λ disk stands.
      let asks = asks_over (view c.args.self.now) c.args.thread c.args.op c.requires.asks disk stands in
      let v : View = view c.args.self.now in
      let known = copying_known disk v c.args.thread c.args.op c.args.activation c.args.stored asks c.requires.stage in
      let stored : (core : Core) (stage next : Stage) → stage ≡ next
      → view core ≡ record v { space = (view core).space }
      → AdvancesOver disk v (with_call (record v { space = (view core).space }) c.args.thread
      (Some (record { op = c.args.op; stage = next }))) c.args.thread c.args.op Going
      → AdvancesOver disk v (with_call (view core) c.args.thread
      (Some (record { op = c.args.op; stage = stage }))) c.args.thread c.args.op Going =
      λ core stage next is only advances. subst (λ (m : View). AdvancesOver disk v (with_call m c.args.thread
      (Some (record { op = c.args.op; stage = stage }))) c.args.thread c.args.op Going) (sym only)
      (subst (λ (g : Stage). AdvancesOver disk v (with_call (record v { space = (view core).space })
      c.args.thread (Some (record { op = c.args.op; stage = g }))) c.args.thread c.args.op Going) (sym is) advances) in
      subst (λ (w : View). AdvancesOver disk v w c.args.thread c.args.op Going) (sym c.set_stage.ensures)
      (elim c.if-next-cost.branch [
        | then-next-cost w ↦
            subst (λ (x : Core). AdvancesOver disk v (with_call (view x) c.args.thread
            (Some (record { op = c.args.op; stage = c.if-next-cost.stage }))) c.args.thread c.args.op Going)
            (sym w.self-is)
            (stored w.set_word.new.self c.if-next-cost.stage (Copying c.args.activation (c.args.stored + 1)) w.stage-is w.set_word.ensures.only
            (copy_word_advances asks c.requires.stage (omega (arith, w.if-next-cost.true, c.cost.ensures))
            w.word_of_copy-word.ensures w.set_word.ensures.sets))
        | else-next-cost w ↦
            subst (λ (x : Core). AdvancesOver disk v (with_call (view x) c.args.thread
            (Some (record { op = c.args.op; stage = c.if-next-cost.stage }))) c.args.thread c.args.op Going)
            (sym w.self-is)
            (stored w.set_word-else-next-cost.new.self c.if-next-cost.stage (Copied c.args.activation) w.stage-is
            w.set_word-else-next-cost.ensures.only
            (copy_header_advances asks c.requires.stage
            (let few : c.args.stored < cost_of c.args.activation.shape = known.1.few in
            omega (arith, w.if-next-cost.false, c.cost.ensures)) w.encode_header.ensures
            w.set_word-else-next-cost.ensures.sets))
      ]);
}
