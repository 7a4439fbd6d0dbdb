use Rattle.std.proofs.Common.{◌≡◌, ℕ, sym, ◌∙◌, ap, subst}
use Rattle.std.specs.Prelude.{Some}
use Rattle.melt_model.specs.declared.operations.Op.{Op}
use Rattle.melt_core.specs.Advances.{AdvancesOver}
use Rattle.melt_core.specs.Changed.{with_call}
use Rattle.melt_core.specs.Stages.{reached, retried}
use Rattle.melt_core.specs.Views.{View, call_of, view}
use Rattle.melt_core.specs.declared.answer.StepResult.TheVariants.{Going}
use Rattle.melt_core.specs.declared.call.Activation.{Activation}
use Rattle.melt_core.specs.declared.call.Stage.{Stage}
use Rattle.melt_core.specs.declared.call.Stage.TheVariants.{Copied, Retrying}
use Rattle.melt_core.specs.declared.machine.Core.{Core}
use Rattle.melt_core.proofs.Asked.{asks_over, call_at}
use Rattle.melt_core.proofs.Entered.{IsCopied, commit_advances, copied_few, copied_probes, lost_advances}
use Rattle.melt_core.proofs.Entered.{taken_advances}
use Rattle.melt_core.proofs.machine.Core.commit.Goals.{in-Empty, in-At, in-Another}
use Rattle.melt_core.proofs.machine.Core.commit.Goals as goal

pub probe-requires : goal.probe-requires
probe-requires c = copied_probes c.requires.asks c.requires.stage

pub enter-requires-clause-probed : goal.enter-requires-clause-probed
enter-requires-clause-probed c = copied_probes c.requires.asks c.requires.stage

pub retried-requires : goal.retried-requires
retried-requires c = copied_few c.requires.asks c.requires.stage c.in-Another.ensures

pub set_stage-requires-clause-call : goal.set_stage-requires-clause-call
set_stage-requires-clause-call c =
    let v : View = view c.args.self.now in
    let stage : Stage = Copied c.args.activation in
    let before : call_of v c.args.thread ≡ Some (record { op = c.args.op; stage = stage }) =
    call_at c.requires.asks.disk v c.args.thread c.args.op stage c.requires.asks.asks c.requires.stage in
    let same : call_of (view c.match-probe.self) c.args.thread ≡ call_of v c.args.thread = elim c.match-probe.branch [
      | in-Empty w ↦
          ap (λ (core : Core). call_of (view core) c.args.thread) w.self-is
          ∙ ap (λ (x : View). call_of x c.args.thread) w.enter.ensures.only
      | in-At w ↦ ap (λ (core : Core). call_of (view core) c.args.thread) w.self-is
      | in-Another w ↦ ap (λ (core : Core). call_of (view core) c.args.thread) w.self-is
    ] in (stage, same ∙ before)

-- an event is over the core and with the stage that the branch says
advances_as : (advances : View → Stage → Type 0) (core same : Core) (stage next : Stage) → core ≡ same
    → stage ≡ next → advances (view same) next → advances (view core) stage
advances_as advances core same stage next core_is stage_is is =
    subst (λ (x : Core). advances (view x) stage) (sym core_is)
    (subst (advances (view same)) (sym stage_is) is)

pub returns : goal.returns
returns c = record {
  over = λ disk stands.
      let v : View = view c.args.self.now in
      let t : ℕ = c.args.thread in
      let o : Op = c.args.op in
      let a : Activation = c.args.activation in
      let is : IsCopied disk v t o a =
      record { asks = asks_over v t o c.requires.asks disk stands; at = c.requires.stage } in
      let advances : View → Stage → Type 0 =
      λ x g. AdvancesOver disk v (with_call x t (Some (record { op = o; stage = g }))) t o Going in
      let after : advances (view c.match-probe.self) c.match-probe.stage = elim c.match-probe.branch [
        | in-Empty w ↦
            advances_as advances c.match-probe.self w.enter.new.self c.match-probe.stage (reached a.search a.address)
            w.self-is (w.stage-is ∙ w.reached-stage.ensures)
            (commit_advances disk is w.in-Empty.ensures w.enter.ensures)
        | in-At w ↦
            advances_as advances c.match-probe.self c.args.self.now c.match-probe.stage
            (reached a.search w.in-At.winner) w.self-is (w.stage-is ∙ w.reached-stage-in-At.ensures)
            (lost_advances disk w.in-At.winner is w.in-At.ensures)
        | in-Another w ↦
            advances_as advances c.match-probe.self c.args.self.now c.match-probe.stage (Retrying (retried a)) w.self-is
            (w.stage-is ∙ ap (λ (b : Activation). Retrying b) w.retried.ensures)
            (taken_advances disk is w.in-Another.ensures)
      ] in
      subst (λ (w : View). AdvancesOver disk v w t o Going) (sym c.set_stage.ensures) after;
}
