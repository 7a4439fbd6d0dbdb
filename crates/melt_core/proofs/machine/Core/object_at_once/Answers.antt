-- The events are those of `poll_object` and `head`, which write nothing here.
use Rattle.std.proofs.Common.{rules, sym, ◌∙◌}
use Rattle.melt_core.specs.Changed.{with_stage}
use Rattle.melt_core.specs.Views.{View, view}
use Rattle.melt_core.specs.declared.call.Stage.TheVariants.{Headed, Polled}
use Rattle.melt_core.specs.declared.call.Task.TheVariants.{Use}
use Rattle.melt_core.specs.declared.answer.StepResult.TheVariants.{Answered}
use Rattle.melt_model.specs.declared.operations.Reply.TheVariants as reply
use Rattle.melt_core.proofs.Answered.{nil_advances}
use Rattle.melt_core.proofs.Asked.{asks_over}
use Rattle.melt_core.proofs.AtOnce.{MayMakeNextEvent, heads, one_event, polls, ranges}
use Rattle.melt_core.proofs.machine.Core.object_at_once.Goals as goal
use Rattle.melt_core.proofs.machine.Core.object_at_once.Goals.{Else-self, Then-is_within}

pub returns-then-address-eq0-clause-answers : goal.returns-then-address-eq0-clause-answers
returns-then-address-eq0-clause-answers c =
    let v : View = view c.args.self.now in
    one_event v v c.args.thread c.args.op (Answered reply.Nil) (record {
      over = λ disk stands.
          nil_advances disk v c.args.thread c.args.op c.args.r c.args.access
          (asks_over v c.args.thread c.args.op c.requires.asks disk stands) c.requires.first c.requires.task
          (sym c.register-address.ensures ∙ c.if-address-eq0.true);
    })

-- after the first event
polled : (c : Else-self) → MayMakeNextEvent (view c.args.self.now)
    (with_stage (view c.args.self.now) c.args.thread c.args.op (Polled (Use c.args.r c.args.access))) c.args.thread c.args.op
polled c =
    polls (Use c.args.r c.args.access) c.requires.asks c.requires.first
    (c.requires.task, λ none. c.if-address-eq0.false (c.register-address.ensures ∙ none)) (search rules)

-- after the second
headed : (c : Then-is_within) → MayMakeNextEvent (view c.args.self.now) (with_stage (view c.args.self.now) c.args.thread
    c.args.op
    (Headed c.register-address.result c.shape-shape.result c.args.access)) c.args.thread c.args.op
headed c =
    heads c.args.r c.args.access c.shape-shape.result (polled (goal.at.Then-is_within c).Else-self)
    c.register-address.ensures c.shape-shape.ensures (c.is_within.ensures.0 (cc))

pub returns-then-is_within-clause-goes : goal.returns-then-is_within-clause-goes
returns-then-is_within-clause-goes c = (headed (goal.at.returns-then-is_within-clause-goes c).Then-is_within).on

pub returns-then-is_within-clause-may : goal.returns-then-is_within-clause-may
returns-then-is_within-clause-may c = (headed (goal.at.returns-then-is_within-clause-may c).Then-is_within).may

pub returns-else-is_within-clause-answers : goal.returns-else-is_within-clause-answers
returns-else-is_within-clause-answers c =
    ranges c.args.r c.args.access c.shape-shape.result
    (polled (goal.at.returns-else-is_within-clause-answers c).Else-self) c.requires.first c.register-address.ensures
    c.shape-shape.ensures (λ part. let within = c.is_within.ensures.1 part in cc)
