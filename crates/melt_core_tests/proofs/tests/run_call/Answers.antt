use Rattle.std.proofs.Common.{◌≡◌, ◌∙◌, ◌≤◌, ap, length, arith}
use Rattle.std.specs.Prelude.{false}
use Rattle.melt_scion.specs.Heaps.{no_homes_on}
use Rattle.melt_core.specs.declared.answer.StepResult.TheVariants.{Going}
use Rattle.melt_core.specs.Views.{view}
use Rattle.melt_core.specs.Advances.{CallGoesOn}
use Rattle.melt_core_tests.proofs.Onward.{KeepsOthers_both, IsOver, event_over, going, going_continues, going_nearer}
use Rattle.melt_core_tests.proofs.tests.run_call.Goals as goal

pub returns-in_default : goal.returns-in_default
returns-in_default c =
    let u = view c.args.core.now in
    let v = view c.loop-events.core in
    let w = view c.advance.new.core in
    let t = c.args.thread in
    let kept = c.loop-events.invariant in
    let over : IsOver v w t =
    event_over (Unit {0}) no_homes_on w t c.args.op c.advance.result c.in_default.not-Going c.advance.ensures.outcome in
    record {
      stands = c.advance.ensures.keeps false (λ told. tt) kept.0;
      others = KeepsOthers_both u v w t kept.1 c.advance.ensures.others;
      over = over.call;
      history = let same : length v.log ≡ length u.log = ap length kept.3 in omega (arith, over.history);
    }

pub loop-events-preserved : goal.loop-events-preserved
loop-events-preserved c =
    let u = view c.args.core.now in
    let v = view c.loop-events.core in
    let w = view c.advance.new.core in
    let t = c.args.thread in
    let kept = c.loop-events.invariant in
    let is : c.advance.result ≡ Going = c.in-Going.is in
    let goes : CallGoesOn no_homes_on v w t c.args.op = going (Unit {0}) no_homes_on v w t c.args.op is
    c.advance.ensures.outcome in
    let few : length v.forward ≤ 16 = omega (arith, kept.1.forwards, c.requires.forwards) in (
      c.advance.ensures.keeps false (λ told. tt) kept.0,
      KeepsOthers_both u v w t kept.1 c.advance.ensures.others,
      going_continues no_homes_on v w t c.args.op goes,
      goes.own.history ∙ kept.3,
      omega (arith, kept.4, going_nearer no_homes_on v w t c.args.op 16 few goes),
    )
