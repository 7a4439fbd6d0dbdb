use Rattle.std.proofs.Common.{◌≡◌, ◌<◌, ◌≤◌, length, get_or, refl, arith, rules}
use Rattle.melt_model_tests.proofs.OneAnswer.{answered_drop, unasked}
use Rattle.melt_model.specs.Thread.{Thread, Deed, deed}
use Rattle.melt_model_tests.specs.Plain.{deed_of}
use Rattle.melt_model.specs.declared.operations.Reply.TheVariants.{Done}
use Rattle.melt_model_tests.proofs.plain.is_transcript.Goals as goal

pub returns-in_default : goal.returns-in_default
returns-in_default c =
    let past : length c.args.ops.now ≤ c.loop-k.k = c.in_default.ensures.lookup.3 in (
      λ yes. absurd (cc),
      λ transcript. absurd (unasked c.args.history.now _ c.args.ops.now c.args.replies.now c.loop-k.k Done past
          (omega arith) (c.loop-k.invariant.0 transcript)),
    )

pub loop-k-preserved : goal.loop-k-preserved
loop-k-preserved c =
    let a : Thread = record { registers = c.loop-k.registers; places = c.loop-k.left.now } in
    let d : Deed = deed_of c.does-deed.result in
    let is : d ≡ deed c.args.history.now a c.in-Some.op.now = cc in
    let told : d.reply ≡ get_or c.args.replies.now c.loop-k.k Done = search rules in
    let below : c.loop-k.k < length c.args.ops.now = c.in-Some.ensures.lookup.3.0 in
    let takes = c.if-not-takes.ensures in
    let step = answered_drop c.args.history.now a c.args.ops.now c.args.replies.now c.loop-k.k Done below
    c.loop-k-test.true c.in-Some.ensures.lookup.1 is told (takes.0 refl) c.places_left-left.ensures in
    (λ transcript. step.0 (c.loop-k.invariant.0 transcript), λ answered. c.loop-k.invariant.1 (step.1 answered))
