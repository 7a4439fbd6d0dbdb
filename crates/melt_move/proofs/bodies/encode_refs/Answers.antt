use Rattle.std.proofs.Common.{ℕ, ◌^◌, ◌<◌, length, arith, subst, ◌∙◌}
use Rattle.std.specs.Prelude.{slice_index}
use Rattle.melt_record.specs.Records.{IsSlotWord}
use Rattle.melt_move.specs.Bodies.{BecomesHome}
use Rattle.melt_move.proofs.Encoding.{leaving_ref_at, one_more, rest_stays}
use Rattle.melt_move.proofs.bodies.encode_refs.Goals as goal

pub encode_slot-requires : goal.encode_slot-requires
encode_slot-requires g c = (
  c.requires.0,
  leaving_ref_at c.args.space.now c.requires.0 c.args.decision.now c.args.words.now c.loop-word.words
      c.loop-word.word-index c.requires.1 (omega arith)
      (c.loop-word.invariant.rest c.loop-word.word-index (omega arith)),
)

pub loop-word-preserved : goal.loop-word-preserved
loop-word-preserved g c =
    let n = c.loop-word.word-index in
    let below : n < length c.loop-word.words = omega (arith, c.loop-word.auto.words, c.loop-word-test.true) in
    let same = c.loop-word.invariant.rest n (omega arith) in
    record {
      slots =
          one_more (λ i w. IsSlotWord (2 ^ 32) w) c.loop-word.words n c.encode_slot.result below
          c.loop-word.invariant.slots c.encode_slot.ensures.slot;
      becomes = λ s are.
          one_more (λ i w. BecomesHome s c.args.decision.now (slice_index c.args.words.now i) w) c.loop-word.words n
          c.encode_slot.result below (c.loop-word.invariant.becomes s are)
          (subst (λ (w : ℕ). BecomesHome s c.args.decision.now w c.encode_slot.result) same
          (c.encode_slot.ensures.becomes s (leaving_ref_at c.args.space.now s c.args.decision.now c.args.words.now
          c.loop-word.words n are (omega arith) same)));
      rest = λ i after. rest_stays c.loop-word.words n c.encode_slot.result i after
          ∙ c.loop-word.invariant.rest i (omega (arith, after));
      visits = omega (arith, c.loop-word.invariant.visits, c.tick.ensures);
    }

pub returns-clause-becomes : goal.returns-clause-becomes
returns-clause-becomes g c = λ s are i below.
    c.loop-word.invariant.becomes s are i (omega (arith, below, c.loop-word-test.false))
