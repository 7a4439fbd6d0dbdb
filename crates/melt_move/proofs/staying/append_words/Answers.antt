use Rattle.std.proofs.Common.{arith}
use Rattle.melt_copy.proofs.Growth.{Extends-push}
use Rattle.melt_move.specs.Staying.{StaysAs}
use Rattle.melt_move.proofs.KeptWords.{source_at, related_push}
use Rattle.melt_move.proofs.staying.append_words.Goals as goal

pub stays_as-requires : goal.stays_as-requires
stays_as-requires g c = (
  c.requires.sources.0,
  source_at c.args.space.now c.requires.sources.0 c.args.decision.now c.args.words.now c.loop-word.word-index c.requires.sources.1
      (omega arith),
)

pub push_reserved-requires : goal.push_reserved-requires
push_reserved-requires g c =
    let extends = c.loop-word.invariant.extends.size in
    omega (arith, extends, c.loop-word.invariant.capacity, c.requires.capacity, c.loop-word.out.ok.0)

pub loop-word-preserved : goal.loop-word-preserved
loop-word-preserved g c = record {
  extends =
      Extends-push c.args.out.now.items c.loop-word.out.items _ c.loop-word.word-index _ c.loop-word.invariant.extends
      c.push_reserved.ensures.items;
  capacity = omega (arith, c.push_reserved.ensures.capacity, c.loop-word.invariant.capacity);
  stay = λ s sources.
      related_push (StaysAs s c.args.decision.now) c.args.words.now _ c.loop-word.invariant.extends
      c.push_reserved.ensures.items (c.loop-word.invariant.stay s sources)
      (c.stays_as.ensures s (source_at c.args.space.now s c.args.decision.now c.args.words.now c.loop-word.word-index
      sources (omega arith)));
  visits = omega (arith, c.loop-word.invariant.visits, c.tick.ensures);
}

pub returns-clause-stay : goal.returns-clause-stay
returns-clause-stay g c = λ s sources i below.
    c.loop-word.invariant.stay s sources i (omega (arith, below))
