use Rattle.std.proofs.Common.{arith}
use Rattle.melt_copy.proofs.Growth.{may_find_word, word_tracked, Grows-more}
use Rattle.melt_copy.proofs.Following.{words_more}
use Rattle.melt_copy.proofs.live.find_words.Goals as goal

pub find_word-requires : goal.find_word-requires
find_word-requires g c =
    may_find_word c.args.space.now c.args.forwarding.now c.loop-word.forwarding c.args.words.now c.loop-word.word-index
    c.loop-word.invariant.tracks (omega arith) c.requires

pub returns-in_err-find_word-clause-tracks : goal.returns-in_err-find_word-clause-tracks
returns-in_err-find_word-clause-tracks g c =
    word_tracked c.args.space.now c.args.forwarding.now c.loop-word.forwarding c.args.words.now c.loop-word.word-index
    c.loop-word.invariant.tracks (omega arith) c.find_word.new.self c.find_word.ensures.tracks

pub loop-word-preserved : goal.loop-word-preserved
loop-word-preserved g c = record {
  finds = words_more c.loop-word.forwarding c.find_word.new.self c.args.words.now c.loop-word.word-index
      c.find_word.ensures.grows c.loop-word.invariant.finds c.in_ok-find_word.ensures.found;
  grows = Grows-more c.args.forwarding.now c.loop-word.forwarding c.find_word.new.self c.loop-word.invariant.grows
      c.find_word.ensures.grows;
  tracks = word_tracked c.args.space.now c.args.forwarding.now c.loop-word.forwarding c.args.words.now
      c.loop-word.word-index c.loop-word.invariant.tracks (omega arith) c.find_word.new.self c.find_word.ensures.tracks;
  visits = omega (arith, c.loop-word.invariant.visits, c.tick.ensures);
}

pub returns-clause-finds : goal.returns-clause-finds
returns-clause-finds g c = λ i address below refers. c.loop-word.invariant.finds i address (omega arith) refers
