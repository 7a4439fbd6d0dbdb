use Rattle.std.proofs.Common.{◌+◌, subst}
use Rattle.std.proofs.lemmas.Result.{on_ok_weaker}
use Rattle.melt_space.specs.Space.{AreWords}
use Rattle.melt_copy.specs.Tracking.{goes}
use Rattle.melt_copy.proofs.Following.{slots_tracked, slots_found}
use Rattle.melt_copy.proofs.live.find_slots.Given.{Over}
use Rattle.melt_copy.proofs.live.find_slots.Goals as goal
use Rattle.melt_copy.proofs.live.find_slots.Goals.{After-words_at-slots}

are_slots : (g : Over) (c : After-words_at-slots g)
    → AreWords c.args.space.now (c.args.m.from + 2) c.args.m.shape.refs c.words_at-slots.result.now
are_slots g c = subst (λ n. AreWords c.args.space.now (c.args.m.from + 2) n c.words_at-slots.result.now) c.from.ensures
    c.words_at-slots.ensures

pub find_words-requires : goal.find_words-requires
find_words-requires g c = (
  c.requires.0,
  slots_tracked c.args.space.now c.requires.0 c.args.forwarding.now c.args.m c.words_at-slots.result.now
      (are_slots g (goal.at.find_words-requires g c).After-words_at-slots) c.requires.1,
)

pub returns-clause-finds : goal.returns-clause-finds
returns-clause-finds g c = on_ok_weaker c.find_words.result
    (λ finds s of. slots_found c.args.space.now s c.args.forwarding.now c.args.m c.words_at-slots.result.now
    (are_slots g (goal.at.returns-clause-finds g c).After-words_at-slots) of (goes c.find_words.new.forwarding) finds)
    c.find_words.ensures.finds

pub returns-clause-tracks : goal.returns-clause-tracks
returns-clause-tracks g c = λ s of. c.find_words.ensures.tracks s
    (slots_tracked c.args.space.now s c.args.forwarding.now c.args.m c.words_at-slots.result.now
    (are_slots g (goal.at.returns-clause-tracks g c).After-words_at-slots) of)
