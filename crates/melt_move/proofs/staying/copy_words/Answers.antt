use Rattle.melt_move.proofs.KeptWords.{words_stay}
use Rattle.melt_move.proofs.staying.copy_words.Goals as goal

pub returns-clause-stay : goal.returns-clause-stay
returns-clause-stay g c = λ s sources.
    words_stay s c.args.decision.now c.args.words.now c.args.out.items _ c.requires.empty
    c.append_words.ensures.extends (c.append_words.ensures.stay s sources)
