use Rattle.std.proofs.Common.{◌≢◌, ◌∙◌, sym, subst, arith}
use Rattle.melt_word.specs.Words.{IsAddress, IsDiskHome}
use Rattle.melt_move.proofs.KeptWords.{home_there, place_there}
use Rattle.melt_move.proofs.staying.refer_to.Goals as goal

pub returns-in-0-clause-in_range : goal.returns-in-0-clause-in_range
returns-in-0-clause-in_range c =
    subst IsDiskHome (sym c.home_of.ensures)
    (home_there c.args.space.now c.requires.0 c.args.decision.now c.args.address c.requires.1
    (sym c.forwarded.ensures ∙ c.in-0.is))

pub returns-in_default-clause-in_range : goal.returns-in_default-clause-in_range
returns-in_default-clause-in_range c =
    let some : c.forwarded.result ≢ 0 = omega arith in
    subst IsAddress (sym c.forwarded.ensures)
    (place_there c.args.space.now c.requires.0 c.args.decision.now c.args.address c.requires.1
    (λ none. some (c.forwarded.ensures ∙ none)))
