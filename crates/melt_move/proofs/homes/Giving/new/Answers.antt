use Rattle.std.proofs.Common.{◌∙◌, ◌+◌, ℕ, replicate, refl, ap}
use Rattle.melt_move.proofs.Giving.{given_start}
use Rattle.melt_move.proofs.homes.Giving.new.Goals as goal

pub returns-clause-all : goal.returns-clause-all
returns-clause-all c = λ s seen.
    given_start c.args.space.now s _ seen (c.in_ok-vec.ensures.items_if_clones_equal (λ y is. is)
    ∙ ap (λ (n : ℕ). replicate (n + 1) 0) c.used.ensures.value) c.new.ensures.items refl refl
