use Rattle.std.proofs.Common.{◌≡◌, ℕ, ◌+◌, ◌≤◌, List, length, take, drop, sym, ◌∙◌, ap, subst, arith}
use Rattle.std.specs.Slots.{slots_items}
use Rattle.melt_rule.proofs.Pieces.{stretch_is}
use Rattle.melt_rule.proofs.ended.EndedWords.copy.Goals as goal

pub returns : goal.returns
returns c =
    let all : List ℕ = slots_items c.self.inside.closed.words in
    let words : List ℕ = c.loop-i.words in
    let size : length words ≡ length c.args.words.now = c.loop-i.auto.words in
    let room : c.args.from + length words ≤ length all =
    subst (λ (l : List ℕ). c.args.from + length words ≤ length l) (sym c.self.view_is)
    (let fits = c.requires in omega arith) in
    let is : words ≡ take (length words) (drop c.args.from all) =
    stretch_is words all c.args.from room
    (λ k below. c.loop-i.invariant k (let past = c.loop-i-test.false in omega arith)) in
    is
    ∙ (ap (λ (n : ℕ). take n (drop c.args.from all)) size
    ∙ ap (λ (l : List ℕ). take (length c.args.words.now) (drop c.args.from l)) c.self.view_is)
