use Rattle.std.proofs.Common.{◌+◌, ◌<◌, ◌^◌, refl, ap, sym, ◌∙◌, arith}
use Rattle.melt_word.specs.Words.{cost_of}
use Rattle.melt_space.specs.Space.{word_at}
use Rattle.melt_disk.specs.Homes.{need_of}
use Rattle.melt_move.proofs.Needs.{need_raised, count_within}
use Rattle.melt_move.proofs.Giving.{offered_placed, offered_within, next_fits, given_more, gives_one}
use Rattle.melt_move.proofs.homes.Giving.give_missing.Goals as goal
use Rattle.melt_move.proofs.homes.Giving.give_missing.Goals.{In_ok-push}

room : (c : In_ok-push) → c.args.self.now.need + cost_of c.args.shape < 2 ^ 30
room c =
    next_fits c.args.space.now c.requires.offered.0 c.args.self.now c.args.from c.args.shape c.requires.offered.1
    c.requires.offered.2 c.requires.not_yet (sym c.word.ensures ∙ c.if-word-ne0.false)

pub word-requires : goal.word-requires
word-requires c =
    let s = c.requires.offered.0 in
    let has = c.requires.offered.1 in
    let placed = offered_placed c.args.space.now s c.args.self.now c.args.from c.args.shape has c.requires.offered.2 in
    let within = placed.within in
    let size = has.seen.size in
    record { first = omega arith; last = omega (arith, within, size) }

pub index_mut-requires : goal.index_mut-requires
index_mut-requires c =
    let within = offered_within c.args.space.now c.requires.offered.0 c.args.self.now c.args.from c.args.shape
    c.requires.offered.1 c.requires.offered.2 in
    omega (arith, within, c.args.self.now.homes.offsets.ok.0)

pub overflow_add-self : goal.overflow_add-self
overflow_add-self c = omega (arith, room c)

pub overflow_add-self-2 : goal.overflow_add-self-2
overflow_add-self-2 c =
    let placed = offered_placed c.args.space.now c.requires.offered.0 c.args.self.now c.args.from c.args.shape
    c.requires.offered.1 c.requires.offered.2 in
    let refs = placed.in_range.refs in
    let nums = placed.in_range.nums in
    let counts = c.requires.offered.1.counts in
    let need = c.requires.offered.1.need in
    let count = count_within c.args.self.now.homes.counts c.cost-need.result (omega (arith, c.cost-need.ensures))
    (omega (arith, c.cost-need.ensures, refs, nums)) in
    omega (arith, count, counts, need, room (goal.at.overflow_add-self-2 c).In_ok-push)

pub overflow_add-self-3 : goal.overflow_add-self-3
overflow_add-self-3 c = omega (arith, room (goal.at.overflow_add-self-3 c).In_ok-push, c.cost-need.ensures)

pub returns-clause-gives : goal.returns-clause-gives
returns-clause-gives c =
    let within = offered_within c.args.space.now c.requires.offered.0 c.args.self.now c.args.from c.args.shape
    c.requires.offered.1 c.requires.offered.2 in
    gives_one (word_at c.args.space.now) c.args.self.now.homes _ c.args.from c.args.self.now.need within refl refl

pub returns-clause-all : goal.returns-clause-all
returns-clause-all c = λ s has offered.
    let placed = offered_placed c.args.space.now s c.args.self.now c.args.from c.args.shape has offered in
    let refs = placed.in_range.refs in
    let nums = placed.in_range.nums in
    given_more c.args.space.now s c.args.self.now c.args.from c.args.shape has offered c.requires.not_yet
    (sym c.word.ensures ∙ c.if-word-ne0.false) _ c.in_ok-push.ensures.items refl
    (need_raised c.args.self.now.homes.counts c.cost-need.result (omega (arith, c.cost-need.ensures, refs, nums))
    ∙ ap (λ n. need_of c.args.self.now.homes.counts + n) c.cost-need.ensures)
    (ap (λ n. c.args.self.now.need + n) c.cost-need.ensures)
