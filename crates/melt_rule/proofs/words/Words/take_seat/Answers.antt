use Rattle.std.proofs.Common.{subst, arith, sym}
use Rattle.melt_rule.proofs.Taking.{takes, taker_seat}
use Rattle.melt_rule.proofs.Tying.{not_lacking, not_reading}
use Rattle.melt_rule.specs.Seats.{EpochWords, Sits}
use Rattle.melt_rule.proofs.words.Words.take_seat.Goals as goal

pub join_seat-requires : goal.join_seat-requires
join_seat-requires c =
    let seat = subst (λ (w : EpochWords). Sits w c.args.seat.now) (sym c.self.view_is) c.requires.seat in
    let other = subst (λ (w : EpochWords). Sits w c.args.other) (sym c.self.view_is) c.requires.other in (
      seat.same,
      other.same,
      other.none,
      (let size = c.self.invariant.words in omega arith),
      takes c.self.inside.table.shared.key c.args.seat.now.id c.args.other.id c.args.seat.now.me.0 c.args.other.me.0
          seat.live other.live
          (not_lacking c.args.seat.now.me.0.doing c.requires.goes_on)
          (not_lacking c.args.other.me.0.doing c.requires.other_goes_on)
          (not_reading c.args.other.me.0.doing c.requires.other_goes_on),
    )

pub returns-clause-seat : goal.returns-clause-seat
returns-clause-seat c =
    taker_seat c.args.self.now c.args.seat.now c.args.other c.join_seat.new.seat c.requires.seat
    c.join_seat.ensures.0
    c.join_seat.ensures.2
