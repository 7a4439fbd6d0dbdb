use Rattle.std.proofs.Common.{arith}
use Rattle.melt_rule.proofs.Giving.{gives, giver_seat, given_seat}
use Rattle.melt_rule.proofs.Standing.{at_table}
use Rattle.melt_rule.proofs.words.Words.give_seat.Goals as goal

pub split_seat-requires : goal.split_seat-requires
split_seat-requires c =
    let at = at_table c.self.inside c.self.view_is c.self.invariant c.requires.seat in (
      at.is_seat.same,
      omega arith,
      gives c.self.inside.table.shared.key c.args.seat.now.id c.args.seat.now.me.0 c.requires.away c.requires.parts
          c.requires.room,
    )

pub returns-clause-seat : goal.returns-clause-seat
returns-clause-seat c =
    giver_seat c.args.self.now c.args.seat.now c.split_seat.new.seat c.requires.seat c.requires.parts
    c.split_seat.ensures.0
    c.split_seat.ensures.2

pub returns-clause-given_seat : goal.returns-clause-given_seat
returns-clause-given_seat c =
    given_seat c.args.self.now c.args.seat.now c.split_seat.result c.requires.seat c.split_seat.ensures.3
    c.split_seat.ensures.4
