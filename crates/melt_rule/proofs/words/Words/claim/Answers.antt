use Rattle.std.proofs.Common.{◌≡◌, ap, arith}
use Rattle.melt_rule.proofs.MayMake.{claims}
use Rattle.melt_rule.proofs.Standing.{at_table}
use Rattle.melt_rule.specs.Rule.{is_reading}
use Rattle.melt_rule.proofs.words.Words.claim.Goals as goal

pub fetch_add-found-requires : goal.fetch_add-found-requires
fetch_add-found-requires c =
    let at = at_table c.self.inside c.self.view_is c.self.invariant c.requires.seat in
    let need : c.from-need.result ≡ c.args.cost = c.from-need.ensures in
    let cost = c.requires.cost in (
      at.is_seat.same,
      omega arith,
      claims _ _ at.is_seat.live c.requires.no_cause (ap is_reading c.requires.polled)
          (let low = cost.0 in omega arith)
          (let high = cost.1 in omega arith),
    )
