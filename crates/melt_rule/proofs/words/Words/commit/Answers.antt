use Rattle.melt_rule.proofs.Committing.{commits_at, copied_within, seated_committed}
use Rattle.melt_rule.proofs.Forwards.{has_forward, may_unpack, probe_at, same_sent}
use Rattle.melt_rule.proofs.Standing.{at_table}
use Rattle.melt_rule.proofs.words.Words.commit.Goals as goal

pub forward_at-at-requires : goal.forward_at-at-requires
forward_at-at-requires c =
    rw (← c.requires.seat.began) (copied_within c.requires.seat.within c.requires.copied).1

pub compare_exchange-requires : goal.compare_exchange-requires
compare_exchange-requires c =
    let at = at_table c.self.inside c.self.view_is c.self.invariant c.requires.seat in
    let search = c.args.activation.search in (
      at.is_seat.same,
      has_forward c.self.inside c.self.view_is c.forward_at-at.result c.forward_at-at.ensures.within,
      commits_at _ at.is_seat.live c.requires.copied
          (probe_at c.requires.seat search c.forward_at-at.result c.forward_at-at.ensures.at) c.pack-new.ensures,
    )

pub unpack-requires : goal.unpack-requires
unpack-requires c =
    let search = c.args.activation.search in
    let place = probe_at c.requires.seat search c.forward_at-at.result c.forward_at-at.ensures.at in
    let f = c.compare_exchange.ensures.2.1 c.args.activation c.requires.copied place in
    may_unpack c.compare_exchange.result f.sent f.is

pub returns-clause-commits : goal.returns-clause-commits
returns-clause-commits c =
    let search = c.args.activation.search in
    let place = probe_at c.requires.seat search c.forward_at-at.result c.forward_at-at.ensures.at in
    let f = c.compare_exchange.ensures.2.1 c.args.activation c.requires.copied place in
    rw (← same_sent c.compare_exchange.result f.sent c.unpack.result f.is c.unpack.ensures) f.commits

pub returns-clause-seat : goal.returns-clause-seat
returns-clause-seat c =
    seated_committed c.args.activation _ c.requires.seat c.compare_exchange.ensures.0 c.compare_exchange.ensures.2.0
    (returns-clause-commits c)
