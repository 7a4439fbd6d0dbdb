use Rattle.melt_rule.proofs.Forwards.{has_forward, may_unpack, probe_at, probed_as, seated_probed}
use Rattle.melt_rule.proofs.Probing.{probes_at}
use Rattle.melt_rule.proofs.Standing.{at_table}
use Rattle.melt_rule.proofs.words.Words.probe.Goals as goal

pub load-requires : goal.load-requires
load-requires c =
    let at = at_table c.self.inside c.self.view_is c.self.invariant c.requires.seat in (
      at.is_seat.same,
      has_forward c.self.inside c.self.view_is c.forward_at-at.result c.forward_at-at.ensures.within,
      probes_at _ at.is_seat.live c.requires.searching (rw c.requires.seat.began c.requires.more)
          (probe_at c.requires.seat c.args.search c.forward_at-at.result c.forward_at-at.ensures.at),
    )

pub unpack-requires : goal.unpack-requires
unpack-requires c =
    let place = probe_at c.requires.seat c.args.search c.forward_at-at.result c.forward_at-at.ensures.at in
    let f = c.load.ensures.2.1 c.args.search c.requires.searching place in
    may_unpack c.load.result f.sent f.is

pub returns-clause-probes : goal.returns-clause-probes
returns-clause-probes c =
    let place = probe_at c.requires.seat c.args.search c.forward_at-at.result c.forward_at-at.ensures.at in
    let f = c.load.ensures.2.1 c.args.search c.requires.searching place in
    probed_as c.unpack.result f c.unpack.ensures

pub returns-clause-seat : goal.returns-clause-seat
returns-clause-seat c =
    seated_probed c.args.search _ _ _ c.requires.seat c.load.ensures.0 c.load.ensures.2.0 (returns-clause-probes c)
