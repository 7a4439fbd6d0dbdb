use Rattle.std.proofs.Common.{◌≡◌, subst, arith}
use Rattle.melt_copy.specs.Evacuating.{Evacuates}
use Rattle.melt_copy.proofs.Evacuated.{words_fit}
use Rattle.melt_copy.proofs.Growing.{more-then}
use Rattle.melt_copy.proofs.Scanning.{next_object, queue_more}
use Rattle.melt_copy.proofs.to_space.ToSpace.scan.Goals as goal

pub scan_object-done-requires : goal.scan_object-done-requires
scan_object-done-requires g c =
    let now = c.loop-done.self in
    let queue = c.loop-done.invariant.queue c.requires.0 c.requires.1 in
    (c.requires.0, next_object now queue (omega (arith, c.loop-done-test.true)))

pub loop-done-smaller : goal.loop-done-smaller
loop-done-smaller g c =
    let d = c.requires.0 in
    let now = c.loop-done.self in
    let queue = c.loop-done.invariant.queue d c.requires.1 in
    let next = next_object now queue (omega (arith, c.loop-done-test.true)) in
    let scans = c.scan_object-done.ensures.scans d next in
    omega (
      arith,
      words_fit now queue.evacuates,
      queue.evacuates.free,
      c.requires.1.evacuates.free,
      scans.next_is,
      c.loop-done-test.true,
    )

pub loop-done-preserved : goal.loop-done-preserved
loop-done-preserved g c = record {
  more =
      more-then c.args.self.now.moves c.loop-done.self.moves c.scan_object-done.new.self.moves
      c.loop-done.invariant.more c.scan_object-done.ensures.more;
  queue = λ d before.
      let now = c.loop-done.self in
      let queue = c.loop-done.invariant.queue d before in
      let next = next_object now queue (omega (arith, c.loop-done-test.true)) in
      queue_more now queue next c.scan_object-done.new.self (c.scan_object-done.ensures.scans d next)
      c.scan_object-done.ensures.more;
  visits = omega (
    arith,
    c.loop-done.invariant.visits,
    c.scan_object-done.ensures.visits,
    c.tick.ensures,
  );
}

pub returns-clause-evacuates : goal.returns-clause-evacuates
returns-clause-evacuates g c = λ d before.
    let now = c.loop-done.self in
    let queue = c.loop-done.invariant.queue d before in
    let within = queue.evacuates.within in
    let all : c.loop-done.done ≡ now.next =
    omega (arith, within, c.loop-done-test.false) in
    subst (Evacuates d c.loop-done.space now) all queue.evacuates

pub returns-clause-visits : goal.returns-clause-visits
returns-clause-visits g c =
    let within = (c.loop-done.invariant.queue c.requires.0 c.requires.1).evacuates.within in
    omega (arith, within, c.loop-done.invariant.visits)
