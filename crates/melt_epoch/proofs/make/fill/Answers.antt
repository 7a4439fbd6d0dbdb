use Rattle.std.proofs.Common.{refl, arith}
use Rattle.melt_rule.specs.Seats.{knows_of}
use Rattle.melt_epoch.proofs.Making.{fills_more, no_fills}
use Rattle.melt_epoch.proofs.make.fill.Goals as goal

pub loop-k-init : goal.loop-k-init
loop-k-init c = record {
  seat = c.requires.seat;
  fills = no_fills (knows_of c.args.seat.now) c.args.address c.requires.sound;
}

pub loop-k-preserved : goal.loop-k-preserved
loop-k-preserved c = record {
  seat = c.fill.ensures.seat;
  fills = fills_more (knows_of c.args.seat.now) (knows_of c.loop-k.seat) (knows_of c.fill.new.seat) c.args.address
      c.loop-k.k c.loop-k.invariant.fills c.fill.ensures.fills;
}

pub fill-requires : goal.fill-requires
fill-requires c =
    let z = c.requires.region.0 in
    let goes = c.loop-k.invariant.fills z c.requires.region.1 in
    let same = c.requires.region.2 in
    record {
      seat = c.loop-k.invariant.seat;
      region = (z, c.loop-k.k, goes.at, (refl, (let below = c.loop-k-test.true in omega arith)));
    }
