use Rattle.std.proofs.Common.{rules}
use Rattle.melt_word.specs.Words.{cost_of}
use Rattle.melt_move.proofs.Showing.{told_apart}
use Rattle.melt_move.proofs.Written.{body_lies, body_shown}
use Rattle.melt_move.proofs.bodies.write_body.Goals as goal

pub write_body-requires-clause-lies : goal.write_body-requires-clause-lies
write_body-requires-clause-lies g c = λ lifetimes outlive.
    body_lies c.args.space.now c.requires.departs.0 c.args.decision.now c.args.d c.args.disk.now.end
    c.home_of.result c.requires.departs.1 c.requires.end c.home_of.ensures

pub returns-clause-written : goal.returns-clause-written
returns-clause-written g c =
    body_shown c.write_body.result c.args.decision.now c.args.d c.encode_slots.new.slots _ _ c.requires.end
    c.home_of.ensures (search rules) c.encode_slots.ensures.encodes c.write_body.ensures.written

pub returns-clause-keeps : goal.returns-clause-keeps
returns-clause-keeps g c = record {
  tells = told_apart (g.D.StaleDisk.image c.args.disk.now.disk.now) c.home_of.result (cost_of c.args.d.shape)
      (g.D.StaleDisk.image c.write_body.new.self.disk.now) c.write_body.ensures.apart;
  count = c.write_body.ensures.count;
  read_faults = c.write_body.ensures.read_faults;
  lends = c.write_body.ensures.lends;
  limit = c.write_body.ensures.limit;
  same_disk = c.write_body.ensures.same_disk;
}
