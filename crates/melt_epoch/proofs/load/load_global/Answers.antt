use Rattle.std.proofs.Common.{◌+◌, ◌*◌, inl, refl, arith}
use Rattle.melt_model.specs.declared.history.Slot.TheVariants as slot
use Rattle.melt_core.specs.declared.call.Place.TheVariants as place
use Rattle.melt_rule.specs.Seats.{knows_of}
use Rattle.melt_epoch.proofs.Following.{idle_way, reach_way}
use Rattle.melt_epoch.proofs.Loading.{asked_load, found_before, global_loads, resolved_idle}
use Rattle.melt_epoch.proofs.Plainly.{asked_idle}
use Rattle.melt_epoch.proofs.load.load_global.Goals as goal

pub returns-then-poll-clause-seat : goal.returns-then-poll-clause-seat
returns-then-poll-clause-seat g c =
    asked_idle c.args.words.now (knows_of c.args.seat.now) c.poll.new.seat c.if-poll.ensures.seat
    c.if-poll.ensures.polls

pub returns-then-poll-clause-loads : goal.returns-then-poll-clause-loads
returns-then-poll-clause-loads g c =
    inl (asked_load (knows_of c.args.seat.now) (knows_of c.poll.new.seat)
    (2 * c.args.words.now.start.began.forwards + 133) (omega arith) c.if-poll.ensures.polls)

pub resolve-requires-clause-within : goal.resolve-requires-clause-within
resolve-requires-clause-within g c =
    found_before (knows_of c.poll.new.seat) (slot.Global c.args.g) (place.Global c.args.g) c.load_global-found.result
    c.requires.fits c.load_global-found.ensures.seat c.load_global-found.ensures.looks

pub returns-clause-seat : goal.returns-clause-seat
returns-clause-seat g c =
    resolved_idle c.args.words.now (knows_of c.poll.new.seat) c.resolve.new.seat (slot.Global c.args.g)
    (2 * c.args.words.now.start.began.forwards + 132) c.resolve.ensures.seat c.resolve.ensures.own
    c.args.words.now.start.began.told (g.R.RecordReader.image c.args.reader.now) c.args.heap.now.scions c.args.end
    (g.R.RecordReader.faults c.args.reader.now) (g.R.RecordReader.faults c.resolve.new.reader) c.resolve.result
    (c.resolve.ensures.resolves (knows_of c.poll.new.seat) (slot.Global c.args.g) refl
    c.load_global-found.ensures.looks)

pub returns-clause-loads : goal.returns-clause-loads
returns-clause-loads g c =
    let v = knows_of c.args.seat.now in
    let u = knows_of c.poll.new.seat in
    global_loads c.args.words.now.start.began.told (g.R.RecordReader.image c.args.reader.now) c.args.heap.now.scions
    c.args.end (g.R.RecordReader.faults c.args.reader.now) (g.R.RecordReader.faults c.resolve.new.reader)
    (knows_of c.resolve.new.seat) c.args.g (2 * c.args.words.now.start.began.forwards + 132) c.resolve.result
    (omega arith) (reach_way (idle_way v c.requires.seat.sound) c.if-poll.ensures.polls.0)
    (c.resolve.ensures.resolves u (slot.Global c.args.g) refl c.load_global-found.ensures.looks)
