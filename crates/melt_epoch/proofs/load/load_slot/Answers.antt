use Rattle.std.proofs.Common.{◌+◌, ◌*◌, Ok, Err, inl, inr, refl, arith}
use Rattle.std.proofs.lemmas.Result.{err_from_is_err_and}
use Rattle.melt_model.specs.declared.history.Slot.TheVariants as slot
use Rattle.melt_model.specs.declared.history.Value.{Value}
use Rattle.melt_core.specs.declared.call.Place.TheVariants as place
use Rattle.melt_rule.specs.Seats.{knows_of}
use Rattle.melt_rule.specs.Tells.{Names}
use Rattle.melt_epoch.proofs.Loading.{asked_load, found_before, no_slot, resolved_idle, slot_cause, slot_loads}
use Rattle.melt_epoch.proofs.Loading.{slot_refused}
use Rattle.melt_epoch.proofs.Plainly.{Opened, asked_idle, held_nothing, held_object, opened, opened_idle, opened_speaks}
use Rattle.melt_epoch.proofs.load.load_slot.Given.{Over}
use Rattle.melt_epoch.proofs.load.load_slot.Goals as goal
use Rattle.melt_epoch.proofs.load.load_slot.Goals.{After-load_header-shape}

-- the object whose header was loaded
header : (g : Over) (c : After-load_header-shape g) (value : Value)
    → Names (knows_of c.args.seat.now).known c.args.address value
    → Opened (knows_of c.args.seat.now) (knows_of c.poll.new.seat) (knows_of c.load_header-shape.new.seat)
    c.args.address c.load_header-shape.result value
header g c value names =
    opened (knows_of c.poll.new.seat) (knows_of c.load_header-shape.new.seat) c.args.address c.load_header-shape.result
    value c.requires.seat names c.if-address-eq0.false c.if-poll.ensures.polls c.load_header-shape.ensures.heads

some_header : (g : Over) (c : After-load_header-shape g)
    → Opened (knows_of c.args.seat.now) (knows_of c.poll.new.seat) (knows_of c.load_header-shape.new.seat)
    c.args.address c.load_header-shape.result c.requires.held.0
some_header g c = header g c c.requires.held.0 c.requires.held.1

pub returns-then-address-eq0-clause-loads : goal.returns-then-address-eq0-clause-loads
returns-then-address-eq0-clause-loads g c = λ value names. (
  held_nothing c.args.words.now c.args.seat.now c.args.address value c.requires.seat names c.if-address-eq0.true,
  refl,
)

pub returns-then-poll-clause-seat : goal.returns-then-poll-clause-seat
returns-then-poll-clause-seat g c =
    asked_idle c.args.words.now (knows_of c.args.seat.now) c.poll.new.seat c.if-poll.ensures.seat
    c.if-poll.ensures.polls

pub returns-then-poll-clause-loads : goal.returns-then-poll-clause-loads
returns-then-poll-clause-loads g c = λ value names.
    let object = held_object c.args.words.now c.args.seat.now c.args.address value c.requires.seat names
    c.if-address-eq0.false in (
      object.0,
      object.1,
      inl (asked_load (knows_of c.args.seat.now) (knows_of c.poll.new.seat)
          (2 * c.args.words.now.start.began.forwards + 134) (omega arith) c.if-poll.ensures.polls),
    )

pub returns-then-i-shape-clause-seat : goal.returns-then-i-shape-clause-seat
returns-then-i-shape-clause-seat g c =
    opened_idle c.args.words.now c.load_header-shape.new.seat
    (some_header g (goal.at.returns-then-i-shape-clause-seat g c).After-load_header-shape)
    c.load_header-shape.ensures.seat

pub returns-then-i-shape-clause-loads : goal.returns-then-i-shape-clause-loads
returns-then-i-shape-clause-loads g c = λ value names.
    let h = header g (goal.at.returns-then-i-shape-clause-loads g c).After-load_header-shape value names in (
      h.object,
      h.is,
      no_slot h c.args.i (2 * c.args.words.now.start.began.forwards + 134) (omega arith) c.if-i-shape.true,
    )

pub load_slot-found-requires-clause-speaks : goal.load_slot-found-requires-clause-speaks
load_slot-found-requires-clause-speaks g c =
    let h = some_header g (goal.at.load_slot-found-requires-clause-speaks g c).After-load_header-shape in
    opened_speaks _ h (let b = c.if-i-shape.false in omega arith)

pub resolve-requires-clause-found : goal.resolve-requires-clause-found
resolve-requires-clause-found g c =
    let h = some_header g (goal.at.resolve-requires-clause-found g c).After-load_header-shape in
    record {
      before = knows_of c.load_header-shape.new.seat;
      slot = slot.Field h.object c.args.i;
      at = (h.object, h.known, refl);
      looks = c.load_slot-found.ensures.looks h.object h.known;
    }

pub resolve-requires-clause-no_cause : goal.resolve-requires-clause-no_cause
resolve-requires-clause-no_cause g c =
    let h = some_header g (goal.at.resolve-requires-clause-no_cause g c).After-load_header-shape in
    slot_cause h (knows_of c.load_slot-found.new.seat) (slot.Field h.object c.args.i)
    (place.Field c.args.address c.args.i) c.load_slot-found.result (c.load_slot-found.ensures.looks h.object h.known)

pub resolve-requires-clause-within : goal.resolve-requires-clause-within
resolve-requires-clause-within g c =
    let h = some_header g (goal.at.resolve-requires-clause-within g c).After-load_header-shape in
    found_before (knows_of c.load_header-shape.new.seat) (slot.Field h.object c.args.i)
    (place.Field c.args.address c.args.i) c.load_slot-found.result c.requires.fits c.load_slot-found.ensures.seat
    (c.load_slot-found.ensures.looks h.object h.known)

pub returns-clause-seat : goal.returns-clause-seat
returns-clause-seat g c =
    let h = some_header g (goal.at.returns-clause-seat g c).After-load_header-shape in
    let u = knows_of c.load_header-shape.new.seat in
    let s = slot.Field h.object c.args.i in
    resolved_idle c.args.words.now u c.resolve.new.seat s (2 * c.args.words.now.start.began.forwards + 132)
    c.in_ok-target.ensures.seat c.in_ok-target.ensures.own c.args.words.now.start.began.told
    (g.R.RecordReader.image c.args.reader.now) c.args.heap.now.scions c.args.end
    (g.R.RecordReader.faults c.args.reader.now) (g.R.RecordReader.faults c.resolve.new.reader)
    (Ok c.in_ok-target.target)
    (c.in_ok-target.ensures.resolves u s (h.object, h.known, refl) (c.load_slot-found.ensures.looks h.object h.known))

pub returns-clause-loads : goal.returns-clause-loads
returns-clause-loads g c = λ value names.
    let h = header g (goal.at.returns-clause-loads g c).After-load_header-shape value names in
    let u = knows_of c.load_header-shape.new.seat in
    let s = slot.Field h.object c.args.i in (
      h.object,
      h.is,
      slot_loads h (knows_of c.resolve.new.seat) c.args.i (2 * c.args.words.now.start.began.forwards + 132)
          (2 * c.args.words.now.start.began.forwards + 134) c.in_ok-target.target (omega arith)
          (let b = c.if-i-shape.false in omega arith)
          (c.in_ok-target.ensures.resolves u s (h.object, h.known, refl)
          (c.load_slot-found.ensures.looks h.object h.known)),
    )

pub returns-in_err-target-clause-seat : goal.returns-in_err-target-clause-seat
returns-in_err-target-clause-seat g c =
    let h = some_header g (goal.at.returns-in_err-target-clause-seat g c).After-load_header-shape in
    let u = knows_of c.load_header-shape.new.seat in
    let s = slot.Field h.object c.args.i in
    resolved_idle c.args.words.now u c.resolve.new.seat s (2 * c.args.words.now.start.began.forwards + 132)
    c.in_err-target.ensures.seat c.in_err-target.ensures.own c.args.words.now.start.began.told
    (g.R.RecordReader.image c.args.reader.now) c.args.heap.now.scions c.args.end
    (g.R.RecordReader.faults c.args.reader.now) (g.R.RecordReader.faults c.resolve.new.reader)
    (Err c.in_err-target.field-0.0)
    (c.in_err-target.ensures.resolves u s (h.object, h.known, refl) (c.load_slot-found.ensures.looks h.object h.known))

pub returns-in_err-target-clause-loads : goal.returns-in_err-target-clause-loads
returns-in_err-target-clause-loads g c = λ value names.
    let h = header g (goal.at.returns-in_err-target-clause-loads g c).After-load_header-shape value names in
    let u = knows_of c.load_header-shape.new.seat in
    let s = slot.Field h.object c.args.i in
    let exit = err_from_is_err_and c.from_residual.result c.from_residual.ensures.1 in
    rw (exit.1, exit.2) (
      h.object,
      h.is,
      inr (slot_refused h (knows_of c.resolve.new.seat) c.args.i (2 * c.args.words.now.start.began.forwards + 132)
          (2 * c.args.words.now.start.began.forwards + 134) (omega arith)
          (c.in_err-target.ensures.resolves u s (h.object, h.known, refl)
          (c.load_slot-found.ensures.looks h.object h.known))),
    )
