use Rattle.std.proofs.Common.{refl, arith}
use Rattle.melt_model.specs.Thread.{value_in}
use Rattle.melt_model.specs.declared.history.Act.TheVariants.{Read}
use Rattle.melt_model.specs.declared.history.Slot.TheVariants.{Cell}
use Rattle.melt_model.specs.declared.history.Value.{Value}
use Rattle.melt_model.specs.declared.history.Value.TheVariants.{Num}
use Rattle.melt_model.specs.declared.operations.Op.TheVariants.{Get}
use Rattle.melt_model.specs.declared.operations.Reply.TheVariants as reply
use Rattle.melt_core.proofs.Answers.{get_answers}
use Rattle.melt_rule.specs.Seats.{knows_of}
use Rattle.melt_rule.specs.Tells.{Names}
use Rattle.melt_epoch.proofs.Plainly.{Opened, adds_replies, asked_idle, asked_plain, held_nothing, held_some, nil_plain}
use Rattle.melt_epoch.proofs.Plainly.{opened, opened_ended, opened_ends, opened_idle, opened_range, opened_speaks}
use Rattle.melt_epoch.proofs.steps.read_number.Goals as goal
use Rattle.melt_epoch.proofs.steps.read_number.Goals.{After-load_header-shape}

-- the object whose header was loaded
header : (c : After-load_header-shape) (value : Value)
    → Names (knows_of c.args.seat.now).known c.args.address value
    → Opened (knows_of c.args.seat.now) (knows_of c.poll.new.seat) (knows_of c.load_header-shape.new.seat)
    c.args.address c.load_header-shape.result value
header c value names =
    opened (knows_of c.poll.new.seat) (knows_of c.load_header-shape.new.seat) c.args.address c.load_header-shape.result
    value c.requires.seat names c.if-address-eq0.false c.if-poll.ensures.polls c.load_header-shape.ensures.heads

some_header : (c : After-load_header-shape)
    → Opened (knows_of c.args.seat.now) (knows_of c.poll.new.seat) (knows_of c.load_header-shape.new.seat)
    c.args.address c.load_header-shape.result c.requires.held.0
some_header c = header c c.requires.held.0 c.requires.held.1

pub returns-then-address-eq0-clause-plain : goal.returns-then-address-eq0-clause-plain
returns-then-address-eq0-clause-plain c rs src names =
    nil_plain (knows_of c.args.seat.now) rs (Get src c.args.j) 3 c.requires.seat.sound
    (held_nothing c.args.words.now c.args.seat.now c.args.address _ c.requires.seat names c.if-address-eq0.true)

pub returns-then-poll-clause-seat : goal.returns-then-poll-clause-seat
returns-then-poll-clause-seat c =
    asked_idle c.args.words.now (knows_of c.args.seat.now) c.poll.new.seat c.if-poll.ensures.seat
    c.if-poll.ensures.polls

pub returns-then-poll-clause-plain : goal.returns-then-poll-clause-plain
returns-then-poll-clause-plain c rs src names =
    asked_plain (knows_of c.args.seat.now) (knows_of c.poll.new.seat) rs (Get src c.args.j) 3 (omega arith)
    c.if-poll.ensures.polls
    (held_some c.args.words.now c.args.seat.now c.args.address _ c.requires.seat names c.if-address-eq0.false)

pub returns-then-j-shape-clause-seat : goal.returns-then-j-shape-clause-seat
returns-then-j-shape-clause-seat c =
    opened_idle c.args.words.now c.load_header-shape.new.seat
    (some_header (goal.at.returns-then-j-shape-clause-seat c).After-load_header-shape) c.load_header-shape.ensures.seat

pub returns-then-j-shape-clause-plain : goal.returns-then-j-shape-clause-plain
returns-then-j-shape-clause-plain c rs src names =
    let h = header (goal.at.returns-then-j-shape-clause-plain c).After-load_header-shape (value_in rs src) names in
    opened_range rs (Get src c.args.j) 3 h (omega arith) (h.is, c.if-j-shape.true)

pub load_number-requires-clause-speaks : goal.load_number-requires-clause-speaks
load_number-requires-clause-speaks c =
    let h = some_header (goal.at.load_number-requires-clause-speaks c).After-load_header-shape in
    opened_speaks _ h (refl, (let b = c.if-j-shape.false in omega arith))

pub returns-clause-seat : goal.returns-clause-seat
returns-clause-seat c =
    let h = some_header (goal.at.returns-clause-seat c).After-load_header-shape in
    opened_ended c.args.words.now c.load_number.new.seat (Read (Cell h.object c.args.j) (Num c.load_number.result)) h
    (c.load_number.ensures.reads h.object h.known) c.load_number.ensures.seat

pub returns-clause-plain : goal.returns-clause-plain
returns-clause-plain c rs src names =
    let h = header (goal.at.returns-clause-plain c).After-load_header-shape (value_in rs src) names in
    let v = knows_of c.args.seat.now in
    let x = knows_of c.load_number.new.seat in
    let act = Read (Cell h.object c.args.j) (Num c.load_number.result) in
    let after = opened_ends x act h (c.load_number.ensures.reads h.object h.known) in
    record {
      comes = adds_replies x rs rs (Get src c.args.j) (reply.Num c.load_number.result) after.adds
          (λ told. get_answers v.thread _ src c.args.j c.load_number.result c.load_header-shape.result h.is
          (after.shaped told) (let b = c.if-j-shape.false in omega arith) refl refl refl);
      counts = after.counts;
      refused = tt;
      looks = tt;
    }
