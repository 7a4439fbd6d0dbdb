use Rattle.std.proofs.Common.{refl, arith}
use Rattle.melt_model.specs.Thread.{value_in}
use Rattle.melt_model.specs.declared.history.Act.TheVariants.{Write}
use Rattle.melt_model.specs.declared.history.Slot.TheVariants.{Field}
use Rattle.melt_model.specs.declared.history.Value.{Value}
use Rattle.melt_model.specs.declared.operations.Op.TheVariants.{Store}
use Rattle.melt_model.specs.declared.operations.Reply.TheVariants as reply
use Rattle.melt_core.proofs.Answers.{store_answers}
use Rattle.melt_rule.specs.Seats.{knows_of}
use Rattle.melt_rule.specs.Tells.{Names}
use Rattle.melt_epoch.proofs.Plainly.{Opened, adds_replies, asked_idle, asked_plain, held_nothing, held_some, nil_plain}
use Rattle.melt_epoch.proofs.Plainly.{opened, opened_ended, opened_ends, opened_idle, opened_range, opened_speaks}
use Rattle.melt_epoch.proofs.Seated.{names_more}
use Rattle.melt_epoch.proofs.steps.write_slot.Goals as goal
use Rattle.melt_epoch.proofs.steps.write_slot.Goals.{After-load_header-shape}

-- the object whose header was loaded
header : (c : After-load_header-shape) (value : Value)
    → Names (knows_of c.args.seat.now).known c.args.address value
    → Opened (knows_of c.args.seat.now) (knows_of c.poll.new.seat) (knows_of c.load_header-shape.new.seat)
    c.args.address c.load_header-shape.result value
header c value names =
    opened (knows_of c.poll.new.seat) (knows_of c.load_header-shape.new.seat) c.args.address c.load_header-shape.result
    value c.requires.seat names c.if-address-eq0.false c.if-poll.ensures.polls c.load_header-shape.ensures.heads

some_header : (c : After-load_header-shape)
    → Opened (knows_of c.args.seat.now) (knows_of c.poll.new.seat) (knows_of c.load_header-shape.new.seat)
    c.args.address c.load_header-shape.result c.requires.object.0
some_header c = header c c.requires.object.0 c.requires.object.1

pub returns-then-address-eq0-clause-plain : goal.returns-then-address-eq0-clause-plain
returns-then-address-eq0-clause-plain c rs obj src names held =
    nil_plain (knows_of c.args.seat.now) rs (Store obj c.args.i src) 3 c.requires.seat.sound
    (held_nothing c.args.words.now c.args.seat.now c.args.address _ c.requires.seat names c.if-address-eq0.true)

pub returns-then-poll-clause-seat : goal.returns-then-poll-clause-seat
returns-then-poll-clause-seat c =
    asked_idle c.args.words.now (knows_of c.args.seat.now) c.poll.new.seat c.if-poll.ensures.seat
    c.if-poll.ensures.polls

pub returns-then-poll-clause-plain : goal.returns-then-poll-clause-plain
returns-then-poll-clause-plain c rs obj src names held =
    asked_plain (knows_of c.args.seat.now) (knows_of c.poll.new.seat) rs (Store obj c.args.i src) 3 (omega arith)
    c.if-poll.ensures.polls
    (held_some c.args.words.now c.args.seat.now c.args.address _ c.requires.seat names c.if-address-eq0.false)

pub returns-then-i-shape-clause-seat : goal.returns-then-i-shape-clause-seat
returns-then-i-shape-clause-seat c =
    opened_idle c.args.words.now c.load_header-shape.new.seat
    (some_header (goal.at.returns-then-i-shape-clause-seat c).After-load_header-shape) c.load_header-shape.ensures.seat

pub returns-then-i-shape-clause-plain : goal.returns-then-i-shape-clause-plain
returns-then-i-shape-clause-plain c rs obj src names held =
    let h = header (goal.at.returns-then-i-shape-clause-plain c).After-load_header-shape (value_in rs obj) names in
    opened_range rs (Store obj c.args.i src) 3 h (omega arith) (h.is, c.if-i-shape.true)

pub store_slot-requires-clause-speaks : goal.store_slot-requires-clause-speaks
store_slot-requires-clause-speaks c =
    let h = some_header (goal.at.store_slot-requires-clause-speaks c).After-load_header-shape in
    opened_speaks _ h (let b = c.if-i-shape.false in omega arith)

-- what is stored is still known
still : (c : After-load_header-shape) (value : Value) → Names (knows_of c.args.seat.now).known c.args.held value
    → Names (knows_of c.load_header-shape.new.seat).known c.args.held value
still c value names =
    names_more (knows_of c.args.seat.now).known (knows_of c.load_header-shape.new.seat).known c.args.held value
    (some_header c).more names

pub store_slot-requires-clause-held : goal.store_slot-requires-clause-held
store_slot-requires-clause-held c = (
  c.requires.held.0,
  still (goal.at.store_slot-requires-clause-held c).After-load_header-shape c.requires.held.0 c.requires.held.1,
)

pub returns-clause-seat : goal.returns-clause-seat
returns-clause-seat c =
    let at = (goal.at.returns-clause-seat c).After-load_header-shape in
    let h = some_header at in
    let value = c.requires.held.0 in
    opened_ended c.args.words.now c.store_slot.new.seat (Write (Field h.object c.args.i) value) h
    (c.store_slot.ensures.writes h.object value h.known (still at value c.requires.held.1)) c.store_slot.ensures.seat

pub returns-clause-plain : goal.returns-clause-plain
returns-clause-plain c rs obj src names held =
    let at = (goal.at.returns-clause-plain c).After-load_header-shape in
    let h = header at (value_in rs obj) names in
    let v = knows_of c.args.seat.now in
    let x = knows_of c.store_slot.new.seat in
    let value = value_in rs src in
    let act = Write (Field h.object c.args.i) value in
    let after = opened_ends x act h (c.store_slot.ensures.writes h.object value h.known (still at value held)) in
    record {
      comes = adds_replies x rs rs (Store obj c.args.i src) reply.Done after.adds
          (λ told. store_answers v.thread _ obj c.args.i src c.load_header-shape.result h.is (after.shaped told)
          (let b = c.if-i-shape.false in omega arith) refl refl refl refl);
      counts = after.counts;
      refused = tt;
      looks = tt;
    }
