use Rattle.std.proofs.Common.{◌≡◌, ℕ, ◌+◌, ◌*◌, Ok, Err, refl, sym, ◌∙◌, ap, subst}
use Rattle.std.specs.Prelude.{Result, Some, slice_index, slice_set}
use Rattle.melt_core.specs.declared.answer.Refusal.{Refusal}
use Rattle.melt_model.specs.Thread.{value_in}
use Rattle.melt_model.specs.declared.history.Slot.TheVariants as slot
use Rattle.melt_model.specs.declared.history.Value.{Value}
use Rattle.melt_model.specs.declared.operations.Reply.TheVariants as reply
use Rattle.melt_rule.specs.Seats.{knows_of}
use Rattle.melt_rule.specs.Tells.{Names}
use Rattle.melt_rule.specs.declared.view.View.{View}
use Rattle.melt_epoch.proofs.Following.{no_counts}
use Rattle.melt_epoch.proofs.Holding.{holds_found}
use Rattle.melt_epoch.proofs.Loaded.{kept_seated, loaded_seated, nil_read, range_read, refused_seated, reply_found}
use Rattle.melt_epoch.proofs.Loaded.{slot_read}
use Rattle.melt_epoch.proofs.Loaded.{value_read}
use Rattle.melt_epoch.proofs.Seated.{by_seats, idle_here, names_here}
use Rattle.melt_epoch.specs.Calls.{Counts}
use Rattle.melt_epoch.specs.Loading.{HasRead, LoadsSlot, SlotLoaded}
use Rattle.melt_epoch.specs.Mutators.{IsSeated, last_given}
use Rattle.melt_epoch.specs.declared.load.Loaded.{Loaded}
use Rattle.melt_epoch.specs.declared.load.Loaded.TheVariants as loaded
use Rattle.melt_epoch.specs.declared.mutator.Mutator.{Mutator}
use Rattle.melt_epoch.proofs.epoch.Epoch.load.Given.{Over}
use Rattle.melt_epoch.proofs.epoch.Epoch.load.Goals as goal
use Rattle.melt_epoch.proofs.epoch.Epoch.load.Goals.{After-load_slot}

-- what the seat knows before the call, and after it
abbrev before : (g : Over) → After-load_slot g → View
before g c = knows_of c.in-Some-Some.seat.now

abbrev afterwards : (g : Over) → After-load_slot g → View
afterwards g c = knows_of c.load_slot.new.seat

abbrev most : (g : Over) → After-load_slot g → ℕ
most g c = 2 * c.args.self.now.words.start.began.forwards + 134

-- what the load by addresses came to
abbrev Came : (g : Over) → After-load_slot g → Value → Result Loaded Refusal → Type 0
Came g c value result =
    LoadsSlot c.args.self.now.words.start.began.told (g.R.RecordReader.image c.in-Some-Some.reader.now)
    c.args.self.now.heap.scions c.args.self.now.end (g.R.RecordReader.faults c.in-Some-Some.reader.now)
    (g.R.RecordReader.faults c.load_slot.new.reader) (before g c) (afterwards g c) value c.args.i (most g c) result

-- for the value in the register, at each of its answers
came : (g : Over) (c : After-load_slot g) (result : Result Loaded Refusal)
    → ((value : Value) → Names (before g c).known (slice_index c.args.m.now.registers.regs c.args.src) value
    → Came g c value result) → Came g c (value_in c.args.m.now.values c.args.src) result
came g c result loads =
    loads (value_in c.args.m.now.values c.args.src)
    (names_here c.args.self.now.words c.args.m.now c.requires.seated c.in-Some-Some.seat.now
    c.in-Some-Some.ensures.value c.args.src)

came_to : (g : Over) (c : After-load_slot g) (found answer : Loaded) → found ≡ answer
    → ((value : Value) → Names (before g c).known (slice_index c.args.m.now.registers.regs c.args.src) value
    → Came g c value (Ok found)) → Came g c (value_in c.args.m.now.values c.args.src) (Ok answer)
came_to g c found answer is loads =
    subst (λ (f : Loaded). Came g c (value_in c.args.m.now.values c.args.src) (Ok f)) is (came g c (Ok found) loads)

pub returns-in-Ok-Nil-clause-seated : goal.returns-in-Ok-Nil-clause-seated
returns-in-Ok-Nil-clause-seated g c =
    let at = (goal.at.returns-in-Ok-Nil-clause-seated g c).After-load_slot in
    let v = before g at in
    let loads = came_to g at c.in-Ok-Nil.field-0 loaded.Nil c.in-Ok-Nil.field-0-is c.in-Ok-Nil.ensures.loads in
    kept_seated c.args.self.now.words c.args.m.now c.requires.seated c.in-Some-Some.seat.now
    c.in-Some-Some.ensures.value c.load_slot.new.seat (Some c.load_slot.new.reader) c.in-Ok-Nil.ensures.seat 0
    (subst (λ (x : View). Counts v x 0 0 0) (sym loads.1) (no_counts v))

pub returns-in-Ok-Nil-clause-loaded : goal.returns-in-Ok-Nil-clause-loaded
returns-in-Ok-Nil-clause-loaded g c s t p q at_s at_t at_p at_q =
    let at = (goal.at.returns-in-Ok-Nil-clause-loaded g c).After-load_slot in
    let m = c.args.m.now in
    let seat = c.in-Some-Some.seat.now in
    let is = c.in-Some-Some.ensures.value in
    let new = c.load_slot.new.seat in
    let loads = came_to g at c.in-Ok-Nil.field-0 loaded.Nil c.in-Ok-Nil.field-0-is c.in-Ok-Nil.ensures.loads in
    by_seats (λ (v w : View). HasRead v w m.values m.values c.args.dst c.args.src c.args.i (most g at) reply.Nil) is
    refl at_s at_t (nil_read m.values c.args.dst c.args.src c.args.i (most g at) loads.1
    (idle_here c.args.self.now.words m c.requires.seated seat is).sound loads.0)

pub returns-in-Ok-Range-clause-seated : goal.returns-in-Ok-Range-clause-seated
returns-in-Ok-Range-clause-seated g c =
    let at = (goal.at.returns-in-Ok-Range-clause-seated g c).After-load_slot in
    let loads = came_to g at c.in-Ok-Range.field-0 loaded.Range c.in-Ok-Range.field-0-is c.in-Ok-Range.ensures.loads in
    kept_seated c.args.self.now.words c.args.m.now c.requires.seated c.in-Some-Some.seat.now
    c.in-Some-Some.ensures.value
    c.load_slot.new.seat (Some c.load_slot.new.reader) c.in-Ok-Range.ensures.seat (most g at) loads.2.stays.counts

pub returns-in-Ok-Range-clause-loaded : goal.returns-in-Ok-Range-clause-loaded
returns-in-Ok-Range-clause-loaded g c s t p q at_s at_t at_p at_q =
    let at = (goal.at.returns-in-Ok-Range-clause-loaded g c).After-load_slot in
    let m = c.args.m.now in
    let new = c.load_slot.new.seat in
    let loads = came_to g at c.in-Ok-Range.field-0 loaded.Range c.in-Ok-Range.field-0-is c.in-Ok-Range.ensures.loads in
    by_seats (λ (v w : View). HasRead v w m.values m.values c.args.dst c.args.src c.args.i (most g at) reply.Range)
    c.in-Some-Some.ensures.value refl at_s at_t (range_read m.values c.args.dst c.args.src loads.1 loads.2)

pub returns-in-Ok-At-clause-seated : goal.returns-in-Ok-At-clause-seated
returns-in-Ok-At-clause-seated g c =
    let at = (goal.at.returns-in-Ok-At-clause-seated g c).After-load_slot in
    let words = c.args.self.now.words in
    let loads = came_to g at c.in-Ok-At.field-0 (loaded.At c.in-Ok-At.target) c.in-Ok-At.field-0-is
    c.in-Ok-At.ensures.loads in
    subst (IsSeated words) (sym c.hold.ensures.holds)
    (loaded_seated words c.args.m.now c.requires.seated c.in-Some-Some.seat.now c.in-Some-Some.ensures.value
    c.load_slot.new.seat (Some c.load_slot.new.reader) c.in-Ok-At.ensures.seat (slot.Field loads.0 c.args.i) (most g at)
    c.args.dst c.in-Ok-At.target loads.2.loads c.hold.ensures.sixteen c.requires.registers.0)

pub returns-in-Ok-At-clause-loaded : goal.returns-in-Ok-At-clause-loaded
returns-in-Ok-At-clause-loaded g c s t p q at_s at_t at_p at_q =
    let at = (goal.at.returns-in-Ok-At-clause-loaded g c).After-load_slot in
    let m = c.args.m.now in
    let n = c.hold.new.self in
    let new = c.load_slot.new.seat in
    let v = before g at in
    let w = afterwards g at in
    let target = c.in-Ok-At.target in
    let loads = came_to g at c.in-Ok-At.field-0 (loaded.At target) c.in-Ok-At.field-0-is c.in-Ok-At.ensures.loads in
    let there : n.seat ≡ Some new = ap (λ (x : Mutator _). x.seat) c.hold.ensures.holds in
    let from = loads.2.loads in
    let values : n.values ≡ slice_set m.values c.args.dst from.value =
    ap (λ (x : Mutator _). x.values) c.hold.ensures.holds
    ∙ ap (slice_set m.values c.args.dst) (value_read v w (slot.Field loads.0 c.args.i) (most g at) target from) in
    by_seats (λ (x y : View). HasRead x y m.values n.values c.args.dst c.args.src c.args.i (most g at)
    c.reply_of.result) c.in-Some-Some.ensures.value there at_s at_t
    (slot_read m.values c.args.dst c.args.src loads.1 loads.2
    (reply_found w target from.value c.reply_of.result c.in-Ok-At.ensures.seat.is_seat.within from.names
    c.reply_of.ensures.null c.reply_of.ensures.some) values)

pub returns-in-Err-clause-seated : goal.returns-in-Err-clause-seated
returns-in-Err-clause-seated g c =
    let at = (goal.at.returns-in-Err-clause-seated g c).After-load_slot in
    let loads = came g at (Err c.in-Err.refusal) c.in-Err.ensures.loads in
    refused_seated c.args.self.now.words c.args.m.now c.requires.seated c.in-Some-Some.seat.now
    c.in-Some-Some.ensures.value c.load_slot.new.seat (Some c.load_slot.new.reader) c.in-Err.ensures.seat loads.2

pub returns-in-Err-clause-loaded : goal.returns-in-Err-clause-loaded
returns-in-Err-clause-loaded g c s t p q at_s at_t at_p at_q =
    let at = (goal.at.returns-in-Err-clause-loaded g c).After-load_slot in
    let m = c.args.m.now in
    let new = c.load_slot.new.seat in
    let reader = c.in-Some-Some.reader.now in
    let loads = came g at (Err c.in-Err.refusal) c.in-Err.ensures.loads in
    let from : reader ≡ p = let both : Some reader ≡ Some p = c.in-Some-Some.ensures'.value ∙ at_p in cc in
    let to : c.load_slot.new.reader ≡ q = let both : Some c.load_slot.new.reader ≡ Some q = at_q in cc in
    let Refused : g.row.R.Denot → g.row.R.Denot → View → View → Type 0 =
    λ x y v w. SlotLoaded c.args.self.now.words.start.began.told (g.R.RecordReader.image x) c.args.self.now.heap.scions
    c.args.self.now.end (g.R.RecordReader.faults x) (g.R.RecordReader.faults y) v w m.values m.values c.args.dst
    c.args.src c.args.i (most g at) (Err c.in-Err.refusal) in
    by_seats (Refused p q) c.in-Some-Some.ensures.value refl at_s at_t
    (subst (λ (x : g.row.R.Denot). Refused x q (before g at) (afterwards g at)) from
    (subst (λ (y : g.row.R.Denot). Refused reader y (before g at) (afterwards g at)) to (
      refl,
      loads.0,
      loads.1,
      loads.2,
    )))

pub returns-in-Ok-At-clause-holds : goal.returns-in-Ok-At-clause-holds
returns-in-Ok-At-clause-holds g c =
    let new = c.load_slot.new.seat in
    holds_found c.args.m.now (Some new) (Some c.load_slot.new.reader) c.args.dst (last_given (knows_of new).seen)
    c.reply_of.result c.hold.ensures.holds c.reply_of.ensures.null c.reply_of.ensures.some
