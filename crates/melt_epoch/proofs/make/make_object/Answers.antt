use Rattle.std.proofs.Common.{◌≡◌, ℕ, ◌-◌, refl, arith, ap, sym, subst, inl, inr}
use Rattle.std.specs.Prelude.{None}
use Rattle.melt_word.specs.Words.{cost_of}
use Rattle.melt_model.specs.declared.history.Act.TheVariants.{Make}
use Rattle.melt_core.specs.declared.answer.Pause.TheVariants.{Space}
use Rattle.melt_core.specs.declared.answer.Refusal.TheVariants.{Pause}
use Rattle.melt_rule.specs.Making.{Claims, Lacks}
use Rattle.melt_rule.specs.Seats.{knows_of}
use Rattle.melt_rule.specs.declared.view.View.{View}
use Rattle.melt_epoch.proofs.Following.{idle_seat, sound_adds, sound_sees}
use Rattle.melt_epoch.proofs.Making.{claimed_way, lacked_it, made_it, stopped_sees}
use Rattle.melt_epoch.proofs.Plainly.{asked_counts, asked_idle}
use Rattle.melt_epoch.specs.Calls.{FillsRegion, LacksRoomToMake}
use Rattle.melt_epoch.proofs.make.make_object.Goals as goal

pub returns-then-poll-clause-seat : goal.returns-then-poll-clause-seat
returns-then-poll-clause-seat c =
    asked_idle c.args.words.now (knows_of c.args.seat.now) c.poll.new.seat c.if-poll.ensures.seat
    c.if-poll.ensures.polls

pub returns-then-poll-clause-makes : goal.returns-then-poll-clause-makes
returns-then-poll-clause-makes c =
    let plain = asked_counts (knows_of c.args.seat.now) (knows_of c.poll.new.seat) c.if-poll.ensures.polls.1 in
    inl (record {
      was = (refl, c.if-poll.ensures.polls);
      sees = c.if-poll.ensures.polls.0;
      counts = plain;
    })

pub returns-in_default-clause-seat : goal.returns-in_default-clause-seat
returns-in_default-clause-seat c =
    let v = knows_of c.args.seat.now in
    let u = knows_of c.claim.new.seat in
    let x = knows_of c.stop.new.seat in
    let lacks = c.in_default.ensures.tells in
    let sees = stopped_sees v (knows_of c.poll.new.seat) u x c.cost-need.result c.requires.seat.sound
    c.if-poll.ensures.polls lacks c.stop.ensures.stops in
    idle_seat c.args.words.now v c.stop.new.seat None c.stop.ensures.seat
    (ap (λ (k : View). k.doing) c.stop.ensures.stops.is) refl sees (ap (λ (k : View). k.mine) c.stop.ensures.stops.is)

pub returns-in_default-clause-makes : goal.returns-in_default-clause-makes
returns-in_default-clause-makes c =
    let v = knows_of c.args.seat.now in
    let w = knows_of c.poll.new.seat in
    let u = knows_of c.claim.new.seat in
    let x = knows_of c.stop.new.seat in
    let is : c.cost-need.result ≡ cost_of c.args.shape = c.cost-need.ensures in
    let lacks : Lacks w u (cost_of c.args.shape) = subst (Lacks w u) is c.in_default.ensures.tells in
    inr (subst (λ (n : ℕ). LacksRoomToMake v x c.args.shape (Pause (Space n))) (sym is)
    (lacked_it v w u x c.args.shape c.requires.seat.sound c.if-poll.ensures.polls lacks c.stop.ensures.stops))

pub fill-requires-clause-sound : goal.fill-requires-clause-sound
fill-requires-clause-sound c =
    let way = claimed_way (knows_of c.args.seat.now) (knows_of c.poll.new.seat) (knows_of c.claim.new.seat)
    c.in-Some.address c.cost-need.result c.requires.seat.sound c.if-poll.ensures.polls c.in-Some.ensures.tells in
    sound_sees (knows_of c.args.seat.now) (knows_of c.claim.new.seat) way.sees way.counts.began

pub returns-clause-makes : goal.returns-clause-makes
returns-clause-makes c =
    let v = knows_of c.args.seat.now in
    let w = knows_of c.poll.new.seat in
    let u = knows_of c.claim.new.seat in
    let is : c.cost-need.result ≡ cost_of c.args.shape = c.cost-need.ensures in
    let claims : Claims w u c.in-Some.address (cost_of c.args.shape) =
    subst (Claims w u c.in-Some.address) is c.in-Some.ensures.tells in
    made_it (knows_of c.fill.new.seat) (knows_of c.publish.new.seat) c.args.shape claims c.requires.seat.sound
    c.if-poll.ensures.polls
    (subst (λ (n : ℕ). FillsRegion u (knows_of c.fill.new.seat) c.in-Some.address (n - 1)) is c.fill.ensures.fills)
    c.publish.ensures.makes (omega arith)

pub returns-clause-seat : goal.returns-clause-seat
returns-clause-seat c =
    let v = knows_of c.args.seat.now in
    let y = knows_of c.publish.new.seat in
    let made = returns-clause-makes c in
    idle_seat c.args.words.now v c.publish.new.seat None c.publish.ensures.seat
    (ap (λ (k : View). k.doing) c.publish.ensures.makes.is) refl
    (sound_adds v y (Make c.args.shape.refs c.args.shape.nums) made.adds made.counts.began)
    (ap (λ (k : View). k.mine) c.publish.ensures.makes.is)
