use Rattle.std.proofs.Common.{ap, ℕ, sym, subst, inr}
use Rattle.melt_core.specs.declared.answer.Pause.TheVariants.{Space}
use Rattle.melt_core.specs.declared.answer.Refusal.TheVariants.{Pause}
use Rattle.melt_rule.specs.Seats.{knows_of}
use Rattle.melt_rule.specs.declared.view.View.{View}
use Rattle.melt_epoch.proofs.Copies.{copy_settles, lacks_room}
use Rattle.melt_epoch.specs.Bringing.{LacksRoomForCopy}
use Rattle.melt_epoch.proofs.copy.copy_in.Goals as goal

pub returns-in_default-clause-copies : goal.returns-in_default-clause-copies
returns-in_default-clause-copies c =
    let v = knows_of c.args.seat.now in
    let u = knows_of c.stop.new.seat in
    inr (subst (λ (n : ℕ). LacksRoomForCopy v u c.args.search 2 (Pause (Space n))) (sym c.cost.ensures)
    (lacks_room v (knows_of c.claim_copy.new.seat) u c.args.search c.args.shape c.requires.body.head.small
    c.in_default.ensures.tells c.stop.ensures.stops))

pub returns-clause-copies : goal.returns-clause-copies
returns-clause-copies c =
    copy_settles (knows_of c.args.seat.now) (knows_of c.claim_copy.new.seat) (knows_of c.fill_copy.new.seat)
    (knows_of c.head_copy.new.seat) (knows_of c.commit_copy.new.seat) c.args.search c.args.shape c.args.rest.now
    c.in-Some.address
    c.args.forwards c.in-Some.ensures.tells c.fill_copy.ensures.fills c.head_copy.ensures.heads c.commit_copy.result
    c.commit_copy.ensures.settles

pub returns-in_default-clause-own : goal.returns-in_default-clause-own
returns-in_default-clause-own c = ap (λ (x : View). x.mine) c.stop.ensures.stops.is
