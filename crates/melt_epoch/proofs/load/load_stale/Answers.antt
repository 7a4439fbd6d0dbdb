use Rattle.std.proofs.Common.{ap, arith}
use Rattle.melt_word.specs.declared.reference.Ref.TheVariants.{Stale}
use Rattle.melt_rule.specs.Seats.{knows_of}
use Rattle.melt_rule.specs.declared.view.View.{View}
use Rattle.melt_epoch.proofs.Loading.{stale_loads, stale_slot}
use Rattle.melt_epoch.proofs.load.load_stale.Goals as goal

pub returns-clause-loads : goal.returns-clause-loads
returns-clause-loads c = λ v s at looks.
    let w = knows_of c.args.seat.now in
    let u = knows_of c.clear.new.seat in
    let target = c.args.target in
    let place = c.args.place in
    let clears = c.clear.ensures.clears place (Stale target) (ap (λ (y : View). y.doing) looks.is) in
    stale_loads 3 (omega arith) looks clears (c.untag.ensures.reads s
    (stale_slot place s looks clears at))
