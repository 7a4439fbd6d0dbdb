use Rattle.std.proofs.Common.{◌+◌, ◌*◌, ap, arith}
use Rattle.std.proofs.lemmas.Result.{err_from_is_err_and}
use Rattle.melt_rule.specs.Seats.{knows_of}
use Rattle.melt_rule.specs.declared.view.View.{View}
use Rattle.melt_epoch.proofs.Loading.{home_loads, home_refused, home_slot}
use Rattle.melt_epoch.proofs.load.load_home.Goals as goal

pub untag-requires-clause-named : goal.untag-requires-clause-named
untag-requires-clause-named g c =
    let found = c.requires.found in (
      found.slot,
      home_slot found.before (knows_of c.args.seat.now) found.slot c.args.place c.args.home found.looks
          (knows_of c.bring.new.seat) (2 * c.args.words.now.start.began.forwards + 130) c.in_ok-target.target
          c.in_ok-target.ensures.brings found.at,
    )

pub returns-clause-own : goal.returns-clause-own
returns-clause-own g c =
    let found = c.requires.found in
    let reads = c.untag.ensures.reads found.slot
    (home_slot found.before (knows_of c.args.seat.now) found.slot c.args.place c.args.home found.looks
    (knows_of c.bring.new.seat) (2 * c.args.words.now.start.began.forwards + 130) c.in_ok-target.target
    c.in_ok-target.ensures.brings found.at) in
    ap (λ (y : View). y.mine) reads.is

pub returns-clause-resolves : goal.returns-clause-resolves
returns-clause-resolves g c = λ v s at looks.
    let w = knows_of c.args.seat.now in
    let u = knows_of c.bring.new.seat in
    let place = c.args.place in
    let home = c.args.home in
    let n = 2 * c.args.words.now.start.began.forwards + 130 in
    home_loads v w s place home looks u (knows_of c.untag.new.seat) n
    (2 * c.args.words.now.start.began.forwards + 132) c.in_ok-target.target c.untag.result (omega arith)
    c.in_ok-target.ensures.brings
    (c.untag.ensures.reads s
    (home_slot v w s place home looks u n c.in_ok-target.target c.in_ok-target.ensures.brings at))

pub returns-in_err-target-clause-resolves : goal.returns-in_err-target-clause-resolves
returns-in_err-target-clause-resolves g c = λ v s at looks.
    let exit = err_from_is_err_and c.from_residual.result c.from_residual.ensures.1 in
    rw (exit.1, exit.2)
    (home_refused v (knows_of c.args.seat.now) s c.args.place c.args.home looks (knows_of c.bring.new.seat)
    (2 * c.args.words.now.start.began.forwards + 130) (2 * c.args.words.now.start.began.forwards + 132)
    c.in_err-target.field-0.0 c.requires.within (omega arith)
    c.in_err-target.ensures.brings)
