use Rattle.std.proofs.Common.{◌+◌, ◌*◌, ◌-◌, true, false, refl, ap, subst, arith}
use Rattle.melt_core.specs.Stages.{retried}
use Rattle.melt_core.specs.declared.call.Activation.{Activation}
use Rattle.melt_rule.specs.Seats.{knows_of}
use Rattle.melt_rule.specs.declared.view.Doing.{Doing}
use Rattle.melt_rule.specs.declared.view.View.{View}
use Rattle.melt_epoch.proofs.Settling.{finds_empty, finds_filled, finds_won, hand_within, spent, spent_again}
use Rattle.melt_epoch.proofs.Settling.{spent_most}
use Rattle.melt_epoch.proofs.Settling.{spent_next}
use Rattle.melt_epoch.proofs.Toward.{toward_filled, toward_goes, toward_on, toward_wins}
use Rattle.melt_epoch.specs.Bringing.{in_use_at}
use Rattle.melt_epoch.specs.Calls.{IsOnItsWay}
use Rattle.melt_epoch.proofs.bring.commit_copy.Goals as goal

pub returns-in-None-clause-settles : goal.returns-in-None-clause-settles
returns-in-None-clause-settles c =
    let loop = c.loop-activation.invariant in
    let v = knows_of c.args.seat.now in
    let w = knows_of c.loop-activation.seat in
    let u = knows_of c.ask_next.new.seat in
    let a = c.loop-activation.activation in
    let passed = a.search.tried - c.args.activation.search.tried in
    let wins = finds_won w u c.loop-activation.empty a c.if-empty.true c.in-None.ensures.finds in
    let most = 2 * (c.args.forwards - c.args.activation.search.tried) in
    record {
      wins = 1;
      one = omega arith;
      goes = subst (λ (d : Doing). IsOnItsWay v u 0 1 most d)
          (ap (λ (b : Activation). in_use_at b.search a.address) loop.activation)
          (toward_wins most
          (let s = spent_most c.loop-activation.empty passed in let more = c.loop-activation-test.true in
          let from = loop.from in omega arith) loop.toward wins);
    }

pub loop-activation-preserved-in-None-2 : goal.loop-activation-preserved-in-None-2
loop-activation-preserved-in-None-2 c =
    let loop = c.loop-activation.invariant in
    let w = knows_of c.loop-activation.seat in
    let u = knows_of c.ask_next.new.seat in
    let a = c.loop-activation.activation in
    let passed = a.search.tried - c.args.activation.search.tried in
    let step = finds_empty w u c.loop-activation.empty a c.if-empty.false c.in-None-2.ensures.finds in
    let more = loop.more c.if-empty.false in
    record {
      seat = c.in-None-2.ensures.seat;
      toward = toward_on (spent true passed) (spent_again c.loop-activation.empty passed c.if-empty.false (omega arith))
          loop.toward step;
      at = ap (λ (x : View). x.doing) step.is;
      read = let s = ap (λ (x : View). x.steps) step.is in let r = loop.read in omega arith;
      from = loop.from;
      more = λ none. absurd (cc);
      activation = loop.activation;
    }

pub returns-in-Some-clause-settles : goal.returns-in-Some-clause-settles
returns-in-Some-clause-settles c =
    let loop = c.loop-activation.invariant in
    let v = knows_of c.args.seat.now in
    let w = knows_of c.loop-activation.seat in
    let u = knows_of c.ask_next.new.seat in
    let a = c.loop-activation.activation in
    let passed = a.search.tried - c.args.activation.search.tried in
    let most = 2 * (c.args.forwards - c.args.activation.search.tried) in
    let finds = finds_filled w u c.loop-activation.empty a (c.in-Some.home, c.in-Some.address)
    c.in-Some.ensures.finds in
    record {
      wins = 0;
      one = omega arith;
      goes = subst (λ (d : Doing). IsOnItsWay v u 0 0 most d)
          (ap (λ (b : Activation). in_use_at b.search c.in-Some.address) loop.activation)
          (toward_goes most
          (let s = spent_most c.loop-activation.empty passed in let more = c.loop-activation-test.true in
          let from = loop.from in omega arith) loop.toward (finds.0 c.if-home-activation.true));
    }

pub loop-activation-preserved : goal.loop-activation-preserved
loop-activation-preserved c =
    let loop = c.loop-activation.invariant in
    let w = knows_of c.loop-activation.seat in
    let u = knows_of c.ask_next.new.seat in
    let a = c.loop-activation.activation in
    let from = loop.from in
    let passed = a.search.tried - c.args.activation.search.tried in
    let step = (finds_filled w u c.loop-activation.empty a (c.in-Some.home, c.in-Some.address)
    c.in-Some.ensures.finds).1 c.if-home-activation.false in
    record {
      seat = c.in-Some.ensures.seat;
      toward = toward_on (spent false (a.search.tried + 1 - c.args.activation.search.tried))
          (let s = spent_next c.loop-activation.empty passed in omega arith) loop.toward step;
      at = ap (λ (x : View). x.doing) step.is;
      read = let s = ap (λ (x : View). x.steps) step.is in let r = loop.read in omega arith;
      from = omega arith;
      more = λ none. omega arith;
      activation = ap retried loop.activation;
    }

pub returns-clause-settles : goal.returns-clause-settles
returns-clause-settles c =
    let loop = c.loop-activation.invariant in
    let w = knows_of c.loop-activation.seat in
    let u = knows_of c.stop_filled.new.seat in
    let a = c.loop-activation.activation in
    let passed = a.search.tried - c.args.activation.search.tried in
    let fills = c.stop_filled.ensures.fills in
    let within = hand_within c.args.words.now c.loop-activation.seat c.loop-activation.empty a loop.seat loop.at in (
      record {
        is = refl;
        sees = loop.toward.on u.seen fills.0;
        filled = toward_filled (knows_of c.args.seat.now) w u 0 (spent c.loop-activation.empty passed)
            (2 * (c.args.forwards - c.args.activation.search.tried) + 1)
            (let s = spent_most c.loop-activation.empty passed in let from = loop.from in let f = c.requires.forwards in
            omega arith)
            loop.toward fills;
        over = ap (λ (x : View). x.doing) fills.1;
      },
      (let s = ap (λ (x : View). x.steps) fills.1 in let r = loop.read in let all = c.loop-activation-test.false in
          omega arith),
    )

pub returns-in-None-clause-own : goal.returns-in-None-clause-own
returns-in-None-clause-own c =
    let wins = finds_won (knows_of c.loop-activation.seat) (knows_of c.ask_next.new.seat) c.loop-activation.empty
    c.loop-activation.activation c.if-empty.true c.in-None.ensures.finds in
    ap (λ (x : View). x.mine) wins.is

pub returns-in-Some-clause-own : goal.returns-in-Some-clause-own
returns-in-Some-clause-own c =
    let finds = finds_filled (knows_of c.loop-activation.seat) (knows_of c.ask_next.new.seat) c.loop-activation.empty
    c.loop-activation.activation (c.in-Some.home, c.in-Some.address) c.in-Some.ensures.finds in
    ap (λ (x : View). x.mine) (finds.0 c.if-home-activation.true).is

pub returns-clause-own : goal.returns-clause-own
returns-clause-own c = ap (λ (x : View). x.mine) c.stop_filled.ensures.fills.1
