use Rattle.std.proofs.Common.{◌+◌, ◌-◌, refl, ap, subst, arith}
use Rattle.melt_core.specs.declared.call.Search.{Search}
use Rattle.melt_core.specs.Stages.{further}
use Rattle.melt_rule.specs.Seats.{knows_of}
use Rattle.melt_rule.specs.declared.view.Doing.{Doing}
use Rattle.melt_rule.specs.declared.view.View.{View}
use Rattle.melt_epoch.proofs.Toward.{searches_within, toward_filled, toward_goes, toward_on}
use Rattle.melt_epoch.specs.Bringing.{in_use_at}
use Rattle.melt_epoch.specs.Calls.{IsOnItsWay}
use Rattle.melt_epoch.proofs.bring.seek.Goals as goal

pub returns-in-None-clause-seeks : goal.returns-in-None-clause-seeks
returns-in-None-clause-seeks c =
    let loop = c.loop-search.invariant in
    let t = c.loop-search.search.tried in (
      toward_goes (t + 1 - c.args.search.tried) (let f = loop.from in omega arith) loop.toward c.in-None.ensures.probes,
      loop.from,
      (let more = c.loop-search-test.true in omega arith),
      loop.search,
      (let s = ap (λ (x : View). x.steps) c.in-None.ensures.probes.is in let r = loop.read in let f = loop.from in
          omega arith),
    )

pub returns-in-Some-clause-seeks : goal.returns-in-Some-clause-seeks
returns-in-Some-clause-seeks c =
    let loop = c.loop-search.invariant in
    let v = knows_of c.args.seat.now in
    let u = knows_of c.probe.new.seat in
    let t = c.loop-search.search.tried in
    let most = c.args.forwards - c.args.search.tried in
    subst (λ (d : Doing). IsOnItsWay v u 0 0 most d)
    (ap (λ (s : Search). in_use_at s c.in-Some.address) loop.search)
    (toward_goes most (let f = loop.from in let more = c.loop-search-test.true in omega arith) loop.toward
    (c.in-Some.ensures.probes.0 c.if-home-search.true))

pub loop-search-preserved : goal.loop-search-preserved
loop-search-preserved c =
    let loop = c.loop-search.invariant in
    let t = c.loop-search.search.tried in
    let step = c.in-Some.ensures.probes.1 c.if-home-search.false in
    record {
      seat = c.in-Some.ensures.seat;
      toward = toward_on (t + 1 - c.args.search.tried) (let f = loop.from in omega arith) loop.toward step;
      at = ap (λ (x : View). x.doing) step.is;
      read = let s = ap (λ (x : View). x.steps) step.is in let r = loop.read in let f = loop.from in omega arith;
      from = let f = loop.from in omega arith;
      search = ap further loop.search;
    }

pub returns-clause-seeks : goal.returns-clause-seeks
returns-clause-seeks c =
    let loop = c.loop-search.invariant in
    let fills = c.stop_filled.ensures.fills in
    let within = searches_within c.args.words.now c.loop-search.seat c.loop-search.search loop.seat loop.at in (
      record {
        is = refl;
        sees = loop.toward.on (knows_of c.stop_filled.new.seat).seen fills.0;
        filled = toward_filled (knows_of c.args.seat.now) (knows_of c.loop-search.seat)
            (knows_of c.stop_filled.new.seat) 0
            (c.loop-search.search.tried - c.args.search.tried) (c.args.forwards + 1 - c.args.search.tried)
            (let f = loop.from in let all = c.requires.forwards in let w = within in omega arith)
            loop.toward fills;
        over = ap (λ (x : View). x.doing) fills.1;
      },
      (let s = ap (λ (x : View). x.steps) fills.1 in let r = loop.read in let all = c.loop-search-test.false in
          omega arith),
    )

pub returns-in-None-clause-own : goal.returns-in-None-clause-own
returns-in-None-clause-own c = ap (λ (x : View). x.mine) c.in-None.ensures.probes.is

pub returns-in-Some-clause-own : goal.returns-in-Some-clause-own
returns-in-Some-clause-own c = ap (λ (x : View). x.mine) (c.in-Some.ensures.probes.0 c.if-home-search.true).is

pub returns-clause-own : goal.returns-clause-own
returns-clause-own c = ap (λ (x : View). x.mine) c.stop_filled.ensures.fills.1
