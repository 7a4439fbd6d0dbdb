use Rattle.std.proofs.Common.{◌+◌, ◌∙◌, ap, arith}
use Rattle.melt_rule.specs.Seats.{knows_of}
use Rattle.melt_rule.specs.declared.view.View.{View}
use Rattle.melt_epoch.proofs.Toward.{toward_on}
use Rattle.melt_epoch.proofs.copy.fill_copy.Goals as goal

pub loop-stored-preserved : goal.loop-stored-preserved
loop-stored-preserved c =
    let loop = c.loop-stored.invariant in
    let k = c.loop-stored.stored in
    let step = c.fill_copy.ensures.fills in
    record {
      seat = c.fill_copy.ensures.seat;
      toward = toward_on (k + 1) (omega arith) loop.toward step;
      sees = λ some_. loop.toward.on (knows_of c.fill_copy.new.seat).seen step.sees;
      at = ap (λ (x : View). x.doing) step.is;
      rest = ap (λ (x : View). x.rest) step.is ∙ loop.rest;
    }

pub returns-clause-fills : goal.returns-clause-fills
returns-clause-fills c =
    let loop = c.loop-stored.invariant in
    let all = c.loop-stored-test.false in
    let end_ = c.loop-stored.auto.stored-end in
    let is = c.cost-stored-end.ensures in
    record {
      stored = c.loop-stored.stored;
      all = omega arith;
      goes = record { sees = loop.sees (omega arith); counts = loop.toward.counts; at = loop.at };
    }
