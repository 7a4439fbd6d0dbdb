use Rattle.std.proofs.Common.{◌≡◌, refl, sym, ◌∙◌, ap, subst}
use Rattle.std.specs.Prelude.{Some}
use Rattle.melt_core.specs.Advances.{MayMakeEvent}
use Rattle.melt_core.specs.Stages.{NeedsNoRead}
use Rattle.melt_core.specs.Views.{stage_of, view}
use Rattle.melt_core.proofs.Staged.{may_from, moves_from}
use Rattle.melt_core.proofs.Unread.{stage_found, unread}
use Rattle.melt_core.proofs.ReadsLeft.{none_in_flight}
use Rattle.melt_core.proofs.machine.Core.advance.Given.{Over}
use Rattle.melt_core.proofs.machine.Core.advance.Goals as goal
use Rattle.melt_core.proofs.machine.Core.advance.Goals.{In-Some}

-- the stage of the call
at : (g : Over) (c : In-Some g) → stage_of (view c.args.self.now) c.args.thread ≡ Some c.in-Some.call.stage
at g c =
    stage_found c.requires.disk (view c.args.self.now) c.args.thread c.args.op c.index.result.now c.in-Some.call
    c.requires.asks c.index.ensures c.in-Some.is

pub returns-in_default : goal.returns-in_default
returns-in_default g c =
    let none : NeedsNoRead (stage_of (view c.args.self.now) c.args.thread) =
    none_in_flight c.requires.disk (view c.args.self.now) c.args.thread c.args.op c.index.result.now c.requires.asks
    c.index.ensures c.in_default.is in
    let event = unread (g.R.RecordReader.image c.args.reader.now) (g.R.RecordReader.faults c.args.reader.now)
    (g.R.RecordReader.reads c.args.reader.now) c.requires c.begin_call.ensures none in
    record {
      advances = event.advances;
      uses = event.uses;
      unused = λ reads_nothing. refl;
      image = refl;
      damage = event.damage;
    }

pub returns-in-Polled : goal.returns-in-Polled
returns-in-Polled g c =
    let none : NeedsNoRead (stage_of (view c.args.self.now) c.args.thread) =
    subst NeedsNoRead (sym (at g (goal.at.returns-in-Polled g c).In-Some ∙ ap Some c.in-Polled.is)) tt in
    let event = unread (g.R.RecordReader.image c.args.reader.now) (g.R.RecordReader.faults c.args.reader.now)
    (g.R.RecordReader.reads c.args.reader.now) c.requires c.after_poll.ensures none in
    record {
      advances = event.advances;
      uses = event.uses;
      unused = λ reads_nothing. refl;
      image = refl;
      damage = event.damage;
    }

pub after_head-requires : goal.after_head-requires
after_head-requires g c =
    may_from (record { disk = c.requires.disk; asks = c.requires.asks })
    (at g (goal.at.after_head-requires g c).In-Some ∙ ap Some c.in-Headed.is)

pub returns-in-Headed : goal.returns-in-Headed
returns-in-Headed g c =
    let is = at g (goal.at.returns-in-Headed g c).In-Some ∙ ap Some c.in-Headed.is in
    let may : MayMakeEvent (view c.args.self.now) c.args.thread c.args.op =
    record { disk = c.requires.disk; asks = c.requires.asks } in
    let event = unread (g.R.RecordReader.image c.args.reader.now) (g.R.RecordReader.faults c.args.reader.now)
    (g.R.RecordReader.reads c.args.reader.now) c.requires (moves_from may is c.after_head.ensures)
    (subst NeedsNoRead (sym is) tt) in
    record {
      advances = event.advances;
      uses = event.uses;
      unused = λ reads_nothing. refl;
      image = refl;
      damage = event.damage;
    }

pub returns-in-Claimed : goal.returns-in-Claimed
returns-in-Claimed g c =
    let none : NeedsNoRead (stage_of (view c.args.self.now) c.args.thread) =
    subst NeedsNoRead (sym (at g (goal.at.returns-in-Claimed g c).In-Some ∙ ap Some c.in-Claimed.is)) tt in
    let event = unread (g.R.RecordReader.image c.args.reader.now) (g.R.RecordReader.faults c.args.reader.now)
    (g.R.RecordReader.reads c.args.reader.now) c.requires c.fill.ensures none in
    record {
      advances = event.advances;
      uses = event.uses;
      unused = λ reads_nothing. refl;
      image = refl;
      damage = event.damage;
    }
