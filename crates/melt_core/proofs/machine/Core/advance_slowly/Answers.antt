use Rattle.std.proofs.Common.{refl}
use Rattle.melt_core.specs.Stages.{NeedsNoRead}
use Rattle.melt_core.specs.Views.{stage_of, view}
use Rattle.melt_core.proofs.Unread.{unread}
use Rattle.melt_core.proofs.ReadsLeft.{in_flight}
use Rattle.melt_core.proofs.machine.Core.advance_slowly.Goals as goal

pub returns-in_default-stage : goal.returns-in_default-stage
returns-in_default-stage g c =
    let none : NeedsNoRead (stage_of (view c.args.self.now) c.args.thread) =
    in_flight c.requires.may.disk (view c.args.self.now) c.args.thread c.args.op c.index.result.now c.in-Some.call
    c.requires.may.asks c.index.ensures c.in-Some.is c.in_default-stage.not-Missed c.in_default-stage.not-HeadRead in
    let event = unread (g.R.RecordReader.image c.args.reader.now) (g.R.RecordReader.faults c.args.reader.now)
    (g.R.RecordReader.reads c.args.reader.now) c.requires.may c.after_tag.ensures none in
    record {
      advances = event.advances;
      uses = event.uses;
      unused = λ reads_nothing. refl;
      image = refl;
      damage = event.damage;
    }
