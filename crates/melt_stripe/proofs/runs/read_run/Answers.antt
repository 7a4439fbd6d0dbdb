use Rattle.std.proofs.Common.{length, rules}
use Rattle.melt_stripe.proofs.Disks.{IsCall, call_reads, none_fell_on}
use Rattle.melt_stripe.proofs.runs.read_run.Goals as goal

pub returns-in-Ok-clause-words : goal.returns-in-Ok-clause-words
returns-in-Ok-clause-words g c =
    let call : IsCall c.args.readers.now c.disk_of-reader.result c.place_of.result c.args.word (length c.args.run.now) =
    record {
      some = c.requires.readers.0;
      more = c.requires.some;
      unit = c.requires.one_unit;
      disk = search rules;
      place = search rules;
      below = search rules;
    } in
    call_reads g.R.RecordReader.image c.args.readers.now c.disk_of-reader.result c.place_of.result c.args.word
    (length c.args.run.now) c.index-readers-reader.result call c.read_at.new.words c.in-Ok.ensures.words

pub returns-in-Ok-clause-faults : goal.returns-in-Ok-clause-faults
returns-in-Ok-clause-faults g c =
    none_fell_on g.R.RecordReader.faults c.args.readers.now c.disk_of-reader.result c.index-readers-reader.result
    c.read_at.new.self (search rules) c.in-Ok.ensures.count

pub returns-in-Err-clause-faults : goal.returns-in-Err-clause-faults
returns-in-Err-clause-faults g c =
    none_fell_on g.R.RecordReader.faults c.args.readers.now c.disk_of-reader.result c.index-readers-reader.result
    c.read_at.new.self (search rules) c.in-Err.ensures.count
