use Rattle.std.proofs.Common.{◌∙◌, ap}
use Rattle.melt_epoch.specs.declared.mutator.Mutator.{Mutator}
use Rattle.melt_epoch_tests.proofs.world.new_mutator.Goals as goal

pub returns : goal.returns
returns g c =
    let is = c.set_reader.ensures in
    let new = c.new-mutator.ensures in
    record {
      thread_is = ap (λ (m : Mutator g.row.R.Denot). m.thread) is ∙ new.thread;
      unseated = ap (λ (m : Mutator g.row.R.Denot). m.seat) is ∙ new.seat;
      reader = c.args.reader;
      there = ap (λ (m : Mutator g.row.R.Denot). m.reader) is;
      registers = ap (λ (m : Mutator g.row.R.Denot). m.registers.regs) is ∙ new.registers;
      values = ap (λ (m : Mutator g.row.R.Denot). m.values) is ∙ new.values;
    }
