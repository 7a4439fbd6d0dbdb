use Rattle.std.proofs.Common.{true, false, ap, ◌∙◌}
use Rattle.std.specs.Prelude.{slice_index}
use Rattle.melt_model.specs.Thread.{value_in}
use Rattle.melt_rule.specs.Seats.{knows_of}
use Rattle.melt_rule.specs.declared.began.Began.{Began}
use Rattle.melt_epoch.proofs.Holding.{equal_values, other_values, same_answers}
use Rattle.melt_epoch.proofs.mutator.Mutator.same.Goals as goal

pub returns-then-self-a : goal.returns-then-self-a
returns-then-self-a g c = record {
  answers = λ words h seated told.
      let m = c.args.self.now in
      let a = c.args.a in
      let b = c.args.b in
      same_answers m.thread h m.values a b true
      (equal_values (knows_of seated.seat) (slice_index m.registers.regs a) (slice_index m.registers.regs b)
      (value_in m.values a) (value_in m.values b) seated.idle.is_seat.within (seated.registers a) (seated.registers b)
      c.if-self-a.true);
}

pub returns-else-self-a : goal.returns-else-self-a
returns-else-self-a g c = record {
  answers = λ words h seated told.
      let m = c.args.self.now in
      let a = c.args.a in
      let b = c.args.b in
      same_answers m.thread h m.values a b false
      (other_values (knows_of seated.seat) (slice_index m.registers.regs a) (slice_index m.registers.regs b)
      (value_in m.values a) (value_in m.values b) seated.idle.is_seat.within
      (ap (λ (x : Began). x.told) seated.idle.is_seat.began ∙ told)
      (seated.registers a) (seated.registers b) c.if-self-a.false);
}
