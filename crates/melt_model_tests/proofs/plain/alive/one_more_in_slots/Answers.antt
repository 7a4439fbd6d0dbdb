use Rattle.std.proofs.Common.{subst, sym, below_more, arith}
use Rattle.std.proofs.lemmas.Option.{get_or_from_slice_get}
use Rattle.melt_model.proofs.AliveObjects.{slots_closed}
use Rattle.melt_model.specs.Plain.{Wrote}
use Rattle.melt_model.specs.declared.history.Act.TheVariants.{Make}
use Rattle.melt_model.specs.declared.history.Entry.{Entry}
use Rattle.melt_model_tests.proofs.plain.alive.one_more_in_slots.Goals as goal

pub loop-entry-preserved : goal.loop-entry-preserved
loop-entry-preserved c =
    let none : Entry = record { thread = 0; act = Make 0 0 } in
    below_more _ _ c.loop-entry.invariant (λ e is n wrote.
    c.in_default.ensures n (subst (λ (x : Entry). Wrote c.args.history.now c.args.objects.now x.act n)
    (sym (get_or_from_slice_get c.args.history.now c.loop-entry.entry-index e none is)) wrote))

pub returns : goal.returns
returns c = slots_closed c.args.history.now c.args.objects.now (λ p below. c.loop-entry.invariant p (omega arith))
