use Rattle.std.proofs.Common.{List, ap, sym, ◌∙◌, arith}
use Rattle.std.specs.Prelude.{drop, slice_get}
use Rattle.melt_model.specs.declared.operations.Op.{Op}
use Rattle.melt_trace.specs.declared.script.Item.TheVariants as item
use Rattle.melt_trace.proofs.Unrolling.{at_repeat, at_end, found_line, none_after, past_operation, past_repeat}
use Rattle.melt_trace.proofs.Unrolling.{past_end, end_smaller}
use Rattle.melt_trace.proofs.cursor.Cursor.next.Goals as goal

pub loop-op-init : goal.loop-op-init
loop-op-init c = record {
  globals_kept = ap (λ v. v.globals) c.self.view_is;
  left = ap (λ v. v.operations) c.self.view_is;
  underway = c.self.invariant;
}

pub invariant_of-self : goal.invariant_of-self
invariant_of-self c = c.loop-op.invariant.underway

pub returns-in_err-op-clause-operation : goal.returns-in_err-op-clause-operation
returns-in_err-op-clause-operation c =
    c.from_residual.ensures ∙ ap (λ (ops : List Op). slice_get ops 0)
    (sym (none_after c.args.self.now c.loop-op.self-inside.globals c.loop-op.self-inside.items.now
    c.loop-op.self-inside.open_blocks c.loop-op.self-inside.place c.loop-op.invariant c.in_err-op.ensures.lookup.3))

pub returns-in_err-op-clause-rest : goal.returns-in_err-op-clause-rest
returns-in_err-op-clause-rest c =
    let none = none_after c.args.self.now c.loop-op.self-inside.globals c.loop-op.self-inside.items.now
    c.loop-op.self-inside.open_blocks c.loop-op.self-inside.place c.loop-op.invariant
    c.in_err-op.ensures.lookup.3 in
    c.loop-op.invariant.left ∙ none ∙ ap (λ (ops : List Op). drop 1 ops) (sym none)

pub returns-in_err-op-clause-globals : goal.returns-in_err-op-clause-globals
returns-in_err-op-clause-globals c = c.loop-op.invariant.globals_kept

pub invariant_of-self-in-Op : goal.invariant_of-self-in-Op
invariant_of-self-in-Op c =
    (past_operation c.args.self.now c.loop-op.self-inside.globals c.loop-op.self-inside.items.now
    c.loop-op.self-inside.open_blocks c.loop-op.self-inside.place c.in-Op.op c.loop-op.invariant
    (found_line c.loop-op.self-inside.items.now c.loop-op.self-inside.place c.in_ok-op.field-0.now
    (item.Op c.in-Op.op) c.in_ok-op.ensures.lookup.3.0 c.in_ok-op.ensures.lookup.1 c.in-Op.is)).underway

pub returns-in-Op-clause-operation : goal.returns-in-Op-clause-operation
returns-in-Op-clause-operation c =
    (past_operation c.args.self.now c.loop-op.self-inside.globals c.loop-op.self-inside.items.now
    c.loop-op.self-inside.open_blocks c.loop-op.self-inside.place c.in-Op.op c.loop-op.invariant
    (found_line c.loop-op.self-inside.items.now c.loop-op.self-inside.place c.in_ok-op.field-0.now
    (item.Op c.in-Op.op) c.in_ok-op.ensures.lookup.3.0 c.in_ok-op.ensures.lookup.1 c.in-Op.is)).operation

pub returns-in-Op-clause-rest : goal.returns-in-Op-clause-rest
returns-in-Op-clause-rest c =
    (past_operation c.args.self.now c.loop-op.self-inside.globals c.loop-op.self-inside.items.now
    c.loop-op.self-inside.open_blocks c.loop-op.self-inside.place c.in-Op.op c.loop-op.invariant
    (found_line c.loop-op.self-inside.items.now c.loop-op.self-inside.place c.in_ok-op.field-0.now
    (item.Op c.in-Op.op) c.in_ok-op.ensures.lookup.3.0 c.in_ok-op.ensures.lookup.1 c.in-Op.is)).rest

pub returns-in-Op-clause-globals : goal.returns-in-Op-clause-globals
returns-in-Op-clause-globals c = c.loop-op.invariant.globals_kept

pub returns-in-Op-clause-in_range : goal.returns-in-Op-clause-in_range
returns-in-Op-clause-in_range c =
    (past_operation c.args.self.now c.loop-op.self-inside.globals c.loop-op.self-inside.items.now
    c.loop-op.self-inside.open_blocks c.loop-op.self-inside.place c.in-Op.op c.loop-op.invariant
    (found_line c.loop-op.self-inside.items.now c.loop-op.self-inside.place c.in_ok-op.field-0.now
    (item.Op c.in-Op.op) c.in_ok-op.ensures.lookup.3.0 c.in_ok-op.ensures.lookup.1 c.in-Op.is)).in_range

pub overflow_sub-turns : goal.overflow_sub-turns
overflow_sub-turns c =
    omega (
      arith,
      (at_repeat c.loop-op.self-inside.globals c.loop-op.self-inside.items.now
          c.loop-op.self-inside.open_blocks c.loop-op.self-inside.place c.in-Repeat.turns c.loop-op.invariant.underway
          (found_line c.loop-op.self-inside.items.now c.loop-op.self-inside.place c.in_ok-op.field-0.now
          (item.Repeat c.in-Repeat.turns) c.in_ok-op.ensures.lookup.3.0 c.in_ok-op.ensures.lookup.1
          c.in-Repeat.is)).some,
    )

pub enter-requires : goal.enter-requires
enter-requires c =
    (at_repeat c.loop-op.self-inside.globals c.loop-op.self-inside.items.now c.loop-op.self-inside.open_blocks
    c.loop-op.self-inside.place c.in-Repeat.turns c.loop-op.invariant.underway
    (found_line c.loop-op.self-inside.items.now c.loop-op.self-inside.place c.in_ok-op.field-0.now
    (item.Repeat c.in-Repeat.turns) c.in_ok-op.ensures.lookup.3.0 c.in_ok-op.ensures.lookup.1 c.in-Repeat.is)).few

pub loop-op-smaller-in-Repeat : goal.loop-op-smaller-in-Repeat
loop-op-smaller-in-Repeat c =
    (at_repeat c.loop-op.self-inside.globals c.loop-op.self-inside.items.now c.loop-op.self-inside.open_blocks
    c.loop-op.self-inside.place c.in-Repeat.turns c.loop-op.invariant.underway
    (found_line c.loop-op.self-inside.items.now c.loop-op.self-inside.place c.in_ok-op.field-0.now
    (item.Repeat c.in-Repeat.turns) c.in_ok-op.ensures.lookup.3.0 c.in_ok-op.ensures.lookup.1
    c.in-Repeat.is)).smaller

pub loop-op-preserved-in-Repeat : goal.loop-op-preserved-in-Repeat
loop-op-preserved-in-Repeat c =
    past_repeat c.in-Repeat.turns c.loop-op.invariant
    (found_line c.loop-op.self-inside.items.now c.loop-op.self-inside.place
    c.in_ok-op.field-0.now (item.Repeat c.in-Repeat.turns) c.in_ok-op.ensures.lookup.3.0 c.in_ok-op.ensures.lookup.1
    c.in-Repeat.is) c.enter.ensures

pub end-requires : goal.end-requires
end-requires c =
    (at_end c.loop-op.self-inside.globals c.loop-op.self-inside.items.now c.loop-op.self-inside.open_blocks
    c.loop-op.self-inside.place c.loop-op.invariant.underway
    (found_line c.loop-op.self-inside.items.now c.loop-op.self-inside.place c.in_ok-op.field-0.now item.End
    c.in_ok-op.ensures.lookup.3.0 c.in_ok-op.ensures.lookup.1 c.in-End.is)).0

pub loop-op-smaller : goal.loop-op-smaller
loop-op-smaller c =
    end_smaller c.loop-op.invariant.underway (found_line c.loop-op.self-inside.items.now c.loop-op.self-inside.place
    c.in_ok-op.field-0.now item.End c.in_ok-op.ensures.lookup.3.0 c.in_ok-op.ensures.lookup.1 c.in-End.is)
    (record { starts = c.end.ensures.start; leaves = c.end.ensures.after; leads = c.unwrap_or-self-inside.ensures })

pub loop-op-preserved : goal.loop-op-preserved
loop-op-preserved c =
    past_end c.loop-op.invariant
    (found_line c.loop-op.self-inside.items.now c.loop-op.self-inside.place c.in_ok-op.field-0.now item.End
    c.in_ok-op.ensures.lookup.3.0 c.in_ok-op.ensures.lookup.1 c.in-End.is)
    (record { starts = c.end.ensures.start; leaves = c.end.ensures.after; leads = c.unwrap_or-self-inside.ensures })
