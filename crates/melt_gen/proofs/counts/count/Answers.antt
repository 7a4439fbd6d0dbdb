use Rattle.std.proofs.Common.{length, ap, sym, ◌∙◌}
use Rattle.melt_gen.specs.Workloads.{drawn, operations_of}
use Rattle.melt_gen.proofs.Lengths.{length-list, length-table}
use Rattle.melt_gen.proofs.counts.count.Goals as goal

pub returns-in-List-clause-value : goal.returns-in-List-clause-value
returns-in-List-clause-value c = λ t.
    let size = c.args.size in
    let draw = drawn c.args.draws in
    sym (length-list t draw size) ∙ ap (λ kind. length (operations_of kind t draw size)) (sym c.in-List.is)

pub returns-in-Table-clause-value : goal.returns-in-Table-clause-value
returns-in-Table-clause-value c = λ t.
    let size = c.args.size in
    let draw = drawn c.args.draws in
    sym (length-table t draw size) ∙ ap (λ kind. length (operations_of kind t draw size)) (sym c.in-Table.is)
