use Rattle.std.proofs.Common.{◌≡◌, ◌+◌, ◌%◌, ◌^◌, List, length, ℕ, ap, sym, ◌∙◌, arith}
use Rattle.std.proofs.lemmas.List.FromFn.{sum_by-map-range_with_len_more}
use Rattle.melt_trace.specs.declared.script.Item.{Item}
use Rattle.melt_trace.specs.Script.{expand}
use Rattle.melt_gen.specs.Workloads.{drawn, operations_of, program_of}
use Rattle.melt_gen.proofs.Lengths.{expand_operations}
use Rattle.melt_gen.proofs.counts.total_count.Goals as goal

pub loop-thread-preserved : goal.loop-thread-preserved
loop-thread-preserved c =
    let t = c.loop-thread.thread in
    let lines = program_of c.args.kind c.args.seed c.args.size in
    let draw = drawn ((c.args.seed + t) % 2 ^ 64) in
    let ops = operations_of c.args.kind t draw c.args.size in
    let one : c.count-total.result ≡ length (expand (lines t)) =
    c.count-total.ensures.value t
    ∙ ap (λ (s : ℕ). length (operations_of c.args.kind t (drawn s) c.args.size)) c.draws_of.ensures
    ∙ ap length (sym (expand_operations ops)) in
    let sum = sum_by-map-range_with_len_more (λ (items : List Item). length (expand items)) lines 0 t t (omega arith) in
    record {
      total = omega (arith, c.loop-thread.invariant.total, one, sum);
      within = omega (arith, c.loop-thread.invariant.within, c.count-total.ensures.within, c.requires.size);
    }
