use Rattle.std.proofs.Common.{◌≡◌, ◌∷◌, [], ◌++◌, ℕ, length, vec_len, map, ap, sym, ◌∙◌, arith}
use Rattle.std.proofs.lemmas.List.{length-map}
use Rattle.std.proofs.lemmas.List.FromFn.{map-range_with_len_more}
use Rattle.melt_trace.specs.declared.script.Item.TheVariants as item
use Rattle.melt_trace.specs.Script.{expand}
use Rattle.melt_gen.specs.Workloads.{drawn, operations_of, program_of, programs_of}
use Rattle.melt_gen.proofs.Lengths.{expand_operations}
use Rattle.melt_gen.proofs.making.programs.Goals as goal

pub new-requires : goal.new-requires
new-requires c =
    let ops = operations_of c.args.kind c.loop-thread.thread (drawn c.draws_of.result) c.args.size in
    let lines = c.in_ok-items.ensures in
    let items = c.in_ok-items.items in
    let len : length items.items ≡ vec_len items = cc (items.ok.0) in
    omega (
      arith,
      c.len-count.ensures,
      len,
      ap length lines,
      length-map ops item.Op,
      ap
          (λ items. length (expand items)) lines,
      ap length (expand_operations ops),
    )

pub loop-thread-preserved : goal.loop-thread-preserved
loop-thread-preserved c =
    let t = c.loop-thread.thread in
    let lines = program_of c.args.kind c.args.seed c.args.size in
    let one = c.in_ok-items.ensures
    ∙ ap (λ (s : ℕ). map item.Op (operations_of c.args.kind t (drawn s) c.args.size)) c.draws_of.ensures in
    c.in_ok-push.ensures.items
    ∙ ap (λ programs. programs ++ c.new.result ∷ []) c.loop-thread.invariant
    ∙ ap (λ program. programs_of c.args.kind c.args.seed c.args.size t ++ program ∷ []) (c.new.ensures ∙ one)
    ∙ sym (map-range_with_len_more lines 0 t t (omega arith))
