-- How many operations rounds, threads and traces have.
use Rattle.std.proofs.Common.{◌≡◌, ℕ, zero, suc, ◌+◌, ◌-◌, ◌*◌, ◌/◌, ◌%◌, ◌^◌, ◌<◌, ◌≤◌, List, [], ◌∷◌, length, map}
use Rattle.std.proofs.Common.{inl, inr, refl, ap, ◌∙◌, arith, length-append}
use Rattle.std.proofs.lemmas.Bool.Decides.{eqb_tells}
use Rattle.melt_model.specs.declared.operations.Op.{Op}
use Rattle.melt_model.specs.declared.operations.Op.TheVariants as op
use Rattle.melt_trace.specs.declared.script.Item.TheVariants as item
use Rattle.melt_trace.specs.Script.{expand, levels, before_first}
use Rattle.melt_gen.specs.declared.workload.Workload.TheVariants as workload
use Rattle.melt_gen.specs.Workloads.{rounds, round_of, list_end, look_round, way, leaf, highest}
use Rattle.melt_gen.specs.Workloads.{operations_of}
use Rattle.melt_gen.proofs.Branches.{look_sixteenth, look_other}
use Rattle.melt_gen.proofs.Writing.{next_round}

-- one more round
pub length-next_round : (round : ℕ → List Op) (k : ℕ)
    → length (rounds round (k + 1)) ≡ length (rounds round k) + length (round k)
length-next_round round k = ap length (next_round round k) ∙ length-append (rounds round k) (round k)

-- ---- list

length-list_rounds : (t : ℕ) (draw : ℕ → ℕ) (n : ℕ) → length (rounds (round_of workload.List t draw) n) ≡ 7 * n
length-list_rounds t draw zero = refl
length-list_rounds t draw (suc n) =
    let round = round_of workload.List t draw in
    omega (arith, length-append (rounds round n) (round n), length-list_rounds t draw n)

pub length-list : (t : ℕ) (draw : ℕ → ℕ) (n : ℕ) → length (operations_of workload.List t draw n) ≡ 7 * n + 18
unfolding operations_of
length-list t draw n =
    let round = round_of workload.List t draw in
    omega (arith, length-append (rounds round n) (list_end t), length-list_rounds t draw n)

-- ---- table

length-look : (v k : ℕ) → length (look_round v k) + k / 16 * 2 ≡ (k + 1) / 16 * 2
length-look v k = elim (eqb_tells (k % 16) 15) [
  | inl is ↦ omega (arith, ap length (look_sixteenth v k is.1))
  | inr is ↦ omega (arith, ap length (look_other v k is.1))
]

length-table_rounds : (t : ℕ) (draw : ℕ → ℕ) (n : ℕ)
    → length (rounds (round_of workload.Table t draw) n) ≡ 6 * n + n / 16 * 2
length-table_rounds t draw zero = refl
length-table_rounds t draw (suc n) =
    let round = round_of workload.Table t draw in
    omega (
      arith,
      length-append (rounds round n) (round n),
      length-table_rounds t draw n,
      length-look (draw (n + n / 16 + 1)) n,
    )

pub length-table : (t : ℕ) (draw : ℕ → ℕ) (n : ℕ)
    → length (operations_of workload.Table t draw n) ≡ 6 * n + n / 16 * 2 + 5
unfolding operations_of
length-table t draw n =
    let round = round_of workload.Table t draw in
    omega (arith, length-append (rounds round n) (op.Drop 0 ∷ op.Drop 1 ∷ op.Drop 2 ∷ []), length-table_rounds t draw n)

-- ---- queue and tree

pub length-queue : (t : ℕ) (draw : ℕ → ℕ) (n : ℕ)
    → length (operations_of workload.Queue t draw n) ≡ length (rounds (round_of workload.Queue t draw) n) + 3
unfolding operations_of
length-queue t draw n = length-append (rounds (round_of workload.Queue t draw) n) _

pub length-tree : (t : ℕ) (draw : ℕ → ℕ) (n : ℕ)
    → length (operations_of workload.Tree t draw n) ≡ length (rounds (round_of workload.Tree t draw) n) + 2
unfolding operations_of
length-tree t draw n = length-append (rounds (round_of workload.Tree t draw) n) _

length-way : (n i : ℕ) → length (way n i) ≡ i
length-way n zero = refl
length-way n (suc i) = ap suc (length-way n i)

pub length-leaf : (t w n : ℕ) → 0 < highest n → length (leaf t w n) ≡ highest n + 3
length-leaf t w n some =
    let last = op.New 1 2 1 ∷ op.Put 1 0 w ∷ op.Store 0 (n % 2) 1 ∷ [] in
    omega (arith, length-append (way n (highest n - 1)) last, length-way n (highest n - 1))

pub some_place : (n i : ℕ) → 2 ≤ n → n < 2 * 2 ^ i → 0 < i
some_place n zero low high = absurd (omega arith)
some_place n (suc i) low high = omega arith

-- ---- traces

levels_without_blocks : (ops : List Op) → levels (map item.Op ops) ≡ ops ∷ []
levels_without_blocks [] = refl
levels_without_blocks (o ∷ ops) = ap (before_first o) (levels_without_blocks ops)

-- lines without blocks stand for themselves
pub expand_operations : (ops : List Op) → expand (map item.Op ops) ≡ ops
expand_operations ops = rw (levels_without_blocks ops) refl
