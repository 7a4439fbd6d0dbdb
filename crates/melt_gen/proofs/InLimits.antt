-- A trace that is made is within the limits of traces.
use Rattle.std.proofs.Common.{ℕ, zero, suc, ◌+◌, ◌*◌, ◌-◌, ◌/◌, ◌%◌, ◌^◌, ◌<◌, ◌≤◌, List, [], ◌∷◌, ◌++◌, map, inl}
use Rattle.std.proofs.Common.{inr, refl, arith, rules}
use Rattle.std.proofs.lemmas.Nat.{xor_lt, shr_le}
use Rattle.std.proofs.lemmas.Bool.Decides.{eqb_tells}
use Rattle.std.proofs.lemmas.List.FromFn.{length-map-range_with_len}
use Rattle.std.specs.List.{AllByRecursion, range_with_len}
use Rattle.rand_xoshiro.specs.SplitMix64.{next_state, fold_mul}
use Rattle.melt_model.specs.declared.operations.Op.{Op}
use Rattle.melt_model.specs.declared.operations.Op.TheVariants as op
use Rattle.melt_trace.specs.declared.script.Item.TheVariants as item
use Rattle.melt_trace.specs.Grammar.{InRange}
use Rattle.melt_trace.specs.Language.{AreItems, IsScript, operation_count}
use Rattle.melt_gen.specs.declared.workload.Workload.{Workload}
use Rattle.melt_gen.specs.declared.workload.Workload.TheVariants as workload
use Rattle.melt_gen.specs.Workloads.{drawn, state_after, rounds, round_of, operations_of, program_of, programs_of}
use Rattle.melt_gen.specs.Workloads.{generated, globals_of}
use Rattle.melt_gen.specs.Workloads.{list_round, list_end, front_round, queue_round, look_round, table_start}
use Rattle.melt_gen.specs.Workloads.{table_round, way, leaf, tree_round, highest}

-- ---- draws

draw_fits : (seed n : ℕ) → drawn seed n < 2 ^ 64
unfolding drawn
draw_fits seed n =
    let z = fold_mul (fold_mul (next_state (state_after seed n)) 30 0xbf58476d1ce4e5b9) 27 0x94d049bb133111eb in
    let small : z < 2 ^ 64 = omega arith in
    xor_lt 64 z (z / 2 ^ 31) small (omega (arith, shr_le z 31))

-- ---- lists of operations

all-append : (P : Op → Type 0) (xs ys : List Op) → AllByRecursion P xs → AllByRecursion P ys
    → AllByRecursion P (xs ++ ys)
all-append P [] ys a b = b
all-append P (x ∷ xs) ys a b = (a.0, all-append P xs ys a.1 b)

all-rounds : (P : Op → Type 0) (round : ℕ → List Op) (n : ℕ) → ((k : ℕ) → k < n → AllByRecursion P (round k))
    → AllByRecursion P (rounds round n)
all-rounds P round zero each = tt
all-rounds P round (suc n) each =
    all-append P (rounds round n) (round n) (all-rounds P round n (λ k below. each k (omega arith)))
    (each n (omega arith))

list_in_range : (g t w k : ℕ) → t < g → w < 2 ^ 64 → k < 2 ^ 64 → AllByRecursion (InRange g) (list_round t w k)
list_in_range g t w k in_g fits small = search rules

list_end_in_range : (g t : ℕ) → t < g → AllByRecursion (InRange g) (list_end t)
list_end_in_range g t in_g = search rules

front_in_range : (g a w k : ℕ) → a < g → AllByRecursion (InRange g) (front_round a w k)
front_in_range g a w zero in_g = search rules
front_in_range g a w (suc k) in_g = elim (eqb_tells (w % 2) 1) [
  | inl is ↦ rw (is.0) (search rules)
  | inr is ↦ rw (is.0) tt
]

queue_in_range : (g a b w k : ℕ) → a < g → b < g → k < 2 ^ 64 → AllByRecursion (InRange g) (queue_round a b w k)
queue_in_range g a b w k a_in b_in small =
    let object = op.New 0 2 1 ∷ op.Put 0 0 k ∷ op.GLoad 1 b ∷ op.Store 1 0 0 ∷ op.Store 0 1 1 ∷ op.GStore b 0 ∷ [] in
    all-append (InRange g) object (front_round a w k) (search rules) (front_in_range g a w k a_in)

look_in_range : (g v k : ℕ) → AllByRecursion (InRange g) (look_round v k)
look_in_range g v k = elim (eqb_tells (k % 16) 15) [
  | inl is ↦ rw (is.0) (search rules)
  | inr is ↦ rw (is.0) tt
]

table_in_range : (g t w v k : ℕ) → t < g → k < 2 ^ 64 → AllByRecursion (InRange g) (table_round t w v k)
table_in_range g t w v k in_g small =
    let b = w % 62 in
    let object = op.GLoad 0 t ∷ op.New 1 1 1 ∷ op.Put 1 0 k ∷ op.Load 2 0 b ∷ op.Store 1 0 2 ∷ op.Store 0 b 1 ∷ [] in
    all-append (InRange g) object (look_round v k) (search rules) (look_in_range g v k)

way_in_range : (g n i : ℕ) → AllByRecursion (InRange g) (way n i)
way_in_range g n zero = tt
way_in_range g n (suc i) = ((omega arith, omega arith, omega arith), way_in_range g n i)

leaf_in_range : (g t w n : ℕ) → t < g → w < 2 ^ 64 → AllByRecursion (InRange g) (leaf t w n)
leaf_in_range g t w n in_g fits =
    let down = way n (highest n - 1) in
    let object = op.New 1 2 1 ∷ op.Put 1 0 w ∷ op.Store 0 (n % 2) 1 ∷ [] in
    all-append (InRange g) (op.GLoad 0 t ∷ down) object ((omega arith, in_g), way_in_range g n (highest n - 1))
    (search rules)

tree_in_range : (g t w k : ℕ) → t < g → w < 2 ^ 64 → AllByRecursion (InRange g) (tree_round t w k)
tree_in_range g t w zero in_g fits = search rules
tree_in_range g t w (suc k) in_g fits = leaf_in_range g t w (suc k + 1) in_g fits

-- ---- programs

operations_in_range : (kind : Workload) (t size threads : ℕ) (draw : ℕ → ℕ) → t < threads → size ≤ 100000
    → ((n : ℕ) → draw n < 2 ^ 64)
    → AllByRecursion (InRange (globals_of kind threads)) (operations_of kind t draw size)
unfolding operations_of
operations_in_range workload.List t size threads draw in_g few fits =
    let round = round_of workload.List t draw in
    all-append (InRange threads) (rounds round size) (list_end t)
    (all-rounds (InRange threads) round size
    (λ k below. list_in_range threads t (draw k) k in_g (fits k) (omega arith)))
    (list_end_in_range threads t in_g)
operations_in_range workload.Queue t size threads draw in_g few fits =
    let round = round_of workload.Queue t draw in
    all-append (InRange (2 * threads)) (rounds round size) (op.Drop 0 ∷ op.Drop 1 ∷ op.Drop 2 ∷ [])
    (all-rounds (InRange (2 * threads)) round size
    (λ k below. queue_in_range (2 * threads) (2 * t) (2 * t + 1) (draw (k - 1)) k (omega arith) (omega arith)
    (omega arith)))
    (search rules)
operations_in_range workload.Table t size threads draw in_g few fits =
    let round = round_of workload.Table t draw in
    all-append (InRange threads) (table_start t ++ rounds round size) (op.Drop 0 ∷ op.Drop 1 ∷ op.Drop 2 ∷ [])
    (all-append (InRange threads) (table_start t) (rounds round size) (search rules)
    (all-rounds (InRange threads) round size
    (λ k below. table_in_range threads t (draw (k + k / 16)) (draw (k + k / 16 + 1)) k in_g (omega arith))))
    (search rules)
operations_in_range workload.Tree t size threads draw in_g few fits =
    let round = round_of workload.Tree t draw in
    all-append (InRange threads) (rounds round size) (op.Drop 0 ∷ op.Drop 1 ∷ [])
    (all-rounds (InRange threads) round size (λ k below. tree_in_range threads t (draw k) k in_g (fits k)))
    (search rules)

are_items : (g : ℕ) (ops : List Op) → AllByRecursion (InRange g) ops → AreItems g [] (map item.Op ops)
are_items g [] all = refl
are_items g (o ∷ ops) all = (all.0, are_items g ops all.1)

-- ---- the whole trace

all-threads : {X : Type 0} (P : X → Type 0) (f : ℕ → X) (from n : ℕ) → ((t : ℕ) → t < from + n → P (f t))
    → AllByRecursion P (map f (range_with_len from n))
all-threads P f from zero each = tt
all-threads P f from (suc n) each =
    (each from (omega arith), all-threads P f (from + 1) n (λ t below. each t (omega arith)))

globals-few : (kind : Workload) (threads : ℕ) → threads ≤ 8 → globals_of kind threads ≤ 64
globals-few workload.List threads few = omega arith
globals-few workload.Queue threads few = omega arith
globals-few workload.Table threads few = omega arith
globals-few workload.Tree threads few = omega arith

pub is_script : (kind : Workload) (seed size threads : ℕ) → size ≤ 100000 → 1 ≤ threads → threads ≤ 8
    → operation_count (programs_of kind seed size threads) ≤ 1048576
    → IsScript (generated kind seed size threads)
is_script kind seed size threads few some few_threads count =
    let many = length-map-range_with_len (program_of kind seed size) 0 threads in
    record {
      some = omega (arith, many);
      few = omega (arith, many);
      globals = globals-few kind threads few_threads;
      few_orders = omega arith;
      orders = tt;
      programs = all-threads (AreItems (globals_of kind threads) []) (program_of kind seed size) 0 threads (λ t below.
          are_items (globals_of kind threads) _
          (operations_in_range kind t size threads (drawn ((seed + t) % 2 ^ 64)) (omega arith) few
          (draw_fits ((seed + t) % 2 ^ 64))));
      count = count;
    }
