-- What the threads of each kind do, as a function of what they draw.
use Rattle.std.specs.Prelude.{ℕ, zero, suc, ◌+◌, ◌-◌, ◌*◌, ◌/◌, ◌%◌, ◌^◌, ◌==◌, if◌then◌else◌, List, [], ◌∷◌, ◌++◌, map}
use Rattle.std.specs.Int.{w32, leading_zeros, bit_at}
use Rattle.std.specs.List.{range_with_len}
use Rattle.rand_xoshiro.specs.SplitMix64.{mix_u64}
use Rattle.melt_model.specs.declared.operations.Op.{Op}
use Rattle.melt_model.specs.declared.operations.Op.TheVariants as op
use Rattle.melt_trace.specs.declared.script.Item.{Item}
use Rattle.melt_trace.specs.declared.script.Item.TheVariants as item
use Rattle.melt_trace.specs.Script.{Script}
use Rattle.melt_gen.specs.declared.workload.Workload.{Workload}
use Rattle.melt_gen.specs.declared.workload.Workload.TheVariants as workload

-- ---- draws

-- the state of the generator after n draws, where the state was the seed before the first
abbrev pub state_after : (seed : ℕ) → (n : ℕ) → ℕ
state_after seed zero = seed
state_after seed (suc n) = (mix_u64 (state_after seed n)).1

-- the draws from a seed on, numbered from 0
unfoldable pub drawn : (seed : ℕ) → ℕ → ℕ
drawn seed n = (mix_u64 (state_after seed n)).0

-- ---- rounds

-- the operations of the rounds below number n
abbrev pub rounds : (ℕ → List Op) → (n : ℕ) → List Op
rounds round zero = []
rounds round (suc n) = rounds round n ++ round n

-- ---- list: each object goes to the front, and at the end the first eight are read

abbrev pub list_round : (thread : ℕ) → (word : ℕ) → ℕ → List Op
list_round t w k =
    op.New 0 1 2 ∷ op.Put 0 0 k ∷ op.Put 0 1 w ∷ op.GLoad 1 t ∷ op.Store 0 0 1 ∷ op.GStore t 0 ∷ op.Get 0 0 ∷ []

abbrev pub list_end : (thread : ℕ) → List Op
list_end t =
    op.GLoad 1 t ∷ op.Get 1 0 ∷ [] ++ rounds (λ i. op.Load 1 1 0 ∷ op.Get 1 0 ∷ []) 7 ++ op.Drop 0 ∷ op.Drop 1 ∷ []

-- ---- queue: each object goes after the last, and where the word is odd the first one leaves

abbrev pub front_round : (first : ℕ) → (word : ℕ) → ℕ → List Op
front_round a w zero = op.GStore a 0 ∷ []
front_round a w (suc k) = if w % 2 == 1 then op.GLoad 2 a ∷ op.Load 2 2 0 ∷ op.GStore a 2 ∷ [] else []

abbrev pub queue_round : (first : ℕ) → (last : ℕ) → (word : ℕ) → ℕ → List Op
queue_round a b w k =
    op.New 0 2 1 ∷ op.Put 0 0 k ∷ op.GLoad 1 b ∷ op.Store 1 0 0 ∷ op.Store 0 1 1 ∷ op.GStore b 0 ∷ []
    ++ front_round a w k

-- ---- table: each object goes to the front of the list that a word says, and in every sixteenth round one is read

abbrev pub table_start : (thread : ℕ) → List Op
table_start t = op.New 0 62 0 ∷ op.GStore t 0 ∷ []

abbrev pub look_round : (word : ℕ) → ℕ → List Op
look_round v k = if k % 16 == 15 then op.Load 2 0 (v % 4) ∷ op.Get 2 0 ∷ [] else []

abbrev pub table_round : (thread : ℕ) → (word : ℕ) → (second : ℕ) → ℕ → List Op
table_round t w v k =
    op.GLoad 0 t ∷ op.New 1 1 1 ∷ op.Put 1 0 k ∷ op.Load 2 0 (w % 62) ∷ op.Store 1 0 2 ∷ op.Store 0 (w % 62) 1 ∷ []
    ++ look_round v k

-- ---- tree: object k hangs where the binary digits of k + 1 lead from the root, from the second highest on

-- the place of the highest digit of n
abbrev pub highest : (n : ℕ) → ℕ
highest n = 31 - leading_zeros w32 n

-- the way by the digits of n from place i down to place 1
abbrev pub way : (n : ℕ) → (i : ℕ) → List Op
way n zero = []
way n (suc i) = op.Load 0 0 (bit_at n (suc i)) ∷ way n i

-- the object that the digits of n lead to
abbrev pub leaf : (thread : ℕ) → (word : ℕ) → (n : ℕ) → List Op
leaf t w n =
    op.GLoad 0 t ∷ [] ++ way n (highest n - 1) ++ op.New 1 2 1 ∷ op.Put 1 0 w ∷ op.Store 0 (n % 2) 1 ∷ []

abbrev pub tree_round : (thread : ℕ) → (word : ℕ) → ℕ → List Op
tree_round t w zero = op.New 0 2 1 ∷ op.Put 0 0 w ∷ op.GStore t 0 ∷ []
tree_round t w (suc k) = leaf t w (suc k + 1)

-- ---- programs and traces

-- the rounds of a kind, with the draws that they take
abbrev pub round_of : Workload → (thread : ℕ) → (draw : ℕ → ℕ) → ℕ → List Op
round_of workload.List t draw k = list_round t (draw k) k
round_of workload.Queue t draw k = queue_round (2 * t) (2 * t + 1) (draw (k - 1)) k
round_of workload.Table t draw k = table_round t (draw (k + k / 16)) (draw (k + k / 16 + 1)) k
round_of workload.Tree t draw k = tree_round t (draw k) k

unfoldable pub operations_of : Workload → (thread : ℕ) → (draw : ℕ → ℕ) → (size : ℕ) → List Op
operations_of workload.List t draw size = rounds (round_of workload.List t draw) size ++ list_end t
operations_of workload.Queue t draw size =
    rounds (round_of workload.Queue t draw) size ++ op.Drop 0 ∷ op.Drop 1 ∷ op.Drop 2 ∷ []
operations_of workload.Table t draw size =
    table_start t ++ rounds (round_of workload.Table t draw) size ++ op.Drop 0 ∷ op.Drop 1 ∷ op.Drop 2 ∷ []
operations_of workload.Tree t draw size = rounds (round_of workload.Tree t draw) size ++ op.Drop 0 ∷ op.Drop 1 ∷ []

abbrev pub globals_of : Workload → (threads : ℕ) → ℕ
globals_of workload.List threads = threads
globals_of workload.Queue threads = 2 * threads
globals_of workload.Table threads = threads
globals_of workload.Tree threads = threads

-- each thread draws from a seed of its own
abbrev pub program_of : Workload → (seed : ℕ) → (size : ℕ) → (thread : ℕ) → List Item
program_of kind seed size t = map item.Op (operations_of kind t (drawn ((seed + t) % 2 ^ 64)) size)

abbrev pub programs_of : Workload → (seed : ℕ) → (size : ℕ) → (threads : ℕ) → List (List Item)
programs_of kind seed size threads = map (program_of kind seed size) (range_with_len 0 threads)

abbrev pub generated : Workload → (seed : ℕ) → (size : ℕ) → (threads : ℕ) → Script
generated kind seed size threads = record {
  globals = globals_of kind threads;
  orders = [];
  programs = programs_of kind seed size threads;
}
