-- What a trace says, and the operations that its programs stand for.
use Rattle.std.specs.Prelude.{ℕ, List, [], ◌∷◌, ◌++◌, zero, suc, unwrap_or, slice_get}
use Rattle.melt_model.specs.declared.operations.Op.{Op}
use Rattle.melt_trace.specs.declared.script.Item.{Item}
use Rattle.melt_trace.specs.declared.script.Item.TheVariants as item

-- What a trace says: the number of globals, the turns that are ordered first (a thread and a number of
-- events), and a program for each thread. A program is its lines: operations, and the first and the last
-- line of each block.
pub record Script : Type 0 where
  pub globals : ℕ
  pub orders : List (ℕ × ℕ)
  pub programs : List (List Item)

-- a block written out n times
abbrev pub times : ℕ → List Op → List Op
times zero block = []
times (suc n) block = block ++ times n block

-- one more operation before the first of these lists
abbrev pub before_first : Op → List (List Op) → List (List Op)
before_first o [] = []
before_first o (ops ∷ around) = (o ∷ ops) ∷ around

-- the first list n times, and then the second: a block, and what follows it
abbrev pub unrolled : ℕ → List (List Op) → List (List Op)
unrolled n [] = []
unrolled n (block ∷ []) = block ∷ []
unrolled n (block ∷ rest ∷ around) = (times n block ++ rest) ∷ around

-- Where these lines are the rest of a program: the operations up to the end of the block that is open
-- there, and then those after that block up to the end of the one around it, and so on.
abbrev pub levels : List Item → List (List Op)
levels [] = [] ∷ []
levels (item.Op o ∷ items) = before_first o (levels items)
levels (item.End ∷ items) = [] ∷ levels items
levels (item.Repeat n ∷ items) = unrolled n (levels items)

-- the operations of a program, each block written out as often as it says
abbrev pub expand : List Item → List Op
expand items = unwrap_or (slice_get (levels items) 0) []

-- the program of a thread, and its operations
abbrev pub program : Script → ℕ → List Item
program script t = unwrap_or (slice_get script.programs t) []

abbrev pub operations : Script → ℕ → List Op
operations script t = expand (program script t)
