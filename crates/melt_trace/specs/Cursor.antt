-- One thread's way through its program.
use Rattle.std.specs.Prelude.{◌≡◌, ℕ, ◌-◌, Bool, true, false, List, [], ◌∷◌, ◌++◌, drop, Option, None, Some, slice_get}
use Rattle.std.specs.Prelude.{unwrap_or, cond, nat_lt}
use Rattle.melt_model.specs.declared.operations.Op.{Op}
use Rattle.melt_trace.specs.declared.script.Item.{Item}
use Rattle.melt_trace.specs.declared.script.Item.TheVariants as item
use Rattle.melt_trace.specs.declared.blocks.Block.{Block}
use Rattle.melt_trace.specs.Script.{times, levels, expand}
use Rattle.melt_trace.specs.Language.{AreItems}

-- the operations of a thread that are still to come, and the number of globals
pub record Ahead : Type 0 where
  pub globals : ℕ
  pub operations : List Op

-- What becomes of open blocks, the innermost first, where the innermost ends: the place where it starts again, if it
-- does, and the blocks that are open then.
abbrev pub block_end : List Block → Option ℕ × List Block
block_end [] = (None, [])
block_end (block ∷ around) =
    cond (nat_lt 0 block.turns) (Some block.start, record { start = block.start; turns = block.turns - 1 } ∷ around)
    (None, around)

-- the first list, these operations and the second list are one
abbrev pub joined : List Op → List (List Op) → List (List Op)
joined again [] = []
joined again (ops ∷ []) = ops ∷ []
joined again (ops ∷ rest ∷ around) = (ops ++ again ++ rest) ∷ around

-- The operations that are left, where these are the levels of the lines that are left: what is left of the innermost
-- block, then the whole of it as often as it is still to come, then what is left of the block around it, and so on.
abbrev pub left_of : List Item → List Block → List (List Op) → List Op
left_of items [] around = unwrap_or (slice_get around 0) []
left_of items (block ∷ blocks) around =
    left_of items blocks (joined (times block.turns (expand (drop block.start items))) around)

abbrev pub left_at : List Item → List Block → ℕ → List Op
left_at items blocks at = left_of items blocks (levels (drop at items))

abbrev pub begins_block : Option Item → Bool
begins_block None = false
begins_block (Some (item.Op o)) = false
begins_block (Some (item.Repeat n)) = true
begins_block (Some item.End) = false

-- whether the line before this place begins a block
abbrev pub is_entered : List Item → ℕ → Bool
is_entered items at = begins_block (slice_get items (at - 1))

-- a block of these lines, of which a place with these levels is a part
pub record IsBlock (globals : ℕ) (items : List Item) (start : ℕ) (outer : List Bool) (here : List (List Op)) : Type 0
  where
    pub lines : AreItems globals (false ∷ outer) (drop start items)
    pub around : drop 1 (levels (drop start items)) ≡ drop 1 here
    pub entered : is_entered items start ≡ true

-- these blocks are open where a place has these levels, each with whether it has an operation before that place
abbrev pub AreOpen : ℕ → List Item → List Block → List Bool → List (List Op) → Type 0
AreOpen globals items [] marks around = marks ≡ []
AreOpen globals items (block ∷ blocks) [] around = ⊥
AreOpen globals items (block ∷ blocks) (mark ∷ marks) around =
    IsBlock globals items block.start marks around × AreOpen globals items blocks marks (drop 1 around)

-- the innermost of these blocks, if there is one, has no operation yet
abbrev pub IsStillEmpty : List Bool → Type 0
IsStillEmpty [] = Unit {0}
IsStillEmpty (true ∷ marks) = ⊥
IsStillEmpty (false ∷ marks) = Unit {0}

-- a place in a program, and the blocks that are open there
pub record IsUnderway (globals : ℕ) (items : List Item) (blocks : List Block) (at : ℕ) : Type 0 where
  pub marks : List Bool
  pub lines : AreItems globals marks (drop at items)
  pub opened : AreOpen globals items blocks marks (levels (drop at items))
  pub fresh : is_entered items at ≡ true → IsStillEmpty marks
