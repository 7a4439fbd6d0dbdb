-- The bytes of a trace.
use Rattle.std.specs.Prelude.{ℕ, ◌+◌, ◌^◌, ◌<◌, ◌≤◌, List, [], ◌∷◌, ◌++◌, length, codes}
use Rattle.std.specs.List.{flat_map}
use Rattle.melt_text.specs.Printed.{line}
use Rattle.melt_model.specs.declared.operations.Op.{Op}
use Rattle.melt_model.specs.declared.operations.Op.TheVariants as op
use Rattle.melt_trace.specs.declared.script.Item.{Item}
use Rattle.melt_trace.specs.declared.script.Item.TheVariants as item
use Rattle.melt_trace.specs.Script.{Script}

abbrev pub op_line : Op → List ℕ
op_line (op.New dst refs nums) = line (codes "new") (dst ∷ refs ∷ nums ∷ [])
op_line (op.Load dst src i) = line (codes "load") (dst ∷ src ∷ i ∷ [])
op_line (op.Store obj i src) = line (codes "store") (obj ∷ i ∷ src ∷ [])
op_line (op.Get src j) = line (codes "get") (src ∷ j ∷ [])
op_line (op.Put obj j v) = line (codes "put") (obj ∷ j ∷ v ∷ [])
op_line (op.GLoad dst g) = line (codes "gload") (dst ∷ g ∷ [])
op_line (op.GStore g src) = line (codes "gstore") (g ∷ src ∷ [])
op_line (op.Same a b) = line (codes "same") (a ∷ b ∷ [])
op_line (op.Copy dst src) = line (codes "copy") (dst ∷ src ∷ [])
op_line (op.Drop r) = line (codes "drop") (r ∷ [])
op_line op.Collect = line (codes "collect") []

abbrev pub item_line : Item → List ℕ
item_line (item.Op o) = op_line o
item_line (item.Repeat n) = line (codes "repeat") (n ∷ [])
item_line item.End = line (codes "end") []

-- the programs of thread t and of those after it
abbrev pub program_lines : ℕ → List (List Item) → List ℕ
program_lines t [] = []
program_lines t (program ∷ programs) =
    line (codes "thread") (t ∷ []) ++ flat_map item_line program ++ line (codes "done") []
    ++ program_lines (t + 1) programs

-- the canonical text of a trace
abbrev pub canonical : Script → List ℕ
canonical script =
    line (codes "melt") (1 ∷ []) ++ line (codes "threads") (length script.programs ∷ [])
    ++ line (codes "globals") (script.globals ∷ [])
    ++ flat_map (λ order. line (codes "order") (order.0 ∷ order.1 ∷ [])) script.orders
    ++ program_lines 0 script.programs

-- registers are 0 to 15, and an object has at most 62 parts of a kind; places of parts are 0 to 63
abbrev pub InRange : ℕ → Op → Type 0
InRange globals (op.New dst refs nums) = (dst < 16) × (refs ≤ 62) × (nums ≤ 62)
InRange globals (op.Load dst src i) = (dst < 16) × (src < 16) × (i ≤ 63)
InRange globals (op.Store obj i src) = (obj < 16) × (i ≤ 63) × (src < 16)
InRange globals (op.Get src j) = (src < 16) × (j ≤ 63)
InRange globals (op.Put obj j v) = (obj < 16) × (j ≤ 63) × (v < 2 ^ 64)
InRange globals (op.GLoad dst g) = (dst < 16) × (g < globals)
InRange globals (op.GStore g src) = (g < globals) × (src < 16)
InRange globals (op.Same a b) = (a < 16) × (b < 16)
InRange globals (op.Copy dst src) = (dst < 16) × (src < 16)
InRange globals (op.Drop r) = r < 16
InRange globals op.Collect = Unit {0}
