-- What a script that is being read stands for.
use Rattle.std.specs.Prelude.{◌≡◌, ℕ, ◌<◌, ◌≤◌, ◌+◌, ◌-◌, ◌*◌, ◌^◌, min, Bool, nat_lt, List, [], ◌∷◌, ◌++◌, length, map}
use Rattle.std.specs.Prelude.{Result, Ok, Err}
use Rattle.melt_trace.specs.declared.script.Item.{Item}
use Rattle.melt_trace.specs.declared.parser.fault.Fault.{Fault}
use Rattle.melt_trace.specs.declared.parser.fault.Fault.TheVariants as fault
use Rattle.melt_trace.specs.declared.parser.draft.Block.{Block}
use Rattle.melt_trace.specs.declared.parser.draft.Draft.{Draft}
use Rattle.melt_trace.specs.Reasons.{number_of_reason}
use Rattle.melt_trace.specs.Script.{levels}
use Rattle.melt_text.specs.Lines.{lines_of}
use Rattle.melt_trace.specs.Language.{Place, operation_count, first_place, script_from}

-- ---- the place

-- the open blocks, where the innermost has this many operations
abbrev pub blocks_of : ℕ → List Block → List Bool
blocks_of count [] = []
blocks_of count (block ∷ around) = nat_lt 0 count ∷ blocks_of block.before around

abbrev pub programs_so_far : Draft → List (List Item)
programs_so_far draft = draft.programs.items

abbrev pub place_of : Draft → Place
place_of draft = record {
  stage = draft.stage;
  threads = draft.threads;
  script = record { globals = draft.globals; orders = draft.orders.items; programs = programs_so_far draft };
  items = draft.items.items;
  blocks = blocks_of draft.count draft.blocks.items;
}

-- ---- the counts

-- how many operations the levels of the rest of a program have
abbrev pub lengths_of : List Item → List ℕ
lengths_of items = map length (levels items)

abbrev pub add_first : ℕ → List ℕ → List ℕ
add_first n [] = []
add_first n (l ∷ ls) = (n + l) ∷ ls

abbrev pub copies : ℕ → List ℕ → List ℕ
copies n [] = []
copies n (block ∷ []) = block ∷ []
copies n (block ∷ rest ∷ around) = (n * block + rest) ∷ around

-- The lengths of a whole program, from those of its rest, where the blocks around the rest stand so often and
-- have so many operations in front of them.
abbrev pub closing : ℕ → List (ℕ × ℕ) → List ℕ → List ℕ
closing count [] ls = add_first count ls
closing count (block ∷ around) ls = closing block.1 around (copies block.0 (add_first count ls))

abbrev pub CountsOperations : List Item → ℕ → List (ℕ × ℕ) → Type 0
CountsOperations items count around = (rest : List Item)
    → lengths_of (items ++ rest) ≡ closing count around (lengths_of rest)

-- a count that stays at the highest number of 32 bits
abbrev pub capped : ℕ → ℕ
capped n = min n (2 ^ 32 - 1)

abbrev pub AreCapped : List (ℕ × ℕ) → List Block → Type 0
AreCapped [] [] = Unit {0}
AreCapped [] (block ∷ blocks) = ⊥
AreCapped (exact ∷ around) [] = ⊥
AreCapped (exact ∷ around) (block ∷ blocks) = (block.times ≡ exact.0) × (0 < exact.0) × (block.before ≡ capped exact.1)
    × AreCapped around blocks

-- The counts of the open program. No fact of the draft says how many there really are where they are capped.
pub record IsTallied (items : List Item) (count : ℕ) (blocks : List Block) : Type 0 where
  pub exact : ℕ
  pub around : List (ℕ × ℕ)
  pub counts : CountsOperations items exact around
  pub capped_count : count ≡ capped exact
  pub capped_blocks : AreCapped around blocks

pub record IsSoundDraft (draft : Draft) : Type 0 where
  pub globals : draft.globals ≤ 64
  pub tallied : IsTallied draft.items.items draft.count draft.blocks.items
  pub total : draft.total ≡ operation_count (programs_so_far draft)
  pub few : draft.total ≤ 1048576

-- ---- one line

-- a line was taken as reading does, unless memory ran out
abbrev pub LeadsTo : {X : Type 0} → Result X Fault → Draft → Result Place ℕ → Type 0
LeadsTo (Ok x) draft read = (read ≡ Ok (place_of draft)) × IsSoundDraft draft
LeadsTo (Err (fault.Bad reason)) draft read = read ≡ Err (number_of_reason reason)
LeadsTo (Err fault.NoMemory) draft read = Unit {0}

-- The first line of the bytes was taken: the rest says after it what all of them say before it.
pub record IsTaken (bytes : List ℕ) (old new : Draft) (rest : List ℕ) : Type 0 where
  pub sound : IsSoundDraft new
  pub same : (n : ℕ) → script_from n (place_of old) (lines_of bytes)
      ≡ script_from (n + 1) (place_of new) (lines_of rest)
  pub shorter : length rest < length bytes

-- the first line of the bytes was taken as reading does, and what is left was answered, unless memory ran out
abbrev pub TakesLine : {X : Type 0} → (X → List ℕ) → Result X Fault → List ℕ → Draft → Draft → Type 0
TakesLine view (Ok x) bytes old new = IsTaken bytes old new (view x)
TakesLine view (Err (fault.Bad reason)) bytes old new = (n : ℕ)
    → script_from n (place_of old) (lines_of bytes) ≡ Err (n, number_of_reason reason)
TakesLine view (Err fault.NoMemory) bytes old new = Unit {0}

-- the lines that are left lead to what all lines say
pub record IsReadTo (bytes : List ℕ) (draft : Draft) (rest : List ℕ) (number : ℕ) : Type 0 where
  pub sound : IsSoundDraft draft
  pub same : script_from number (place_of draft) (lines_of rest) ≡ script_from 1 first_place (lines_of bytes)
  pub few : number + length rest ≤ 1 + length bytes
