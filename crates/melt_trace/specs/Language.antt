-- The grammar of traces: which line may stand after which, and what the lines say together.
use Rattle.std.specs.Prelude.{◌≡◌, ℕ, ◌<◌, ◌≤◌, ◌+◌, ◌^◌, ◌*◌, ◌-◌, Bool, true, false, not, ◌&&◌, ◌||◌, ◌==◌, nat_lt}
use Rattle.std.specs.Prelude.{nat_le, if◌then◌else◌, zero, suc, List, [], ◌∷◌, ◌++◌, length, sum_by, codes}
use Rattle.std.specs.Prelude.{Option, None, Some, Result, Ok, Err}
use Rattle.std.specs.List.{list_all, AllByRecursion}
use Rattle.std.specs.Str.{bytes_eq}
use Rattle.melt_model.specs.declared.operations.Op.{Op}
use Rattle.melt_model.specs.declared.operations.Op.TheVariants as op
use Rattle.melt_trace.specs.declared.script.Item.{Item}
use Rattle.melt_trace.specs.declared.script.Item.TheVariants as item
use Rattle.melt_trace.specs.declared.language.Word.{Word}
use Rattle.melt_trace.specs.declared.language.Word.TheVariants as word
use Rattle.melt_trace.specs.declared.language.Expected.{Expected}
use Rattle.melt_trace.specs.declared.language.Expected.TheVariants as stage
use Rattle.melt_text.specs.Lines.{lines_of, fields_of, is_printable}
use Rattle.melt_text.specs.Numbers.{number_of}
use Rattle.melt_trace.specs.Script.{Script, expand}
use Rattle.melt_trace.specs.Grammar.{InRange}

-- 1. Lines that say nothing

-- a line without fields, or a comment
abbrev pub is_skipped : List (List ℕ) → Bool
is_skipped [] = true
is_skipped ([] ∷ fields) = false
is_skipped ((b ∷ bytes) ∷ fields) = b == 35

-- 2. One line by itself

-- what a number may be, and the reason to refuse another
pub record Range : Type 0 where
  pub low : ℕ
  pub high : ℕ
  pub reason : ℕ

abbrev pub register : Range
register = record { low = 0; high = 15; reason = 9 }

abbrev pub from_to : ℕ → ℕ → Range
from_to low high = record { low = low; high = high; reason = 10 }

abbrev pub within : Range → ℕ → Bool
within range n = nat_le range.low n && nat_le n range.high

abbrev pub checked : Range → Option ℕ → Result ℕ ℕ
checked range None = Err 8
checked range (Some n) = if within range n then Ok n else Err range.reason

abbrev pub numbers_with : Result ℕ ℕ → Result (List ℕ) ℕ → Result (List ℕ) ℕ
numbers_with (Err reason) rest = Err reason
numbers_with (Ok n) (Err reason) = Err reason
numbers_with (Ok n) (Ok ns) = Ok (n ∷ ns)

-- the numbers of a line, from left to right
abbrev pub numbers_in : List Range → List (List ℕ) → Result (List ℕ) ℕ
numbers_in [] [] = Ok []
numbers_in [] (field ∷ fields) = Err 7
numbers_in (range ∷ ranges) [] = Err 7
numbers_in (range ∷ ranges) (field ∷ fields) = numbers_with (checked range (number_of field)) (numbers_in ranges fields)

-- another number of fields is told before what a field holds
abbrev pub numbers : List Range → List (List ℕ) → Result (List ℕ) ℕ
numbers ranges fields = if length fields == length ranges then numbers_in ranges fields else Err 7

abbrev pub one_of : List (List ℕ × Word) → List ℕ → Option Word
one_of [] field = None
one_of (known ∷ others) field = if bytes_eq field known.0 then Some known.1 else one_of others field

abbrev pub word_of : List ℕ → Option Word
word_of = one_of (
    (codes "new", word.New) ∷ (codes "load", word.Load) ∷ (codes "store", word.Store) ∷ (codes "get", word.Get)
    ∷ (codes "put", word.Put) ∷ (codes "gload", word.GLoad) ∷ (codes "gstore", word.GStore) ∷ (codes "same", word.Same)
    ∷ (codes "copy", word.Copy) ∷ (codes "drop", word.Drop) ∷ (codes "collect", word.Collect)
    ∷ (codes "repeat", word.Repeat)
    ∷ (codes "end", word.End) ∷ (codes "done", word.Done) ∷ (codes "thread", word.Thread) ∷ (codes "order", word.Order)
    ∷ [])

-- 3. A line in its place

-- What the lines so far say: the script as far as it is whole, the program that is open, and its open blocks,
-- the innermost first, each with whether it has an operation.
pub record Place : Type 0 where
  pub stage : Expected
  pub threads : ℕ
  pub script : Script
  pub items : List Item
  pub blocks : List Bool

abbrev pub first_place : Place
first_place = record {
  stage = stage.Version;
  threads = 0;
  script = record { globals = 0; orders = []; programs = [] };
  items = [];
  blocks = [];
}

-- a program in which a line for an operation stands
abbrev pub is_operation : Word → Bool
is_operation word.New = true
is_operation word.Load = true
is_operation word.Store = true
is_operation word.Get = true
is_operation word.Put = true
is_operation word.GLoad = true
is_operation word.GStore = true
is_operation word.Same = true
is_operation word.Copy = true
is_operation word.Drop = true
is_operation word.Collect = true
is_operation word.Repeat = false
is_operation word.End = false
is_operation word.Done = false
is_operation word.Thread = false
is_operation word.Order = false

abbrev pub has_open : List Bool → Bool
has_open [] = false
has_open (b ∷ blocks) = true

-- whether a line with this word may stand here, where a program is open
abbrev pub fits_inside : Word → List Bool → Bool
fits_inside word.Repeat blocks = true
fits_inside word.End blocks = has_open blocks
fits_inside word.Done blocks = not (has_open blocks)
fits_inside w blocks = is_operation w

abbrev pub is_thread : Word → Bool
is_thread word.Thread = true
is_thread w = false

abbrev pub is_order : Word → Bool
is_order word.Order = true
is_order w = false

-- whether a line with this word may stand here
abbrev pub fits : Expected → List Bool → Word → Bool
fits stage.Orders blocks w = is_order w || is_thread w
fits stage.Between blocks w = is_thread w
fits stage.Inside blocks w = fits_inside w blocks
fits s blocks w = false

-- a global, of which there are this many: none is in range where there are none
abbrev pub global : ℕ → Range
global zero = record { low = 1; high = 0; reason = 10 }
global (suc n) = from_to 0 n

-- what the numbers of a line may be, where this many programs are whole
abbrev pub ranges_of : Place → Word → List Range
ranges_of place word.New = register ∷ from_to 0 62 ∷ from_to 0 62 ∷ []
ranges_of place word.Load = register ∷ register ∷ from_to 0 63 ∷ []
ranges_of place word.Store = register ∷ from_to 0 63 ∷ register ∷ []
ranges_of place word.Get = register ∷ from_to 0 63 ∷ []
ranges_of place word.Put = register ∷ from_to 0 63 ∷ from_to 0 (2 ^ 64 - 1) ∷ []
ranges_of place word.GLoad = register ∷ global place.script.globals ∷ []
ranges_of place word.GStore = global place.script.globals ∷ register ∷ []
ranges_of place word.Same = register ∷ register ∷ []
ranges_of place word.Copy = register ∷ register ∷ []
ranges_of place word.Drop = register ∷ []
ranges_of place word.Collect = []
ranges_of place word.Repeat = from_to 1 1048576 ∷ []
ranges_of place word.End = []
ranges_of place word.Done = []
ranges_of place word.Thread = from_to (length place.script.programs) (length place.script.programs) ∷ []
ranges_of place word.Order = from_to 0 (place.threads - 1) ∷ from_to 1 1048576 ∷ []

-- the operation of a line, if the word is that of one
abbrev pub operation_of : Word → List ℕ → Option Op
operation_of word.New (dst ∷ refs ∷ nums ∷ []) = Some (op.New dst refs nums)
operation_of word.Load (dst ∷ src ∷ i ∷ []) = Some (op.Load dst src i)
operation_of word.Store (obj ∷ i ∷ src ∷ []) = Some (op.Store obj i src)
operation_of word.Get (src ∷ j ∷ []) = Some (op.Get src j)
operation_of word.Put (obj ∷ j ∷ v ∷ []) = Some (op.Put obj j v)
operation_of word.GLoad (dst ∷ g ∷ []) = Some (op.GLoad dst g)
operation_of word.GStore (g ∷ src ∷ []) = Some (op.GStore g src)
operation_of word.Same (a ∷ b ∷ []) = Some (op.Same a b)
operation_of word.Copy (dst ∷ src ∷ []) = Some (op.Copy dst src)
operation_of word.Drop (r ∷ []) = Some (op.Drop r)
operation_of word.Collect [] = Some op.Collect
operation_of w ns = None

-- the open blocks after an operation, or after a block that has one: the innermost has one too
abbrev pub with_operation : List Bool → List Bool
with_operation [] = []
with_operation (b ∷ blocks) = true ∷ blocks

-- all operations of the programs, each block written out
abbrev pub operation_count : List (List Item) → ℕ
operation_count programs = sum_by (λ items. length (expand items)) programs

-- the place after an operation
abbrev pub after_operation : Place → Option Op → Result Place ℕ
after_operation place None = Err 6
after_operation place (Some o) =
    Ok (record {
      stage = place.stage;
      threads = place.threads;
      script = place.script;
      items = place.items ++ item.Op o ∷ [];
      blocks = with_operation place.blocks;
    })

abbrev pub after_repeat : Place → List ℕ → Result Place ℕ
after_repeat place (n ∷ []) =
    if nat_lt (length place.blocks) 4
    then Ok (record {
      stage = place.stage;
      threads = place.threads;
      script = place.script;
      items = place.items ++ item.Repeat n ∷ [];
      blocks = false ∷ place.blocks;
    })
    else Err 11
after_repeat place ns = Err 7

abbrev pub after_end : Place → List Bool → Result Place ℕ
after_end place [] = Err 6
after_end place (b ∷ blocks) =
    if b
    then Ok (record {
      stage = place.stage;
      threads = place.threads;
      script = place.script;
      items = place.items ++ item.End ∷ [];
      blocks = with_operation blocks;
    })
    else Err 12

-- a script with one program more
abbrev pub with_program : Script → List Item → Script
with_program script items = record {
  globals = script.globals;
  orders = script.orders;
  programs = script.programs ++ items ∷ [];
}

abbrev pub after_done : Place → Result Place ℕ
after_done place = let script = with_program place.script place.items in
    if nat_le (operation_count script.programs) 1048576
    then Ok (record {
      stage = if length script.programs == place.threads then stage.Over else stage.Between;
      threads = place.threads;
      script = script;
      items = [];
      blocks = [];
    })
    else Err 13

abbrev pub after_thread : Place → Result Place ℕ
after_thread place = Ok (record {
  stage = stage.Inside;
  threads = place.threads;
  script = place.script;
  items = [];
  blocks = [];
})

abbrev pub after_order : Place → List ℕ → Result Place ℕ
after_order place (t ∷ n ∷ []) =
    if nat_lt (length place.script.orders) 65536
    then Ok (record {
      stage = place.stage;
      threads = place.threads;
      script = record {
        globals = place.script.globals;
        orders = place.script.orders ++ (t, n) ∷ [];
        programs = place.script.programs;
      };
      items = place.items;
      blocks = place.blocks;
    })
    else Err 10
after_order place ns = Err 7

-- the place after a line with this word and these numbers
abbrev pub after_line : Place → Word → List ℕ → Result Place ℕ
after_line place word.Repeat ns = after_repeat place ns
after_line place word.End ns = after_end place place.blocks
after_line place word.Done ns = after_done place
after_line place word.Thread ns = after_thread place
after_line place word.Order ns = after_order place ns
after_line place w ns = after_operation place (operation_of w ns)

abbrev pub and_then : {A B : Type 0} → Result A ℕ → (A → Result B ℕ) → Result B ℕ
and_then (Ok x) f = f x
and_then (Err reason) f = Err reason

abbrev pub after_word : Place → Option Word → List (List ℕ) → Result Place ℕ
after_word place None fields = Err 6
after_word place (Some w) fields =
    if fits place.stage place.blocks w
    then and_then (numbers (ranges_of place w) fields) (after_line place w)
    else Err 6

abbrev pub in_heading : ℕ → ℕ → ℕ → Option ℕ → Result ℕ ℕ
in_heading low high reason None = Err reason
in_heading low high reason (Some n) = if nat_le low n && nat_le n high then Ok n else Err reason

-- the one number of one of the first three lines
abbrev pub heading : List ℕ → ℕ → ℕ → ℕ → List (List ℕ) → Result ℕ ℕ
heading text low high reason (first ∷ second ∷ []) =
    if bytes_eq first text then in_heading low high reason (number_of second) else Err reason
heading text low high reason fields = Err reason

-- the place after a line that is not skipped
abbrev pub after_fields : Place → Expected → List (List ℕ) → Result Place ℕ
after_fields place stage.Version fields =
    and_then (heading (codes "melt") 1 1 3 fields) (λ n. Ok
    (record { stage = stage.Threads; threads = 0; script = place.script; items = []; blocks = [] }))
after_fields place stage.Threads fields =
    and_then (heading (codes "threads") 1 8 4 fields) (λ n. Ok
    (record { stage = stage.Globals; threads = n; script = place.script; items = []; blocks = [] }))
after_fields place stage.Globals fields =
    and_then (heading (codes "globals") 0 64 5 fields) (λ n. Ok
    (record {
      stage = stage.Orders;
      threads = place.threads;
      script = record { globals = n; orders = []; programs = [] };
      items = [];
      blocks = [];
    }))
after_fields place s [] = Err 6
after_fields place s (first ∷ fields) = after_word place (word_of first) fields

-- the place after a line, or the reason to refuse it
abbrev pub after : Place → List ℕ → Result Place ℕ
after place bytes =
    if list_all is_printable bytes
    then (if is_skipped (fields_of bytes) then Ok place else after_fields place place.stage (fields_of bytes))
    else Err 2

-- 4. A whole trace

-- the end of the input at line n, where no line is wanted any more or one is missing
abbrev pub script_at_end : ℕ → Expected → Script → Result Script (ℕ × ℕ)
script_at_end n stage.Over script = Ok script
script_at_end n s script = Err (n, 14)

-- The script of a trace whose first lines led to this place, or the first bad line and the reason. `n` is the
-- number of the next line.
abbrev pub script_from : ℕ → Place → List (List ℕ) → Result Script (ℕ × ℕ)
script_from n place [] = script_at_end n place.stage place.script
script_from n place (bytes ∷ lines) =
    elim (after place bytes) [ Ok next ↦ script_from (n + 1) next lines | Err reason ↦ Err (n, reason) ]

-- the most bytes that a trace may have
abbrev pub max_bytes : ℕ
max_bytes = 16777216

-- the script of the bytes, or the first bad line and the reason
abbrev pub script_of : List ℕ → Result Script (ℕ × ℕ)
script_of bytes = if nat_le (length bytes) max_bytes then script_from 1 first_place (lines_of bytes) else Err (0, 1)

-- 5. What a script may be

-- The lines of a program after which these blocks are open.
abbrev pub AreItems : ℕ → List Bool → List Item → Type 0
AreItems globals blocks [] = blocks ≡ []
AreItems globals blocks (item.Op o ∷ items) = InRange globals o × AreItems globals (with_operation blocks) items
AreItems globals blocks (item.Repeat n ∷ items) = (0 < n) × (n ≤ 1048576) × (length blocks < 4)
    × AreItems globals (false ∷ blocks) items
AreItems globals [] (item.End ∷ items) = ⊥
AreItems globals (false ∷ blocks) (item.End ∷ items) = ⊥
AreItems globals (true ∷ blocks) (item.End ∷ items) = AreItems globals (with_operation blocks) items

pub record IsOrder (threads : ℕ) (order : ℕ × ℕ) : Type 0 where
  pub thread : order.0 < threads
  pub some : 0 < order.1
  pub few : order.1 ≤ 1048576

-- a script that some trace says
pub record IsScript (script : Script) : Type 0 where
  pub some : 0 < length script.programs
  pub few : length script.programs ≤ 8
  pub globals : script.globals ≤ 64
  pub few_orders : length script.orders ≤ 65536
  pub orders : AllByRecursion (IsOrder (length script.programs)) script.orders
  pub programs : AllByRecursion (AreItems script.globals []) script.programs
  pub count : operation_count script.programs ≤ 1048576
