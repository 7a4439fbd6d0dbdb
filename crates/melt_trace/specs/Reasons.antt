-- The numbers of reasons, and what is printed of them.
use Rattle.std.specs.Prelude.{ℕ, ◌==◌, if◌then◌else◌, List, [], ◌∷◌, Option, None, Some, codes}
use Rattle.melt_trace.specs.declared.reason.Reason.{Reason}
use Rattle.melt_trace.specs.declared.reason.Reason.TheVariants as reason

abbrev pub number_of_reason : Reason → ℕ
number_of_reason reason.TooLong = 1
number_of_reason reason.BadByte = 2
number_of_reason reason.NoVersion = 3
number_of_reason reason.NoThreads = 4
number_of_reason reason.NoGlobals = 5
number_of_reason reason.OutOfPlace = 6
number_of_reason reason.FieldCount = 7
number_of_reason reason.NoNumber = 8
number_of_reason reason.NoRegister = 9
number_of_reason reason.OutOfRange = 10
number_of_reason reason.TooDeep = 11
number_of_reason reason.EmptyBlock = 12
number_of_reason reason.ManyOperations = 13
number_of_reason reason.EndsEarly = 14

-- the first of these reasons that has this number
abbrev pub with_number_of : ℕ → List Reason → Option Reason
with_number_of n [] = None
with_number_of n (known ∷ others) = if n == number_of_reason known then Some known else with_number_of n others

-- the reason that has this number
abbrev pub reason_of_number : ℕ → Option Reason
reason_of_number n = with_number_of n (
    reason.TooLong ∷ reason.BadByte ∷ reason.NoVersion ∷ reason.NoThreads ∷ reason.NoGlobals ∷ reason.OutOfPlace
    ∷ reason.FieldCount ∷ reason.NoNumber ∷ reason.NoRegister ∷ reason.OutOfRange ∷ reason.TooDeep ∷ reason.EmptyBlock
    ∷ reason.ManyOperations ∷ reason.EndsEarly ∷ [])

-- a sentence that says what has to be otherwise
abbrev pub reason_text : Reason → List ℕ
reason_text reason.TooLong = codes "the trace has more than 16777216 bytes: make it shorter"
reason_text reason.BadByte =
    codes "the line has a byte that may not stand in it: spaces and the visible characters of ASCII may"
reason_text reason.NoVersion = codes "the first line, blank lines and comments aside, has to be: melt 1"
reason_text reason.NoThreads =
    codes "the second line, blank lines and comments aside, has to be: threads N, with N from 1 to 8"
reason_text reason.NoGlobals =
    codes "the third line, blank lines and comments aside, has to be: globals N, with N from 0 to 64"
reason_text reason.OutOfPlace =
    codes "the first field is no word of the language, or its line may not stand here: move it, or mend the word"
reason_text reason.FieldCount = codes "there is a field too few or too many for the first word of the line"
reason_text reason.NoNumber =
    codes "a field has to be a number: digits, no sign, no leading zero, at most 18446744073709551615"
reason_text reason.NoRegister = codes "a register is named above 15: name one from 0 to 15"
reason_text reason.OutOfRange = codes "a number is out of its range: docs/TRACES.md has the range of each"
reason_text reason.TooDeep = codes "a repeat stands in four open blocks: let blocks be at most four deep"
reason_text reason.EmptyBlock = codes "the block that this end closes has no operation: put one into it, or take it out"
reason_text reason.ManyOperations =
    codes "by this done the operations, with each block written out, are more than 1048576: take some out"
reason_text reason.EndsEarly = codes "the trace ends before the done of its last thread: write what is missing"
