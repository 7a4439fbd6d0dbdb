-- What the parser's functions answer.
use Rattle.std.specs.Prelude.{◌≡◌, ℕ, ◌<◌, List, [], ◌∷◌, length, Some, Result, Ok, Err}
use Rattle.melt_trace.specs.declared.parser.fields.Arguments.{Arguments}
use Rattle.melt_trace.specs.declared.parser.fields.Arguments.TheVariants as arguments
use Rattle.melt_trace.specs.declared.parser.numbers.Limits.{Limits}
use Rattle.melt_model.specs.declared.operations.Op.{Op}
use Rattle.melt_trace.specs.declared.language.Word.{Word}
use Rattle.melt_trace.specs.declared.language.Word.TheVariants as word
use Rattle.melt_trace.specs.declared.reason.Reason.{Reason}
use Rattle.melt_trace.specs.Reasons.{number_of_reason}
use Rattle.melt_trace.specs.Language.{Range, Place, and_then, numbers, ranges_of, after_line, after_operation}

-- These are the fields after the first. Of four or more it is known only that they are as many.
abbrev pub AreArguments : Arguments → List (List ℕ) → Type 0
AreArguments arguments.None fields = fields ≡ []
AreArguments (arguments.One a) fields = fields ≡ a.now ∷ []
AreArguments (arguments.Two a b) fields = fields ≡ a.now ∷ b.now ∷ []
AreArguments (arguments.Three a b c) fields = fields ≡ a.now ∷ b.now ∷ c.now ∷ []
AreArguments arguments.Many fields = 3 < length fields

-- what a function returned, seen by view, is what reading gives
abbrev pub Gives : {X Y : Type 0} → (X → Y) → Result X Reason → Result Y ℕ → Type 0
Gives view (Ok x) read = read ≡ Ok (view x)
Gives view (Err reason) read = read ≡ Err (number_of_reason reason)

abbrev pub range_of : Limits → Range
range_of limits = record { low = limits.low; high = limits.high; reason = number_of_reason limits.reason }

-- the place after a line that may stand here, with this word and these fields after it
abbrev pub after_arguments : Place → Word → List (List ℕ) → Result Place ℕ
after_arguments place w fields = and_then (numbers (ranges_of place w) fields) (after_line place w)

-- the operation that was read is the one of the line
abbrev pub IsOperationOf : Place → Word → List (List ℕ) → Result Op Reason → Type 0
IsOperationOf place w fields (Ok o) = after_arguments place w fields ≡ after_operation place (Some o)
IsOperationOf place w fields (Err reason) = after_arguments place w fields ≡ Err (number_of_reason reason)

-- the word of an operation with two numbers or fewer
abbrev pub IsShort : Word → Type 0
IsShort word.Get = Unit {0}
IsShort word.GLoad = Unit {0}
IsShort word.GStore = Unit {0}
IsShort word.Same = Unit {0}
IsShort word.Copy = Unit {0}
IsShort word.Drop = Unit {0}
IsShort word.Collect = Unit {0}
IsShort w = ⊥
