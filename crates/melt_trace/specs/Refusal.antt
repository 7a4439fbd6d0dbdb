-- What a refusal says of the bytes.
use Rattle.std.specs.Prelude.{◌≡◌, ℕ, List, [], ◌++◌, Option, None, Some, Err, codes}
use Rattle.std.specs.Fmt.{decimal}
use Rattle.melt_trace.specs.declared.error.ParseRefusal.{ParseRefusal}
use Rattle.melt_trace.specs.declared.error.ParseRefusal.TheVariants as refusal
use Rattle.melt_trace.specs.declared.error.TraceError.{TraceError}
use Rattle.melt_trace.specs.declared.reason.Reason.{Reason}
use Rattle.melt_trace.specs.Reasons.{reason_of_number, reason_text}
use Rattle.melt_trace.specs.Language.{script_of}

-- the first bad line of the bytes is that one, for that reason; of memory that was refused it says nothing
abbrev pub IsRefusedTrace : List ℕ → ParseRefusal → Type 0
IsRefusedTrace bytes (refusal.Bad error) = script_of bytes ≡ Err (error.line, error.reason)
IsRefusedTrace bytes refusal.NoMemory = Unit {0}

-- what is printed of it: its line and its number, and the sentence of the reason that has this number
abbrev pub place_text : TraceError → List ℕ
place_text error = codes "line " ++ decimal error.line ++ codes ", reason " ++ decimal error.reason

abbrev pub sentence_text : Option Reason → List ℕ
sentence_text None = []
sentence_text (Some reason) = codes ": " ++ reason_text reason

abbrev pub trace_error_text : TraceError → List ℕ
trace_error_text error = place_text error ++ sentence_text (reason_of_number error.reason)

abbrev pub parse_refusal_text : ParseRefusal → List ℕ
parse_refusal_text (refusal.Bad error) = trace_error_text error
parse_refusal_text refusal.NoMemory = codes "out of memory"
