-- The table of the collections of a run.
use Rattle.std.specs.Prelude.{ℕ, ◌+◌, List, [], ◌∷◌, ◌++◌, codes}
use Rattle.std.specs.Fmt.{decimal}
use Rattle.melt_model.specs.declared.reports.Journal.{Journal}
use Rattle.melt_model.specs.declared.reports.Phase.{Phase}
use Rattle.melt_model.specs.declared.reports.Phase.TheVariants.{Inactive, Mark, Move}

-- the first line names the columns
abbrev pub header : List ℕ
header = codes "number,phase,held,live,bodies,stubs,end\n"

abbrev pub phase_name : Phase → List ℕ
phase_name Inactive = codes "inactive"
phase_name Mark = codes "mark"
phase_name Move = codes "move"

-- a comma, and a number in decimal after it
abbrev pub next_number : ℕ → List ℕ
next_number n = codes "," ++ decimal n

-- the line of one collection
abbrev pub journal_line : (number : ℕ) → Journal → List ℕ
journal_line number of = decimal number ++ codes "," ++ phase_name of.phase
    ++ next_number of.held ++ next_number of.live ++ next_number of.bodies ++ next_number of.stubs ++ next_number of.end
    ++ codes "\n"

-- the lines of collections that are numbered from this number on
abbrev pub lines_from : (number : ℕ) → List Journal → List ℕ
lines_from number [] = []
lines_from number (first ∷ rest) = journal_line number first ++ lines_from (number + 1) rest

abbrev pub table_text : List Journal → List ℕ
table_text journal = header ++ lines_from 1 journal
