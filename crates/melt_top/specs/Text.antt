-- The bytes that are written.
use Rattle.std.specs.Prelude.{ℕ, ◌+◌, ◌%◌, ◌^◌, if◌then◌else◌, List, [], ◌∷◌, ◌++◌, length, codes}
use Rattle.std.specs.Prelude.{Option, None, Some}
use Rattle.std.specs.List.{flat_map, sum_by}
use Rattle.std.specs.Fmt.{decimal}
use Rattle.melt_text.specs.Printed.{line}
use Rattle.melt_model.specs.History.{made}
use Rattle.melt_model.specs.declared.history.Act.{Act}
use Rattle.melt_model.specs.declared.history.Act.TheVariants as act
use Rattle.melt_model.specs.declared.history.Entry.{Entry}
use Rattle.melt_model.specs.declared.history.Slot.{Slot}
use Rattle.melt_model.specs.declared.history.Slot.TheVariants as slot
use Rattle.melt_model.specs.declared.history.Value.{Value}
use Rattle.melt_model.specs.declared.history.Value.TheVariants as value
use Rattle.melt_model.specs.declared.operations.Reply.{Reply}
use Rattle.melt_model.specs.declared.operations.Reply.TheVariants as reply
use Rattle.melt_model.specs.declared.reports.ThreadEnd.{ThreadEnd}
use Rattle.melt_model.specs.declared.reports.ThreadEnd.TheVariants as end
use Rattle.melt_model.specs.declared.reports.Halt.{Halt}
use Rattle.melt_model.specs.declared.reports.Halt.TheVariants as halt
use Rattle.melt_model.specs.declared.reports.ThreadReport.{ThreadReport}
use Rattle.melt_model.specs.declared.reports.Report.{Report}
use Rattle.melt_stats.specs.Table.{table_text}
use Rattle.melt_top.specs.declared.text.Texts.{Texts}

-- a word, and a number right after it
abbrev pub with_digits : List ℕ → ℕ → List ℕ
with_digits word n = word ++ decimal n

-- each reply stands on a line of its own
abbrev pub reply_line : Reply → List ℕ
reply_line reply.Done = line (codes "ok") []
reply_line reply.Null = line (codes "null") []
reply_line reply.Ref = line (codes "ref") []
reply_line (reply.Num v) = with_digits [] v ++ 10 ∷ []
reply_line reply.Yes = line (codes "yes") []
reply_line reply.No = line (codes "no") []
reply_line reply.Nil = line (codes "nil") []
reply_line reply.Range = line (codes "range") []

-- the number that a reply is, or 0 where it is none
abbrev pub number_in : Reply → ℕ
number_in (reply.Num v) = v
number_in other = 0

-- in place of the replies: how many there are, and the sum of those that are numbers
abbrev pub sum_lines : List Reply → List ℕ
sum_lines replies =
    line (codes "replies") (length replies ∷ []) ++ line (codes "sum") (sum_by number_in replies % 2 ^ 64 ∷ [])

abbrev pub reply_lines : Texts → List Reply → List ℕ
reply_lines texts replies = if texts.quiet then sum_lines replies else flat_map reply_line replies

abbrev pub end_line : ThreadEnd → List ℕ
end_line end.Done = line (codes "end done") []
end_line (end.OutOfHeap held need) = line (codes "end out-of-heap") (held ∷ need ∷ [])
end_line end.DiskFault = line (codes "end disk-fault") []
end_line (end.Damaged home at word) = line (codes "end damaged") (home ∷ at ∷ word ∷ [])
end_line end.Halted = line (codes "end halted") []

abbrev pub halt_line : Option Halt → List ℕ
halt_line None = []
halt_line (Some (halt.DiskFull at need limit)) = line (codes "halt disk-full") (at ∷ need ∷ limit ∷ [])
halt_line (Some halt.DiskFault) = line (codes "halt disk-fault") []

-- a thread: its number, its replies, its end
abbrev pub thread_text : Texts → ℕ → ThreadReport → List ℕ
thread_text texts t r = line (codes "thread") (t ∷ []) ++ reply_lines texts r.replies ++ end_line r.end

-- thread t and those after it
abbrev pub thread_lines : Texts → ℕ → List ThreadReport → List ℕ
thread_lines texts t [] = []
thread_lines texts t (r ∷ rs) = thread_text texts t r ++ thread_lines texts (t + 1) rs

-- ---- the history

abbrev pub slot_field : Slot → List ℕ
slot_field (slot.Field n i) = with_digits (codes " f ") n ++ with_digits (codes " ") i
slot_field (slot.Cell n j) = with_digits (codes " n ") n ++ with_digits (codes " ") j
slot_field (slot.Global g) = with_digits (codes " g ") g

abbrev pub value_field : Value → List ℕ
value_field value.Nil = codes " nil"
value_field (value.Ref n) = with_digits (codes " ref ") n
value_field (value.Num v) = with_digits (codes " num ") v

-- what thread t did, when so many objects had been made: an object has the number of those made before it
abbrev pub act_line : (t count : ℕ) → Act → List ℕ
act_line t count (act.Make refs nums) = line (codes "make") (t ∷ count ∷ refs ∷ nums ∷ [])
act_line t count (act.Read slot value) =
    with_digits (codes "read ") t ++ slot_field slot ++ value_field value ++ 10 ∷ []
act_line t count (act.Write slot value) =
    with_digits (codes "write ") t ++ slot_field slot ++ value_field value ++ 10 ∷ []

-- entries, when so many objects had been made
abbrev pub entry_lines : ℕ → List Entry → List ℕ
entry_lines count [] = []
entry_lines count (e ∷ es) = act_line e.thread count e.act ++ entry_lines (count + made (e ∷ [])) es

abbrev pub log_text : List Entry → List ℕ
log_text log = line (codes "log") (length log ∷ []) ++ entry_lines 0 log

-- ---- the whole text

-- what is printed: a report, and which of its texts
pub record Printed : Type 0 where
  pub report : Report
  pub texts : Texts

abbrev pub table_part : Printed → List ℕ
table_part printed = if printed.texts.table then table_text printed.report.journal else []

abbrev pub log_part : Printed → List ℕ
log_part printed = if printed.texts.log then log_text printed.report.log else []

abbrev pub text : Printed → List ℕ
text printed =
    thread_lines printed.texts 0 printed.report.threads ++ halt_line printed.report.halt
    ++ table_part printed ++ log_part printed

-- what is written in place of a report
abbrev pub usage_text : List ℕ
usage_text = line (codes "error usage") []

abbrev pub read_fault_text : List ℕ
read_fault_text = line (codes "error read") []

abbrev pub refused_text : ℕ → ℕ → List ℕ
refused_text at reason = line (codes "error trace") (at ∷ reason ∷ [])
