-- What was written to the disk where one part of a run comes after another.
use Rattle.std.proofs.Common.{◌≡◌, ℕ, ◌+◌, List, [], ◌∷◌, ◌++◌, length, Option, None, Some}
use Rattle.std.proofs.Common.{Bool, append_assoc, refl, sym, ◌∙◌, ap, subst, arith}
use Rattle.std.proofs.lemmas.List.{append-nil}
use Rattle.std.proofs.lemmas.List.Sums.{sum_by-append}
use Rattle.std.proofs.lemmas.Option.{same_Some}
use Rattle.melt_model.specs.declared.config.Config.{Config}
use Rattle.melt_model.specs.declared.reports.Halt.{Halt}
use Rattle.melt_model.specs.declared.reports.Halt.TheVariants as halt
use Rattle.melt_model.specs.declared.reports.Journal.{Journal}
use Rattle.melt_scion.specs.declared.heap.Heap.{Heap}
use Rattle.melt_scion.specs.Heaps.{OnDisk}
use Rattle.melt_copy.specs.Settling.{RisesBy}
use Rattle.melt_core.specs.Views.{View}
use Rattle.melt_disk.specs.declared.space.DiskFull.{DiskFull}
use Rattle.melt_trace.specs.Script.{Script}
use Rattle.melt_move.proofs.TwoCalls.{rises_both}
use Rattle.melt_safepoint.specs.Ended.{EndedStands, EndsBy}
use Rattle.melt_safepoint.specs.Rows.{StopKeeps}
use Rattle.melt_safepoint.specs.Shown.{Shown}
use Rattle.melt_safepoint.specs.Tables.{TableStands}
use Rattle.melt_safepoint.specs.Writes.{CountsWrites, RefusalWrote, SettledAtMost, SettledIn, StopWrote, WritesBeside}
use Rattle.melt_safepoint.specs.Writes.{WroteBefore, WroteBy, WroteSince, written}
use Rattle.melt_safepoint.specs.declared.collector.CollectRefusal.{CollectRefusal}
use Rattle.melt_safepoint.specs.declared.collector.CollectRefusal.TheVariants as refused
use Rattle.melt_safepoint.specs.declared.ending.Ended.{Ended}
use Rattle.melt_safepoint.specs.declared.ending.Left.{Left}
use Rattle.melt_safepoint.specs.declared.ending.Stop.{Stop}
use Rattle.melt_safepoint.specs.declared.ending.Stop.TheVariants.{NoMemory, Halted}
use Rattle.melt_safepoint.specs.declared.thread.ThreadState.{ThreadState}

written-append : (js more : List Journal) → written (js ++ more) ≡ written js + written more
written-append js more = sum_by-append (λ (j : Journal). j.bodies + j.stubs) js more

-- no collection, and no record
pub wrote_none : (js later : List Journal) (a b : ℕ) → later ≡ js → b ≡ a → WroteSince js later a b
wrote_none js later a b same stays = record { more = []; journal = same ∙ sym (append-nil js); rises = stays }

-- one collection
pub wrote_one : (js later : List Journal) (entry : Journal) (a b : ℕ) → later ≡ js ++ entry ∷ []
    → RisesBy (entry.bodies + entry.stubs) a b → WroteSince js later a b
wrote_one js later entry a b is rises =
    let one : entry.bodies + entry.stubs ≡ written (entry ∷ []) = omega arith in
    record { more = entry ∷ []; journal = is; rises = subst (λ (n : ℕ). RisesBy n a b) one rises }

-- one part after the other
pub wrote_then : {js mid later : List Journal} {a b c : ℕ} → WroteSince js mid a b → WroteSince mid later b c
    → WroteSince js later a c
wrote_then {js} {mid} {later} {a} {b} {c} first second = record {
  more = first.more ++ second.more;
  journal = second.journal ∙ ap (λ (xs : List Journal). xs ++ second.more) first.journal
      ∙ append_assoc js first.more second.more;
  rises = subst (λ (n : ℕ). RisesBy n a c) (sym (written-append first.more second.more))
      (rises_both (written first.more) (written second.more) a b c first.rises second.rises);
}

-- nothing was settled
settled_none : (left : Left) (a b : ℕ) → b ≡ a → SettledIn left a b
settled_none left a b stays h there = record { settled = 0; few = omega arith; rises = stays }

-- a run that ended so wrote nothing
none_by : (by : Option Halt) (left : Left) (js later : List Journal) (a b : ℕ) → later ≡ js → b ≡ a
    → WroteBy by left js later a b
none_by None left js later a b same stays = wrote_none js later a b same stays
none_by (Some (halt.DiskFull end need limit)) left js later a b same stays = record {
  mid = a;
  wrote = wrote_none js later a a same refl;
  settled = settled_none left a b stays;
}
none_by (Some halt.DiskFault) left js later a b same stays = tt

-- and one after a part that wrote
then_by : (by : Option Halt) (left : Left) {js mid : List Journal} (later : List Journal) {a b : ℕ} (c : ℕ)
    → WroteSince js mid a b → WroteBy by left mid later b c → WroteBy by left js later a c
then_by None left later c first second = wrote_then first second
then_by (Some (halt.DiskFull end need limit)) left later c first second = record {
  mid = second.mid;
  wrote = wrote_then first second.wrote;
  settled = second.settled;
}
then_by (Some halt.DiskFault) left later c first second = tt

-- a stop of an epoch, which writes nothing
pub stop_wrote_none : (js : List Journal) (a b : ℕ) (stop : Stop) → StopKeeps js stop → b ≡ a → StopWrote js a b stop
stop_wrote_none js a b NoMemory keeps stays = tt
stop_wrote_none js a b (Halted ended) keeps stays =
    none_by ended.halt ended.left js ended.journal.items a b keeps stays

-- a stop after a part that wrote
pub stop_wrote_then : {js mid : List Journal} {a b : ℕ} (c : ℕ) (stop : Stop) → WroteSince js mid a b
    → StopWrote mid b c stop → StopWrote js a c stop
stop_wrote_then c NoMemory first second = tt
stop_wrote_then c (Halted ended) first second =
    then_by ended.halt ended.left ended.journal.items c first second

-- a stop by a full disk, after nothing but what was settled
pub stop_wrote_full : (js : List Journal) (a b end need limit : ℕ) (by : Option Halt) (left : Left)
    (later : List Journal) → by ≡ Some (halt.DiskFull end need limit) → later ≡ js → SettledIn left a b
    → WroteBy by left js later a b
stop_wrote_full js a b end need limit by left later is same settled =
    let full : WroteBy (Some (halt.DiskFull end need limit)) left js later a b = record {
      mid = a;
      wrote = wrote_none js later a a same refl;
      settled = settled;
    } in
    subst (λ (x : Option Halt). WroteBy x left js later a b) (sym is) full

-- nothing is said of a fault
pub stop_wrote_failed : (js later : List Journal) (a b : ℕ) (by : Option Halt) (left : Left)
    → by ≡ Some halt.DiskFault → WroteBy by left js later a b
stop_wrote_failed js later a b by left is =
    let none : WroteBy (Some halt.DiskFault) left js later a b = tt in
    subst (λ (x : Option Halt). WroteBy x left js later a b) (sym is) none

-- from the first collection on, the journal has them all
all_since : {js later : List Journal} {a b : ℕ} → js ≡ [] → WroteSince js later a b → RisesBy (written later) a b
all_since {js} {later} {a} {b} none since =
    let all : since.more ≡ later = sym (since.journal ∙ ap (λ (xs : List Journal). xs ++ since.more) none) in
    subst (λ (xs : List Journal). RisesBy (written xs) a b) all since.rises

-- with what was settled beside
beside_since : {words a c : ℕ} {left : Left} {js later : List Journal} (heap : Heap) → left.heap ≡ Some heap
    → length heap.forward ≡ words → js ≡ [] → WroteBefore left js later a c
    → WritesBeside words (written later) a c
beside_since {words} {a} {c} {left} {js} {later} heap there size none before =
    let settled : SettledAtMost (length heap.forward) before.mid c = before.settled heap there in
    record {
      settled = settled.settled;
      few = let few = settled.few in omega (arith, few, size);
      rises = rises_both (written later) settled.settled a before.mid c (all_since none before.wrote) settled.rises;
    }

-- all collections of a run, whose threads have all ended
pub wrote_all : (js : List Journal) (a b : ℕ) (ended : Ended) → ended.halt ≡ None
    → WroteSince js ended.journal.items a b → StopWrote js a b (Halted ended)
wrote_all js a b ended none wrote =
    subst (λ (by : Option Halt). WroteBy by ended.left js ended.journal.items a b) (sym none) wrote

-- the heap that a full disk left has as many forwarding words as it was told to have
writes_by : {told : Bool} {script : Script} {config : Config} (shown : Shown) (ended : Ended) (disk : OnDisk) (v : View)
    (states : List ThreadState) (by : Option Halt) (left : Left) (heap : Option Heap) {js : List Journal}
    (later : List Journal) (a b : ℕ) → left.heap ≡ heap → TableStands told script config disk v states
    → EndsBy told config shown disk v states ended by heap → js ≡ [] → WroteBy by left js later a b
    → CountsWrites config by later a b
writes_by shown ended disk v states None left heap later a b there table cause none wrote = all_since none wrote
writes_by shown ended disk v states (Some (halt.DiskFull end need limit)) left (Some heap) later a b there table cause none wrote =
    beside_since heap there (ap length (sym cause.1.forward) ∙ table.forward_words) none wrote
writes_by shown ended disk v states (Some (halt.DiskFull end need limit)) left None later a b there table cause none wrote =
    absurd cause
writes_by shown ended disk v states (Some halt.DiskFault) left heap later a b there table cause none wrote = tt

-- what a run has written in the end
pub counts_writes : {told : Bool} {script : Script} {config : Config} {shown : Shown} {ended : Ended}
    {js later : List Journal} {by : Option Halt} (a b : ℕ) → js ≡ []
    → EndedStands told script config shown ended → StopWrote js a b (Halted ended) → by ≡ ended.halt
    → later ≡ ended.journal.items → CountsWrites config by later a b
counts_writes {told} {script} {config} {shown} {ended} {js} {later} {by} a b none stands wrote halts journal =
    let counts : CountsWrites config ended.halt ended.journal.items a b = writes_by shown ended stands.disk stands.v
    stands.states ended.halt ended.left ended.left.heap ended.journal.items a b refl stands.table stands.cause none wrote in
    subst (λ (x : Option Halt). CountsWrites config x later a b) (sym halts)
    (subst (λ (xs : List Journal). CountsWrites config ended.halt xs a b) (sym journal) counts)

-- what was settled before a full disk was told, in what is left then
pub full_settled : {refusal : CollectRefusal} {left kept : Left} {full : DiskFull} (a b : ℕ)
    → refusal ≡ refused.DiskFull left full → RefusalWrote a b refusal → kept ≡ left → SettledIn kept a b
full_settled {refusal} {left} {kept} {full} a b is wrote same =
    let settled : SettledIn left a b = subst (RefusalWrote a b) is wrote in
    subst (λ (x : Left). SettledIn x a b) (sym same) settled

-- and where the heap is at hand that is left
pub settled_heap : (left : Left) {h : Heap} (a b : ℕ) → left.heap ≡ Some h → SettledAtMost (length h.forward) a b
    → SettledIn left a b
settled_heap left {h} a b there settled x is =
    subst (λ (y : Heap). SettledAtMost (length y.forward) a b) (same_Some h x (sym there ∙ is)) settled
