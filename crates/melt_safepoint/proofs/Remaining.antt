-- What is left of a run: its report, and the heap over the disk.
use Rattle.std.proofs.Common.{◌≡◌, ℕ, ◌<◌, ◌≤◌, List, [], length, refl, sym, ◌∙◌, ap, subst, arith, inl, inr}
use Rattle.std.proofs.Math.ListN.{length-map}
use Rattle.std.proofs.lemmas.List.{get_or_past, take-append-drop}
use Rattle.std.proofs.lemmas.Option.{slice_get_cases, slice_get_within}
use Rattle.std.specs.Prelude.{Bool, true, false, Option, None, Some, IsSome, map, slice_get, take, drop, ◌++◌}
use Rattle.std.specs.Prelude.{if◌then◌else◌, Result, Ok, Err, IfOk}
use Rattle.std.specs.Option.{option_map_or}
use Rattle.melt_model.specs.Thread.{value_in, registers_after}
use Rattle.melt_model.specs.declared.config.Config.{Config}
use Rattle.melt_model.specs.declared.history.Entry.{Entry}
use Rattle.melt_model.specs.declared.history.Value.{Value}
use Rattle.melt_model.specs.declared.history.Value.TheVariants.{Nil}
use Rattle.melt_model.specs.declared.operations.Op.{Op}
use Rattle.melt_model.specs.declared.operations.Op.TheVariants.{Collect}
use Rattle.melt_model.specs.declared.reports.Halt.{Halt}
use Rattle.melt_model.specs.declared.reports.Halt.TheVariants as halt
use Rattle.melt_model.specs.declared.reports.Journal.{Journal}
use Rattle.melt_model.specs.declared.reports.Report.{Report}
use Rattle.melt_model.specs.declared.reports.ThreadEnd.{ThreadEnd}
use Rattle.melt_model.specs.declared.reports.ThreadEnd.TheVariants as end
use Rattle.melt_model.specs.declared.reports.ThreadReport.{ThreadReport}
use Rattle.melt_model.proofs.Transcripts.{registers_so_far, one_reply_each}
use Rattle.melt_trace.specs.Script.{Script, operations}
use Rattle.melt_scion.specs.State.{State}
use Rattle.melt_scion.specs.Placed.{Placed}
use Rattle.melt_scion.specs.Heaps.{OnDisk, state_of}
use Rattle.melt_scion.specs.declared.heap.Heap.{Heap}
use Rattle.melt_scion.specs.declared.registers.Registers.{Registers}
use Rattle.melt_scion.proofs.Staying.{SameParts, same_words, FormedWords_same, Tells_same}
use Rattle.melt_scion.proofs.Following.{same_history}
use Rattle.melt_core.specs.Views.{View, Standing, maps, shown, state, value, values_of, held_values}
use Rattle.melt_space.specs.Space.{SpaceWords}
use Rattle.melt_scion.specs.Scions.{Scions}
use Rattle.melt_scion.specs.Collected.{CountsWords}
use Rattle.melt_move.specs.Plans.{WantsHome}
use Rattle.melt_safepoint.specs.Collections.{ShowsHeap}
use Rattle.melt_core.proofs.Alive.{placed}
use Rattle.melt_core.proofs.Values.{get_or_replicate}
use Rattle.melt_safepoint.specs.declared.thread.ThreadState.{ThreadState}
use Rattle.melt_safepoint.specs.declared.thread.Mode.{Mode}
use Rattle.melt_safepoint.specs.declared.thread.Mode.TheVariants as mode
use Rattle.melt_safepoint.specs.Threads.{AllEnded, AreHalted, SomeGoesOn, halted}
use Rattle.melt_safepoint.specs.Journals.{MayMove, before, end_of}
use Rattle.melt_safepoint.specs.Run.{answered, is_halted, lost_in, MayHalt, register_left, IsLeft, IsFull, HasLeft}
use Rattle.melt_safepoint.specs.Run.{CanWait, OneWaited, SomeHalted}
use Rattle.melt_safepoint.specs.Run.{HasRun, CountsFaults}
use Rattle.melt_safepoint.specs.Shown.{Shown, Underlies}
use Rattle.melt_safepoint.specs.Cuts.{IsDue}
use Rattle.melt_safepoint.specs.Modes.{FitsMode, IsEnded, Waits, halted_mode, owes_silent}
use Rattle.melt_safepoint.specs.Passing.{OneWaits}
use Rattle.melt_safepoint.proofs.Collected.{waits_open}
use Rattle.melt_safepoint.proofs.Moments.{next_op}
use Rattle.melt_safepoint.specs.Endings.{EndsSo}
use Rattle.melt_safepoint.specs.Losses.{losses}
use Rattle.melt_safepoint.proofs.Cuts.{replies_here}
use Rattle.melt_safepoint.proofs.Halting.{halted_at, halted_ended}
use Rattle.melt_safepoint.proofs.Reporting.{Reported}
use Rattle.melt_safepoint.proofs.Outcomes.{state_at, EndsAs, halted_cases, not_halted, same_end}
use Rattle.melt_safepoint.specs.declared.ending.Ended.{Ended}
use Rattle.melt_safepoint.specs.declared.ending.Stop.TheVariants.{Halted}
use Rattle.melt_safepoint.specs.Ended.{EndedStands, EndsBy, EndsFull}
use Rattle.melt_safepoint.specs.Rows.{StopCounts}
use Rattle.melt_safepoint.specs.Tables.{RepliesStand, ThreadStands, TableStands}
use Rattle.melt_safepoint.proofs.Reports.{Reports, reports_ended, reports_halted, replies_same, as_told, step_report}

-- the state of a view that shows a heap is that of the heap
shown_heap : (disk : OnDisk) (heap : Heap) (v : View) (held : List Registers) → ShowsHeap heap v
    → shown disk v v.space held v.free ≡ state_of heap held disk
shown_heap disk heap v held is =
    let at : SpaceWords → Scions → List ℕ → List ℕ → ℕ → State = λ space scions globals forward free.
    shown disk (record v { scions = scions; globals = globals; forward = forward }) space held free in
    ap (λ (x : SpaceWords). at x v.scions v.globals v.forward v.free) is.space
    ∙ (ap (λ (x : Scions). at heap.space x v.globals v.forward v.free) is.scions
    ∙ (ap (λ (x : List ℕ). at heap.space heap.scions x v.forward v.free) is.globals
    ∙ (ap (λ (x : List ℕ). at heap.space heap.scions heap.globals x v.free) is.forward
    ∙ ap (λ (n : ℕ). at heap.space heap.scions heap.globals heap.forward n) is.free)))

-- the heap without the registers of its threads
placed_left : (disk : OnDisk) (heap : Heap) (v : View) → ShowsHeap heap v → Standing true disk v
    → Placed v.log (λ t r. Nil) (maps v) (state_of heap [] disk)
placed_left disk heap v is stands =
    let s : State = state disk v in
    let left : State = shown disk v v.space [] v.free in
    let same : SameParts (maps v) s left =
    same_words (maps v) s left (record
    { base = refl; free = refl; word = λ k. refl; global = λ g. refl; forward = λ p. refl }) in
    subst (Placed v.log (λ t r. Nil) (maps v)) (shown_heap disk heap v [] is)
    (record {
      formed =
          record {
            words = FormedWords_same (maps v) s left same stands.holds.formed;
            registers = λ t r. inl refl;
          };
      tells = Tells_same (maps v) s left same v.log v.log (same_history v.log) (stands.holds.tells refl);
      registers = λ t r. refl;
    })

-- the heap that is left
left_heap : {told : Bool} {script : Script} {config : Config} (seen : Shown) {disk : OnDisk} {heap : Heap} {v : View}
    {states : List ThreadState} (report : Report) → TableStands told script config disk v states → ShowsHeap heap v
    → Underlies told seen.end seen.image disk → report.history ≡ v.log → IsLeft told script config seen report heap
left_heap {told} {script} {config} seen {disk} {heap} {v} {states} report table shows under log = record {
  globals = ap length (sym shows.globals) ∙ table.globals;
  words = ap (λ (x : SpaceWords). length x.list) (sym shows.space) ∙ table.words;
  forward_words = ap length (sym shows.forward) ∙ table.forward_words;
  placed = λ is. (
    maps v,
    (
      disk,
      under,
      shows.has_maps,
      subst (λ (h : List Entry). Placed h (λ t r. Nil) (maps v) (state_of heap [] disk)) (sym log)
          (placed_left disk heap v shows (as_told told script config disk v states is table).stands),
    ),
  );
}

-- the registers of a thread by the history are those that it has, if it has not ended
held_left : (script : Script) (v : View) (t r : ℕ) (s : ThreadState) → ThreadStands true script v t s
    → (IsEnded s.mode → ⊥)
    → value_in (registers_after v.log t (operations script t) (length s.replies.items)) r ≡ value v t r
held_left script v t r s stands goes =
    let is : RepliesStand script v t s = stands.replies_stand refl in
    let ops : List Op = operations script t in
    let k : ℕ = length s.replies.items in
    let told : registers_after v.log t ops k ≡ is.registers =
    ap (λ (os : List Op). registers_after v.log t os k) (sym (take-append-drop k ops))
    ∙ (ap (registers_after v.log t (take k ops ++ drop k ops))
    (one_reply_each v.log t (take k ops) s.replies.items is.registers is.stands)
    ∙ registers_so_far v.log t (take k ops) (drop k ops) s.replies.items is.registers is.stands) in
    let held : is.registers ≡ values_of v t =
    elim is.in_registers [ inl ended ↦ absurd (goes ended) | inr same ↦ same ] in
    ap (λ (vs : List Value). value_in vs r) (told ∙ held)

-- what a register holds, by how its thread ended and how many replies it got
abbrev left_by : Script → List Entry → ℕ → ℕ → Bool → ℕ → Value
left_by script log t r halts count =
    if halts then value_in (registers_after log t (operations script t) count) r else Nil

-- what a thread of the run holds is what is left of it
thread_left : {script : Script} {config : Config} {disk : OnDisk} {v : View} {states : List ThreadState}
    (report : Report) (t r : ℕ) {s : ThreadState} (x : ThreadReport) → TableStands true script config disk v states
    → slice_get states t ≡ Some s → EndsAs report s x
    → value v t r ≡ left_by script v.log t r (is_halted x.end) (length s.replies.items)
thread_left {script} {config} {v} {states} report t r {s} x table at (inl ends) =
    let so : EndsSo true script v.log states config t (mode.Ended x.end) =
    subst (λ (m : Mode). EndsSo true script v.log states config t m) ends (table.ends t s at) in
    let over : IsEnded s.mode = subst IsEnded (sym ends) tt in
    ap (λ (vs : List Value). value_in vs r) ((table.each t s at).dropped over)
    ∙ (get_or_replicate 16 r Nil
    ∙ sym (ap (λ (b : Bool). left_by script v.log t r b (length s.replies.items))
    (not_halted script v.log states config t x.end so)))
thread_left {script} {config} {v} {states} report t r {s} x table at (inr halts) =
    sym (held_left script v t r s (table.each t s at) halts.0)
    ∙ sym (ap (λ (e : ThreadEnd). left_by script v.log t r (is_halted e) (length s.replies.items)) halts.1)

-- and so what all registers hold
registers_left : {script : Script} {config : Config} {disk : OnDisk} {v : View} {states : List ThreadState}
    {ended : Ended} {report : Report} (t r : ℕ) → TableStands true script config disk v states
    → Reports states ended report → v.log ≡ report.history → value v t r ≡ register_left script report t r
registers_left {script} {v} {states} {ended} {report} t r table reports history =
    let halts : Option ThreadReport → Bool = λ o. option_map_or (λ (x : ThreadReport). is_halted x.end) o false in
    elim (slice_get_cases report.threads t).1 [
      | inl w ↦
          let state = state_at states t (omega (arith, w.1, reports.count)) in
          let count : length state.0.replies.items ≡ answered report t =
          ap length (sym (replies_here states t state.0 state.1) ∙ replies_same states ended report reports t) in
          thread_left report t r w.0 table state.1 (reports.ends t state.0 w.0 state.1 w.2)
          ∙ (ap (λ (h : List Entry). left_by script h t r (is_halted w.0.end) (length state.0.replies.items)) history
          ∙ (ap (left_by script report.history t r (is_halted w.0.end)) count
          ∙ sym (ap (λ (o : Option ThreadReport). left_by script report.history t r (halts o) (answered report t))
          w.2)))
      | inr w ↦
          let past : length v.held ≤ t = omega (arith, w.0, reports.count, table.count, table.threads) in
          ap (λ (regs : List ℕ). value_in (held_values v.names regs) r)
          (get_or_past (map (λ (x : Registers). x.regs) v.held) t []
          (omega (arith, past, length-map v.held (λ (x : Registers). x.regs))))
          ∙ sym (ap (λ (o : Option ThreadReport). left_by script report.history t r (halts o) (answered report t)) w.1)
    ]

-- the state stands for other values of registers where they are the same
placed_values : (h : List Entry) (disk : OnDisk) (v : View) (a : ℕ → ℕ → Value) → Standing true disk v → v.log ≡ h
    → ((t r : ℕ) → value v t r ≡ a t r) → Placed h a (maps v) (state disk v)
placed_values h disk v a stands history same =
    let p : Placed v.log (value v) (maps v) (state disk v) = placed disk v stands in
    let q : Placed v.log a (maps v) (state disk v) =
    record { formed = p.formed; tells = p.tells; registers = λ t r. p.registers t r ∙ ap Some (same t r) } in
    subst (λ (log : List Entry). Placed log a (maps v) (state disk v)) history q

-- the heap for which a full disk was refused
left_full : {script : Script} {config : Config} {seen : Shown} {disk : OnDisk} {v : View} {states : List ThreadState}
    {ended : Ended} {report : Report} {heap : Heap} {finish need limit : ℕ}
    → TableStands true script config disk v states → ShowsHeap heap v → Reports states ended report
    → v.log ≡ report.history → Underlies true seen.end seen.image disk
    → EndsFull true config seen disk v ended finish need limit → IsFull script seen report heap finish need
left_full {script} {disk} {v} {report} {heap} {need} table shows reports history under full =
    let same : state disk v ≡ state_of heap v.held disk = shown_heap disk heap v v.held shows in
    record {
      end_is = full.end_is;
      maps = maps v;
      has = shows.has_maps;
      disk = disk;
      under = under;
      registers = v.held;
      placed = subst (Placed report.history (register_left script report) (maps v)) same
          (placed_values report.history disk v (register_left script report) table.stands history
          (λ t r. registers_left t r table reports history));
      needs = subst (λ (s : State). CountsWords s (WantsHome s) need) same (full.needs refl);
    }

-- a thread that had not ended was halted
halted_told : (states : List ThreadState) (ended : Ended) (report : Report) (t : ℕ) (s : ThreadState)
    → AreHalted states ended.states.items → Reported ended.states.items report.threads → slice_get states t ≡ Some s
    → (IsEnded s.mode → ⊥)
    → (r : ThreadReport) × (slice_get report.threads t ≡ Some r) × (r.end ≡ end.Halted)
halted_told states ended report t s halts reported at goes =
    let there : slice_get ended.states.items t ≡ Some (halted s) =
    halted_at states ended.states.items t s halts at in
    elim (slice_get_cases report.threads t).1 [
      | inl w ↦
          let so : halted_mode s.mode ≡ mode.Ended w.0.end = (reported.each t (halted s) w.0 there w.2).1 in
          elim (halted_cases s.mode) [
            | inl stays ↦ absurd (goes (subst IsEnded (sym (sym stays ∙ so)) tt))
            | inr open_ ↦ (w.0, w.2, same_end w.0.end end.Halted (sym so ∙ open_.1))
          ]
      | inr w ↦ absurd (
          let below : t < length ended.states.items =
          slice_get_within ended.states.items t (halted s) there in
          omega (arith, below, w.0, reported.count))
    ]

some_halted : (states : List ThreadState) (ended : Ended) (report : Report) → AreHalted states ended.states.items
    → Reported ended.states.items report.threads → SomeGoesOn states → SomeHalted report
some_halted states ended report halts reported some =
    (some.0, halted_told states ended report some.0 some.1.0 halts reported some.1.1 some.1.2)

-- what a thread that waits for a collection has next
can_wait : (script : Script) (config : Config) (t count : ℕ) (m : Mode) (op : Option Op) → Waits m → FitsMode m op
    → (owes_silent m ≡ true → IsDue config count)
    → ((o : Op) → op ≡ Some o → slice_get (operations script t) count ≡ Some o) → CanWait script config t count
can_wait script config t count mode.Running op waits fits due next = absurd waits
can_wait script config t count mode.Due op waits fits due next = absurd waits
can_wait script config t count mode.Silent op waits fits due next = inl (due refl)
can_wait script config t count mode.Collecting op waits fits due next = inr (Collect, next Collect fits, inl refl)
can_wait script config t count mode.Asked op waits fits due next = absurd waits
can_wait script config t count mode.Lacking None waits fits due next = absurd (let none = fits.0 in cc)
can_wait script config t count mode.Lacking (Some o) waits fits due next = inr (o, next o refl, inr fits.2)
can_wait script config t count (mode.Ended e) op waits fits due next = absurd waits

-- a thread that waited for a collection was halted
one_waited : {told : Bool} {script : Script} {config : Config} {disk : OnDisk} {v : View} {states : List ThreadState}
    (ended : Ended) (report : Report) → TableStands told script config disk v states
    → AreHalted states ended.states.items → Reported ended.states.items report.threads → OneWaits states
    → OneWaited script config report
one_waited {script} {config} {states} ended report table halts reported waits =
    let t : ℕ = waits.0 in
    let s : ThreadState = waits.1.0 in
    let at : slice_get states t ≡ Some s = waits.1.1 in
    let was = halted_told states ended report t s halts reported at (waits_open s.mode waits.1.2) in
    let r : ThreadReport = was.0 in
    let replies : r.replies ≡ s.replies.items =
    (reported.each t (halted s) r (halted_at states ended.states.items t s halts at) was.1).0 in
    let same : length s.replies.items ≡ length r.replies = ap length (sym replies) in (
      t,
      (
        r,
        was.1,
        was.2,
        can_wait script config t (length r.replies) s.mode s.op waits.1.2
            (table.each t s at).fits (λ owes. subst (IsDue config) same (table.due t s at owes))
            (λ o is. subst (λ (k : ℕ). slice_get (operations script t) k ≡ Some o)
            (ap length (replies_here states t s at) ∙ same) (next_op t table at is)),
      ),
    )

-- why the run was halted
may_halt : {told : Bool} (script : Script) {config : Config} {seen : Shown} {disk : OnDisk} {v : View}
    {ended : Ended} (report : Report) {finish need limit : ℕ} → report.journal ≡ ended.journal.items
    → EndsFull told config seen disk v ended finish need limit → OneWaited script config report
    → MayHalt script config report (Some (halt.DiskFull finish need limit))
may_halt script {config} {ended} report journal full waited =
    let last : before ended.journal.items (length ended.journal.items)
    ≡ before report.journal (length report.journal) =
    ap (λ (js : List Journal). before js (length js)) (sym journal) in
    (full.limit_is, full.above, full.end_last ∙ ap end_of last, subst (MayMove config) last full.may_move, waited)

-- The parts of a report that are those of what was left.
pub record ReportOf (ended : Ended) (report : Report) : Type 0 where
  pub threads : Reported ended.states.items report.threads
  pub journal : report.journal ≡ ended.journal.items
  pub log : report.history ≡ ended.left.history
  pub halt : report.halt ≡ ended.halt

-- the report and the heap, by why the run ended
ran : {told : Bool} {script : Script} {config : Config} {seen : Shown} {ended : Ended} {report : Report}
    (stands : EndedStands told script config seen ended) → ReportOf ended report → (why : Option Halt)
    (heap : Option Heap) → report.halt ≡ why → EndsBy told config seen stands.disk stands.v stands.states ended why heap
    → HasRun told script config seen report heap
ran {told} {script} {config} {seen} {ended} {report} stands is None (Some heap) halts cause =
    let reports : Reports stands.states ended report =
    reports_ended stands.states ended report cause.1 is.threads is.journal is.log in
    record {
      reported = step_report stands reports (subst (MayHalt script config report) (sym halts) tt);
      left = subst (λ (o : Option Halt). HasLeft told script config seen report o (Some heap)) (sym halts)
          (left_heap seen report stands.table cause.2 cause.3 (is.log ∙ stands.log));
    }
ran {told} {script} {config} {seen} {ended} {report} stands is (Some (halt.DiskFull finish need limit)) (Some heap)
    halts cause =
    let reports : Reports stands.states ended report =
    reports_halted stands.states ended report cause.0 is.threads
    (subst IsSome (sym halts) refl) is.journal is.log in
    record {
      reported = step_report stands reports (subst (MayHalt script config report) (sym halts)
          (may_halt script report is.journal cause.3
          (one_waited ended report stands.table cause.0 is.threads cause.4)));
      left = subst (λ (o : Option Halt). HasLeft told script config seen report o (Some heap)) (sym halts) (
        left_heap seen report stands.table cause.1 cause.2 (is.log ∙ stands.log),
        λ so. left_full (as_told told script config stands.disk stands.v stands.states so stands.table) cause.1 reports
            (sym (is.log ∙ stands.log)) (subst (λ (b : Bool). Underlies b seen.end seen.image stands.disk) so cause.2)
            (subst (λ (b : Bool). EndsFull b config seen stands.disk stands.v ended finish need limit) so cause.3),
      );
    }
ran {told} {script} {config} {seen} {ended} {report} stands is (Some halt.DiskFault) None halts cause =
    let reports : Reports stands.states ended report =
    reports_halted stands.states ended report cause is.threads
    (subst IsSome (sym halts) refl) is.journal is.log in
    record {
      reported = step_report stands reports (subst (MayHalt script config report) (sym halts)
          (some_halted stands.states ended report cause is.threads
          (stands.halts (subst IsSome (sym halts ∙ is.halt) refl))));
      left = subst (λ (o : Option Halt). HasLeft told script config seen report o None) (sym halts) tt;
    }
ran {told} {script} {config} {seen} {ended} {report} stands is None None halts cause = absurd cause
ran {told} {script} {config} {seen} {ended} {report} stands is (Some (halt.DiskFull finish need limit)) None halts
    cause =
    absurd cause
ran {told} {script} {config} {seen} {ended} {report} stands is (Some halt.DiskFault) (Some heap) halts cause =
    absurd cause

-- what is left of a run that has ended
pub has_run : (told : Bool) (script : Script) (config : Config) (shown : Shown) (ended : Ended) (report : Report)
    → EndedStands told script config shown ended → ReportOf ended report
    → HasRun told script config shown report ended.left.heap
has_run told script config shown ended report stands is =
    ran stands is ended.halt ended.left.heap is.halt stands.cause

-- all threads have ended by then
pub all_over : (told : Bool) (script : Script) (config : Config) (shown : Shown) (ended : Ended)
    → EndedStands told script config shown ended → AllEnded ended.states.items
all_over told script config shown ended stands = over_by ended.halt ended.left.heap stands.cause
  where
    over_by : (why : Option Halt) (heap : Option Heap)
        → EndsBy told config shown stands.disk stands.v stands.states ended why heap → AllEnded ended.states.items
    over_by None (Some heap) cause = subst AllEnded (sym cause.1) cause.0
    over_by (Some (halt.DiskFull finish need limit)) (Some heap) cause =
        halted_ended stands.states ended.states.items cause.0
    over_by (Some halt.DiskFault) None cause = halted_ended stands.states ended.states.items cause
    over_by None None cause = absurd cause
    over_by (Some (halt.DiskFull finish need limit)) None cause = absurd cause
    over_by (Some halt.DiskFault) (Some heap) cause = absurd cause

-- what a run leaves of the counts of a disk, of which so many writes and lends failed
-- and so many reads, before and after
pub counts_faults : (states : List ThreadState) (ended : Ended) (report : Report) {faults : ℕ}
    (after lost lost_after : ℕ) → losses states ≡ 0 → faults ≤ after
    → StopCounts (Halted ended) states faults after lost lost_after → lost_in report ≡ losses ended.states.items
    → report.halt ≡ ended.halt → CountsFaults report faults after lost lost_after
counts_faults states ended report after lost lost_after none rises counts same halts = record {
  lost = elim counts.1.counted [ inl less ↦ inl (omega (arith, less, none, same)) | inr most ↦ inr most ];
  halted = λ is. counts.0 (sym halts ∙ is);
  faults_rise = rises;
  reads_rise = counts.1.rises;
}

-- two facts of what a call returned, if it returned it, and what they say together
pub both_ok : {T E : Type 0} (r : Result T E) (P Q R : T → Type 0) → ((x : T) → P x → Q x → R x) → IfOk r P → IfOk r Q
    → IfOk r R
both_ok (Ok x) P Q R all p q = all x p q
both_ok (Err e) P Q R all p q = p
