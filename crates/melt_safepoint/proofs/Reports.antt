-- What a run reports of its threads when it has ended, or was halted.
use Rattle.std.proofs.Common.{◌≡◌, ℕ, ◌+◌, ◌*◌, ◌<◌, ◌≤◌, List, [], length, refl, sym, ◌∙◌, ap}
use Rattle.std.proofs.Common.{subst, arith}
use Rattle.std.proofs.Common.{inl, inr}
use Rattle.std.proofs.Math.ListN.{length-map}
use Rattle.std.proofs.lemmas.List.Sums.{sum-map}
use Rattle.std.proofs.lemmas.Option.{slice_get_cases, slice_get_within}
use Rattle.std.specs.Prelude.{Bool, true, false, Option, Some, IsSome, slice_get, All}
use Rattle.std.specs.List.{sum_by}
use Rattle.std.specs.Option.{option_map_or}
use Rattle.melt_model.specs.History.{Legal}
use Rattle.melt_model.specs.Thread.{Transcript}
use Rattle.melt_model.specs.declared.config.Config.{Config}
use Rattle.melt_model.specs.declared.history.Entry.{Entry}
use Rattle.melt_model.specs.declared.operations.Reply.{Reply}
use Rattle.melt_model.specs.declared.reports.Journal.{Journal}
use Rattle.melt_model.specs.declared.reports.Report.{Report}
use Rattle.melt_model.specs.declared.reports.ThreadEnd.{ThreadEnd}
use Rattle.melt_model.specs.declared.reports.ThreadEnd.TheVariants as end
use Rattle.melt_model.specs.declared.reports.ThreadReport.{ThreadReport}
use Rattle.melt_trace.specs.Script.{Script, operations}
use Rattle.melt_scion.specs.Heaps.{OnDisk}
use Rattle.melt_core.specs.Views.{View}
use Rattle.melt_safepoint.specs.declared.thread.ThreadState.{ThreadState}
use Rattle.melt_safepoint.specs.declared.thread.Mode.{Mode}
use Rattle.melt_safepoint.specs.declared.thread.Mode.TheVariants as mode
use Rattle.melt_safepoint.specs.Threads.{AreHalted, halted, owing, replies_of}
use Rattle.melt_safepoint.specs.Modes.{IsEnded, halted_mode, owes}
use Rattle.melt_safepoint.specs.Journals.{IsJournalOf}
use Rattle.melt_safepoint.specs.Run.{is_halted, replies_in, halted_in, LoadsNext, MayEnd, MayHalt, HasHistory}
use Rattle.melt_safepoint.specs.Asked.{collects, collections}
use Rattle.melt_safepoint.specs.Run.{replies_told, IsStepReport}
use Rattle.melt_safepoint.specs.Cuts.{AreMoments, IsAmong, Moment, no_room}
use Rattle.melt_safepoint.specs.Endings.{EndsSo, SomeMoments}
use Rattle.melt_safepoint.specs.Made.{MakesWithin}
use Rattle.melt_safepoint.specs.Shown.{Shown}
use Rattle.melt_safepoint.proofs.Cuts.{replies_here, replies_past}
use Rattle.melt_safepoint.proofs.Halting.{halted_at}
use Rattle.melt_safepoint.proofs.Reporting.{Reported}
use Rattle.melt_safepoint.proofs.Asked.{asked_same, collections_same}
use Rattle.melt_safepoint.proofs.Outcomes.{EndsAs, are_same, halted_cases, state_at}
use Rattle.melt_safepoint.proofs.Outcomes.{same_end, counts_less, owes_ended, told_less}
use Rattle.melt_safepoint.specs.declared.ending.Ended.{Ended}
use Rattle.melt_safepoint.specs.Ended.{EndedStands}
use Rattle.melt_safepoint.specs.Tables.{TableStands}
use Rattle.melt_safepoint.proofs.Moments.{told_now}

-- A report of a run whose threads stood so when it ended.
pub record Reports (states : List ThreadState) (ended : Ended) (report : Report) : Type 0 where
  pub count : length report.threads ≡ length states
  pub replies : (t : ℕ) (s : ThreadState) (r : ThreadReport) → slice_get states t ≡ Some s
      → slice_get report.threads t ≡ Some r → r.replies ≡ s.replies.items
  pub ends : (t : ℕ) (s : ThreadState) (r : ThreadReport) → slice_get states t ≡ Some s
      → slice_get report.threads t ≡ Some r → EndsAs report s r
  pub journal : report.journal ≡ ended.journal.items
  pub log : report.history ≡ ended.left.history

-- all threads had ended
pub reports_ended : (states : List ThreadState) (ended : Ended) (report : Report) → ended.states.items ≡ states
    → Reported ended.states.items report.threads → report.journal ≡ ended.journal.items
    → report.history ≡ ended.left.history → Reports states ended report
reports_ended states ended report same reported journal log =
    let is : Reported states report.threads =
    subst (λ (xs : List ThreadState). Reported xs report.threads) same reported in
    record {
      count = is.count;
      replies = λ t s r at there. (is.each t s r at there).0;
      ends = λ t s r at there. inl (is.each t s r at there).1;
      journal = journal;
      log = log;
    }

-- they were halted
pub reports_halted : (states : List ThreadState) (ended : Ended) (report : Report)
    → AreHalted states ended.states.items → Reported ended.states.items report.threads → IsSome report.halt
    → report.journal ≡ ended.journal.items → report.history ≡ ended.left.history → Reports states ended report
reports_halted states ended report halts reported some journal log = record {
  count = reported.count ∙ (ap length halts ∙ length-map states halted);
  replies = λ t s r at there.
      (reported.each t (halted s) r (halted_at states ended.states.items t s halts at) there).0;
  ends = λ t s r at there.
      let so : halted_mode s.mode ≡ mode.Ended r.end =
      (reported.each t (halted s) r (halted_at states ended.states.items t s halts at) there).1 in
      elim (halted_cases s.mode) [
        | inl stays ↦ inl (sym stays ∙ so)
        | inr goes ↦ inr (goes.0, same_end r.end end.Halted (sym so ∙ goes.1), some)
      ];
  journal = journal;
  log = log;
}

-- the replies in a report are those of the threads
pub replies_same : (states : List ThreadState) (ended : Ended) (report : Report) → Reports states ended report → (t : ℕ)
    → replies_of states t ≡ replies_in report t
replies_same states ended report reports t =
    let by : Option ThreadReport → List Reply = λ o. option_map_or (λ (r : ThreadReport). r.replies) o [] in
    let count : length report.threads ≡ length states = reports.count in
    elim (slice_get_cases report.threads t).1 [
      | inl w ↦
          let state = state_at states t (let below : t < length report.threads = w.1 in omega (arith, below, count)) in
          replies_here states t state.0 state.1
          ∙ (sym (reports.replies t state.0 w.0 state.1 w.2) ∙ sym (ap by w.2))
      | inr w ↦
          replies_past states t (let past : length report.threads ≤ t = w.0 in omega (arith, past, count))
          ∙ sym (ap by w.1)
    ]

-- why a thread may end so, where these are the moments of the run
may_end : (told : Bool) (script : Script) (config : Config) (moments : List Moment) {states : List ThreadState}
    {ended : Ended} {report : Report} (t : ℕ) (e : ThreadEnd) → Reports states ended report
    → ((held_words need : ℕ) → e ≡ end.OutOfHeap held_words need → told ≡ true
    → IsAmong moments (no_room t held_words need))
    → EndsSo told script report.history states config t (mode.Ended e) → MayEnd told script config moments report t e
may_end told script config moments {states} {ended} {report} t end.Done reports room ends =
    ap length (sym (replies_same states ended report reports t)) ∙ ends
may_end told script config moments t (end.OutOfHeap held_words need) reports room ends = room held_words need refl
may_end told script config moments {states} {ended} {report} t end.DiskFault reports room ends =
    subst (LoadsNext script t) (ap length (replies_same states ended report reports t)) ends
may_end told script config moments {states} {ended} {report} t (end.Damaged home at word) reports room ends = (
  ends.0,
  subst (LoadsNext script t) (ap length (replies_same states ended report reports t)) ends.1,
  ends.2,
)
may_end told script config moments t end.Halted reports room ends = absurd ends

-- so of each thread of the report
reported_end : (told : Bool) (script : Script) (config : Config) (moments : List Moment) {ended : Ended}
    {report : Report} {states : List ThreadState} (t : ℕ) (s : ThreadState) (r : ThreadReport)
    → Reports states ended report
    → ((held_words need : ℕ) → s.mode ≡ mode.Ended (end.OutOfHeap held_words need) → told ≡ true
    → IsAmong moments (no_room t held_words need))
    → EndsSo told script report.history states config t s.mode → EndsAs report s r
    → MayEnd told script config moments report t r.end
reported_end told script config moments {ended} {report} {states} t s r reports room so (inl ends) =
    may_end told script config moments t r.end reports
    (λ held_words need is. room held_words need (ends ∙ ap (λ (e : ThreadEnd). mode.Ended e) is))
    (subst (λ (m : Mode). EndsSo told script report.history states config t m) ends so)
reported_end told script config moments {ended} {report} {states} t s r reports room so (inr halts) =
    subst (λ (e : ThreadEnd). MayEnd told script config moments report t e) (sym halts.1) halts.2

-- silent collections that are still to come are those of threads that are halted
owing_halted : (states : List ThreadState) (ended : Ended) (report : Report) → Reports states ended report
    → owing states ≤ halted_in report
owing_halted states ended report reports =
    let f : ThreadState → ℕ = λ (s : ThreadState). owes s.mode in
    let less : sum_by f states ≤ halted_in report =
    counts_less f (λ (r : ThreadReport). is_halted r.end) states report.threads reports.count
    (λ t s r at there. owes_ended report s r (reports.ends t s r at there)) in
    omega (arith, less, sum-map f states)

-- what stands, told or not, where it is told
pub as_told : (told : Bool) (script : Script) (config : Config) (disk : OnDisk) (v : View) (states : List ThreadState)
    → told ≡ true → TableStands told script config disk v states → TableStands true script config disk v states
as_told told script config disk v states is table =
    subst (λ (b : Bool). TableStands b script config disk v states) is table

-- the history is that of the report
history_of : {script : Script} {config : Config} {disk : OnDisk} {v : View} {states : List ThreadState} {ended : Ended}
    {report : Report} → TableStands true script config disk v states → Reports states ended report
    → v.log ≡ report.history → HasHistory script report.history report
history_of {script} {config} {disk} {v} {states} {ended} {report} table reports history = record {
  legal = subst (λ (h : List Entry). Legal h script.globals) history
      (subst (Legal v.log) table.globals (table.stands.legal refl));
  threads = reports.count ∙ table.count;
  transcripts = λ t r at.
      let same : replies_of states t ≡ r.replies =
      replies_same states ended report reports t
      ∙ ap (λ (o : Option ThreadReport). option_map_or (λ (x : ThreadReport). x.replies) o []) at in
      subst (λ (h : List Entry). Transcript h t (operations script t) r.replies) history
      (subst (λ (rs : List Reply). Transcript v.log t (operations script t) rs) same
      (told_now script config disk v states t table));
  own_threads = subst (λ (h : List Entry). All (λ (e : Entry). e.thread < length script.programs) h) history table.own;
}

-- ---- the moments of the run

module _ (script : Script) (log : List Entry) (states : List ThreadState) (config : Config) (journal : List Journal)
  where
    -- the moments of a run that is told; of any other there are none
    abbrev the_moments : (told : Bool) → (told ≡ true → SomeMoments script log states config journal) → List Moment
    the_moments true have = (have refl).0
    the_moments false have = []

    are_the : (told : Bool) (have : told ≡ true → SomeMoments script log states config journal) → told ≡ true
        → AreMoments script log (replies_of states) config journal (the_moments told have)
    are_the true have is = (have refl).1.are
    are_the false have is = absurd (let wrong : false ≡ true = is in cc)

    gone_the : (told : Bool) (have : told ≡ true → SomeMoments script log states config journal) → told ≡ true
        → (t held_words need : ℕ) (s : ThreadState) → slice_get states t ≡ Some s
        → s.mode ≡ mode.Ended (end.OutOfHeap held_words need)
        → IsAmong (the_moments told have) (no_room t held_words need)
    gone_the true have is = (have refl).1.gone
    gone_the false have is = absurd (let wrong : false ≡ true = is in cc)

    real_the : (told : Bool) (have : told ≡ true → SomeMoments script log states config journal) → told ≡ true
        → (t held_words need : ℕ) → IsAmong (the_moments told have) (no_room t held_words need)
        → (s : ThreadState) × (slice_get states t ≡ Some s) × (s.mode ≡ mode.Ended (end.OutOfHeap held_words need))
    real_the true have is = (have refl).1.real
    real_the false have is = absurd (let wrong : false ≡ true = is in cc)

-- they are those of the report
moments_of : {script : Script} {config : Config} (v : View) {states : List ThreadState} {ended : Ended}
    {report : Report} {moments : List Moment} → Reports states ended report → v.log ≡ report.history
    → AreMoments script v.log (replies_of states) config ended.journal.items moments
    → AreMoments script report.history (replies_in report) config report.journal moments
moments_of {script} {config} v {states} {ended} {report} {moments} reports history are =
    are_same (replies_in report) (replies_same states ended report reports)
    (subst (λ (js : List Journal). AreMoments script report.history (replies_of states) config js moments)
    (sym reports.journal)
    (subst (λ (h : List Entry). AreMoments script h (replies_of states) config ended.journal.items moments) history
    are))

-- a thread that had no room is told so
lacked_of : {states : List ThreadState} {ended : Ended} {report : Report} → Reports states ended report
    → (t held_words need : ℕ) (s : ThreadState) → slice_get states t ≡ Some s
    → s.mode ≡ mode.Ended (end.OutOfHeap held_words need)
    → (r : ThreadReport) × (slice_get report.threads t ≡ Some r) × (r.end ≡ end.OutOfHeap held_words need)
lacked_of {states} {ended} {report} reports t held_words need s at is =
    elim (slice_get_cases report.threads t).1 [
      | inl w ↦ (
        w.0,
        w.2,
        elim (reports.ends t s w.0 at w.2) [
          | inl so ↦ sym (same_end (end.OutOfHeap held_words need) w.0.end (sym is ∙ so))
          | inr goes ↦ absurd (goes.0 (subst IsEnded (sym is) tt))
        ],
      )
      | inr w ↦ absurd (
          let below : t < length states = slice_get_within states t s at in
          omega (arith, below, w.0, reports.count))
    ]

-- the report has the replies and the end of each thread, the journal and the history
pub step_report : {told : Bool} {script : Script} {config : Config} {shown : Shown} {ended : Ended} {report : Report}
    (stands : EndedStands told script config shown ended) → Reports stands.states ended report
    → MayHalt script config report report.halt → IsStepReport told script config report
step_report {told} {script} {config} {ended} {report} stands reports halts =
    let states : List ThreadState = stands.states in
    let v : View = stands.v in
    let table : TableStands told script config stands.disk v states = stands.table in
    let history : v.log ≡ report.history = sym stands.log ∙ sym reports.log in
    let threads : length report.threads ≡ length script.programs = reports.count ∙ table.count in
    record {
      history = λ is. history_of (as_told told script config stands.disk v states is table) reports history;
      threads = threads;
      moments = the_moments script v.log states config ended.journal.items told stands.moments;
      ends = λ t r at.
          let below : t < length report.threads = slice_get_within report.threads t r at in
          let state = state_at states t (omega (arith, below, reports.count)) in
          reported_end told script config
          (the_moments script v.log states config ended.journal.items told stands.moments) t state.0 r reports
          (λ held_words need so is. gone_the script v.log states config ended.journal.items told stands.moments is t
          held_words need state.0 state.1 so)
          (subst (λ (h : List Entry). EndsSo told script h states config t state.0.mode) history
          (table.ends t state.0 state.1)) (reports.ends t state.0 r state.1 at);
      halt = halts;
      journal = subst (IsJournalOf config) (sym reports.journal) stands.journal;
      are_moments = λ is. moments_of v reports history
          (are_the script v.log states config ended.journal.items told stands.moments is);
      lacked = λ is t held_words need among.
          let x = real_the script v.log states config ended.journal.items told stands.moments is t held_words need
          among in
          lacked_of reports t held_words need x.0 x.1 x.2;
      collected =
          let all : collections script config (replies_in report) (length script.programs)
          ≤ length report.journal + halted_in report =
          omega (
            arith,
            stands.counts.collected,
            owing_halted states ended report reports,
            collections_same script config (replies_of states) (replies_in report)
                (replies_same states ended report reports) (length script.programs),
            ap length reports.journal,
          ) in
          subst (λ (n : ℕ). collections script config (replies_in report) n ≤ length report.journal + halted_in report)
          (sym threads) all;
      made = λ is. subst (λ (h : List Entry). MakesWithin config h report.journal) history
          (subst (MakesWithin config v.log) (sym reports.journal) (stands.made is));
      asked =
          let all : collects script (replies_in report) (length script.programs) ≤ length report.journal =
          omega (
            arith,
            stands.counts.asked,
            asked_same script (replies_of states) (replies_in report)
                (replies_same states ended report reports) (length script.programs),
            ap length reports.journal,
          ) in
          subst (λ (n : ℕ). collects script (replies_in report) n ≤ length report.journal) (sym threads) all;
      bounded =
          let all : length report.journal ≤ collections script config (replies_in report) (length script.programs)
          + 3 * (replies_told report + length report.threads) =
          omega (
            arith,
            stands.counts.bounded,
            stands.counts.pays,
            told_less states report.threads reports.count (reports.replies),
            reports.count,
            collections_same script config (replies_of states) (replies_in report)
                (replies_same states ended report reports) (length script.programs),
            ap length reports.journal,
          ) in
          subst (λ (n : ℕ). length report.journal ≤ collections script config (replies_in report) n
          + 3 * (replies_told report + length report.threads)) (sym threads) all;
    }
