-- The moment at which a run stands, as one of a collection, or one at which a thread lacks room.
use Rattle.std.specs.Prelude.{◌≢◌, ◌%◌, ◌==◌, false}
use Rattle.std.proofs.Common.{◌≡◌, ℕ, zero, suc, ◌+◌, ◌*◌, ◌<◌, ◌≤◌, true, cond, List, [], ◌∷◌, ◌++◌, length, take}
use Rattle.std.proofs.Common.{drop, refl, sym, ◌∙◌, ap, subst, arith, ◌⊎◌, inl, inr}
use Rattle.std.proofs.Math.ListN.{length-map}
use Rattle.std.proofs.Math.Seq.{take-length}
use Rattle.std.proofs.lemmas.Bool.{ne_eqb}
use Rattle.std.proofs.lemmas.List.{take-append-drop, get_or_past}
use Rattle.std.proofs.lemmas.List.Elements.{recursion_from_All}
use Rattle.std.proofs.lemmas.List.Sums.{sum-map, sum_by-cons}
use Rattle.std.proofs.lemmas.Option.{slice_get_cases}
use Rattle.std.specs.Prelude.{Bool, map, sum, if◌then◌else◌, Option, None, Some, IfSome, slice_get}
use Rattle.std.specs.List.{AllByRecursion}
use Rattle.melt_model.specs.Alive.{Held, words_of, CostsSum}
use Rattle.melt_model.specs.Thread.{own_from, own, registers_after, value_in, Transcript}
use Rattle.melt_model.specs.declared.config.Config.{Config}
use Rattle.melt_model.specs.declared.history.Entry.{Entry}
use Rattle.melt_model.specs.declared.history.Value.{Value}
use Rattle.melt_model.specs.declared.history.Value.TheVariants.{Nil}
use Rattle.melt_model.specs.declared.operations.Op.{Op}
use Rattle.melt_model.specs.declared.operations.Op.TheVariants as op
use Rattle.melt_model.specs.declared.operations.Reply.{Reply}
use Rattle.melt_model.specs.declared.reports.Journal.{Journal}
use Rattle.melt_model.specs.declared.reports.Phase.{Phase}
use Rattle.melt_model.proofs.Histories.{slice_get-append_seam}
use Rattle.melt_model.proofs.Transcripts.{Transcript_so_far, registers_so_far, one_reply_each}
use Rattle.melt_trace.specs.Script.{Script, operations}
use Rattle.melt_scion.specs.declared.registers.Registers.{Registers}
use Rattle.melt_scion.specs.Heaps.{OnDisk}
use Rattle.melt_core.specs.Stages.{LooksAtStop}
use Rattle.melt_core.specs.Views.{View, value, values_of, held_values}
use Rattle.melt_core.proofs.Values.{get_or_replicate}
use Rattle.melt_safepoint.specs.declared.thread.Mode.{Mode}
use Rattle.melt_safepoint.specs.declared.thread.Mode.TheVariants.{Asked, Collecting, Due, Ended, Lacking, Running, Silent}
use Rattle.melt_safepoint.specs.declared.thread.ThreadState.{ThreadState}
use Rattle.melt_safepoint.specs.Needs.{NeedsWords}
use Rattle.melt_safepoint.specs.Asked.{collections, total}
use Rattle.melt_safepoint.specs.Counts.{CountsCollections, answers}
use Rattle.melt_safepoint.specs.Cuts.{CountsBy, Cut, EndsWithCollect, IsCut, IsCutAt, IsDue, IsMoment, LacksRoom}
use Rattle.melt_safepoint.specs.Cuts.{collection, due_by, is_due, registers_at, replies_at, replies_by}
use Rattle.melt_safepoint.specs.Threads.{with_first, HadCollect, OweAfterCollects, owing, replies_of}
use Rattle.melt_safepoint.specs.Modes.{owes_silent, FitsMode, IsEnded, owes}
use Rattle.melt_safepoint.specs.Endings.{gone_in, has_gone, now}
use Rattle.melt_safepoint.proofs.Asked.{asked_same, collections_same}
use Rattle.melt_safepoint.proofs.Cuts.{replies_here, replies_past, registers_by, HoldsBy, ReachesBy, NeedsBy}
use Rattle.melt_safepoint.proofs.Cuts.{gone_cases, gone_here, gone_past, owes_last, none_next}
use Rattle.melt_safepoint.proofs.Cuts.{words_same, held_words_same, needs_same, first_left}
use Rattle.melt_safepoint.specs.Collections.{Gathers}
use Rattle.melt_safepoint.specs.Tables.{RepliesStand, ThreadStands, TableStands}

-- a thread that is none has no entry
own_none : (p : ℕ) (h : List Entry) (n u : ℕ) → n ≤ u → AllByRecursion (λ (e : Entry). e.thread < n) h
    → own_from p h u ≡ []
own_none p [] n u above own = refl
own_none p (e ∷ h) n u above own =
    ap (λ (b : Bool). cond b (p ∷ own_from (p + 1) h u) (own_from (p + 1) h u))
    (ne_eqb e.thread u (λ same. let below : e.thread < n = own.0 in omega arith))
    ∙ own_none (p + 1) h n u above own.1

-- the replies of each thread are those that the history gives it
pub told_now : (script : Script) (config : Config) (disk : OnDisk) (v : View) (states : List ThreadState) (u : ℕ)
    → TableStands true script config disk v states → Transcript v.log u (operations script u) (replies_of states u)
told_now script config disk v states u table =
    let ops : List Op = operations script u in
    elim (slice_get_cases states u).1 [
      | inl w ↦
          let stands : RepliesStand script v u w.0 = (table.each u w.0 w.2).replies_stand refl in
          let k : ℕ = length w.0.replies.items in
          let so_far : Transcript v.log u (take k ops ++ drop k ops) w.0.replies.items =
          Transcript_so_far v.log u (take k ops) (drop k ops) w.0.replies.items stands.registers stands.stands in
          subst (λ (rs : List Reply). Transcript v.log u ops rs) (sym (replies_here states u w.0 w.2))
          (subst (λ (os : List Op). Transcript v.log u os w.0.replies.items) (take-append-drop k ops) so_far)
      | inr w ↦
          let none : own v.log u ≡ [] = own_none 0 v.log (length script.programs) u (omega (arith, table.count, w.0))
          (recursion_from_All (λ (e : Entry). e.thread < length script.programs) v.log table.own) in
          subst (λ (rs : List Reply). Transcript v.log u ops rs) (sym (replies_past states u w.0)) none
    ]

-- so it has ended, or has its last silent collection still to come
pub over_now : {told : Bool} {script : Script} {config : Config} {disk : OnDisk} {v : View} {states : List ThreadState}
    (u : ℕ) {s : ThreadState} → TableStands told script config disk v states → slice_get states u ≡ Some s
    → length s.replies.items ≡ length (operations script u) → (has_gone s.mode ≡ true) ⊎ (owes_silent s.mode ≡ true)
over_now {told} {script} {v} u {s} table at all = elim (gone_cases s.mode) [
  | inl gone ↦ inl gone.1
  | inr goes ↦
      let st : ThreadStands told script v u s = table.each u s at in
      let none : s.op ≡ None = none_next s.op s.cursor.operations (omega (arith, st.within, all)) in
      inr (owes_last s.mode (subst (FitsMode s.mode) none st.fits) goes.0)
]

-- now is a moment of the run
pub IsCut_now : (script : Script) (config : Config) (disk : OnDisk) (v : View) (states : List ThreadState)
    → TableStands true script config disk v states → IsCut script v.log (replies_of states) config (now v.log states)
IsCut_now script config disk v states table = record {
  within = omega arith;
  few = λ u. omega arith;
  transcripts = λ u.
      subst (λ (h : List Entry). Transcript h u (operations script u)
      (take (length (replies_of states u)) (replies_of states u))) (sym (take-length v.log))
      (subst (λ (rs : List Reply). Transcript v.log u (operations script u) rs)
      (sym (take-length (replies_of states u))) (told_now script config disk v states u table));
  last = λ u ended. refl;
  over = λ u all. elim (slice_get_cases states u).1 [
    | inl w ↦
        let count : length w.0.replies.items ≡ length (operations script u) =
        ap length (sym (replies_here states u w.0 w.2)) ∙ all in
        elim (over_now u table w.2 count) [
          | inl gone ↦ inl (gone_here states u w.0 w.2 ∙ gone)
          | inr owes ↦ inr (subst (IsDue config) count (table.due u w.0 w.2 owes))
        ]
    | inr w ↦ inl (gone_past states u w.0)
  ];
}

-- where silent collections are still to come only after a collection, so are those after the last operations
over_alone : (script : Script) (config : Config) (disk : OnDisk) (v : View) (states : List ThreadState) (u : ℕ)
    → TableStands true script config disk v states → OweAfterCollects script states
    → length (replies_of states u) ≡ length (operations script u) → ((now v.log states).ended u ≡ true)
    ⊎ (IsDue config (length (operations script u)) × EndsWithCollect (operations script u))
over_alone script config disk v states u table owe all = elim (slice_get_cases states u).1 [
  | inl w ↦
      let count : length w.0.replies.items ≡ length (operations script u) =
      ap length (sym (replies_here states u w.0 w.2)) ∙ all in
      elim (over_now u table w.2 count) [
        | inl gone ↦ inl (gone_here states u w.0 w.2 ∙ gone)
        | inr owes ↦
            let had : HadCollect script u w.0 = owe u w.0 w.2 owes in
            inr (subst (IsDue config) count (table.due u w.0 w.2 owes), (had.0, sym count ∙ had.1, had.2))
      ]
  | inr w ↦ inl (gone_past states u w.0)
]

-- the thread has not ended now
IsCutAt_now : {script : Script} {config : Config} {disk : OnDisk} {v : View} {states : List ThreadState} (t : ℕ)
    {s : ThreadState} → TableStands true script config disk v states → slice_get states t ≡ Some s
    → (IsEnded s.mode → ⊥)
    → IsCutAt script v.log (replies_of states) config t (length (replies_of states t)) (now v.log states)
IsCutAt_now {script} {config} {disk} {v} {states} t {s} table at goes = record {
  is = IsCut_now script config disk v states table;
  count = refl;
  alive = gone_here states t s at ∙ elim (gone_cases s.mode) [ inl gone ↦ absurd (goes gone.0) | inr not ↦ not.1 ];
}

-- the registers of a thread by the history are those that it has
pub state_value : (script : Script) (v : View) (u r : ℕ) (s : ThreadState) → ThreadStands true script v u s
    → (if has_gone s.mode then Nil else value_in
    (registers_after v.log u (operations script u) (length s.replies.items)) r) ≡ value v u r
state_value script v u r s st =
    let stands : RepliesStand script v u s = st.replies_stand refl in
    let ops : List Op = operations script u in
    let k : ℕ = length s.replies.items in
    let by_history : Value = value_in (registers_after v.log u ops k) r in
    elim (gone_cases s.mode) [
      | inl gone ↦
          ap (λ (b : Bool). if b then Nil else by_history) gone.1
          ∙ sym (ap (λ (vs : List Value). value_in vs r) (st.dropped gone.0) ∙ get_or_replicate 16 r Nil)
      | inr goes ↦
          let told : registers_after v.log u ops k ≡ stands.registers =
          ap (λ (os : List Op). registers_after v.log u os k) (sym (take-append-drop k ops))
          ∙ (ap (registers_after v.log u (take k ops ++ drop k ops))
          (one_reply_each v.log u (take k ops) s.replies.items stands.registers stands.stands)
          ∙ registers_so_far v.log u (take k ops) (drop k ops) s.replies.items stands.registers stands.stands) in
          let held : stands.registers ≡ values_of v u = elim stands.in_registers [
            | inl ended ↦ absurd (goes.0 ended)
            | inr same ↦ same
          ] in
          ap (λ (b : Bool). if b then Nil else by_history) goes.1
          ∙ ap (λ (vs : List Value). value_in vs r) (told ∙ held)
    ]

-- a thread that is none holds nothing
pub nothing_past : (v : View) (u r : ℕ) → length v.held ≤ u → value v u r ≡ Nil
nothing_past v u r past =
    ap (λ (regs : List ℕ). value_in (held_values v.names regs) r)
    (get_or_past (map (λ (x : Registers). x.regs) v.held) u []
    (omega (arith, length-map v.held (λ (x : Registers). x.regs))))

-- the registers of all threads by the history are those that they have
pub registers_now : {script : Script} {config : Config} {disk : OnDisk} {v : View} {states : List ThreadState} (u r : ℕ)
    → TableStands true script config disk v states → registers_by script (now v.log states) v.log u r ≡ value v u r
registers_now {script} {v} {states} u r table =
    let at : Bool → List Reply → Value =
    λ b rs. if b then Nil else value_in (registers_after v.log u (operations script u) (length rs)) r in
    elim (slice_get_cases states u).1 [
      | inl w ↦
          ap (λ (b : Bool). at b (replies_of states u)) (gone_here states u w.0 w.2)
          ∙ (ap (at (has_gone w.0.mode)) (replies_here states u w.0 w.2)
          ∙ state_value script v u r w.0 (table.each u w.0 w.2))
      | inr w ↦
          ap (λ (b : Bool). at b (replies_of states u)) (gone_past states u w.0)
          ∙ sym (nothing_past v u r (omega (arith, table.count, table.threads, w.0)))
    ]

-- now is the moment of a collection that finds the words of the view
pub moment_now : (script : Script) (config : Config) (disk : OnDisk) (v : View) (states : List ThreadState)
    (journal : List Journal) (entry : Journal) (phase : Phase) (taken : List ℕ)
    → TableStands true script config disk v states → Gathers v entry
    → IsMoment script v.log (replies_of states) config (journal ++ entry ∷ []) (length journal) (now v.log states)
    (collection phase taken)
moment_now script config disk v states journal entry phase taken table gathers =
    let cut : Cut = now v.log states in
    let same : (u r : ℕ) → value v u r ≡ registers_by script cut v.log u r =
    λ u r. sym (registers_now u r table) in
    let holds : HoldsBy script cut entry.held v.log =
    held_words_same v.log (value v) (registers_by script cut v.log) entry.held same gathers.holds in
    let reach : ReachesBy script cut gathers.alive v.log =
    words_same v.log (value v) (registers_by script cut v.log) gathers.alive same gathers.reach in (
      IsCut_now script config disk v states table,
      (
        entry,
        slice_get-append_seam journal entry [],
        record {
          holds = subst (HoldsBy script cut entry.held) (sym (take-length v.log)) holds;
          alive = gathers.alive;
          reach = subst (ReachesBy script cut gathers.alive) (sym (take-length v.log)) reach;
          fits = gathers.fits;
        },
      ),
    )

-- ---- what is counted now

-- the sum of what the first of some numbers has, and then the others
total_front : (f : ℕ → ℕ) (n : ℕ) → total f (suc n) ≡ f 0 + total (λ u. f (suc u)) n
total_front f zero = omega arith
total_front f (suc n) = omega (arith, total_front f n)

sum_first : (f : ThreadState → ℕ) (s : ThreadState) (states : List ThreadState)
    → sum (map f (s ∷ states)) ≡ f s + sum (map f states)
sum_first f s states = omega (arith, sum-map f (s ∷ states), sum_by-cons f s states, sum-map f states)

answers_now : (log : List Entry) (states : List ThreadState)
    → replies_by (now log states) (length states) ≡ answers states
answers_now log [] = refl
answers_now log (s ∷ states) =
    let first : replies_by (now log (s ∷ states)) (suc (length states))
    ≡ length s.replies.items + replies_by (now log states) (length states) =
    total_front (now log (s ∷ states)).replies (length states) in
    let one : answers (s ∷ states) ≡ length s.replies.items + answers states =
    sum_first (λ (x : ThreadState). length x.replies.items) s states in
    first ∙ (ap (λ (k : ℕ). length s.replies.items + k) (answers_now log states) ∙ sym one)

-- a silent collection is due
due_is : (every count : ℕ) → every ≢ 0 → count ≢ 0 → count % every ≡ 0 → is_due every count ≡ true
due_is zero count asked some divides = absurd (asked refl)
due_is (suc every) zero asked some divides = absurd (some refl)
due_is (suc every) (suc count) asked some divides = ap (λ (k : ℕ). k == 0) divides

-- where one is still to come of a thread, it has not ended, and one is due
owes_due : (config : Config) (mode : Mode) (count : ℕ) → (owes_silent mode ≡ true → IsDue config count)
    → owes mode ≤ (if has_gone mode then 0 else (if is_due config.every count then 1 else 0))
owes_due config Running count due = omega arith
owes_due config Due count due =
    let is = due refl in
    subst (λ (b : Bool). 1 ≤ (if b then 1 else 0)) (sym (due_is config.every count is.asked is.some is.divides))
    (omega arith)
owes_due config Silent count due =
    let is = due refl in
    subst (λ (b : Bool). 1 ≤ (if b then 1 else 0)) (sym (due_is config.every count is.asked is.some is.divides))
    (omega arith)
owes_due config Collecting count due = omega arith
owes_due config Asked count due = omega arith
owes_due config Lacking count due = omega arith
owes_due config (Ended e) count due = omega arith

-- a silent collection is still to come only of a thread of which one is due
abbrev pub DueOf : Config → List ThreadState → Type 0
DueOf config states = (t : ℕ) (s : ThreadState) → slice_get states t ≡ Some s → owes_silent s.mode ≡ true
    → IsDue config (length s.replies.items)

owing_due : (config : Config) (log : List Entry) (states : List ThreadState) → DueOf config states
    → owing states ≤ due_by config (now log states) (length states)
owing_due config log [] due = omega arith
owing_due config log (s ∷ states) due =
    let of : Bool → ℕ → ℕ = λ gone count. if gone then 0 else (if is_due config.every count then 1 else 0) in
    let first : due_by config (now log (s ∷ states)) (suc (length states))
    ≡ of (has_gone s.mode) (length s.replies.items) + due_by config (now log states) (length states) =
    total_front (λ u. of (gone_in (s ∷ states) u) (length (replies_of (s ∷ states) u))) (length states) in
    let one : owing (s ∷ states) ≡ owes s.mode + owing states =
    sum_first (λ (x : ThreadState). owes x.mode) s states in
    let more : owing (s ∷ states)
    ≤ of (has_gone s.mode) (length s.replies.items) + due_by config (now log states) (length states) =
    omega (
      arith,
      one,
      owes_due config s.mode (length s.replies.items) (due 0 s refl),
      owing_due config log states (λ t x at. due (suc t) x at),
    ) in
    subst (λ (k : ℕ). owing (s ∷ states) ≤ k) (sym first) more

-- the collections so far are counted at the moment
pub counts_now : (script : Script) (config : Config) (unpaid : ℕ) (log : List Entry) (states : List ThreadState)
    (made : ℕ) → length states ≡ length script.programs → DueOf config states
    → CountsCollections script config unpaid states made
    → CountsBy script config (replies_of states) (now log states) made
counts_now script config unpaid log states made count due counts =
    let n : ℕ = length script.programs in
    let cut : Cut = now log states in
    let same : (t : ℕ) → replies_of states t ≡ replies_at (replies_of states) cut t =
    λ t. sym (take-length (replies_of states t)) in
    let all : collections script config (replies_of states) n
    ≡ collections script config (replies_at (replies_of states) cut) n =
    collections_same script config (replies_of states) (replies_at (replies_of states) cut) same n in
    let owed : owing states ≤ due_by config cut n =
    subst (λ (k : ℕ). owing states ≤ due_by config cut k) count (owing_due config log states due) in
    let told : replies_by cut n ≡ answers states =
    ap (replies_by cut) (sym count) ∙ answers_now log states in
    record {
      asked = subst (λ (k : ℕ). k ≤ made)
          (asked_same script (replies_of states) (replies_at (replies_of states) cut) same n) counts.asked;
      collected = subst (λ (k : ℕ). k ≤ made + due_by config cut n) all (omega (arith, counts.collected, owed));
      bounded = subst (λ (k : ℕ). made ≤ k + 3 * (replies_by cut n + n)) all
          (omega (arith, counts.bounded, counts.pays, told, count));
    }

-- the next operation of a thread is that of the script after its replies
pub next_op : {told : Bool} {script : Script} {config : Config} {disk : OnDisk} {v : View} {states : List ThreadState}
    (t : ℕ) {s : ThreadState} {o : Op} → TableStands told script config disk v states → slice_get states t ≡ Some s
    → s.op ≡ Some o → slice_get (operations script t) (length (replies_of states t)) ≡ Some o
next_op {script} {states} t {s} {o} table at next =
    let to_come : o ∷ s.cursor.operations ≡ drop (length s.replies.items) (operations script t) =
    ap (λ (x : Option Op). with_first x s.cursor.operations) (sym next) ∙ (table.each t s at).to_come in
    ap (λ (rs : List Reply). slice_get (operations script t) (length rs)) (replies_here states t s at)
    ∙ first_left (operations script t) (length s.replies.items) o s.cursor.operations to_come

-- what an operation does at the stop word by the registers of its thread, it does by the history
looks_same : (a b : ℕ → Value) (o : Option Op) → ((r : ℕ) → a r ≡ b r) → IfSome o (LooksAtStop a)
    → IfSome o (LooksAtStop b)
looks_same a b None same looks = tt
looks_same a b (Some (op.New dst refs nums)) same looks = tt
looks_same a b (Some (op.Load dst src i)) same looks = λ none. looks (same src ∙ none)
looks_same a b (Some (op.Store obj i src)) same looks = λ none. looks (same obj ∙ none)
looks_same a b (Some (op.Get src j)) same looks = λ none. looks (same src ∙ none)
looks_same a b (Some (op.Put obj j v)) same looks = λ none. looks (same obj ∙ none)
looks_same a b (Some (op.GLoad dst g)) same looks = tt
looks_same a b (Some (op.GStore g src)) same looks = tt
looks_same a b (Some (op.Same c d)) same looks = absurd looks
looks_same a b (Some (op.Copy dst src)) same looks = absurd looks
looks_same a b (Some (op.Drop r)) same looks = absurd looks
looks_same a b (Some op.Collect) same looks = absurd looks

pub looks_now : {script : Script} {config : Config} {disk : OnDisk} {v : View} {states : List ThreadState} (t : ℕ)
    → TableStands true script config disk v states → (o : Option Op) → IfSome o (LooksAtStop (value v t))
    → IfSome o (LooksAtStop (registers_at script v.log (now v.log states) t))
looks_now {script} {v} {states} t table o looks =
    let by : List Entry → ℕ → Value = λ h. registers_by script (now v.log states) h t in
    looks_same (value v t) (registers_at script v.log (now v.log states) t) o
    (λ r. sym (registers_now t r table) ∙ ap (λ (h : List Entry). by h r) (sym (take-length v.log))) looks

-- now: the next operation of a thread needs more words than there are beside those that registers hold
pub lacks_room : {script : Script} {config : Config} {disk : OnDisk} {v : View} {states : List ThreadState} (t need : ℕ)
    {held_words : ℕ} {o : Op} {s : ThreadState} → TableStands true script config disk v states
    → slice_get states t ≡ Some s → (IsEnded s.mode → ⊥) → OweAfterCollects script states → s.op ≡ Some o
    → NeedsWords v.log (value v) t o need → CostsSum (words_of v.log) (Held (value v)) held_words
    → config.heap < held_words + need
    → LacksRoom script v.log (replies_of states) config (now v.log states) t held_words need
lacks_room {script} {config} {disk} {v} {states} t need {held_words} {o} table at goes owe next needs held above =
    let cut : Cut = now v.log states in
    let same : (u r : ℕ) → value v u r ≡ registers_by script cut v.log u r =
    λ u r. sym (registers_now u r table) in
    let holds : HoldsBy script cut held_words v.log =
    held_words_same v.log (value v) (registers_by script cut v.log) held_words same held in
    let needed : NeedsBy script cut t o need v.log =
    needs_same v.log (value v) (registers_by script cut v.log) t o need same needs in
    record {
      is_cut = IsCutAt_now t table at goes;
      over = λ u all. over_alone script config disk v states u table owe all;
      op = o;
      next = next_op t table at next;
      needed = subst (NeedsBy script cut t o need) (sym (take-length v.log)) needed;
      holds = subst (HoldsBy script cut held_words) (sym (take-length v.log)) holds;
      above = above;
    }
