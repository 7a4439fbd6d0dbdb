-- What each step of a run keeps.
use Rattle.std.proofs.Common.{[], ◌≡◌, ◌≢◌, ℕ, ◌+◌, ◌<◌, ◌≤◌, suc, true, false, List, ◌∷◌, ◌++◌, length, take, refl}
use Rattle.std.proofs.Common.{sym, ◌∙◌, ap, subst, arith, length-append, inl, inr}
use Rattle.std.proofs.Math.ListN.{set, length-set}
use Rattle.std.proofs.lemmas.Bool.{cases_eq}
use Rattle.std.proofs.lemmas.List.{append-nil, get_or_past}
use Rattle.std.proofs.lemmas.Option.{none-some, same_Some, slice_get_within, slice_get_cases}
use Rattle.std.specs.Prelude.{Bool, Option, None, Some, IfSome, IsSome, All, slice_get, drop, replicate, vec_capacity}
use Rattle.std.specs.Prelude.{◌⊎◌}
use Rattle.melt_model.specs.History.{last, Legal}
use Rattle.melt_model.specs.Standing.{Stands}
use Rattle.melt_model.specs.Thread.{value_in}
use Rattle.melt_model.specs.declared.config.Config.{Config}
use Rattle.melt_model.specs.declared.history.Act.{Act}
use Rattle.melt_model.specs.declared.history.Entry.{Entry}
use Rattle.melt_model.specs.declared.history.Value.{Value}
use Rattle.melt_model.specs.declared.history.Value.TheVariants.{Nil}
use Rattle.melt_model.specs.declared.operations.Op.{Op}
use Rattle.melt_model.specs.declared.operations.Op.TheVariants.{Collect}
use Rattle.melt_model.specs.declared.operations.Reply.{Reply}
use Rattle.melt_model.specs.declared.reports.Journal.{Journal}
use Rattle.melt_trace.specs.Grammar.{InRange}
use Rattle.melt_trace.specs.Script.{Script, operations}
use Rattle.melt_scion.specs.Heaps.{OnDisk}
use Rattle.melt_core.specs.declared.call.Call.{Call}
use Rattle.melt_core.specs.Answering.{with_entry}
use Rattle.melt_core.specs.Changed.{stopped}
use Rattle.melt_core.specs.Stages.{LooksAtStop}
use Rattle.melt_core.specs.Views.{View, value, values_of, call_of, IsQuiet, Standing, state}
use Rattle.melt_core.proofs.Disks.{stands_untold}
use Rattle.melt_core.specs.declared.answer.Pause.{Pause}
use Rattle.melt_core.specs.declared.answer.Pause.TheVariants as pause
use Rattle.melt_core.specs.declared.answer.Refusal.{Refusal}
use Rattle.melt_core.specs.declared.answer.Refusal.TheVariants as refusal
use Rattle.melt_core.specs.Advances.{KeepsOthers, Pauses}
use Rattle.melt_safepoint.specs.declared.thread.ThreadState.{ThreadState}
use Rattle.melt_safepoint.specs.declared.thread.Mode.{Mode}
use Rattle.melt_safepoint.specs.declared.thread.Mode.TheVariants.{Running, Due, Asked, Lacking}
use Rattle.melt_safepoint.specs.Cuts.{IsDue, Moment}
use Rattle.melt_safepoint.specs.Run.{LoadsNext}
use Rattle.melt_safepoint.specs.Threads.{DueBy, with_first, left, replies_of, to_reply, Later, TakesReply, AllWait}
use Rattle.melt_safepoint.specs.Threads.{most_forwards}
use Rattle.melt_safepoint.specs.Modes.{owes_silent, mode_for, CallsAgain, MayGo, HadNoRoom, IsEnded, FitsMode}
use Rattle.melt_safepoint.specs.Endings.{EndsSo, HaveMoments}
use Rattle.melt_safepoint.proofs.Cuts.{replies_here, first_left}
use Rattle.melt_safepoint.proofs.InOrder.{HaveMoments_later, none_set}
use Rattle.melt_safepoint.proofs.PausedOps.{paused_fits, paused_looks}
use Rattle.melt_safepoint.proofs.Threads.{get_set_same, get_set_other, set_got, drop_next, take_next, replies_other}
use Rattle.melt_safepoint.proofs.Threads.{replies_same, later_set, to_reply_set, to_reply_one}
use Rattle.melt_safepoint.proofs.Modes.{ends_later, ends_open, paused_cases, lost_ends, ended_fits, refused_owes}
use Rattle.melt_safepoint.proofs.Modes.{ended_again, lost_so, told_again, told_fits, told_due, first_counts, ends_untold}
use Rattle.melt_safepoint.specs.Tables.{RepliesStand, ThreadStands, TableStands, ThreadWaits, ThreadGoes, ThreadRefused}
use Rattle.melt_safepoint.specs.Tables.{ThreadLost, ThreadTold, IsReady, ThreadStep, Renewed}
use Rattle.melt_safepoint.proofs.Telling.{with_more, with_length, with_own, told_with, Stands_answers}

-- A thread stands so too with another mode, where it is told so.
pub stands_so : {told : Bool} {script : Script} {v : View} (w : View) {t : ℕ} {s : ThreadState} (mode : Mode)
    → ThreadStands told script v t s → (told ≡ true → RepliesStand script w t (record s { mode = mode }))
    → (IsEnded mode → values_of w t ≡ replicate 16 Nil)
    → ((c : Call) → call_of w t ≡ Some c → (mode ≡ Running) × (s.op ≡ Some c.op) × (c.op ≢ Collect))
    → FitsMode mode s.op → (CallsAgain mode → IfSome s.op (LooksAtStop (value w t)))
    → ThreadStands told script w t (record s { mode = mode })
stands_so w mode st is_told dropped call fits looks = record {
  to_come = st.to_come;
  within = st.within;
  none_left = st.none_left;
  replies_stand = is_told;
  dropped = dropped;
  call = call;
  fits = fits;
  looks = looks;
  in_range = st.in_range;
  globals = st.globals;
  room = st.room;
}

-- what an operation does at the stop word, where the registers of its thread stand for the same
looks_so : (v w : View) (t : ℕ) (o : Option Op) → values_of w t ≡ values_of v t → IfSome o (LooksAtStop (value v t))
    → IfSome o (LooksAtStop (value w t))
looks_so v w t o values looks =
    subst (λ (rs : List Value). IfSome o (LooksAtStop (value_in rs))) (sym values) looks

-- what a thread is told by a history that is the same
pub told_so : {script : Script} {v : View} (w : View) {t : ℕ} {s : ThreadState} (mode : Mode) (is : RepliesStand script
    v t s)
    → w.log ≡ v.log → IsEnded mode ⊎ (is.registers ≡ values_of w t) → RepliesStand script w t (record s { mode = mode })
told_so {script} w {t} {s} mode is history in_registers = record {
  registers = is.registers;
  stands = subst (λ (h : List Entry). Stands h t (take (length s.replies.items) (operations script t)) s.replies.items
      is.registers) (sym history) is.stands;
  in_registers = in_registers;
}

-- another thread than that of the event
other_told : {script : Script} {v w : View} {t u : ℕ} {s : ThreadState} (act : Option Act) → u ≢ t → KeepsOthers v w t
    → w.log ≡ with_entry t v.log act → RepliesStand script v u s → RepliesStand script w u s
other_told {script} {t} {u} {s} act differ others grown is = record {
  registers = is.registers;
  stands = subst (λ (h : List Entry). Stands h u (take (length s.replies.items) (operations script u)) s.replies.items
      is.registers) (sym grown)
      (told_with t act differ is.stands);
  in_registers = elim is.in_registers [
    | inl over ↦ inl over
    | inr same ↦ inr (same ∙ sym (others.values u differ))
  ];
}

other_stands : {told : Bool} {script : Script} {v w : View} {t u : ℕ} {s : ThreadState} (act : Option Act) → u ≢ t
    → KeepsOthers v w t → w.log ≡ with_entry t v.log act → ThreadStands told script v u s
    → ThreadStands told script w u s
other_stands {v} {w} {u} {s} act differ others grown st =
    stands_so w s.mode st (λ tells. other_told act differ others grown (st.replies_stand tells))
    (λ over. others.values u differ ∙ st.dropped over) (λ c is. st.call c (sym (others.calls u differ) ∙ is)) st.fits
    (λ again. looks_so v w u s.op (others.values u differ) (st.looks again))

-- the registers of a thread that has not ended hold what it was told
held_now : (script : Script) (v : View) (t : ℕ) (s : ThreadState) (is : RepliesStand script v t s) → (IsEnded s.mode
    → ⊥)
    → is.registers ≡ values_of v t
held_now script v t s is runs = elim is.in_registers [ inl over ↦ absurd (runs over) | inr same ↦ same ]

-- a thread of which at most the mode changes
pub mode_stands : {told : Bool} {script : Script} {v : View} (w : View) {t : ℕ} {s : ThreadState} (mode : Mode)
    → ThreadStands told script v t s → (IsEnded s.mode → ⊥) → (IsEnded mode → ⊥) → w.log ≡ v.log
    → values_of w t ≡ values_of v t → FitsMode mode s.op → (CallsAgain mode → IfSome s.op (LooksAtStop (value v t)))
    → ((c : Call) → call_of w t ≡ Some c → (mode ≡ Running) × (s.op ≡ Some c.op) × (c.op ≢ Collect))
    → ThreadStands told script w t (record s { mode = mode })
mode_stands {script} {v} w {t} {s} mode st runs waits history values fits looks call =
    stands_so w mode st (λ tells. told_so w mode (st.replies_stand tells) history
    (inr (held_now script v t s (st.replies_stand tells) runs ∙ sym values))) (λ over. absurd (waits over)) call fits
    (λ again. looks_so v w t s.op values (looks again))

-- What an event of a thread shows of it, so that all threads stand after the event: its entry, if it has one, and the
-- replies that it got.
pub record ThreadEvent (told : Bool) (script : Script) (config : Config) (v w : View) (states : List ThreadState) (t :
    ℕ)
    (s after : ThreadState) : Type 0 where
  pub act : Option Act
  pub extra : List Reply
  pub grown : w.log ≡ with_entry t v.log act
  pub replies : after.replies.items ≡ s.replies.items ++ extra
  pub stands : ThreadStands told script w t after
  pub due : owes_silent after.mode ≡ true → IsDue config (length after.replies.items)
  pub ends : EndsSo told script w.log (set states t after) config t after.mode
  pub entries : length w.log + length (left after) ≤ length v.log + length (left s)

-- all threads stand after such an event
pub Table_moves : {told : Bool} {script : Script} {config : Config} {disk : OnDisk} {v w : View}
    {states : List ThreadState} {t : ℕ} {s after : ThreadState} → TableStands told script config disk v states
    → slice_get states t ≡ Some s → (IsEnded s.mode → ⊥) → Standing told disk w → KeepsOthers v w t
    → ThreadEvent told script config v w states t s after → TableStands told script config disk w (set states t after)
Table_moves {told} {script} {config} {v} {w} {states} {t} {s} {after} table at runs stands others m =
    let later : Later states (set states t after) = later_set states t s after m.extra at runs m.replies in
    let more = with_more v.log t m.act in
    let longer : w.log ≡ v.log ++ more.0 = m.grown ∙ more.1 in
    let here : slice_get (set states t after) t ≡ Some after = get_set_same states t s after at in
    let at_t : (u : ℕ) (x : ThreadState) → u ≡ t → slice_get (set states t after) u ≡ Some x → after ≡ x =
    λ u x same is. same_Some after x (sym here ∙ (ap (λ (k : ℕ). slice_get (set states t after) k) (sym same) ∙ is)) in
    let elsewhere : (u : ℕ) (x : ThreadState) → u ≢ t → slice_get (set states t after) u ≡ Some x
    → slice_get states u ≡ Some x =
    λ u x differ is. sym (get_set_other states t u after differ) ∙ is in
    let was : replies_of states t ≡ s.replies.items = replies_here states t s at in
    let now : replies_of (set states t after) t ≡ after.replies.items = replies_same states t s after at in
    let to_come : to_reply (set states t after) + length (left s) ≡ to_reply states + length (left after) =
    to_reply_set states t s after at in
    let fits : length w.log + length (left after) ≤ length v.log + length (left s) = m.entries in
    let one : length (left s) ≤ to_reply states = to_reply_one states t s at in
    let size : length (set states t after) ≡ length states = length-set states t after in
    record {
      stands = stands;
      count = size ∙ table.count;
      threads = others.threads ∙ table.threads;
      globals = others.globals ∙ table.globals;
      words = others.words ∙ table.words;
      forward_words = others.forwards ∙ table.forward_words;
      forwards = subst (λ (n : ℕ). n ≤ most_forwards) (sym others.forwards) table.forwards;
      some_forward = subst (λ (n : ℕ). 1 ≤ n) (sym others.forwards) table.some_forward;
      each = λ u x is. elim (cases_eq u t) [
        | inl same ↦ subst (λ (k : ℕ). ThreadStands told script w k x) (sym same)
            (subst (λ (y : ThreadState). ThreadStands told script w t y) (at_t u x same is) m.stands)
        | inr differ ↦ other_stands m.act differ others m.grown (table.each u x (elsewhere u x differ is))
      ];
      own = subst (All (λ (e : Entry). e.thread < length script.programs)) (sym m.grown)
          (with_own v.log t (length script.programs) m.act
          (let within : t < length states = slice_get_within states t s at in
          let count : length states ≡ length script.programs = table.count in omega arith) table.own);
      due = λ u x is. elim (cases_eq u t) [
        | inl same ↦ subst (λ (y : ThreadState). owes_silent y.mode ≡ true → IsDue config (length y.replies.items))
            (at_t u x same is) m.due
        | inr differ ↦ table.due u x (elsewhere u x differ is)
      ];
      ends = λ u x is. elim (cases_eq u t) [
        | inl same ↦ subst (λ (k : ℕ). EndsSo told script w.log (set states t after) config k x.mode) (sym same)
            (subst (λ (y : ThreadState). EndsSo told script w.log (set states t after) config t y.mode)
            (at_t u x same is) m.ends)
        | inr differ ↦ subst (λ (h : List Entry). EndsSo told script h (set states t after) config u x.mode)
            (sym longer)
            (ends_later told script v.log more.0 config u later (elsewhere u x differ is)
            (replies_other states t u after differ) refl (table.ends u x (elsewhere u x differ is)))
      ];
      entries =
          let e : length v.log + to_reply states ≤ v.capacity = table.entries in
          let c : w.capacity ≡ v.capacity = others.capacity in
          omega (arith, e, c, to_come, fits, one);
      few = let e : length v.log + to_reply states ≤ 8388608 = table.few in omega (arith, e, to_come, fits, one);
    }

-- and the moments of the run stay so
pub moments_moves : {told : Bool} {script : Script} {config : Config} {v w : View} {states : List ThreadState} {t : ℕ}
    {s after : ThreadState} (journal : List Journal) → slice_get states t ≡ Some s → (IsEnded s.mode → ⊥)
    → ThreadEvent told script config v w states t s after → (HadNoRoom after.mode → ⊥)
    → {moments : List Moment} → HaveMoments script v.log states config journal moments
    → HaveMoments script w.log (set states t after) config journal moments
moments_moves {script} {config} {v} {states} {t} {s} {after} journal at runs m room {moments} have =
    let more = with_more v.log t m.act in
    subst (λ (h : List Entry). HaveMoments script h (set states t after) config journal moments)
    (sym (m.grown ∙ more.1))
    (HaveMoments_later script v.log more.0 config journal (later_set states t s after m.extra at runs m.replies)
    (none_set states t s after at room) have)

-- a thread that got no reply
pub same_moves : {told : Bool} {script : Script} (config : Config) (v : View) {w : View} (states : List ThreadState)
    {t : ℕ} (s : ThreadState) (mode : Mode) → (owes_silent mode ≡ true → IsDue config (length s.replies.items))
    → (IsEnded mode → ⊥) → w.log ≡ v.log → ThreadStands told script w t (record s { mode = mode })
    → ThreadEvent told script config v w states t s (record s { mode = mode })
same_moves {told} {script} config v {w} states {t} s mode due free history stands =
    let after : ThreadState = record s { mode = mode } in
    record {
      act = None;
      extra = [];
      grown = history;
      replies = sym (append-nil s.replies.items);
      stands = stands;
      due = due;
      ends = ends_open told script config w.log (set states t after) t mode free;
      entries = let same : length w.log ≡ length v.log = ap length history in omega arith;
    }

-- a thread that waits for a collection makes no call again
waits_again : (v w : View) (t : ℕ) (s after : ThreadState) (mode : Mode) → ThreadWaits v w t s after mode
    → CallsAgain mode → ⊥
waits_again v w t s after mode waits again = elim waits.before [
  | inl own ↦ subst CallsAgain own.2 again
  | inr due ↦ subst CallsAgain due.1 again
]

-- and has not ended
waits_open : (v w : View) (t : ℕ) (s after : ThreadState) (mode : Mode) → ThreadWaits v w t s after mode → IsEnded mode
    → ⊥
waits_open v w t s after mode waits over = elim waits.before [
  | inl own ↦ subst IsEnded own.2 over
  | inr due ↦ subst IsEnded due.1 over
]

-- a thread that waits for a collection
waits_moves : {told : Bool} {script : Script} (config : Config) {v w : View} (states : List ThreadState) {t : ℕ}
    {s after : ThreadState} {mode : Mode} → (owes_silent s.mode ≡ true → IsDue config (length s.replies.items))
    → ThreadStands told script v t s → (IsEnded s.mode → ⊥) → ThreadWaits v w t s after mode
    → ThreadEvent told script config v w states t s after
waits_moves {told} {script} config {v} {w} states {t} {s} {after} {mode} due st runs waits =
    let waiting : IsEnded mode → ⊥ = waits_open v w t s after mode waits in
    let fits : FitsMode mode s.op = elim waits.before [
      | inl own ↦ subst (λ (m : Mode). FitsMode m s.op) (sym own.2) own.1
      | inr due ↦ subst (λ (m : Mode). FitsMode m s.op) (sym due.1) tt
    ] in
    let owes : owes_silent mode ≡ true → IsDue config (length s.replies.items) = λ is. elim waits.before [
      | inl own ↦ absurd (let wrong : false ≡ true = sym (ap owes_silent own.2) ∙ is in cc)
      | inr silent ↦ due (ap owes_silent silent.0)
    ] in
    let call : (c : Call) → call_of v t ≡ Some c → ⊥ = λ c is. elim waits.before [
      | inl own ↦ let known = st.call c is in known.2 (same_Some c.op Collect (sym known.1 ∙ own.1))
      | inr due ↦ let known : s.mode ≡ Running = (st.call c is).0 in let is_due : s.mode ≡ Due = due.0 in absurd (cc)
    ] in
    let stands : ThreadStands told script (stopped v) t (record s { mode = mode }) =
    mode_stands (stopped v) mode st runs waiting refl refl fits
    (λ again. absurd (waits_again v w t s after mode waits again)) (λ c is. absurd (call c is)) in
    subst (λ (y : ThreadState). ThreadEvent told script config v w states t s y) (sym waits.only)
    (same_moves config v states s mode owes waiting (ap (λ (x : View). x.log) waits.stop)
    (subst (λ (x : View). ThreadStands told script x t (record s { mode = mode })) (sym waits.stop) stands))

-- a thread whose call goes on
goes_moves : {told : Bool} {script : Script} (config : Config) {v w : View} (states : List ThreadState) {t : ℕ}
    {s after : ThreadState} → (owes_silent s.mode ≡ true → IsDue config (length s.replies.items))
    → ThreadStands told script v t s → (IsEnded s.mode → ⊥) → ThreadGoes v w t s after
    → ThreadEvent told script config v w states t s after
goes_moves {told} {script} config {v} {w} states {t} {s} due st runs goes =
    let stands : ThreadStands told script w t (record s { mode = s.mode }) =
    mode_stands w s.mode st runs runs goes.history goes.values st.fits st.looks
    (λ c is. let same : goes.call ≡ c = same_Some goes.call c (sym goes.flight ∙ is) in (
      goes.running,
      goes.op ∙ ap (λ (x : Call). Some x.op) same,
      subst (λ (x : Call). x.op ≢ Collect) same goes.no_collect,
    )) in
    subst (λ (y : ThreadState). ThreadEvent told script config v w states t s y) (sym goes.same)
    (same_moves config v states s s.mode due runs goes.history stands)

-- what a call that paused leaves of the view
pub paused_view : (v w : View) (t : ℕ) (o : Op) (cause : Pause) → Pauses v w t o cause
    → (call_of w t ≡ None) × (w.log ≡ v.log) × (values_of w t ≡ values_of v t)
paused_view v w t o pause.Asked pauses = (
  ap (λ (x : View). call_of x t) pauses.same ∙ pauses.first,
  ap (λ (x : View). x.log) pauses.same,
  ap (λ (x : View). values_of x t) pauses.same,
)
paused_view v w t o (pause.Space need) pauses = (pauses.call, pauses.own.history, pauses.own.values)
paused_view v w t o pause.Forward pauses = (pauses.call, pauses.own.history, pauses.own.values)

-- a thread that waits for its call to be made again
again_moves : {told : Bool} {script : Script} (config : Config) {v : View} (w : View) (states : List ThreadState)
    {t : ℕ} {s : ThreadState} (mode : Mode) → ThreadStands told script v t s → (IsEnded s.mode → ⊥)
    → (mode ≡ Asked) ⊎ (mode ≡ Lacking) → FitsMode mode s.op → IfSome s.op (LooksAtStop (value v t))
    → (call_of w t ≡ None) × (w.log ≡ v.log) × (values_of w t ≡ values_of v t)
    → ThreadEvent told script config v w states t s (record s { mode = mode })
again_moves {told} {script} config {v} w states {t} {s} mode st runs waits fits looks beyond =
    let waiting : IsEnded mode → ⊥ = λ over. elim waits [
      | inl asked ↦ subst IsEnded asked over
      | inr lacking ↦ subst IsEnded lacking over
    ] in
    let owes : owes_silent mode ≡ true → IsDue config (length s.replies.items) = λ is. absurd (elim waits [
      | inl asked ↦ let wrong : false ≡ true = sym (ap owes_silent asked) ∙ is in cc
      | inr lacking ↦ let wrong : false ≡ true = sym (ap owes_silent lacking) ∙ is in cc
    ]) in
    let stands : ThreadStands told script w t (record s { mode = mode }) =
    mode_stands w mode st runs waiting beyond.1 beyond.2 fits (λ again. looks)
    (λ c is. absurd (let none : call_of w t ≡ None = beyond.0 in cc)) in
    same_moves config v states s mode owes waiting beyond.1 stands

-- a thread whose call was refused
refused_moves : {told : Bool} {script : Script} (config : Config) {v w : View} (states : List ThreadState) {t : ℕ}
    {s after : ThreadState} → {disk : OnDisk} → Standing told disk v → ThreadStands told script v t s
    → (IsEnded s.mode → ⊥) → ThreadRefused v w t s after → ThreadEvent told script config v w states t s after
refused_moves {told} {script} config {v} {w} states {t} {s} stands st runs refused =
    let mode : Mode = mode_for (refusal.Pause refused.cause) in
    let same : (c : Call) → call_of v t ≡ Some c → c.op ≡ refused.op = λ c is.
    let of : s.op ≡ Some c.op = (st.call c is).1 in
    same_Some c.op refused.op (sym of ∙ refused.next) in
    let fits : FitsMode mode (Some refused.op) =
    paused_fits v w t refused.op refused.cause refused.no_collect (λ c is. (stands.fits t c is, same c is)) refused.pauses
    in
    subst (λ (y : ThreadState). ThreadEvent told script config v w states t s y) (sym refused.only)
    (again_moves config w states mode st runs (paused_cases refused.cause)
    (subst (FitsMode mode) (sym refused.next) fits)
    (subst (λ (o : Option Op). IfSome o (LooksAtStop (value v t))) (sym refused.next)
    (paused_looks v w t refused.op refused.cause refused.pauses))
    (paused_view v w t refused.op refused.cause refused.pauses))

-- a thread that still lacks room stands as before
pub Table_lacks : {told : Bool} {script : Script} {config : Config} {disk : OnDisk} {v w : View}
    {states : List ThreadState} {t : ℕ} {s : ThreadState} → TableStands told script config disk v states
    → slice_get states t ≡ Some s → s.mode ≡ Lacking → Standing told disk w → KeepsOthers v w t
    → (call_of w t ≡ None) × (w.log ≡ v.log) × (values_of w t ≡ values_of v t)
    → TableStands told script config disk w states
Table_lacks {told} {script} {config} {disk} {v} {w} {states} {t} {s} table at lacking stands others beyond =
    let st : ThreadStands told script v t s = table.each t s at in
    let runs : IsEnded s.mode → ⊥ = λ over. subst IsEnded lacking over in
    let fits : FitsMode Lacking s.op = subst (λ (m : Mode). FitsMode m s.op) lacking st.fits in
    let same : record s { mode = Lacking } ≡ s =
    ap {B = ThreadState} (λ (m : Mode). record s { mode = m }) (sym lacking) in
    let moves : ThreadEvent told script config v w states t s (record s { mode = Lacking }) =
    again_moves config w states Lacking st runs (inr refl) fits (st.looks (subst CallsAgain (sym lacking) tt)) beyond in
    subst (TableStands told script config disk w) (set_got states t s at)
    (subst (λ (y : ThreadState). TableStands told script config disk w (set states t y)) same
    (Table_moves table at runs stands others moves))

-- it stands, with registers that hold nothing
lost_stands : {told : Bool} {script : Script} {finish : ℕ} {v w : View} {t : ℕ} {s after : ThreadState}
    → ThreadStands told script v t s → (lost : ThreadLost told finish v w t s after)
    → ThreadStands told script w t (record s { mode = mode_for lost.refusal })
lost_stands {told} {finish} {w} {t} {s} st lost =
    let over : IsEnded (mode_for lost.refusal) = lost_ends told finish lost.refusal lost.cause in
    stands_so w (mode_for lost.refusal) st
    (λ tells. told_so w (mode_for lost.refusal) (st.replies_stand tells) lost.history (inl over)) (λ ended.
    lost.dropped)
    (λ c is. absurd (let none : call_of w t ≡ None = lost.call in cc)) (ended_fits (mode_for lost.refusal) s.op over)
    (λ again. absurd (ended_again (mode_for lost.refusal) over again))

-- all threads stand after the end of one that could not read the disk
pub lost_moves : {told : Bool} {script : Script} (config : Config) {finish : ℕ} {v w : View} (states : List ThreadState)
    {t : ℕ} {s after : ThreadState} → finish ≤ config.disk → ThreadStands told script v t s
    → slice_get states t ≡ Some s → ThreadLost told finish v w t s after → ThreadEvent told script config v w states t s
    after
lost_moves {told} {script} config {finish} {v} {w} states {t} {s} within st at lost =
    let gone : ThreadState = record s { mode = mode_for lost.refusal } in
    let next : slice_get (operations script t) (length s.replies.items) ≡ Some lost.op =
    first_left (operations script t) (length s.replies.items) lost.op s.cursor.operations
    (ap (λ (o : Option Op). with_first o s.cursor.operations) (sym lost.next) ∙ st.to_come) in
    let loads : LoadsNext script t (length (replies_of (set states t gone) t)) =
    subst (LoadsNext script t) (ap length (sym (replies_same states t s gone at)))
    (record { op = lost.op; next = next; loads = lost.loads }) in
    subst (λ (y : ThreadState). ThreadEvent told script config v w states t s y) (sym lost.only)
    (record {
      act = None;
      extra = [];
      grown = lost.history;
      replies = sym (append-nil s.replies.items);
      stands = lost_stands st lost;
      due = λ owes. absurd (let wrong : false ≡ true = sym (refused_owes lost.refusal) ∙ owes in cc);
      ends = lost_so told w.log (set states t gone) config finish lost.refusal within loads lost.cause;
      entries = let same : length w.log ≡ length v.log = ap length lost.history in omega arith;
    })

-- A thread that got the reply to its next operation: what was left began with it.
pub told_left : {told : Bool} {v w : View} {t : ℕ} {s after : ThreadState} (got : ThreadTold told v w t s after)
    → left s ≡ got.op ∷ s.cursor.operations
told_left {s} got = ap (λ (o : Option Op). with_first o s.cursor.operations) got.next

-- the operations to which it has replies
told_taken : {told : Bool} {script : Script} {v w : View} {t : ℕ} {s after : ThreadState}
    → ThreadStands told script v t s → (got : ThreadTold told v w t s after)
    → take (length after.replies.items) (operations script t)
    ≡ take (length s.replies.items) (operations script t) ++ got.op ∷ []
told_taken {script} {t} {s} {after} st got =
    let ops : List Op = operations script t in
    let k : ℕ = length s.replies.items in
    let more : length after.replies.items ≡ suc k =
    omega (arith, ap length got.takes.replies, length-append s.replies.items (got.reply ∷ [])) in
    ap (λ (n : ℕ). take n ops) more
    ∙ take_next ops s.cursor.operations k got.op (sym st.to_come ∙ told_left got)

-- it is told one operation further by the history
told_further : {script : Script} {disk : OnDisk} {v w : View} {t : ℕ} {s after : ThreadState}
    → ThreadStands true script v t s → (IsEnded s.mode → ⊥) → Standing true disk v → Standing true disk w
    → length w.globals ≡ length v.globals → ThreadTold true v w t s after → RepliesStand script w t after
told_further {script} {v} {w} {t} {s} {after} st runs before beyond globals got =
    let ops : List Op = operations script t in
    let k : ℕ = length s.replies.items in
    let is : RepliesStand script v t s = st.replies_stand refl in
    let answers = got.answers refl in
    let legal : Legal w.log (length v.globals) = subst (λ (n : ℕ). Legal w.log n) globals (beyond.legal refl) in
    let now : Stands v.log t (take k ops) s.replies.items (values_of v t) =
    subst (λ (rs : List Value). Stands v.log t (take k ops) s.replies.items rs)
    (held_now script v t s is runs) is.stands in
    let next : Stands w.log t (take k ops ++ got.op ∷ []) (s.replies.items ++ got.reply ∷ []) answers.0 =
    Stands_answers (length v.globals) (before.legal refl) legal now answers.1 in
    record {
      registers = answers.0;
      stands = subst (λ (os : List Op). Stands w.log t os after.replies.items answers.0)
          (sym (told_taken st got))
          (subst (λ (rs : List Reply). Stands w.log t (take k ops ++ got.op ∷ []) rs answers.0) (sym got.takes.replies)
          next);
      in_registers = answers.2;
    }

-- so far as the thread is told
told_by : (told : Bool) {script : Script} {disk : OnDisk} {v w : View} {t : ℕ} {s after : ThreadState}
    → ThreadStands told script v t s → (IsEnded s.mode → ⊥) → Standing told disk v → Standing told disk w
    → length w.globals ≡ length v.globals → ThreadTold told v w t s after → told ≡ true → RepliesStand script w t after
told_by true st runs before beyond globals got tells =
    told_further st runs before beyond globals got
told_by false st runs before beyond globals got tells = absurd (cc)

-- it stands one operation further
told_stands : {told : Bool} {script : Script} {disk : OnDisk} {v w : View} {t : ℕ} {s after : ThreadState}
    → ThreadStands told script v t s → (IsEnded s.mode → ⊥) → Standing told disk v → Standing told disk w
    → length w.globals ≡ length v.globals → ThreadTold told v w t s after → ThreadStands told script w t after
told_stands {told} {script} {w} {t} {s} {after} st runs before beyond globals got =
    let ops : List Op = operations script t in
    let k : ℕ = length s.replies.items in
    let takes : TakesReply s after got.reply = got.takes in
    let first : left s ≡ got.op ∷ s.cursor.operations = told_left got in
    let dropped : drop k ops ≡ got.op ∷ s.cursor.operations = sym st.to_come ∙ first in
    let count : length after.replies.items ≡ k + 1 =
    ap length takes.replies ∙ length-append s.replies.items (got.reply ∷ []) in
    let more : length after.replies.items ≡ suc k = omega (arith, count) in
    let sizes : length (left s) ≡ length s.cursor.operations + 1 = omega (arith, ap length first) in
    let fewer : length (left after) ≡ length s.cursor.operations = ap length takes.to_come in
    let within : k + length (left s) ≡ length ops = st.within in
    let room : k + length (left s) ≤ vec_capacity s.replies = st.room in
    let capacity : vec_capacity after.replies ≡ vec_capacity s.replies = takes.capacity in
    record {
      to_come =
          takes.to_come ∙ (sym (drop_next ops s.cursor.operations k got.op dropped)
          ∙ ap (λ (n : ℕ). drop n ops) (sym more));
      within = omega (arith, count, sizes, fewer, within);
      none_left = takes.none_left;
      replies_stand = told_by told st runs before beyond globals got;
      dropped = got.dropped;
      call = λ c is. absurd (let none : call_of w t ≡ None = got.call in cc);
      fits = told_fits s after got.reply takes;
      looks = λ again. absurd (told_again takes again);
      in_range = subst (λ (n : ℕ). IfSome after.op (InRange n)) st.globals takes.in_range;
      globals = takes.globals ∙ st.globals;
      room = omega (arith, count, sizes, fewer, room, capacity);
    }

-- if it has ended, all its operations were answered
told_ends : {told : Bool} {script : Script} (config : Config) {w : View} (states : List ThreadState) {t : ℕ}
    {s after : ThreadState} {reply : Reply} → slice_get states t ≡ Some s → ThreadStands told script w t after
    → TakesReply s after reply → EndsSo told script w.log (set states t after) config t after.mode
told_ends {told} {script} config {w} states {t} {s} {after} at st takes =
    elim takes.fits [
      | inl runs ↦ subst (λ (m : Mode). EndsSo told script w.log (set states t after) config t m) (sym runs.0) tt
      | inr rest ↦ elim rest [
        | inl due ↦ subst (λ (m : Mode). EndsSo told script w.log (set states t after) config t m) (sym due) tt
        | inr ended ↦
            let all : length (replies_of (set states t after) t) ≡ length (operations script t) =
            omega (arith, ap length (replies_same states t s after at), st.within, ap length ended.1) in
            subst (λ (m : Mode). EndsSo told script w.log (set states t after) config t m) (sym ended.0) all
      ]
    ]

-- so all threads stand after its reply
pub told_moves : {told : Bool} {script : Script} {config : Config} {disk : OnDisk} {v w : View}
    {states : List ThreadState} {t : ℕ} {s after : ThreadState} → DueBy config.every s after
    → TableStands told script config disk v states → slice_get states t ≡ Some s → (IsEnded s.mode → ⊥)
    → Standing told disk w → length w.globals ≡ length v.globals → ThreadTold told v w t s after
    → ThreadEvent told script config v w states t s after
told_moves {told} {script} {config} {v} {w} {states} {t} {s} {after} due table at runs beyond globals got =
    let st : ThreadStands told script w t after =
    told_stands (table.each t s at) runs table.stands beyond globals got in
    record {
      act = got.history.0;
      extra = got.reply ∷ [];
      grown = got.history.1;
      replies = got.takes.replies;
      stands = st;
      due = told_due config s after got.reply due got.takes;
      ends = told_ends config states at st got.takes;
      entries =
          let first : left s ≡ got.op ∷ s.cursor.operations = told_left got in
          omega (
            arith,
            ap length got.history.1,
            with_length v.log t got.history.0,
            ap length first,
            ap length got.takes.to_come,
          );
    }

-- what an event of one thread that has not ended shows of it
pub step_moves : {told : Bool} {script : Script} {config : Config} {disk : OnDisk} {v w : View}
    {states : List ThreadState} {t : ℕ} {s after : ThreadState} → disk.end ≤ config.disk
    → TableStands told script config disk v states → slice_get states t ≡ Some s → (IsEnded s.mode → ⊥)
    → ThreadStep told disk v w t s after → DueBy config.every s after → ThreadEvent told script config v w states t s
    after
step_moves {told} {script} {config} {v} {states} {t} {s} within table at runs step due =
    let st : ThreadStands told script v t s = table.each t s at in
    elim step.what [
      | inl waits ↦ waits_moves config states (table.due t s at) st runs waits.1
      | inr rest ↦ elim rest [
        | inl goes ↦ goes_moves config states (table.due t s at) st runs goes
        | inr further ↦ elim further [
          | inl refused ↦ refused_moves config states table.stands st runs refused
          | inr last ↦ elim last [
            | inl lost ↦ lost_moves config states within st at lost
            | inr got ↦ told_moves due table at runs step.stands step.others.globals got
          ]
        ]
      ]
    ]

-- all threads stand after the event
pub Table_step : {told : Bool} {script : Script} {config : Config} {disk : OnDisk} {v w : View}
    {states : List ThreadState} {t : ℕ} {s after : ThreadState} → disk.end ≤ config.disk
    → TableStands told script config disk v states → slice_get states t ≡ Some s → (IsEnded s.mode → ⊥)
    → ThreadStep told disk v w t s after → DueBy config.every s after
    → TableStands told script config disk w (set states t after)
Table_step within table at runs step due =
    Table_moves table at runs step.stands step.others (step_moves within table at runs step due)

-- a thread that gets a reply does not end for want of room
pub told_room : {s after : ThreadState} {reply : Reply} → TakesReply s after reply → HadNoRoom after.mode → ⊥
told_room {s} {after} takes none =
    elim takes.fits [
      | inl runs ↦ subst HadNoRoom runs.0 none
      | inr rest ↦ elim rest [
        | inl due ↦ subst HadNoRoom due none
        | inr ended ↦ subst HadNoRoom ended.0 none
      ]
    ]

-- nor does one whose call is refused
refused_room : (r : Refusal) → HadNoRoom (mode_for r) → ⊥
refused_room (refusal.Pause pause.Asked) none = none
refused_room (refusal.Pause (pause.Space need)) none = none
refused_room (refusal.Pause pause.Forward) none = none
refused_room refusal.DiskFault none = none
refused_room (refusal.Damaged damaged) none = none

-- nor one that waits for a collection
waits_room : {v w : View} {t : ℕ} {s after : ThreadState} {mode : Mode} → ThreadWaits v w t s after mode
    → HadNoRoom after.mode → ⊥
waits_room {mode} waits none =
    let here : HadNoRoom mode = subst (λ (x : ThreadState). HadNoRoom x.mode) waits.only none in
    elim waits.before [
      | inl own ↦ subst HadNoRoom own.2 here
      | inr due ↦ subst HadNoRoom due.1 here
    ]

-- so no event ends a thread for want of room
step_room : {told : Bool} {disk : OnDisk} {v w : View} {t : ℕ} {s after : ThreadState} → (IsEnded s.mode → ⊥)
    → ThreadStep told disk v w t s after → HadNoRoom after.mode → ⊥
step_room {s} {after} runs step none =
    elim step.what [
      | inl waits ↦ waits_room waits.1 none
      | inr rest ↦ elim rest [
        | inl goes ↦ subst HadNoRoom goes.running (subst (λ (x : ThreadState). HadNoRoom x.mode) goes.same none)
        | inr rest ↦ elim rest [
          | inl refused ↦ refused_room (refusal.Pause refused.cause)
              (subst (λ (x : ThreadState). HadNoRoom x.mode) refused.only none)
          | inr rest ↦ elim rest [
            | inl lost ↦ refused_room lost.refusal (subst (λ (x : ThreadState). HadNoRoom x.mode) lost.only none)
            | inr got ↦ told_room got.takes none
          ]
        ]
      ]
    ]

-- and the moments of the run stay so
pub moments_step : {told : Bool} {script : Script} {config : Config} {disk : OnDisk} {v w : View}
    {states : List ThreadState} {t : ℕ} {s after : ThreadState} (journal : List Journal) → disk.end ≤ config.disk
    → TableStands told script config disk v states → slice_get states t ≡ Some s → (IsEnded s.mode → ⊥)
    → ThreadStep told disk v w t s after → DueBy config.every s after → {moments : List Moment}
    → HaveMoments script v.log states config journal moments
    → HaveMoments script w.log (set states t after) config journal moments
moments_step journal within table at runs step due have =
    moments_moves journal at runs (step_moves within table at runs step due) (step_room runs step) have

-- and the history has grown
pub log_step : {told : Bool} {script : Script} {config : Config} {disk : OnDisk} {v w : View}
    {states : List ThreadState} {t : ℕ} {s after : ThreadState} → disk.end ≤ config.disk
    → TableStands told script config disk v states → slice_get states t ≡ Some s → (IsEnded s.mode → ⊥)
    → ThreadStep told disk v w t s after → DueBy config.every s after
    → (more : List Entry) × (w.log ≡ v.log ++ more)
log_step {v = v} {t = t} within table at runs step due =
    let m = step_moves within table at runs step due in
    let more = with_more v.log t m.act in
    (more.0, m.grown ∙ more.1)

-- what an event needs
pub table_ready : {script : Script} {config : Config} {disk : OnDisk} {v : View} {states : List ThreadState} (t : ℕ)
    {s : ThreadState} {finish : ℕ} → TableStands false script config disk v states → disk.end ≡ finish
    → slice_get states t ≡ Some s → IsReady finish v t s
table_ready {script} {disk} {v} {states} t {s} table ends at =
    let st : ThreadStands false script v t s = table.each t s at in
    let within : t < length states = slice_get_within states t s at in
    let count : length states ≡ length script.programs = table.count in
    let threads : length v.held ≡ length script.programs = table.threads in
    let entries : length v.log + to_reply states ≤ v.capacity = table.entries in
    let few : length v.log + to_reply states ≤ 8388608 = table.few in
    let one : length (left s) ≤ to_reply states = to_reply_one states t s at in
    let room : length s.replies.items + length (left s) ≤ vec_capacity s.replies = st.room in
    record {
      disk = disk;
      ends = ends;
      stands = table.stands;
      thread = omega (arith, within, count, threads);
      forwards = table.forwards;
      call = st.call;
      fits = st.fits;
      in_range = subst (λ (n : ℕ). IfSome s.op (InRange n)) (sym table.globals) st.in_range;
      ranges = st.globals ∙ sym table.globals;
      none_left = st.none_left;
      room = λ is. let more : 0 < length (left s) =
          first_counts s.op s.cursor.operations is in omega (arith, room, more);
      entries = λ is. let more : 0 < length (left s) =
          first_counts s.op s.cursor.operations is in omega (arith, entries, one, more);
      few = omega (arith, few);
    }

-- a call that is in flight is that of a thread that can go on
call_goes : {told : Bool} {script : Script} {config : Config} {disk : OnDisk} {v : View} {states : List ThreadState}
    (t : ℕ) {c : Call} → TableStands told script config disk v states → AllWait states → call_of v t ≡ Some c → ⊥
call_goes {script} {v} {states} t {c} table waits is =
    let count : length states ≡ length script.programs = table.count in
    let threads : length v.held ≡ length script.programs = table.threads in
    let each : length v.calls ≡ length v.held = table.stands.each in
    elim ((slice_get_cases states t).1) [
      | inl state ↦ waits t state.0 state.2 (subst MayGo (sym ((table.each t state.0 state.2).call c is).0) tt)
      | inr past ↦ (let no_call : call_of v t ≡ None = get_or_past v.calls t None
          (omega (arith, count, threads, each, past.0)) in none-some c (sym no_call ∙ is))
    ]

-- what is nothing in particular is nothing
none_of : {A : Type 0} (o : Option A) → ((x : A) → o ≡ Some x → ⊥) → o ≡ None
none_of None never = refl
none_of (Some x) never = absurd (never x refl)

-- no call is in flight where no thread can go on
pub waiting_quiet : (told : Bool) (script : Script) (config : Config) (disk : OnDisk) (v : View)
    (states : List ThreadState) → TableStands told script config disk v states → AllWait states → IsQuiet v
waiting_quiet told script config disk v states table waits t =
    none_of (call_of v t) (λ c is. call_goes t table waits is)

-- all threads stand in a new epoch
pub Table_renewed : {told : Bool} {script : Script} {config : Config} {disk later : OnDisk} {v w : View}
    {states : List ThreadState} → TableStands told script config disk v states → Renewed told later v w
    → TableStands told script config later w states
Table_renewed {told} {script} {config} {v} {w} {states} table renewed = record {
  stands = renewed.stands;
  count = table.count;
  threads = renewed.threads ∙ table.threads;
  globals = renewed.globals ∙ table.globals;
  words = renewed.words ∙ table.words;
  forward_words = renewed.forwards ∙ table.forward_words;
  forwards = subst (λ (n : ℕ). n ≤ most_forwards) (sym renewed.forwards) table.forwards;
  some_forward = subst (λ (n : ℕ). 1 ≤ n) (sym renewed.forwards) table.some_forward;
  each = λ t s at.
      let st : ThreadStands told script v t s = table.each t s at in
      stands_so w s.mode st
      (λ tells. told_so w s.mode (st.replies_stand tells) renewed.history (elim (st.replies_stand tells).in_registers [
        | inl over ↦ inl over
        | inr same ↦ inr (same ∙ sym (renewed.values t))
      ])) (λ over. renewed.values t ∙ st.dropped over)
      (λ c is. absurd (let none : call_of w t ≡ None = renewed.quiet t in cc)) st.fits
      (λ again. looks_so v w t s.op (renewed.values t) (st.looks again));
  own = subst (All (λ (e : Entry). e.thread < length script.programs)) (sym renewed.history) table.own;
  due = table.due;
  ends = λ t s at. subst (λ (h : List Entry). EndsSo told script h states config t s.mode) (sym renewed.history)
      (table.ends t s at);
  entries =
      let e : length v.log + to_reply states ≤ v.capacity = table.entries in
      let c : w.capacity ≡ v.capacity = renewed.capacity in
      omega (arith, e, c, ap length renewed.history);
  few = let e : length v.log + to_reply states ≤ 8388608 = table.few in omega (arith, e, ap length renewed.history);
}

-- all threads stand untold where they stand told or not
pub Table_untold : (told : Bool) (script : Script) (config : Config) (disk : OnDisk) (v : View)
    (states : List ThreadState) → TableStands told script config disk v states
    → TableStands false script config disk v states
Table_untold told script config disk v states table = record {
  stands = stands_untold told disk v table.stands;
  count = table.count;
  threads = table.threads;
  globals = table.globals;
  words = table.words;
  forward_words = table.forward_words;
  forwards = table.forwards;
  some_forward = table.some_forward;
  each = λ t s at.
      let st : ThreadStands told script v t s = table.each t s at in
      record {
        to_come = st.to_come;
        within = st.within;
        none_left = st.none_left;
        replies_stand = λ (tells : false ≡ true). absurd (cc);
        dropped = st.dropped;
        call = st.call;
        fits = st.fits;
        looks = st.looks;
        in_range = st.in_range;
        globals = st.globals;
        room = st.room;
      };
  own = table.own;
  due = table.due;
  ends = λ t s at. ends_untold told script config v.log states t s.mode (table.ends t s at);
  entries = table.entries;
  few = table.few;
}
