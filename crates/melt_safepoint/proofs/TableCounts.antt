-- What an event adds to the collections that the replies of all threads bring.
use Rattle.std.proofs.Common.{[], ◌≡◌, ◌≢◌, ℕ, ◌+◌, suc, List}
use Rattle.std.proofs.Common.{◌∷◌, ◌++◌}
use Rattle.std.proofs.Common.{length, take, refl, sym, ◌∙◌, ap, subst, arith, length-append, inl, inr}
use Rattle.std.proofs.Math.ListN.{set}
use Rattle.std.proofs.lemmas.List.Sums.{sum_by_push}
use Rattle.std.specs.Prelude.{Some, slice_get, if◌then◌else◌, Bool}
use Rattle.std.specs.List.{count_by}
use Rattle.melt_model.specs.declared.config.Config.{Config}
use Rattle.melt_model.specs.declared.operations.Op.{Op}
use Rattle.melt_model.specs.declared.operations.Op.TheVariants.{Collect}
use Rattle.melt_model.specs.declared.operations.Reply.{Reply}
use Rattle.melt_trace.specs.Script.{Script, operations}
use Rattle.melt_core.specs.Views.{View}
use Rattle.melt_scion.specs.Heaps.{OnDisk}
use Rattle.melt_core.specs.declared.answer.Refusal.{Refusal}
use Rattle.melt_core.specs.declared.answer.Refusal.TheVariants as refusal
use Rattle.melt_safepoint.specs.declared.thread.ThreadState.{ThreadState}
use Rattle.melt_safepoint.specs.declared.thread.Mode.{Mode}
use Rattle.melt_safepoint.specs.Counts.{CountsCollections}
use Rattle.melt_safepoint.specs.Asked.{is_collect, silent_in}
use Rattle.melt_safepoint.specs.Threads.{DueBy, replies_of, TakesReply, left}
use Rattle.melt_safepoint.specs.Modes.{IsEnded, owes, mode_for, lost}
use Rattle.melt_safepoint.proofs.Cuts.{replies_here}
use Rattle.melt_safepoint.proofs.Threads.{take_next, replies_same}
use Rattle.melt_safepoint.proofs.Modes.{refused_owes, lost_ends}
use Rattle.melt_safepoint.proofs.Counting.{is_no_collect, silent_told, CountsTold, Adds, adds_at, open_over, ended_over}
use Rattle.melt_safepoint.proofs.Counting.{adds_mode, adds_less}
use Rattle.melt_safepoint.specs.declared.collector.Collector.{Collector}
use Rattle.melt_safepoint.specs.Tables.{ThreadStands, TableStands, ThreadLost, ThreadTold, ThreadStep}
use Rattle.melt_safepoint.proofs.Tables.{told_left}
use Rattle.melt_safepoint.specs.Rows.{Row}

-- a thread with this next operation got its reply
told_collections : {told : Bool} {script : Script} (config : Config) {v : View} (states : List ThreadState) {t : ℕ}
    {s after : ThreadState} {op : Op} {reply : Reply} → ThreadStands told script v t s → slice_get states t ≡ Some s
    → DueBy config.every s after → TakesReply s after reply → left s ≡ op ∷ s.cursor.operations
    → CountsTold script config states t after op
told_collections {script} config states {t} {s} {after} {op} {reply} st at due takes next_is =
    let ops : List Op = operations script t in
    let k : ℕ = length s.replies.items in
    let C : ℕ → ℕ = λ (n : ℕ). count_by is_collect (take n ops) in
    let count : length after.replies.items ≡ k + 1 =
    ap length takes.replies ∙ length-append s.replies.items (reply ∷ []) in
    let now : length (replies_of (set states t after) t) ≡ k + 1 =
    omega (arith, count, ap length (replies_same states t s after at)) in
    let was : length (replies_of states t) ≡ k = ap length (replies_here states t s at) in
    let taken : take (suc k) ops ≡ take k ops ++ op ∷ [] =
    take_next ops s.cursor.operations k op (sym st.to_come ∙ next_is) in
    let next : C (suc k) ≡ C k + (if is_collect op then 1 else 0) =
    ap (count_by is_collect) taken ∙ sum_by_push (λ (o : Op). if is_collect o then 1 else 0) (take k ops) op in
    let suc_k : k + 1 ≡ suc k = omega arith in
    record {
      asked = omega (arith, next, ap C was, ap C (now ∙ suc_k));
      collections = omega (
        arith,
        next,
        ap C was,
        ap C (now ∙ suc_k),
        ap (silent_in config.every) was,
        ap (silent_in config.every) now,
        silent_told config s after reply due takes,
      );
    }

-- a reply to an operation
pub adds_told : {told : Bool} {script : Script} (config : Config) {v : View} (states : List ThreadState) {t : ℕ}
    {s after : ThreadState} {op : Op} {reply : Reply} → ThreadStands told script v t s → slice_get states t ≡ Some s
    → length states ≡ length script.programs → DueBy config.every s after → TakesReply s after reply
    → left s ≡ op ∷ s.cursor.operations → owes s.mode ≡ 0 → (IsEnded s.mode → ⊥)
    → Adds script config states (set states t after) (if is_collect op then 1 else 0) 1
adds_told {script} config states {t} {s} {after} {op} {reply} st at count due takes next none goes =
    let counts : CountsTold script config states t after op =
    told_collections config states st at due takes next in
    adds_at at count (record {
      all = omega (arith, none, counts.collections);
      asked = omega (arith, counts.asked);
      pays = omega (
        arith,
        open_over s.mode goes,
        ap length takes.replies,
        length-append s.replies.items (reply ∷ []),
      );
    })

-- a reply to another operation than a collection
pub adds_got : {told : Bool} {script : Script} {config : Config} {disk : OnDisk} {v w : View}
    {states : List ThreadState} {t : ℕ} {s after : ThreadState} → TableStands told script config disk v states
    → slice_get states t ≡ Some s → DueBy config.every s after → (IsEnded s.mode → ⊥)
    → (got : ThreadTold told v w t s after) → got.op ≢ Collect → Adds script config states (set states t after) 0 1
adds_got {script} {config} {states} {t} {s} {after} table at due goes got other =
    subst (λ (c : ℕ). Adds script config states (set states t after) c 1)
    (ap {B = ℕ} (λ (b : Bool). if b then 1 else 0) (is_no_collect got.op other))
    (adds_told config states (table.each t s at) at table.count due got.takes (told_left got)
    (ap {B = ℕ} (λ (b : Bool). if b then 1 else 0) got.not_due) goes)

-- a thread that was lost has ended
pub adds_lost : {told : Bool} {script : Script} {config : Config} {disk : OnDisk} {v w : View}
    {states : List ThreadState} {t : ℕ} {s after : ThreadState} → TableStands told script config disk v states
    → slice_get states t ≡ Some s → ThreadLost told disk.end v w t s after
    → Adds script config states (set states t after) 0 1
adds_lost {told} {script} {config} {disk} {states} {t} {s} table at is =
    subst (λ (y : ThreadState). Adds script config states (set states t y) 0 1) (sym is.only)
    (adds_mode script config states t 1 (mode_for is.refusal) at table.count
    (ap {B = ℕ} (λ (b : Bool). if b then 1 else 0) is.not_due
    ∙ sym (ap {B = ℕ} (λ (b : Bool). if b then 1 else 0) (refused_owes is.refusal))) (omega (
      arith,
      open_over s.mode is.goes,
      ended_over (mode_for is.refusal)
          (lost_ends told disk.end is.refusal is.cause),
    )))

-- it stays counted of a run with these threads and this collector
pub counts_of : {unpaid : ℕ} (script : Script) (config : Config) (run : Row) (states : List ThreadState) (c : Collector)
    → run.states ≡ states → run.collector ≡ c
    → CountsCollections script config unpaid states (length c.journal.items)
    → CountsCollections script config unpaid run.states (length run.collector.journal.items)
counts_of {unpaid} script config run states c same collector counts =
    subst (λ (x : Collector). CountsCollections script config unpaid run.states (length x.journal.items))
    (sym collector)
    (subst (λ (xs : List ThreadState). CountsCollections script config unpaid xs (length c.journal.items)) (sym same)
    counts)

-- An event of a thread adds nothing, where it got no reply to a collection.
pub collections_step : {told : Bool} {script : Script} {config : Config} {disk : OnDisk} {v w : View}
    {states : List ThreadState} {t : ℕ} {s after : ThreadState} → TableStands told script config disk v states
    → slice_get states t ≡ Some s → ThreadStep told disk v w t s after → DueBy config.every s after
    → (IsEnded s.mode → ⊥) → ((got : ThreadTold told v w t s after) → got.op ≢ Collect)
    → Adds script config states (set states t after) 0 0
collections_step {script} {config} {states} {t} {s} {after} table at step due goes other =
    let by_mode : (mode : Mode) → after ≡ record s { mode = mode } → owes s.mode ≡ owes mode
    → Adds script config states (set states t after) 0 0 = λ mode is same.
    subst (λ (y : ThreadState). Adds script config states (set states t y) 0 0) (sym is)
    (adds_mode script config states t 0 mode at table.count same (omega (arith, open_over s.mode goes))) in
    let none_for : (r : Refusal) → 0 ≡ owes (mode_for r) =
    λ r. sym (ap {B = ℕ} (λ (b : Bool). if b then 1 else 0) (refused_owes r)) in
    elim step.what [
      | inl waits ↦ by_mode waits.0 waits.1.only
          (elim waits.1.before [
            | inl own ↦ ap owes own.0 ∙ ap owes (sym own.2)
            | inr silent ↦ ap owes silent.0 ∙ ap owes (sym silent.1)
          ])
      | inr rest ↦ elim rest [
        | inl is ↦ by_mode s.mode is.same refl
        | inr further ↦ elim further [
          | inl refused ↦ by_mode (mode_for (refusal.Pause refused.cause)) refused.only
              (ap owes refused.running ∙ none_for (refusal.Pause refused.cause))
          | inr last ↦ elim last [
            | inl lost ↦ by_mode (mode_for lost.refusal) lost.only
                (ap {B = ℕ} (λ (b : Bool). if b then 1 else 0) lost.not_due ∙ none_for lost.refusal)
            | inr got ↦
                adds_less script config states (set states t after)
                (adds_got table at due goes got (other got))
          ]
        ]
      ]
    ]
