-- What a safepoint does to all threads.
use Rattle.std.proofs.Common.{◌≡◌, ℕ, ◌+◌, ◌<◌, ◌≤◌, Bool, true, false, List, ◌∷◌, Vec, Global, length, drop}
use Rattle.std.proofs.Common.{sym, ◌∙◌, ap, subst, arith, inl, inr}
use Rattle.std.proofs.Math.ListN.{set, length-set}
use Rattle.std.proofs.lemmas.Bool.{cases_eq}
use Rattle.std.proofs.lemmas.List.{with_items_is}
use Rattle.std.proofs.lemmas.Option.{same_Some, slice_get_within, slice_get_cases}
use Rattle.std.specs.Prelude.{Option, Some, slice_get}
use Rattle.std.specs.Vec.{with_items}
use Rattle.melt_model.specs.declared.config.Config.{Config}
use Rattle.melt_model.specs.declared.operations.Op.{Op}
use Rattle.melt_model.specs.declared.operations.Op.TheVariants.{Collect}
use Rattle.melt_trace.specs.Script.{Script, operations}
use Rattle.melt_scion.specs.Heaps.{OnDisk}
use Rattle.melt_model.specs.declared.history.Entry.{Entry}
use Rattle.melt_model.specs.declared.reports.Journal.{Journal}
use Rattle.melt_core.specs.Views.{View, IsQuiet}
use Rattle.melt_safepoint.specs.declared.thread.ThreadState.{ThreadState}
use Rattle.melt_safepoint.specs.declared.thread.Mode.TheVariants.{Running}
use Rattle.melt_safepoint.specs.Modes.{lost, owes_silent}
use Rattle.melt_safepoint.specs.Threads.{NoneWaits, AllWait, OweAfterCollects, with_first}
use Rattle.melt_safepoint.specs.Cuts.{Moment}
use Rattle.melt_safepoint.specs.Endings.{HaveMoments}
use Rattle.melt_safepoint.specs.Losses.{losses}
use Rattle.melt_safepoint.specs.Passing.{CollectedFor, CollectedAll, Resumed, NoneOwn}
use Rattle.melt_safepoint.proofs.Cuts.{first_left}
use Rattle.melt_safepoint.proofs.Modes.{moments_mode}
use Rattle.melt_safepoint.proofs.Threads.{set_got, sum_set, get_set_same, get_set_other}
use Rattle.melt_safepoint.proofs.Counting.{Adds, adds_mode, adds_none, adds_then, open_over}
use Rattle.melt_safepoint.proofs.Passing.{calls_again, again_open, again_some, again_owes, again_lost, MadeAgain}
use Rattle.melt_safepoint.proofs.Passing.{made_again_jobs, made_again_goes, waits_paused, made_again_asked}
use Rattle.melt_safepoint.proofs.Passing.{for_collection, no_due}
use Rattle.melt_safepoint.specs.Tables.{ThreadStands, TableStands, KnowsStop}
use Rattle.melt_safepoint.proofs.TableModes.{Table_runs}

-- So many threads make their calls again, and the others are as they were.
pub record AgainBelow (states after : List ThreadState) (n : ℕ) : Type 0 where
  pub count : length after ≡ length states
  pub done : (t : ℕ) (s : ThreadState) → t < n → slice_get states t ≡ Some s
      → (x : ThreadState) × (slice_get after t ≡ Some x) × MadeAgain s x
  pub rest : (t : ℕ) → n ≤ t → slice_get after t ≡ slice_get states t
  pub table : (told : Bool) (script : Script) (config : Config) (disk : OnDisk) (v : View)
      → TableStands told script config disk v states → IsQuiet v → TableStands told script config disk v after
  pub moments : (script : Script) (log : List Entry) (config : Config) (journal : List Journal)
      → (moments : List Moment) → HaveMoments script log states config journal moments
      → HaveMoments script log after config journal moments
  pub collected : (script : Script) (config : Config) → length states ≡ length script.programs
      → Adds script config states after 0 0
  pub lost : losses after ≡ losses states

-- one thread more makes its call again
pub again_more : (states after : List ThreadState) (n : ℕ) (s x : ThreadState) → AgainBelow states after n
    → slice_get after n ≡ Some s → MadeAgain s x → AgainBelow states (set after n x) (n + 1)
again_more states after n s x so_far at made = record {
  count = length-set after n x ∙ so_far.count;
  done = λ t y below there. elim (cases_eq t n) [
    | inl same ↦
        let here : slice_get states t ≡ Some s =
        ap (slice_get states) same ∙ (sym (so_far.rest n (omega arith)) ∙ at) in (
          x,
          ap (slice_get (set after n x)) same ∙ get_set_same after n s x at,
          subst (λ (z : ThreadState). MadeAgain z x) (same_Some s y (sym here ∙ there)) made,
        )
    | inr other ↦
        let w : (z : ThreadState) × (slice_get after t ≡ Some z) × MadeAgain y z =
        so_far.done t y (omega (arith, other, below)) there in
        (w.0, get_set_other after n t x other ∙ w.1, w.2)
  ];
  rest = λ t above. get_set_other after n t x (λ same. omega (arith, same, above))
      ∙ so_far.rest t (omega (arith, above));
  table = λ told script config disk v table quiet.
      let before : TableStands told script config disk v after = so_far.table told script config disk v table quiet in
      elim (calls_again s.mode) [
        | inl again ↦
            subst (λ (z : ThreadState). TableStands told script config disk v (set after n z)) (sym (made.again again))
            (Table_runs n before at (again_open s.mode again) (again_some s.mode s.op again (before.each n s at).fits)
            (quiet n))
        | inr not ↦ subst (TableStands told script config disk v)
            (sym (ap (set after n) (made.same not) ∙ set_got after n s at)) before
      ];
  moments = λ script log config journal moments have.
      let before : HaveMoments script log after config journal moments =
      so_far.moments script log config journal moments have in
      elim (calls_again s.mode) [
        | inl again ↦
            subst (λ (z : ThreadState). HaveMoments script log (set after n z) config journal moments)
            (sym (made.again again))
            (moments_mode config log after n Running journal at (again_open s.mode again) (λ none. none) before)
        | inr not ↦ subst (λ (xs : List ThreadState). HaveMoments script log xs config journal moments)
            (sym (ap (set after n) (made.same not) ∙ set_got after n s at)) before
      ];
  collected = λ script config count.
      let one : Adds script config after (set after n x) 0 0 = elim (calls_again s.mode) [
        | inl again ↦ subst (λ (z : ThreadState). Adds script config after (set after n z) 0 0) (sym (made.again again))
            (adds_mode script config after n 0 Running at (so_far.count ∙ count) (again_owes s.mode again)
            (omega (arith, open_over s.mode (again_open s.mode again))))
        | inr not ↦ subst (λ (xs : List ThreadState). Adds script config after xs 0 0)
            (sym (ap (set after n) (made.same not) ∙ set_got after n s at)) (adds_none script config after)
      ] in
      adds_then script config states after (set after n x) (so_far.collected script config count) one;
  lost =
      let sum_is : losses (set after n x) + lost s.mode ≡ losses after + lost x.mode =
      sum_set (λ (y : ThreadState). lost y.mode) after n s x at in
      let same : lost x.mode ≡ lost s.mode = elim (calls_again s.mode) [
        | inl again ↦ ap (λ (y : ThreadState). lost y.mode) (made.again again) ∙ sym (again_lost s.mode again)
        | inr not ↦ ap (λ (y : ThreadState). lost y.mode) (made.same not)
      ] in
      omega (arith, sum_is, same, so_far.lost);
}

-- all of them do so, once none is left, in the list that a loop over them wrote
pub again_done : (states : Vec ThreadState Global) (after : List ThreadState) (n : ℕ) → AgainBelow states.items after n
    → AgainBelow states.items (with_items states after).items n
again_done states after n again =
    subst (λ (xs : List ThreadState). AgainBelow states.items xs n)
    (sym (with_items_is states after (again.count ∙ sym states.ok.0))) again

-- so no thread waits any more
pub again_goes : (states after : List ThreadState) (n : ℕ) → AgainBelow states after n → length states ≤ n
    → NoneOwn states → NoneWaits after
again_goes states after n again all own = λ t x at paused.
    let below : t < length after = slice_get_within after t x at in
    elim (slice_get_cases states t).1 [
      | inl w ↦
          let z : (z : ThreadState) × (slice_get after t ≡ Some z) × MadeAgain w.0 z =
          again.done t w.0 (omega (arith, all, w.1)) w.2 in
          made_again_goes w.0 x (own t w.0 w.2) (subst (MadeAgain w.0) (same_Some z.0 x (sym z.1 ∙ at)) z.2) paused
      | inr w ↦ absurd (omega (arith, below, again.count, w.0))
    ]

-- and all threads have as much to do as before
pub again_resumed : (states after : List ThreadState) (n : ℕ) → AgainBelow states after n → length states ≤ n
    → NoneOwn states → Resumed states after
again_resumed states after n again all own = record {
  goes = again_goes states after n again all own;
  count = again.count;
  each = λ t s at.
      let below : t < length states = slice_get_within states t s at in
      let w : (x : ThreadState) × (slice_get after t ≡ Some x) × MadeAgain s x =
      again.done t s (omega (arith, all, below)) at in
      (w.0, w.1, made_again_jobs s w.0 w.2);
}

-- what is known of a stop word that is not set, once all threads made their calls again
pub again_knows : (states after : List ThreadState) (n : ℕ) (v : View) → AgainBelow states after n → length states ≤ n
    → NoneOwn states → v.stop ≡ false → KnowsStop v after
again_knows states after n v again all own none = record {
  waits = λ t x at waits. absurd (again_goes states after n again all own t x at (waits_paused x.mode waits));
  stop = λ is. absurd (let wrong : true ≡ false = sym is ∙ none in cc);
  asked = λ t x at is.
      let below : t < length after = slice_get_within after t x at in
      elim (slice_get_cases states t).1 [
        | inl w ↦
            let z : (z : ThreadState) × (slice_get after t ≡ Some z) × MadeAgain w.0 z =
            again.done t w.0 (omega (arith, all, w.1)) w.2 in
            absurd (made_again_asked w.0 x (subst (MadeAgain w.0) (same_Some z.0 x (sym z.1 ∙ at)) z.2) is)
        | inr w ↦ absurd (omega (arith, below, again.count, w.0))
      ];
}

-- after the collections, silent ones are still to come only where a `collect` was answered just now
pub owe_after : {told : Bool} {script : Script} {config : Config} {disk : OnDisk} {v : View}
    {states mid : List ThreadState} → TableStands told script config disk v states → AllWait states
    → CollectedAll states mid → OweAfterCollects script mid
owe_after {told} {script} {v} {states} {mid} table waits all = λ t x at owes. elim (slice_get_cases states t).1 [
  | inl w ↦
      let s : ThreadState = w.0 in
      let st : ThreadStands told script v t s = table.each t s w.2 in
      let y : (y : ThreadState) × (slice_get mid t ≡ Some y) × CollectedFor s y = all.each t s w.2 in
      let is : y.0 ≡ x = same_Some y.0 x (sym y.1 ∙ at) in
      let made : CollectedFor s x = subst (CollectedFor s) is y.2 in
      elim (for_collection s.mode) [
        | inl for ↦
            let by = made.owes for owes in
            let first : Collect ∷ s.cursor.operations ≡ drop (length s.replies.items) (operations script t) =
            ap (λ (o : Option Op). with_first o s.cursor.operations) (sym by.0) ∙ st.to_come in (
              length s.replies.items,
              by.1,
              first_left (operations script t) (length s.replies.items) Collect s.cursor.operations first,
            )
        | inr not ↦ absurd (no_due s.mode (waits t s w.2) not
            (ap (λ (z : ThreadState). owes_silent z.mode) (sym (made.same not)) ∙ owes))
      ]
  | inr w ↦ absurd (let within : t < length mid = slice_get_within mid t x at in omega (arith, within, all.count, w.0))
]
