-- What all threads together have done in an epoch, by what each has done.
use Rattle.std.proofs.Common.{◌≡◌, ℕ, ◌+◌, ◌*◌, ◌<◌, ◌≤◌, List, [], ◌++◌, length, take, refl, sym, ◌∙◌, ap, arith}
use Rattle.std.proofs.Common.{inl, inr, ◌⊎◌, length-append}
use Rattle.std.proofs.lemmas.Bool.{cases_lt}
use Rattle.std.proofs.lemmas.Option.{slice_get_cases, slice_get_within}
use Rattle.std.specs.Prelude.{All, Some, slice_get}
use Rattle.std.specs.List.{count_by}
use Rattle.melt_model.specs.Thread.{own}
use Rattle.melt_model.specs.declared.config.Config.{Config}
use Rattle.melt_model.specs.declared.history.Entry.{Entry}
use Rattle.melt_model.specs.declared.operations.Reply.{Reply}
use Rattle.melt_trace.specs.Script.{Script, operations}
use Rattle.melt_safepoint.specs.Counts.{answers, over, overs}
use Rattle.melt_safepoint.specs.Epochs.{to_do}
use Rattle.melt_safepoint.specs.Modes.{IsEnded, MayGo, jobs, owes}
use Rattle.melt_safepoint.specs.Asked.{collections_of, collects, collects_of, is_collect, silent_in, total}
use Rattle.melt_safepoint.specs.Threads.{AllWait, Later, jobs_of, left, owing, replies_of, to_reply}
use Rattle.melt_safepoint.specs.declared.thread.Mode.{Mode}
use Rattle.melt_safepoint.specs.declared.thread.Mode.TheVariants.{Running, Due, Silent, Collecting, Asked, Lacking}
use Rattle.melt_safepoint.specs.declared.thread.Mode.TheVariants.{Ended}
use Rattle.melt_safepoint.specs.declared.thread.ThreadState.{ThreadState}
use Rattle.melt_safepoint.proofs.Counting.{Adds, ended_over, open_over, total_same}
use Rattle.melt_safepoint.proofs.Cuts.{gone_cases, replies_here, replies_past}
use Rattle.melt_safepoint.proofs.ToDo.{NotMore, to_do_under, to_do_within}
use Rattle.melt_pool.specs.Epochs.{GoesFrom}
use Rattle.melt_pool.specs.Programs.{ProgramStands}
use Rattle.melt_pool.proofs.ThreadsSums.{entries_total, sum_grows, sum_rises, sums_within}

-- What a thread has done in an epoch, after which it can not go on.
pub record Went (every : ℕ) (script : Script) (t : ℕ) (before h : List Entry) (s after : ThreadState) : Type 0 where
  pub was : ProgramStands script t s
  pub program : ProgramStands script t after
  pub waits : MayGo after.mode → ⊥
  pub ended : IsEnded s.mode → after ≡ s
  pub goes : GoesFrom every script t before h s after

-- and so all threads
pub record AllWent (every : ℕ) (script : Script) (before h : List Entry) (states after : List ThreadState)
    : Type 0 where
  pub count : length after ≡ length states
  pub each : (t : ℕ) (s x : ThreadState) → slice_get states t ≡ Some s → slice_get after t ≡ Some x
      → Went every script t before h s x

-- what a thread has to do that has not ended
open_jobs : (mode : Mode) (count : ℕ) → (IsEnded mode → ⊥) → jobs mode count ≡ 1 + owes mode + 2 * count
open_jobs Running count goes = omega arith
open_jobs Due count goes = omega arith
open_jobs Silent count goes = omega arith
open_jobs Collecting count goes = omega arith
open_jobs Asked count goes = omega arith
open_jobs Lacking count goes = omega arith
open_jobs (Ended e) count goes = absurd (goes tt)

-- and one that has
ended_jobs : (mode : Mode) (count : ℕ) → IsEnded mode → jobs mode count ≡ 0
ended_jobs Running count is = absurd is
ended_jobs Due count is = absurd is
ended_jobs Silent count is = absurd is
ended_jobs Collecting count is = absurd is
ended_jobs Asked count is = absurd is
ended_jobs Lacking count is = absurd is
ended_jobs (Ended e) count is = refl

module _ (every : ℕ) (script : Script) (t : ℕ) (before h : List Entry) (s x : ThreadState)
    (went : Went every script t before h s x) where
  -- a thread has no fewer replies
  more_replies : length s.replies.items ≤ length x.replies.items
  more_replies =
      let grown : length x.replies.items ≡ length s.replies.items + length went.goes.extra =
      ap length went.goes.grows ∙ length-append s.replies.items went.goes.extra in
      omega (arith, grown)

  -- one that had ended has ended
  more_over : over s.mode ≤ over x.mode
  more_over = elim (gone_cases s.mode) [
    | inl gone ↦
        let same : over x.mode ≡ over s.mode = ap (λ (y : ThreadState). over y.mode) (went.ended gone.0) in
        omega (arith, same)
    | inr goes ↦ omega (arith, open_over s.mode goes.0)
  ]

  -- one that has less to do got a reply, or has ended
  pays : jobs_of x < jobs_of s
      → (length s.replies.items < length x.replies.items) ⊎ (over s.mode < over x.mode)
  pays less = elim (cases_lt (length s.replies.items) (length x.replies.items)) [
    | inl more ↦ inl more
    | inr none ↦ elim (gone_cases s.mode) [
      | inl gone ↦ absurd (
          let nothing : jobs_of s ≡ 0 = ended_jobs s.mode (length (left s)) gone.0 in
          omega (arith, less, nothing))
      | inr runs ↦ elim (gone_cases x.mode) [
        | inl gone ↦ inr (omega (arith, open_over s.mode runs.0, ended_over x.mode gone.0))
        | inr goes ↦ absurd (
            let had : jobs_of s ≡ 1 + owes s.mode + 2 * length (left s) =
            open_jobs s.mode (length (left s)) runs.0 in
            let has : jobs_of x ≡ 1 + owes x.mode + 2 * length (left x) =
            open_jobs x.mode (length (left x)) goes.0 in
            let same : length x.replies.items ≡ length s.replies.items = omega (arith, none, more_replies) in
            let owed : silent_in every (length x.replies.items) + owes s.mode
            ≡ silent_in every (length s.replies.items) + owes x.mode = went.goes.owes in
            let was : length s.replies.items + length (left s) ≡ length (operations script t) = went.was.within in
            let is : length x.replies.items + length (left x) ≡ length (operations script t) =
            went.program.within in
            omega (arith, less, had, has, same, owed, ap (silent_in every) same, was, is))
      ]
    ]
  ]

module _ (every : ℕ) (script : Script) (before h : List Entry) (states after : List ThreadState)
    (all : AllWent every script before h states after) where
  -- the state that stands where one stood before
  pub later_at : (t : ℕ) (s : ThreadState) → slice_get states t ≡ Some s
      → (x : ThreadState) × (slice_get after t ≡ Some x)
  later_at t s at = elim (slice_get_cases after t).1 [
    | inl w ↦ (w.0, w.2)
    | inr w ↦ absurd (
        let below : t < length states = slice_get_within states t s at in
        omega (arith, w.0, below, all.count))
  ]

  pub sooner_at : (t : ℕ) (x : ThreadState) → slice_get after t ≡ Some x
      → (s : ThreadState) × (slice_get states t ≡ Some s)
  sooner_at t x is = elim (slice_get_cases states t).1 [
    | inl w ↦ (w.0, w.2)
    | inr w ↦ absurd (
        let below : t < length after = slice_get_within after t x is in
        omega (arith, w.0, below, all.count))
  ]

  -- each thread has its replies, and perhaps more
  pub went_later : Later states after
  went_later = record {
    count = all.count;
    replies = λ t. elim (slice_get_cases states t).1 [
      | inl w ↦
          let x : (x : ThreadState) × (slice_get after t ≡ Some x) = later_at t w.0 w.2 in
          let went : Went every script t before h w.0 x.0 = all.each t w.0 x.0 w.2 x.1 in (
            went.goes.extra,
            replies_here after t x.0 x.1
                ∙ (went.goes.grows
                ∙ ap (λ (rs : List Reply). rs ++ went.goes.extra) (sym (replies_here states t w.0 w.2))),
          )
      | inr w ↦ (
        [],
        replies_past after t (omega (arith, w.0, all.count))
            ∙ ap (λ (rs : List Reply). rs ++ []) (sym (replies_past states t w.0)),
      )
    ];
    ended = λ t s at over.
        let x : (x : ThreadState) × (slice_get after t ≡ Some x) = later_at t s at in
        x.1 ∙ ap Some ((all.each t s x.0 at x.1).ended over);
  }

  -- none can go on
  pub went_waits : AllWait after
  went_waits t x is =
      let s : (s : ThreadState) × (slice_get states t ≡ Some s) = sooner_at t x is in
      (all.each t s.0 x s.1 is).waits

  -- none has more to do
  went_not_more : NotMore states after
  went_not_more t s at =
      let x : (x : ThreadState) × (slice_get after t ≡ Some x) = later_at t s at in
      (x.0, x.1, (all.each t s x.0 at x.1).goes.less)

  pub went_less : to_do after ≤ to_do states
  went_less = to_do_within states after all.count went_not_more

  -- and all together less, where one has less
  pub went_less_by : (t : ℕ) (s x : ThreadState) → slice_get states t ≡ Some s → slice_get after t ≡ Some x
      → jobs_of x < jobs_of s → to_do after < to_do states
  went_less_by t s x at is less = to_do_under states after t s x all.count went_not_more at is less

  -- the history has grown by no more entries than there are replies fewer to come
  pub went_entries : All (λ (e : Entry). e.thread < length states) before
      → All (λ (e : Entry). e.thread < length states) h
      → length h + to_reply after ≤ length before + to_reply states
  went_entries was is =
      let f : ThreadState → ℕ = λ (s : ThreadState). length (left s) in
      let sums : total (λ t. length (own h t)) (length states) + to_reply after
      ≤ total (λ t. length (own before t)) (length states) + to_reply states =
      sums_within (λ t. length (own h t)) (λ t. length (own before t)) f f states after all.count
      (λ t s x at here.
      let went : Went every script t before h s x = all.each t s x at here in
      let fewer : length (own h t) + length s.replies.items ≤ length (own before t) + length x.replies.items =
      went.goes.entries in
      let had : length s.replies.items + length (left s) ≡ length (operations script t) = went.was.within in
      let has : length x.replies.items + length (left x) ≡ length (operations script t) = went.program.within in
      omega (arith, fewer, had, has)) in
      omega (arith, sums, entries_total h (length states) is, entries_total before (length states) was)

  -- no `collect` was answered
  went_asked : (t : ℕ) (s x : ThreadState) → slice_get states t ≡ Some s → slice_get after t ≡ Some x
      → collects_of script (replies_of after) t ≡ collects_of script (replies_of states) t
  went_asked t s x at is =
      let by : List Reply → ℕ = λ (rs : List Reply). count_by is_collect (take (length rs) (operations script t)) in
      ap by (replies_here after t x is)
      ∙ ((all.each t s x at is).goes.collects ∙ sym (ap by (replies_here states t s at)))

  -- a thread has those collections still to come that its replies brought
  went_owes : (config : Config) → every ≡ config.every → (t : ℕ) (s x : ThreadState) → slice_get states t ≡ Some s
      → slice_get after t ≡ Some x
      → collections_of script config (replies_of after) t + owes s.mode
      ≡ collections_of script config (replies_of states) t + owes x.mode
  went_owes config same t s x at is =
      let silent : silent_in every (length x.replies.items) + owes s.mode
      ≡ silent_in every (length s.replies.items) + owes x.mode = (all.each t s x at is).goes.owes in
      omega (
        arith,
        went_asked t s x at is,
        silent,
        ap (λ (n : ℕ). silent_in n (length x.replies.items)) same,
        ap (λ (n : ℕ). silent_in n (length s.replies.items)) same,
        ap (λ (rs : List Reply). silent_in config.every (length rs)) (replies_here after t x is),
        ap (λ (rs : List Reply). silent_in config.every (length rs)) (replies_here states t s at),
      )

  module _ (config : Config) (same : every ≡ config.every) (count : length states ≡ length script.programs) where
    abbrev had : ℕ → ℕ
    had = collections_of script config (replies_of states)

    abbrev has : ℕ → ℕ
    has = collections_of script config (replies_of after)

    -- so many collections the replies of all threads brought
    went_collections : total has (length script.programs) + owing states ≡ total had (length script.programs)
        + owing after
    went_collections =
        let f : ThreadState → ℕ = λ (s : ThreadState). owes s.mode in
        let no_more : total had (length states) + owing after ≤ total has (length states) + owing states =
        sums_within had has f f states after all.count
        (λ t s x at is. omega (arith, went_owes config same t s x at is)) in
        let no_fewer : total has (length after) + owing states ≤ total had (length after) + owing after =
        sums_within has had f f after states (sym all.count)
        (λ t x s is at. omega (arith, went_owes config same t s x at is)) in
        omega (
          arith,
          no_more,
          no_fewer,
          ap (total has) all.count,
          ap (total had) all.count,
          ap (total has) count,
          ap (total had) count,
        )

    went_collects : collects script (replies_of after) (length script.programs)
        ≡ collects script (replies_of states) (length script.programs)
    went_collects =
        total_same (collects_of script (replies_of after)) (collects_of script (replies_of states))
        (length script.programs)
        (λ t below. elim (slice_get_cases states t).1 [
          | inl w ↦
              let x : (x : ThreadState) × (slice_get after t ≡ Some x) = later_at t w.0 w.2 in
              went_asked t w.0 x.0 w.2 x.1
          | inr w ↦ absurd (omega (arith, w.0, below, count))
        ])

    went_answers : answers states ≤ answers after
    went_answers =
        sum_rises (λ (s : ThreadState). length s.replies.items) states after all.count
        (λ t s x at is. more_replies every script t before h s x (all.each t s x at is))

    went_overs : overs states ≤ overs after
    went_overs =
        sum_rises (λ (s : ThreadState). over s.mode) states after all.count
        (λ t s x at is. more_over every script t before h s x (all.each t s x at is))

    -- nothing is added to the collections that were made but replies and ends
    pub went_adds : Adds script config states after 0 0
    went_adds = record {
      all = omega (arith, went_collections);
      asked = omega (arith, went_collects);
      pays = omega (arith, went_answers, went_overs);
    }

    -- and one at least, where a thread has less to do
    pub went_adds_one : (t : ℕ) (s x : ThreadState) → slice_get states t ≡ Some s → slice_get after t ≡ Some x
        → jobs_of x < jobs_of s → Adds script config states after 0 1
    went_adds_one t s x at is less = record {
      all = omega (arith, went_collections);
      asked = omega (arith, went_collects);
      pays = elim (pays every script t before h s x (all.each t s x at is) less) [
        | inl told ↦
            let more : answers states < answers after =
            sum_grows (λ (y : ThreadState). length y.replies.items) states after t s x all.count
            (λ u y z there here. more_replies every script u before h y z (all.each u y z there here)) at is told in
            omega (arith, more, went_overs)
        | inr ended ↦
            let more : overs states < overs after =
            sum_grows (λ (y : ThreadState). over y.mode) states after t s x all.count
            (λ u y z there here. more_over every script u before h y z (all.each u y z there here)) at is ended in
            omega (arith, more, went_answers)
      ];
    }
