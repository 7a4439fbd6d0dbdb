-- How all threads of an epoch run after the call that is made first.
use Rattle.std.proofs.Common.{◌≡◌, ◌⊎◌, ℕ, ◌<◌, ◌≤◌, List, length, map, refl, sym, ◌∙◌, ap, subst, arith}
use Rattle.std.proofs.Common.{inl, inr, get_or}
use Rattle.std.proofs.Math.ListN.{set}
use Rattle.std.proofs.lemmas.List.{length-map}
use Rattle.std.proofs.lemmas.Option.{slice_get-get_or, slice_get-map, slice_get_within}
use Rattle.std.specs.Prelude.{All, IfSome, Option, None, Some, slice_get}
use Rattle.std.specs.Option.{option_map}
use Rattle.melt_trace.specs.Script.{Script}
use Rattle.melt_rule.specs.Seats.{EpochWords}
use Rattle.melt_rule.specs.declared.began.Began.{Began}
use Rattle.melt_epoch.specs.Ends.{HasJoined, unseated}
use Rattle.melt_epoch.specs.Mutators.{IsSeated}
use Rattle.melt_epoch.specs.declared.mutator.Mutator.{Mutator}
use Rattle.melt_safepoint.specs.Modes.{FitsMode, ForCollection, IsEnded, IsPaused}
use Rattle.melt_safepoint.specs.Threads.{jobs_of}
use Rattle.melt_safepoint.specs.declared.thread.Mode.{Mode}
use Rattle.melt_safepoint.specs.declared.thread.Mode.TheVariants.{Running, Due, Silent, Collecting, Asked}
use Rattle.melt_safepoint.specs.declared.thread.Mode.TheVariants.{Lacking, Ended}
use Rattle.melt_safepoint.specs.declared.thread.ThreadState.{ThreadState}
use Rattle.melt_pool.specs.Epochs.{AllMayRun, AllRest, AllRun}
use Rattle.melt_pool.specs.Firsts.{AllCame, AllRunFrom, CameFirst, ChangedAt, LackedFirst, LacksAt, MayCallAt, RunsFrom}
use Rattle.melt_pool.specs.Firsts.{WasStopped, WentFirst}
use Rattle.melt_pool.specs.Programs.{EndsWell, Works, made_again, mode_again}
use Rattle.melt_pool.specs.Workers.{Brings, HasRun, MayRun, Runs}
use Rattle.melt_pool.specs.declared.first.First.{First}
use Rattle.melt_pool.specs.declared.first.First.TheVariants.{Went, Lacked, Stopped}
use Rattle.melt_pool.specs.declared.worker.Worker.{Worker}
use Rattle.melt_pool.proofs.Changed.{all_changed, at_changed, changed_seated, set_changes}
use Rattle.melt_pool.proofs.Onward.{ended_jobs, goes_then}
use Rattle.melt_pool.proofs.Passing.{all_at, all_seated}
use Rattle.melt_pool.proofs.Running.{brings_one}

-- a thread has ended, or not
ended_or_not : (mode : Mode) → IsEnded mode ⊎ (IsEnded mode → ⊥)
ended_or_not Running = inr (λ over. over)
ended_or_not Due = inr (λ over. over)
ended_or_not Silent = inr (λ over. over)
ended_or_not Collecting = inr (λ over. over)
ended_or_not Asked = inr (λ over. over)
ended_or_not Lacking = inr (λ over. over)
ended_or_not (Ended e) = inl tt

-- one that does not wait makes no call again
goes_same : (mode : Mode) → (IsPaused mode → ⊥) → mode_again mode ≡ mode
goes_same Running goes = refl
goes_same Due goes = refl
goes_same Silent goes = refl
goes_same Collecting goes = refl
goes_same Asked goes = absurd (goes tt)
goes_same Lacking goes = absurd (goes tt)
goes_same (Ended e) goes = refl

-- nor does it wait for a collection
paused_so : (mode : Mode) → ForCollection mode → IsPaused mode
paused_so Running waits = waits
paused_so Due waits = waits
paused_so Silent waits = waits
paused_so Collecting waits = waits
paused_so Asked waits = absurd waits
paused_so Lacking waits = absurd waits
paused_so (Ended e) waits = waits

module _ {R : Type 0} (faults : R → ℕ) (finish every : ℕ) (script : Script) (words : EpochWords) where
  -- the thread whose call was made first may run
  works_again : (s : ThreadState) (m n : Mutator (Worker R)) (went : WentFirst faults finish every script words s m n)
      → Works script words n (made_again went.after)
  works_again s m n went =
      let same = goes_same went.after.mode went.gone.goes_on in
      let as_is : went.after ≡ made_again went.after = λ i. record went.after { mode = sym same i } in
      subst (Works script words n) as_is went.gone.works

  pub went_may_run : (s : ThreadState) (m n : Mutator (Worker R)) → WentFirst faults finish every script words s m n
      → MayRun script words n
  went_may_run s m n went =
      record { state = went.after; brings = went.brings; works = works_again s m n went }

  -- and has less to do after its run
  went_runs : (s : ThreadState) (m n k : Mutator (Worker R)) → WentFirst faults finish every script words s m n
      → Runs faults finish every words n k
      → (run : HasRun faults finish every script words s m k) × (jobs_of run.after < jobs_of s)
  went_runs s m n k went runs =
      let run = runs.has_run script went.after went.brings (works_again s m n went) in
      let goes = goes_then went.gone.goes run.goes in
      let less : jobs_of went.after < jobs_of s = went.gone.less in
      let few : jobs_of run.after ≤ jobs_of went.after = run.goes.less in
      let ends : EndsWell words.start.began.told finish script k.thread (length run.after.replies.items)
      (faults run.brings.worker.reader) run.after.mode =
      elim (ended_or_not went.after.mode) [
        | inl over ↦
            let same : run.after ≡ went.after = run.ended over in
            let kept : k ≡ n = run.kept over in
            let there : n.reader ≡ Some run.brings.worker =
            ap (λ (x : Mutator (Worker R)). x.reader) (sym kept) ∙ run.brings.there in
            let ended : EndsWell words.start.began.told finish script n.thread (length went.after.replies.items)
            (faults run.brings.worker.reader) went.after.mode = went.gone.ends run.brings.worker there in
            subst
            (λ (x : ThreadState). EndsWell words.start.began.told finish script k.thread (length x.replies.items)
            (faults run.brings.worker.reader) x.mode) (sym same)
            (subst
            (λ (x : Mutator (Worker R)). EndsWell words.start.began.told finish script x.thread
            (length went.after.replies.items) (faults run.brings.worker.reader) went.after.mode) (sym kept) ended)
        | inr goes_on ↦ run.ends goes_on
      ] in
      let over : IsEnded s.mode → ⊥ = λ ended. omega (arith, ended_jobs s ended, less) in (
        record {
          after = run.after;
          brings = run.brings;
          works = run.works;
          waits = run.waits;
          ended = λ ended. absurd (over ended);
          kept = λ ended. absurd (over ended);
          ends = λ open_. ends;
          goes = goes;
          caused = λ other. run.caused (λ waits. went.gone.goes_on (paused_so went.after.mode waits));
        },
        omega (arith, less, few),
      )

module _ {R : Type 0} (faults : R → ℕ) (finish every : ℕ) (words : EpochWords) where
  -- all ran, where none had a first call
  pub all_run : (ms ns : List (Mutator (Worker R))) → AllRun faults finish every words ms ns
      → AllRunFrom faults finish every None words ms ns
  all_run ms ns run = record {
    count = run.count;
    each = λ k m n at there.
        let runs = run.each k m n at there in
        record {
          thread = runs.thread;
          has_run = λ script s brings works. (
            runs.has_run script s brings works,
            λ is. absurd (let no : None ≡ Some k = is in cc),
          );
        };
  }

  -- what is so of the one whose call was made first and went on
  abbrev pub Went_at : Mutator (Worker R) → Mutator (Worker R) → Type 0
  Went_at m n = (n.thread ≡ m.thread) × ((script : Script) (s : ThreadState) → Brings m s
      → Works script words m (made_again s) → WentFirst faults finish every script words s m n)

  -- after a first call that went on all may run
  pub changed_may_run : (script : Script) (t : ℕ) (ms ns : List (Mutator (Worker R))) (c : ChangedAt t ms ns Went_at)
      → AllMayRun script words ms → AllMayRun script words ns
  changed_may_run script t ms ns c may =
      let m = all_at (MayRun script words) ms t c.before may c.was in
      all_changed (MayRun script words) t ms ns Went_at c
      (went_may_run faults finish every script words m.state c.before c.after (c.is.1 script m.state m.brings m.works))
      (λ k x at. all_at (MayRun script words) ms k x may at)

  -- and ran
  pub all_run_after : (t : ℕ) (ms mid ns : List (Mutator (Worker R))) (c : ChangedAt t ms mid Went_at)
      → AllRun faults finish every words mid ns → AllRunFrom faults finish every (Some t) words ms ns
  all_run_after t ms mid ns c run = record {
    count = run.count ∙ c.count;
    each = λ k m n at there.
        let below : k < length mid =
        let w = slice_get_within ms k m at in omega (arith, w, c.count) in
        let x : Mutator (Worker R) = get_or mid k m in
        let mid_at : slice_get mid k ≡ Some x = slice_get-get_or mid k m below in
        let runs = run.each k x n mid_at there in
        elim (at_changed Went_at c k mid_at) [
          | inl same ↦
              let was : c.before ≡ m =
              let both : Some c.before ≡ Some m =
              sym c.was ∙ (ap (λ (i : ℕ). slice_get ms i) (sym same.0) ∙ at) in cc in
              let from : RunsFrom faults finish every (Some t) k words c.before n = record {
                thread = runs.thread ∙ (ap (λ (y : Mutator (Worker R)). y.thread) (sym same.1) ∙ c.is.0);
                has_run = λ script s brings works.
                    let both =
                    went_runs faults finish every script words s c.before c.after n (c.is.1 script s brings works)
                    (subst (λ (y : Mutator (Worker R)). Runs faults finish every words y n) (sym same.1) runs) in
                    (both.0, λ is. both.1);
              } in
              subst (λ (y : Mutator (Worker R)). RunsFrom faults finish every (Some t) k words y n) was from
          | inr other ↦
              let same : x ≡ m = let both : Some x ≡ Some m = sym other.1 ∙ at in cc in
              let from : RunsFrom faults finish every (Some t) k words x n = record {
                thread = runs.thread;
                has_run = λ script s brings works. (
                  runs.has_run script s brings works,
                  λ is. absurd (other.0 (let both : Some t ≡ Some k = is in let one : k ≡ t = cc in one)),
                );
              } in
              subst (λ (y : Mutator (Worker R)). RunsFrom faults finish every (Some t) k words y n) same from
        ];
  }

  -- or none ran, after one that did not
  pub came_others : (t : ℕ) (ms : List (Mutator (Worker R))) (m n : Mutator (Worker R)) → slice_get ms t ≡ Some m
      → (came : First) → (came ≡ Went → ⊥) → CameFirst faults finish every words m n came
      → AllCame faults finish every (Some t) words ms (set ms t n) came
  came_others t ms m n at Went other came = absurd (other refl)
  came_others t ms m n at (Lacked need) other came =
      set_changes t ms m n (λ (x y : Mutator (Worker R)). LackedFirst faults words x y need) at came
  came_others t ms m n at Stopped other came =
      set_changes t ms m n (λ (x y : Mutator (Worker R)). WasStopped words x y) at came

  -- all have their seats, whatever the first call came to
  pub came_seated : (first : Option ℕ) (script : Script) (ns rs : List (Mutator (Worker R))) (came : First)
      → AllMayRun script words ns → All (HasJoined words) ns
      → AllCame faults finish every first words ns rs came → (length rs ≡ length ns) × All (IsSeated words) rs
  came_seated first script ns rs Went may joined all =
      (all.count, all_seated script may all)
  came_seated None script ns rs (Lacked need) may joined all = absurd all
  came_seated (Some t) script ns rs (Lacked need) may joined all = (
    all.count,
    changed_seated words t ns rs (λ (m n : Mutator (Worker R)). LackedFirst faults words m n need) all
        all.is.lacked.seated joined,
  )
  came_seated None script ns rs Stopped may joined all = absurd all
  came_seated (Some t) script ns rs Stopped may joined all = (
    all.count,
    changed_seated words t ns rs (λ (m n : Mutator (Worker R)). WasStopped words m n) all all.is.seated joined,
  )

-- a thread that lacks room may make its call first
pub may_call : {R : Type 0} (script : Script) (b : Began) (first : Option ℕ) (ms ns : List (Mutator (Worker R)))
    → AllRest script b ms → map unseated ns ≡ ms → IfSome first (LacksAt ms) → IfSome first (MayCallAt ns)
may_call script b None ms ns rest kept lacks = tt
may_call {R} script b (Some t) ms ns rest kept lacks =
    let m : Mutator (Worker R) = lacks.0 in
    let seat : Mutator (Worker R) → Mutator (Worker R) = unseated in
    let below : t < length ns =
    let w = slice_get_within ms t m lacks.1 in omega (arith, w, length-map ns unseated, ap length kept) in
    let n : Mutator (Worker R) = get_or ns t m in
    let n_at : slice_get ns t ≡ Some n = slice_get-get_or ns t m below in
    let was : unseated n ≡ m =
    let both : Some (unseated n) ≡ Some m =
    sym (slice_get-map seat ns t ∙ ap (option_map seat) n_at)
    ∙ (ap (λ (xs : List (Mutator (Worker R))). slice_get xs t) kept ∙ lacks.1) in cc in
    let state = lacks.2.state in
    let brings = lacks.2.brings in
    let rests = rest.each t m lacks.1 in
    let same : rests.0 ≡ state = brings_one m rests.0 state brings.worker rests.1.brings brings.there brings.state in
    let fits : FitsMode state.mode state.op =
    subst (λ (s : ThreadState). FitsMode s.mode s.op) same rests.1.program.fits in
    let lacking : FitsMode Lacking state.op =
    subst (λ (mode : Mode). FitsMode mode state.op) lacks.2.lacks fits in (
      n,
      n_at,
      record {
        state = state;
        brings = record {
          worker = brings.worker;
          there = ap (λ (x : Mutator (Worker R)). x.reader) was ∙ brings.there;
          state = brings.state;
        };
        lacks = lacks.2.lacks;
        calls = lacking.1;
      },
    )
