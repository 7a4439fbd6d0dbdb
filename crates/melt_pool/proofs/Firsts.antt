-- What the call of one thread comes to that is made first in an epoch.
use Rattle.std.proofs.Common.{◌≡◌, ◌≢◌, ℕ, ◌<◌, ◌≤◌, List, length, refl, sym, ◌∙◌, ap, subst, arith, inl, inr}
use Rattle.std.specs.Prelude.{Bool, Option, None, Some, Result, Ok, Err}
use Rattle.melt_model.specs.declared.operations.Op.{Op}
use Rattle.melt_model.specs.declared.operations.Op.TheVariants.{Collect}
use Rattle.melt_model.specs.declared.operations.Reply.{Reply}
use Rattle.melt_trace.specs.Script.{Script}
use Rattle.melt_scion.specs.Scions.{Scions}
use Rattle.melt_core.specs.declared.answer.Pause.TheVariants.{Asked, Space, Forward}
use Rattle.melt_core.specs.declared.answer.Refusal.{Refusal}
use Rattle.melt_core.specs.declared.answer.Refusal.TheVariants as refusal
use Rattle.melt_core.specs.declared.answer.Refusal.TheVariants.{Pause}
use Rattle.melt_rule.specs.Seats.{EpochWords}
use Rattle.melt_epoch.specs.Ends.{view_of}
use Rattle.melt_epoch.specs.Loading.{KeepsCount}
use Rattle.melt_epoch.specs.Mutators.{IsSeated}
use Rattle.melt_epoch.specs.declared.mutator.Mutator.{Mutator}
use Rattle.melt_safepoint.specs.Modes.{IsEnded, IsPaused, jobs}
use Rattle.melt_safepoint.specs.Threads.{jobs_of, left}
use Rattle.melt_safepoint.specs.declared.thread.Mode.TheVariants.{Running, Lacking}
use Rattle.melt_safepoint.specs.declared.thread.ThreadState.{ThreadState}
use Rattle.melt_pool.specs.Calling.{IsCalled, NeedsIn, RefusedKeeps}
use Rattle.melt_pool.specs.Firsts.{CameFirst, CameTo, HasGone, HasLackedIn, LackedFirst, WasStopped, WentFirst}
use Rattle.melt_pool.specs.Firsts.{first_for}
use Rattle.melt_pool.specs.Programs.{DueOnly, EndsWell, OwesSilent, Took, Works, dropped_for, made_again, mode_again}
use Rattle.melt_pool.specs.Workers.{faults_of}
use Rattle.melt_pool.specs.declared.first.First.{First}
use Rattle.melt_pool.specs.declared.first.First.TheVariants.{Went, Lacked, Stopped}
use Rattle.melt_pool.specs.declared.worker.Worker.{Worker}
use Rattle.melt_pool.proofs.Going.{by_views, called_ends, called_goes, called_works}
use Rattle.melt_pool.proofs.Onward.{again_goes, ended_jobs, goes_then, goes_with, jobs_by, reply_less}
use Rattle.melt_pool.proofs.Running.{brings_one, seated_with, works_with}

-- a thread that has ended has less to do than one that runs
ended_less : (s after : ThreadState) → s.mode ≡ Running → IsEnded after.mode → jobs_of after < jobs_of s
ended_less s after runs over =
    let had : jobs_of s ≡ jobs Running (length (left s)) = jobs_by s Running (length (left s)) runs refl in
    let none : jobs_of after ≡ 0 = ended_jobs after over in
    omega (arith, had, none)

-- and so has one whose call was answered
went_less : (s after : ThreadState) (op : Op) (result : Result Reply Refusal) → first_for result ≡ Went
    → s.mode ≡ Running → s.op ≡ Some op → Took s after result → jobs_of after < jobs_of s
went_less s after op (Ok reply) went runs next took = reply_less s after op reply runs next took
went_less s after op (Err (Pause Asked)) went runs next took = absurd (let no : Stopped ≡ Went = went in cc)
went_less s after op (Err (Pause (Space need))) went runs next took =
    absurd (let no : Lacked need ≡ Went = went in cc)
went_less s after op (Err (Pause Forward)) went runs next took = absurd (let no : Stopped ≡ Went = went in cc)
went_less s after op (Err refusal.DiskFault) went runs next took =
    ended_less s after runs (subst (λ (x : ThreadState). IsEnded x.mode) (sym took) tt)
went_less s after op (Err (refusal.Damaged damaged)) went runs next took =
    ended_less s after runs (subst (λ (x : ThreadState). IsEnded x.mode) (sym took) tt)

-- it does not wait
went_on : (s after : ThreadState) (result : Result Reply Refusal) → first_for result ≡ Went → Took s after result
    → IsPaused after.mode → ⊥
went_on s after (Ok reply) went took paused = elim took.fits [
  | inl runs ↦ subst IsPaused runs.0 paused
  | inr over ↦ elim over [
    | inl due ↦ subst IsPaused due paused
    | inr ended ↦ subst IsPaused ended.0 paused
  ]
]
went_on s after (Err (Pause Asked)) went took paused = absurd (let no : Stopped ≡ Went = went in cc)
went_on s after (Err (Pause (Space need))) went took paused = absurd (let no : Lacked need ≡ Went = went in cc)
went_on s after (Err (Pause Forward)) went took paused = absurd (let no : Stopped ≡ Went = went in cc)
went_on s after (Err refusal.DiskFault) went took paused = subst (λ (x : ThreadState). IsPaused x.mode) took paused
went_on s after (Err (refusal.Damaged damaged)) went took paused =
    subst (λ (x : ThreadState). IsPaused x.mode) took paused

module _ {R : Type 0} (image : R → Option (List ℕ)) (faults : R → ℕ) (script : Script) (words : EpochWords)
    (scions : Scions) (finish : ℕ) (m n : Mutator R) (s : ThreadState) where
  abbrev told : Bool
  told = words.start.began.told

  -- the call was answered, or its thread has ended
  pub has_gone : (every : ℕ) (p q : R) (after : ThreadState) (op : Op) (result : Result Reply Refusal)
      → first_for result ≡ Went → s.mode ≡ Lacking → Works script words m (made_again s) → s.op ≡ Some op
      → op ≢ Collect → IsSeated words n → m.reader ≡ Some p → n.reader ≡ Some q
      → IsCalled image faults told scions finish m n op result → KeepsCount faults m n
      → Took (made_again s) after result → OwesSilent every (made_again s) after
      → DueOnly every (made_again s) after
      → HasGone faults finish every script words m (dropped_for after.mode n) s after
  has_gone every p q after op result went lacks works next other seated mp nq called count took owing due =
      let again : ThreadState = made_again s in
      let runs : again.mode ≡ Running = ap mode_again lacks in
      let before = again_goes every script m s again refl in
      record {
        works = called_works image faults script words scions finish m n again p q after op result works runs next other
            seated mp nq called took;
        ends = called_ends image faults script words scions finish m n again p q after op result works runs next other
            seated mp nq called count took;
        goes = goes_then before
            (called_goes image faults script words scions finish m n again every p q after op result works runs next
            other
            seated mp nq called took owing due);
        less =
            let less : jobs_of after < jobs_of again = went_less again after op result went runs next took in
            let few : jobs_of again ≤ jobs_of s = before.less in
            omega (arith, less, few);
        goes_on = went_on again after result went took;
      }

  -- or it was refused, and the thread stays as it was
  pub has_stayed : (every : ℕ) (p q : R) (op : Op) (result : Result Reply Refusal) → (first_for result ≡ Went → ⊥)
      → IsSeated words m → IsSeated words n → m.reader ≡ Some p → n.reader ≡ Some q → s.op ≡ Some op
      → IsCalled image faults told scions finish m n op result → KeepsCount faults m n → RefusedKeeps m n result
      → CameTo faults finish every words m n s s (first_for result)
  has_stayed every p q op (Ok reply) refused before seated mp nq next called count keeps = absurd (refused refl)
  has_stayed every p q op (Err refusal.DiskFault) refused before seated mp nq next called count keeps =
      absurd (refused refl)
  has_stayed every p q op (Err (refusal.Damaged damaged)) refused before seated mp nq next called count keeps =
      absurd (refused refl)
  has_stayed every p q op (Err (Pause Asked)) refused before seated mp nq next called count keeps =
      let call =
      by_views image faults script words scions finish m n s p q op (Err (Pause Asked)) before seated mp nq called in
      record { seated = seated; why = inl (call.2.0, call.2.1) }
  has_stayed every p q op (Err (Pause (Space need))) refused before seated mp nq next called count keeps =
      let call =
      by_views image faults script words scions finish m n s p q op (Err (Pause (Space need))) before seated mp nq
      called in (
        refl,
        record { seated = seated; same = keeps; count = count; sees = call.0; spaced = call.2.0 },
        λ o is.
            let same : op ≡ o = let both : Some op ≡ Some o = sym next ∙ is in cc in
            subst (λ (x : Op). NeedsIn (view_of m) (view_of n) m.values x need) same call.2.1,
      )
  has_stayed every p q op (Err (Pause Forward)) refused before seated mp nq next called count keeps =
      let call =
      by_views image faults script words scions finish m n s p q op (Err (Pause Forward)) before seated mp nq called in
      record { seated = seated; why = inr call.2.0 }

-- what came of the call, where its thread was taken out and put in
module _ {R : Type 0} (faults : R → ℕ) (finish every : ℕ) (words : EpochWords) (m r n : Mutator (Worker R))
    (w back : Worker R) (state after : ThreadState) (there : m.reader ≡ Some w) (had : w.state ≡ Some state)
    (now : r.reader ≡ Some back) (is : n ≡ record r { reader = Some (record back { state = Some after }) }) where
  abbrev empty : Mutator (Worker R)
  empty = record m { reader = Some (record w { state = None }) }

  abbrev given : Worker R
  given = record back { state = Some after }

  abbrev full : Mutator (Worker R)
  full = record r { reader = Some given }

  went_first : (script : Script) (s : ThreadState)
      → HasGone (faults_of faults) finish every script words empty r s after
      → WentFirst faults finish every script words s m full
  went_first script s gone = record {
    after = after;
    brings = record { worker = given; there = refl; state = refl };
    gone = record {
      works = works_with script words r after (Some given) gone.works;
      ends = λ q at.
          let same : given ≡ q = let both : Some given ≡ Some q = at in cc in
          subst
          (λ (x : Worker R). EndsWell words.start.began.told finish script r.thread (length after.replies.items)
          (faults x.reader) after.mode) same (gone.ends back now);
      goes = goes_with m.reader (Some given) gone.goes;
      less = gone.less;
      goes_on = gone.goes_on;
    };
  }

  lacked_first : (need : ℕ) → after ≡ state → HasLackedIn (faults_of faults) words empty r need
      → ((o : Op) → state.op ≡ Some o → NeedsIn (view_of empty) (view_of r) m.values o need)
      → LackedFirst faults words m full need
  lacked_first need stays lacked needs = record {
    lacked = record {
      seated = seated_with words r (Some given) lacked.seated;
      same = λ i. record (lacked.same i) { reader = Some given };
      count = λ p q mp nq.
          let p_is : w ≡ p = let both : Some w ≡ Some p = sym there ∙ mp in cc in
          let q_is : given ≡ q = let both : Some given ≡ Some q = nq in cc in
          let few : faults w.reader ≤ faults back.reader = lacked.count (record w { state = None }) back refl now in
          subst (λ (x : Worker R). faults x.reader ≤ faults q.reader) p_is
          (subst (λ (y : Worker R). faults w.reader ≤ faults y.reader) q_is few);
      sees = lacked.sees;
      spaced = lacked.spaced;
    };
    brings = λ s brings. record {
      worker = given;
      there = refl;
      state = ap (λ (x : ThreadState). Some x) (stays ∙ sym (brings_one m s state w brings there had));
    };
    needs = λ s o brings next.
        needs o (ap (λ (x : ThreadState). x.op) (sym (brings_one m s state w brings there had)) ∙ next);
  }

  pub came_first : (first : First) → CameTo (faults_of faults) finish every words empty r state after first
      → CameFirst faults finish every words m n first
  came_first Went came = λ script s brings works.
      let same : s ≡ state = brings_one m s state w brings there had in
      let began : Works script words empty (made_again state) =
      works_with script words m (made_again state) (Some (record w { state = None }))
      (subst (λ (x : ThreadState). Works script words m (made_again x)) same works) in
      subst (WentFirst faults finish every script words s m) (sym is)
      (went_first script s
      (subst (λ (x : ThreadState). HasGone (faults_of faults) finish every script words empty r x after) (sym same)
      (came script began)))
  came_first (Lacked need) came =
      subst (λ (x : Mutator (Worker R)). LackedFirst faults words m x need) (sym is)
      (lacked_first need came.0 came.1 came.2)
  came_first Stopped came =
      let here : WasStopped words m full =
      record { seated = seated_with words r (Some given) came.seated; why = came.why } in
      subst (λ (x : Mutator (Worker R)). WasStopped words m x) (sym is) here
