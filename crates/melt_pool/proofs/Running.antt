-- What a mutator brings back from an epoch, whose thread was taken out and put in again.
use Rattle.std.proofs.Common.{◌≡◌, ℕ, List, refl, sym, ◌∙◌, ap, subst}
use Rattle.std.specs.Prelude.{Option, None, Some}
use Rattle.melt_trace.specs.Script.{Script}
use Rattle.melt_rule.specs.Seats.{EpochWords}
use Rattle.melt_epoch.specs.Mutators.{HasReader, IsSeated}
use Rattle.melt_epoch.specs.declared.mutator.Mutator.{Mutator}
use Rattle.melt_safepoint.specs.Modes.{IsEnded, MayGo}
use Rattle.melt_safepoint.specs.declared.thread.ThreadState.{ThreadState}
use Rattle.melt_pool.specs.Programs.{ThreadWentOn, HasEndedWell, WaitsByCause, Works}
use Rattle.melt_pool.specs.Workers.{Brings, HasRun, faults_of, image_of}
use Rattle.melt_pool.specs.declared.worker.Worker.{Worker}
use Rattle.melt_pool.proofs.Onward.{goes_with}

-- the seat of a mutator does not rest on its reader
pub seated_with : {R : Type 0} (words : EpochWords) (m : Mutator R) (r : Option R) → IsSeated words m
    → IsSeated words (record m { reader = r })
seated_with words m r is = record {
  seat = is.seat;
  there = is.there;
  idle = is.idle;
  thread = is.thread;
  one = is.one;
  alone = is.alone;
  size = is.size;
  registers = is.registers;
}

-- nor does what stands of a thread
pub works_with : {R : Type 0} (script : Script) (words : EpochWords) (m : Mutator R) (s : ThreadState) (r : Option R)
    → Works script words m s → Works script words (record m { reader = r }) s
works_with script words m s r works = record {
  seated = seated_with words m r works.seated;
  program = works.program;
  replies_stand = works.replies_stand;
  dropped = works.dropped;
  waits = works.waits;
  asked = works.asked;
  looks = works.looks;
  globals = works.globals;
}

-- a mutator brings one thread alone
pub brings_one : {R : Type 0} (m : Mutator (Worker R)) (s state : ThreadState) (w : Worker R) → Brings m s
    → m.reader ≡ Some w → w.state ≡ Some state → s ≡ state
brings_one m s state w brings there is =
    let same : brings.worker ≡ w = let both : Some brings.worker ≡ Some w = sym brings.there ∙ there in cc in
    let both : Some s ≡ Some state = sym brings.state ∙ (ap (λ (x : Worker _). x.state) same ∙ is) in
    cc

-- the reader of a worker whose thread was put in tells what it told
pub worker_reads : {R : Type 0} (image : R → Option (List ℕ)) (words : EpochWords) (r n : Mutator (Worker R))
    (w : Worker R) (state : Option ThreadState) → r.reader ≡ Some w
    → n ≡ record r { reader = Some (record w { state = state }) } → HasReader (image_of image) words r
    → HasReader (image_of image) words n
worker_reads image words r n w state there is has =
    let same : has.reader ≡ w = let both : Some has.reader ≡ Some w = sym has.there ∙ there in cc in
    record {
      reader = record w { state = state };
      there = ap (λ (x : Mutator _). x.reader) is;
      tells = λ told. ap (λ (x : Worker _). image x.reader) (sym same) ∙ has.tells told;
    }

-- what was run, where its thread was taken out and put in
pub has_run : {R : Type 0} (faults : R → ℕ) (finish : ℕ) {every : ℕ} {script : Script} {words : EpochWords}
    {s after : ThreadState} (m : Mutator (Worker R)) {r n : Mutator (Worker R)} (taken : Option (Worker R))
    {w : Worker R} → r.reader ≡ Some w → n ≡ record r { reader = Some (record w { state = Some after }) }
    → Works script words r after → (MayGo after.mode → ⊥) → (IsEnded s.mode → after ≡ s) → (IsEnded s.mode → n ≡ m)
    → ((IsEnded s.mode → ⊥) → HasEndedWell (faults_of faults) words.start.began.told finish script r after)
    → ThreadWentOn every script (record m { reader = taken }) r s after → WaitsByCause s.mode after.mode r
    → HasRun faults finish every script words s m n
has_run {R} faults finish {every} {script} {words} {s} {after} m {r} taken {w} there is works waits ended kept ends goes
    caused =
    let back : Mutator (Worker R) = record r { reader = Some (record w { state = Some after }) } in
    let here : HasRun faults finish every script words s m back = record {
      after = after;
      brings = record { worker = record w { state = Some after }; there = refl; state = refl };
      works = works_with script words r after (Some (record w { state = Some after })) works;
      waits = waits;
      ended = ended;
      kept = λ over. sym is ∙ kept over;
      ends = λ goes. ends goes w there;
      goes = goes_with m.reader (Some (record w { state = Some after })) goes;
      caused = caused;
    } in
    subst (HasRun faults finish every script words s m) (sym is) here

-- a mutator whose thread was taken out and put in again, and is as it was, is as it was
pub back_as_was : {R : Type 0} (m : Mutator (Worker R)) {r n : Mutator (Worker R)} {w back : Worker R}
    {state after : ThreadState} → m.reader ≡ Some w → w.state ≡ Some state
    → r ≡ record m { reader = Some (record w { state = None }) } → r.reader ≡ Some back
    → n ≡ record r { reader = Some (record back { state = Some after }) } → after ≡ state → n ≡ m
back_as_was {R} m {r} {w} {back} {state} {after} there had is now n_is same =
    let empty : Worker R = record w { state = None } in
    let back_is : back ≡ empty =
    let both : Some back ≡ Some empty = sym now ∙ ap (λ (x : Mutator (Worker R)). x.reader) is in cc in
    let put : record r { reader = Some (record back { state = Some after }) }
    ≡ record m { reader = Some (record w { state = Some after }) } =
    λ i. record (is i) { reader = Some (record (back_is i) { state = Some after }) } in
    let held : Some after ≡ w.state = ap (λ (x : ThreadState). Some x) same ∙ sym had in
    let full : record m { reader = Some (record w { state = Some after }) } ≡ record m { reader = Some w } =
    λ i. record m { reader = Some (record w { state = held i }) } in
    let whole : record m { reader = Some w } ≡ m = λ i. record m { reader = sym there i } in
    n_is ∙ (put ∙ (full ∙ whole))
