-- A thread goes into an epoch, and comes out of it.
use Rattle.std.proofs.Common.{◌≡◌, ℕ, ◌+◌, ◌<◌, ◌≤◌, List, length, map, take, refl, sym, ◌∙◌, ap, subst, arith, inl}
use Rattle.std.proofs.Common.{inr}
use Rattle.std.proofs.Common.{true, false, get_or}
use Rattle.std.specs.Prelude.{All, Option, Some, slice_get}
use Rattle.std.specs.Option.{option_map}
use Rattle.std.proofs.lemmas.Option.{get_or_from_slice_get, slice_get-get_or, slice_get-map, slice_get_within}
use Rattle.std.proofs.lemmas.List.{length-map}
use Rattle.melt_model.specs.Standing.{Stands}
use Rattle.melt_model.specs.Thread.{own}
use Rattle.melt_model.specs.declared.history.Entry.{Entry}
use Rattle.melt_model.specs.declared.history.Value.{Value}
use Rattle.melt_model.specs.declared.operations.Op.{Op}
use Rattle.melt_trace.specs.Script.{Script, operations}
use Rattle.melt_scion.specs.declared.heap.Heap.{Heap}
use Rattle.melt_rule.specs.Rule.{Saw, has_cause}
use Rattle.melt_rule.specs.Seats.{EpochWords}
use Rattle.melt_rule.specs.declared.began.Began.{Began}
use Rattle.melt_epoch.specs.Ends.{HasEnded, HasJoined, MayEnd, MutatorsBegin, unseated, view_of}
use Rattle.melt_epoch.specs.Mutators.{IsSeated}
use Rattle.melt_epoch.specs.declared.mutator.Mutator.{Mutator}
use Rattle.melt_safepoint.specs.Modes.{CallsAgain, FitsMode, IsEnded}
use Rattle.melt_safepoint.specs.Threads.{jobs_of}
use Rattle.melt_safepoint.specs.declared.thread.Mode.{Mode}
use Rattle.melt_safepoint.specs.declared.thread.Mode.TheVariants.{Running, Due, Silent, Collecting, Asked}
use Rattle.melt_safepoint.specs.declared.thread.Mode.TheVariants.{Lacking, Ended}
use Rattle.melt_safepoint.specs.declared.thread.ThreadState.{ThreadState}
use Rattle.melt_pool.specs.Epochs.{AllMayRun, AllRest, GoesFrom, HasPassed, Passes, Rests}
use Rattle.melt_pool.specs.Firsts.{AllRunFrom}
use Rattle.melt_pool.specs.Programs.{ThreadWentOn, RepliesStandIn, ProgramStands, collects_in, made_again, mode_again}
use Rattle.melt_pool.specs.Workers.{HasRun, MayRun}
use Rattle.melt_pool.specs.declared.worker.Worker.{Worker}
use Rattle.melt_pool.proofs.Growing.{stands_more}
use Rattle.melt_pool.proofs.Working.{program_stays}

-- what holds of each element holds of one that stands somewhere
pub all_at : {X : Type 0} (P : X → Type 0) (xs : List X) (k : ℕ) (x : X) → All P xs → slice_get xs k ≡ Some x → P x
all_at P xs k x all at = subst P (get_or_from_slice_get xs k x x at) (all k x (slice_get_within xs k x at))

pub all_by : {X : Type 0} (P : X → Type 0) (xs : List X)
    → ((k : ℕ) (x : X) → slice_get xs k ≡ Some x → P x) → All P xs
all_by P xs each k d below = each k (get_or xs k d) (slice_get-get_or xs k d below)

-- a call that is made again has the operation that it had
again_fits : (mode : Mode) (op : Option Op) → FitsMode mode op → FitsMode (mode_again mode) op
again_fits Running op fits = fits
again_fits Due op fits = fits
again_fits Silent op fits = fits
again_fits Collecting op fits = fits
again_fits Asked op fits = fits.0
again_fits Lacking op fits = fits.0
again_fits (Ended e) op fits = fits

again_ended : (mode : Mode) → IsEnded (mode_again mode) → IsEnded mode
again_ended Running over = over
again_ended Due over = over
again_ended Silent over = over
again_ended Collecting over = over
again_ended Asked over = over
again_ended Lacking over = over
again_ended (Ended e) over = over

ended_again : (mode : Mode) → IsEnded mode → IsEnded (mode_again mode)
ended_again Running over = over
ended_again Due over = over
ended_again Silent over = over
ended_again Collecting over = over
ended_again Asked over = over
ended_again Lacking over = over
ended_again (Ended e) over = over

again_not_asked : (mode : Mode) → mode_again mode ≡ Asked → ⊥
again_not_asked Running is = let no : Running ≡ Asked = is in absurd (cc)
again_not_asked Due is = let no : Due ≡ Asked = is in absurd (cc)
again_not_asked Silent is = let no : Silent ≡ Asked = is in absurd (cc)
again_not_asked Collecting is = let no : Collecting ≡ Asked = is in absurd (cc)
again_not_asked Asked is = let no : Running ≡ Asked = is in absurd (cc)
again_not_asked Lacking is = let no : Running ≡ Asked = is in absurd (cc)
again_not_asked (Ended e) is = let no : Ended e ≡ Asked = is in absurd (cc)

-- it is not to be made once more
again_once : (mode : Mode) → CallsAgain (mode_again mode) → ⊥
again_once Running again = again
again_once Due again = again
again_once Silent again = again
again_once Collecting again = again
again_once Asked again = again
again_once Lacking again = again
again_once (Ended e) again = again

module _ {R : Type 0} where
  -- a thread that rests may run, once it has joined an epoch
  pub joined_works : (script : Script) (words : EpochWords) (s : ThreadState) (m n : Mutator (Worker R))
      → words.start.began.globals ≡ script.globals
      → Rests words.start.began.told script words.start.began.history s m → unseated n ≡ m → HasJoined words n
      → MayRun script words n
  joined_works script words s m n globals rests same joined =
      let thread : n.thread ≡ m.thread = ap (λ (x : Mutator _). x.thread) same in
      let values : n.values ≡ m.values = ap (λ (x : Mutator _). x.values) same in
      record {
        state = s;
        brings = record {
          worker = rests.brings.worker;
          there = ap (λ (x : Mutator _). x.reader) same ∙ rests.brings.there;
          state = rests.brings.state;
        };
        works = record {
          seated = joined.seated;
          program = subst (λ (t : ℕ). ProgramStands script t (made_again s)) (sym thread)
              (program_stays script m.thread s (mode_again s.mode) rests.program
              (again_fits s.mode s.op rests.program.fits));
          replies_stand = λ tells.
              let was : RepliesStandIn script words.start.began.history m.thread s m.values = rests.replies_stand tells
              in
              let now : RepliesStandIn script words.start.began.history m.thread (made_again s) m.values = record {
                registers = was.registers;
                stands = was.stands;
                in_registers = elim was.in_registers [
                  | inl over ↦ inl (ended_again s.mode over)
                  | inr held ↦ inr held
                ];
              } in
              subst (λ (h : List Entry). RepliesStandIn script h n.thread (made_again s) n.values) (sym joined.seen)
              (subst (λ (t : ℕ). RepliesStandIn script words.start.began.history t (made_again s) n.values) (sym thread)
              (subst (λ (vs : List Value). RepliesStandIn script words.start.began.history m.thread (made_again s) vs)
              (sym values) now));
          dropped = λ over. values ∙ rests.dropped (again_ended s.mode over);
          waits = λ cause. absurd (
              let none : has_cause (view_of n) ≡ false = rw (joined.asked, joined.spaced, joined.forwarded) refl in
              let both : true ≡ false = sym cause ∙ none in
              cc);
          asked = λ is. absurd (again_not_asked s.mode is);
          looks = λ again. absurd (again_once s.mode again);
          globals = globals;
        };
      }

  -- What a thread has done since the epoch began stands in the history of all.
  goes_from : {every : ℕ} {script : Script} {before h : List Entry} {s after : ThreadState} {m n : Mutator (Worker R)}
      → ThreadWentOn every script m n s after → (view_of m).seen ≡ before → Saw h n.thread (view_of n).seen
      → GoesFrom every script n.thread before h s after
  goes_from {script} {before} {h} {s} {after} {m} {n} on began saw =
      let all : length (own h n.thread) ≡ length (own (view_of n).seen n.thread) = ap length saw.own_same in
      let since : length (own (view_of n).seen m.thread) + length s.replies.items
      ≤ length (own before m.thread) + length after.replies.items =
      subst
      (λ (g : List Entry). length (own (view_of n).seen m.thread) + length s.replies.items
      ≤ length (own g m.thread) + length after.replies.items) began on.entries in
      let here : length (own (view_of n).seen n.thread) + length s.replies.items
      ≤ length (own before n.thread) + length after.replies.items =
      subst
      (λ (t : ℕ). length (own (view_of n).seen t) + length s.replies.items
      ≤ length (own before t) + length after.replies.items) (sym on.thread) since in
      record {
        extra = on.extra;
        grows = on.grows;
        owes = on.owes;
        due = on.due;
        collects = subst (λ (t : ℕ). collects_in script t after ≡ collects_in script t s) (sym on.thread) on.collects;
        less = on.less;
        entries = omega (arith, all, here);
      }

  -- a thread passes an epoch, and has less to do after it if its call was made first
  abbrev PassesFrom : (R → ℕ) → (finish every : ℕ) → Option ℕ → ℕ → Began → Script → List Entry → ThreadState
      → (seated n : Mutator (Worker R)) → Type 0
  PassesFrom faults finish every first k b script h s seated n =
      (x : Passes faults finish every b script h s seated n) × (first ≡ Some k → jobs_of x.after < jobs_of s)

  -- and rests after it, by the history of all
  run_passes : {faults : R → ℕ} {finish every : ℕ} (first : Option ℕ) (k : ℕ) {script : Script} {words : EpochWords}
      {h : List Entry} {s : ThreadState} {m n : Mutator (Worker R)}
      (run : HasRun faults finish every script words s m n) → (first ≡ Some k → jobs_of run.after < jobs_of s)
      → (view_of m).seen ≡ words.start.began.history → Saw h n.thread (view_of n).seen
      → PassesFrom faults finish every first k words.start.began script h s n (unseated n)
  run_passes first k {script} {n} run less began saw = (
    record {
      after = run.after;
      rests = record {
        brings = record { worker = run.brings.worker; there = run.brings.there; state = run.brings.state };
        program = run.works.program;
        replies_stand = λ tells.
            let was = run.works.replies_stand tells in
            record {
              registers = was.registers;
              stands = subst
                  (λ (g : List Entry). Stands g n.thread
                  (take (length run.after.replies.items) (operations script n.thread)) run.after.replies.items
                  was.registers) saw.begins.1
                  (stands_more (view_of n).seen saw.begins.0 n.thread
                  (take (length run.after.replies.items) (operations script n.thread)) run.after.replies.items
                  was.registers (ap (λ (g : List Entry). own g n.thread) saw.begins.1 ∙ saw.own_same) was.stands);
              in_registers = was.in_registers;
            };
        dropped = run.works.dropped;
        looks = run.works.looks;
      };
      size = run.works.seated.size;
      waits = run.waits;
      ended = run.ended;
      ends = run.ends;
      goes = goes_from run.goes began saw;
      caused = run.caused;
      stops = run.works.waits;
      asked = run.works.asked;
    },
    less,
  )

  -- all threads of the script may run
  pub all_joined : (script : Script) (words : EpochWords) (ms ns : List (Mutator (Worker R)))
      → AllRest script words.start.began ms → map unseated ns ≡ ms → All (HasJoined words) ns
      → AllMayRun script words ns
  all_joined script words ms ns rest kept joined = all_by (MayRun script words) ns (λ k n at.
      let was : slice_get ms k ≡ Some (unseated n) =
      ap (λ (xs : List (Mutator (Worker R))). slice_get xs k) (sym kept)
      ∙ (slice_get-map unseated ns k ∙ ap (option_map unseated) at) in
      let rests = rest.each k (unseated n) was in
      joined_works script words rests.0 (unseated n) n rest.globals rests.1 refl
      (all_at (HasJoined words) ns k n joined at))

  -- after their runs all have their seats
  pub all_seated : {faults : R → ℕ} {finish every : ℕ} {first : Option ℕ} (script : Script) {words : EpochWords}
      {ns rs : List (Mutator (Worker R))} → AllMayRun script words ns → AllRunFrom faults finish every first words ns rs
      → All (IsSeated words) rs
  all_seated script {words} {ns} {rs} may run = all_by (IsSeated words) rs (λ k r at.
      let below : k < length ns = let w = slice_get_within rs k r at in omega (arith, w, run.count) in
      let n : Mutator (Worker R) = get_or ns k r in
      let was : slice_get ns k ≡ Some n = slice_get-get_or ns k r below in
      let m = all_at (MayRun script words) ns k n may was in
      ((run.each k n r was at).has_run script m.state m.brings m.works).0.works.seated)

  -- so they may end the epoch
  pub all_end : (image : Worker R → Option (List ℕ)) (words : EpochWords) (ms ns rs : List (Mutator (Worker R)))
      → MutatorsBegin image words.start ms → map unseated ns ≡ ms → length rs ≡ length ns → All (IsSeated words) rs
      → MayEnd words rs
  all_end image words ms ns rs begin kept count seated =
      let size : length rs ≡ length ms =
      count ∙ (sym (length-map ns unseated) ∙ ap length kept) in
      record {
        some_thread = let some_ : 1 ≤ length ms = begin.some_thread in omega (arith, some_, size);
        all = size
            ∙ (sym (length-map ms (λ (m : Mutator (Worker R)). m.thread)) ∙ ap length begin.threads);
        seated = seated;
      }

  -- A mutator before an epoch and after it is, without its seat, the one that began it and the one that ran in it.
  record StandsAt (ns rs : List (Mutator (Worker R))) (k : ℕ) (m q : Mutator (Worker R)) : Type 0 where
    began : Mutator (Worker R)
    ran : Mutator (Worker R)
    began_at : slice_get ns k ≡ Some began
    ran_at : slice_get rs k ≡ Some ran
    was : unseated began ≡ m
    is : unseated ran ≡ q

  stands_at : {ms : List (Mutator (Worker R))} (ns rs : List (Mutator (Worker R))) {qs : List (Mutator (Worker R))}
      → map unseated ns ≡ ms → length rs ≡ length ns → qs ≡ map unseated rs → (k : ℕ) {m q : Mutator (Worker R)}
      → slice_get ms k ≡ Some m → slice_get qs k ≡ Some q → StandsAt ns rs k m q
  stands_at {ms} ns rs kept count left k {m} {q} at there =
      let below : k < length ns =
      let w = slice_get_within ms k m at in omega (arith, w, length-map ns unseated, ap length kept) in
      let over : k < length rs = omega (arith, below, count) in
      let seat : Mutator (Worker R) → Mutator (Worker R) = unseated in
      let n : Mutator (Worker R) = get_or ns k m in
      let r : Mutator (Worker R) = get_or rs k m in
      let n_at : slice_get ns k ≡ Some n = slice_get-get_or ns k m below in
      let r_at : slice_get rs k ≡ Some r = slice_get-get_or rs k m over in
      record {
        began = n;
        ran = r;
        began_at = n_at;
        ran_at = r_at;
        was = let both : Some (unseated n) ≡ Some m =
            sym (slice_get-map seat ns k ∙ ap (option_map seat) n_at)
            ∙ (ap (λ (xs : List (Mutator (Worker R))). slice_get xs k) kept ∙ at) in cc;
        is = let both : Some (unseated r) ≡ Some q =
            sym (slice_get-map seat rs k ∙ ap (option_map seat) r_at)
            ∙ (ap (λ (xs : List (Mutator (Worker R))). slice_get xs k) (sym left) ∙ there) in cc;
      }

  -- what the epoch came to
  pub all_passed : {faults : R → ℕ} {finish every : ℕ} {first : Option ℕ} {words : EpochWords}
      {ms ns rs qs : List (Mutator (Worker R))} {heap : Heap} {h : List Entry} → map unseated ns ≡ ms
      → All (HasJoined words) ns → AllRunFrom faults finish every first words ns rs → qs ≡ map unseated rs
      → HasEnded words.start.began rs heap h → HasPassed faults finish every first words.start.began ms qs heap h
  unfolding joined_works
  all_passed {faults} {finish} {every} {first} {words} {ns} {rs} {h} kept joined run left ended = record {
    seats = rs;
    left = left;
    ended = ended;
    count = ap length left
        ∙ (length-map rs unseated ∙ (run.count ∙ (sym (length-map ns unseated) ∙ ap length kept)));
    threads = λ k m q at there.
        let it = stands_at ns rs kept run.count left k at there in
        ap (λ (x : Mutator (Worker R)). x.thread) (sym it.is)
        ∙ ((run.each k it.began it.ran it.began_at it.ran_at).thread
        ∙ ap (λ (x : Mutator (Worker R)). x.thread) it.was);
    each = λ script rest k s m r q at seated there rests.
        let it = stands_at ns rs kept run.count left k at there in
        let ran : it.ran ≡ r = let both : Some it.ran ≡ Some r = sym it.ran_at ∙ seated in cc in
        let joins : HasJoined words it.began = all_at (HasJoined words) ns k it.began joined it.began_at in
        let may = joined_works script words s m it.began rest.globals rests it.was joins in
        let saw =
        all_at (λ (x : Mutator (Worker R)). Saw h x.thread (view_of x).seen) rs k it.ran ended.history.saw it.ran_at in
        let has = (run.each k it.began it.ran it.began_at it.ran_at).has_run script s may.brings may.works in
        subst (λ (x : Mutator (Worker R)). PassesFrom faults finish every first k words.start.began script h s x q) ran
        (subst (λ (x : Mutator (Worker R)). PassesFrom faults finish every first k words.start.began script h s it.ran
        x)
        it.is (run_passes first k has.0 has.1 joins.seen saw));
  }
