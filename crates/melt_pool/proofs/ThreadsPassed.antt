-- The threads of a run after an epoch.
use Rattle.std.proofs.Common.{◌≡◌, ℕ, zero, suc, ◌+◌, ◌-◌, ◌^◌, ◌%◌, ◌<◌, ◌≤◌, true, List, [], ◌∷◌, ◌++◌, length, refl}
use Rattle.std.proofs.Common.{sym, ◌∙◌, ap, subst, arith, inl, inr, ◌⊎◌}
use Rattle.std.proofs.Math.ListN.{get_elem?, length-map}
use Rattle.std.proofs.lemmas.Option.{get_or_from_slice_get, same_Some, slice_get-map, slice_get_cases}
use Rattle.std.proofs.lemmas.Option.{slice_get_within}
use Rattle.std.specs.Prelude.{All, Bool, Contains, map, Option, None, Some, IfSome, slice_get, sum}
use Rattle.std.specs.Option.{option_map, option_map_or}
use mathlib.Core.Option.{some, some-injective, some-ne-none}
use Rattle.melt_model.specs.declared.config.Config.{Config}
use Rattle.melt_model.specs.Thread.{value_in}
use Rattle.melt_model.specs.declared.history.Entry.{Entry}
use Rattle.melt_model.specs.declared.history.Value.{Value}
use Rattle.melt_model.specs.declared.reports.Journal.{Journal}
use Rattle.melt_model.specs.declared.reports.ThreadEnd.TheVariants as end
use Rattle.melt_trace.specs.Script.{Script}
use Rattle.melt_scion.specs.Heaps.{OnDisk}
use Rattle.melt_scion.specs.declared.heap.Heap.{Heap}
use Rattle.melt_scion.specs.declared.registers.Registers.{Registers}
use Rattle.melt_core.specs.Stages.{LooksAtStop}
use Rattle.melt_core.specs.Views.{IsQuiet, Standing, View, call_of, values_of}
use Rattle.melt_rule.specs.Rule.{Begins, has_cause}
use Rattle.melt_rule.specs.declared.began.Began.{Began}
use Rattle.melt_epoch.specs.Ends.{SomeCause, unseated, view_of}
use Rattle.melt_epoch.specs.declared.mutator.Mutator.{Mutator}
use Rattle.melt_safepoint.specs.Counts.{CountsCollections}
use Rattle.melt_safepoint.specs.Cuts.{IsDue, Moment}
use Rattle.melt_safepoint.specs.Endings.{EndsSo, HaveMoments}
use Rattle.melt_safepoint.specs.Epochs.{RestsWell, to_do}
use Rattle.melt_safepoint.specs.Losses.{CountsLosses, losses, open_faults}
use Rattle.melt_safepoint.specs.Modes.{HadNoRoom, MayGo, Waits, lost, owes_silent}
use Rattle.melt_safepoint.specs.Asked.{total}
use Rattle.melt_safepoint.specs.Run.{LoadsNext}
use Rattle.melt_safepoint.specs.Tables.{TableStands, ThreadStands}
use Rattle.melt_safepoint.specs.Threads.{Later, jobs_of, most_forwards, replies_of, to_reply}
use Rattle.melt_safepoint.specs.declared.thread.Mode.{Mode}
use Rattle.melt_safepoint.specs.declared.thread.Mode.TheVariants.{Running, Due, Silent, Collecting, Asked, Lacking}
use Rattle.melt_safepoint.specs.declared.thread.Mode.TheVariants.{Ended}
use Rattle.melt_safepoint.specs.declared.thread.ThreadState.{ThreadState}
use Rattle.melt_safepoint.proofs.Counting.{counts_on, counts_paid}
use Rattle.melt_safepoint.proofs.Cuts.{gone_cases, replies_here}
use Rattle.melt_safepoint.proofs.InOrder.{HaveMoments_later, NoneForRoom}
use Rattle.melt_safepoint.proofs.Modes.{ends_later}
use Rattle.melt_pool.specs.Epochs.{AllRest, GoesFrom, HasPassed, Passes, Rests}
use Rattle.melt_pool.specs.Machines.{AreArmed, AreDisarmed}
use Rattle.melt_pool.specs.Parts.{most_entries}
use Rattle.melt_pool.specs.Programs.{EndsWell, RepliesStandIn, ProgramStands}
use Rattle.melt_pool.specs.Workers.{Brings, faults_of}
use Rattle.melt_pool.specs.declared.worker.Worker.{Worker}
use Rattle.melt_pool.proofs.Passing.{all_at}
use Rattle.melt_pool.proofs.ThreadsEnded.{lost_counted}
use Rattle.melt_pool.proofs.ThreadsOwn.{all_below, none_own}
use Rattle.melt_pool.proofs.ThreadsRest.{armed_at, program_of, rests_at, threads_rest}
use Rattle.melt_pool.proofs.ThreadsSums.{sums_within, total_list}
use Rattle.melt_pool.proofs.ThreadsWent as went

-- the faults of the reader that a mutator has
abbrev pub faults_in : {R : Type 0} → (R → ℕ) → Mutator (Worker R) → ℕ
faults_in faults m = open_faults (faults_of faults) m.reader

-- What a run shows after an epoch in which it showed this before: the history is this one, and each thread has the
-- values of its mutator.
pub record ShowsAfter {R : Type 0} (told : Bool) (disk : OnDisk) (v w : View) (h : List Entry)
    (ns : List (Mutator (Worker R))) : Type 0 where
  pub stands : Standing told disk w
  pub log : w.log ≡ h
  pub quiet : IsQuiet w
  pub capacity : w.capacity ≡ most_entries
  pub threads : length w.held ≡ length v.held
  pub globals : length w.globals ≡ length v.globals
  pub words : length w.space.list ≡ length v.space.list
  pub forwards : length w.forward ≡ length v.forward
  pub values : (t : ℕ) (n : Mutator (Worker R)) → slice_get ns t ≡ Some n → values_of w t ≡ n.values

-- an element stands at each place of a list
pub stands_there : {A : Type 0} (xs : List A) (t : ℕ) → t < length xs → (x : A) × (slice_get xs t ≡ Some x)
stands_there xs t below = elim (slice_get_cases xs t).1 [
  | inl w ↦ (w.0, w.2)
  | inr w ↦ absurd (omega (arith, w.0, below))
]

-- what is found at a place stands there
found_there : {A : Type 0} (xs : List A) (t : ℕ) (x : A) → get_elem? xs t ≡ some x → slice_get xs t ≡ Some x
found_there [] t x at = absurd (some-ne-none x (sym at))
found_there (y ∷ xs) zero x at = ap Some (some-injective y x at)
found_there (y ∷ xs) (suc t) x at = found_there xs t x at

-- two states that one mutator brings are the same
pub brings_one : {R : Type 0} (n : Mutator (Worker R)) (s x : ThreadState) → Brings n s → Brings n x → s ≡ x
brings_one n s x one two =
    let worker : one.worker ≡ two.worker = same_Some one.worker two.worker (sym one.there ∙ two.there) in
    same_Some s x (sym one.state ∙ (ap (λ (w : Worker _). w.state) worker ∙ two.state))

-- the same state has as little to do
less_same : (y x s : ThreadState) → y ≡ x → jobs_of y < jobs_of s → jobs_of x < jobs_of s
less_same y x s same less = subst (λ (z : ThreadState). jobs_of z < jobs_of s) same less

-- A thread after an epoch, with its mutators: that which it brought, its seat in the end, and that which came back.
pub record PassedAt {R : Type 0} (faults : R → ℕ) (finish every : ℕ) (first : Option ℕ) (b : Began) (script : Script)
    (h : List Entry) (seats ns : List (Mutator (Worker R))) (t : ℕ) (s x : ThreadState) : Type 0 where
  pub seated : Mutator (Worker R)
  pub sits : slice_get seats t ≡ Some seated
  pub back : Mutator (Worker R)
  pub came : slice_get ns t ≡ Some back
  pub passes : Passes faults finish every b script h s seated back
  pub is : passes.after ≡ x
  pub thread : back.thread ≡ t
  pub less : first ≡ Some t → jobs_of x < jobs_of s

module _ {R : Type 0} (told : Bool) (script : Script) (config : Config) (disk : OnDisk) (v : View)
    (states : List ThreadState) (image : R → Option (List ℕ)) (faults : R → ℕ) (words : Option (List ℕ))
    (registers : List Registers) (ms : List (Mutator (Worker R))) (b : Began) (is_told : b.told ≡ told)
    (history : b.history ≡ v.log) (table : TableStands told script config disk v states)
    (armed : AreArmed image faults words v states registers ms) (globals : b.globals ≡ script.globals)
    (finish every : ℕ) (first : Option ℕ) (ns : List (Mutator (Worker R))) (heap : Heap) (h : List Entry)
    (passed : HasPassed faults finish every first b ms ns heap h) (after : List ThreadState)
    (registers_after : List Registers) (ms_after : List (Mutator (Worker R)))
    (disarmed : AreDisarmed ns after registers_after ms_after) where
  -- there are as many states as before
  pub as_many : length after ≡ length states
  as_many = disarmed.as_many ∙ (passed.count ∙ armed.count)

  -- the seat of a mutator that came back
  sat_there : (t : ℕ) (n : Mutator (Worker R)) → slice_get ns t ≡ Some n
      → (seated : Mutator (Worker R)) × (slice_get passed.seats t ≡ Some seated)
  sat_there t n came =
      stands_there passed.seats t
      (let below : t < length ns = slice_get_within ns t n came in
      omega (arith, below, ap length passed.left, length-map passed.seats unseated))

  -- what each thread has done
  pub passed_at : (t : ℕ) (s x : ThreadState) → slice_get states t ≡ Some s → slice_get after t ≡ Some x
      → PassedAt faults finish every first b script h passed.seats ns t s x
  passed_at t s x at is =
      let below : t < length states = slice_get_within states t s at in
      let m : (m : Mutator (Worker R)) × (slice_get ms t ≡ Some m) =
      stands_there ms t (omega (arith, below, armed.count)) in
      let n : (n : Mutator (Worker R)) × (slice_get ns t ≡ Some n) =
      stands_there ns t (omega (arith, below, armed.count, passed.count)) in
      let seated : (seated : Mutator (Worker R)) × (slice_get passed.seats t ≡ Some seated) = sat_there t n.0 n.1 in
      let r : (r : Registers) × (slice_get registers_after t ≡ Some r) =
      stands_there registers_after t (omega (arith, below, as_many, disarmed.as_many, disarmed.too)) in
      let q : (q : Mutator (Worker R)) × (slice_get ms_after t ≡ Some q) =
      stands_there ms_after t (omega (arith, below, as_many, disarmed.as_many, disarmed.count)) in
      let rests : Rests b.told script b.history s m.0 =
      rests_at told script config disk v states image faults words registers ms b is_told history table armed t s m.0
      at m.1 in
      let rest : AllRest script b ms =
      threads_rest told script config disk v states image faults words registers ms b is_told history table armed
      globals in
      let each : (y : Passes faults finish every b script h s seated.0 n.0)
      × (first ≡ Some t → jobs_of y.after < jobs_of s) =
      passed.each script rest t s m.0 seated.0 n.0 m.1 seated.1 n.1 rests in
      let same : each.0.after ≡ x =
      brings_one n.0 each.0.after x each.0.rests.brings (disarmed.each t n.0 x r.0 q.0 n.1 is r.1 q.1).brings in
      record {
        seated = seated.0;
        sits = seated.1;
        back = n.0;
        came = n.1;
        passes = each.0;
        is = same;
        thread = passed.threads t m.0 n.0 m.1 n.1
            ∙ (armed_at told script config disk v states image faults words registers ms b is_told history table armed
            t s m.0 at m.1).1.thread;
        less = λ here. less_same each.0.after x s same (each.1 here);
      }

  -- the history goes on after the one before
  pub goes_on : (more : List Entry) × (v.log ++ more ≡ h)
  goes_on =
      let since : Begins b.history h = passed.ended.history.since in
      (since.0, ap (λ (g : List Entry). g ++ since.0) (sym history) ∙ since.1)

  -- a thread with a seat is one of the run
  sits_below : (t : ℕ) → Contains (map (λ (m : Mutator (Worker R)). m.thread) passed.seats) t → t < length states
  sits_below t there =
      let f : Mutator (Worker R) → ℕ = λ m. m.thread in
      let k : ℕ = there.0 in
      let within : k < length passed.seats =
      let w : k < length (map f passed.seats) = there.1 in omega (arith, w, length-map passed.seats f) in
      let seated : (seated : Mutator (Worker R)) × (slice_get passed.seats k ≡ Some seated) =
      stands_there passed.seats k within in
      let read : seated.0.thread ≡ t =
      sym (get_or_from_slice_get (map f passed.seats) k (f seated.0) t
      (slice_get-map f passed.seats k ∙ ap (option_map f) seated.1)) ∙ there.2 in
      let came : slice_get ns k ≡ Some (unseated seated.0) =
      ap (λ (xs : List (Mutator (Worker R))). slice_get xs k) passed.left
      ∙ (slice_get-map unseated passed.seats k ∙ ap (option_map unseated) seated.1) in
      let below : k < length ns = slice_get_within ns k (unseated seated.0) came in
      let s : (s : ThreadState) × (slice_get states k ≡ Some s) =
      stands_there states k (omega (arith, below, passed.count, armed.count)) in
      let x : (x : ThreadState) × (slice_get after k ≡ Some x) =
      stands_there after k (omega (arith, below, disarmed.as_many)) in
      let it : PassedAt faults finish every first b script h passed.seats ns k s.0 x.0 =
      passed_at k s.0 x.0 s.1 x.1 in
      let back : it.back ≡ unseated seated.0 = same_Some it.back (unseated seated.0) (sym it.came ∙ came) in
      let here : seated.0.thread ≡ k =
      sym (ap (λ (m : Mutator (Worker R)). m.thread) back) ∙ it.thread in
      omega (arith, below, passed.count, armed.count, read, here)

  -- so all entries are those of threads
  all_before : All (λ (e : Entry). e.thread < length states) b.history
  all_before =
      subst (λ (g : List Entry). All (λ (e : Entry). e.thread < length states) g) (sym history)
      (subst (λ (n : ℕ). All (λ (e : Entry). e.thread < n) v.log) (sym table.count) table.own)

  all_after : All (λ (e : Entry). e.thread < length states) h
  all_after =
      all_below h (length states)
      (λ t past. passed.ended.history.strangers t
      (λ there. let below : t < length states = sits_below t there in absurd (omega (arith, below, past)))
      ∙ none_own b.history (length states) t past all_before)

  -- what each has done, without mutators
  pub all_went : went.AllWent every script b.history h states after
  all_went = record {
    count = as_many;
    each = λ t s x at is.
        let it : PassedAt faults finish every first b script h passed.seats ns t s x = passed_at t s x at is in
        record {
          was = program_of told script v t s (table.each t s at);
          program = subst (λ (u : ℕ). ProgramStands script u x) it.thread
              (subst (λ (y : ThreadState). ProgramStands script it.back.thread y) it.is it.passes.rests.program);
          waits = subst (λ (y : ThreadState). MayGo y.mode → ⊥) it.is it.passes.waits;
          ended = λ over. sym it.is ∙ it.passes.ended over;
          goes = subst (λ (u : ℕ). GoesFrom every script u b.history h s x) it.thread
              (subst (λ (y : ThreadState). GoesFrom every script it.back.thread b.history h s y) it.is
              it.passes.goes);
        };
  }

  pub passed_later : Later states after
  passed_later = went.went_later every script b.history h states after all_went

  -- all threads together have no more to do, and less where the call of one was made first
  pub passed_less : to_do after ≤ to_do states
  passed_less = went.went_less every script b.history h states after all_went

  pub passed_first_less : (t : ℕ) → first ≡ Some t → t < length states → to_do after < to_do states
  passed_first_less t here below =
      let s : (s : ThreadState) × (slice_get states t ≡ Some s) = stands_there states t below in
      let x : (x : ThreadState) × (slice_get after t ≡ Some x) =
      stands_there after t (omega (arith, below, as_many)) in
      went.went_less_by every script b.history h states after all_went t s.0 x.0 s.1 x.1
      ((passed_at t s.0 x.0 s.1 x.1).less here)

  -- no thread ends for want of room in an epoch
  passed_room : NoneForRoom states after
  passed_room t x is none =
      let s : (s : ThreadState) × (slice_get states t ≡ Some s) =
      went.sooner_at every script b.history h states after all_went t x is in
      let it : PassedAt faults finish every first b script h passed.seats ns t s.0 x = passed_at t s.0 x s.1 is in
      elim (gone_cases s.0.mode) [
        | inl gone ↦ s.1 ∙ ap Some (sym (sym it.is ∙ it.passes.ended gone.0))
        | inr goes ↦
            let lost : ℕ = faults it.passes.rests.brings.worker.reader in
            absurd (had_room b.told it.back.thread (length x.replies.items) lost x.mode
            (subst (λ (y : ThreadState). EndsWell b.told finish script it.back.thread (length y.replies.items) lost
            y.mode) it.is (it.passes.ends goes.0)) none)
      ]
    where
      had_room : (tells : Bool) (u count lost : ℕ) (mode : Mode) → EndsWell tells finish script u count lost mode
          → HadNoRoom mode → ⊥
      had_room tells u count lost Running ends none = none
      had_room tells u count lost Due ends none = none
      had_room tells u count lost Silent ends none = none
      had_room tells u count lost Collecting ends none = none
      had_room tells u count lost Asked ends none = none
      had_room tells u count lost Lacking ends none = none
      had_room tells u count lost (Ended end.Done) ends none = none
      had_room tells u count lost (Ended (end.OutOfHeap held need)) ends none = ends
      had_room tells u count lost (Ended end.DiskFault) ends none = none
      had_room tells u count lost (Ended (end.Damaged home at word)) ends none = none
      had_room tells u count lost (Ended end.Halted) ends none = none

  -- the moments of the run stay so
  pub passed_moments : (journal : List Journal) (moments : List Moment)
      → HaveMoments script v.log states config journal moments → HaveMoments script h after config journal moments
  passed_moments journal moments have =
      subst (λ (g : List Entry). HaveMoments script g after config journal moments) goes_on.1
      (HaveMoments_later script v.log goes_on.0 config journal passed_later passed_room have)

  -- the collections stay counted, and those that are unpaid are paid where the call of one was made first
  pub passed_counts : every ≡ config.every → (made : ℕ) → CountsCollections script config 0 states made
      → CountsCollections script config 0 after made
  passed_counts same made counts =
      counts_on script config states after made counts
      (went.went_adds every script b.history h states after all_went config same table.count)

  pub passed_paid : every ≡ config.every → (t : ℕ) → first ≡ Some t → t < length states → (unpaid made : ℕ)
      → unpaid ≤ 3 → CountsCollections script config unpaid states made → CountsCollections script config 0 after made
  passed_paid same t here below unpaid made few counts =
      let s : (s : ThreadState) × (slice_get states t ≡ Some s) = stands_there states t below in
      let x : (x : ThreadState) × (slice_get after t ≡ Some x) =
      stands_there after t (omega (arith, below, as_many)) in
      counts_paid script config unpaid states after made few counts
      (went.went_adds_one every script b.history h states after all_went config same table.count t s.0 x.0 s.1 x.1
      ((passed_at t s.0 x.0 s.1 x.1).less here))

  -- where a thread was asked to stop, one waits for more than that
  pub passed_rests : RestsWell after
  passed_rests = record {
    waits = went.went_waits every script b.history h states after all_went;
    asked = λ t x is mode.
        let s : (s : ThreadState) × (slice_get states t ≡ Some s) =
        went.sooner_at every script b.history h states after all_went t x is in
        let it : PassedAt faults finish every first b script h passed.seats ns t s.0 x =
        passed_at t s.0 x s.1 is in
        let found : (view_of it.seated).stopped ≡ true =
        it.passes.asked (ap (λ (y : ThreadState). y.mode) it.is ∙ mode) in
        let cause : SomeCause passed.seats =
        all_at (λ (m : Mutator (Worker R)). (view_of m).stopped ≡ true → SomeCause passed.seats) passed.seats t
        it.seated passed.ended.heap_ends.stops it.sits found in
        let u : ℕ = cause.place in
        let sits : slice_get passed.seats u ≡ Some cause.mutator =
        found_there passed.seats u cause.mutator cause.at in
        let below : u < length passed.seats = slice_get_within passed.seats u cause.mutator sits in
        let y : (y : ThreadState) × (slice_get after u ≡ Some y) =
        stands_there after u
        (omega (arith, below, ap length passed.left, length-map passed.seats unseated, disarmed.as_many)) in
        let r : (r : ThreadState) × (slice_get states u ≡ Some r) =
        went.sooner_at every script b.history h states after all_went u y.0 y.1 in
        let that : PassedAt faults finish every first b script h passed.seats ns u r.0 y.0 =
        passed_at u r.0 y.0 r.1 y.1 in
        let same : cause.mutator ≡ that.seated = same_Some cause.mutator that.seated (sym sits ∙ that.sits) in (
          u,
          (
            y.0,
            y.1,
            subst (λ (z : ThreadState). Waits z.mode) that.is
                (that.passes.stops (ap (λ (m : Mutator (Worker R)). has_cause (view_of m)) (sym same) ∙ cause.is)),
          ),
        );
  }

  -- why a thread has ended
  pub passed_ends : finish ≤ config.disk → (t : ℕ) (s x : ThreadState) → slice_get states t ≡ Some s
      → slice_get after t ≡ Some x → EndsSo told script h after config t x.mode
  passed_ends within t s x at is =
      let it : PassedAt faults finish every first b script h passed.seats ns t s x = passed_at t s x at is in
      elim (gone_cases s.mode) [
        | inl gone ↦
            let same : x ≡ s = sym it.is ∙ it.passes.ended gone.0 in
            subst (λ (g : List Entry). EndsSo told script g after config t x.mode) goes_on.1
            (subst (λ (y : ThreadState). EndsSo told script (v.log ++ goes_on.0) after config t y.mode) (sym same)
            (ends_later told script v.log goes_on.0 config t passed_later at
            (replies_here after t s (passed_later.ended t s at gone.0) ∙ sym (replies_here states t s at)) refl
            (table.ends t s at)))
        | inr goes ↦
            let faults_had : ℕ = faults it.passes.rests.brings.worker.reader in
            let ends : EndsWell b.told finish script it.back.thread (length x.replies.items) faults_had x.mode =
            subst (λ (y : ThreadState). EndsWell b.told finish script it.back.thread (length y.replies.items)
            faults_had y.mode) it.is (it.passes.ends goes.0) in
            let here : EndsWell told finish script t (length x.replies.items) faults_had x.mode =
            subst (λ (n : ℕ). EndsWell told finish script n (length x.replies.items) faults_had x.mode) it.thread
            (subst (λ (c : Bool). EndsWell c finish script it.back.thread (length x.replies.items) faults_had x.mode)
            is_told ends) in
            ends_well faults_had x.mode (ap length (replies_here after t x is)) here
      ]
    where
      -- what is said of a thread by its reader is so of the run
      ends_well : (lost : ℕ) {count : ℕ} (mode : Mode) → length (replies_of after t) ≡ count
          → EndsWell told finish script t count lost mode → EndsSo told script h after config t mode
      ends_well lost Running same ends = tt
      ends_well lost Due same ends = tt
      ends_well lost Silent same ends = tt
      ends_well lost Collecting same ends = tt
      ends_well lost Asked same ends = tt
      ends_well lost Lacking same ends = tt
      ends_well lost (Ended end.Done) same ends = same ∙ ends
      ends_well lost (Ended (end.OutOfHeap held need)) same ends = absurd ends
      ends_well lost (Ended end.DiskFault) same ends = subst (LoadsNext script t) (sym same) ends.0
      ends_well lost (Ended (end.Damaged home at word)) same ends =
          (ends.0, subst (LoadsNext script t) (sym same) ends.1, ends.2 config within)
      ends_well lost (Ended end.Halted) same ends = absurd ends

  -- no thread more was lost than reads failed
  lost_few : (t : ℕ) (s x : ThreadState) → slice_get states t ≡ Some s → slice_get after t ≡ Some x
      → lost x.mode ≤ option_map_or (faults_in faults) (slice_get ns t) 0 + lost s.mode
  lost_few t s x at is =
      let it : PassedAt faults finish every first b script h passed.seats ns t s x = passed_at t s x at is in
      let faults_had : ℕ = faults it.passes.rests.brings.worker.reader in
      elim (gone_cases s.mode) [
        | inl gone ↦
            let same : lost x.mode ≡ lost s.mode =
            ap (λ (y : ThreadState). lost y.mode) (sym it.is ∙ it.passes.ended gone.0) in
            omega (arith, same)
        | inr goes ↦
            let few : lost x.mode ≤ faults_had =
            subst (λ (y : ThreadState). lost y.mode ≤ faults_had) it.is
            (lost_counted b.told finish script it.back.thread (length it.passes.after.replies.items)
            it.passes.after.mode (it.passes.ends goes.0)) in
            let had : option_map_or (faults_in faults) (slice_get ns t) 0 ≡ faults_had =
            ap (λ (o : Option (Mutator (Worker R))). option_map_or (faults_in faults) o 0) it.came
            ∙ ap (open_faults (faults_of faults)) it.passes.rests.brings.there in
            omega (arith, few, had)
      ]

  pub passed_lost : losses after ≤ losses states + sum (map (faults_in faults) ns)
  passed_lost =
      let f : ThreadState → ℕ = λ (s : ThreadState). lost s.mode in
      let G : ℕ → ℕ = λ t. option_map_or (faults_in faults) (slice_get ns t) 0 in
      let sums : total (λ t. 0) (length states) + losses after ≤ total G (length states) + losses states =
      sums_within (λ t. 0) G f f states after as_many
      (λ t s x at is. omega (arith, lost_few t s x at is)) in
      omega (
        arith,
        sums,
        ap (total G) passed.count,
        ap (total G) armed.count,
        total_list (faults_in faults) ns,
      )

  pub passed_losses : (before beyond : ℕ)
      → (before + sum (map (faults_in faults) ns) ≤ beyond) ⊎ (2 ^ 64 - 1 ≤ beyond)
      → CountsLosses states after before beyond
  passed_losses before beyond counted = record {
    counted = elim counted [
      | inl few ↦ inl (omega (arith, few, passed_lost))
      | inr full ↦ inr full
    ];
    rises = elim counted [ inl few ↦ inl (omega (arith, few)) | inr full ↦ inr full ];
  }

  -- all threads stand
  module _ (later : OnDisk) (w : View) (shows : ShowsAfter told later v w h ns) (within : finish ≤ config.disk)
      (same : every ≡ config.every) where
    passed_stands : (t : ℕ) (s x : ThreadState) → slice_get states t ≡ Some s → slice_get after t ≡ Some x
        → ThreadStands told script w t x
    passed_stands t s x at is =
        let it : PassedAt faults finish every first b script h passed.seats ns t s x = passed_at t s x at is in
        let rests : Rests b.told script h x it.back =
        subst (λ (y : ThreadState). Rests b.told script h y it.back) it.is it.passes.rests in
        let program : ProgramStands script t x = (all_went.each t s x at is).program in
        record {
          to_come = program.to_come;
          within = program.within;
          none_left = program.none_left;
          replies_stand = λ tells.
              let by : RepliesStandIn script w.log t x it.back.values =
              subst (λ (g : List Entry). RepliesStandIn script g t x it.back.values) (sym shows.log)
              (subst (λ (n : ℕ). RepliesStandIn script h n x it.back.values) it.thread
              (rests.replies_stand (is_told ∙ tells))) in
              record {
                registers = by.registers;
                stands = by.stands;
                in_registers = elim by.in_registers [
                  | inl over ↦ inl over
                  | inr held ↦ inr (held ∙ sym (shows.values t it.back it.came))
                ];
              };
          dropped = λ over. shows.values t it.back it.came ∙ rests.dropped over;
          call = λ c is_call. absurd (let none : call_of w t ≡ None = shows.quiet t in cc);
          fits = program.fits;
          looks = λ again. subst (λ (rs : List Value). IfSome x.op (LooksAtStop (value_in rs)))
              (sym (shows.values t it.back it.came)) (rests.looks again);
          in_range = program.in_range;
          globals = program.globals;
          room = program.room;
        }

    passed_due : (t : ℕ) (s x : ThreadState) → slice_get states t ≡ Some s → slice_get after t ≡ Some x
        → owes_silent x.mode ≡ true → IsDue config (length x.replies.items)
    passed_due t s x at is owes = elim ((all_went.each t s x at is).goes.due owes) [
      | inl before ↦
          subst (IsDue config) (sym (ap length before.1)) (table.due t s at before.0)
      | inr due ↦ record {
        asked = λ none. due.0 (same ∙ none);
        some = due.1;
        divides = subst (λ (n : ℕ). length x.replies.items % n ≡ 0) same due.2;
      }
    ]

    few_after : length w.log + to_reply after ≤ 8388608
    few_after =
        let few : length v.log + to_reply states ≤ 8388608 = table.few in
        let grown : length h + to_reply after ≤ length b.history + to_reply states =
        went.went_entries every script b.history h states after all_went all_before all_after in
        omega (arith, few, grown, ap length history, ap length shows.log)

    pub passed_table : TableStands told script config later w after
    passed_table = record {
      stands = shows.stands;
      count = as_many ∙ table.count;
      threads = shows.threads ∙ table.threads;
      globals = shows.globals ∙ table.globals;
      words = shows.words ∙ table.words;
      forward_words = shows.forwards ∙ table.forward_words;
      forwards = subst (λ (n : ℕ). n ≤ most_forwards) (sym shows.forwards) table.forwards;
      some_forward = subst (λ (n : ℕ). 1 ≤ n) (sym shows.forwards) table.some_forward;
      each = λ t x is.
          let s : (s : ThreadState) × (slice_get states t ≡ Some s) =
          went.sooner_at every script b.history h states after all_went t x is in
          passed_stands t s.0 x s.1 is;
      own = subst (λ (g : List Entry). All (λ (e : Entry). e.thread < length script.programs) g) (sym shows.log)
          (subst (λ (n : ℕ). All (λ (e : Entry). e.thread < n) h) table.count all_after);
      due = λ t x is.
          let s : (s : ThreadState) × (slice_get states t ≡ Some s) =
          went.sooner_at every script b.history h states after all_went t x is in
          passed_due t s.0 x s.1 is;
      ends = λ t x is.
          let s : (s : ThreadState) × (slice_get states t ≡ Some s) =
          went.sooner_at every script b.history h states after all_went t x is in
          subst (λ (g : List Entry). EndsSo told script g after config t x.mode) (sym shows.log)
          (passed_ends within t s.0 x s.1 is);
      entries = subst (λ (n : ℕ). length w.log + to_reply after ≤ n) (sym shows.capacity) few_after;
      few = few_after;
    }

    -- and so the moments of collections stay in what the run shows
    pub passed_moments_shown : (journal : List Journal) (moments : List Moment)
        → HaveMoments script v.log states config journal moments
        → HaveMoments script w.log after config journal moments
    passed_moments_shown journal moments have =
        subst (λ (g : List Entry). HaveMoments script g after config journal moments) (sym shows.log)
        (passed_moments journal moments have)

    -- which has grown
    pub passed_grown : (more : List Entry) × (w.log ≡ v.log ++ more)
    passed_grown = (goes_on.0, shows.log ∙ sym goes_on.1)
