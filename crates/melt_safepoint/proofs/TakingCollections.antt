-- A run goes on after the collection for which a thread waits.
use Rattle.std.proofs.Common.{◌≡◌, ℕ, ◌+◌, ◌*◌, ◌<◌, ◌≤◌, true, false, ◌⊎◌, List, [], ◌∷◌, length, get_or}
use Rattle.std.proofs.Common.{replicate, refl, sym, ◌∙◌, ap, subst, arith, inl, inr}
use Rattle.std.proofs.Math.ListN.{set}
use Rattle.std.proofs.lemmas.Option.{get_or_from_slice_get}
use Rattle.std.specs.Prelude.{Bool, Option, None, Some, IsSome, slice_get, vec_capacity}
use Rattle.melt_model.specs.declared.config.Config.{Config}
use Rattle.melt_model.specs.declared.history.Entry.{Entry}
use Rattle.melt_model.specs.declared.history.Value.TheVariants.{Nil}
use Rattle.melt_model.specs.declared.operations.Op.{Op}
use Rattle.melt_model.specs.declared.operations.Op.TheVariants.{Collect}
use Rattle.melt_model.specs.declared.operations.Reply.TheVariants as reply
use Rattle.melt_model.specs.declared.reports.Journal.{Journal}
use Rattle.melt_model.specs.declared.reports.ThreadEnd.TheVariants as end
use Rattle.melt_trace.specs.Script.{Script}
use Rattle.melt_scion.specs.Heaps.{OnDisk}
use Rattle.melt_core.specs.StaleBits.{Sight, sight}
use Rattle.melt_core.specs.Views.{View, values_of, call_of, IsQuiet, Standing}
use Rattle.melt_core.specs.Epochs.{HasDropped}
use Rattle.melt_safepoint.specs.declared.thread.ThreadState.{ThreadState}
use Rattle.melt_safepoint.specs.declared.thread.Mode.{Mode}
use Rattle.melt_safepoint.specs.declared.thread.Mode.TheVariants.{Running, Silent, Collecting}
use Rattle.melt_safepoint.specs.Counts.{CountsCollections}
use Rattle.melt_safepoint.specs.Journals.{IsTight, Planned}
use Rattle.melt_safepoint.specs.Shown.{Shown}
use Rattle.melt_safepoint.specs.Threads.{DueBy, RunsOrEnds, TakesReply, with_first}
use Rattle.melt_safepoint.specs.Modes.{FitsMode, ForCollection, IsEnded, MayGo, owes, owes_silent}
use Rattle.melt_safepoint.specs.Endings.{RestMoments, TiedMoments}
use Rattle.melt_safepoint.proofs.AtSafepoint.{JustMade, rests_replied, rests_silent}
use Rattle.melt_safepoint.proofs.Counting.{Adds, Spare, adds_silent, counts_taken, open_over}
use Rattle.melt_safepoint.proofs.InOrder.{tied_by}
use Rattle.melt_safepoint.proofs.Journals.{may_owe}
use Rattle.melt_safepoint.proofs.Modes.{moments_mode}
use Rattle.melt_safepoint.proofs.Moments.{next_op}
use Rattle.melt_safepoint.proofs.Collections.{moments_reply, goes_on_mode, TakesCollection, waits_cases, own_open, own_one}
use Rattle.melt_safepoint.proofs.Collections.{own_none}
use Rattle.melt_safepoint.specs.declared.collector.Collector.{Collector}
use Rattle.melt_safepoint.specs.Rows.{CollectorStands, KeepsRest, MakesCollection, MakesFor, RunStands, StandsBut, Row}
use Rattle.melt_safepoint.specs.Rows.{MakesPlanned, journal_of, last_of}
use Rattle.melt_safepoint.specs.Collections.{MadeSoFar}
use Rattle.melt_safepoint.specs.Tables.{DropsIfEnded, TableStands, ThreadStep, ThreadTold}
use Rattle.melt_safepoint.proofs.TableCounts.{adds_told}
use Rattle.melt_safepoint.proofs.Collected.{collected_over, collected_table, just_after, spare_collected, planned_one}
use Rattle.melt_safepoint.proofs.Collected.{just_made, stands_collected}
use Rattle.melt_safepoint.proofs.TableModes.{Table_gone, Table_runs, dropped_keeps, ends_done, nothing_keeps}
use Rattle.melt_safepoint.proofs.TableModes.{drop_cases}
use Rattle.melt_safepoint.proofs.Tables.{Table_step, Table_untold, table_ready, told_room}
use Rattle.melt_safepoint.proofs.WordsMade.{made_same}

-- An epoch is as before but for what registers hold.
pub record SameEpoch (v w : View) : Type 0 where
  pub free : w.free ≡ v.free
  pub forward : w.forward ≡ v.forward
  pub log : w.log ≡ v.log
  pub names : w.names ≡ v.names
  pub calls : w.calls ≡ v.calls
  pub seen : sight w ≡ sight v

-- so it is where a thread drops its registers
pub drops_same : (v w : View) (t : ℕ) (mode : Mode) → DropsIfEnded v w t mode → SameEpoch v w
drops_same v w t mode drops = elim (drop_cases v w t mode drops) [
  | inl gone ↦ record {
    free = ap (λ (x : View). x.free) gone.1.only;
    forward = ap (λ (x : View). x.forward) gone.1.only;
    log = ap (λ (x : View). x.log) gone.1.only;
    names = ap (λ (x : View). x.names) gone.1.only;
    calls = ap (λ (x : View). x.calls) gone.1.only;
    seen = ap sight gone.1.only;
  }
  | inr goes ↦ subst (SameEpoch v) (sym goes.1)
      (record { free = refl; forward = refl; log = refl; names = refl; calls = refl; seen = refl })
]

-- no call is in flight in it
pub same_quiet : (v w : View) → SameEpoch v w → IsQuiet v → IsQuiet w
same_quiet v w same quiet = λ u. ap (λ xs. get_or xs u None) same.calls ∙ quiet u

-- the next operation of a thread that waits for its own collection is that
pub collecting_op : {unpaid : ℕ} {told : Bool} {script : Script} {config : Config} {shown : Shown} {run : Row} (t : ℕ)
    {s : ThreadState} → StandsBut unpaid told script config shown run → slice_get run.states t ≡ Some s
    → s.mode ≡ Collecting → s.op ≡ Some Collect
collecting_op {unpaid} t {s} stands at is =
    subst (λ (m : Mode). FitsMode m s.op) is (stands.table.each t s at).fits

-- it has room for the reply
pub collecting_room : {unpaid : ℕ} {told : Bool} {script : Script} {config : Config} {shown : Shown} {run : Row} (t : ℕ)
    {s : ThreadState} → StandsBut unpaid told script config shown run → slice_get run.states t ≡ Some s
    → s.mode ≡ Collecting → length s.replies.items < vec_capacity s.replies
collecting_room {unpaid} {told} {script} {config} {run} t stands at is =
    (table_ready t (Table_untold told script config stands.disk run.view run.states stands.table) refl at).room
    (subst IsSome (sym (collecting_op t stands at is)) refl)

-- the reply to a collection, where the thread has ended with it or has not
collect_told : (told : Bool) (v w : View) (t : ℕ) (s after : ThreadState) → s.mode ≡ Collecting → s.op ≡ Some Collect
    → TakesReply s after reply.Done → w.log ≡ v.log → IsEnded after.mode ⊎ (values_of v t ≡ values_of w t)
    → (IsEnded after.mode → values_of w t ≡ replicate 16 Nil) → call_of w t ≡ None → ThreadTold told v w t s after
collect_told told v w t s after mode next takes history held dropped call = record {
  op = Collect;
  reply = reply.Done;
  next = next;
  takes = takes;
  history = (None, history);
  answers = λ is. (
    values_of v t,
    record { value = Nil; given = refl; reply_is = refl; registers = refl; history = history },
    held,
  );
  dropped = dropped;
  call = call;
  not_due = ap owes_silent mode;
  no_collect = λ goes. absurd (subst MayGo mode goes);
}

-- the same as an event of the thread
collect_step : {told : Bool} {disk : OnDisk} {v : View} (w : View) (t : ℕ) {s after : ThreadState}
    → Standing told disk v → call_of v t ≡ None → s.mode ≡ Collecting → s.op ≡ Some Collect
    → TakesReply s after reply.Done → DropsIfEnded v w t after.mode → ThreadStep told disk v w t s after
collect_step {told} {disk} {v} w t {s} {after} stands no_call mode next takes drops =
    elim (drop_cases v w t after.mode drops) [
      | inl gone ↦ record {
        stands = gone.1.keeps told disk stands;
        others = dropped_keeps v w t gone.1;
        what =
            inr (inr (inr (inr (collect_told told v w t s after mode next takes (ap (λ (x : View). x.log) gone.1.only)
            (inl gone.0) (λ over. gone.1.here) (ap (λ (x : View). call_of x t) gone.1.only ∙ no_call)))));
      }
      | inr goes ↦ subst (λ (x : View). ThreadStep told disk v x t s after) (sym goes.1) (record {
        stands = stands;
        others = nothing_keeps v t;
        what =
            inr (inr (inr (inr (collect_told told v v t s after mode next takes refl (inr refl)
            (λ over. absurd (goes.0 over)) no_call))));
      })
    ]

-- Of a run one thread changed, and a core in which all else is as before.
pub record SetsState (mid new : Row) (t : ℕ) (after : ThreadState) : Type 0 where
  pub states : new.states ≡ set mid.states t after
  pub collector : new.collector ≡ mid.collector
  pub words : new.words ≡ mid.words
  pub every : new.every ≡ mid.every
  pub told : new.told ≡ mid.told
  pub epoch : SameEpoch mid.view new.view

-- a collection was made that no reply was told of
abbrev pub HasSpare : Script → Config → Row → Type 0
HasSpare script config run = Spare script config run.states (length run.collector.journal.items)

-- What is left to show of a run of which one thread changed: that all threads stand, and where the moments and the
-- number of collections are.
set_stands : {told : Bool} {script : Script} {config : Config} {shown : Shown} {mid new : Row} {t : ℕ}
    {after : ThreadState} → (stands : StandsBut 1 told script config shown mid) → SetsState mid new t after
    → TableStands told script config stands.disk new.view (set mid.states t after)
    → (told ≡ true → TiedMoments script (sight mid.view) (set mid.states t after) config mid.collector.journal.items)
    → HasSpare script config mid → Adds script config mid.states (set mid.states t after) 1 0
    → RunStands told script config shown new
set_stands {told} {script} {config} {shown} {mid} {new} {t} {after} stands sets table moments spare adds =
    let states : List ThreadState = set mid.states t after in
    let counts : CountsCollections script config 0 states (length mid.collector.journal.items) =
    counts_taken script config mid.states states (length mid.collector.journal.items) spare adds in
    let journal : List Journal = new.collector.journal.items in
    let same : mid.collector.journal.items ≡ journal = ap (λ (x : Collector). x.journal.items) (sym sets.collector) in
    record {
      disk = stands.disk;
      under = stands.under;
      none_free = stands.none_free;
      table = subst (TableStands told script config stands.disk new.view) (sym sets.states) table;
      quiet = same_quiet mid.view new.view sets.epoch stands.quiet;
      words = sets.words ∙ stands.words;
      every = sets.every ∙ stands.every;
      told_is = sets.told ∙ stands.told_is;
      collector = subst (CollectorStands config shown) (sym sets.collector) stands.collector;
      moments = λ is.
          subst (λ (xs : List ThreadState). TiedMoments script (sight new.view) xs config journal) (sym sets.states)
          (subst (λ (s : Sight). TiedMoments script s states config journal) (sym sets.epoch.seen)
          (subst (TiedMoments script (sight mid.view) states config) same (moments is)));
      made = λ is.
          subst (MadeSoFar config new.view) same
          (made_same (config.heap * length mid.collector.journal.items) mid.view new.view
          sets.epoch.names sets.epoch.log (stands.made is));
      counts = subst (λ (xs : List ThreadState). CountsCollections script config 0 xs (length journal))
          (sym sets.states)
          (subst (λ (js : List Journal). CountsCollections script config 0 states (length js)) same counts);
    }

-- the collection that is the next operation of a thread was made, and the thread got its reply
Run_answered : {told : Bool} {script : Script} {config : Config} {shown : Shown} {mid new : Row} {t : ℕ}
    {s after : ThreadState} → StandsBut 1 told script config shown mid → HasSpare script config mid
    → slice_get mid.states t ≡ Some s → s.mode ≡ Collecting → TakesReply s after reply.Done → DueBy mid.every s after
    → DropsIfEnded mid.view new.view t after.mode → SetsState mid new t after → RunStands told script config shown new
Run_answered {told} {script} {config} {mid} {new} {t} {s} {after} stands spare at mode takes due drops sets =
    let v : View = mid.view in
    let w : View = new.view in
    let states : List ThreadState = mid.states in
    let by : DueBy config.every s after = subst (λ (n : ℕ). DueBy n s after) stands.every due in
    let goes : IsEnded s.mode → ⊥ = λ over. subst IsEnded mode over in
    let step : ThreadStep told stands.disk v w t s after =
    collect_step w t stands.table.stands (stands.quiet t) mode (collecting_op t stands at mode) takes drops in
    let next : s.op ≡ Some Collect = collecting_op t stands at mode in
    let adds : Adds script config states (set states t after) 1 1 =
    adds_told config states (stands.table.each t s at) at stands.table.count by takes
    (ap (λ (o : Option Op). with_first o s.cursor.operations) next) (ap owes mode) goes in
    let within : stands.disk.end ≤ config.disk =
    subst (λ (n : ℕ). n ≤ config.disk) (sym stands.under.ends) stands.collector.within in
    set_stands stands sets (Table_step within stands.table at goes step by)
    (λ is. tied_by (set states t after) (stands.moments is)
    (moments_reply v.log states t after (reply.Done ∷ []) mid.collector.journal.items at goes takes.replies
    (told_room takes) (stands.moments is).have)) spare (record { all = adds.all; asked = adds.asked; pays = omega (arith, adds.pays) })

-- all threads stand where one goes on
Table_goes_on : {told : Bool} {script : Script} {config : Config} {disk : OnDisk} {v : View} (w : View)
    {states : List ThreadState} (t : ℕ) {s : ThreadState} (after : ThreadState)
    → TableStands told script config disk v states → slice_get states t ≡ Some s → (IsEnded s.mode → ⊥)
    → call_of v t ≡ None → RunsOrEnds s after → DropsIfEnded v w t after.mode
    → TableStands told script config disk w (set states t after)
Table_goes_on {told} {script} {config} {disk} {v} w {states} t {s} after table at goes no_call on drops = elim on [
  | inl runs ↦
      let same : w ≡ v = subst (λ (x : ThreadState). DropsIfEnded v w t x.mode) runs.1 drops in
      subst (λ (x : ThreadState). TableStands told script config disk w (set states t x)) (sym runs.1)
      (subst (λ (x : View). TableStands told script config disk x (set states t (record s { mode = Running })))
      (sym same) (Table_runs t table at goes runs.0 no_call))
  | inr ended ↦
      let dropped : HasDropped v w t = subst (λ (x : ThreadState). DropsIfEnded v w t x.mode) ended.1 drops in
      subst (λ (x : ThreadState). TableStands told script config disk w (set states t x)) (sym ended.1)
      (Table_gone end.Done table at goes dropped no_call (ends_done t table at ended.0))
]

-- the silent collection for which a thread waits was made, and the thread goes on
Run_goes_on : {told : Bool} {script : Script} {config : Config} {shown : Shown} {mid new : Row} {t : ℕ}
    {s after : ThreadState} → StandsBut 1 told script config shown mid → HasSpare script config mid
    → slice_get mid.states t ≡ Some s → s.mode ≡ Silent → RunsOrEnds s after → DropsIfEnded mid.view new.view t
    after.mode
    → SetsState mid new t after → RunStands told script config shown new
Run_goes_on {script} {config} {mid} {new} {t} {s} {after} stands spare at mode on drops sets =
    let v : View = mid.view in
    let states : List ThreadState = mid.states in
    let goes : IsEnded s.mode → ⊥ = λ over. subst IsEnded mode over in
    let by = goes_on_mode s after on in
    let one : owes s.mode ≡ owes by.0 + 1 = let had : owes s.mode ≡ 1 = ap owes mode in omega (arith, had, by.2) in
    set_stands stands sets (Table_goes_on new.view t after stands.table at goes (stands.quiet t) on drops)
    (λ is. subst (λ (x : ThreadState). TiedMoments script (sight v) (set states t x) config mid.collector.journal.items)
    (sym by.1) (tied_by (set states t (record s { mode = by.0 })) (stands.moments is)
    (moments_mode config v.log states t by.0 mid.collector.journal.items at goes by.4 (stands.moments is).have))) spare
    (subst (λ (x : ThreadState). Adds script config states (set states t x) 1 0) (sym by.1)
    (adds_silent script config states t s by.0 at stands.table.count one (open_over s.mode goes)))

-- a run stands where the thread goes on
pub Run_taken : {told : Bool} {script : Script} {config : Config} {shown : Shown} {mid new : Row} {t : ℕ}
    {s after : ThreadState} → StandsBut 1 told script config shown mid → HasSpare script config mid
    → slice_get mid.states t ≡ Some s → ForCollection s.mode → TakesCollection mid.every s after
    → DropsIfEnded mid.view new.view t after.mode → SetsState mid new t after → RunStands told script config shown new
Run_taken {s} stands spare at waits takes drops sets =
    elim (waits_cases s.mode waits) [
      | inl silent ↦ Run_goes_on stands spare at silent (takes.silent silent) drops sets
      | inr own ↦ Run_answered stands spare at own (takes.takes own) (takes.due own) drops sets
    ]

-- and it is at a safepoint still: the thread has had its own collection
rests_taken : {told : Bool} {script : Script} {config : Config} {shown : Shown} {mid new : Row} {t : ℕ}
    {s after : ThreadState} → StandsBut 1 told script config shown mid → slice_get mid.states t ≡ Some s
    → ForCollection s.mode → TakesCollection mid.every s after → SetsState mid new t after
    → JustMade script (sight mid.view) mid.states config mid.collector.journal.items
    → RestMoments script (sight new.view) new.states config new.collector.journal.items
rests_taken {script} {config} {mid} {new} {t} {s} {after} stands at waits takes sets made =
    let journal : List Journal = mid.collector.journal.items in
    let rest : RestMoments script (sight mid.view) (set mid.states t after) config journal =
    elim (waits_cases s.mode waits) [
      | inl silent ↦
          let by = goes_on_mode s after (takes.silent silent) in
          subst (λ (x : ThreadState). RestMoments script (sight mid.view) (set mid.states t x) config journal) (sym by.1)
          (rests_silent (sight mid.view) t by.0 journal at (λ over. subst IsEnded silent over) by.4
          (stands.table.due t s at (ap owes_silent silent)) made.rest)
      | inr own ↦
          let asked : s.op ≡ Some Collect = collecting_op t stands at own in
          rests_replied (sight mid.view) t after reply.Done journal at (λ over. subst IsEnded own over) (takes.takes own).replies
          (told_room (takes.takes own)) (next_op t stands.table at asked) made
    ] in
    subst (λ (c : Collector). RestMoments script (sight new.view) new.states config c.journal.items) (sym sets.collector)
    (subst (λ (xs : List ThreadState). RestMoments script (sight new.view) xs config journal) (sym sets.states)
    (subst (λ (x : Sight). RestMoments script x (set mid.states t after) config journal) (sym sets.epoch.seen) rest))

-- the state that was read is that of the thread
pub state_read : (states items : List ThreadState) (t : ℕ) (s x d : ThreadState) → slice_get states t ≡ Some s
    → items ≡ states → x ≡ get_or items t d → x ≡ s
state_read states items t s x d at same is =
    is ∙ (ap (λ (xs : List ThreadState). get_or xs t d) same ∙ get_or_from_slice_get states t s d at)

-- A thread waited for a collection, and goes on after one.
pub record WasCollected (old mid : Row) (t : ℕ) (s after : ThreadState) : Type 0 where
  pub at : slice_get old.states t ≡ Some s
  pub waits : ForCollection s.mode
  pub takes : TakesCollection mid.every s after

-- it is told so by the state that was read
pub was_collected : (old mid : Row) (t : ℕ) {s x after : ThreadState} (d : ThreadState)
    → slice_get old.states t ≡ Some s → mid.states ≡ old.states → x ≡ get_or mid.states t d
    → (s.mode ≡ Collecting) ⊎ (s.mode ≡ Silent) → TakesCollection mid.every x after → WasCollected old mid t s after
was_collected old mid t {s} {x} {after} d at same read mode takes = record {
  at = at;
  waits = elim mode [
    | inl own ↦ subst ForCollection (sym own) tt
    | inr silent ↦ subst ForCollection (sym silent) tt
  ];
  takes = subst (λ (y : ThreadState). TakesCollection mid.every y after)
      (state_read old.states mid.states t s x d at same read) takes;
}

-- a planned collection is not forced
never_forced : (config : Config) (c : Collector) → false ≡ true → IsTight config (last_of c)
never_forced config c is = absurd (cc)

-- what stands before a planned collection stands where the thread goes on after it
pub keeps_taken : {shown later : Shown} {old mid new : Row} {t : ℕ} {s after : ThreadState}
    → MakesCollection false shown later old mid → WasCollected old mid t s after
    → DropsIfEnded mid.view new.view t after.mode → SetsState mid new t after → KeepsRest shown later old new
keeps_taken {old} {mid} {new} {t} {s} {after} made was drops sets told script config (stands, rests) =
    let here : slice_get mid.states t ≡ Some s =
    ap (λ (xs : List ThreadState). slice_get xs t) made.states ∙ was.at in
    let stood : StandsBut 1 told script config _ mid =
    stands_collected stands rests made (never_forced config old.collector)
    (may_owe 0 old.states t s (omega arith) was.at (own_open s.mode was.waits)) in (
      Run_taken stood (spare_collected stands made) here was.waits was.takes drops sets,
      λ tells. rests_taken stood here was.waits was.takes sets (just_made stands rests made tells),
    )

-- the threads of a run have registers after a collection
pub collected_thread : {told : Bool} {script : Script} {config : Config} {shown later : Shown} {old mid : Row} (t : ℕ)
    → RunStands told script config shown old → MakesCollection false shown later old mid → t < length old.states
    → t < length mid.view.held
collected_thread {told} {script} {config} {mid} t stands made below =
    let beyond : TableStands told script config _ mid.view mid.states =
    collected_table (collected_over stands made) in
    omega (arith, below, beyond.threads, stands.table.count)

-- a collection was made for a thread that waits for one
pub made_for : (shown later : Shown) (old mid new : Row) (s : ThreadState) → MakesCollection false shown later old mid
    → ForCollection s.mode → new.collector ≡ mid.collector → SameEpoch mid.view new.view
    → MakesFor s shown old new
made_for shown later old mid new s made waits collector same = record {
  made = λ for. just_after false shown later old mid new made collector same.free same.forward;
  none = λ never. absurd (never waits);
  planned = subst (λ (n : ℕ). MakesPlanned n shown old new) (sym (own_one s.mode waits)) (λ told script config rests.
      subst (λ (c : Collector). Planned config 1 (journal_of old) c.journal.items) (sym collector)
      (planned_one rests.0 made));
}

-- and none for another
pub made_none : (shown : Shown) (old : Row) (s : ThreadState) → (ForCollection s.mode → ⊥) → MakesFor s shown old old
made_none shown old s never = record {
  made = λ waits. absurd (never waits);
  none = λ no. refl;
  planned = subst (λ (n : ℕ). MakesPlanned n shown old old) (sym (own_none s.mode never))
      (λ told script config stands. refl);
}
