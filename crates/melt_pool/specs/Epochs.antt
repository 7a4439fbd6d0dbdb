-- What an epoch of real threads comes to.
use Rattle.std.specs.Prelude.{◌≡◌, ◌≢◌, ℕ, ◌+◌, ◌<◌, ◌≤◌, Bool, true, List, ◌++◌, length, map, replicate, All, Option}
use Rattle.std.specs.Prelude.{None, Some, IfSome, slice_get, slice_index}
use Rattle.melt_model.specs.History.{last, shape}
use Rattle.melt_model.specs.Thread.{own, value_in}
use Rattle.melt_model.specs.declared.history.Entry.{Entry}
use Rattle.melt_model.specs.declared.history.Slot.{Slot}
use Rattle.melt_model.specs.declared.history.Slot.TheVariants.{Field, Global}
use Rattle.melt_model.specs.declared.history.Value.{Value}
use Rattle.melt_model.specs.declared.history.Value.TheVariants.{Nil, Ref}
use Rattle.melt_model.specs.declared.operations.Op.{Op}
use Rattle.melt_model.specs.declared.operations.Op.TheVariants as op
use Rattle.melt_model.specs.declared.operations.Reply.{Reply}
use Rattle.melt_trace.specs.Script.{Script}
use Rattle.melt_word.specs.Words.{cost_of}
use Rattle.melt_word.specs.declared.header.Shape.{Shape}
use Rattle.melt_record.specs.declared.head.Kind.TheVariants.{Body}
use Rattle.melt_scion.specs.GhostMaps.{named}
use Rattle.melt_scion.specs.Placed.{HeadIs}
use Rattle.melt_scion.specs.declared.heap.Heap.{Heap}
use Rattle.melt_core.specs.Stages.{LooksAtStop}
use Rattle.melt_rule.specs.Rule.{has_cause}
use Rattle.melt_rule.specs.Seats.{EpochWords}
use Rattle.melt_rule.specs.Shown.{base_at}
use Rattle.melt_rule.specs.declared.began.Began.{Began}
use Rattle.melt_epoch.specs.Ends.{HasEnded, unseated, view_of}
use Rattle.melt_epoch.specs.Mutators.{HasReader}
use Rattle.melt_epoch.specs.declared.mutator.Mutator.{Mutator}
use Rattle.melt_safepoint.specs.Modes.{CallsAgain, IsEnded, MayGo, Waits}
use Rattle.melt_safepoint.specs.Threads.{jobs_of}
use Rattle.melt_safepoint.specs.declared.thread.Mode.TheVariants.{Asked}
use Rattle.melt_safepoint.specs.declared.thread.ThreadState.{ThreadState}
use Rattle.melt_pool.specs.Programs.{DueOnly, EndsWell, RepliesStandIn, OwesSilent, ProgramStands, WaitsByCause}
use Rattle.melt_pool.specs.Programs.{collects_in}
use Rattle.melt_pool.specs.Workers.{Brings, MayRun, Runs}
use Rattle.melt_pool.specs.declared.worker.Worker.{Worker}

-- each thread may go on in the epoch
abbrev pub AllMayRun : {R : Type 0} → Script → EpochWords → List (Mutator (Worker R)) → Type 0
AllMayRun script words ms = All (MayRun script words) ms

-- each has a reader of the words with which the epoch began
abbrev pub AllRead : {R : Type 0} → (Worker R → Option (List ℕ)) → EpochWords → List (Mutator (Worker R)) → Type 0
AllRead image words ms = All (HasReader image words) ms

-- each thread ran until it waits or has ended
pub record AllRun {R : Type 0} (faults : R → ℕ) (finish every : ℕ) (words : EpochWords)
    (ms ns : List (Mutator (Worker R))) : Type 0 where
  pub count : length ns ≡ length ms
  pub each : (k : ℕ) (m n : Mutator (Worker R)) → slice_get ms k ≡ Some m → slice_get ns k ≡ Some n
      → Runs faults finish every words m n

-- a mutator as it was, but for the counts of its reader
pub record IsAsBefore {R : Type 0} (faults : R → ℕ) (m n : Mutator (Worker R)) : Type 0 where
  pub same : n ≡ record m { reader = n.reader }
  pub brings : (s : ThreadState) → Brings m s → Brings n s
  pub count : (p q : Worker R) → m.reader ≡ Some p → n.reader ≡ Some q → faults p.reader ≤ faults q.reader

-- When the epoch began the slot referred to an object that takes so many words, and whose home has its Body.
pub record RefersTo (b : Began) (slot : Slot) (need : ℕ) : Type 0 where
  pub object : ℕ
  pub home : ℕ
  pub z : Shape
  pub refers : last b.history slot ≡ Ref object
  pub shaped : shape b.history object ≡ Some (record { refs = z.refs; nums = z.nums })
  pub homed : named b.maps.homes home ≡ Some object
  pub body : HeadIs (base_at b) home (record { shape = z; kind = Body })
  pub words : need ≡ cost_of z

-- so many words an operation needs, by the values in registers: those of the object that it makes, or to which the slot
-- refers that it loads
abbrev pub NeedsFrom : Began → List Value → Op → ℕ → Type 0
NeedsFrom b values (op.New dst refs nums) need = need ≡ 2 + refs + nums
NeedsFrom b values (op.Load dst src i) need = (n : ℕ) × (value_in values src ≡ Ref n) × RefersTo b (Field n i) need
NeedsFrom b values (op.GLoad dst g) need = RefersTo b (Global g) need
NeedsFrom b values o need = ⊥

-- A thread between two epochs. What it was told stands in the history, where that is told. One that has ended holds
-- nothing. One whose call is to be made again looks at the stop word by it.
pub record Rests {R : Type 0} (told : Bool) (script : Script) (h : List Entry) (s : ThreadState)
    (m : Mutator (Worker R)) : Type 0 where
  pub brings : Brings m s
  pub program : ProgramStands script m.thread s
  pub replies_stand : told ≡ true → RepliesStandIn script h m.thread s m.values
  pub dropped : IsEnded s.mode → m.values ≡ replicate 16 Nil
  pub looks : CallsAgain s.mode → IfSome s.op (LooksAtStop (value_in m.values))

-- all threads of a script before an epoch
pub record AllRest {R : Type 0} (script : Script) (b : Began) (ms : List (Mutator (Worker R))) : Type 0 where
  pub globals : b.globals ≡ script.globals
  pub each : (k : ℕ) (m : Mutator (Worker R)) → slice_get ms k ≡ Some m
      → (s : ThreadState) × Rests b.told script b.history s m

-- What a thread in an epoch has done since the epoch began: it has no more entries than replies.
pub record GoesFrom (every : ℕ) (script : Script) (t : ℕ) (before h : List Entry) (s after : ThreadState) : Type 0 where
  pub extra : List Reply
  pub grows : after.replies.items ≡ s.replies.items ++ extra
  pub owes : OwesSilent every s after
  pub due : DueOnly every s after
  pub collects : collects_in script t after ≡ collects_in script t s
  pub less : jobs_of after ≤ jobs_of s
  pub entries : length (own h t) + length s.replies.items ≤ length (own before t) + length after.replies.items

-- A thread after an epoch, and with its seat at the end of it: it waits or has ended, and if it had ended before, is
-- as it was. If it waits, it has a cause to stop, or waited for a collection before; if it has one, it waits for more
-- than to go on; and if it was asked to stop, it found the stop word set.
pub record Passes {R : Type 0} (faults : R → ℕ) (finish every : ℕ) (b : Began) (script : Script) (h : List Entry)
    (s : ThreadState) (seated n : Mutator (Worker R)) : Type 0 where
  pub after : ThreadState
  pub rests : Rests b.told script h after n
  pub size : length n.values ≡ 16
  pub waits : MayGo after.mode → ⊥
  pub ended : IsEnded s.mode → after ≡ s
  pub ends : (IsEnded s.mode → ⊥) → EndsWell b.told finish script n.thread (length after.replies.items)
      (faults rests.brings.worker.reader) after.mode
  pub goes : GoesFrom every script n.thread b.history h s after
  pub caused : WaitsByCause s.mode after.mode seated
  pub stops : has_cause (view_of seated) ≡ true → Waits after.mode
  pub asked : after.mode ≡ Asked → (view_of seated).stopped ≡ true

-- The epoch has ended with these seats, and the heap stands for the history. Each mutator is that of its thread still.
-- What a thread was told since the epoch began stands in that history, with what it was told before. The one whose call
-- was made first has less to do.
pub record HasPassed {R : Type 0} (faults : R → ℕ) (finish every : ℕ) (first : Option ℕ) (b : Began)
    (ms ns : List (Mutator (Worker R))) (heap : Heap) (h : List Entry) : Type 0 where
  pub seats : List (Mutator (Worker R))
  pub left : ns ≡ map unseated seats
  pub ended : HasEnded b seats heap h
  pub count : length ns ≡ length ms
  pub threads : (k : ℕ) (m n : Mutator (Worker R)) → slice_get ms k ≡ Some m → slice_get ns k ≡ Some n
      → n.thread ≡ m.thread
  pub each : (script : Script) → AllRest script b ms → (k : ℕ) (s : ThreadState) (m seated n : Mutator (Worker R))
      → slice_get ms k ≡ Some m → slice_get seats k ≡ Some seated → slice_get ns k ≡ Some n
      → Rests b.told script b.history s m
      → (x : Passes faults finish every b script h s seated n) × (first ≡ Some k → jobs_of x.after < jobs_of s)

-- The call that was made first, and alone, lacked so many words, and nothing else was done: each mutator is as it was,
-- but for its reader's counts, and no thread has an entry since. Its words, after those that were in use, end past the
-- last one; no object came back from the disk; and they are those of the object that it makes, or to which the slot
-- referred that it loads.
pub record HasLacked {R : Type 0} (image : R → Option (List ℕ)) (faults : R → ℕ) (t need : ℕ) (b : Began)
    (ms ns : List (Mutator (Worker R))) (heap : Heap) (h : List Entry) : Type 0 where
  pub seats : List (Mutator (Worker R))
  pub left : ns ≡ map unseated seats
  pub ended : HasEnded b seats heap h
  pub same_history : h ≡ b.history
  pub count : length ns ≡ length ms
  pub others : (k : ℕ) → k ≢ t → slice_get ns k ≡ slice_get ms k
  pub small : need ≤ 126
  pub past : b.size + 1 < b.free + need
  pub none_won : (p : ℕ) → slice_index heap.forward p ≡ 0
  pub here : (m n : Mutator (Worker R)) → slice_get ms t ≡ Some m → slice_get ns t ≡ Some n
      → IsAsBefore faults m n × ((s : ThreadState) (o : Op) → Brings m s → s.op ≡ Some o
      → b.told ≡ true → NeedsFrom b m.values o need)

-- how an epoch has ended: all went on, or the call that was made first lacked words
abbrev pub Ended : {R : Type 0} → (R → Option (List ℕ)) → (R → ℕ) → (finish every : ℕ) → Option ℕ → Began
    → (ms ns : List (Mutator (Worker R))) → Heap → List Entry → (lacks : Option ℕ) → Type 0
Ended image faults finish every first b ms ns heap h None = HasPassed faults finish every first b ms ns heap h
Ended image faults finish every None b ms ns heap h (Some need) = ⊥
Ended image faults finish every (Some t) b ms ns heap h (Some need) = HasLacked image faults t need b ms ns heap h
