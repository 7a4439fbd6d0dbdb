-- The call that is made alone, while all other threads wait: what it needs, and what comes of it.
use Rattle.std.specs.Prelude.{◌≡◌, ◌≢◌, ℕ, ◌+◌, ◌^◌, ◌<◌, ◌≤◌, Bool, true, false, List, length}
use Rattle.std.specs.Prelude.{vec_capacity, Option, None, Some, ◌⊎◌}
use Rattle.melt_model.specs.declared.operations.Op.{Op}
use Rattle.melt_model.specs.declared.operations.Op.TheVariants.{Collect}
use Rattle.melt_scion.specs.Heaps.{OnDisk}
use Rattle.melt_core.specs.Advances.{InBounds, KeepsOthers}
use Rattle.melt_core.specs.Changed.{HasRoomForEntry}
use Rattle.melt_core.specs.Views.{View, value, values_of, registers_in, call_of, Standing}
use Rattle.melt_safepoint.specs.declared.thread.Mode.TheVariants.{Lacking}
use Rattle.melt_safepoint.specs.declared.thread.ThreadState.{ThreadState}
use Rattle.melt_safepoint.specs.Needs.{NeedsWords}
use Rattle.melt_safepoint.specs.Collections.{AllMarked, NoneForwarded}
use Rattle.melt_safepoint.specs.Shown.{Underlies}
use Rattle.melt_safepoint.specs.Threads.{most_forwards}
use Rattle.melt_safepoint.specs.Tables.{ThreadLost, ThreadTold}

-- The thread lacked room, and may make its call alone: none is in flight of it, the stop word is not set, no forwarding
-- word is filled, and there is one. Over some disk with this end the words are well formed.
pub record IsAloneReady (finish : ℕ) (v : View) (t : ℕ) (s : ThreadState) (o : Op) : Type 0 where
  pub disk : OnDisk
  pub ends : disk.end ≡ finish
  pub stands : Standing false disk v
  pub thread : t < length v.held
  pub waits : s.mode ≡ Lacking
  pub next : s.op ≡ Some o
  pub no_collect : o ≢ Collect
  pub bounds : InBounds (length v.globals) o
  pub no_call : call_of v t ≡ None
  pub no_stop : v.stop ≡ false
  pub none_forwarded : NoneForwarded v
  pub forwards : length v.forward ≤ most_forwards
  pub some_forward : 1 ≤ length v.forward
  pub entries : HasRoomForEntry v
  pub few : length v.log < 2 ^ 32
  pub room : length s.replies.items < vec_capacity s.replies

-- The claim of the thread, for so many words, ended past the last one. Nothing else came of the call: objects,
-- registers and history are as they were, and no forwarding word is filled.
pub record LacksAlone (told : Bool) (v w : View) (t : ℕ) (s after : ThreadState) (o : Op) (need : ℕ) : Type 0 where
  pub same : after ≡ s
  pub above : length v.space.list + 1 < v.free + need
  pub small : need ≤ 126
  pub needs : told ≡ true → NeedsWords v.log (value v) t o need
  pub call : call_of w t ≡ None
  pub history : w.log ≡ v.log
  pub registers : registers_in w.held t ≡ registers_in v.held t
  pub values : values_of w t ≡ values_of v t
  pub none_forwarded : NoneForwarded w
  pub marked : AllMarked v → AllMarked w

-- The call was made alone, over a disk: it was answered, or ended its thread, or lacked words.
pub record CalledOver (told : Bool) (disk : OnDisk) (v w : View) (t : ℕ) (s after : ThreadState) (o : Op)
    (lacks : Option ℕ) : Type 0 where
  pub stands : Standing told disk w
  pub others : KeepsOthers v w t
  pub what : ((lacks ≡ None) × (w.stop ≡ false)
      × (ThreadLost told disk.end v w t s after ⊎ ThreadTold told v w t s after))
      ⊎ ((need : ℕ) × (lacks ≡ Some need) × LacksAlone told v w t s after o need)

-- and so over each disk that is seen so
abbrev pub CalledAlone : ℕ → Option (List ℕ) → View → View → ℕ → ThreadState → ThreadState → Op → Option ℕ → Type 0
CalledAlone finish image v w t s after o lacks = (told : Bool) (disk : OnDisk) → Underlies told finish image disk
    → Standing told disk v → CalledOver told disk v w t s after o lacks
