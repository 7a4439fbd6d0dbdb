-- A run by any choices: which thread makes the next event, and where epochs end and collections come. Objects may have
-- homes on a disk, which is shown by its end and by the words that it tells.
use Rattle.std.specs.Prelude.{◌≡◌, ◌≢◌, ℕ, ◌^◌, ◌<◌, ◌≤◌, Bool, true, false, List, [], ◌∷◌, ◌++◌, length, All}
use Rattle.std.specs.Prelude.{Option, None, Some, IsSome}
use Rattle.melt_model.specs.History.{Legal}
use Rattle.melt_model.specs.Thread.{Transcript}
use Rattle.melt_model.specs.declared.history.Entry.{Entry}
use Rattle.melt_model.specs.declared.operations.Op.{Op}
use Rattle.melt_model.specs.declared.operations.Op.TheVariants.{Collect}
use Rattle.melt_model.specs.declared.operations.Reply.{Reply}
use Rattle.melt_model.specs.declared.operations.Reply.TheVariants.{Done}
use Rattle.melt_model.specs.declared.reports.Journal.{Journal}
use Rattle.melt_model.specs.declared.reports.Phase.{Phase}
use Rattle.melt_scion.specs.Heaps.{OnDisk, IsNewHeap, IsSettled}
use Rattle.melt_scion.specs.declared.heap.Heap.{Heap}
use Rattle.melt_scion.specs.declared.registers.Registers.{Registers}
use Rattle.melt_move.specs.Planned.{CollectsPlanned}
use Rattle.melt_core.specs.Views.{View, view, call_of, IsQuiet, Standing}
use Rattle.melt_core.specs.Changed.{stopped}
use Rattle.melt_core.specs.Epochs.{IsNewRest, AtRest, core_of, HasFinished, HasDropped, NamesWithin}
use Rattle.melt_core.specs.Advances.{MayAdvance, Advances, TellsDisk}
use Rattle.melt_core.specs.declared.machine.Rest.{Rest}
use Rattle.melt_core.specs.declared.answer.StepResult.{StepResult}
use Rattle.melt_core.specs.declared.answer.StepResult.TheVariants.{Going, Answered, Refused}

-- What a thread has behind it: the operations that were answered, their replies, and whether it dropped its registers.
pub record SoFar : Type 0 where
  pub ops : List Op
  pub replies : List Reply
  pub over : Bool

abbrev pub nothing_yet : SoFar
nothing_yet = record { ops = []; replies = []; over = false }

-- one operation more was answered
abbrev pub with_reply : SoFar → Op → Reply → SoFar
with_reply s o reply = record { ops = s.ops ++ o ∷ []; replies = s.replies ++ reply ∷ []; over = s.over }

-- one thread has this behind it, and each other what it had
pub record SetsSoFar (all after : ℕ → SoFar) (t : ℕ) (s : SoFar) : Type 0 where
  pub here : after t ≡ s
  pub others : (u : ℕ) → u ≢ t → after u ≡ all u

-- what an event with this result makes of that
abbrev pub SetsBy : (ℕ → SoFar) → (ℕ → SoFar) → ℕ → Op → StepResult → Type 0
SetsBy all after t o (Answered reply) = SetsSoFar all after t (with_reply (all t) o reply)
SetsBy all after t o Going = (u : ℕ) → after u ≡ all u
SetsBy all after t o (Refused refusal) = (u : ℕ) → after u ≡ all u

-- Of threads and history nothing changed but what the registers hold, of which each thread has 16.
pub record OnlyRegisters (rest after : Rest) : Type 0 where
  pub threads : length after.held.items ≡ length rest.held.items
  pub before : All (λ (x : Registers). length x.regs ≡ 16) rest.held.items
  pub afterwards : All (λ (x : Registers). length x.regs ≡ 16) after.held.items
  pub calls : after.calls.items ≡ rest.calls.items
  pub records : after.records.items ≡ rest.records.items
  pub log : after.log ≡ rest.log
  pub shadow_log : after.shadow_log ≡ rest.shadow_log
  pub made : after.made ≡ rest.made

-- A planned collection of some phase, of a heap and its registers and of a disk, with the end and the words that it
-- tells before and after; calls and history stay.
pub record CollectsRest (end end_after : ℕ) (told told_after : Option (List ℕ)) (heap : Heap) (rest : Rest) (new : Heap)
    (after : Rest) : Type 0 where
  pub phase : Phase
  pub journal : Journal
  pub collects : CollectsPlanned phase heap new rest.held.items after.held.items end end_after told told_after journal
  pub only : OnlyRegisters rest after

-- A run so far, by any choices among what the public calls of a core and the planned collection do, each where it may
-- be called: a new core and a disk without homes, an event of a thread over a reader that tells the words of the disk,
-- the stop word set, an answer to a `collect`, a thread that drops its registers, a new epoch of a settled heap, and a
-- planned collection between two epochs, after which the disk tells its words still. The heap keeps names or does not.
pub data Chosen (threads globals : ℕ) : (end : ℕ) → (image : Option (List ℕ)) → View → (ℕ → SoFar) → Type 0 where
  starts : (v : View) (all : ℕ → SoFar) (named : Bool) (words forward entries : ℕ) (heap : Heap) (rest : Rest)
      → words < 2 ^ 30 → threads ≤ 8 → IsNewHeap words globals forward named heap → IsNewRest threads entries rest
      → v ≡ view (core_of heap rest)
      → ((t : ℕ) → all t ≡ nothing_yet) → Chosen threads globals 1 (Some []) v all
  event : (end : ℕ) (image : Option (List ℕ)) (v w : View) (all after : ℕ → SoFar) (t : ℕ) (o : Op)
      (result : StepResult) → Chosen threads globals end image v all → (all t).over ≡ false → MayAdvance end v t o
      → Advances end image v w t o result → SetsBy all after t o result → Chosen threads globals end image w after
  asks : (end : ℕ) (image : Option (List ℕ)) (v w : View) (all : ℕ → SoFar) → Chosen threads globals end image v all
      → w ≡ stopped v → Chosen threads globals end image w all
  collect : (end : ℕ) (image : Option (List ℕ)) (v : View) (all after : ℕ → SoFar) (t : ℕ)
      → Chosen threads globals end image v all → SetsSoFar all after t (with_reply (all t) Collect Done)
      → Chosen threads globals end image v after
  drops : (end : ℕ) (image : Option (List ℕ)) (v w : View) (all after : ℕ → SoFar) (t : ℕ)
      → Chosen threads globals end image v all → call_of v t ≡ None → HasDropped v w t
      → SetsSoFar all after t (record (all t) { over = true }) → Chosen threads globals end image w after
  epoch : (end : ℕ) (image : Option (List ℕ)) (v w : View) (all : ℕ → SoFar) (heap : Heap) (rest : Rest)
      → Chosen threads globals end image v all → IsQuiet v
      → ((told : Bool) (disk : OnDisk) → Standing told disk v → AtRest told disk heap rest)
      → HasFinished v (view (core_of heap rest)) → IsSettled heap → w ≡ view (core_of heap rest)
      → Chosen threads globals end image w all
  collection : (end end_after : ℕ) (image image_after : Option (List ℕ)) (v w : View) (all : ℕ → SoFar)
      (heap new : Heap) (rest after : Rest) → Chosen threads globals end image v all → v ≡ view (core_of heap rest)
      → NamesWithin heap → IsQuiet v → CollectsRest end end_after image image_after heap rest new after → IsSome image_after
      → w ≡ view (core_of new after) → Chosen threads globals end_after image_after w all

-- There is one legal history, with entries of the threads alone; the replies that each thread has by now are those that
-- it gives, whatever operations are to come; and over a disk with this end, which tells these words, the words of the
-- heap stand for it.
pub record AreTold (threads globals end : ℕ) (image : Option (List ℕ)) (v : View) (all : ℕ → SoFar) : Type 0 where
  pub disk : OnDisk
  pub ends : disk.end ≡ end
  pub tells : TellsDisk image disk
  pub stands : Standing true disk v
  pub legal : Legal v.log globals
  pub transcripts : (t : ℕ) (more : List Op) → Transcript v.log t ((all t).ops ++ more) (all t).replies
  pub own_threads : All (λ (e : Entry). e.thread < threads) v.log
