-- How an epoch ends after the call that was made first.
use Rattle.std.proofs.Common.{◌≡◌, ℕ, ◌≤◌, List, map}
use Rattle.std.specs.Prelude.{All, Option, None, Some}
use Rattle.melt_model.specs.declared.history.Entry.{Entry}
use Rattle.melt_scion.specs.declared.heap.Heap.{Heap}
use Rattle.melt_rule.specs.Seats.{EpochWords}
use Rattle.melt_epoch.specs.Ends.{HasEnded, HasJoined, unseated}
use Rattle.melt_epoch.specs.declared.mutator.Mutator.{Mutator}
use Rattle.melt_pool.specs.Epochs.{Ended}
use Rattle.melt_pool.specs.Firsts.{AllCame}
use Rattle.melt_pool.specs.declared.first.First.TheVariants.{Went, Lacked, Stopped}
use Rattle.melt_pool.specs.declared.worker.Worker.{Worker}
use Rattle.melt_pool.proofs.Alone.{has_lacked, never_stopped}
use Rattle.melt_pool.proofs.Passing.{all_passed}

module _ {R : Type 0} (image : R → Option (List ℕ)) (faults : R → ℕ) (finish every : ℕ) (words : EpochWords)
    (ms ns rs qs : List (Mutator (Worker R))) (heap : Heap) (h : List Entry) (kept : map unseated ns ≡ ms)
    (joined : All (HasJoined words) ns) (left : qs ≡ map unseated rs) (ended : HasEnded words.start.began rs heap h)
  where
    -- all went on
    pub went_ends : (first : Option ℕ) → AllCame faults finish every first words ns rs Went
        → Ended image faults finish every first words.start.began ms qs heap h None
    went_ends first came = all_passed kept joined came left ended

    -- the first lacked words
    pub lacked_ends : (first : Option ℕ) (need : ℕ) → AllCame faults finish every first words ns rs (Lacked need)
        → Ended image faults finish every first words.start.began ms qs heap h (Some need)
    lacked_ends None need came = absurd came
    lacked_ends (Some t) need came = has_lacked faults words t ms ns rs qs heap h kept joined left ended need came image

    -- nothing else can be
    pub never_stopped_first : (first : Option ℕ) → AllCame faults finish every first words ns rs Stopped
        → 1 ≤ words.start.began.forwards → ⊥
    never_stopped_first None came some_forward = came
    never_stopped_first (Some t) came some_forward =
        never_stopped faults words t ms ns rs qs heap h kept joined left ended came some_forward
