-- An event that reads nothing of the disk, made by a call that may read.
use Rattle.std.proofs.Common.{◌≡◌, ℕ, List, get_or, sym, ◌∙◌, ap}
use Rattle.std.proofs.lemmas.List.{get_or_default}
use Rattle.std.specs.Prelude.{Option, None, Some}
use Rattle.melt_model.specs.declared.operations.Op.{Op}
use Rattle.melt_record.specs.declared.damage.Damaged.{Damaged}
use Rattle.melt_scion.specs.Heaps.{OnDisk}
use Rattle.melt_core.specs.declared.answer.Refusal.TheVariants as refusal
use Rattle.melt_core.specs.declared.answer.StepResult.{StepResult}
use Rattle.melt_core.specs.declared.answer.StepResult.TheVariants.{Refused}
use Rattle.melt_core.specs.declared.call.Call.{Call}
use Rattle.melt_core.specs.Stages.{NeedsNoRead}
use Rattle.melt_core.specs.Advances.{Advances, Asks, IsDamage, MayAdvance, MakesEvent, Uses}
use Rattle.melt_core.specs.Views.{View, call_of, stage_in, stage_of}
use Rattle.melt_core.proofs.Asked.{inside}
use Rattle.melt_core.proofs.Disks.{moves_advance}
use Rattle.melt_core.proofs.ReadsLeft.{no_damage, uses_nothing}

-- What is told of it: its reader stays as it was.
pub record Unread (end : ℕ) (image : Option (List ℕ)) (v w : View) (t : ℕ) (o : Op) (result : StepResult)
    (faults reads : ℕ) : Type 0 where
  pub advances : Advances end image v w t o result
  pub uses : Uses v w t result faults faults reads reads
  pub damage : (damaged : Damaged) → result ≡ Refused (refusal.Damaged damaged) → IsDamage image end v t damaged

pub unread : {end : ℕ} (image : Option (List ℕ)) {v w : View} {t : ℕ} {o : Op} {result : StepResult} (faults reads : ℕ)
    → MayAdvance end v t o → MakesEvent v w t o result → NeedsNoRead (stage_of v t)
    → Unread end image v w t o result faults reads
unread {end} image {v} {w} {t} {o} {result} faults reads may moves none = record {
  advances = moves_advance image may moves;
  uses = uses_nothing end v w t o result may moves none faults reads;
  damage = λ damaged is. absurd (no_damage end v w t o result may moves none damaged is);
}

-- the stage of a call that was found in flight
pub stage_found : (disk : OnDisk) (v : View) (t : ℕ) (o : Op) (found : Option Call) (call : Call) → Asks disk v t o
    → found ≡ get_or v.calls t found → found ≡ Some call → stage_of v t ≡ Some call.stage
stage_found disk v t o found call asks there is =
    let at : call_of v t ≡ Some call =
    get_or_default v.calls t None found (inside disk v t o asks) ∙ (sym there ∙ is) in
    ap stage_in at
