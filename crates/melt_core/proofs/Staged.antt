-- A call is at a stage, whether that is written where its call is or not.
use Rattle.std.proofs.Common.{◌≡◌, ℕ, zero, suc, ◌<◌, List, [], ◌∷◌, length, refl, sym, ◌∙◌, ap, subst, arith}
use Rattle.std.proofs.Math.ListN.{length-set}
use Rattle.std.proofs.lemmas.List.{get_or-set_same}
use Rattle.std.specs.Prelude.{Option, None, Some, slice_index_or, slice_set}
use Rattle.melt_model.specs.declared.history.Act.TheVariants.{Read}
use Rattle.melt_model.specs.declared.history.Entry.{Entry}
use Rattle.melt_model.specs.declared.operations.Op.{Op}
use Rattle.melt_scion.specs.Heaps.{OnDisk}
use Rattle.melt_core.specs.declared.answer.StepResult.{StepResult}
use Rattle.melt_core.specs.declared.call.Call.{Call}
use Rattle.melt_core.specs.declared.call.Place.{Place}
use Rattle.melt_core.specs.declared.call.Stage.{Stage}
use Rattle.melt_core.specs.Answering.{entry}
use Rattle.melt_core.specs.Advances.{Asks, MayMakeEvent, MayMakeEventFrom, MakesEvent, MakesEventFrom}
use Rattle.melt_core.specs.Changed.{HasRead, noted, with_stage, with_call, with_register}
use Rattle.melt_core.specs.Views.{View, held_value, stage_in, stage_of}
use Rattle.melt_core.proofs.Asked.{call_at, inside}

pub set_twice : {A : Type 0} (xs : List A) (i : ℕ) (a b : A) → slice_set (slice_set xs i a) i b ≡ slice_set xs i b
set_twice [] i a b = refl
set_twice (x ∷ xs) zero a b = refl
set_twice (x ∷ xs) (suc i) a b = ap (λ (ys : List _). x ∷ ys) (set_twice xs i a b)

pub set_found : {A : Type 0} (xs : List A) (i : ℕ) (d : A) → slice_set xs i (slice_index_or xs i d) ≡ xs
set_found [] i d = refl
set_found (x ∷ xs) zero d = refl
set_found (x ∷ xs) (suc i) d = ap (λ (ys : List _). x ∷ ys) (set_found xs i d)

-- the next stage, or the end, is written as if this one were not
pub call_again : (v : View) (t : ℕ) (o : Op) (stage : Stage) (call : Option Call)
    → with_call (with_stage v t o stage) t call ≡ with_call v t call
call_again v t o stage call =
    ap (λ (calls : List (Option Call)). record v { calls = calls })
    (set_twice v.calls t (Some (record { op = o; stage = stage })) call)

-- a stage that is written is so
staged_is : {disk : OnDisk} {v : View} {t : ℕ} {o : Op} {stage : Stage} → Asks disk v t o → stage_of v t ≡ Some stage
    → with_stage v t o stage ≡ v
staged_is {disk} {v} {t} {o} {stage} asks is =
    ap (λ (calls : List (Option Call)). record v { calls = calls })
    (ap (λ (c : Option Call). slice_set v.calls t c) (sym (call_at disk v t o stage asks is)) ∙ set_found v.calls t None)

pub may_from : {v : View} {t : ℕ} {o : Op} {stage : Stage} → MayMakeEvent v t o → stage_of v t ≡ Some stage
    → MayMakeEventFrom v t o stage
may_from {t} {o} may is = subst (λ (u : View). MayMakeEvent u t o) (sym (staged_is may.asks is)) may

pub moves_from : {v w : View} {t : ℕ} {o : Op} {stage : Stage} {result : StepResult} → MayMakeEvent v t o
    → stage_of v t ≡ Some stage → MakesEventFrom v w t o stage result → MakesEvent v w t o result
moves_from {w} {t} {o} {result} may is moves =
    subst (λ (u : View). MakesEvent u w t o result) (staged_is may.asks is) moves

-- the call is at the stage
pub staged_stage : {disk : OnDisk} (v : View) (t : ℕ) (o : Op) (stage : Stage) → Asks disk (with_stage v t o stage) t o
    → stage_of (with_stage v t o stage) t ≡ Some stage
staged_stage {disk} v t o stage asks =
    let call : Option Call = Some (record { op = o; stage = stage }) in
    let within : t < length (slice_set v.calls t call) = inside disk (with_stage v t o stage) t o asks in
    let same : length (slice_set v.calls t call) ≡ length v.calls = length-set v.calls t call in
    ap stage_in (get_or-set_same v.calls t call None (omega (arith, within, same)))

-- and so is the end of a call, with an entry of the history
pub noted_again : (v : View) (t : ℕ) (o : Op) (stage : Stage) (e : Entry)
    → with_call (noted (with_stage v t o stage) e) t None ≡ with_call (noted v e) t None
noted_again v t o stage e =
    ap (λ (calls : List (Option Call)). record (noted v e) { calls = calls })
    (set_twice v.calls t (Some (record { op = o; stage = stage })) None)

-- what was read is read from it
pub read_from : {v w : View} {t : ℕ} (o : Op) (stage : Stage) {place : Place} {dst address : ℕ} {result : StepResult}
    → HasRead v w t place dst address result → HasRead (with_stage v t o stage) w t place dst address result
read_from {v} {t} o stage {dst} {address} read = record {
  slot = read.slot;
  is_slot = read.is_slot;
  answered = read.answered;
  is = read.is ∙ ap (λ (calls : List (Option Call)).
      record (with_register (noted v (entry t (Read read.slot (held_value v.names address)))) t dst address) { calls = calls })
      (sym (set_twice v.calls t (Some (record { op = o; stage = stage })) None));
}
