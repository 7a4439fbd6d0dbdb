-- What events of one call leave, where they are made one right after the other.
use Rattle.std.proofs.Common.{ℕ, zero, suc}
use Rattle.std.specs.Prelude.{false}
use Rattle.melt_model.specs.declared.operations.Op.{Op}
use Rattle.melt_scion.specs.Heaps.{OnDisk}
use Rattle.melt_core.specs.declared.answer.StepResult.{StepResult}
use Rattle.melt_core.specs.Advances.{KeepsOthers, MakesEventsBy, MakesEvents}
use Rattle.melt_core.specs.Views.{Standing, View}
use Rattle.melt_core_tests.proofs.Onward.{KeepsOthers_both}

-- The words stand after events of one call, and all else that a call of another thread needs is as before.
pub record Moved (disk : OnDisk) (v w : View) (t : ℕ) : Type 0 where
  pub stands : Standing false disk w
  pub others : KeepsOthers v w t

moved_by : (more : ℕ) (disk : OnDisk) (v w : View) (t : ℕ) (o : Op) (result : StepResult) → Standing false disk v
    → MakesEventsBy more v w t o result → Moved disk v w t
moved_by zero disk v w t o result stands moves =
    let event = moves.over disk stands in
    record { stands = event.keeps false (λ told. tt) stands; others = event.others }
moved_by (suc more) disk v w t o result stands moves =
    let event = moves.1.over disk stands in
    let after : Moved disk moves.0 w t =
    moved_by more disk moves.0 w t o result (event.keeps false (λ told. tt) stands) moves.2 in
    record { stands = after.stands; others = KeepsOthers_both v moves.0 w t event.others after.others }

pub moved : {disk : OnDisk} {v w : View} {t : ℕ} {o : Op} {result : StepResult} → Standing false disk v
    → MakesEvents v w t o result → Moved disk v w t
moved {disk} {v} {w} {t} {o} {result} stands moves = moved_by moves.more disk v w t o result stands moves.moves
