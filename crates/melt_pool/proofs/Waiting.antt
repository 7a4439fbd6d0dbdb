-- A thread that waits has a seat with a cause to stop.
use Rattle.std.proofs.Common.{◌≡◌, ◌∙◌, refl, subst, true, false, inl, inr}
use Rattle.std.specs.Prelude.{Bool, ◌||◌}
use Rattle.melt_model.specs.declared.operations.Reply.{Reply}
use Rattle.melt_rule.specs.Rule.{has_cause}
use Rattle.melt_rule.specs.declared.view.View.{View}
use Rattle.melt_epoch.specs.Calls.{HasAsked}
use Rattle.melt_safepoint.specs.Modes.{ForCollection, Waits}
use Rattle.melt_safepoint.specs.Threads.{TakesReply}
use Rattle.melt_safepoint.specs.declared.thread.Mode.{Mode}
use Rattle.melt_safepoint.specs.declared.thread.Mode.TheVariants.{Running, Due, Silent, Collecting, Asked}
use Rattle.melt_safepoint.specs.declared.thread.Mode.TheVariants.{Lacking, Ended}
use Rattle.melt_safepoint.specs.declared.thread.ThreadState.{ThreadState}
use Rattle.melt_pool.specs.Programs.{mode_again}

-- a cause of each kind is one
asked_causes : (asked spaced forwarded : Bool) → asked ≡ true → (asked || (spaced || forwarded)) ≡ true
asked_causes true spaced forwarded is = refl
asked_causes false spaced forwarded is = absurd (cc)

pub spaced_causes : (asked spaced forwarded : Bool) → spaced ≡ true → (asked || (spaced || forwarded)) ≡ true
spaced_causes true spaced forwarded is = refl
spaced_causes false true forwarded is = refl
spaced_causes false false forwarded is = absurd (cc)

pub forwarded_causes : (asked spaced forwarded : Bool) → forwarded ≡ true → (asked || (spaced || forwarded)) ≡ true
forwarded_causes true spaced forwarded is = refl
forwarded_causes false true forwarded is = refl
forwarded_causes false false true is = refl
forwarded_causes false false false is = absurd (cc)

-- a seat that asked all to stop has one
pub asks_causes : (v w : View) → HasAsked v w → has_cause w ≡ true
asks_causes v w has = by (has_cause v) refl
  where
    by : (b : Bool) → has_cause v ≡ b → has_cause w ≡ true
    by true had =
        let asked = has.cause.0 had in
        let same : has_cause w ≡ has_cause v = λ i. asked i || (has.spaced i || has.forwarded i) in
        same ∙ had
    by false had = asked_causes w.asked w.spaced w.forwarded (has.cause.1 had)

-- a thread that got a reply does not wait
pub told_goes : (s after : ThreadState) (reply : Reply) → TakesReply s after reply → Waits after.mode → ⊥
told_goes s after reply takes waits = elim takes.fits [
  | inl runs ↦ subst Waits runs.0 waits
  | inr over ↦ elim over [ inl due ↦ subst Waits due waits | inr ended ↦ subst Waits ended.0 waits ]
]

-- one whose call is made again waits for no room
pub again_waits : (mode : Mode) → Waits (mode_again mode) → ForCollection mode
again_waits Running waits = waits
again_waits Due waits = waits
again_waits Silent waits = waits
again_waits Collecting waits = waits
again_waits Asked waits = waits
again_waits Lacking waits = waits
again_waits (Ended e) waits = waits
