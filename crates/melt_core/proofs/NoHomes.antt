-- Where a disk has no homes no load finds one, and what a reader of it tells is told.
use Rattle.std.proofs.Common.{◌≡◌, ℕ, ◌<◌, ◌≤◌, sym, subst, arith}
use Rattle.std.specs.Prelude.{Bool, Option, None, Some}
use Rattle.melt_model.specs.declared.operations.Op.{Op}
use Rattle.melt_scion.specs.Heaps.{OnDisk}
use Rattle.melt_core.specs.declared.answer.Refusal.TheVariants as refusal
use Rattle.melt_core.specs.declared.answer.StepResult.{StepResult}
use Rattle.melt_core.specs.declared.answer.StepResult.TheVariants.{Going, Answered, Refused}
use Rattle.melt_core.specs.declared.call.Call.{Call}
use Rattle.melt_core.specs.declared.call.Place.{Place}
use Rattle.melt_core.specs.declared.call.Stage.{Stage}
use Rattle.melt_core.specs.declared.call.Stage.TheVariants.{Searching, Missed, HeadRead, BodyRead, Copying, Copied}
use Rattle.melt_core.specs.declared.call.Stage.TheVariants.{Retrying, LackingCopy}
use Rattle.melt_core.specs.Known.{Searches, Known}
use Rattle.melt_core.specs.Advances.{AdvancesWhere, AdvancesOver, StepOutcome}
use Rattle.melt_core.specs.Views.{View, Standing, maps, state, rest_of, call_of, stage_in}

-- an event that needs the disk's words told, where they are
pub as_told_by : {tells : Type 0} {disk : OnDisk} {v w : View} {t : ℕ} {o : Op} {result : StepResult} → tells
    → AdvancesWhere tells disk v w t o result → AdvancesOver disk v w t o result
as_told_by {tells} {disk} {v} {w} {t} {o} {result} tell is = record {
  keeps = λ told free stands. is.keeps told (λ same. tell) stands;
  changes = is.changes;
  evolves = is.evolves;
  others = is.others;
  outcome = outcome_told tells disk v w t o result tell is.outcome;
  clean = is.clean;
  makes = λ free stands. is.makes tell stands;
}
  where
    outcome_told : (tells : Type 0) (disk : OnDisk) (v w : View) (t : ℕ) (o : Op) (result : StepResult) → tells
        → StepOutcome tells disk v w t o result → StepOutcome (Unit {0}) disk v w t o result
    outcome_told tells disk v w t o Going tell is = is
    outcome_told tells disk v w t o (Answered reply) tell is = is
    outcome_told tells disk v w t o (Refused (refusal.Pause pause)) tell is = is
    outcome_told tells disk v w t o (Refused refusal.DiskFault) tell is = is
    outcome_told tells disk v w t o (Refused (refusal.Damaged damaged)) tell is =
        record { lost = is.lost; untold = λ free. is.untold tell }

-- a call at one of these stages found a home
abbrev pub FoundHome : Stage → Type 0
FoundHome (Searching search) = Unit {0}
FoundHome (Missed search) = Unit {0}
FoundHome (HeadRead search shape) = Unit {0}
FoundHome (BodyRead search shape) = Unit {0}
FoundHome (Copying a stored) = Unit {0}
FoundHome (Copied a) = Unit {0}
FoundHome (Retrying a) = Unit {0}
FoundHome (LackingCopy search shape) = Unit {0}
FoundHome stage = ⊥

no_search : (told : Bool) (disk : OnDisk) (v : View) (place : Place) (home tried : ℕ) → disk.end ≡ 1
    → Searches told (maps v) (state disk v) place home tried → ⊥
no_search told disk v place home tried ends is =
    let first : 1 ≤ home = is.looked.may_stand.0 in
    let below : home < disk.end = is.looked.may_stand.1 in
    omega arith

-- so no call does over a disk that ends where it begins
known_home : (told : Bool) (disk : OnDisk) (v : View) (t : ℕ) (stage : Stage) → disk.end ≡ 1 → FoundHome stage
    → Known told (maps v) (state disk v) (rest_of v t) stage → ⊥
known_home told disk v t (Searching search) ends found is =
    no_search told disk v search.place search.home search.tried ends is
known_home told disk v t (Missed search) ends found is =
    no_search told disk v search.place search.home search.tried ends is.0.searches
known_home told disk v t (HeadRead search shape) ends found is =
    no_search told disk v search.place search.home search.tried ends is.0.searches
known_home told disk v t (BodyRead search shape) ends found is =
    no_search told disk v search.place search.home search.tried ends is.misses.searches
known_home told disk v t (Copying a stored) ends found is =
    no_search told disk v a.search.place a.search.home a.search.tried ends is.0.misses.searches
known_home told disk v t (Copied a) ends found is =
    no_search told disk v a.search.place a.search.home a.search.tried ends is.0.searches
known_home told disk v t (Retrying a) ends found is =
    no_search told disk v a.search.place a.search.home a.search.tried ends is.searches
known_home told disk v t (LackingCopy search shape) ends found is =
    no_search told disk v search.place search.home search.tried ends is.1.searches
known_home told disk v t stage ends found is = absurd found

no_call : (told : Bool) (disk : OnDisk) (v : View) (t : ℕ) (call : Option Call) (stage : Stage) → disk.end ≡ 1
    → Standing told disk v → call_of v t ≡ call → stage_in call ≡ Some stage → FoundHome stage → ⊥
no_call told disk v t None stage ends stands is at found = absurd (cc)
no_call told disk v t (Some c) stage ends stands is at found =
    let same : c.stage ≡ stage = cc in
    known_home told disk v t c.stage ends (subst FoundHome (sym same) found) (stands.known t c is)
