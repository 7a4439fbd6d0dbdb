-- What a thread is told by a call that was refused.
use Rattle.std.proofs.Common.{◌≡◌, ◌≢◌, ℕ, ◌<◌, ◌≤◌, List, refl, sym, ◌∙◌, ap, subst, arith, inl, inr, true}
use Rattle.std.specs.Prelude.{Bool, Option, Some, IfSome, slice_get}
use Rattle.std.proofs.lemmas.Bool.{cases_lt}
use Rattle.melt_model.specs.declared.config.Config.{Config}
use Rattle.melt_model.specs.Thread.{value_in}
use Rattle.melt_model.specs.declared.history.Value.{Value}
use Rattle.melt_model.specs.declared.history.Value.TheVariants.{Nil, Ref}
use Rattle.melt_model.specs.declared.operations.Op.{Op}
use Rattle.melt_model.specs.declared.operations.Op.TheVariants as op
use Rattle.melt_model.specs.declared.operations.Op.TheVariants.{Collect}
use Rattle.melt_trace.specs.Script.{Script, operations}
use Rattle.melt_record.specs.declared.damage.Damaged.{Damaged}
use Rattle.melt_io.specs.Outside.{Rose}
use Rattle.melt_scion.specs.Scions.{Scions}
use Rattle.melt_core.specs.Advances.{Breaks}
use Rattle.melt_core.specs.Stages.{LooksAtStop}
use Rattle.melt_core.specs.declared.answer.Pause.TheVariants.{Asked, Space, Forward}
use Rattle.melt_core.specs.declared.answer.Refusal.{Refusal}
use Rattle.melt_core.specs.declared.answer.Refusal.TheVariants as refusal
use Rattle.melt_core.specs.declared.answer.Refusal.TheVariants.{Pause}
use Rattle.melt_core.specs.declared.call.Place.TheVariants.{Global}
use Rattle.melt_core.specs.declared.call.Search.{Search}
use Rattle.melt_core.specs.declared.call.Stage.{Stage}
use Rattle.melt_core.specs.declared.call.Stage.TheVariants.{HeadRead, Missed}
use Rattle.melt_rule.specs.Rule.{has_cause}
use Rattle.melt_rule.specs.declared.view.View.{View}
use Rattle.melt_epoch.specs.Fetching.{IsDamage}
use Rattle.melt_safepoint.specs.Modes.{CallsAgain, FitsMode, Waits, mode_for}
use Rattle.melt_safepoint.specs.Needs.{CanLackRoom, IsLoad}
use Rattle.melt_safepoint.specs.Run.{WasRead}
use Rattle.melt_safepoint.specs.declared.thread.Mode.TheVariants as mode
use Rattle.melt_pool.specs.Calling.{NeedsIn, RefusedFor}
use Rattle.melt_pool.specs.Programs.{EndsWell, one_going}
use Rattle.melt_pool.proofs.Waiting.{forwarded_causes, spaced_causes}
use Rattle.melt_pool.proofs.Working.{same_cause}

-- an operation that wants words can lack room
wants_room : (v w : View) (values : List Value) (o : Op) (need : ℕ) → NeedsIn v w values o need → CanLackRoom o
wants_room v w values (op.New dst refs nums) need needs = tt
wants_room v w values (op.Load dst src i) need needs = tt
wants_room v w values (op.Store obj i src) need needs = absurd needs
wants_room v w values (op.Get src j) need needs = absurd needs
wants_room v w values (op.Put obj j x) need needs = absurd needs
wants_room v w values (op.GLoad dst g) need needs = tt
wants_room v w values (op.GStore g src) need needs = absurd needs
wants_room v w values (op.Same a b) need needs = absurd needs
wants_room v w values (op.Copy dst src) need needs = absurd needs
wants_room v w values (op.Drop r) need needs = absurd needs
wants_room v w values op.Collect need needs = absurd needs

-- and looks at the stop word
wants_looks : (v w : View) (values : List Value) (o : Op) (need : ℕ) → NeedsIn v w values o need
    → LooksAtStop (value_in values) o
wants_looks v w values (op.New dst refs nums) need needs = tt
wants_looks v w values (op.Load dst src i) need needs =
    λ nothing. let wrong : Ref needs.0 ≡ Nil = sym needs.1 ∙ nothing in absurd (cc)
wants_looks v w values (op.Store obj i src) need needs = absurd needs
wants_looks v w values (op.Get src j) need needs = absurd needs
wants_looks v w values (op.Put obj j x) need needs = absurd needs
wants_looks v w values (op.GLoad dst g) need needs = tt
wants_looks v w values (op.GStore g src) need needs = absurd needs
wants_looks v w values (op.Same a b) need needs = absurd needs
wants_looks v w values (op.Copy dst src) need needs = absurd needs
wants_looks v w values (op.Drop r) need needs = absurd needs
wants_looks v w values op.Collect need needs = absurd needs

-- a load can lack room too
load_lacks : (o : Op) → IsLoad o → CanLackRoom o
load_lacks (op.New dst refs nums) loads = tt
load_lacks (op.Load dst src i) loads = tt
load_lacks (op.Store obj i src) loads = absurd loads
load_lacks (op.Get src j) loads = absurd loads
load_lacks (op.Put obj j x) loads = absurd loads
load_lacks (op.GLoad dst g) loads = tt
load_lacks (op.GStore g src) loads = absurd loads
load_lacks (op.Same a b) loads = absurd loads
load_lacks (op.Copy dst src) loads = absurd loads
load_lacks (op.Drop r) loads = absurd loads
load_lacks op.Collect loads = absurd loads

module _ (told : Bool) (image : Option (List ℕ)) (scions : Scions) (end before after : ℕ) (v w : View)
    (values : List Value) (o : Op) where
  pub refused_thread : (why : Refusal) → RefusedFor told image scions end before after v w values o why
      → w.thread ≡ v.thread
  refused_thread (Pause Asked) because = because.0.thread
  refused_thread (Pause (Space need)) because = because.0.thread
  refused_thread (Pause Forward) because = because.0.thread
  refused_thread refusal.DiskFault because = because.0.thread
  refused_thread (refusal.Damaged damaged) because = because.0.thread

  -- a seat that had no cause to stop has one only where its thread waits for it
  pub refused_waits : (why : Refusal) → RefusedFor told image scions end before after v w values o why
      → (has_cause v ≡ true → ⊥) → has_cause w ≡ true → Waits (mode_for why)
  refused_waits (Pause Asked) because free cause = absurd (free (sym (same_cause v w because.0) ∙ cause))
  refused_waits (Pause (Space need)) because free cause = tt
  refused_waits (Pause Forward) because free cause = tt
  refused_waits refusal.DiskFault because free cause = absurd (free (sym (same_cause v w because.0) ∙ cause))
  refused_waits (refusal.Damaged damaged) because free cause = absurd (free (sym (same_cause v w because.0) ∙ cause))

  -- one that waits has a cause
  pub refused_caused : (why : Refusal) → RefusedFor told image scions end before after v w values o why
      → Waits (mode_for why) → has_cause w ≡ true
  refused_caused (Pause Asked) because waits = absurd waits
  refused_caused (Pause (Space need)) because waits =
      spaced_causes w.asked w.spaced w.forwarded because.0.spaced
  refused_caused (Pause Forward) because waits =
      forwarded_causes w.asked w.spaced w.forwarded because.0.forwarded
  refused_caused refusal.DiskFault because waits = absurd waits
  refused_caused (refusal.Damaged damaged) because waits = absurd waits

  pub refused_asked : (why : Refusal) → RefusedFor told image scions end before after v w values o why
      → mode_for why ≡ mode.Asked → w.stopped ≡ true
  refused_asked (Pause Asked) because is = because.1
  refused_asked (Pause (Space need)) because is = absurd (cc)
  refused_asked (Pause Forward) because is = absurd (cc)
  refused_asked refusal.DiskFault because is = absurd (cc)
  refused_asked (refusal.Damaged damaged) because is = absurd (cc)

  -- the stage of a call that reads the record of the home
  abbrev search_of : ℕ → Search
  search_of home = record { place = Global 0; home = home; tried = 0; dst = 0 }

  -- a record that is damaged was read
  was_read : (home : ℕ) (damaged : Damaged) (config : Config) → home < end → end ≤ config.disk
      → IsDamage image scions end home damaged → WasRead config damaged.home damaged.at damaged.word
  was_read home damaged config below within (inl head) =
      let stage : Option Stage = Some (Missed (search_of home)) in
      let breaks : Breaks scions end stage head.words damaged = head.breaks in
      let home_is : damaged.home ≡ home = elim head.breaks [
        | inl form ↦ form.home_is
        | inr dead ↦ ap (λ (d : Damaged). d.home) dead.is
      ] in
      record {
        end = end;
        within = within;
        below = subst (λ (h : ℕ). h < end) (sym home_is) below;
        scions = scions;
        stage = stage;
        words = head.words;
        breaks = breaks;
      }
  was_read home damaged config below within (inr rest) =
      let stage : Option Stage = Some (HeadRead (search_of home) rest.shape) in
      let breaks : Breaks scions end stage rest.rest.words damaged = rest.rest.breaks in
      record {
        end = end;
        within = within;
        below = subst (λ (h : ℕ). h < end) (sym rest.rest.breaks.home_is) below;
        scions = scions;
        stage = stage;
        words = rest.rest.words;
        breaks = breaks;
      }

  -- a count that rose in this call is no less than 1
  some_fault : before ≤ after → Rose before after → 1 ≤ after
  some_fault grows rose = elim (cases_lt before 18446744073709551615) [
    | inl below ↦ let more : before < after = rose below in omega (arith, more)
    | inr at_end ↦ omega (arith, at_end, grows)
  ]

  -- why the thread has ended, if it has
  pub refused_ends : (why : Refusal) (script : Script) (t count : ℕ) → before ≤ after
      → slice_get (operations script t) count ≡ Some o
      → RefusedFor told image scions end before after v w values o why
      → EndsWell told end script t count after (mode_for why)
  refused_ends (Pause Asked) script t count grows next because = tt
  refused_ends (Pause (Space need)) script t count grows next because = tt
  refused_ends (Pause Forward) script t count grows next because = tt
  refused_ends refusal.DiskFault script t count grows next because =
      (record { op = o; next = next; loads = because.1 }, some_fault grows because.2)
  refused_ends (refusal.Damaged damaged) script t count grows next because = (
    because.2,
    record { op = o; next = next; loads = because.1 },
    λ config within. was_read because.3.0 damaged config because.3.1 within because.3.2,
  )

  -- what the mode after it says of its operation
  fits_some : (why : Refusal) → o ≢ Collect → RefusedFor told image scions end before after v w values o why
      → FitsMode (mode_for why) (Some o)
  fits_some (Pause Asked) other because =
      (refl, λ is. other (let same : Some o ≡ Some Collect = is in cc))
  fits_some (Pause (Space need)) other because =
      (refl, λ is. other (let same : Some o ≡ Some Collect = is in cc), wants_room v w values o need because.1)
  fits_some (Pause Forward) other because =
      (refl, λ is. other (let same : Some o ≡ Some Collect = is in cc), load_lacks o because.1)
  fits_some refusal.DiskFault other because = tt
  fits_some (refusal.Damaged damaged) other because = tt

  pub refused_fits : (why : Refusal) (next : Option Op) → next ≡ Some o → o ≢ Collect
      → RefusedFor told image scions end before after v w values o why → FitsMode (mode_for why) next
  refused_fits why next is other because = subst (FitsMode (mode_for why)) (sym is) (fits_some why other because)

  -- and how the thread that makes the call again comes by it
  looks_some : (why : Refusal) → RefusedFor told image scions end before after v w values o why
      → CallsAgain (mode_for why) → LooksAtStop (value_in values) o
  looks_some (Pause Asked) because again = because.2
  looks_some (Pause (Space need)) because again = wants_looks v w values o need because.1
  looks_some (Pause Forward) because again = because.2
  looks_some refusal.DiskFault because again = absurd again
  looks_some (refusal.Damaged damaged) because again = absurd again

  pub refused_looks : (why : Refusal) (next : Option Op) → next ≡ Some o
      → RefusedFor told image scions end before after v w values o why → CallsAgain (mode_for why)
      → IfSome next (LooksAtStop (value_in values))
  refused_looks why next is because again =
      subst (λ (x : Option Op). IfSome x (LooksAtStop (value_in values))) (sym is) (looks_some why because again)

-- a thread whose call was refused makes no other
pub refused_stops : (why : Refusal) → one_going (mode_for why) ≡ 0
refused_stops (Pause Asked) = refl
refused_stops (Pause (Space need)) = refl
refused_stops (Pause Forward) = refl
refused_stops refusal.DiskFault = refl
refused_stops (refusal.Damaged damaged) = refl
