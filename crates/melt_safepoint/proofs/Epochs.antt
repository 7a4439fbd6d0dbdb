-- What an epoch comes to, told of the run before a part that went well.
use Rattle.std.proofs.Common.{◌≡◌, ℕ, ◌≤◌, List, sym, ap, subst, arith, inl, inr, Bool, refl}
use Rattle.std.specs.Prelude.{Option, None, Some, slice_get}
use Rattle.melt_model.specs.declared.config.Config.{Config}
use Rattle.melt_trace.specs.Script.{Script}
use Rattle.melt_safepoint.specs.Collections.{NoneForwarded}
use Rattle.melt_safepoint.specs.Epochs.{EndsEpoch, GoesOnFrom, RestsWell, RunsEpoch, to_do}
use Rattle.melt_safepoint.specs.Modes.{IsEnded, MayGo, Waits}
use Rattle.melt_safepoint.specs.Passing.{NoneOwn, OneWaits}
use Rattle.melt_safepoint.specs.Rows.{Row, RunStands, journal_of}
use Rattle.melt_safepoint.specs.Shown.{Shown}
use Rattle.melt_safepoint.specs.Threads.{AllEnded, SomeGoesOn}
use Rattle.melt_safepoint.specs.declared.collector.Collector.{Collector}
use Rattle.melt_safepoint.specs.declared.thread.Mode.{Mode}
use Rattle.melt_safepoint.specs.declared.thread.Mode.TheVariants.{Running, Due, Silent, Collecting, Asked, Lacking}
use Rattle.melt_safepoint.specs.declared.thread.Mode.TheVariants.{Ended}
use Rattle.melt_safepoint.specs.declared.thread.ThreadState.{ThreadState}
use Rattle.melt_safepoint.proofs.ToDo.{all_done, done_at}

-- one that has ended cannot go on
ended_stays : (m : Mode) → IsEnded m → MayGo m → ⊥
ended_stays Running over goes = over
ended_stays Due over goes = over
ended_stays Silent over goes = over
ended_stays Collecting over goes = over
ended_stays Asked over goes = over
ended_stays Lacking over goes = over
ended_stays (Ended e) over goes = goes

-- nor was it asked to stop
ended_unasked : (m : Mode) → IsEnded m → m ≡ Asked → ⊥
ended_unasked m over is = subst IsEnded is over

-- threads that have all ended rest
pub ended_rests : (states : List ThreadState) → AllEnded states → RestsWell states
ended_rests states all = record {
  waits = λ t s at goes. ended_stays s.mode (all t s at) goes;
  asked = λ t s at is. absurd (ended_unasked s.mode (all t s at) is);
}

-- a run that went on, or had nothing to go on with
pub goes_keeps : (told : Bool) (script : Script) (config : Config) (shown : Shown) (old new : Row)
    → GoesOnFrom shown old new → RunStands told script config shown old → NoneForwarded old.view → NoneOwn old.states
    → RunStands told script config shown new
goes_keeps told script config shown old new goes stands settled own = elim goes [
  | inl over ↦ subst (RunStands told script config shown) (sym over.1) stands
  | inr runs ↦ runs.keeps told script config (stands, settled, own)
]

-- after it all threads rest
pub goes_rests : (shown : Shown) (old new : Row) → GoesOnFrom shown old new → RestsWell new.states
goes_rests shown old new goes = elim goes [
  | inl over ↦ subst (λ (run : Row). RestsWell run.states) (sym over.1) (ended_rests old.states over.0)
  | inr runs ↦ runs.rests
]

-- and have no more to do than before
pub goes_less : (shown : Shown) (old new : Row) → GoesOnFrom shown old new → to_do new.states ≤ to_do old.states
goes_less shown old new goes = elim goes [
  | inl over ↦ omega (arith, ap (λ (run : Row). to_do run.states) over.1)
  | inr runs ↦ runs.less
]

-- those that had ended have ended still
pub goes_ended : (shown : Shown) (old new : Row) → GoesOnFrom shown old new → AllEnded old.states → AllEnded new.states
goes_ended shown old new goes all = λ t s at.
    done_at new.states t s (omega (arith, goes_less shown old new goes, all_done old.states all)) at

-- no collection was made
pub goes_journal : (shown : Shown) (old new : Row) → GoesOnFrom shown old new → journal_of new ≡ journal_of old
goes_journal shown old new goes = elim goes [
  | inl over ↦ ap journal_of over.1
  | inr runs ↦ ap (λ (c : Collector). c.journal.items) runs.collector
]

-- an epoch that began with no call lacks nothing
pub runs_on : (shown : Shown) (old new : Row) (lacks : Option ℕ) → EndsEpoch shown None old new lacks
    → RunsEpoch shown None old new
runs_on shown old new None ends = ends
runs_on shown old new (Some need) ends = absurd ends

-- a thread that can not go on waits, or was asked to stop as another waits
waits_by : (states : List ThreadState) → RestsWell states → (t : ℕ) (s : ThreadState) (mode : Mode)
    → slice_get states t ≡ Some s → s.mode ≡ mode → (MayGo mode → ⊥) → (IsEnded mode → ⊥) → OneWaits states
waits_by states rests t s Running at is stays goes = absurd (stays tt)
waits_by states rests t s Due at is stays goes = absurd (stays tt)
waits_by states rests t s Silent at is stays goes = (t, (s, at, subst Waits (sym is) tt))
waits_by states rests t s Collecting at is stays goes = (t, (s, at, subst Waits (sym is) tt))
waits_by states rests t s Asked at is stays goes = rests.asked t s at is
waits_by states rests t s Lacking at is stays goes = (t, (s, at, subst Waits (sym is) tt))
waits_by states rests t s (Ended e) at is stays goes = absurd (goes tt)

-- where no thread can go on, one waits, unless all have ended
pub someone_waits : (states : List ThreadState) → RestsWell states → SomeGoesOn states → OneWaits states
someone_waits states rests some =
    waits_by states rests some.0 some.1.0 some.1.0.mode some.1.1 refl (rests.waits some.0 some.1.0 some.1.1) some.1.2
