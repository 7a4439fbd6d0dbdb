-- The parts of a safepoint, and of a run, one after the other.
use Rattle.std.proofs.Common.{◌≡◌, ◌≢◌, ℕ, zero, suc, ◌-◌, ◌^◌, ◌<◌, ◌≤◌, Bool, true, false, List, length}
use Rattle.std.proofs.Common.{refl, sym, subst, arith, inl, inr}
use Rattle.std.proofs.lemmas.Bool.{cases_lt}
use Rattle.melt_io.specs.Outside.{Rose}
use Rattle.melt_model.specs.declared.config.Config.{Config}
use Rattle.melt_trace.specs.Script.{Script}
use Rattle.melt_safepoint.specs.declared.thread.ThreadState.{ThreadState}
use Rattle.melt_safepoint.specs.Threads.{AllWait, OweAfterCollects, SomeGoesOn}
use Rattle.melt_safepoint.specs.Passing.{WaitsForRoom, CollectedAll, NoneOwn, OneWaits}
use Rattle.melt_safepoint.specs.Shown.{Shown}
use Rattle.melt_safepoint.specs.Losses.{CountsLosses}
use Rattle.melt_safepoint.proofs.Counting.{counts_more, overs_less}
use Rattle.melt_safepoint.proofs.AtSafepoint.{rests_all}
use Rattle.melt_safepoint.proofs.Losses.{counts_then}
use Rattle.melt_safepoint.proofs.Journals.{may_owe}
use Rattle.melt_safepoint.specs.declared.ending.Stop.{Stop}
use Rattle.melt_safepoint.specs.declared.ending.Stop.TheVariants.{NoMemory, Halted}
use Rattle.melt_safepoint.specs.Rows.{AwaitsCall, JustCollected, KeepsRest, KeepsRun, MakesCollection, MakesPlanned}
use Rattle.melt_safepoint.specs.Rows.{RestsSo, Row, RunRests, RunStands, StandsBut, StopCounts, StopsBut, StopsForced}
use Rattle.melt_safepoint.specs.Rows.{StopsRest, StopsRun}
use Rattle.melt_safepoint.specs.Makes.{if_none_was}
use Rattle.melt_safepoint.proofs.Collected.{just_collected, just_made, planned_one, stands_collected}
use Rattle.melt_safepoint.proofs.MakingAgain.{owe_after}
use Rattle.melt_safepoint.proofs.Safepoints.{none_own}

-- a count that has risen since then, has risen since before
pub rose_since : (a b c : ℕ) → a ≤ b → b ≤ c → Rose b c → Rose a c
rose_since a b c first second rose below = elim (cases_lt b (2 ^ 64 - 1)) [
  | inl more ↦ let up : b < c = rose more in omega (arith, first, up)
  | inr full ↦ omega (arith, below, full, second)
]

-- what was counted where a run was stopped, from before the part that ended well
pub stop_counts_then : (stop : Stop) {states mid : List ThreadState} (a b c : ℕ) {x y : ℕ} (z : ℕ) → a ≤ b → b ≤ c
    → CountsLosses states mid x y → StopCounts stop mid b c y z → StopCounts stop states a c x z
stop_counts_then NoMemory {states} {mid} a b c {x} {y} z first second lost counts = tt
stop_counts_then (Halted ended) {states} {mid} a b c {x} {y} z first second lost counts = (
  λ is. rose_since a b c first second (counts.0 is),
  counts_then states mid ended.states.items x y z lost counts.1,
)

-- a run that stood on, and was stopped then
pub stops_then : (shown mid later : Shown) (old run : Row) (stop : Stop) → KeepsRun shown mid old run
    → StopsRun mid later run stop → StopsRun shown later old stop
stops_then shown mid later old run stop keeps stops told script config stands =
    stops told script config (keeps told script config stands)

-- and so at a safepoint
pub stops_there : (shown mid later : Shown) (old run : Row) (stop : Stop) → KeepsRest shown mid old run
    → StopsRun mid later run stop → StopsRest shown later old stop
stops_there shown mid later old run stop keeps stops told script config rests =
    stops told script config (keeps told script config rests).0

-- a collection that is not forced
pub stops_planned : (shown later : Shown) (run : Row) (stop : Stop) → OneWaits run.states
    → StopsForced false shown later run stop → StopsRun shown later run stop
stops_planned shown later run stop waits stops told script config stands =
    stops told script config ((0, stands), λ is. absurd (let wrong : false ≡ true = is in cc), waits)

-- a run at the beginning of a safepoint is at one
pub begins_rest : {told : Bool} {script : Script} {config : Config} {shown : Shown} {run : Row} → AllWait run.states
    → RunStands told script config shown run → RunRests told script config shown run
begins_rest waits stands = (stands, λ tells. rests_all waits (stands.moments tells))

-- one that was stopped after it
pub stops_rest : (shown later : Shown) (run : Row) (stop : Stop) → AllWait run.states
    → StopsRest shown later run stop → StopsRun shown later run stop
stops_rest shown later run stop waits stops told script config stands =
    stops told script config (begins_rest waits stands)

-- and where nothing is unpaid
pub stops_paid : (shown later : Shown) (run : Row) (stop : Stop) → SomeGoesOn run.states
    → StopsBut shown later run stop → StopsRun shown later run stop
stops_paid shown later run stop some stops told script config stands = stops told script config ((0, stands), some)

-- a run at a safepoint, where so many collections are unpaid
abbrev pub RestsBut : ℕ → Bool → Script → Config → Shown → Row → Type 0
RestsBut unpaid told script config shown run =
    StandsBut unpaid told script config shown run × RestsSo told script config run

-- a run stands after a collection that was planned, which is still to be paid for
planned_keeps : {shown later : Shown} {old new : Row} → MakesCollection false shown later old new
    → SomeGoesOn old.states → (told : Bool) (script : Script) (config : Config) → RunRests told script config shown old
    → RestsBut 1 told script config later new
planned_keeps {old} made some told script config (stands, rests) = (
  stands_collected stands rests made (λ is. absurd (let wrong : false ≡ true = is in cc))
      (may_owe 0 old.states some.0 some.1.0 (omega arith) some.1.1 some.1.2),
  λ tells. (just_made stands rests made tells).rest,
)

-- and so where none was made
same_keeps : (shown : Shown) (run : Row) → SomeGoesOn run.states → (told : Bool) (script : Script)
    (config : Config) → RunRests told script config shown run → RestsBut 1 told script config shown run
same_keeps shown run some told script config (stands, rests) = (
  record {
    disk = stands.disk;
    under = stands.under;
    none_free = stands.none_free;
    table = stands.table;
    quiet = stands.quiet;
    words = stands.words;
    every = stands.every;
    told_is = stands.told_is;
    collector = stands.collector;
    moments = stands.moments;
    made = stands.made;
    counts = counts_more script config run.states (length run.collector.journal.items)
        (overs_less run.states some.0 some.1.0 some.1.1 some.1.2) stands.counts;
  },
  rests,
)

-- How a run stands before the call that is made first: after a collection, with the threads as all collections left
-- them.
pub record BeforeCall (due : ℕ) (shown later : Shown) (mid run : Row) : Type 0 where
  pub keeps : (told : Bool) (script : Script) (config : Config) → RunRests told script config shown mid
      → RestsBut 1 told script config later run
  pub states : run.states ≡ mid.states
  pub just : JustCollected run
  pub planned : MakesPlanned (if_none_was due) shown mid run

-- none is made where there was one
some_was : (due : ℕ) → due ≢ 0 → if_none_was due ≡ 0
some_was zero was = absurd (was refl)
some_was (suc n) was = refl

-- as one more collection is made
pub before_made : (due : ℕ) (shown later : Shown) (mid run : Row) → due ≡ 0
    → MakesCollection false shown later mid run → SomeGoesOn mid.states → BeforeCall due shown later mid run
before_made due shown later mid run none made some = record {
  keeps = planned_keeps made some;
  states = made.states;
  just = just_collected false shown later mid run made;
  planned = subst (λ (n : ℕ). MakesPlanned (if_none_was n) shown mid run) (sym none) (λ told script config rests.
      planned_one rests.0 made);
}

-- or as there was one already
pub before_same : (due : ℕ) (shown : Shown) (run : Row) → due ≢ 0 → JustCollected run → SomeGoesOn run.states
    → BeforeCall due shown shown run run
before_same due shown run was just some = record {
  keeps = same_keeps shown run some;
  states = refl;
  just = just;
  planned = subst (λ (n : ℕ). MakesPlanned n shown run run) (sym (some_was due was))
      (λ told script config stands. refl);
}

-- a thread that lacks room may make its call then
pub awaits_call : {due : ℕ} {shown mid_shown later : Shown} {old mid run : Row} (t : ℕ)
    → KeepsRest shown mid_shown old mid → AllWait old.states → CollectedAll old.states mid.states
    → BeforeCall due mid_shown later mid run → WaitsForRoom mid.states t → (told : Bool) (script : Script)
    (config : Config) → RunRests told script config shown old → AwaitsCall told script config later 0 run t
awaits_call {old} {mid} t keeps waits all before lacks told script config rests = record {
  stands = (before.keeps told script config (keeps told script config rests)).0;
  safe = (before.keeps told script config (keeps told script config rests)).1;
  few = omega arith;
  owed = subst (OweAfterCollects script) (sym before.states)
      (owe_after rests.0.table waits all);
  collected = before.just;
  own = subst NoneOwn (sym before.states) (none_own old.states mid.states all);
  waits = subst (λ (states : List ThreadState). WaitsForRoom states t) (sym before.states) lacks;
  left = λ is. tt;
}

-- the same run over what is seen the same
pub keeps_same : (first shown later : Shown) (old run next : Row) → later ≡ shown → next ≡ run
    → KeepsRun first shown old run → KeepsRun first later old next
keeps_same first shown later old run next seen same keeps told script config stands =
    subst (λ (x : Row). RunStands told script config later x) (sym same)
    (subst (λ (x : Shown). RunStands told script config x run) (sym seen) (keeps told script config stands))
