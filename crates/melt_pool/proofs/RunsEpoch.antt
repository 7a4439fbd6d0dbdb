-- A run of real threads stands after an epoch.
use Rattle.std.proofs.Common.{◌≡◌, ◌⊎◌, ℕ, suc, ◌<◌, ◌≤◌, true, List, [], ◌++◌, length, refl, sym, ◌∙◌, subst, arith}
use Rattle.std.proofs.Common.{inl, inr}
use Rattle.std.proofs.lemmas.Option.{slice_get_within}
use Rattle.std.specs.Prelude.{Bool, IfSome, None, Option, Some}
use Rattle.melt_model.specs.declared.config.Config.{Config}
use Rattle.melt_model.specs.declared.history.Entry.{Entry}
use Rattle.melt_trace.specs.Script.{Script}
use Rattle.melt_scion.specs.Heaps.{OnDisk}
use Rattle.melt_scion.specs.declared.heap.Heap.{Heap}
use Rattle.melt_scion.specs.declared.registers.Registers.{Registers}
use Rattle.melt_core.specs.Made.{KeepsMade}
use Rattle.melt_core.specs.StaleBits.{BitsTold, sight}
use Rattle.melt_core.specs.Views.{Standing}
use Rattle.melt_rule.specs.declared.began.Began.{Began}
use Rattle.melt_epoch.specs.declared.mutator.Mutator.{Mutator}
use Rattle.melt_safepoint.specs.Collections.{MadeSoFar}
use Rattle.melt_safepoint.specs.Counts.{CountsCollections}
use Rattle.melt_safepoint.specs.Endings.{TiedMoments}
use Rattle.melt_safepoint.proofs.Staying.{one_address, tied_grown}
use Rattle.melt_safepoint.specs.Epochs.{MayRunEpoch, RestsWell, RunsEpoch, SomeMayRun, to_do}
use Rattle.melt_safepoint.specs.Rows.{CollectorStands, Row, RunStands, StandsBut}
use Rattle.melt_safepoint.specs.Shown.{Shown, Underlies}
use Rattle.melt_safepoint.specs.Tables.{TableStands}
use Rattle.melt_safepoint.specs.declared.collector.Collector.{Collector}
use Rattle.melt_pool.specs.Epochs.{HasPassed}
use Rattle.melt_pool.specs.Machines.{AreArmed, AreDisarmed}
use Rattle.melt_pool.specs.declared.worker.Worker.{Worker}
use Rattle.melt_pool.proofs.ThreadsPassed as threads
use Rattle.melt_pool.proofs.ThreadsPassed.{ShowsAfter}

-- A run that may begin an epoch stands, where so many collections are unpaid: none, or those for the call that is made
-- first.
pub record MayBegin (told : Bool) (script : Script) (config : Config) (shown : Shown) (first : Option ℕ) (run : Row)
    : Type 0 where
  pub unpaid : ℕ
  pub stands : StandsBut unpaid told script config shown run
  pub few : unpaid ≤ 3
  pub for : (unpaid ≡ 0) ⊎ ((t : ℕ) × (first ≡ Some t))
  pub there : (t : ℕ) → first ≡ Some t → t < length run.states

pub may_begin : (told : Bool) (script : Script) (config : Config) (shown : Shown) (first : Option ℕ) (run : Row)
    → MayRunEpoch told script config shown first run → MayBegin told script config shown first run
may_begin told script config shown None run may = record {
  unpaid = 0;
  stands = may.0;
  few = omega arith;
  for = inl refl;
  there = λ t is. absurd (let no : None ≡ Some t = is in cc);
}
may_begin told script config shown (Some u) run may = record {
  unpaid = suc may.0;
  stands = may.1.stands;
  few = (let few : may.0 ≤ 2 = may.1.few in omega (arith, few));
  for = inr (u, refl);
  there = λ t is.
      let below : u < length run.states = slice_get_within run.states u may.1.waits.0 may.1.waits.1 in
      let same : u ≡ t = let both : Some u ≡ Some t = is in cc in
      omega (arith, below, same);
}

-- what is so of each that is there is so if one is
pub if_some : (first : Option ℕ) (P : ℕ → Type 0) → ((t : ℕ) → first ≡ Some t → P t) → IfSome first P
if_some None P each = tt
if_some (Some t) P each = each t refl

-- What an epoch leaves of a run but its threads: over each disk over which it stood before it shows, over some disk,
-- this history with the values of these mutators. Whatever words were made meanwhile are in use, and what became of
-- stale bits is told.
pub record LeavesRun {R : Type 0} (shown : Shown) (old new : Row) (h : List Entry) (ns : List (Mutator (Worker R)))
    : Type 0 where
  pub shows : (disk : OnDisk) → Underlies old.told shown.end shown.image disk → disk.free_homes ≡ []
      → Standing old.told disk old.view → (later : OnDisk) × Underlies old.told shown.end shown.image later
      × (later.free_homes ≡ []) × ShowsAfter old.told later old.view new.view h ns
  pub made : old.told ≡ true → (disk : OnDisk) → Standing true disk old.view → KeepsMade old.view new.view
  pub bits : old.told ≡ true → BitsTold (sight old.view) (sight new.view)
  pub words : new.words ≡ old.words
  pub every : new.every ≡ old.every
  pub told : new.told ≡ old.told
  pub collector : new.collector ≡ old.collector

module _ {R : Type 0} (image : R → Option (List ℕ)) (faults : R → ℕ) (words : Option (List ℕ)) (shown : Shown)
    (first : Option ℕ) (old new : Row) (registers : List Registers) (ms : List (Mutator (Worker R))) (b : Began)
    (is_told : b.told ≡ old.told) (history : b.history ≡ old.view.log)
    (as_many : b.globals ≡ length old.view.globals)
    (armed : AreArmed image faults words old.view old.states registers ms) (finish : ℕ) (ends : shown.end ≡ finish)
    (ns : List (Mutator (Worker R))) (heap : Heap) (h : List Entry)
    (passed : HasPassed faults finish old.every first b ms ns heap h) (registers_after : List Registers)
    (ms_after : List (Mutator (Worker R))) (disarmed : AreDisarmed ns new.states registers_after ms_after)
    (leaves : LeavesRun shown old new h ns) where
  module _ (script : Script) (config : Config) (may : MayBegin old.told script config shown first old) where
    abbrev table : TableStands old.told script config may.stands.disk old.view old.states
    table = may.stands.table

    globals : b.globals ≡ script.globals
    globals = as_many ∙ table.globals

    pub no_more : to_do new.states ≤ to_do old.states
    no_more =
        threads.passed_less old.told script config may.stands.disk old.view old.states image faults words registers ms b
        is_told history table armed globals finish old.every first ns heap h passed new.states registers_after ms_after
        disarmed

    pub less_first : (t : ℕ) → first ≡ Some t → to_do new.states < to_do old.states
    less_first t is =
        threads.passed_first_less old.told script config may.stands.disk old.view old.states image faults words
        registers ms b is_told history table armed globals finish old.every first ns heap h passed new.states
        registers_after ms_after disarmed t is (may.there t is)

    pub rests_well : RestsWell new.states
    rests_well =
        threads.passed_rests old.told script config may.stands.disk old.view old.states image faults words registers ms
        b is_told history table armed globals finish old.every first ns heap h passed new.states registers_after
        ms_after disarmed

    -- all that was unpaid is paid
    counts : CountsCollections script config 0 new.states (length old.collector.journal.items)
    counts = elim may.for [
      | inl none ↦
          threads.passed_counts old.told script config may.stands.disk old.view old.states image faults words registers
          ms b is_told history table armed globals finish old.every first ns heap h passed new.states registers_after
          ms_after disarmed may.stands.every (length old.collector.journal.items)
          (subst (λ (n : ℕ). CountsCollections script config n old.states (length old.collector.journal.items)) none
          may.stands.counts)
      | inr call ↦
          threads.passed_paid old.told script config may.stands.disk old.view old.states image faults words registers
          ms b is_told history table armed globals finish old.every first ns heap h passed new.states registers_after
          ms_after disarmed may.stands.every call.0 call.1 (may.there call.0 call.1) may.unpaid
          (length old.collector.journal.items) may.few may.stands.counts
    ]

    -- the run stands
    pub stands_after : RunStands old.told script config shown new
    stands_after =
        let stands : StandsBut may.unpaid old.told script config shown old = may.stands in
        let shows : (later : OnDisk) × Underlies old.told shown.end shown.image later
        × (later.free_homes ≡ []) × ShowsAfter old.told later old.view new.view h ns =
        leaves.shows stands.disk stands.under stands.none_free table.stands in
        let within : finish ≤ config.disk =
        subst (λ (n : ℕ). n ≤ config.disk) ends stands.collector.within in
        record {
          disk = shows.0;
          under = shows.1;
          none_free = shows.2;
          table =
              threads.passed_table old.told script config stands.disk old.view old.states image faults words registers
              ms b is_told history table armed globals finish old.every first ns heap h passed new.states
              registers_after ms_after disarmed shows.0 new.view shows.3 within stands.every;
          quiet = shows.3.quiet;
          words = leaves.words ∙ stands.words;
          every = leaves.every ∙ stands.every;
          told_is = leaves.told;
          collector = subst (CollectorStands config shown) (sym leaves.collector) stands.collector;
          moments = λ tells.
              let grown : (more : List Entry) × (new.view.log ≡ old.view.log ++ more) =
              threads.passed_grown old.told script config stands.disk old.view old.states image faults words registers
              ms b is_told history table armed globals finish old.every first ns heap h passed new.states
              registers_after ms_after disarmed shows.0 new.view shows.3 within stands.every in
              subst (λ (c : Collector). TiedMoments script (sight new.view) new.states config c.journal.items)
              (sym leaves.collector)
              (tied_grown new.states grown.0 grown.1
              (one_address (subst (λ (c : Bool). Standing c shows.0 new.view) tells shows.3.stands))
              (leaves.bits tells) (stands.moments tells)
              (threads.passed_moments_shown old.told script config stands.disk old.view old.states image faults words
              registers ms b is_told history table armed globals finish old.every first ns heap h passed new.states
              registers_after ms_after disarmed shows.0 new.view shows.3 within stands.every
              old.collector.journal.items (stands.moments tells).moments (stands.moments tells).have));
          made = λ tells.
              subst (λ (c : Collector). MadeSoFar config new.view c.journal.items) (sym leaves.collector)
              (leaves.made tells stands.disk
              (subst (λ (c : Bool). Standing c stands.disk old.view) tells table.stands) _ (stands.made tells));
          counts = subst (λ (c : Collector). CountsCollections script config 0 new.states (length c.journal.items))
              (sym leaves.collector) counts;
        }

  -- a run is told or not as it knows
  begins_as : (told : Bool) (script : Script) (config : Config) → MayRunEpoch told script config shown first old
      → (old.told ≡ told) × MayBegin old.told script config shown first old
  begins_as told script config may =
      let begins : MayBegin told script config shown first old = may_begin told script config shown first old may in
      let same : old.told ≡ told = begins.stands.told_is in
      (same, subst (λ (c : Bool). MayBegin c script config shown first old) (sym same) begins)

  -- the epoch
  pub runs_epoch : SomeMayRun shown first old → RunsEpoch shown first old new
  runs_epoch some =
      let it : (old.told ≡ some.0) × MayBegin old.told some.1 some.2 shown first old =
      begins_as some.0 some.1 some.2 some.3 in
      record {
        keeps = λ told script config may.
            let that : (old.told ≡ told) × MayBegin old.told script config shown first old =
            begins_as told script config may in
            subst (λ (c : Bool). RunStands c script config shown new) that.0 (stands_after script config that.1);
        bits = λ told script config may is. leaves.bits ((begins_as told script config may).0 ∙ is);
        rests = rests_well some.1 some.2 it.1;
        less = no_more some.1 some.2 it.1;
        first_less = if_some first (λ t. to_do new.states < to_do old.states)
            (λ t is. less_first some.1 some.2 it.1 t is);
        collector = leaves.collector;
      }
