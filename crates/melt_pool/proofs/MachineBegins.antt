-- A run of real threads whose mutators are ready may go through an epoch.
use Rattle.std.proofs.Common.{◌≡◌, ℕ, ◌<◌, ◌≤◌, List, length, refl, sym, ◌∙◌, ap, subst, arith, inl, inr}
use Rattle.std.proofs.lemmas.Option.{slice_get_within}
use Rattle.std.specs.Prelude.{Bool, true, IfSome, None, Option, Some}
use Rattle.melt_model.specs.declared.config.Config.{Config}
use Rattle.melt_model.specs.declared.history.Entry.{Entry}
use Rattle.melt_trace.specs.Script.{Script}
use Rattle.melt_scion.specs.declared.heap.Heap.{Heap}
use Rattle.melt_scion.specs.declared.registers.Registers.{Registers}
use Rattle.melt_core.specs.StaleBits.{sight}
use Rattle.melt_core.specs.Views.{Standing, stage_in}
use Rattle.melt_core.proofs.StaleBitsTying.{tied_first, tied_tells}
use Rattle.melt_rule.specs.declared.began.Began.{Began}
use Rattle.melt_epoch.specs.declared.mutator.Mutator.{Mutator}
use Rattle.melt_safepoint.specs.Collections.{NoneForwarded}
use Rattle.melt_safepoint.specs.Epochs.{MayRunEpoch, RunsEpoch, SomeMayRun, to_do}
use Rattle.melt_safepoint.specs.Passing.{WaitsForRoom}
use Rattle.melt_safepoint.specs.Rows.{Row, StandsBut}
use Rattle.melt_safepoint.specs.Shown.{Shown}
use Rattle.melt_safepoint.specs.declared.collector.Collector.{Collector}
use Rattle.melt_safepoint.specs.declared.thread.ThreadState.{ThreadState}
use Rattle.melt_pool.specs.Beginning.{IsAtRest, start_of}
use Rattle.melt_pool.specs.Epochs.{AllRest}
use Rattle.melt_pool.specs.Firsts.{LacksAt}
use Rattle.melt_pool.specs.Machines.{AreArmed, machine_row}
use Rattle.melt_pool.specs.Parts.{IsNameless, parts_view}
use Rattle.melt_pool.specs.Workers.{image_of}
use Rattle.melt_pool.specs.declared.worker.Worker.{Worker}
use Rattle.melt_pool.proofs.AtRest.{at_rest}
use Rattle.melt_pool.proofs.RunsEpoch.{MayBegin, if_some, may_begin}
use Rattle.melt_pool.proofs.ThreadsPassed.{stands_there}
use Rattle.melt_pool.proofs.ThreadsRest.{armed_at, threads_rest}

-- no forwarding word is filled
pub may_settled : (told : Bool) (script : Script) (config : Config) (shown : Shown) (first : Option ℕ) (run : Row)
    → MayRunEpoch told script config shown first run → NoneForwarded run.view
may_settled told script config shown None run may = may.1
may_settled told script config shown (Some t) run may = may.1.collected.none_forwarded

-- the thread that is to be the first lacks room
first_waits : (told : Bool) (script : Script) (config : Config) (shown : Shown) (first : Option ℕ) (run : Row)
    → MayRunEpoch told script config shown first run → {t : ℕ} → first ≡ Some t → WaitsForRoom run.states t
first_waits told script config shown None run may {t} is = absurd (let no : None ≡ Some t = is in cc)
first_waits told script config shown (Some u) run may {t} is =
    let same : u ≡ t = let both : Some u ≡ Some t = is in cc in
    subst (WaitsForRoom run.states) same may.1.waits

-- where there is no thread, an epoch changes nothing
pub none_runs : (shown : Shown) (first : Option ℕ) (run : Row) → length run.states ≡ 0 → SomeMayRun shown first run
    → RunsEpoch shown first run run
none_runs shown first run none some =
    let no_first : (t : ℕ) → first ≡ Some t → ⊥ = λ t is.
    let below = (may_begin some.0 some.1 some.2 shown first run some.3).there t is in omega (arith, below, none) in
    record {
      keeps = λ told script config may.
          let begin : MayBegin told script config shown first run = may_begin told script config shown first run may in
          elim begin.for [
            | inl paid ↦ subst (λ (u : ℕ). StandsBut u told script config shown run) paid begin.stands
            | inr it ↦ absurd (no_first it.0 it.1)
          ];
      bits = λ told script config may is.
          let stands : StandsBut _ told script config shown run =
          (may_begin told script config shown first run may).stands in
          let standing : Standing true stands.disk run.view =
          subst (λ (c : Bool). Standing c stands.disk run.view) is stands.table.stands in
          tied_tells (sight run.view) (sight run.view) ((standing.holds.tells refl).one_address)
          (λ t. ap stage_in (stands.quiet t)) (tied_first (sight run.view) (λ t. ap stage_in (stands.quiet t)));
      rests = record {
        waits = λ t s at. absurd (let below = slice_get_within run.states t s at in omega (arith, below, none));
        asked = λ t s at. absurd (let below = slice_get_within run.states t s at in omega (arith, below, none));
      };
      less = omega arith;
      first_less = if_some first (λ t. to_do run.states < to_do run.states) (λ t is. absurd (no_first t is));
      collector = refl;
    }

-- there are as many threads as there are registers of them
pub begins_many : (shown : Shown) (first : Option ℕ) (run : Row) → SomeMayRun shown first run
    → length run.states ≡ length run.view.held
begins_many shown first run some =
    let begin : MayBegin some.0 some.1 some.2 shown first run =
    may_begin some.0 some.1 some.2 shown first run some.3 in
    begin.stands.table.count ∙ sym begin.stands.table.threads

module _ {R : Type 0} (image : R → Option (List ℕ)) (faults : R → ℕ) (shown : Shown) (first : Option ℕ) (told : Bool)
    (heap : Heap) (h : List Entry) (registers : List Registers) (states : List ThreadState) (collector : Collector)
    (room every : ℕ) (ms : List (Mutator (Worker R))) (nameless : IsNameless heap)
    (armed : AreArmed image faults shown.image (parts_view heap h registers) states registers ms)
    (some : 1 ≤ length ms) (may : SomeMayRun shown first
    (machine_row heap h registers states collector room every told))
  where
    abbrev row : Row
    row = machine_row heap h registers states collector room every told

    abbrev b : Began
    b = (start_of (image_of image) told heap h shown.end ms).began

    begin : MayBegin may.0 may.1 may.2 shown first row
    begin = may_begin may.0 may.1 may.2 shown first row may.3

    -- it is at rest
    pub begins_at_rest : IsAtRest (image_of image) told heap h shown.end ms
    begins_at_rest =
        subst (λ (t : Bool). IsAtRest (image_of image) t heap h shown.end ms) (sym begin.stands.told_is)
        (at_rest h begin.stands refl (may_settled may.0 may.1 may.2 shown first row may.3) nameless armed some)

    -- and so are its threads
    pub begins_threads : (script : Script) × AllRest script b ms
    begins_threads = (
      may.1,
      threads_rest may.0 may.1 may.2 begin.stands.disk row.view states image faults shown.image registers ms b
          begin.stands.told_is refl begin.stands.table armed begin.stands.table.globals,
    )

    -- the first of them lacks room
    pub begins_first : IfSome first (LacksAt ms)
    begins_first = if_some first (LacksAt ms) (λ t is.
        let waits : WaitsForRoom states t = first_waits may.0 may.1 may.2 shown first row may.3 is in
        let below = slice_get_within states t waits.0 waits.1 in
        let m = stands_there ms t (omega (arith, below, armed.count)) in
        let ready = armed_at may.0 may.1 may.2 begin.stands.disk row.view states image faults shown.image registers ms b
        begin.stands.told_is refl begin.stands.table armed t waits.0 m.0 waits.1 m.1 in
        (m.0, m.1, record { state = waits.0; brings = ready.1.brings; lacks = waits.2 }))
