-- The call is made, or lacks words.
use Rattle.std.proofs.Common.{◌≡◌, ℕ, true, false, refl, ◌∙◌, subst}
use Rattle.std.specs.Vec.{with_item}
use Rattle.melt_core.specs.Views.{View, view}
use Rattle.melt_core.proofs.Disks.{stands_untold}
use Rattle.melt_safepoint.specs.Shown.{Shown}
use Rattle.melt_safepoint.specs.Passing.{IsLacking}
use Rattle.melt_safepoint.proofs.Losses.{counts_set}
use Rattle.melt_safepoint.proofs.Lacking.{lacking_here}
use Rattle.melt_step.specs.Lone.{IsAloneReady}
use Rattle.melt_safepoint.specs.Rows.{Row, row_of}
use Rattle.melt_step.specs.Going.{MakesCall, core_view}
use Rattle.melt_step.proofs.Stored.{capacity_stores}
use Rattle.melt_step.proofs.First.{has_next, alone_ready, called_by, calls_first, makes_by, ties_by}
use Rattle.melt_step.proofs.epoch.call.Given.{Over}
use Rattle.melt_step.proofs.epoch.call.Goals as goal
use Rattle.melt_step.proofs.epoch.call.Goals.{After-call_alone, After-index_mut-state}

-- the state that was read is that of the thread
lacking : (g : Over) (c : After-index_mut-state g)
    → IsLacking c.args.run.now.states.items c.args.thread c.index_mut-state.result.now
lacking g c =
    lacking_here c.args.run.now.states.items c.args.thread c.index_mut-state.result.now _
    c.index_mut-state.ensures.value c.requires.awaits.3.1.3.waits

pub unreachable-requires : goal.unreachable-requires
unreachable-requires g c =
    let was = lacking g (goal.at.unreachable-requires g c).After-index_mut-state in
    let next = has_next c.requires.awaits.3.1.3.stands.table was in
    c.in_default.not-Some next.0 next.1

pub call_alone-requires : goal.call_alone-requires
call_alone-requires g c =
    let was = lacking g (goal.at.call_alone-requires g c).After-index_mut-state in
    record {
      ready = subst (λ (finish : ℕ). IsAloneReady finish (view c.args.run.now.machine.core) c.args.thread
          c.index_mut-state.result.now c.in-Some.op) c.requires.awaits.1
          (alone_ready c.in-Some.op c.requires.awaits.3.1.3 was c.in-Some.is c.requires.stop);
    }

-- the run after the call
later : (g : Over) → After-call_alone g → Row
later g c = record {
  view = view c.call_alone.new.core;
  states = (with_item c.args.run.now.states c.args.thread c.call_alone.new.state).items;
  collector = c.args.run.now.collector;
  words = c.args.run.now.words;
  every = c.args.run.now.every;
  told = c.args.run.now.told;
}

-- what the call did to it
makes : (g : Over) (c : After-call_alone g) (shown : Shown) → shown.end ≡ c.args.end
    → shown.image ≡ g.R.RecordReader.image c.args.reader.now
    → MakesCall shown (row_of core_view c.args.run.now) (later g c) c.args.thread c.call_alone.result
unfolding later
makes g c shown ends shows = record {
  s = c.index_mut-state.result.now;
  after = c.call_alone.new.state;
  op = c.in-Some.op;
  was = lacking g (goal.at.After-call_alone g c).After-index_mut-state;
  next = c.in-Some.is;
  called = called_by shown c.args.thread c.index_mut-state.result.now c.call_alone.new.state c.in-Some.op
      c.call_alone.result ends shows c.call_alone.ensures.called;
  due = c.call_alone.ensures.due;
  makes = makes_by shown c.args.end (g.R.RecordReader.image c.args.reader.now) (view c.args.run.now.machine.core)
      (view c.call_alone.new.core) ends shows c.call_alone.ensures.makes;
  ties = ties_by shown c.args.end (g.R.RecordReader.image c.args.reader.now) (view c.args.run.now.machine.core)
      (view c.call_alone.new.core) c.args.thread ends shows c.call_alone.ensures.ties;
  states = refl;
  collector = refl;
  words = refl;
  every = refl;
  told = refl;
}

pub returns-clause-called : goal.returns-clause-called
unfolding later
returns-clause-called g c = λ shown ends shows.
    let here = (goal.at.returns-clause-called g c).After-call_alone in
    calls_first c.call_alone.result c.requires.awaits.3.1
    (makes g here c.requires.awaits.0 c.requires.awaits.1 c.requires.awaits.2) (makes g here shown ends shows)

pub returns-clause-lost : goal.returns-clause-lost
returns-clause-lost g c =
    let was = lacking g (goal.at.returns-clause-lost g c).After-index_mut-state in
    counts_set c.args.run.now.states.items c.args.thread c.index_mut-state.result.now c.call_alone.new.state _ _
    was.at c.call_alone.ensures.lost

pub returns-clause-stored : goal.returns-clause-stored
returns-clause-stored g c =
    let v : View = view c.args.run.now.machine.core in
    let awaits = c.requires.awaits in
    let stands = awaits.3.1.3.stands in
    let called = c.call_alone.ensures.called false stands.disk (record {
      ends = stands.under.ends ∙ awaits.1;
      tells = λ wrong. absurd (let w : false ≡ true = wrong in cc);
    }) (stands_untold awaits.3.1.0 stands.disk v stands.table.stands) in
    capacity_stores v (view c.call_alone.new.core) called.others.capacity
