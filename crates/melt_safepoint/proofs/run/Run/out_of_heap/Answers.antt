-- The thread ends, and drops its registers.
use Rattle.std.proofs.Common.{refl}
use Rattle.std.specs.Vec.{with_item}
use Rattle.melt_model.specs.declared.reports.ThreadEnd.TheVariants as end
use Rattle.melt_safepoint.specs.declared.thread.Mode.TheVariants.{Ended}
use Rattle.melt_safepoint.specs.Rows.{Row, row_of}
use Rattle.melt_safepoint.proofs.Gone.{EndsCall, gone_lost, gone_stands}
use Rattle.melt_safepoint.proofs.Lacking.{lacking_here}
use Rattle.melt_safepoint.proofs.run.Run.out_of_heap.Given.{Over}
use Rattle.melt_safepoint.proofs.run.Run.out_of_heap.Goals as goal
use Rattle.melt_safepoint.proofs.run.Run.out_of_heap.Goals.{After-drop_all}

-- the run after the end of the thread
after : (g : Over) → After-drop_all g → Row
after g c = record {
  view = g.E.Machine.view c.drop_all.new.self;
  states = (with_item c.args.self.states c.args.thread (record c.index_mut-state.result.now {
    mode = Ended (end.OutOfHeap c.held-held.result c.args.need);
  })).items;
  collector = c.args.self.collector;
  words = c.args.self.words;
  every = c.args.self.every;
  told = c.args.self.told;
}

-- how it has ended
ends : (g : Over) (c : After-drop_all g)
    → EndsCall (row_of g.E.Machine.view c.args.self) (after g c) c.args.thread c.held-held.result c.args.need
unfolding after
ends g c = record {
  s = c.index_mut-state.result.now;
  was = lacking_here c.args.self.states.items c.args.thread c.index_mut-state.result.now _
      c.index_mut-state.ensures.value c.requires.lacks.1.1.3.waits;
  holds = c.held-held.ensures.held;
  drops = c.drop_all.ensures.dropped;
  states = refl;
  collector = refl;
  words = refl;
  every = refl;
  told = refl;
}

pub returns-clause-keeps : goal.returns-clause-keeps
unfolding after
returns-clause-keeps g c = λ shown told script config forced lacks no_room. gone_stands lacks no_room (ends g c)

pub returns-clause-gone : goal.returns-clause-gone
unfolding after
returns-clause-gone g c =
    let e = ends g c in record {
      s = e.s;
      held = c.held-held.result;
      was = e.was;
      drops = e.drops;
      states = e.states;
      collector = e.collector;
    }

pub returns-clause-lost : goal.returns-clause-lost
unfolding after
returns-clause-lost g c = gone_lost (ends g c)
