-- What a run shows has the words and the registers that are counted.
use Rattle.std.proofs.Common.{refl, sym}
use Rattle.melt_core.specs.Views.{View}
use Rattle.melt_pool.specs.Machines.{parallel_view}
use Rattle.melt_pool.proofs.parallel.ParallelMachine.held.Goals as goal

pub held_words-requires : goal.held_words-requires
held_words-requires g c = record {
  shown = parallel_view c.args.self.now;
  space_is = refl;
  held_is = sym c.deref.ensures.value;
  sound = c.requires.sound;
}

pub returns : goal.returns
returns g c =
    let v : View = parallel_view c.args.self.now in
    record { held = λ disk stands. c.held_words.ensures v refl (sym c.deref.ensures.value) disk stands }
