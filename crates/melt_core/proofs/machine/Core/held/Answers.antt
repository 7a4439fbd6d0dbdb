use Rattle.std.proofs.Common.{refl, sym}
use Rattle.melt_core.specs.Views.{view}
use Rattle.melt_core.proofs.machine.Core.held.Goals as goal

pub held_words-requires : goal.held_words-requires
held_words-requires c = record {
  shown = view c.args.self.now;
  space_is = refl;
  held_is = sym c.deref.ensures.value;
  sound = c.requires;
}

pub returns : goal.returns
returns c = λ disk stands.
    c.held_words.ensures (view c.args.self.now) refl (sym c.deref.ensures.value) disk stands
