use Rattle.std.proofs.Common.{refl}
use Rattle.melt_copy_tests.proofs.heaps.heap_of.Goals as goal

pub returns : goal.returns
returns c = record {
  space = c.in_ok-space.ensures;
  scions = c.in_ok-scions.ensures.empty;
  globals_are = c.in_ok-globals.ensures;
  forward_are = c.in_ok-forward.ensures;
  homes = c.new-homes.result;
  no_homes = c.new-homes.ensures.names;
  names = refl;
}
