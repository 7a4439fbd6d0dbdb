use Rattle.std.proofs.Common.{◌≡◌, ◌+◌, ◌≤◌, length}
use Rattle.melt_scion.specs.HomeNames.{home_name}
use Rattle.melt_scion.specs.Names.{name_at}
use Rattle.melt_move.specs.NamedHomes.{home_at}
use Rattle.melt_move.proofs.Naming.{NamesFirst}
use Rattle.melt_move.proofs.commit.name_each.Given as goal

abbrev pub invariant-loop-g : goal.invariant-loop-g
invariant-loop-g g l = record {
  home_is : l.home ≡ home_at l.homes l.g-index;
  names : NamesFirst l.homes l.g-index (name_at l.addresses) (home_name l.fn.names) (home_name l.names);
  spare : length l.homes.given.items ≤ l.names.spare + l.g-index;
  visits : l.steps ≤ l.fn.steps + l.g-index;
}
