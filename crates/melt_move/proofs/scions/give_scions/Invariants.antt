use Rattle.std.proofs.Common.{◌≡◌, ℕ, ◌+◌, ◌≤◌, take}
use Rattle.melt_scion.specs.Heaps.{Shows}
use Rattle.melt_copy.specs.Settling.{RisesBy}
use Rattle.melt_move.specs.KeptDisk.{KeepsDisk}
use Rattle.melt_move.specs.GivenScions.{WritesStubs, given_count}
use Rattle.melt_move.proofs.GivingScions.{HaveFirst}
use Rattle.melt_move.proofs.scions.give_scions.Given as goal

abbrev pub invariant-loop-m : goal.invariant-loop-m
invariant-loop-m g l = record {
  scions : HaveFirst l.decision.homes l.decision.choice.stay.moves.items l.m-index l.fn.heap l.heap;
  written : (image : ℕ → ℕ) → Shows (g.D.StaleDisk.image l.fn.disk.disk.now) image → (after : ℕ → ℕ)
      × Shows (g.D.StaleDisk.image l.disk.disk.now) after
      × WritesStubs l.decision.homes (take l.m-index l.decision.choice.stay.moves.items) l.heap l.fn.disk.end image
      after;
  stubs : l.stubs ≡ given_count l.decision.homes (take l.m-index l.decision.choice.stay.moves.items);
  writes : RisesBy l.stubs (g.D.StaleDisk.writes l.fn.disk.disk.now) (g.D.StaleDisk.writes l.disk.disk.now);
  keeps : KeepsDisk g.D.StaleDisk.image g.D.StaleDisk.faults g.D.StaleDisk.read_faults g.D.StaleDisk.lends
      l.fn.disk l.disk;
  end : l.disk.end ≡ l.fn.disk.end;
  visits : l.steps ≤ l.fn.steps + l.m-index;
}
