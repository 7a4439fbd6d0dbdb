use Rattle.std.proofs.Common.{◌≡◌, ℕ, ◌+◌, ◌*◌, ◌≤◌, take}
use Rattle.melt_scion.specs.State.{State}
use Rattle.melt_scion.specs.Heaps.{Shows}
use Rattle.melt_copy.specs.Settling.{RisesBy}
use Rattle.melt_move.specs.KeptDisk.{KeepsDisk}
use Rattle.melt_move.specs.Bodies.{WritesBodies}
use Rattle.melt_move.specs.Plans.{IsDecision, home_by}
use Rattle.melt_move.specs.Visits.{leaving_words}
use Rattle.melt_move.proofs.bodies.write_bodies.Given as goal

abbrev pub invariant-loop-d : goal.invariant-loop-d
invariant-loop-d g l = record {
  written : (s : State) (image : ℕ → ℕ) → IsDecision l.space s l.decision
      → Shows (g.D.StaleDisk.image l.fn.disk.disk.now) image
      → (after : ℕ → ℕ) × Shows (g.D.StaleDisk.image l.disk.disk.now) after
      × WritesBodies s (home_by s.word l.decision) l.fn.disk.end l.decision.choice.leaving.items l.d-index image after;
  writes : RisesBy l.d-index (g.D.StaleDisk.writes l.fn.disk.disk.now) (g.D.StaleDisk.writes l.disk.disk.now);
  keeps : KeepsDisk g.D.StaleDisk.image g.D.StaleDisk.faults g.D.StaleDisk.read_faults g.D.StaleDisk.lends
      l.fn.disk l.disk;
  end : l.disk.end ≡ l.fn.disk.end;
  visits : l.steps ≤ l.fn.steps + 2 * leaving_words (take l.d-index l.decision.choice.leaving.items);
}
