use Rattle.std.proofs.Common.{◌+◌, sym, ◌∙◌, ap, subst, arith}
use Rattle.melt_space.specs.Space.{SpaceWords}
use Rattle.melt_scion.specs.Scions.{Scions, EachOnce}
use Rattle.melt_copy.specs.declared.to_space.ToSpace.{ToSpace}
use Rattle.melt_copy.specs.Evacuating.{place_of}
use Rattle.melt_copy.proofs.Gathered.{ScionsSoFar, scion_place, scion_found, scion_none, all_scions}
use Rattle.melt_copy.proofs.Walking.{moved_all}
use Rattle.melt_copy.proofs.to_space.ToSpace.evacuate_scions.Goals as goal
use Rattle.melt_copy.proofs.to_space.ToSpace.evacuate_scions.Goals.{in-Some, in_default}

pub evacuate-requires : goal.evacuate-requires
evacuate-requires g c = (
  c.requires.scions.0,
  0,
  scion_place c.loop-scion.invariant.so_far (subst EachOnce (sym c.requires.live) c.requires.table.live_once)
      (omega arith) (c.in-Some.field-0-0, c.in-Some.address) (sym c.get.ensures.pair ∙ c.in-Some.is)
      c.requires.scions.0 c.requires.scions.1,
)

pub loop-scion-preserved : goal.loop-scion-preserved
loop-scion-preserved g c =
    let old = c.args.scions.now in
    let live = c.args.live.now in
    let n = c.loop-scion.scion-index in
    let before = c.loop-scion.invariant.so_far in
    let once : EachOnce live = subst EachOnce (sym c.requires.live) c.requires.table.live_once in
    elim c.match-get.branch [
      | in-Some w ↦
          let after : ScionsSoFar c.args.space.now w.evacuate.new.space c.args.self.now w.evacuate.new.self old
          w.set_address.new.self live (n + 1) =
          scion_found before once (omega arith) w.set_address.new.self (w.in-Some.field-0-0, w.in-Some.address)
          (sym c.get.ensures.pair ∙ w.in-Some.is) (omega (arith, w.evacuate.ensures.found)) w.evacuate.ensures.place
          w.evacuate.ensures.more w.evacuate.ensures.evacuates w.set_address.ensures.sets w.set_address.ensures.table in
          record {
            so_far =
                subst (λ (table : Scions). ScionsSoFar c.args.space.now c.match-get.space c.args.self.now
                c.match-get.self old table live (n + 1)) (sym w.scions-is)
                (subst (λ (s : SpaceWords). ScionsSoFar c.args.space.now s c.args.self.now c.match-get.self old
                w.set_address.new.self live (n + 1)) (sym w.space-is)
                (subst (λ (t : ToSpace). ScionsSoFar c.args.space.now w.evacuate.new.space c.args.self.now t old
                w.set_address.new.self live (n + 1)) (sym w.self-is) after));
            visits =
                let size = ap (λ (t : ToSpace). t.next) w.self-is in
                omega (arith, c.loop-scion.invariant.visits, c.tick.ensures, w.evacuate.ensures.visits, w.steps-is, size);
          }
      | in_default w ↦
          let after : ScionsSoFar c.args.space.now c.loop-scion.space c.args.self.now c.loop-scion.self old
          c.loop-scion.scions live (n + 1) =
          scion_none before once (omega arith) (sym c.get.ensures.pair ∙ w.in_default.is) in
          record {
            so_far =
                subst (λ (table : Scions). ScionsSoFar c.args.space.now c.match-get.space c.args.self.now
                c.match-get.self old table live (n + 1)) (sym w.scions-is)
                (subst (λ (s : SpaceWords). ScionsSoFar c.args.space.now s c.args.self.now c.match-get.self old
                c.loop-scion.scions live (n + 1)) (sym w.space-is)
                (subst (λ (t : ToSpace). ScionsSoFar c.args.space.now c.loop-scion.space c.args.self.now t old
                c.loop-scion.scions live (n + 1)) (sym w.self-is) after));
            visits =
                let size = ap (λ (t : ToSpace). t.next) w.self-is in
                omega (arith, c.loop-scion.invariant.visits, c.tick.ensures, w.steps-is, size);
          }
    ]

pub returns-clause-moves : goal.returns-clause-moves
returns-clause-moves g c =
    moved_all (place_of c.loop-scion.self.moves) c.args.scions.now c.loop-scion.scions c.args.live.now
    c.loop-scion.scion-index c.requires.table c.requires.live (omega arith) c.loop-scion.invariant.so_far.moved

pub returns-clause-finds : goal.returns-clause-finds
returns-clause-finds g c =
    all_scions c.loop-scion.invariant.so_far c.requires.table c.requires.live (omega arith)
