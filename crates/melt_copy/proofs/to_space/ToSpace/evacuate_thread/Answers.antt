use Rattle.std.proofs.Common.{◌+◌, List, ℕ, sym, ◌∙◌, ap, subst, arith}
use Rattle.std.specs.Prelude.{slice_index, slice_set}
use Rattle.std.proofs.lemmas.List.{get_or_past, set-get_or}
use Rattle.melt_space.specs.Space.{SpaceWords}
use Rattle.melt_copy.specs.declared.to_space.ToSpace.{ToSpace}
use Rattle.melt_copy.proofs.Gathered.{ThreadSoFar, register_found, register_empty, all_registers}
use Rattle.melt_copy.proofs.to_space.ToSpace.evacuate_thread.Goals as goal
use Rattle.melt_copy.proofs.to_space.ToSpace.evacuate_thread.Goals.{then-address-ne0, else-address-ne0}

pub loop-address-preserved : goal.loop-address-preserved
loop-address-preserved g c =
    let register = slice_index c.args.registers.now.regs in
    let items = c.loop-address.address-items in
    let n = c.loop-address.address-index in
    elim c.if-address-ne0.branch [
      | then-address-ne0 w ↦
          let after : ThreadSoFar c.args.space.now w.evacuate.new.space c.args.self.now w.evacuate.new.self register
          (slice_set items n w.evacuate.result) (n + 1) =
          register_found c.loop-address.invariant.so_far (omega arith) w.if-address-ne0.true
          (omega (arith, w.evacuate.ensures.found))
          w.evacuate.ensures.place w.evacuate.ensures.more w.evacuate.ensures.only w.evacuate.ensures.evacuates
          c.requires in
          record {
            so_far =
                subst (λ (l : List ℕ). ThreadSoFar c.args.space.now c.if-address-ne0.space c.args.self.now
                c.if-address-ne0.self register l (n + 1)) (sym w.address-items-is)
                (subst (λ (s : SpaceWords). ThreadSoFar c.args.space.now s c.args.self.now c.if-address-ne0.self register
                (slice_set items n w.evacuate.result) (n + 1)) (sym w.space-is)
                (subst (λ (t : ToSpace). ThreadSoFar c.args.space.now w.evacuate.new.space c.args.self.now t register
                (slice_set items n w.evacuate.result) (n + 1)) (sym w.self-is) after));
            visits =
                let size = ap (λ (t : ToSpace). t.next) w.self-is in
                omega (arith, c.loop-address.invariant.visits, c.tick.ensures, w.evacuate.ensures.visits, w.steps-is, size);
          }
      | else-address-ne0 w ↦
          let after : ThreadSoFar c.args.space.now c.loop-address.space c.args.self.now c.loop-address.self register
          items (n + 1) = register_empty c.loop-address.invariant.so_far w.if-address-ne0.false c.requires in
          record {
            so_far =
                subst (λ (l : List ℕ). ThreadSoFar c.args.space.now c.if-address-ne0.space c.args.self.now
                c.if-address-ne0.self register l (n + 1)) (sym (w.address-items-is ∙ set-get_or items n 0))
                (subst (λ (s : SpaceWords). ThreadSoFar c.args.space.now s c.args.self.now c.if-address-ne0.self register
                items (n + 1)) (sym w.space-is)
                (subst (λ (t : ToSpace). ThreadSoFar c.args.space.now c.loop-address.space c.args.self.now t register
                items (n + 1)) (sym w.self-is) after));
            visits =
                let size = ap (λ (t : ToSpace). t.next) w.self-is in
                omega (arith, c.loop-address.invariant.visits, c.tick.ensures, w.steps-is, size);
          }
    ]

pub returns-clause-moves : goal.returns-clause-moves
returns-clause-moves g c = all_registers c.loop-address.invariant.so_far
    (λ r later. get_or_past c.args.registers.now.regs r 0 (omega (arith, later))) c.requires
