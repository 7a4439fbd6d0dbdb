use Rattle.std.proofs.Common.{◌≡◌, ◌-◌, ℕ, ◌∷◌, ◌++◌, ◌∙◌, map, ap, sym, arith}
use Rattle.melt_trace.specs.declared.script.Item.TheVariants as item
use Rattle.melt_gen.specs.Workloads.{highest, way}
use Rattle.melt_gen.proofs.Branches.{highest_is, way_step}
use Rattle.melt_gen.proofs.Writing.{first_written}
use Rattle.melt_gen.proofs.programs.push_way.Goals as goal

pub loop-place-init : goal.loop-place-init
loop-place-init c =
    let n = c.args.n in
    let top : highest n ≡ c.ilog2-place.result =
    highest_is n _ c.ilog2-place.ensures.bound c.ilog2-place.ensures.power_le c.ilog2-place.ensures.next_power_gt in
    record {
      small = omega (arith, c.ilog2-place.ensures.bound);
      items = ap (λ (i : ℕ). c.args.items.now.items ++ map item.Op (way n (i - 1))) (sym top);
    }

pub loop-place-preserved : goal.loop-place-preserved
loop-place-preserved c =
    let n = c.args.n in
    let place = c.loop-place.place in
    let all : way n place ≡ c.load.result ∷ way n (place - 1) = way_step n place c.loop-place-test.true
    ∙ ap (λ o. o ∷ way n (place - 1)) (sym c.load.ensures) in
    record {
      small = omega (arith, c.loop-place.invariant.small);
      items = first_written _ _ c.load.result (way n (place - 1)) (way n place) c.in_ok-push_all.ensures all
          ∙ c.loop-place.invariant.items;
    }
