use Rattle.std.proofs.Common.{◌≡◌, ℕ, suc, ◌+◌, arith, ◌∙◌, ap, refl}
use Rattle.std.specs.Prelude.{slice_index_or, take}
use Rattle.melt_move.specs.Plans.{need_for}
use Rattle.melt_word.specs.Words.{cost_of}
use Rattle.melt_move.specs.declared.homes.Given.{Given}
use Rattle.melt_move.proofs.Elements.{read_at}
use Rattle.melt_move.proofs.Naming.{need-next}
use Rattle.melt_move.proofs.Needs.{need-front}
use Rattle.melt_move.proofs.Nothing.{when_ok}
use Rattle.melt_move.proofs.collect.reserve_homes.Goals as goal

pub loop-g-preserved : goal.loop-g-preserved
loop-g-preserved g c =
    let given = c.args.given.now in
    let i = c.loop-g.g-index in
    let is : Given = slice_index_or given i (record { from = 0; shape = record { refs = 0; nums = 0 } }) in
    let at = read_at given given i (record { from = 0; shape = record { refs = 0; nums = 0 } }) refl
    c.loop-g-test.true in
    let front = need-front given i is at in
    let before = c.loop-g.invariant in
    let raised : c.reserve_home-home.new.self.end ≡ c.loop-g.disk.end + cost_of is.shape =
    when_ok c.reserve_home-home.result _ c.reserve_home-home.ensures.raised (λ refused.
    let above = c.reserve_home-home.ensures.full.0 refused in
    omega (arith, above, before.end, before.limit, front, c.requires.room)) in
    record {
      end =
          (let end = before.end in
          let next : need_for (take (i + 1) given) ≡ need_for (take i given) + cost_of is.shape =
          (let same : i + 1 ≡ suc i = omega arith in ap (λ (n : ℕ). need_for (take n given)) same)
          ∙ need-next given i is at in
          omega (arith, raised, end, next));
      limit = c.reserve_home-home.ensures.limit ∙ before.limit;
      same_disk = c.reserve_home-home.ensures.same_disk ∙ before.same_disk;
      disk = c.reserve_home-home.ensures.disk ∙ before.disk;
      visits = omega (arith, before.visits, c.tick.ensures);
    }
