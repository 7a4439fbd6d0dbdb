use contract.BorrowLft.{⊑_meet, ⊑_static}
use Rattle.std.proofs.Common.{[], sym, subst, lives}
use Rattle.melt_rule.specs.declared.began.Start.{Start}
use Rattle.melt_epoch.specs.Ends.{HeapBegins, HistoryBegins, MutatorsBegin}
use Rattle.melt_pool.proofs.Beginning.{heap_begins, history_begins, mutators_begin}
use Rattle.melt_pool.proofs.rest.start_from.Goals as goal

pub pick-requires : goal.pick-requires
pick-requires g c κs within =
    let κ = κs.1.1.0 in
    let none = ⊑_static κ in
    let reader = ⊑_meet κ g.row.Q.lives [] within.1.0 none in
    let mutator = ⊑_meet κ _ _ reader (⊑_meet κ _ _ (⊑_meet κ _ _ reader (⊑_meet κ _ _ reader none)) none) in
    let mutators = ⊑_meet κ _ _ (⊑_meet κ κs.1.1.1.1.0 _ within.0.1.0 mutator) none in
    let both = ⊑_meet κ _ _ (⊑_meet κ κs.1.1.1.0 [] within.0.0 none) mutators in
    (search lives, ⊑_meet κ _ _ both both)

pub returns : goal.returns
returns g c =
    let image = g.Q.RecordReader.image in
    let p = c.args.paused.now in
    let ms = c.args.mutators.now in
    let same = sym c.pick.ensures in
    record {
      start = c.pick.ensures;
      heap = subst (λ (s : Start). HeapBegins s.began p.heap p.end) same
          (heap_begins image p.told p.heap p.pass p.end ms c.requires.rest);
      history = subst (λ (s : Start). HistoryBegins s p.heap p.pass) same
          (history_begins image p.told p.heap p.pass p.end ms c.requires.rest);
      mutators = subst (λ (s : Start). MutatorsBegin image s ms) same
          (mutators_begin image p.told p.heap p.pass p.end ms c.requires.rest);
    }
