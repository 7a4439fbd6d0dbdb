use Rattle.std.proofs.Common.{◌≡◌, ◌<◌, ◌+◌, ◌-◌, [], ◌∷◌, ◌++◌, refl, arith}
use Rattle.std.proofs.lemmas.Result.{on_ok_weaker}
use Rattle.melt_gen.specs.Workloads.{highest, tree_round, way}
use Rattle.melt_gen.proofs.Branches.{leaf_round}
use Rattle.melt_gen.proofs.Writing.{written_after, same_lines}
use Rattle.melt_gen.proofs.programs.push_object.Goals as goal

pub returns : goal.returns
returns c =
    let n = c.args.k + 1 in
    let some : 0 < c.args.k = omega arith in
    let start = c.args.items.now.items in
    let root = c.gload.result ∷ [] in
    let down = written_after start _ _ root (way n (highest n - 1)) c.in_ok-push_way.ensures c.in_ok-push_all.ensures in
    let ops = c.new-2.result ∷ c.put-2.result ∷ c.store.result ∷ [] in
    let same : (root ++ way n (highest n - 1)) ++ ops ≡ tree_round c.args.thread c.args.word c.args.k =
    rw (
      leaf_round c.args.thread c.args.word c.args.k some,
      c.gload.ensures,
      c.new-2.ensures,
      c.put-2.ensures,
      c.store.ensures,
    ) refl in
    on_ok_weaker c.push_all-3.result
    (λ e. same_lines _ start ((root ++ way n (highest n - 1)) ++ ops) _ same
    (written_after start _ _ (root ++ way n (highest n - 1)) ops e down))
    c.push_all-3.ensures
