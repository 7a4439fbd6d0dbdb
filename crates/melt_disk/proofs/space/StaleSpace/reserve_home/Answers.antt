use Rattle.std.proofs.Common.{◌≡◌, ℕ, ◌+◌, ◌∷◌, [], ◌++◌, ap, subst, arith}
use Rattle.melt_word.specs.Words.{cost_of}
use Rattle.melt_disk.specs.Homes.{AreAdjacent, Home, Stale}
use Rattle.melt_disk.proofs.Reserved.{Follow-more}
use Rattle.melt_disk.proofs.space.StaleSpace.reserve_home.Goals as goal

pub returns-clause-homes : goal.returns-clause-homes
returns-clause-homes g c = λ homes are.
    let home : Home = record { at = c.self.inside.end; shape = c.args.shape } in
    let end : c.self.inside.end ≡ c.args.self.now.end =
    ap (λ (space : Stale g.row.D.Denot). space.end) c.self.view_is in
    let raised : c.args.self.now.end + cost_of c.args.shape ≡ c.self.inside.end + c.cost-need.result =
    omega (arith, end, c.cost-need.ensures) in
    subst (λ (n : ℕ). AreAdjacent 1 (homes ++ home ∷ []) n) raised
    (Follow-more homes 1 c.args.self.now.end home are end c.requires)
