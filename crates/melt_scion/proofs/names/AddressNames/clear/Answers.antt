use Rattle.std.proofs.Common.{◌≡◌, ◌++◌, List, Bool, false, length, drop, replicate, take, subst, sym, ap, ◌∙◌, arith}
use Rattle.std.proofs.lemmas.Grind.{common_steps}
use Rattle.melt_scion.specs.Names.{names_of, Clears}
use Rattle.melt_scion.proofs.Named.{clears, long}
use Rattle.melt_scion.proofs.names.AddressNames.clear.Goals as goal

pub forget-requires : goal.forget-requires
forget-requires c =
    let size =
    long c.args.self.now c.self.inside.named.items c.self.inside.numbers.items c.self.view_is c.self.invariant in
    let is = ap length c.deref_mut.ensures.value in
    omega (arith, c.requires, size, is)

pub returns : goal.returns
returns c =
    let named = c.self.inside.named.items in
    let numbers = c.self.inside.numbers.items in
    let now : c.forget.new.named ≡ replicate c.args.last false ++ drop c.args.last named =
    c.forget.ensures ∙ ap (λ (bs : List Bool). replicate c.args.last false ++ drop c.args.last bs)
    c.deref_mut.ensures.value in
    let back : take c.self.inside.named.len
    (c.forget.new.named ++ drop (length c.forget.new.named) named) ≡ c.forget.new.named =
    grind (arith, common_steps, c.forget.auto.named, c.deref_mut.ensures.len, c.self.inside.named.ok.0) in
    let P : List Bool → Type 0 = λ bs. Clears c.args.self.now (names_of bs numbers) c.args.last in
    subst P (sym (back ∙ now)) (clears c.args.self.now named numbers c.args.last c.self.view_is c.self.invariant
    c.requires)
