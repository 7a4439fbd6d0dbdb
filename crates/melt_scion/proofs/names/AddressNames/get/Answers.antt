use Rattle.std.proofs.Common.{◌≡◌, ◌∙◌, Bool, List, true, false, slice_index_or, ap, sym, arith}
use Rattle.std.proofs.lemmas.Grind.{common_steps}
use Rattle.melt_scion.proofs.Named.{found, missed}
use Rattle.melt_scion.proofs.names.AddressNames.get.Goals as goal

pub returns-then-is_named : goal.returns-then-is_named
returns-then-is_named c =
    let named = c.self.inside.named.items in
    let is : slice_index_or named c.in_ok-index.index false ≡ true =
    ap (λ (bs : List Bool). slice_index_or bs c.in_ok-index.index false) (sym c.deref.ensures.value)
    ∙ (sym c.is_named.ensures ∙ c.if-is_named.true) in
    found c.args.self.now named c.self.inside.numbers.items c.args.address c.in_ok-index.index c.self.view_is
    c.self.invariant (grind (arith, common_steps, c.checked_sub.ensures, c.in_ok-index.was)) is c.index.result.now
    c.index.ensures

pub returns-else-is_named : goal.returns-else-is_named
returns-else-is_named c =
    let named = c.self.inside.named.items in
    let is : slice_index_or named c.in_ok-index.index false ≡ false =
    ap (λ (bs : List Bool). slice_index_or bs c.in_ok-index.index false) (sym c.deref.ensures.value)
    ∙ (sym c.is_named.ensures ∙ c.if-is_named.false) in
    missed c.args.self.now named c.self.inside.numbers.items c.args.address c.in_ok-index.index c.self.view_is
    c.self.invariant (grind (arith, common_steps, c.checked_sub.ensures, c.in_ok-index.was)) is
