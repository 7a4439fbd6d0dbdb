use Rattle.std.proofs.Common.{◌≡◌, [], ◌∷◌, refl, subst, rules}
use Rattle.std.specs.List.{list_all}
use Rattle.std.proofs.lemmas.Fn.{fold_over, slice_gives, fronts}
use Rattle.std.proofs.lemmas.List.Folds.{list_all-append}
use Rattle.melt_text.specs.Lines.{is_printable}
use Rattle.melt_text.proofs.fields.is_printable_line.Goals as goal

pub returns : goal.returns
returns c = subst (λ l. c.fold.result ≡ list_all is_printable l) c.iter.ensures.rest
    (fold_over fronts (λ y. y.now) _ (λ ys all. all ≡ list_all is_printable ys) _
    (λ ys a x b f' j k. let more = list_all-append is_printable ys (x.now ∷ []) in search rules)
    _ _ _ _ (slice_gives c.iter.result) refl c.fold.ensures.ran)
