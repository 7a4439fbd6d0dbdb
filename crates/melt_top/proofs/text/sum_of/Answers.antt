use Rattle.std.proofs.Common.{◌≡◌, ◌%◌, ◌^◌, refl, subst, rules}
use Rattle.std.specs.List.{sum_by}
use Rattle.std.proofs.lemmas.Fn.{fold_over, slice_gives, fronts}
use Rattle.melt_top.specs.Text.{number_in}
use Rattle.melt_top.proofs.Sums.{one_more_reply}
use Rattle.melt_top.proofs.text.sum_of.Goals as goal

pub returns : goal.returns
returns c = subst (λ l. c.fold.result ≡ sum_by number_in l % 2 ^ 64) c.iter.ensures.rest
    (fold_over fronts (λ y. y.now) _ (λ ys n. n ≡ sum_by number_in ys % 2 ^ 64) _
    (λ ys a x b f' j k. let more = one_more_reply ys x.now a j in search rules)
    _ _ _ _ (slice_gives c.iter.result) refl c.fold.ensures.ran)
