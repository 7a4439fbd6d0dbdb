-- Words that are put after others.
use Rattle.std.proofs.Common.{◌≡◌, ℕ, ◌+◌, ◌≤◌, List, ◌++◌, length, take, ap, ◌∙◌, length-append}
use Rattle.std.proofs.lemmas.List.{length-take-le}

-- the first words were put after others
pub length_front : (old words new : List ℕ) (k : ℕ) → new ≡ old ++ take k words → k ≤ length words
    → length new ≡ length old + k
length_front old words new k is within =
    ap length is ∙ (length-append old (take k words)
    ∙ ap (λ (n : ℕ). length old + n) (length-take-le k words within))
