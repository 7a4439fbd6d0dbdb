-- Sums of replies.
use Rattle.std.proofs.Common.{◌≡◌, ℕ, ◌+◌, ◌%◌, ◌^◌, List, [], ◌∷◌, ◌++◌, sym, ◌∙◌, ap}
use Rattle.std.proofs.Math.Nat.{mod-add-mod}
use Rattle.std.proofs.lemmas.List.Sums.{sum_by_push}
use Rattle.std.specs.List.{sum_by}
use Rattle.melt_model.specs.declared.operations.Reply.{Reply}
use Rattle.melt_top.specs.Text.{number_in}

-- one reply more, in a sum modulo 2^64
pub one_more_reply : (replies : List Reply) (reply : Reply) (total : ℕ) → total ≡ sum_by number_in replies % 2 ^ 64
    → (total + number_in reply) % 2 ^ 64 ≡ sum_by number_in (replies ++ reply ∷ []) % 2 ^ 64
one_more_reply replies reply total is =
    ap (λ (n : ℕ). (n + number_in reply) % 2 ^ 64) is
    ∙ mod-add-mod (sum_by number_in replies) (2 ^ 64) (number_in reply)
    ∙ ap (λ (n : ℕ). n % 2 ^ 64) (sym (sum_by_push number_in replies reply))
