-- The digits of a number, one by one.
use Rattle.std.proofs.Common.{◌≡◌, ℕ, ◌+◌, ◌*◌, ◌/◌, ◌%◌, ◌^◌, ◌<◌, List, [], ◌∷◌, ◌++◌, sym, ap, ◌∙◌}
use Rattle.std.proofs.Common.{append_assoc, arith}
use Rattle.std.specs.Fmt.{decimal}
use Rattle.std.proofs.lemmas.Fmt.{decimal_digit, decimal_step}

-- one digit stands in front
pub spelled_one : (d : ℕ) (bytes rest : List ℕ) → d < 10 → bytes ≡ (48 + d) ∷ rest → bytes ≡ decimal d ++ rest
spelled_one d bytes rest lt is = is ∙ ap (λ (ds : List ℕ). ds ++ rest) (sym (decimal_digit d lt))

-- a digit after a number other than 0 makes a number of both
decimal_more : (n d : ℕ) → 0 < n → d < 10 → 10 * n + d < 2 ^ 64 → decimal (10 * n + d) ≡ decimal n ++ (48 + d) ∷ []
decimal_more n d some lt fits =
    let front : (10 * n + d) / 10 ≡ n = omega arith in
    let last : (10 * n + d) % 10 ≡ d = omega arith in
    decimal_step (10 * n + d) (omega arith) fits ∙ ap (λ (k : ℕ). decimal k ++ (48 + (10 * n + d) % 10) ∷ []) front
    ∙ ap (λ (k : ℕ). decimal n ++ (48 + k) ∷ []) last

-- a number and a digit that go together
pub record IsNext (n d : ℕ) : Type 0 where
  pub some : 0 < n
  pub low : d < 10
  pub fits : 10 * n + d < 2 ^ 64

pub spelled_more : (n d : ℕ) (bytes rest : List ℕ) → IsNext n d → bytes ≡ (48 + d) ∷ rest
    → decimal n ++ bytes ≡ decimal (10 * n + d) ++ rest
spelled_more n d bytes rest next is =
    ap (λ (ds : List ℕ). decimal n ++ ds) is ∙ sym (ap (λ (ds : List ℕ). ds ++ rest)
    (decimal_more n d next.some next.low next.fits) ∙ append_assoc (decimal n) ((48 + d) ∷ []) rest)
