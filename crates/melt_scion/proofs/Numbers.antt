-- Lists of numbers: one more put somewhere, and what is after a number.
use Rattle.std.proofs.Common.{◌≡◌, ◌≢◌, ℕ, ◌+◌, Bool, List, [], ◌∷◌, ◌++◌}
use Rattle.std.proofs.Common.{length, refl, sym, ◌∙◌, ap, subst, arith, length-append}
use Rattle.std.specs.Prelude.{if◌then◌else◌}
use Rattle.std.specs.List.{Contains}
use Rattle.std.proofs.lemmas.List.Elements.{Contains-append_right}
pub use Rattle.melt_links.proofs.Numbers.{contains_none, contains_here, contains_more, contains_cases, once_none}
pub use Rattle.melt_links.proofs.Numbers.{once_more, once_rest, once_first, same_test, other_test, IsSplit, split_at}
use Rattle.melt_scion.specs.Scions.{EachOnce, IsPutIn, next_after, first_of}

pub put_first : (x : ℕ) (xs : List ℕ) → IsPutIn x xs (x ∷ xs)
put_first x xs = record { front = []; back = xs; less_is = refl; more_is = refl }

pub put_length : (x : ℕ) (less more : List ℕ) → IsPutIn x less more → length more ≡ length less + 1
put_length x less more put =
    let a = ap length put.less_is ∙ length-append put.front put.back in
    let b = ap length put.more_is ∙ length-append put.front (x ∷ put.back) in
    omega (arith, a, b)

-- what stands after a number is what begins the part after it
pub after_split : (x : ℕ) (front back : List ℕ) → EachOnce (front ++ x ∷ back)
    → next_after (front ++ x ∷ back) x ≡ first_of back
after_split x [] back once =
    ap (λ (b : Bool). if b then first_of back else next_after back x) (same_test x)
after_split x (y ∷ front) back once =
    let rest : List ℕ = front ++ x ∷ back in
    let differ : y ≢ x = λ e. once_first y rest once
    (subst (Contains rest) (sym e) (Contains-append_right front (x ∷ back) x (contains_here x back))) in
    ap (λ (b : Bool). if b then first_of rest else next_after rest x) (other_test y x differ)
    ∙ after_split x front back (once_rest y rest once)
