-- Laws of the words that speak of bytes which may not be told.
use Rattle.std.proofs.Common.{◌≡◌, ℕ, ◌+◌, List, [], ◌++◌, length, ◌-◌, take, drop, length-append, Option, None}
use Rattle.std.proofs.Common.{Some, append_assoc, sym, ◌∙◌, ap, subst, refl, arith, IfSome}
use Rattle.std.proofs.lemmas.List.{append-nil}
use Rattle.std.proofs.Math.Seq.{take-add, drop-append_seam, drop-append-add}
use Rattle.melt_io.proofs.Fronts.{take-rest}
use Rattle.melt_io.specs.Outside.{Appends, TakesFront}
use Rattle.melt_io.specs.Whole.{TakesCount}

-- a piece, and then another one
pub Appends-append : (old mid new : Option (List ℕ)) (first second : List ℕ) → Appends old first mid
    → Appends mid second new → Appends old (first ++ second) new
Appends-append None None None first second one two = tt
Appends-append None None (Some new) first second one two = elim two [ ]
Appends-append None (Some mid) new first second one two = elim one [ ]
Appends-append (Some old) None new first second one two = elim one [ ]
Appends-append (Some old) (Some mid) None first second one two = elim two [ ]
Appends-append (Some old) (Some mid) (Some new) first second one two =
    two ∙ ap (λ bytes. bytes ++ second) one ∙ append_assoc old first second

-- the next n bytes after the first `at`
pub Appends-take : (old mid new : Option (List ℕ)) (bytes : List ℕ) (at n : ℕ) → Appends old (take at bytes) mid
    → Appends mid (take n (take (length bytes - at) (drop at bytes))) new → Appends old (take (at + n) bytes) new
Appends-take old mid new bytes at n one two =
    rw (take-add at n bytes) (Appends-append old mid new (take at bytes) (take n (drop at bytes)) one
    (rw (take-rest bytes at) at two))

pub TakesFront-nothing : (left : Option (List ℕ)) → TakesFront left [] left
TakesFront-nothing None = tt
TakesFront-nothing (Some bytes) = refl

-- a front, and then another one
pub TakesFront-append : (old mid new : Option (List ℕ)) (first second : List ℕ) → TakesFront old first mid
    → TakesFront mid second new → TakesFront old (first ++ second) new
TakesFront-append None None None first second one two = tt
TakesFront-append None None (Some new) first second one two = elim two [ ]
TakesFront-append None (Some mid) new first second one two = elim one [ ]
TakesFront-append (Some old) None new first second one two = elim one [ ]
TakesFront-append (Some old) (Some mid) None first second one two = elim two [ ]
TakesFront-append (Some old) (Some mid) (Some new) first second one two =
    one ∙ ap (λ bytes. first ++ bytes) two ∙ sym (append_assoc first second new)

-- A front with nothing after it is all.
pub TakesFront-all : (old left : Option (List ℕ)) (front : List ℕ) → TakesFront old front left
    → IfSome left (λ bytes. bytes ≡ []) → IfSome old (λ bytes. front ≡ bytes)
TakesFront-all None None front taken ended = tt
TakesFront-all None (Some left) front taken ended = elim taken [ ]
TakesFront-all (Some old) None front taken ended = elim taken [ ]
TakesFront-all (Some old) (Some left) front taken ended =
    sym (taken ∙ ap (λ bytes. front ++ bytes) ended ∙ append-nil front)

-- A front of n bytes takes n bytes.
pub TakesCount-front : (old new : Option (List ℕ)) (front : List ℕ) (n : ℕ) → length front ≡ n
    → TakesFront old front new → TakesCount old n new
TakesCount-front None None front n e taken = tt
TakesCount-front None (Some new) front n e taken = elim taken [ ]
TakesCount-front (Some old) None front n e taken = elim taken [ ]
TakesCount-front (Some old) (Some new) front n e taken =
    let whole : length old ≡ length front + length new = ap length taken ∙ length-append front new in (
      omega arith,
      sym (ap (λ m. drop m old) (sym e) ∙ ap (λ bytes. drop (length front) bytes) taken
          ∙ drop-append_seam front new),
    )

-- A front, and then one of which the bytes are not named.
pub TakesFront-on : (old mid new : Option (List ℕ)) (first after : List ℕ) → TakesFront old first mid
    → (second : List ℕ) × (after ≡ first ++ second) × TakesFront mid second new → TakesFront old after new
TakesFront-on old mid new first after one (second, e, two) =
    let P : List ℕ → Type 0 = λ bytes. TakesFront old bytes new in
    subst P (sym e) (TakesFront-append old mid new first second one two)

-- a front, and then a count of bytes
pub TakesCount-after : (old mid new : Option (List ℕ)) (front : List ℕ) (n : ℕ) → TakesFront old front mid
    → TakesCount mid n new → TakesCount old (length front + n) new
TakesCount-after None None None front n one two = tt
TakesCount-after None None (Some new) front n one two = elim two [ ]
TakesCount-after None (Some mid) new front n one two = elim one [ ]
TakesCount-after (Some old) None new front n one two = elim one [ ]
TakesCount-after (Some old) (Some mid) None front n one two = elim two [ ]
TakesCount-after (Some old) (Some mid) (Some new) front n one (fits, e) =
    let whole : length old ≡ length front + length mid = ap length one ∙ length-append front mid in
    (omega arith, sym (ap (λ bytes. drop (length front + n) bytes) one ∙ drop-append-add front mid n ∙ sym e))
