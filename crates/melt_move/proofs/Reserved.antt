-- The homes that a Move collection reserves.
use Rattle.std.proofs.Common.{◌≡◌, ◌⊎◌, inl, inr, ℕ, zero, suc, ◌+◌, List, [], ◌∷◌, ◌++◌, length, take, refl, sym, ◌∙◌}
use Rattle.std.proofs.Common.{ap, subst, arith}
use Rattle.std.specs.Prelude.{slice_get, Some}
use Rattle.std.proofs.lemmas.Bool.{cases_eq}
use Rattle.std.proofs.lemmas.Option.{same_Some, slice_get_within}
use Rattle.melt_model.proofs.Histories.{slice_get-append_left}
use Rattle.melt_word.specs.Words.{cost_of}
use Rattle.melt_word.specs.declared.header.Shape.{Shape}
use Rattle.melt_scion.specs.State.{Home, Follow, IsReserved}
use Rattle.melt_move.specs.declared.homes.Given.{Given}
use Rattle.melt_move.specs.Plans.{need_for}
use Rattle.melt_move.specs.Moved.{homes_from}
use Rattle.melt_move.proofs.Needs.{need-cons}

-- each home stands after those before it
pub home_from : (from k : ℕ) (given : List Given) (g : Given) → slice_get given k ≡ Some g
    → slice_get (homes_from from given) k ≡ Some (record { at = from + need_for (take k given); shape = g.shape })
home_from from k [] g at = absurd (cc)
home_from from zero (x ∷ given) g at =
    let same : x ≡ g = same_Some x g at in
    ap (λ (y : Given). let h : Home = record { at = from; shape = y.shape } in Some h) same
    ∙ ap (λ (n : ℕ). let h : Home = record { at = n; shape = g.shape } in Some h) (omega arith)
home_from from (suc k) (x ∷ given) g at =
    home_from (from + cost_of x.shape) k given g at
    ∙ ap (λ (n : ℕ). let h : Home = record { at = n; shape = g.shape } in Some h)
    (let more = need-cons x (take k given) in omega (arith, more))

-- what stands after others in a list
get_right : (xs ys : List Home) (i : ℕ) → slice_get (xs ++ ys) (length xs + i) ≡ slice_get ys i
get_right [] ys i = ap (slice_get ys) (omega arith)
get_right (x ∷ xs) ys i =
    ap (slice_get (x ∷ xs ++ ys)) (let n : suc (length xs) + i ≡ suc (length xs + i) = omega arith in n)
    ∙ get_right xs ys i

-- so each of them is reserved among all
pub new_reserved : (homes : List Home) (from k : ℕ) (given : List Given) (g : Given) → slice_get given k ≡ Some g
    → IsReserved (homes ++ homes_from from given) (from + need_for (take k given)) g.shape
new_reserved homes from k given g at = record {
  index = length homes + k;
  is = get_right homes (homes_from from given) k ∙ home_from from k given g at;
}

-- A given object whose home begins at the word, where the first home begins at another.
pub record BeginsAt (from : ℕ) (given : List Given) (at : ℕ) : Type 0 where
  pub index : ℕ
  pub object : Given
  pub is : slice_get given index ≡ Some object
  pub begins : from + need_for (take index given) ≡ at

-- it begins there too where one home stands before all of these
begins_later : (from at : ℕ) (g : Given) (given : List Given) → BeginsAt (from + cost_of g.shape) given at
    → BeginsAt from (g ∷ given) at
begins_later from at g given later = record {
  index = suc later.index;
  object = later.object;
  is = later.is;
  begins = omega (arith, later.begins, need-cons g (take later.index given));
}

begins_or_later : (from at : ℕ) (g x : Given) (given : List Given) (k : ℕ) → slice_get (g ∷ given) k ≡ Some x
    → from + need_for (take k (g ∷ given)) ≡ at → (from ≡ at) ⊎ BeginsAt (from + cost_of g.shape) given at
begins_or_later from at g x given zero is begins = inl (omega (arith, begins))
begins_or_later from at g x given (suc k) is begins = inr (record {
  index = k;
  object = x;
  is = is;
  begins = omega (arith, begins, need-cons g (take k given));
})

-- some home begins at the word, or none
pub begins_decided : (from at : ℕ) (given : List Given) → BeginsAt from given at ⊎ (BeginsAt from given at → ⊥)
begins_decided from at [] = inr (λ b. let is = b.is in absurd (cc))
begins_decided from at (g ∷ given) = elim (cases_eq from at) [
  | inl here ↦ inl (record { index = 0; object = g; is = refl; begins = omega (arith, here) })
  | inr there ↦ elim (begins_decided (from + cost_of g.shape) at given) [
    | inl later ↦ inl (begins_later from at g given later)
    | inr none ↦ inr (λ b. elim (begins_or_later from at g b.object given b.index b.is b.begins) [
      | inl here ↦ there here
      | inr later ↦ none later
    ])
  ]
]

-- a home of the list is that of a given object
given_there : (from k : ℕ) (h : Home) (given : List Given) → slice_get (homes_from from given) k ≡ Some h
    → BeginsAt from given h.at
given_there from k h [] at = absurd (cc)
given_there from zero h (x ∷ given) at =
    let same = ap (λ (y : Home). y.at) (same_Some _ h at) in
    record { index = 0; object = x; is = refl; begins = omega (arith, same) }
given_there from (suc k) h (x ∷ given) at =
    begins_later from h.at x given (given_there (from + cost_of x.shape) k h given at)

-- homes after others follow them
follow_append : (from middle end : ℕ) (homes more : List Home) → Follow from homes middle → Follow middle more end
    → Follow from (homes ++ more) end
follow_append from middle end [] more first rest = subst (λ (at : ℕ). Follow at more end) (sym first) rest
follow_append from middle end (x ∷ homes) more first rest =
    (first.0, follow_append (from + cost_of x.shape) middle end homes more first.1 rest)

-- the new homes follow each other
follow_given : (from end : ℕ) (given : List Given) → from + need_for given ≡ end
    → Follow from (homes_from from given) end
follow_given from end [] is = omega (arith, is)
follow_given from end (g ∷ given) is =
    (refl, follow_given (from + cost_of g.shape) end given (omega (arith, is, need-cons g given)))

-- an element of two lists is one of the first or one of the second
get_either : {A : Type 0} (xs ys : List A) (k : ℕ) (x : A) → slice_get (xs ++ ys) k ≡ Some x
    → (slice_get xs k ≡ Some x) ⊎ ((j : ℕ) × (slice_get ys j ≡ Some x))
get_either [] ys k x at = inr (k, at)
get_either (y ∷ xs) ys zero x at = inl at
get_either (y ∷ xs) ys (suc k) x at = get_either xs ys k x at

module _ (old new : List Home) (end : ℕ) (given : List Given) (is : new ≡ old ++ homes_from end given) where
  -- all homes follow each other
  pub reserved_follow : (last : ℕ) → end + need_for given ≡ last → Follow 1 old end → Follow 1 new last
  reserved_follow last after follows =
      subst (λ (homes : List Home). Follow 1 homes last) (sym is)
      (follow_append 1 end last old (homes_from end given) follows (follow_given end last given after))

  -- those from before are reserved
  pub reserved_old : (home : ℕ) (z : Shape) → IsReserved old home z → IsReserved new home z
  reserved_old home z was =
      let within = slice_get_within old was.index _ was.is in
      record {
        index = was.index;
        is = ap (λ (homes : List Home). slice_get homes was.index) is
            ∙ (slice_get-append_left old (homes_from end given) was.index within ∙ was.is);
      }

  -- and no others but the new ones
  pub reserved_only : (home : ℕ) (z : Shape) → IsReserved new home z
      → IsReserved old home z ⊎ BeginsAt end given home
  reserved_only home z reserved =
      elim (get_either old (homes_from end given) reserved.index (record { at = home; shape = z })
      (ap (λ (homes : List Home). slice_get homes reserved.index) (sym is) ∙ reserved.is)) [
        | inl was ↦ inl (record { index = reserved.index; is = was })
        | inr later ↦ inr (given_there end later.0 (record { at = home; shape = z }) given later.1)
      ]
