-- Words of objects that were counted by addresses are the costs of their numbers, where these are told.
use Rattle.std.proofs.Common.{◌≡◌, ℕ, zero, suc, ◌+◌, false, List, [], ◌∷◌, refl, sym, ◌∙◌, ap, arith}
use Rattle.std.specs.Prelude.{◌==◌, ◌↔◌, Option, Some, Contains, map, sum, unwrap_or}
use Rattle.std.specs.List.{IsDistinct, AllByRecursion}
use Rattle.std.specs.Option.{option_map_or}
use Rattle.std.proofs.lemmas.Bool.{ne_eqb, eq-eqb}
use Rattle.std.proofs.lemmas.List.Sums.{sum_by-cons}
use Rattle.melt_model.specs.History.{Shape}
use Rattle.melt_model.specs.Alive.{words_of, CostsSum}
use Rattle.melt_model.specs.declared.history.Entry.{Entry}
use Rattle.melt_scion.specs.State.{State}
use Rattle.melt_scion.specs.Placed.{Maps, IsNamed, FormedWords, Tells}
use Rattle.melt_scion.specs.Collected.{CountsWords}

after : (x : ℕ) (xs : List ℕ) (a : ℕ) → Contains xs a → Contains (x ∷ xs) a
after x xs a (k, below, is) = (suc k, omega arith, is)

first : (x : ℕ) (xs : List ℕ) → Contains (x ∷ xs) x
first x xs = (0, omega arith, refl)

-- numbers that differ where the addresses do
differ : (number : ℕ → ℕ) (x : ℕ) (xs : List ℕ) → AllByRecursion (λ y. (x == y) ≡ false) xs
    → ((y : ℕ) → Contains xs y → number x ≡ number y → x ≡ y)
    → AllByRecursion (λ y. (number x == y) ≡ false) (map number xs)
differ number x [] apart one = tt
differ number x (y ∷ xs) apart one = (
  ne_eqb (number x) (number y) (λ same. let equal = eq-eqb x y (one y (first y xs) same) in let not = apart.0 in cc),
  differ number x xs apart.1 (λ z is. one z (after y xs z is)),
)

distinct : (number : ℕ → ℕ) (xs : List ℕ) → IsDistinct (λ a b. a == b) xs
    → ((a b : ℕ) → Contains xs a → Contains xs b → number a ≡ number b → a ≡ b)
    → IsDistinct (λ a b. a == b) (map number xs)
unfolding IsDistinct
distinct number [] once one = tt
distinct number (x ∷ xs) once one = (
  differ number x xs once.0 (λ y is. one x y (first x xs) (after x xs y is)),
  distinct number xs once.1 (λ a b is other. one a b (after x xs a is) (after x xs b other)),
)

number_there : (number : ℕ → ℕ) (xs : List ℕ) (a n : ℕ) → Contains xs a → number a ≡ n → Contains (map number xs) n
number_there number [] a n (k, below, is) same = absurd (omega arith)
number_there number (x ∷ xs) a n (zero, below, is) same = (0, omega arith, ap number is ∙ same)
number_there number (x ∷ xs) a n (suc k, below, is) same =
    after (number x) (map number xs) n (number_there number xs a n (k, omega arith, is) same)

number_of : (number : ℕ → ℕ) (xs : List ℕ) (n : ℕ) → Contains (map number xs) n
    → (a : ℕ) × Contains xs a × (number a ≡ n)
number_of number [] n (k, below, is) = absurd (omega arith)
number_of number (x ∷ xs) n (zero, below, is) = (x, first x xs, is)
number_of number (x ∷ xs) n (suc k, below, is) = let rest = number_of number xs n (k, omega arith, is) in
    (rest.0, after x xs rest.0 rest.1, rest.2)

same_sums : (number cost words : ℕ → ℕ) (xs : List ℕ) → ((a : ℕ) → Contains xs a → cost a ≡ words (number a))
    → sum (map cost xs) ≡ sum (map words (map number xs))
same_sums number cost words [] same = refl
same_sums number cost words (x ∷ xs) same =
    omega (
      arith,
      same x (first x xs),
      same_sums number cost words xs (λ a is. same a (after x xs a is)),
      sum_by-cons
          (λ (n : ℕ). n) (cost x) (map cost xs),
      sum_by-cons (λ (n : ℕ). n) (words (number x))
          (map words (map number xs)),
    )

module _ (h : List Entry) (maps : Maps) (s : State) (formed : FormedWords maps s) (tells : Tells h maps s) where
  number_at : ℕ → ℕ
  number_at a = unwrap_or (maps.address a) 0

  number_is : (a n : ℕ) → maps.address a ≡ Some n → number_at a ≡ n
  unfolding number_at
  number_is a n named = ap (λ (o : Option ℕ). unwrap_or o 0) named

  cost_is : (Is : ℕ → Type 0) (total : ℕ) (counts : CountsWords s Is total) (a n : ℕ) → maps.address a ≡ Some n
      → counts.cost a ≡ words_of h (number_at a)
  cost_is Is total counts a n named =
      let object = formed.objects a n named in
      let words : words_of h n ≡ 2 + object.0.shape.refs + object.0.shape.nums =
      ap (λ (z : Option Shape). option_map_or (λ (x : Shape). 2 + x.refs + x.nums) z 0)
      (tells.shapes a n object.0 named object.1.starts) in
      counts.costs.is a object.0 object.1.starts ∙ (sym words ∙ ap (words_of h) (sym (number_is a n named)))

  -- the words of objects with addresses, each counted once, are the costs of their numbers
  pub counts_numbers : (Is Has : ℕ → Type 0) (total : ℕ) → ((a : ℕ) → Is a → IsNamed maps a)
      → ((n : ℕ) → Has n ↔ ((a : ℕ) × Is a × (maps.address a ≡ Some n))) → CountsWords s Is total
      → CostsSum (words_of h) Has total
  counts_numbers Is Has total named has counts = record {
    members = map number_at counts.members;
    once = distinct number_at counts.members counts.once (λ a b is other same.
        let x = named a ((counts.all a).1 is) in
        let y = named b ((counts.all b).1 other) in
        let one : x.0 ≡ y.0 = sym (number_is a x.0 x.1) ∙ (same ∙ number_is b y.0 y.1) in
        tells.one_address a b y.0 (x.1 ∙ ap Some one) y.1);
    all = λ n. (
      λ is. let at = (has n).0 is in
          number_there number_at counts.members at.0 n ((counts.all at.0).0 at.1) (number_is at.0 n at.2),
      λ is.
          let at = number_of number_at counts.members n is in
          let inside = (counts.all at.0).1 at.1 in
          let x = named at.0 inside in
          (has n).1 (at.0, inside, x.1 ∙ ap Some (sym (number_is at.0 x.0 x.1) ∙ at.2)),
    );
    adds_up = counts.adds_up
        ∙ same_sums number_at counts.cost (words_of h) counts.members
        (λ a is. let x = named a ((counts.all a).1 is) in cost_is Is total counts a x.0 x.1);
  }
