-- The objects in use take no more words than lie before the first free place, and those that were made since are more.
use Rattle.std.proofs.Common.{◌≡◌, ◌⊎◌, ℕ, zero, suc, ◌+◌, ◌<◌, ◌≤◌, List, [], ◌∷◌, ◌++◌, length, refl, sym, ◌∙◌, ap}
use Rattle.std.proofs.Common.{subst, arith, inl, inr}
use Rattle.std.proofs.lemmas.Bool.{cases_eq}
use Rattle.std.proofs.lemmas.List.Sums.{sum-map, sum_by-append, sum_by-cons}
use Rattle.std.proofs.lemmas.Option.{same_Some, slice_get_within}
use Rattle.std.specs.List.{sum_by}
use Rattle.std.specs.Option.{option_map_or}
use Rattle.std.specs.Prelude.{Option, None, Some, slice_get}
use Rattle.melt_model.specs.Alive.{words_of, CostsSum}
use Rattle.melt_model.specs.History.{Shape, made, shapes}
use Rattle.melt_model.specs.declared.history.Entry.{Entry}
use Rattle.melt_model.proofs.Histories.{made-append, shape-append, shapes-append}
use Rattle.melt_model.proofs.Sums.{CostsSum-cost, CostsSum-empty, CostsSum-more, CostsSum-part, CostsSum-same}
use Rattle.melt_word.specs.Words.{cost_of}
use Rattle.melt_word.specs.declared.header.Header.{Header}
use Rattle.melt_scion.specs.Placed.{FormedWords, Maps, Tells}
use Rattle.melt_scion.specs.State.{HeaderAt, State}
use Rattle.melt_scion.proofs.Geometry.{one_header}
use Rattle.melt_core.specs.Made.{made_words}
use Rattle.melt_core.specs.Views.{InUse}

-- the object stands at an address before this one
abbrev NamedBefore : Maps → ℕ → ℕ → Type 0
NamedBefore maps k n = (a : ℕ) × (a < k) × (maps.address a ≡ Some n)

-- each object at an address before this one ends here or before
abbrev EndBefore : Maps → State → ℕ → ℕ → Type 0
EndBefore maps s k end = (a n : ℕ) (header : Header) → a < k → maps.address a ≡ Some n → HeaderAt s a header
    → a + cost_of header.shape ≤ end

-- The words of the objects that stand before an address: they lie before each place where all of these have ended.
record Packs (h : List Entry) (maps : Maps) (s : State) (k : ℕ) : Type 0 where
  total : ℕ
  adds_up : CostsSum (words_of h) (NamedBefore maps k) total
  within : (end : ℕ) → 1 ≤ end → EndBefore maps s k end → total + 1 ≤ end

-- what is in use takes so many words, and these lie before the first free place and within the heap
pub record TakesWords (h : List Entry) (maps : Maps) (s : State) : Type 0 where
  pub total : ℕ
  pub adds_up : CostsSum (words_of h) (InUse maps) total
  pub below : total + 1 ≤ s.free
  pub within : total ≤ s.base.size

module _ (h : List Entry) (maps : Maps) (s : State) (formed : FormedWords maps s) (tells : Tells h maps s) where
  -- no object stands at the next address
  packs_none : (k : ℕ) → maps.address k ≡ None → Packs h maps s k → Packs h maps s (suc k)
  packs_none k none rest = record {
    total = rest.total;
    adds_up = CostsSum-same (words_of h) (NamedBefore maps k) (NamedBefore maps (suc k)) rest.total (λ n. (
      λ is. (is.0, (let below : is.0 < k = is.1 in omega (arith, below)), is.2),
      λ is. elim (cases_eq is.0 k) [
        | inl same ↦ absurd (let no : None ≡ Some n = sym none ∙ (ap maps.address (sym same) ∙ is.2) in cc)
        | inr other ↦ (is.0, (let below : is.0 < suc k = is.1 in omega (arith, below, other)), is.2)
      ],
    )) rest.adds_up;
    within = λ end first ends.
        rest.within end first (λ a n header below. ends a n header (omega (arith, below)));
  }

  -- or one does
  packs_one : (k m : ℕ) → maps.address k ≡ Some m → Packs h maps s k → Packs h maps s (suc k)
  packs_one k m named rest =
      let object = formed.objects k m named in
      let words : words_of h m ≡ cost_of object.0.shape =
      ap (λ (z : Option Shape). option_map_or (λ (x : Shape). 2 + x.refs + x.nums) z 0)
      (tells.shapes k m object.0 named object.1.starts) in
      record {
        total = rest.total + words_of h m;
        adds_up = CostsSum-same (words_of h) (λ n. NamedBefore maps k n ⊎ (n ≡ m)) (NamedBefore maps (suc k))
            (rest.total + words_of h m) (λ n. (
              λ is. elim is [
                | inl old ↦ (old.0, (let below : old.0 < k = old.1 in omega (arith, below)), old.2)
                | inr same ↦ (k, omega arith, named ∙ ap Some (sym same))
              ],
              λ is. elim (cases_eq is.0 k) [
                | inl same ↦ inr (same_Some n m (sym is.2 ∙ (ap maps.address same ∙ named)))
                | inr other ↦ inl (is.0, (let below : is.0 < suc k = is.1 in omega (arith, below, other)), is.2)
              ],
            ))
            (CostsSum-more (words_of h) (NamedBefore maps k) m rest.total (λ is.
            let same : is.0 ≡ k = tells.one_address is.0 k m is.2 named in
            let below : is.0 < k = is.1 in
            omega (arith, same, below)) rest.adds_up);
        within = λ end first ends.
            let before : rest.total + 1 ≤ k =
            rest.within k object.1.first (λ a n header below at starts.
            formed.apart a k n m header at named starts below) in
            let here : k + cost_of object.0.shape ≤ end =
            ends k m object.0 (omega arith) named object.1.starts in
            omega (arith, before, here, words);
      }

  packs : (k : ℕ) → Packs h maps s k
  packs zero = record {
    total = 0;
    adds_up = CostsSum-empty (words_of h) (NamedBefore maps 0) (λ n is.
        let below : is.0 < 0 = is.1 in omega (arith, below));
    within = λ end first ends. omega (arith, first);
  }
  packs (suc k) = by_name (maps.address k) refl (packs k)
    where
      by_name : (o : Option ℕ) → maps.address k ≡ o → Packs h maps s k → Packs h maps s (suc k)
      by_name None none rest = packs_none k none rest
      by_name (Some m) named rest = packs_one k m named rest

  -- the words of what is in use
  pub takes_words : 1 ≤ s.free → TakesWords h maps s
  takes_words first =
      let all : Packs h maps s (s.base.size + 1) = packs (s.base.size + 1) in
      record {
        total = all.total;
        adds_up = CostsSum-same (words_of h) (NamedBefore maps (s.base.size + 1)) (InUse maps) all.total (λ n. (
          λ is. (is.0, is.2),
          λ is.
              let object = formed.objects is.0 n is.1 in
              let within : is.0 + cost_of object.0.shape ≤ s.base.size + 1 = object.1.within in
              (is.0, omega (arith, within), is.1),
        )) all.adds_up;
        below = all.within s.free first (λ a n header below at starts.
            let object = formed.objects a n at in
            let before : a + cost_of object.0.shape ≤ s.free = object.1.below in
            subst (λ (x : Header). a + cost_of x.shape ≤ s.free)
            (one_header s a object.0 header object.1.starts starts) before);
        within =
            let inside : all.total + 1 ≤ s.base.size + 1 =
            all.within (s.base.size + 1) (omega arith) (λ a n header below at starts.
            let object = formed.objects a n at in
            let before : a + cost_of object.0.shape ≤ s.base.size + 1 = object.1.within in
            subst (λ (x : Header). a + cost_of x.shape ≤ s.base.size + 1)
            (one_header s a object.0 header object.1.starts starts) before) in
            omega (arith, inside);
      }

-- how many words an object of this shape takes
abbrev shape_words : Shape → ℕ
shape_words z = 2 + z.refs + z.nums

append_right : {A : Type 0} (xs ys : List A) (i n : ℕ) → length xs + i ≡ n → slice_get (xs ++ ys) n ≡ slice_get ys i
append_right [] ys i n at = let same : n ≡ i = omega (arith, at) in ap (slice_get ys) same
append_right (x ∷ xs) ys i zero at = absurd (omega (arith, at))
append_right (x ∷ xs) ys i (suc n) at = append_right xs ys i n (omega (arith, at))

-- a set that has a part, and after its numbers those of objects with these shapes
part_with : {cost : ℕ → ℕ} (P Q : ℕ → Type 0) (zs : List Shape) (from : ℕ) {u q : ℕ} → CostsSum cost P u
    → CostsSum cost Q q → ((n : ℕ) → P n → Q n) → ((n : ℕ) → P n → n < from)
    → ((i n : ℕ) (z : Shape) → from + i ≡ n → slice_get zs i ≡ Some z → Q n × (cost n ≡ shape_words z))
    → u + sum_by shape_words zs ≤ q
part_with {cost} P Q [] from {u} {q} less more within below each =
    let part : u ≤ q = CostsSum-part cost P Q u q within less more in omega (arith, part)
part_with {cost} P Q (z ∷ zs) from {u} {q} less more within below each =
    let here = each 0 from z (omega arith) refl in
    let words : cost from ≡ shape_words z = here.1 in
    let rest : u + cost from + sum_by shape_words zs ≤ q =
    part_with (λ n. P n ⊎ (n ≡ from)) Q zs (suc from)
    (CostsSum-more cost P from u (λ is. let less_than : from < from = below from is in omega (arith, less_than)) less)
    more (λ n is. elim is [ inl old ↦ within n old | inr same ↦ subst Q (sym same) here.0 ]) (λ n is. elim is [
      | inl old ↦ let before : n < from = below n old in omega (arith, before)
      | inr same ↦ omega (arith, same)
    ]) (λ i n y at is. each (suc i) n y (omega (arith, at)) is) in
    omega (arith, rest, words, sum_by-cons shape_words z zs)

-- Where all that was in use is so still, and all that was made since, what is in use has grown by all words that were
-- made.
pub grown : (h more : List Entry) (P Q : ℕ → Type 0) (u q : ℕ) → CostsSum (words_of h) P u
    → CostsSum (words_of (h ++ more)) Q q → ((n : ℕ) → P n → Q n) → ((n : ℕ) → P n → n < made h)
    → ((n : ℕ) → made h ≤ n → n < made (h ++ more) → Q n)
    → made_words (h ++ more) + u ≤ made_words h + q
grown h more P Q u q less all within below new =
    let words_in = λ (o : Option Shape). option_map_or (λ (x : Shape). 2 + x.refs + x.nums) o 0 in
    let later : CostsSum (words_of (h ++ more)) P u =
    CostsSum-cost (words_of h) (words_of (h ++ more)) P u
    (λ n is. ap words_in (sym (shape-append h more n (below n is)))) less in
    let part : u + sum_by shape_words (shapes more) ≤ q =
    part_with P Q (shapes more) (made h) later all within below (λ i n z at is.
    let inside : i < length (shapes more) = slice_get_within (shapes more) i z is in (
      new n (omega (arith, at)) (let count = made-append h more in omega (arith, at, inside, count)),
      ap words_in
          (ap (λ (zs : List Shape). slice_get zs n) (shapes-append h more)
          ∙ (append_right (shapes h) (shapes more) i n at ∙ is)),
    )) in
    omega (
      arith,
      part,
      ap (sum_by shape_words) (shapes-append h more),
      sum_by-append shape_words (shapes h) (shapes more),
      sum-map shape_words (shapes (h ++ more)),
      sum-map shape_words (shapes h),
    )
