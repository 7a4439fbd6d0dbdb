-- Forwarding words that are known one by one: whether they have no gaps is a test on them. And tables of so many words that
-- a test of each would be long: empty ones, and full ones but for the first word.
use Rattle.std.proofs.Common.{◌≡◌, ◌≢◌, inl, inr, ℕ, zero, suc, ◌/◌, ◌-◌, ◌<◌, List, [], ◌∷◌, length, replicate}
use Rattle.std.proofs.Common.{Bool, true, false, refl, sym, ◌∙◌, ap, subst, arith}
use Rattle.std.specs.Prelude.{nat_eq, if◌then◌else◌, slice_index, slice_set}
use Rattle.std.proofs.lemmas.Bool.{cases_eq}
use Rattle.std.proofs.lemmas.Bool.Decides.{nat_tests}
use Rattle.std.proofs.lemmas.List.{length-replicate, get_or-replicate}
use Rattle.melt_forward.specs.Forwarding.{IsForwarding, AreForwarding, HaveNoGaps, Sends, probe, probed}
use Rattle.melt_forward.proofs.Pairs.{one_home}
use Rattle.melt_forward.proofs.Probing.{one_try, probe_within}
use Rattle.melt_scion.proofs.Starting.{nothing_at, sends_nothing}

-- each of the words that are tried before n others is filled
abbrev filled_before : List ℕ → ℕ → ℕ → Bool
filled_before words home zero = true
filled_before words home (suc k) = if nat_eq (probed words home k) 0 then false else filled_before words home k

-- before each of them that sends the home, each is filled
abbrev home_unbroken : List ℕ → ℕ → ℕ → Bool
home_unbroken words home zero = true
home_unbroken words home (suc k) =
    if nat_eq (probed words home k / 4294967296) home then
    if filled_before words home k then home_unbroken words home k else false
    else home_unbroken words home k

-- so it is for the homes of those of these words that are filled, among all
abbrev unbroken_for : List ℕ → List ℕ → Bool
unbroken_for words [] = true
unbroken_for words (word ∷ rest) =
    if nat_eq word 0 then unbroken_for words rest else
    if home_unbroken words (word / 4294967296) (length words) then unbroken_for words rest else false

abbrev pub unbroken : List ℕ → Bool
unbroken words = unbroken_for words words

tells_filled : (words : List ℕ) (home n i : ℕ) → filled_before words home n ≡ true → i < n → probed words home i ≢ 0
tells_filled words home zero i test below = absurd (omega arith)
tells_filled words home (suc k) i test below =
    elim (cases_eq i k) [
      | inl same ↦ subst (λ (j : ℕ). probed words home j ≢ 0) (sym same) (λ empty. grind (arith, nat_tests))
      | inr other ↦ tells_filled words home k i (grind (arith, nat_tests)) (omega arith)
    ]

tells_home : (words : List ℕ) (home n k : ℕ) → home_unbroken words home n ≡ true → k < n
    → probed words home k / 4294967296 ≡ home → filled_before words home k ≡ true
tells_home words home zero k test below is = absurd (omega arith)
tells_home words home (suc n) k test below is =
    elim (cases_eq k n) [
      | inl same ↦ subst (λ (j : ℕ). filled_before words home j ≡ true) (sym same)
          (let there : probed words home n / 4294967296 ≡ home
          = subst (λ (j : ℕ). probed words home j / 4294967296 ≡ home) same is in
          grind (arith, nat_tests))
      | inr other ↦ tells_home words home n k (grind (arith, nat_tests)) (omega arith) is
    ]

tells_each : (words rest : List ℕ) (p : ℕ) → unbroken_for words rest ≡ true → p < length rest → slice_index rest p ≢ 0
    → home_unbroken words (slice_index rest p / 4294967296) (length words) ≡ true
tells_each words [] p test below filled = absurd (omega arith)
tells_each words (word ∷ rest) zero test below filled = grind (arith, nat_tests)
tells_each words (word ∷ rest) (suc p) test below filled =
    tells_each words rest p (grind (arith, nat_tests)) (omega arith) filled

pub unbroken_by_test : (words : List ℕ) → unbroken words ≡ true → HaveNoGaps words
unbroken_by_test words test = record {
  filled = λ home address k i below sends before.
      let p = probe home (length words) k in
      let is : slice_index words p / 4294967296 ≡ home = grind arith in
      let each = tells_each words words p test (probe_within home (length words) k below)
      (λ empty. sends_nothing (slice_index words p) home address empty sends) in
      let all = subst (λ (h : ℕ). home_unbroken words h (length words) ≡ true) is each in
      tells_filled words home k i (tells_home words home (length words) k all below is) before;
}

pub empty_are_forwarding : (count : ℕ) → AreForwarding (replicate count 0)
empty_are_forwarding count k below = inl (nothing_at count k)

pub empty_have_no_gaps : (count : ℕ) → HaveNoGaps (replicate count 0)
empty_have_no_gaps count = record {
  filled = λ home address k i below sends before.
      absurd (sends_nothing (probed (replicate count 0) home k) home address
      (nothing_at count (probe home (length (replicate count 0)) k)) sends);
}

-- So many words, of which each but the first is this one.
pub record HasRest (words : List ℕ) (count word : ℕ) : Type 0 where
  pub size : length words ≡ count
  pub rest : (k : ℕ) → 0 < k → k < count → slice_index words k ≡ word

rest_of : (count word first k : ℕ) → 0 < k → k < suc count → slice_index (first ∷ replicate count word) k ≡ word
rest_of count word first zero later below = absurd (omega arith)
rest_of count word first (suc k) later below = get_or-replicate count k word 0 (omega arith)

pub first_set : (words : List ℕ) (count word first : ℕ) → words ≡ replicate count word → 0 < count
    → HasRest (slice_set words 0 first) count word × (slice_index (slice_set words 0 first) 0 ≡ first)
first_set words zero word first is some = absurd (omega arith)
first_set words (suc count) word first is some =
    subst (λ (l : List ℕ). HasRest (slice_set l 0 first) (suc count) word × (slice_index (slice_set l 0 first) 0 ≡ first))
    (sym is) (
      record {
        size = ap suc (length-replicate count word);
        rest = rest_of count word first;
      },
      refl,
    )

module _ (words : List ℕ) (count word home address : ℕ) (has : HasRest words count word)
    (sends : Sends word home address) where
  pub rest_are_forwarding : IsForwarding (slice_index words 0) → AreForwarding words
  rest_are_forwarding first k below =
      elim (cases_eq k 0) [
        | inl same ↦ subst (λ (j : ℕ). IsForwarding (slice_index words j)) (sym same) first
        | inr other ↦ subst IsForwarding (sym (has.rest k (omega arith) (omega (arith, has.size, below))))
            (inr (home, address, sends))
      ]

  -- a place where another word stands is the first
  other_is_first : (p : ℕ) → p < length words → slice_index words p ≢ word → p ≡ 0
  other_is_first p below other =
      elim (cases_eq p 0) [
        | inl same ↦ same
        | inr later ↦ absurd (other (has.rest p (omega arith) (omega (arith, has.size, below))))
      ]

  -- the search for the home of those words comes to the first word last
  pub rest_without_gaps : probe home count (count - 1) ≡ 0 → HaveNoGaps words
  rest_without_gaps last = record {
    filled = λ of to k i below there before empty.
        let n = length words in
        let i_below : i < n = omega arith in
        let at : probe of n i ≡ 0 = other_is_first (probe of n i) (probe_within of n i i_below)
        (λ same. sends_nothing word home address (sym same ∙ empty) sends) in
        let away : probe of n k ≢ 0 =
        λ first. let same : i ≡ k = one_try of n i k i_below below (at ∙ sym first) in omega (arith, same, before) in
        let is : slice_index words (probe of n k) ≡ word = has.rest (probe of n k) (omega (arith, away))
        (let within = probe_within of n k below in omega (arith, has.size, within)) in
        let home_is : of ≡ home = one_home word of to home address (subst (λ (w : ℕ). Sends w of to) is there) sends in
        let ends : probe of n (n - 1) ≡ 0 = subst (λ (h : ℕ). probe h n (n - 1) ≡ 0) (sym home_is)
        (subst (λ (c : ℕ). probe home c (c - 1) ≡ 0) (sym has.size) last) in
        let same : i ≡ n - 1 = one_try of n i (n - 1) i_below (omega arith) (at ∙ sym ends) in
        absurd (omega (arith, same, before, below));
  }
