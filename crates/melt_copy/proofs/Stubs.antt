-- The words of a disk after the write of a Stub, whether the disk tells its words or not.
use Rattle.std.proofs.Common.{◌≡◌, ◌⊎◌, inl, inr, ℕ, ◌+◌, ◌<◌, ◌≤◌, List, [], ◌∷◌, length, refl, sym}
use Rattle.std.proofs.Common.{◌∙◌, ap, arith, cond, eqb}
use Rattle.std.specs.Prelude.{Option, None, Some, slice_index}
use Rattle.std.proofs.lemmas.Bool.Decides.{nat_tests}
use Rattle.melt_io.specs.Outside.{KeepsOthers, SameOutside, Writes, with_words}
use Rattle.melt_io.proofs.Images.{with_words-inside, with_words-outside}
use Rattle.melt_scion.specs.Heaps.{Shows}

-- The words differ at most in two from the home on.
pub record ChangesTwo (before : ℕ → ℕ) (after : Option (List ℕ)) (home : ℕ) : Type 0 where
  pub image : ℕ → ℕ
  pub shows : Shows after image
  pub others : (k : ℕ) → (k < home) ⊎ (home + 2 ≤ k) → image k ≡ before k

-- These two were written there.
pub record PutsTwo (before : ℕ → ℕ) (after : Option (List ℕ)) (home first second : ℕ) : Type 0 where
  pub changes : ChangesTwo before after home
  pub first_is : changes.image home ≡ first
  pub second_is : changes.image (home + 1) ≡ second

-- the words with two put there
put : (ℕ → ℕ) → ℕ → ℕ → ℕ → ℕ → ℕ
put before home first second k = cond (eqb k home) first (cond (eqb k (home + 1)) second (before k))

put_first : (before : ℕ → ℕ) (home first second : ℕ) → put before home first second home ≡ first
unfolding put
put_first before home first second = grind (arith, nat_tests)

put_second : (before : ℕ → ℕ) (home first second : ℕ) → put before home first second (home + 1) ≡ second
unfolding put
put_second before home first second = grind (arith, nat_tests)

put_others : (before : ℕ → ℕ) (home first second k : ℕ) → (k < home) ⊎ (home + 2 ≤ k)
    → put before home first second k ≡ before k
unfolding put
put_others before home first second k other = elim other [
  | inl below ↦ grind (arith, nat_tests)
  | inr later ↦ grind (arith, nat_tests)
]

-- a write of two words that ends well
pub puts_two : (before : Option (List ℕ)) (image : ℕ → ℕ) (after : Option (List ℕ)) (home first second : ℕ)
    → Shows before image → Writes before home (first ∷ second ∷ []) after → PutsTwo image after home first second
puts_two None image None home first second shows writes = record {
  changes = record {
    image = put image home first second;
    shows = tt;
    others = put_others image home first second;
  };
  first_is = put_first image home first second;
  second_is = put_second image home first second;
}
puts_two None image (Some new) home first second shows writes = absurd writes
puts_two (Some old) image None home first second shows writes = absurd writes
puts_two (Some old) image (Some new) home first second shows writes =
    let words : List ℕ = first ∷ second ∷ [] in
    let at : (k : ℕ) → slice_index new k ≡ slice_index (with_words old home words) k =
    λ k. ap (λ (xs : List ℕ). slice_index xs k) writes in
    let outside : SameOutside old home (length words) (with_words old home words) = with_words-outside old home words in
    let zeroth : home ≡ home + 0 = omega arith in
    record {
      changes = record {
        image = slice_index new;
        shows = λ k. refl;
        others = λ k other. at k ∙ (elim other [
          | inl below ↦ outside.before k below
          | inr later ↦ outside.after k later
        ] ∙ sym (shows k));
      };
      first_is = at home ∙ (ap (slice_index (with_words old home words)) zeroth
          ∙ with_words-inside old home words 0 (omega arith));
      second_is = at (home + 1) ∙ with_words-inside old home words 1 (omega arith);
    }

-- and one that fails
pub changes_two : (before : Option (List ℕ)) (image : ℕ → ℕ) (after : Option (List ℕ)) (home : ℕ)
    → Shows before image → KeepsOthers before home 2 after → ChangesTwo image after home
changes_two None image None home shows keeps = record { image = image; shows = tt; others = λ k other. refl }
changes_two None image (Some new) home shows keeps = absurd keeps
changes_two (Some old) image None home shows keeps = absurd keeps
changes_two (Some old) image (Some new) home shows keeps = record {
  image = slice_index new;
  shows = λ k. refl;
  others = λ k other. elim other [
    | inl below ↦ keeps.before k below ∙ sym (shows k)
    | inr later ↦ keeps.after k later ∙ sym (shows k)
  ];
}
