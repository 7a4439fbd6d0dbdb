-- A write to a disk, as an image of the disk's words has it.
use Rattle.std.proofs.Common.{◌≡◌, ℕ, ◌+◌, ◌-◌, ◌<◌, ◌≤◌, ◌⊎◌, List, ◌++◌, length, take, drop, replicate, cond, inl}
use Rattle.std.proofs.Common.{inr, ltb, Option, None, Some, refl, sym, ap, ◌∙◌, arith, length-append}
use Rattle.std.specs.Prelude.{slice_index, IsSome}
use Rattle.std.proofs.lemmas.Bool.Decides.{nat_tests}
use Rattle.std.proofs.lemmas.List.{get_or-append-add, get_or_append_left}
use Rattle.melt_io.specs.Outside.{SameOutside, Writes, with_words}
use Rattle.melt_io.proofs.Images.{length-front, with_words-outside}
use Rattle.melt_disk.specs.Homes.{KeepsApart}
use Rattle.melt_scion.specs.Heaps.{Shows}
use Rattle.melt_copy.specs.Settling.{StillTold}

-- What an image became has these words from word `at` on, and all others as they were.
pub record Puts (old : ℕ → ℕ) (at : ℕ) (words : List ℕ) (new : ℕ → ℕ) : Type 0 where
  pub here : (i : ℕ) → i < length words → new (at + i) ≡ slice_index words i
  pub others : (k : ℕ) → (k < at) ⊎ (at + length words ≤ k) → new k ≡ old k

-- words put into an image
put : (ℕ → ℕ) → ℕ → List ℕ → ℕ → ℕ
put old at words k =
    cond (ltb k at) (old k) (cond (ltb k (at + length words)) (slice_index words (k - at)) (old k))

put_puts : (old : ℕ → ℕ) (at : ℕ) (words : List ℕ) → Puts old at words (put old at words)
unfolding put
put_puts old at words = record {
  here = λ i below.
      let place : at + i - at ≡ i = omega arith in
      let same = ap (slice_index words) place in
      grind (arith, nat_tests);
  others = λ k apart. elim apart [
    | inl before ↦ grind (arith, nat_tests)
    | inr later ↦ grind (arith, nat_tests)
  ];
}

-- the words that were written stand where they were
words_stand : (image : List ℕ) (at : ℕ) (words : List ℕ) (i : ℕ) → i < length words
    → slice_index (with_words image at words) (at + i) ≡ slice_index words i
words_stand image at words i below =
    let front : List ℕ = take at (image ++ replicate at 0) in
    let first : length front ≡ at = length-front image at in
    let both : at + i < length (front ++ words) = omega (arith, length-append front words, first, below) in
    get_or_append_left (front ++ words) (drop (at + length words) image) 0 (at + i) both
    ∙ (ap (λ (n : ℕ). slice_index (front ++ words) (n + i)) (sym first) ∙ get_or-append-add front words i 0)

-- an image of the words of a disk after a write
pub record ShowsWrite (told : Option (List ℕ)) (old : ℕ → ℕ) (at : ℕ) (words : List ℕ) : Type 0 where
  pub after : ℕ → ℕ
  pub shows : Shows told after
  pub puts : Puts old at words after

-- A write shows: to each image of the words before it there is one of those after it, with the written words in it.
-- Where the disk tells its words that is the only one; where it tells none, any will do.
pub write_shows : (old : Option (List ℕ)) (at : ℕ) (words : List ℕ) (new : Option (List ℕ)) (image : ℕ → ℕ)
    → Shows old image → Writes old at words new → ShowsWrite new image at words
write_shows None at words None image shows writes =
    record { after = put image at words; shows = tt; puts = put_puts image at words }
write_shows None at words (Some new) image shows writes = elim writes [ ]
write_shows (Some old) at words None image shows writes = elim writes [ ]
write_shows (Some old) at words (Some new) image shows writes =
    let outside : SameOutside old at (length words) (with_words old at words) = with_words-outside old at words in
    record {
      after = slice_index new;
      shows = λ k. refl;
      puts = record {
        here = λ i below. ap (λ (l : List ℕ). slice_index l (at + i)) writes ∙ words_stand old at words i below;
        others = λ k apart. ap (λ (l : List ℕ). slice_index l k) writes ∙ (elim apart [
          | inl before ↦ outside.before k before ∙ sym (shows k)
          | inr later ↦ outside.after k later ∙ sym (shows k)
        ]);
      };
    }

-- A write at one home, whether it ends well or fails, leaves words told that were told.
pub told_apart : (old : Option (List ℕ)) (home m : ℕ) (new : Option (List ℕ)) → KeepsApart old home m new
    → StillTold old new
told_apart None home m new apart = λ told. absurd (let some : IsSome {T = List ℕ} None = told in cc)
told_apart (Some old) home m None apart = elim apart [ ]
told_apart (Some old) home m (Some new) apart = λ told. refl
