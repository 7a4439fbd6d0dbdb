-- Words of one unit that are written to the disk on which they lie are written to all disks as one.
use Rattle.std.proofs.Common.{◌≡◌, ℕ, ◌+◌, ◌-◌, ◌%◌, ◌<◌, ◌≤◌, List, [], length, max, get_or, slice_set}
use Rattle.std.proofs.Common.{inl, inr, sym, ◌∙◌, ap}
use Rattle.std.proofs.Common.{arith}
use Rattle.std.proofs.lemmas.Bool.{cases_lt}
use Rattle.std.proofs.lemmas.List.{ext_get_or, length-set}
use Rattle.melt_io.specs.Outside.{SameOutside, with_words}
use Rattle.melt_io.proofs.Images.{with_words-inside, with_words-outside}
use Rattle.melt_stripe.specs.Images.{end_on, end_from, end_of, striped}
use Rattle.melt_stripe.specs.Units.{disk_of, place_of}
use Rattle.melt_stripe.proofs.Places.{disk_on, end_written, place_on}
use Rattle.melt_stripe.proofs.Values.{IsRun, disk_in, end_set, get_or-striped, length-striped, length-with_words}
use Rattle.melt_stripe.proofs.Values.{striped_keeps, word_here}

module _ (images : List (List ℕ)) (w : ℕ) (words : List ℕ) (run : IsRun images w (length words)) where
  abbrev here : ℕ
  here = disk_of (length images) w

  abbrev there : ℕ
  there = place_of (length images) w

  abbrev written : List ℕ
  written = with_words (get_or images here []) there words

  written_words : (i : ℕ) → w ≤ i → i < w + length words
      → get_or (striped (slice_set images here written)) i 0 ≡ get_or (with_words (striped images) w words) i 0
  written_words i from below =
      let k : ℕ = length images in
      let j : ℕ = i - w in
      let at : w + j ≡ i = omega arith in
      let low : w % 64 + j < 64 = omega (arith, run.unit) in
      let same : disk_of k i ≡ here = ap (λ v. disk_of k v) (sym at) ∙ disk_on k w j low in
      let place : place_of k i ≡ there + j = ap (λ v. place_of k v) (sym at) ∙ place_on k w j low in
      let within : j < length words = omega arith in
      let size : 0 < length (slice_set images here written) = omega (arith, length-set images here written, run.some) in
      get_or-striped (slice_set images here written) i size ∙ word_here images w (length words) run written i same
      ∙ ap (λ p. get_or written p 0) place ∙ with_words-inside (get_or images here []) there words j within
      ∙ sym (ap (λ v. get_or (with_words (striped images) w words) v 0) (sym at)
      ∙ with_words-inside (striped images) w words j within)

  written_end : length (striped (slice_set images here written)) ≡ length (with_words (striped images) w words)
  written_end =
      let k : ℕ = length images in
      let n : ℕ = there + length words in
      let size : length (slice_set images here written) ≡ k = length-set images here written in
      let on : 0 + here ≡ here = omega arith in
      length-striped (slice_set images here written)
      ∙ ap (λ m. end_from m 0 (slice_set images here written)) size
      ∙ end_set k 0 images here written n (disk_in images w (length words) run) (omega arith)
      (length-with_words (get_or images here []) there words)
      ∙ ap (λ d. max (end_of images) (end_on k d n)) on
      ∙ ap (λ e. max (end_of images) e) (end_written k w (length words) run.some run.more run.unit)
      ∙ sym (length-with_words (striped images) w words ∙ ap (λ m. max m (w + length words)) (length-striped images))

  pub striped_written : striped (slice_set images here written) ≡ with_words (striped images) w words
  striped_written =
      let old : List ℕ = striped images in
      let new : List ℕ = striped (slice_set images here written) in
      let all : SameOutside old w (length words) new =
      striped_keeps images w (length words) run written (with_words-outside (get_or images here []) there words) in
      let both : SameOutside old w (length words) (with_words old w words) = with_words-outside old w words in
      ext_get_or 0 new (with_words old w words) written_end (λ i h. elim (cases_lt i w) [
        | inl before ↦ all.before i before ∙ sym (both.before i before)
        | inr from ↦ elim (cases_lt i (w + length words)) [
          | inl below ↦ written_words i from below
          | inr after ↦ all.after i after ∙ sym (both.after i after)
        ]
      ])
