-- The image of several disks by its words: what it is where a word stands, and where one of the disks has another
-- image.
use Rattle.std.proofs.Common.{◌≡◌, ◌≢◌, ℕ, zero, suc, ◌+◌, ◌-◌, ◌%◌, ◌<◌, ◌≤◌, ◌⊎◌, List, [], ◌∷◌, ◌++◌, length, max}
use Rattle.std.proofs.Common.{get_or, take, drop, replicate, slice_set, inl, inr, sym, ◌∙◌, ap, subst, arith}
use Rattle.std.proofs.Common.{length-append, length-drop, get_or-set_same, get_or-set_other}
use Rattle.std.proofs.lemmas.Bool.{cases_eq, cases_lt}
use Rattle.std.proofs.lemmas.List.{get_or_past, length-set}
use Rattle.std.proofs.lemmas.List.FromFn.{get_or-map-range_with_len, length-map-range_with_len}
use Rattle.melt_io.specs.Outside.{SameOutside, with_words}
use Rattle.melt_io.proofs.Images.{length-front}
use Rattle.melt_stripe.specs.Images.{word_of, end_on, end_from, end_of, striped}
use Rattle.melt_stripe.specs.Units.{disk_of, place_of, word_at}
use Rattle.melt_stripe.proofs.Places.{disk_below, end_max, end_of_place, place_rest}
use Rattle.melt_stripe.proofs.Places.{word_again, word_on}

-- the end of one disk is within that of all
end_within : (k d : ℕ) (images : List (List ℕ)) (i : ℕ) → i < length images
    → end_on k (d + i) (length (get_or images i [])) ≤ end_from k d images
end_within k d [] i below = absurd (omega arith)
end_within k d (image ∷ images) zero below =
    let here : d + 0 ≡ d = omega arith in
    subst (λ (e : ℕ). end_on k e (length image) ≤ end_from k d (image ∷ images)) (sym here) (omega arith)
end_within k d (image ∷ images) (suc i) below =
    let there : d + 1 + i ≡ d + suc i = omega arith in
    let rest : end_on k (d + suc i) (length (get_or images i [])) ≤ end_from k (d + 1) images =
    subst (λ (e : ℕ). end_on k e (length (get_or images i [])) ≤ end_from k (d + 1) images) there
    (end_within k (d + 1) images i (omega arith)) in
    omega arith

-- what a word is, also past the end
pub get_or-striped : (images : List (List ℕ)) (w : ℕ) → 0 < length images
    → get_or (striped images) w 0 ≡ word_of images w
get_or-striped images w some =
    let k : ℕ = length images in
    let d : ℕ = disk_of k w in
    let p : ℕ = place_of k w in
    let image : List ℕ = get_or images d [] in
    let low : d < k = disk_below k w some in
    elim (cases_lt w (end_of images)) [
      | inl within ↦ get_or-map-range_with_len (word_of images) 0 (end_of images) w w 0 within (omega arith)
      | inr past ↦
          let long : length (striped images) ≤ w =
          omega (arith, length-map-range_with_len (word_of images) 0 (end_of images)) in
          let none : length image ≤ p = elim (cases_lt p (length image)) [
            | inl there ↦ absurd (let has = end_of_place k d (length image) p low there in
                let is = word_again k w some in
                let zero_on : end_on k (0 + d) (length image) ≤ end_of images = end_within k 0 images d low in
                let same : 0 + d ≡ d = omega arith in
                let ends : end_on k d (length image) ≤ end_of images =
                subst (λ (e : ℕ). end_on k e (length image) ≤ end_of images) same zero_on in
                omega arith)
            | inr is ↦ is
          ] in
          get_or_past (striped images) w 0 long ∙ sym (get_or_past image p 0 none)
    ]

pub length-striped : (images : List (List ℕ)) → length (striped images) ≡ end_of images
length-striped images = length-map-range_with_len (word_of images) 0 (end_of images)

pub length-with_words : (image : List ℕ) (at : ℕ) (words : List ℕ)
    → length (with_words image at words) ≡ max (length image) (at + length words)
length-with_words image at words =
    let front : List ℕ = take at (image ++ replicate at 0) in
    let rest : List ℕ = drop (at + length words) image in
    omega (
      arith,
      length-append (front ++ words) rest,
      length-append front words,
      length-front image at,
      length-drop (at + length words) image,
    )

-- the end, where one of the images reaches to another place
pub end_set : (k d : ℕ) (images : List (List ℕ)) (i : ℕ) (image : List ℕ) (n : ℕ) → i < length images
    → d + length images ≤ k → length image ≡ max (length (get_or images i [])) n
    → end_from k d (slice_set images i image) ≡ max (end_from k d images) (end_on k (d + i) n)
end_set k d [] i image n below fits len = absurd (omega arith)
end_set k d (old ∷ images) zero image n below fits len =
    let low : d < k = omega arith in
    let there : d + 0 ≡ d = omega arith in
    let ends : end_on k d (length image) ≡ max (end_on k d (length old)) (end_on k d n) =
    ap (λ m. end_on k d m) len ∙ end_max k d (length old) n low in
    subst (λ (e : ℕ). max (end_on k d (length image)) (end_from k (d + 1) images)
    ≡ max (max (end_on k d (length old)) (end_from k (d + 1) images)) (end_on k e n)) (sym there) (omega arith)
end_set k d (old ∷ images) (suc i) image n below fits len =
    let there : d + 1 + i ≡ d + suc i = omega arith in
    let rest = end_set k (d + 1) images i image n (omega arith) (omega arith) len in
    let ends : end_from k (d + 1) (slice_set images i image)
    ≡ max (end_from k (d + 1) images) (end_on k (d + suc i) n) =
    rest ∙ ap (λ (e : ℕ). max (end_from k (d + 1) images) (end_on k e n)) there in
    omega arith

-- n words of one unit, of which one disk has another image
pub record IsRun (images : List (List ℕ)) (w n : ℕ) : Type 0 where
  pub some : 0 < length images
  pub more : 0 < n
  pub unit : w % 64 + n ≤ 64

module _ (images : List (List ℕ)) (w n : ℕ) (run : IsRun images w n) where
  -- the disk on which they lie, and their place there
  abbrev pub disk : ℕ
  disk = disk_of (length images) w

  abbrev pub place : ℕ
  place = place_of (length images) w

  pub disk_in : disk < length images
  disk_in = disk_below (length images) w run.some

  -- a word at a place among theirs is one of them
  word_among : (i : ℕ) → disk_of (length images) i ≡ disk → place ≤ place_of (length images) i
      → place_of (length images) i < place + n → (w ≤ i) × (i < w + n)
  word_among i same from below =
      let k : ℕ = length images in
      let j : ℕ = place_of k i - place in
      let there : place_of k i ≡ place + j = omega arith in
      let low : place % 64 + j < 64 = omega (arith, place_rest k w, run.unit) in
      let is : i ≡ w + j = sym (word_again k i run.some) ∙ ap (λ d. word_at k d (place_of k i)) same
      ∙ ap (λ p. word_at k disk p) there ∙ word_on k disk place j low ∙ ap (λ v. v + j) (word_again k w run.some) in
      (omega arith, omega arith)

  word_elsewhere : (image : List ℕ) (i : ℕ) → disk_of (length images) i ≢ disk
      → word_of (slice_set images disk image) i ≡ word_of images i
  word_elsewhere image i other =
      let size : length (slice_set images disk image) ≡ length images = length-set images disk image in
      let empty : List ℕ = [] in
      ap (λ k. get_or (get_or (slice_set images disk image) (disk_of k i) empty) (place_of k i) 0) size
      ∙ ap (λ (found : List ℕ). get_or found (place_of (length images) i) 0)
      (get_or-set_other images disk (disk_of (length images) i) image empty other)

  pub word_here : (image : List ℕ) (i : ℕ) → disk_of (length images) i ≡ disk
      → word_of (slice_set images disk image) i ≡ get_or image (place_of (length images) i) 0
  word_here image i same =
      let size : length (slice_set images disk image) ≡ length images = length-set images disk image in
      let empty : List ℕ = [] in
      ap (λ k. get_or (get_or (slice_set images disk image) (disk_of k i) empty) (place_of k i) 0) size
      ∙ ap (λ d. get_or (get_or (slice_set images disk image) d empty) (place_of (length images) i) 0) same
      ∙ ap (λ (found : List ℕ). get_or found (place_of (length images) i) 0)
      (get_or-set_same images disk image empty disk_in)

  -- a word that is not one of them, where the disk keeps what is not at their places
  word_outside : (image : List ℕ) → SameOutside (get_or images disk []) place n image → (i : ℕ)
      → (i < w) ⊎ (w + n ≤ i) → word_of (slice_set images disk image) i ≡ word_of images i
  word_outside image keeps i out =
      let k : ℕ = length images in
      elim (cases_eq (disk_of k i) disk) [
        | inl same ↦
            let old : word_of images i ≡ get_or (get_or images disk []) (place_of k i) 0 =
            ap (λ d. get_or (get_or images d []) (place_of k i) 0) same in
            word_here image i same ∙ elim (cases_lt (place_of k i) place) [
              | inl before ↦ keeps.before (place_of k i) before
              | inr from ↦ elim (cases_lt (place_of k i) (place + n)) [
                | inl below ↦ absurd (let among = word_among i same from below in
                    elim out [ inl before ↦ omega arith | inr after ↦ omega arith ])
                | inr after ↦ keeps.after (place_of k i) after
              ]
            ] ∙ sym old
        | inr other ↦ word_elsewhere image i other
      ]

  pub striped_keeps : (image : List ℕ) → SameOutside (get_or images disk []) place n image
      → SameOutside (striped images) w n (striped (slice_set images disk image))
  striped_keeps image keeps =
      let size : 0 < length (slice_set images disk image) = omega (arith, length-set images disk image, run.some) in
      record {
        before = λ i h. get_or-striped (slice_set images disk image) i size ∙ word_outside image keeps i (inl h)
            ∙ sym (get_or-striped images i run.some);
        after = λ i h. get_or-striped (slice_set images disk image) i size ∙ word_outside image keeps i (inr h)
            ∙ sym (get_or-striped images i run.some);
      }
