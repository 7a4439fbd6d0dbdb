-- Images that may not be told: all of them are told together, or none is.
use Rattle.std.proofs.Common.{◌≡◌, ℕ, zero, suc, ◌+◌, ◌%◌, ◌<◌, ◌≤◌, List, [], ◌∷◌, length, get_or, slice_set}
use Rattle.std.proofs.Common.{Option, None, Some, IfSome, refl, sym, ◌∙◌, ap, arith}
use Rattle.std.specs.Option.{option_map}
use Rattle.std.proofs.lemmas.List.{set-get_or}
use Rattle.melt_io.specs.Outside.{KeepsOthers, SameOutside, Writes, with_words, words_at}
use Rattle.melt_stripe.specs.Images.{all_told, image_of, striped}
use Rattle.melt_stripe.specs.Units.{disk_of, place_of}
use Rattle.melt_stripe.proofs.Places.{disk_below}
use Rattle.melt_stripe.proofs.Reading.{striped_read}
use Rattle.melt_stripe.proofs.Values.{IsRun, striped_keeps}
use Rattle.melt_stripe.proofs.Writing.{striped_written}

-- What is told of all is told of each.
pub record AreTold (images : List (Option (List ℕ))) (told : List (List ℕ)) : Type 0 where
  pub size : length told ≡ length images
  pub each : (d : ℕ) → d < length images → get_or images d None ≡ Some (get_or told d [])

told_cons : (image : List ℕ) (images : List (Option (List ℕ))) (others : Option (List (List ℕ)))
    → IfSome others (AreTold images) → IfSome (option_map (λ rest. image ∷ rest) others) (AreTold (Some image ∷ images))
told_cons image images None told = tt
told_cons image images (Some others) told = record {
  size = ap (λ n. suc n) told.size;
  each = elim [ zero ↦ λ h. refl | suc d ↦ λ h. told.each d (omega arith) ];
}

pub all_told-each : (images : List (Option (List ℕ))) → IfSome (all_told images) (AreTold images)
all_told-each [] = record { size = refl; each = λ d h. absurd (omega arith) }
all_told-each (None ∷ images) = tt
all_told-each (Some image ∷ images) = told_cons image images (all_told images) (all_told-each images)

-- one that is not told, and so are not all
all_told-none : (images : List (Option (List ℕ))) (d : ℕ) → d < length images → get_or images d None ≡ None
    → all_told images ≡ None
all_told-none [] d below none = absurd (omega arith)
all_told-none (None ∷ images) d below none = refl
all_told-none (Some image ∷ images) zero below none = cc
all_told-none (Some image ∷ images) (suc d) below none =
    ap (λ others. option_map (λ rest. image ∷ rest) others) (all_told-none images d (omega arith) none)

set_first : (old new : List ℕ) (others : Option (List (List ℕ)))
    → option_map (λ rest. new ∷ rest) others
    ≡ option_map (λ told. slice_set told 0 new) (option_map (λ rest. old ∷ rest) others)
set_first old new None = refl
set_first old new (Some others) = refl

set_after : (image new : List ℕ) (d : ℕ) (others : Option (List (List ℕ)))
    → option_map (λ rest. image ∷ rest) (option_map (λ told. slice_set told d new) others)
    ≡ option_map (λ told. slice_set told (suc d) new) (option_map (λ rest. image ∷ rest) others)
set_after image new d None = refl
set_after image new d (Some others) = refl

-- one that is told is another
all_told-set : (images : List (Option (List ℕ))) (d : ℕ) (old new : List ℕ) → get_or images d None ≡ Some old
    → all_told (slice_set images d (Some new)) ≡ option_map (λ told. slice_set told d new) (all_told images)
all_told-set [] d old new is = cc
all_told-set (None ∷ images) zero old new is = cc
all_told-set (None ∷ images) (suc d) old new is = refl
all_told-set (Some image ∷ images) zero old new is = set_first image new (all_told images)
all_told-set (Some image ∷ images) (suc d) old new is =
    ap (λ others. option_map (λ rest. image ∷ rest) others) (all_told-set images d old new is)
    ∙ set_after image new d (all_told images)

-- words of one unit, on disks of which images may not be told
pub record AreIn (images : List (Option (List ℕ))) (w n : ℕ) : Type 0 where
  pub some : 0 < length images
  pub more : 0 < n
  pub unit : w % 64 + n ≤ 64

pub is_run : {images : List (Option (List ℕ))} {w n : ℕ} (told : List (List ℕ)) → AreIn images w n
    → AreTold images told → IsRun told w n
is_run told are all = record { some = omega (arith, all.size, are.some); more = are.more; unit = are.unit }

found : (images : List (Option (List ℕ))) (told : List (List ℕ)) (d : ℕ) (image : List ℕ) → d < length images
    → AreTold images told → get_or images d None ≡ Some image → get_or told d [] ≡ image
found images told d image below all is = let each = all.each d below in cc

-- the disk on which the words lie, and their place there
abbrev pub on : List (Option (List ℕ)) → ℕ → ℕ
on images w = disk_of (length images) w

abbrev pub at : List (Option (List ℕ)) → ℕ → ℕ
at images w = place_of (length images) w

on_below : {images : List (Option (List ℕ))} {w n : ℕ} → AreIn images w n → on images w < length images
on_below {images} {w} {n} are = disk_below (length images) w are.some

written_told : (images : List (Option (List ℕ))) (w : ℕ) (words old new : List ℕ) → AreIn images w (length words)
    → get_or images (on images w) None ≡ Some old → new ≡ with_words old (at images w) words
    → (told : Option (List (List ℕ))) → IfSome told (AreTold images)
    → Writes (option_map striped told) w words
    (option_map striped (option_map (λ lists. slice_set lists (on images w) new) told))
written_told images w words old new are is written None all = tt
written_told images w words old new are is written (Some told) all =
    let here : get_or told (on images w) [] ≡ old = found images told (on images w) old (on_below are) all is in
    let e = striped_written told w words (is_run told are all) in
    rw all.size (rw (all.size, here, ← written) at e)

-- a write of them to their disk is one to all disks
pub writes_all : (images : List (Option (List ℕ))) (w : ℕ) (words : List ℕ) (old new : Option (List ℕ))
    → AreIn images w (length words) → get_or images (on images w) None ≡ old → Writes old (at images w) words new
    → Writes (image_of images) w words (image_of (slice_set images (on images w) new))
writes_all images w words None None are is told =
    let none = all_told-none images (on images w) (on_below are) is in
    let same : slice_set images (on images w) None ≡ images =
    ap (λ image. slice_set images (on images w) image) (sym is) ∙ set-get_or images (on images w) None in
    rw (same, none) tt
writes_all images w words None (Some new) are is told = elim told [ ]
writes_all images w words (Some old) None are is told = elim told [ ]
writes_all images w words (Some old) (Some new) are is told =
    rw (all_told-set images (on images w) old new is)
    (written_told images w words old new are is told (all_told images) (all_told-each images))

kept_told : (images : List (Option (List ℕ))) (w n : ℕ) (old new : List ℕ) → AreIn images w n
    → get_or images (on images w) None ≡ Some old → SameOutside old (at images w) n new
    → (told : Option (List (List ℕ))) → IfSome told (AreTold images)
    → KeepsOthers (option_map striped told) w n
    (option_map striped (option_map (λ lists. slice_set lists (on images w) new) told))
kept_told images w n old new are is keeps None all = tt
kept_told images w n old new are is keeps (Some told) all =
    let here : get_or told (on images w) [] ≡ old = found images told (on images w) old (on_below are) all is in
    let there : SameOutside (get_or told (disk_of (length told) w) []) (place_of (length told) w) n new =
    rw (all.size, here) keeps in
    let e = striped_keeps told w n (is_run told are all) new there in
    rw all.size (rw all.size at e)

-- and one that failed keeps all other words
pub keeps_all : (images : List (Option (List ℕ))) (w n : ℕ) (old new : Option (List ℕ)) → AreIn images w n
    → get_or images (on images w) None ≡ old → KeepsOthers old (at images w) n new
    → KeepsOthers (image_of images) w n (image_of (slice_set images (on images w) new))
keeps_all images w n None None are is told =
    let none = all_told-none images (on images w) (on_below are) is in
    let same : slice_set images (on images w) None ≡ images =
    ap (λ image. slice_set images (on images w) image) (sym is) ∙ set-get_or images (on images w) None in
    rw (same, none) tt
keeps_all images w n None (Some new) are is told = elim told [ ]
keeps_all images w n (Some old) None are is told = elim told [ ]
keeps_all images w n (Some old) (Some new) are is told =
    rw (all_told-set images (on images w) old new is)
    (kept_told images w n old new are is told (all_told images) (all_told-each images))

read_told : (images : List (Option (List ℕ))) (w n : ℕ) (words : List ℕ) → AreIn images w n
    → IfSome (get_or images (on images w) None) (λ image. words ≡ words_at image (at images w) n)
    → (told : Option (List (List ℕ))) → IfSome told (AreTold images)
    → IfSome (option_map striped told) (λ image. words ≡ words_at image w n)
read_told images w n words are read None all = tt
read_told images w n words are read (Some told) all =
    let each = all.each (on images w) (on_below are) in
    let here : words ≡ words_at (get_or told (on images w) []) (at images w) n = rw each at read in
    let e = striped_read told w n (is_run told are all) in
    rw all.size (here ∙ rw all.size at e)

-- words that are read from their disk are read from all
pub reads_all : (images : List (Option (List ℕ))) (w n : ℕ) (words : List ℕ) → AreIn images w n
    → IfSome (get_or images (on images w) None) (λ image. words ≡ words_at image (at images w) n)
    → IfSome (image_of images) (λ image. words ≡ words_at image w n)
reads_all images w n words are read =
    read_told images w n words are read (all_told images) (all_told-each images)
