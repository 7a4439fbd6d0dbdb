-- What the words of several disks are together.
use Rattle.std.specs.Prelude.{ℕ, zero, suc, ◌+◌, List, [], ◌∷◌, length, map, max, slice_index_or, Option, None, Some}
use Rattle.std.specs.List.{range_with_len}
use Rattle.std.specs.Option.{option_map}
use Rattle.melt_stripe.specs.Units.{disk_of, place_of, word_at}

-- a word, where the disks have these images: 0 where that of its disk is shorter
abbrev pub word_of : List (List ℕ) → ℕ → ℕ
word_of images w = slice_index_or (slice_index_or images (disk_of (length images) w) []) (place_of (length images) w) 0

-- 1 plus the word at the last of the n places of a disk, or 0 where it has none
abbrev pub end_on : ℕ → ℕ → ℕ → ℕ
end_on k disk zero = 0
end_on k disk (suc last) = word_at k disk last + 1

-- the greatest of these ends, where the images are those of the disks from this one on
abbrev pub end_from : ℕ → ℕ → List (List ℕ) → ℕ
end_from k disk [] = 0
end_from k disk (image ∷ images) = max (end_on k disk (length image)) (end_from k (disk + 1) images)

-- 1 plus the greatest word that some image has, or 0
abbrev pub end_of : List (List ℕ) → ℕ
end_of images = end_from (length images) 0 images

-- the image of disks that have these images
abbrev pub striped : List (List ℕ) → List ℕ
striped images = map (word_of images) (range_with_len 0 (end_of images))

-- all of them, where each is told
abbrev pub all_told : List (Option (List ℕ)) → Option (List (List ℕ))
all_told [] = Some []
all_told (None ∷ images) = None
all_told (Some image ∷ images) = option_map (λ others. image ∷ others) (all_told images)

abbrev pub image_of : List (Option (List ℕ)) → Option (List ℕ)
image_of images = option_map striped (all_told images)
