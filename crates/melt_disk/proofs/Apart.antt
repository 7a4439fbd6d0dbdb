-- Words of a disk that a write leaves as they are, and those that it wrote.
use Rattle.std.proofs.Common.{◌≡◌, ℕ, ◌+◌, ◌<◌, List, ◌++◌, length, drop, replicate, get_or, Option, None, Some, Result}
use Rattle.std.proofs.Common.{Ok, Err, OnOk, OnErr, IfSome, inl, inr, sym, ◌∙◌, ap, subst, arith, length-append}
use Rattle.std.proofs.lemmas.List.{ext_get_or, get_or-drop, get_or-take, length-replicate, length-take}
use Rattle.melt_io.proofs.Images.{with_words-inside, with_words-outside}
use Rattle.melt_io.proofs.WordBytes.{get_or-padded}
use Rattle.melt_io.specs.Outside.{KeepsOthers, SameOutside, Writes, with_words, words_at}
use Rattle.melt_disk.specs.Homes.{IsApart, KeepsApart}

length-words_at : (image : List ℕ) (at n : ℕ) → length (words_at image at n) ≡ n
length-words_at image at n =
    length-take n (drop at image ++ replicate n 0)
    ∙ omega (arith, length-append (drop at image) (replicate n 0), length-replicate {A = ℕ} n 0)

get_or-words_at : (image : List ℕ) (at n i : ℕ) → i < n → get_or (words_at image at n) i 0 ≡ get_or image (at + i) 0
get_or-words_at image at n i h =
    get_or-take n (drop at image ++ replicate n 0) i 0 h ∙ get_or-padded (drop at image) n i ∙ get_or-drop at image i 0

-- two images with the same words in a stretch
same_words : (old new : List ℕ) (at n : ℕ) → ((i : ℕ) → i < n → get_or new (at + i) 0 ≡ get_or old (at + i) 0)
    → words_at new at n ≡ words_at old at n
same_words old new at n same =
    ext_get_or 0 (words_at new at n) (words_at old at n) (length-words_at new at n ∙ sym (length-words_at old at n))
    (λ i h. let within : i < n = rw (← length-words_at new at n) h in
    get_or-words_at new at n i within ∙ same i within ∙ sym (get_or-words_at old at n i within))

SameOutside-apart : (old : List ℕ) (home m : ℕ) (new : List ℕ) → SameOutside old home m new → (at n : ℕ)
    → IsApart at n home m → words_at new at n ≡ words_at old at n
SameOutside-apart old home m new same at n (inl below) =
    same_words old new at n (λ i h. same.before (at + i) (omega arith))
SameOutside-apart old home m new same at n (inr above) =
    same_words old new at n (λ i h. same.after (at + i) (omega arith))

pub Writes-apart : (old : Option (List ℕ)) (at : ℕ) (words : List ℕ) (new : Option (List ℕ)) → Writes old at words new
    → KeepsApart old at (length words) new
Writes-apart None at words None told = tt
Writes-apart None at words (Some new) told = elim told [ ]
Writes-apart (Some old) at words None told = elim told [ ]
Writes-apart (Some old) at words (Some new) told =
    let same : SameOutside old at (length words) new = rw told (with_words-outside old at words) in
    SameOutside-apart old at (length words) new same

pub KeepsOthers-apart : (old : Option (List ℕ)) (at n : ℕ) (new : Option (List ℕ)) → KeepsOthers old at n new
    → KeepsApart old at n new
KeepsOthers-apart None at n None told = tt
KeepsOthers-apart None at n (Some new) told = elim told [ ]
KeepsOthers-apart (Some old) at n None told = elim told [ ]
KeepsOthers-apart (Some old) at n (Some new) told = SameOutside-apart old at n new told

-- whether a write of n words ends well or fails
pub write_apart : {E : Type 0} (result : Result Unit E) (old : Option (List ℕ)) (at n : ℕ) (words : List ℕ)
    (new : Option (List ℕ)) → length words ≡ n → OnOk result (Writes old at words new)
    → OnErr result (KeepsOthers old at n new) → KeepsApart old at n new
write_apart (Ok done) old at n words new len written others =
    subst (λ (m : ℕ). KeepsApart old at m new) len (Writes-apart old at words new written)
write_apart (Err failed) old at n words new len written others = KeepsOthers-apart old at n new others

words_at-with_words : (image : List ℕ) (at : ℕ) (words : List ℕ)
    → words_at (with_words image at words) at (length words) ≡ words
words_at-with_words image at words =
    let written : List ℕ = with_words image at words in
    ext_get_or 0 (words_at written at (length words)) words (length-words_at written at (length words))
    (λ i h.
    let within : i < length words = rw (← length-words_at written at (length words)) h in
    get_or-words_at written at (length words) i within ∙ with_words-inside image at words i within)

-- a write of n words that ends well
pub write_read : {E : Type 0} (result : Result Unit E) (old : Option (List ℕ)) (at n : ℕ) (words : List ℕ)
    (new : Option (List ℕ)) → length words ≡ n → OnOk result (Writes old at words new)
    → OnOk result (IfSome new (λ image. words_at image at n ≡ words))
write_read (Err failed) old at n words new len written = tt
write_read (Ok done) None at n words None len written = tt
write_read (Ok done) None at n words (Some new) len written = elim written [ ]
write_read (Ok done) (Some old) at n words None len written = elim written [ ]
write_read (Ok done) (Some old) at n words (Some new) len written =
    ap (λ m. words_at new at m) (sym len) ∙ ap (λ image. words_at image at (length words)) written
    ∙ words_at-with_words old at words
