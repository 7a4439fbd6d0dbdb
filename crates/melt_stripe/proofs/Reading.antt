-- Words that are read of one unit after another are those of the image.
use Rattle.std.proofs.Common.{◌≡◌, ℕ, ◌+◌, ◌-◌, ◌%◌, ◌<◌, List, [], ◌++◌, length, drop, replicate, get_or, inl, inr}
use Rattle.std.proofs.Common.{sym, ◌∙◌, ap, arith, length-append}
use Rattle.std.proofs.lemmas.Bool.{cases_lt}
use Rattle.std.proofs.lemmas.List.{ext_get_or, get_or-drop, get_or-take, length-replicate, length-take}
use Rattle.std.proofs.lemmas.List.{get_or_append_left, get_or-append-add}
use Rattle.melt_io.specs.Outside.{words_at}
use Rattle.melt_io.proofs.WordBytes.{get_or-padded}
use Rattle.melt_stripe.specs.Images.{striped}
use Rattle.melt_stripe.specs.Units.{disk_of, place_of}
use Rattle.melt_stripe.proofs.Places.{disk_on, place_on}
use Rattle.melt_stripe.proofs.Values.{IsRun, get_or-striped}

pub length-words_at : (image : List ℕ) (at n : ℕ) → length (words_at image at n) ≡ n
length-words_at image at n =
    length-take n (drop at image ++ replicate n 0)
    ∙ omega (arith, length-append (drop at image) (replicate n 0), length-replicate {A = ℕ} n 0)

pub get_or-words_at : (image : List ℕ) (at n i : ℕ) → i < n → get_or (words_at image at n) i 0 ≡ get_or image (at + i) 0
get_or-words_at image at n i h =
    get_or-take n (drop at image ++ replicate n 0) i 0 h ∙ get_or-padded (drop at image) n i ∙ get_or-drop at image i 0

-- words of one unit are those of their disk
pub striped_read : (images : List (List ℕ)) (w n : ℕ) → IsRun images w n
    → words_at (get_or images (disk_of (length images) w) []) (place_of (length images) w) n
    ≡ words_at (striped images) w n
striped_read images w n run =
    let k : ℕ = length images in
    let d : ℕ = disk_of k w in
    let p : ℕ = place_of k w in
    let image : List ℕ = get_or images d [] in
    ext_get_or 0 (words_at image p n) (words_at (striped images) w n)
    (length-words_at image p n ∙ sym (length-words_at (striped images) w n)) (λ i h.
    let below : i < n = omega (arith, length-words_at image p n) in
    let low : w % 64 + i < 64 = omega (arith, run.unit) in
    let same : get_or (get_or images (disk_of k (w + i)) []) (place_of k (w + i)) 0 ≡ get_or image (p + i) 0 =
    ap (λ e. get_or (get_or images e []) (place_of k (w + i)) 0) (disk_on k w i low)
    ∙ ap (λ q. get_or image q 0) (place_on k w i low) in
    get_or-words_at image p n i below
    ∙ sym (get_or-words_at (striped images) w n i below ∙ get_or-striped images (w + i) run.some ∙ same))

-- words, and those after them
pub words_at-append : (image : List ℕ) (at m n : ℕ)
    → words_at image at m ++ words_at image (at + m) n ≡ words_at image at (m + n)
words_at-append image at m n =
    let first : List ℕ = words_at image at m in
    let second : List ℕ = words_at image (at + m) n in
    let one : length first ≡ m = length-words_at image at m in
    let size : length (first ++ second) ≡ m + n =
    omega (arith, length-append first second, one, length-words_at image (at + m) n) in
    ext_get_or 0 (first ++ second) (words_at image at (m + n)) (size ∙ sym (length-words_at image at (m + n)))
    (λ i h. let below : i < m + n = omega (arith, size) in
    elim (cases_lt i m) [
      | inl front ↦
          let within : i < length first = omega (arith, one) in
          get_or_append_left first second 0 i within ∙ get_or-words_at image at m i front
          ∙ sym (get_or-words_at image at (m + n) i below)
      | inr past ↦
          let j : ℕ = i - m in
          let place : i ≡ length first + j = omega (arith, one) in
          let there : at + m + j ≡ at + i = omega arith in
          let after : j < n = omega arith in
          ap (λ e. get_or (first ++ second) e 0) place ∙ get_or-append-add first second j 0
          ∙ get_or-words_at image (at + m) n j after ∙ ap (λ e. get_or image e 0) there
          ∙ sym (get_or-words_at image at (m + n) i below)
    ])
