-- Words of one unit lie at places that follow one another, and later places of a disk have later words.
use Rattle.std.proofs.Common.{◌≡◌, ℕ, zero, suc, ◌+◌, ◌*◌, ◌/◌, ◌%◌, ◌<◌, ◌≤◌, max, ◌∙◌, ap, inl, inr, arith}
use Rattle.std.proofs.lemmas.Bool.{cases_lt}
use Rattle.std.proofs.lemmas.Nat.{div-mul-add, mod-mul-add}
use Rattle.std.proofs.Math.Nat.{mod-lt, div-add-mod}
use Rattle.melt_stripe.specs.Images.{end_on}
use Rattle.melt_stripe.specs.Units.{disk_of, place_of, word_at}

-- of a place, the unit of the disk and the word in it
unit_of_place : (m r : ℕ) → r < 64 → (m * 64 + r) / 64 ≡ m
unit_of_place m r below = omega arith

rest_of_place : (m r : ℕ) → r < 64 → (m * 64 + r) % 64 ≡ r
rest_of_place m r below = omega arith

pub disk_below : (k w : ℕ) → 0 < k → disk_of k w < k
disk_below k w some = mod-lt (w / 64) some

-- a word, and the word at its place
pub word_again : (k w : ℕ) → 0 < k → word_at k (disk_of k w) (place_of k w) ≡ w
word_again k w some =
    let unit : ℕ = w / 64 in
    let low : w % 64 < 64 = omega arith in
    let here : place_of k w / 64 ≡ unit / k = unit_of_place (unit / k) (w % 64) low in
    let rest : place_of k w % 64 ≡ w % 64 = rest_of_place (unit / k) (w % 64) low in
    let whole : unit / k * k + unit % k ≡ unit = grind (arith, div-add-mod unit k) in
    ap (λ m. (m * k + unit % k) * 64 + place_of k w % 64) here ∙ ap (λ m. m * 64 + place_of k w % 64) whole
    ∙ ap (λ r. unit * 64 + r) rest ∙ omega arith

pub disk_again : (k d p : ℕ) → d < k → disk_of k (word_at k d p) ≡ d
disk_again k d p below =
    let unit : word_at k d p / 64 ≡ p / 64 * k + d = unit_of_place (p / 64 * k + d) (p % 64) (omega arith) in
    ap (λ u. u % k) unit ∙ mod-mul-add (p / 64) k d below

pub place_again : (k d p : ℕ) → d < k → place_of k (word_at k d p) ≡ p
place_again k d p below =
    let low : p % 64 < 64 = omega arith in
    let unit : word_at k d p / 64 ≡ p / 64 * k + d = unit_of_place (p / 64 * k + d) (p % 64) low in
    let rest : word_at k d p % 64 ≡ p % 64 = rest_of_place (p / 64 * k + d) (p % 64) low in
    ap (λ u. u / k * 64 + word_at k d p % 64) unit
    ∙ ap (λ u. u * 64 + word_at k d p % 64) (div-mul-add (p / 64) k d below)
    ∙ ap (λ r. p / 64 * 64 + r) rest ∙ omega arith

-- the words after one, as far as its unit goes
pub disk_on : (k w i : ℕ) → w % 64 + i < 64 → disk_of k (w + i) ≡ disk_of k w
disk_on k w i fits = let unit : (w + i) / 64 ≡ w / 64 = omega arith in ap (λ u. u % k) unit

pub place_on : (k w i : ℕ) → w % 64 + i < 64 → place_of k (w + i) ≡ place_of k w + i
place_on k w i fits =
    let unit : (w + i) / 64 ≡ w / 64 = omega arith in
    let rest : (w + i) % 64 ≡ w % 64 + i = omega arith in
    ap (λ u. u / k * 64 + (w + i) % 64) unit ∙ ap (λ r. w / 64 / k * 64 + r) rest ∙ omega arith

pub place_rest : (k w : ℕ) → place_of k w % 64 ≡ w % 64
place_rest k w = rest_of_place (w / 64 / k) (w % 64) (omega arith)

pub place_le : (k w : ℕ) → 0 < k → place_of k w ≤ w
place_le k w some =
    let less : w / 64 / k ≤ w / 64 = grind (arith, div-add-mod (w / 64) k) in
    omega arith

pub word_on : (k d p i : ℕ) → p % 64 + i < 64 → word_at k d (p + i) ≡ word_at k d p + i
word_on k d p i fits =
    let unit : (p + i) / 64 ≡ p / 64 = omega arith in
    let rest : (p + i) % 64 ≡ p % 64 + i = omega arith in
    ap (λ u. (u * k + d) * 64 + (p + i) % 64) unit ∙ ap (λ r. (p / 64 * k + d) * 64 + r) rest ∙ omega arith

units_apart : (k m n : ℕ) → m < n → m * k + k ≤ n * k
units_apart k m n below = grind arith

pub word_later : (k d p q : ℕ) → d < k → p ≤ q → word_at k d p ≤ word_at k d q
word_later k d p q low le = elim (cases_lt (p / 64) (q / 64)) [
  | inl earlier ↦ let apart = units_apart k (p / 64) (q / 64) earlier in omega arith
  | inr same ↦
      let unit : q / 64 ≡ p / 64 = omega arith in
      let there : word_at k d q ≡ (p / 64 * k + d) * 64 + q % 64 = ap (λ u. (u * k + d) * 64 + q % 64) unit in
      omega arith
]

-- the end of a disk after its first n places
pub end_later : (k d m n : ℕ) → d < k → m ≤ n → end_on k d m ≤ end_on k d n
end_later k d zero n low le = omega arith
end_later k d (suc m) zero low le = absurd (omega arith)
end_later k d (suc m) (suc n) low le = let later = word_later k d m n low (omega arith) in omega arith

pub end_max : (k d m n : ℕ) → d < k → end_on k d (max m n) ≡ max (end_on k d m) (end_on k d n)
end_max k d m n low = elim (cases_lt m n) [
  | inl less ↦
      let is : max m n ≡ n = omega arith in
      let later = end_later k d m n low (omega arith) in
      ap (λ p. end_on k d p) is ∙ omega arith
  | inr more ↦
      let is : max m n ≡ m = omega arith in
      let later = end_later k d n m low more in
      ap (λ p. end_on k d p) is ∙ omega arith
]

end_after : (k d n last : ℕ) → n ≡ suc last → end_on k d n ≡ word_at k d last + 1
end_after k d n last is = ap (λ m. end_on k d m) is

-- the end after n words of one unit
pub end_written : (k w n : ℕ) → 0 < k → 0 < n → w % 64 + n ≤ 64
    → end_on k (disk_of k w) (place_of k w + n) ≡ w + n
end_written k w zero some more fits = absurd (omega arith)
end_written k w (suc last) some more fits =
    let d : ℕ = disk_of k w in
    let p : ℕ = place_of k w in
    let low : p % 64 + last < 64 = omega (arith, place_rest k w) in
    end_after k d (p + suc last) (p + last) (omega arith)
    ∙ ap (λ v. v + 1) (word_on k d p last low ∙ ap (λ v. v + last) (word_again k w some)) ∙ omega arith

-- a place at which a disk has a word
pub end_of_place : (k d n p : ℕ) → d < k → p < n → word_at k d p < end_on k d n
end_of_place k d zero p low below = absurd (omega arith)
end_of_place k d (suc last) p low below = let later = word_later k d p last low (omega arith) in omega arith
