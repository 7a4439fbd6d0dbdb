-- Where a word lies, on which of k disks and at which place there: units of 64 words go to the disks in turn.
use Rattle.std.specs.Prelude.{◌≡◌, ℕ, ◌+◌, ◌*◌, ◌/◌, ◌%◌, ◌<◌}

abbrev pub unit_of : ℕ → ℕ
unit_of word = word / 64

abbrev pub disk_of : ℕ → ℕ → ℕ
disk_of k word = unit_of word % k

abbrev pub place_of : ℕ → ℕ → ℕ
place_of k word = unit_of word / k * 64 + word % 64

-- the word that lies on this disk at this place
abbrev pub word_at : ℕ → ℕ → ℕ → ℕ
word_at k disk place = (place / 64 * k + disk) * 64 + place % 64

-- Each word has one place, and each place of a disk has one word.
pub record IsOneToOne (k : ℕ) : Type 0 where
  pub word : (w : ℕ) → word_at k (disk_of k w) (place_of k w) ≡ w
  pub disk : (d p : ℕ) → d < k → disk_of k (word_at k d p) ≡ d
  pub place : (d p : ℕ) → d < k → place_of k (word_at k d p) ≡ p
