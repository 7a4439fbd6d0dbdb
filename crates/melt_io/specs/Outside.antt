-- The words in which the traits of the outside are told.
use Rattle.std.specs.Prelude.{◌≡◌, ℕ, ◌+◌, ◌-◌, ◌^◌, ◌<◌, ◌≤◌, List, ◌++◌, length, take, drop, replicate, min}
use Rattle.std.specs.Prelude.{slice_index, Option, None, Some, Result, OnOk, OnErr}

-- A counter is a word, and stands still once it is at its end.
abbrev pub counted : ℕ → ℕ → ℕ
counted count more = min (count + more) (2 ^ 64 - 1)

-- The count rose, or it stands at its end and cannot rise.
abbrev pub Rose : ℕ → ℕ → Type 0
Rose before after = before < 2 ^ 64 - 1 → before < after

-- The count of faults of an object stays where a call of it ends well, and rises where it fails.
pub record CountsFault {A E : Type 0} (result : Result A E) (before after : ℕ) : Type 0 where
  pub no_fault : OnOk result (after ≡ before)
  pub failed : OnErr result (Rose before after)
  pub count : before ≤ after
  pub word : after < 2 ^ 64

-- The old bytes are this front and the new ones, where they are told.
abbrev pub TakesFront : Option (List ℕ) → List ℕ → Option (List ℕ) → Type 0
TakesFront None front None = Unit {0}
TakesFront (Some old) front (Some new) = old ≡ front ++ new
TakesFront None front (Some new) = ⊥
TakesFront (Some old) front None = ⊥

-- The new bytes are the old ones and this piece, where they are told.
abbrev pub Appends : Option (List ℕ) → List ℕ → Option (List ℕ) → Type 0
Appends None piece None = Unit {0}
Appends (Some old) piece (Some new) = new ≡ old ++ piece
Appends None piece (Some new) = ⊥
Appends (Some old) piece None = ⊥

-- n words from word `at` on, with zeros past the end
abbrev pub words_at : List ℕ → ℕ → ℕ → List ℕ
words_at image at n = take n (drop at image ++ replicate n 0)

-- the items with new ones from place `at` on, and blank ones between where there were fewer
abbrev pub overlaid : {A : Type 0} → A → List A → ℕ → List A → List A
overlaid blank items at new = take at (items ++ replicate at blank) ++ new ++ drop (at + length new) items

-- the image with these words from word `at` on, with zeros between where it was shorter; of a file's bytes
-- it is said too, as is what follows
abbrev pub with_words : List ℕ → ℕ → List ℕ → List ℕ
with_words image at words = overlaid 0 image at words

abbrev pub Writes : Option (List ℕ) → ℕ → List ℕ → Option (List ℕ) → Type 0
Writes None at words None = Unit {0}
Writes (Some old) at words (Some new) = new ≡ with_words old at words
Writes None at words (Some new) = ⊥
Writes (Some old) at words None = ⊥

-- Each word before `at` and from `at + n` on is as before, where words are told.
pub record SameOutside (old : List ℕ) (at n : ℕ) (new : List ℕ) : Type 0 where
  pub before : (k : ℕ) → k < at → slice_index new k ≡ slice_index old k
  pub after : (k : ℕ) → at + n ≤ k → slice_index new k ≡ slice_index old k

abbrev pub KeepsOthers : Option (List ℕ) → ℕ → ℕ → Option (List ℕ) → Type 0
KeepsOthers None at n None = Unit {0}
KeepsOthers (Some old) at n (Some new) = SameOutside old at n new
KeepsOthers None at n (Some new) = ⊥
KeepsOthers (Some old) at n None = ⊥
