-- What a space is to contracts, and what its operations do to its words.
use Rattle.std.specs.Prelude.{◌≡◌, ◌≢◌, ℕ, ◌+◌, ◌-◌, ◌^◌, ◌<◌, ◌≤◌, suc, zero, false, List, length, slice_index}
use Rattle.melt_word.specs.Words.{IsHeader, cost_of, header_word}
use Rattle.melt_word.specs.declared.header.Shape.{Shape}
use Rattle.melt_word.specs.declared.header.Header.{Header}
use Rattle.melt_space.specs.declared.space.NoRoom.{NoRoom}

-- all words of a space in order, and how many of them are in use, from the first on
pub record SpaceWords : Type 0 where
  pub list : List ℕ
  pub used : ℕ

-- every word has an address
pub record IsSpace (space : SpaceWords) : Type 0 where
  pub used : space.used ≤ length space.list
  pub small : length space.list < 2 ^ 30

-- words are numbered from 1; nothing stands at 0, nor past the last word
abbrev pub word_at : SpaceWords → ℕ → ℕ
word_at space zero = 0
word_at space (suc k) = slice_index space.list k

-- a word of the space has the number
pub record IsWord (space : SpaceWords) (at : ℕ) : Type 0 where
  pub first : 1 ≤ at
  pub last : at ≤ length space.list

-- the word at the address is that of a header
pub record HasHeader (space : SpaceWords) (address : ℕ) : Type 0 where
  pub header : Header
  pub in_range : IsHeader header
  pub word : word_at space address ≡ header_word header

-- a space of so many words, with no word in use
pub record IsFresh (words : ℕ) (space : SpaceWords) : Type 0 where
  pub size : length space.list ≡ words
  pub used : space.used ≡ 0
  pub zeros : (k : ℕ) → word_at space k ≡ 0

-- the space holds one object more, after those that it held
pub record Makes (old new : SpaceWords) (shape : Shape) (address : ℕ) : Type 0 where
  pub place : address ≡ old.used + 1
  pub fits : old.used + cost_of shape ≤ length old.list
  pub used : new.used ≡ old.used + cost_of shape
  pub size : length new.list ≡ length old.list
  pub header : word_at new address ≡ header_word (record { shape = shape; stale = false })
  pub zeros : (k : ℕ) → address < k → k < address + cost_of shape → word_at new k ≡ 0
  pub before : (k : ℕ) → k < address → word_at new k ≡ word_at old k
  pub after : (k : ℕ) → address + cost_of shape ≤ k → word_at new k ≡ word_at old k

-- the words that are free are fewer than the object needs
pub record Lacks (space : SpaceWords) (shape : Shape) (error : NoRoom) : Type 0 where
  pub free : error.free ≡ length space.list - space.used
  pub need : error.need ≡ cost_of shape
  pub fewer : error.free < error.need

-- one word changes, and nothing else
pub record SetsWord (old new : SpaceWords) (at word : ℕ) : Type 0 where
  pub here : word_at new at ≡ word
  pub others : (k : ℕ) → k ≢ at → word_at new k ≡ word_at old k
  pub size : length new.list ≡ length old.list
  pub used : new.used ≡ old.used

-- the first words are these, as many as there are, and they are the words in use; the others stay
pub record Replaces (old new : SpaceWords) (words : List ℕ) : Type 0 where
  pub front : (k : ℕ) → k < length words → word_at new (suc k) ≡ slice_index words k
  pub after : (k : ℕ) → length words < k → word_at new k ≡ word_at old k
  pub size : length new.list ≡ length old.list
  pub used : new.used ≡ length words

-- these are the words from an address on, so many of them
pub record AreWords (space : SpaceWords) (at count : ℕ) (words : List ℕ) : Type 0 where
  pub count_is : length words ≡ count
  pub each : (k : ℕ) → k < count → slice_index words k ≡ word_at space (at + k)
