-- How a forwarded object gets a Stub: first the record is written at its home, while the home still counts as forwarded
-- and nothing is said of its record; then scion, home word and forwarding word change together.
use Rattle.std.specs.Prelude.{◌≡◌, ◌≢◌, ◌⊎◌, ◌^◌, ℕ, ◌+◌, ◌<◌, ◌≤◌, None, Some}
use Rattle.melt_word.specs.Words.{home_word}
use Rattle.melt_forward.specs.Forwarding.{Sends}
use Rattle.melt_scion.specs.State.{Base, State}

-- What no write to the disk and no scion changes of what an event leaves.
pub record SameSizes (b c : Base) : Type 0 where
  pub size : c.size ≡ b.size
  pub globals : c.globals ≡ b.globals
  pub forwards : c.forwards ≡ b.forwards

-- the homes are those from before, and so is the first word past them
pub record SameHomes (b c : Base) : Type 0 where
  pub end : c.end ≡ b.end
  pub homes : c.homes ≡ b.homes
  pub free_homes : c.free_homes ≡ b.free_homes

-- Words on disk differ at most among so many from the home on: what a write at it leaves, whether it failed or not.
pub record WritesHome (s t : State) (home words : ℕ) : Type 0 where
  pub sizes : SameSizes s.base t.base
  pub same_homes : SameHomes s.base t.base
  pub scion : (k : ℕ) → t.base.scion k ≡ s.base.scion k
  pub others : (k : ℕ) → (k < home) ⊎ (home + words ≤ k) → t.base.image k ≡ s.base.image k
  pub free : t.free ≡ s.free
  pub word : (k : ℕ) → t.word k ≡ s.word k
  pub global : (g : ℕ) → t.global g ≡ s.global g
  pub forward : (p : ℕ) → t.forward p ≡ s.forward p

-- The forwarding word at the place is settled: the object to which it sent its home has this scion, which was not live,
-- and the word is empty.
pub record SettlesOne (s t : State) (place home address scion : ℕ) : Type 0 where
  pub within : place < s.base.forwards
  pub sends : Sends (s.forward place) home address
  pub first : 1 ≤ scion
  pub small : scion < 2 ^ 30
  pub not_live : s.base.scion scion ≡ None
  pub sizes : SameSizes s.base t.base
  pub same_homes : SameHomes s.base t.base
  pub image : (k : ℕ) → t.base.image k ≡ s.base.image k
  pub live : t.base.scion scion ≡ Some (record { home = home; address = address })
  pub other_scions : (k : ℕ) → k ≢ scion → t.base.scion k ≡ s.base.scion k
  pub free : t.free ≡ s.free
  pub home_word_is : t.word (address + 1) ≡ home_word (Some (record { home = home; scion = scion }))
  pub other_words : (k : ℕ) → k ≢ address + 1 → t.word k ≡ s.word k
  pub global : (g : ℕ) → t.global g ≡ s.global g
  pub empty : t.forward place ≡ 0
  pub other_forwards : (q : ℕ) → q ≢ place → t.forward q ≡ s.forward q
