-- Forwarding words: each is empty or sends one home to the address of its object. And where a search for a home looks.
use Rattle.std.specs.Prelude.{◌≡◌, ◌≢◌, ◌⊎◌, ℕ, ◌+◌, ◌*◌, ◌%◌, ◌^◌, ◌<◌, ◌==◌, suc, zero, if◌then◌else◌}
use Rattle.std.specs.Prelude.{List, length, slice_index}
use Rattle.melt_word.specs.Words.{IsAddress, IsDiskHome}
use Rattle.melt_forward.specs.declared.forwarding.Found.{Found}
use Rattle.melt_forward.specs.declared.forwarding.Found.TheVariants.{At, Empty, Full}

-- the word that sends a home to an address
abbrev pub forward_word : ℕ → ℕ → ℕ
forward_word home address = 4294967296 * home + 4 * address

-- The word sends the home to the address, each in its range. Without the ranges one word would be that of many pairs.
pub record Sends (word home address : ℕ) : Type 0 where
  pub home_in_range : IsDiskHome home
  pub address_in_range : IsAddress address
  pub is : word ≡ forward_word home address

-- 0, or such a word
abbrev pub IsForwarding : ℕ → Type 0
IsForwarding word = (word ≡ 0) ⊎ ((home : ℕ) × (address : ℕ) × Sends word home address)

-- the word does not send the home to any address
abbrev pub SendsNot : ℕ → ℕ → Type 0
SendsNot word home = (address : ℕ) → Sends word home address → ⊥

-- the word sends a home, and another than this
abbrev pub SendsAnother : ℕ → ℕ → Type 0
SendsAnother word home = (other : ℕ) × (address : ℕ) × (other ≢ home) × Sends word other address

-- Where the search for a home starts among so many words: the factor brings homes that stand side by side far apart.
unfoldable pub start : ℕ → ℕ → ℕ
start home count = home * 2654435769 % 2 ^ 32 % count

-- the place that is tried after a place: after the last the first
abbrev pub next : ℕ → ℕ → ℕ
next count place = if place + 1 == count then 0 else place + 1

-- the place that is tried after k others
abbrev pub probe : ℕ → ℕ → ℕ → ℕ
probe home count zero = start home count
probe home count (suc k) = next count (probe home count k)

-- the word that the search for a home reads after k others
abbrev pub probed : List ℕ → ℕ → ℕ → ℕ
probed words home k = slice_index words (probe home (length words) k)

-- each word is a forwarding word
abbrev pub AreForwarding : List ℕ → Type 0
AreForwarding words = (k : ℕ) → k < length words → IsForwarding (slice_index words k)

-- Before the place of a word that sends a home, in the order in which that home is searched for, no word is empty. So the
-- first empty word ends a search.
pub record HaveNoGaps (words : List ℕ) : Type 0 where
  pub filled : (home address k i : ℕ) → k < length words → Sends (probed words home k) home address → i < k
      → probed words home i ≢ 0

-- no word sends the home
abbrev pub IsUnsent : List ℕ → ℕ → Type 0
IsUnsent words home = (k : ℕ) → k < length words → SendsNot (slice_index words k) home

-- of the words that send the home, the first that the search reads sends it to this address
pub record SentTo (words : List ℕ) (home address : ℕ) : Type 0 where
  pub tried : ℕ
  pub in_range : tried < length words
  pub here : Sends (probed words home tried) home address
  pub before : (k : ℕ) → k < tried → SendsNot (probed words home k) home

-- of the empty places, this is the first that the search comes to
pub record FirstEmpty (words : List ℕ) (home place : ℕ) : Type 0 where
  pub tried : ℕ
  pub in_range : tried < length words
  pub is : place ≡ probe home (length words) tried
  pub empty : slice_index words place ≡ 0
  pub before : (k : ℕ) → k < tried → probed words home k ≢ 0

-- each word sends another home
abbrev pub AllSendOthers : List ℕ → ℕ → Type 0
AllSendOthers words home = (k : ℕ) → k < length words → SendsAnother (slice_index words k) home

-- what the search for a home finds
abbrev pub Finds : List ℕ → ℕ → Found → Type 0
Finds words home (At address) = SentTo words home address
Finds words home (Empty place) = IsUnsent words home × FirstEmpty words home place
Finds words home Full = AllSendOthers words home
