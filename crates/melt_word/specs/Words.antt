-- What the words of a heap space hold: each word is a function of the value that it stands for.
use Rattle.std.specs.Prelude.{◌≡◌, ◌⊎◌, ℕ, ◌+◌, ◌*◌, ◌/◌, ◌%◌, ◌^◌, ◌<◌, ◌≤◌, Bool, true, false, Option, None, Some}
use Rattle.melt_word.specs.declared.reference.Ref.{Ref}
use Rattle.melt_word.specs.declared.reference.Ref.TheVariants.{Null, Clean, Stale, Disk}
use Rattle.melt_word.specs.declared.header.Shape.{Shape}
use Rattle.melt_word.specs.declared.header.Header.{Header}
use Rattle.melt_word.specs.declared.home.HomeWord.{HomeWord}

-- an address of an object in a space
pub record IsAddress (address : ℕ) : Type 0 where
  pub not_null : 0 < address
  pub small : address < 2 ^ 30

-- the number of an object on disk
pub record IsDiskHome (home : ℕ) : Type 0 where
  pub not_null : 0 < home
  pub small : home < 2 ^ 32

abbrev pub IsRef : Ref → Type 0
IsRef Null = Unit {0}
IsRef (Clean address) = IsAddress address
IsRef (Stale address) = IsAddress address
IsRef (Disk home) = IsDiskHome home

-- the number in the upper 62 bits, the tag in the lowest two
abbrev pub ref_word : Ref → ℕ
ref_word Null = 0
ref_word (Clean address) = 4 * address
ref_word (Stale address) = 4 * address + 1
ref_word (Disk home) = 4 * home + 3

pub record IsShape (shape : Shape) : Type 0 where
  pub refs : shape.refs ≤ 62
  pub nums : shape.nums ≤ 62

abbrev pub IsHeader : Header → Type 0
IsHeader header = IsShape header.shape

abbrev pub bit : Bool → ℕ
bit false = 0
bit true = 1

-- a byte with the lowest bit set and the stale bit beside it, a byte for each part of the shape
abbrev pub header_word : Header → ℕ
header_word header = 1 + 2 * bit header.stale + 256 * header.shape.refs + 65536 * header.shape.nums

-- what stands in the place of a header while objects move: the header still, or a clean reference to the copy
abbrev pub StandsAsHeader : ℕ → Type 0
StandsAsHeader word = ((h : Header) × IsHeader h × (word ≡ header_word h))
    ⊎ ((address : ℕ) × IsAddress address × (word ≡ ref_word (Clean address)))

pub record IsHomeAndScion (word : HomeWord) : Type 0 where
  pub home : IsDiskHome word.home
  pub scion : word.scion < 2 ^ 30

-- no home, or one with its scion
abbrev pub IsHome : Option HomeWord → Type 0
IsHome None = Unit {0}
IsHome (Some word) = IsHomeAndScion word

-- the home in the upper half, the scion in the lower half above two clear bits
abbrev pub home_word : Option HomeWord → ℕ
home_word None = 0
home_word (Some word) = 4294967296 * word.home + 4 * word.scion

-- the home in such a word, 0 for none, and the scion
abbrev pub home_part : ℕ → ℕ
home_part word = word / 4294967296

abbrev pub scion_part : ℕ → ℕ
scion_part word = word % 4294967296 / 4

abbrev pub cost_of : Shape → ℕ
cost_of shape = 2 + shape.refs + shape.nums
