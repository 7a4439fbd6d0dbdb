-- What stands at an address, in a space that is known by its list of words.
use Rattle.std.proofs.Common.{◌≡◌, ◌≢◌, ℕ, ◌-◌, ◌≤◌, suc, zero, arith, refl}
use Rattle.std.proofs.Common.{replicate, slice_index}
use Rattle.std.proofs.lemmas.List.{length-replicate}
use Rattle.std.proofs.lemmas.Grind.{common_steps}
use Rattle.melt_word.specs.Words.{IsHeader, header_word}
use Rattle.melt_word.specs.declared.header.Header.{Header}
use Rattle.melt_space.specs.Space.{SpaceWords, word_at, IsFresh, HasHeader, SetsWord}

-- the word of a number has the index one below
pub word_at-index : (space : SpaceWords) (at : ℕ) → 1 ≤ at → word_at space at ≡ slice_index space.list (at - 1)
word_at-index space zero h = grind arith
word_at-index space (suc k) h = grind arith

pub word_at-replicate : (words used k : ℕ) → word_at (record { list = replicate words 0; used = used }) k ≡ 0
word_at-replicate words used zero = refl
word_at-replicate words used (suc k) = grind (arith, common_steps)

pub fresh : (words : ℕ) → IsFresh words (record { list = replicate words 0; used = 0 })
fresh words = record {
  size = length-replicate words 0;
  used = refl;
  zeros = word_at-replicate words 0;
}

-- a write elsewhere leaves a header where it stands
pub header_stays : (old new : SpaceWords) (at word address : ℕ) → SetsWord old new at word → address ≢ at
    → HasHeader old address → HasHeader new address
header_stays old new at word address sets n h = grind arith

-- a word that is known to be that of a header
pub has_header : (space : SpaceWords) (address : ℕ) (header : Header) → IsHeader header
    → word_at space address ≡ header_word header → HasHeader space address
has_header space address header in_range word = record { header = header; in_range = in_range; word = word }
