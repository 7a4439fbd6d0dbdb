-- Words as bytes.
use Rattle.std.specs.Prelude.{ℕ, zero, suc, List, [], ◌∷◌, drop}
use Rattle.std.specs.List.{flat_map}
use Rattle.byteorder.specs.Endian.{little_bytes, little_number}

-- the 8 bytes of each word, the lowest first, one word after the other
abbrev pub word_bytes : List ℕ → List ℕ
word_bytes words = flat_map (little_bytes 8) words

-- the first n words whose bytes these are: bytes that are missing at the end are zeros
abbrev pub words_in_bytes : ℕ → List ℕ → List ℕ
words_in_bytes zero bytes = []
words_in_bytes (suc n) bytes = little_number 8 bytes ∷ words_in_bytes n (drop 8 bytes)
