-- Each of the three words stands for one value at most: values in range that have the same word are equal.
use Rattle.std.proofs.Common.{◌≡◌, ℕ, arith}
use Rattle.std.specs.Prelude.{◌^◌, ◌<◌, Option, Some}
use Rattle.melt_word.specs.Words.{IsRef, ref_word, IsHeader, header_word, IsHome, home_word, home_part, scion_part}
use Rattle.melt_word.specs.declared.reference.Ref.{Ref}
use Rattle.melt_word.specs.declared.header.Header.{Header}
use Rattle.melt_word.specs.declared.home.HomeWord.{HomeWord}

pub same_ref : (r s : Ref) → IsRef r → IsRef s → ref_word r ≡ ref_word s → r ≡ s
same_ref r s p q e = grind arith

pub same_header : (h k : Header) → IsHeader h → IsHeader k → header_word h ≡ header_word k → h ≡ k
same_header h k p q e = grind arith

pub same_home : (h k : Option HomeWord) → IsHome h → IsHome k → home_word h ≡ home_word k → h ≡ k
same_home h k p q e = grind arith

-- home and scion are read off their word
pub home_part_is : (home scion : ℕ) → scion < 2 ^ 30
    → home_part (home_word (Some (record { home = home; scion = scion }))) ≡ home
home_part_is home scion small = omega (arith, small)

pub scion_part_is : (home scion : ℕ) → scion < 2 ^ 30
    → scion_part (home_word (Some (record { home = home; scion = scion }))) ≡ scion
scion_part_is home scion small = omega (arith, small)
