-- A forwarding word has one home and one address, fits a word, and is not 0.
use Rattle.std.proofs.Common.{◌≡◌, ◌≢◌, ℕ, arith}
use Rattle.melt_word.specs.Words.{IsDiskHome}
use Rattle.melt_forward.specs.Forwarding.{Sends, forward_word}

pub one_pair : (word home address other_home other_address : ℕ) → Sends word home address
    → Sends word other_home other_address → (home ≡ other_home) × (address ≡ other_address)
one_pair word home address other_home other_address sends other = (grind arith, grind arith)

pub one_home : (word home address other_home other_address : ℕ) → Sends word home address
    → Sends word other_home other_address → home ≡ other_home
one_home word home address other_home other_address sends other =
    (one_pair word home address other_home other_address sends other).0

pub one_address : (word home address other_home other_address : ℕ) → Sends word home address
    → Sends word other_home other_address → address ≡ other_address
one_address word home address other_home other_address sends other =
    (one_pair word home address other_home other_address sends other).1

pub forward_word-filled : (home address : ℕ) → IsDiskHome home → forward_word home address ≢ 0
forward_word-filled home address home_in_range = λ empty. grind arith
