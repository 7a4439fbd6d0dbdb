-- What a search knows on its way through the words.
use Rattle.std.proofs.Common.{◌≡◌, ◌≢◌, inl, inr, ℕ, ◌<◌, ◌≤◌, List, length, subst, sym, ◌∙◌, arith}
use Rattle.std.proofs.lemmas.Bool.{cases_order}
use Rattle.std.specs.Prelude.{slice_index}
use Rattle.melt_forward.specs.Forwarding.{Sends, SendsNot, SendsAnother, HaveNoGaps, Finds}
use Rattle.melt_forward.specs.Forwarding.{probe, probed}
use Rattle.melt_forward.specs.declared.forwarding.Found.TheVariants.{At, Empty, Full}
use Rattle.melt_forward.proofs.Pairs.{one_home, forward_word-filled}
use Rattle.melt_forward.proofs.Probing.{each_place_once}

-- each of the words that are tried before n others sends another home
abbrev pub Searched : List ℕ → ℕ → ℕ → Type 0
Searched words home n = (k : ℕ) → k < n → SendsAnother (probed words home k) home

-- an empty word sends none
pub empty_sends_not : (word home : ℕ) → word ≡ 0 → SendsNot word home
empty_sends_not word home empty = λ address sends. grind arith

-- one that sends another home is not empty, and does not send this one
another_filled : (word home : ℕ) → SendsAnother word home → word ≢ 0
another_filled word home (other, address, differs, sends) empty =
    forward_word-filled other address sends.home_in_range (sym sends.is ∙ empty)

another_sends_not : (word home : ℕ) → SendsAnother word home → SendsNot word home
another_sends_not word home (other, address, differs, sends) there also =
    differs (one_home word other address home there sends also)

-- a word that sends the home
pub ends_at : (words : List ℕ) (home n address : ℕ) → Searched words home n → n < length words
    → Sends (probed words home n) home address → Finds words home (At address)
ends_at words home n address searched more sends =
    record {
      tried = n;
      in_range = more;
      here = sends;
      before = λ k below. another_sends_not (probed words home k) home (searched k below);
    }

-- an empty one: no word that is tried later sends the home
unsent : (words : List ℕ) (home n k : ℕ) → Searched words home n → HaveNoGaps words → probed words home n ≡ 0
    → k < length words → SendsNot (probed words home k) home
unsent words home n k searched no_gaps empty below =
    elim (cases_order k n) [
      | inl here ↦ empty_sends_not (probed words home k) home
          (subst (λ (i : ℕ). probed words home i ≡ 0) (sym here) empty)
      | inr (inl before) ↦ another_sends_not (probed words home k) home (searched k before)
      | inr (inr after) ↦ λ address sends. no_gaps.filled home address k n below sends after empty
    ]

pub ends_empty : (words : List ℕ) (home n place : ℕ) → Searched words home n → HaveNoGaps words → n < length words
    → place ≡ probe home (length words) n → slice_index words place ≡ 0 → Finds words home (Empty place)
ends_empty words home n place searched no_gaps more is empty =
    let here = subst (λ (p : ℕ). slice_index words p ≡ 0) is empty in (
      λ p below.
          let once = each_place_once home (length words) p below in
          subst (λ (q : ℕ). SendsNot (slice_index words q) home) once.1.here
          (unsent words home n once.0 searched no_gaps here once.1.in_range),
      record {
        tried = n;
        in_range = more;
        is = is;
        empty = empty;
        before = λ k below. another_filled (probed words home k) home (searched k below);
      },
    )

-- all words were read
pub ends_full : (words : List ℕ) (home n : ℕ) → Searched words home n → length words ≤ n → Finds words home Full
ends_full words home n searched all p below =
    let once = each_place_once home (length words) p below in
    let in_range : once.0 < length words = once.1.in_range in
    subst (λ (q : ℕ). SendsAnother (slice_index words q) home) once.1.here (searched once.0 (omega arith))
