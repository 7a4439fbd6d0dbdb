-- What a forwarding found stays found when it grows, and words that are there stay when more are put after them.
use Rattle.std.proofs.Common.{◌≡◌, ℕ, ◌+◌, ◌<◌, ◌≤◌, zero, suc, List, [], ◌∷◌, ◌++◌, length, length-append}
use Rattle.std.proofs.Common.{refl, sym, ap, ◌∙◌, arith, append_assoc}
use Rattle.std.specs.Prelude.{slice_get, slice_index, Some}
use Rattle.std.proofs.lemmas.List.{append-nil, get_or_append_left}
use Rattle.std.proofs.lemmas.Option.{slice_get_within}
use Rattle.melt_model.proofs.Histories.{slice_get-append_left}
use Rattle.melt_space.specs.Space.{SpaceWords}
use Rattle.melt_scion.specs.State.{State}
use Rattle.melt_copy.specs.declared.forwarding.Relocation.{Relocation}
use Rattle.melt_copy.specs.declared.forwarding.Forwarding.{Forwarding}
use Rattle.melt_copy.specs.Tracking.{goes, Grows, word_numbered, Extends, Tracks, TracksIn, TracksFor}

pub Grows-start : (forwarding : Forwarding) → Grows forwarding forwarding
Grows-start forwarding = record { rest = []; moves = sym (append-nil forwarding.moves.items); goes = λ a known. refl }

pub Grows-more : (a b c : Forwarding) → Grows a b → Grows b c → Grows a c
Grows-more a b c first then_ = record {
  rest = first.rest ++ then_.rest;
  moves =
      then_.moves ∙ (ap (λ (ms : List Relocation). ms ++ then_.rest) first.moves
      ∙ append_assoc a.moves.items first.rest then_.rest);
  goes = λ at known.
      let once : goes b at ≡ goes a at = first.goes at known in
      then_.goes at (λ (nought : goes b at ≡ 0). known (sym once ∙ nought)) ∙ once;
}

-- a move that is there stays where it is
pub stays_there : (a b : Forwarding) (k : ℕ) (m : Relocation) → Grows a b → slice_get a.moves.items k ≡ Some m
    → slice_get b.moves.items k ≡ Some m
stays_there a b k m grows at = ap (λ (ms : List Relocation). slice_get ms k) grows.moves
    ∙ (slice_get-append_left a.moves.items grows.rest k (slice_get_within a.moves.items k m at) ∙ at)

pub word_in_before : (a b : List ℕ) (n at : ℕ) → Extends a b n → at ≤ length a → word_numbered b at ≡ word_numbered a at
word_in_before a b n zero extends below = refl
word_in_before a b n (suc k) extends below = extends.before k (omega (arith, below))

-- what one of the words refers to is found
words_for : (space : SpaceWords) (s : State) (a b : Forwarding) (words : List ℕ) (i : ℕ) → TracksIn space s a words
    → Tracks space s b → i < length words → TracksFor space s b (slice_index words i)
words_for space s a b words i in_ tracks below =
    record { tracks = tracks; reference = in_.references i below; reached = λ at refers. in_.reached i at below refers }

module _ (space : SpaceWords) (old now : Forwarding) (words : List ℕ) (i : ℕ)
    (tracks : (s : State) → TracksIn space s old words → Tracks space s now) (below : i < length words) where
  -- a state in which what the next word refers to can be found
  pub may_find_word : (s : State) × TracksIn space s old words
      → (s : State) × TracksFor space s now (slice_index words i)
  may_find_word (s, in_) = (s, words_for space s old now words i in_ (tracks s in_) below)

  -- and that it was found
  pub word_tracked : (new : Forwarding) → ((s : State) → TracksFor space s now (slice_index words i)
      → Tracks space s new) → (s : State) → TracksIn space s old words → Tracks space s new
  word_tracked new finds s in_ = finds s (words_for space s old now words i in_ (tracks s in_) below)

-- one word more after those that are there
pub Extends-push : (a b c : List ℕ) (n w : ℕ) → Extends a b n → c ≡ b ++ w ∷ [] → Extends a c (n + 1)
Extends-push a b c n w extends is = record {
  size = ap length is ∙ (length-append b (w ∷ []) ∙ omega (arith, extends.size));
  before = λ k below. ap (λ (l : List ℕ). slice_index l k) is
      ∙ (get_or_append_left b (w ∷ []) 0 k (omega (arith, extends.size, below)) ∙ extends.before k below);
}
