-- The words of references in what stays.
use Rattle.std.proofs.Common.{◌≡◌, ◌≢◌, ℕ, ◌+◌, ◌<◌, List, [], ◌∷◌, ◌++◌, length, sym, subst, ap, ◌∙◌}
use Rattle.std.proofs.Common.{arith, inl, inr, below_more}
use Rattle.std.specs.Prelude.{slice_index}
use Rattle.std.proofs.lemmas.List.{get_or_append_left, get_or_push}
use Rattle.melt_model.specs.declared.reports.Phase.TheVariants.{Move}
use Rattle.melt_word.specs.Words.{IsAddress, IsDiskHome, home_part}
use Rattle.melt_space.specs.Space.{SpaceWords, word_at}
use Rattle.melt_scion.specs.State.{State}
use Rattle.melt_scion.specs.Moves.{Leaves}
use Rattle.melt_copy.specs.Tracking.{Extends, goes}
use Rattle.melt_copy.proofs.Places.{place_below}
use Rattle.melt_copy.proofs.Sources.{found_fits}
use Rattle.melt_move.specs.declared.decision.Decision.{Decision}
use Rattle.melt_move.specs.Plans.{new_home, home_or, home_by, IsDecision}
use Rattle.melt_move.specs.Staying.{AreSources, Follows, IsSource, StaysAs, WordsStay}
use Rattle.melt_move.proofs.HomeBy.{home_lies}

-- homes by the words of the space are those by the state's
pub home_by_seen : (space : SpaceWords) (s : State) (decision : Decision) (address : ℕ) → IsDecision space s decision
    → home_by s.word decision address ≡ home_by (word_at space) decision address
home_by_seen space s decision address decided =
    ap (λ (w : ℕ). home_or (home_part w) (new_home decision.homes.first
    (slice_index decision.homes.offsets.items address))) (decided.seen.word (address + 1))

-- an object without a place leaves
leaves_here : (space : SpaceWords) (s : State) (decision : Decision) (address : ℕ)
    → Follows space s decision address → goes decision.choice.stay address ≡ 0 → Leaves Move s address
leaves_here space s decision address follows none =
    elim (follows.decided.choice.chooses.go address follows.reached) [
      | inl stays ↦ absurd (stays none)
      | inr leaves ↦ leaves
    ]

-- and so has a home
pub home_there : (space : SpaceWords) (s : State) (decision : Decision) (address : ℕ)
    → Follows space s decision address → goes decision.choice.stay address ≡ 0
    → IsDiskHome (home_by (word_at space) decision address)
home_there space s decision address follows none =
    let leaves = leaves_here space s decision address follows none in
    let lies = home_lies space s decision address follows.decided follows.room follows.reached
    (λ had_none. record { why = inl leaves; had_none = had_none }) in
    subst IsDiskHome (home_by_seen space s decision address follows.decided)
    (record { not_null = lies.first; small = lies.small })

-- a place is an address
pub place_there : (space : SpaceWords) (s : State) (decision : Decision) (address : ℕ)
    → Follows space s decision address → goes decision.choice.stay address ≢ 0
    → IsAddress (goes decision.choice.stay address)
place_there space s decision address follows some =
    let f : ℕ → ℕ = goes decision.choice.stay in
    let stay = follows.decided.choice.stay in
    let whole = follows.decided.seen.whole in
    let m = stay.only address some in
    let to : f address ≡ m.1.to = ap f (sym m.3) ∙ stay.found m.0 m.1 m.2 in
    let below = place_below s f decision.choice.stay.moves.items decision.choice.stay.next m.0 m.1 stay m.2 in
    let fits = found_fits s f decision.choice.stay.moves.items decision.choice.stay.next m.0 m.1 whole stay m.2 in
    record {
      not_null = omega (arith, to, below.0);
      small = omega (arith, to, below.1, fits, whole.small, whole.inside);
    }

-- one of the words
pub source_at : (space : SpaceWords) (s : State) (decision : Decision) (words : List ℕ) (i : ℕ)
    → AreSources space s decision words → i < length words → IsSource space s decision (slice_index words i)
source_at space s decision words i sources below = record {
  decided = sources.decided;
  room = sources.room;
  reference = sources.references i below;
  reached = λ address refers. sources.reached i address below refers;
}

-- one word more, in a relation to that which it comes from
pub related_push : (R : ℕ → ℕ → Type 0) (words : List ℕ) {a b c : List ℕ} {n : ℕ} (w : ℕ) → Extends a b n
    → c ≡ b ++ w ∷ [] → ((i : ℕ) → i < n → R (slice_index words i) (slice_index b (length a + i)))
    → R (slice_index words n) w → (i : ℕ) → i < n + 1 → R (slice_index words i) (slice_index c (length a + i))
related_push R words {a} {b} {c} {n} w extends is before here =
    below_more _ _
    (λ i below.
    let same : slice_index c (length a + i) ≡ slice_index b (length a + i) =
    ap (λ (l : List ℕ). slice_index l (length a + i)) is
    ∙ get_or_append_left b (w ∷ []) 0 (length a + i) (omega (arith, extends.size, below)) in
    subst (R (slice_index words i)) (sym same) (before i below))
    (let last : slice_index c (length a + n) ≡ w = ap (λ (l : List ℕ). slice_index l (length a + n)) is
    ∙ get_or_push b w 0 (length a + n) (omega (arith, extends.size)) in
    subst (R (slice_index words n)) (sym last) here)

-- words put into none are all that there are
pub words_stay : (s : State) (decision : Decision) (words out new : List ℕ) → out ≡ []
    → Extends out new (length words)
    → ((i : ℕ) → i < length words → StaysAs s decision (slice_index words i) (slice_index new (length out + i)))
    → WordsStay s decision words new
words_stay s decision words out new empty extends stay =
    let none : length out ≡ 0 = ap length empty in
    record {
      size = omega (arith, extends.size, none);
      each = λ i below.
          let place : length out + i ≡ i = omega (arith, none) in
          subst (λ (n : ℕ). StaysAs s decision (slice_index words i) (slice_index new n)) place (stay i below);
    }
