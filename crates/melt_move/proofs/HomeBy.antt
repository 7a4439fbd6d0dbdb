-- Where the homes lie that a decision gives to objects.
use Rattle.std.proofs.Common.{◌≡◌, ℕ, ◌+◌, ◌<◌, ◌≤◌, ◌^◌, take, sym, ap, ◌∙◌, subst, arith, inl, inr}
use Rattle.std.specs.Prelude.{slice_index, Option, None, Some}
use Rattle.std.proofs.lemmas.Bool.Decides.{eqb_tells}
use Rattle.melt_word.specs.Words.{IsHome, home_word, cost_of}
use Rattle.melt_word.specs.declared.header.Header.{Header}
use Rattle.melt_word.specs.declared.home.HomeWord.{HomeWord}
use Rattle.melt_space.specs.Space.{SpaceWords, word_at}
use Rattle.melt_scion.specs.State.{State, HeaderAt, Reached}
use Rattle.melt_scion.proofs.Geometry.{one_header}
use Rattle.melt_move.specs.declared.decision.Decision.{Decision}
use Rattle.melt_move.specs.Plans.{need_for, new_home, home_by, WantsHome, IsDecision, HasRoom}
use Rattle.melt_move.proofs.HomesBy.{new_after, wants_given, given_within, home-cases}
use Rattle.melt_move.proofs.Needs.{need-front}

-- a new home lies on the disk, if there is one
pub new_home_small : (space : SpaceWords) (s : State) (decision : Decision) (address : ℕ) → IsDecision space s decision
    → HasRoom decision → new_home decision.homes.first (slice_index decision.homes.offsets.items address) < 2 ^ 32
new_home_small space s decision address decided room =
    let offset : ℕ = slice_index decision.homes.offsets.items address in
    elim (eqb_tells offset 0) [
      | inl none ↦
          let nought : new_home decision.homes.first offset ≡ 0 = ap (new_home decision.homes.first) none.1 in
          omega (arith, nought)
      | inr some ↦
          let is = decided.homes.only address some.1 in
          let before : ℕ = need_for (take is.0 decision.homes.given.items) in
          let same : offset ≡ 1 + before =
          ap (slice_index decision.homes.offsets.items) (sym is.3) ∙ decided.homes.offset is.0 is.1 is.2 in
          omega (
            arith,
            new_after decision.homes.first before offset same,
            need-front decision.homes.given.items is.0 is.1 is.2,
            room,
          )
    ]

-- the home word of an object that can be reached is that of a home or of none
pub home_decodes : (space : SpaceWords) (s : State) (decision : Decision) (address : ℕ) → IsDecision space s decision
    → Reached s address → (h : Option HomeWord) × IsHome h × (word_at space (address + 1) ≡ home_word h)
home_decodes space s decision address decided reached =
    elim (decided.old_homes address reached) [
      | inl none ↦ (None, tt, sym (decided.seen.word (address + 1)) ∙ none)
      | inr old ↦ (
        Some (record { home = old.0; scion = old.1 }),
        old.2.in_range,
        sym (decided.seen.word (address + 1)) ∙ old.2.is,
      )
    ]

-- The home of an object that has one when the collection is over: it lies after word 0 and before the end of all
-- homes.
pub record HomeLies (s : State) (decision : Decision) (address home : ℕ) : Type 0 where
  pub first : 1 ≤ home
  pub small : home < 2 ^ 32
  pub within : (header : Header) → HeaderAt s address header
      → home + cost_of header.shape ≤ decision.homes.first + need_for decision.homes.given.items

-- An object that leaves, or to which one that leaves refers, has a home.
pub home_lies : (space : SpaceWords) (s : State) (decision : Decision) (address : ℕ) → IsDecision space s decision
    → HasRoom decision → Reached s address → (s.word (address + 1) ≡ 0 → WantsHome s address)
    → HomeLies s decision address (home_by s.word decision address)
home_lies space s decision address decided room reached wants =
    elim (home-cases s decision address (decided.old_homes address reached)) [
      | inl old ↦ record {
        first = old.1.in_range.home.not_null;
        small = old.1.in_range.home.small;
        within = λ header starts. omega (arith, old.1.within header starts, decided.first);
      }
      | inr none ↦
          let first : 1 ≤ decision.homes.first = omega (arith, decided.first, decided.first_end) in
          let is = wants_given s decision decided.homes first address (wants none) in
          let within = given_within s decision decided.homes first is.index is.given is.is in
          let same : home_by s.word decision is.given.from ≡ home_by s.word decision address =
          ap (home_by s.word decision) is.from in
          let shaped = (decided.homes.each is.index is.given is.is).1 in
          record {
            first = omega (arith, same, within.0, first);
            small = omega (arith, same, within.1, room);
            within = λ header starts.
                let one : header ≡ shaped.header =
                one_header s address header shaped.header starts (subst (λ (a : ℕ). HeaderAt s a shaped.header) is.from
                shaped.starts) in
                let cost : cost_of header.shape ≡ cost_of is.given.shape =
                ap (λ (h : Header). cost_of h.shape) one ∙ ap cost_of shaped.is in
                omega (arith, same, within.1, cost);
          }
    ]
