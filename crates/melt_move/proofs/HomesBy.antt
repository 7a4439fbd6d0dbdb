-- The home of each object when a Move collection is over: the one from before, or the one that was given, or none.
use Rattle.std.proofs.Common.{◌≡◌, ◌≢◌, ◌⊎◌, inl, inr, ℕ, zero, suc, ◌+◌, ◌<◌, ◌≤◌, take, refl, sym, ◌∙◌}
use Rattle.std.proofs.Common.{ap}
use Rattle.std.proofs.Common.{subst, arith}
use Rattle.std.specs.Prelude.{slice_get, slice_index, Some}
use Rattle.std.proofs.lemmas.Bool.{cases_order}
use Rattle.melt_word.specs.Words.{home_part, cost_of}
use Rattle.melt_scion.specs.State.{State}
use Rattle.melt_scion.specs.Moves.{GetsHome}
use Rattle.melt_scion.proofs.NobodyLeaves.{parts_of_word}
use Rattle.melt_move.specs.declared.homes.Given.{Given}
use Rattle.melt_move.specs.declared.decision.Decision.{Decision}
use Rattle.melt_move.specs.Plans.{GivesNew, HasOldHome, OldHome, WantsHome, home_or, home_by, need_for, new_home}
use Rattle.melt_move.proofs.Needs.{need-front, need-before}

home_or-some : (old new : ℕ) → old ≢ 0 → home_or old new ≡ old
home_or-some zero new some = absurd (some refl)
home_or-some (suc old) new some = refl

-- an object whose home word is 0 has its new home, or none
pub home-none : (s : State) (decision : Decision) (a : ℕ) → s.word (a + 1) ≡ 0
    → home_by s.word decision a ≡ new_home decision.homes.first (slice_index decision.homes.offsets.items a)
home-none s decision a none =
    ap (λ (word : ℕ). home_or (home_part word) (new_home decision.homes.first
    (slice_index decision.homes.offsets.items a))) none

-- the home after so many words
pub new_after : (first before offset : ℕ) → offset ≡ 1 + before → new_home first offset ≡ first + before
new_after first before zero is = absurd (omega (arith, is))
new_after first before (suc x) is = let same : x ≡ before = omega (arith, is) in ap (λ (n : ℕ). first + n) same

-- one that had a home keeps it
pub home-old : (s : State) (decision : Decision) (a home scion : ℕ) → OldHome s a home scion
    → home_by s.word decision a ≡ home
home-old s decision a home scion old =
    let part = (parts_of_word (s.word (a + 1)) home scion old.in_range.scion old.is).0 in
    let some : home_part (s.word (a + 1)) ≢ 0 =
    (λ nought. omega (arith, part, nought, old.in_range.home.not_null)) in
    home_or-some (home_part (s.word (a + 1))) _ some ∙ part

-- An object that was given a home: its place among all that were.
pub record IsGiven (decision : Decision) (a : ℕ) : Type 0 where
  pub index : ℕ
  pub given : Given
  pub is : slice_get decision.homes.given.items index ≡ Some given
  pub from : given.from ≡ a

module _ (s : State) (decision : Decision) (gives : GivesNew s decision.homes) (first : 1 ≤ decision.homes.first) where
  -- the home of a given object
  pub home-given : (k : ℕ) (g : Given) → slice_get decision.homes.given.items k ≡ Some g
      → home_by s.word decision g.from ≡ decision.homes.first + need_for (take k decision.homes.given.items)
  home-given k g at = home-none s decision g.from (gives.each k g at).0.had_none
      ∙ new_after decision.homes.first _ _ (gives.offset k g at)

  new_some : (offset : ℕ) → new_home decision.homes.first offset ≢ 0 → offset ≢ 0
  new_some zero some = absurd (some refl)
  new_some (suc before) some = λ nought. omega (arith, nought)

  pub some_new : (offset : ℕ) → offset ≢ 0 → new_home decision.homes.first offset ≢ 0
  some_new zero some = absurd (some refl)
  some_new (suc before) some = λ nought. omega (arith, nought, first)

  -- who gets a home was given it
  pub gets_given : (a : ℕ) → GetsHome s (home_by s.word decision) a → IsGiven decision a
  gets_given a gets =
      let some : new_home decision.homes.first (slice_index decision.homes.offsets.items a) ≢ 0 =
      (λ nought. gets.has_one (home-none s decision a gets.had_none ∙ nought)) in
      let is = gives.only a (new_some _ some) in
      record { index = is.0; given = is.1; is = is.2; from = is.3 }

  -- and who wants one was given one
  pub wants_given : (a : ℕ) → WantsHome s a → IsGiven decision a
  wants_given a wants = let is = gives.all a wants in
      record { index = is.0; given = is.1; is = is.2; from = is.3 }

  pub given_some : (a : ℕ) → IsGiven decision a → home_by s.word decision a ≢ 0
  given_some a is nought =
      let home = home-given is.index is.given is.is in
      let same : home_by s.word decision is.given.from ≡ 0 = ap (home_by s.word decision) is.from ∙ nought in
      omega (arith, home, same, first)

  pub wants_some : (a : ℕ) → WantsHome s a → home_by s.word decision a ≢ 0
  wants_some a wants = given_some a (wants_given a wants)

  -- a new home lies after all from before, and before the end
  pub given_within : (k : ℕ) (g : Given) → slice_get decision.homes.given.items k ≡ Some g
      → (decision.homes.first ≤ home_by s.word decision g.from)
      × (home_by s.word decision g.from + cost_of g.shape
      ≤ decision.homes.first + need_for decision.homes.given.items)
  given_within k g at =
      let home = home-given k g at in
      let front = need-front decision.homes.given.items k g at in
      (omega (arith, home), omega (arith, home, front))

  -- of two new homes the earlier one ends before the other
  pub given_order : (i j : ℕ) (g h : Given) → slice_get decision.homes.given.items i ≡ Some g
      → slice_get decision.homes.given.items j ≡ Some h → i < j
      → home_by s.word decision g.from + cost_of g.shape ≤ home_by s.word decision h.from
  given_order i j g h at also less =
      let one = home-given i g at in
      let other = home-given j h also in
      let before = need-before decision.homes.given.items i j g at less in
      omega (arith, one, other, before)

  -- no object was given two
  pub given_once : (i j : ℕ) (g h : Given) → slice_get decision.homes.given.items i ≡ Some g
      → slice_get decision.homes.given.items j ≡ Some h → g.from ≡ h.from → i ≡ j
  given_once i j g h at also same =
      let homes : home_by s.word decision g.from ≡ home_by s.word decision h.from =
      ap (home_by s.word decision) same in
      elim (cases_order i j) [
        | inl is ↦ is
        | inr (inl less) ↦ absurd (let order = given_order i j g h at also less in omega (arith, order, homes))
        | inr (inr less) ↦ absurd (let order = given_order j i h g also at less in omega (arith, order, homes))
      ]

-- An object that can be reached has its home from before, or has none and its home word is 0.
pub home-cases : (s : State) (decision : Decision) (a : ℕ) → HasOldHome s a
    → ((scion : ℕ) × OldHome s a (home_by s.word decision a) scion) ⊎ (s.word (a + 1) ≡ 0)
home-cases s decision a (inl none) = inr none
home-cases s decision a (inr (home, scion, old)) =
    inl (scion, subst (λ (h : ℕ). OldHome s a h scion) (sym (home-old s decision a home scion old)) old)
