-- How many visits a Move collection makes, by what it decided.
use Rattle.std.proofs.Common.{◌≡◌, ◌≢◌, ℕ, zero, suc, ◌+◌, ◌*◌, ◌<◌, ◌≤◌, List, [], ◌∷◌, ◌++◌, length, take, get_or}
use Rattle.std.proofs.Common.{map, refl, sym, ap, ◌∙◌, subst, arith, ◌⊎◌, inl, inr}
use Rattle.std.specs.Prelude.{slice_get, Some}
use Rattle.std.specs.List.{sum_by}
use Rattle.std.proofs.lemmas.List.Sums.{sum-map, sum_by_more, sum_by-cons}
use Rattle.std.proofs.lemmas.Option.{slice_get_within, get_or_from_slice_get, same_Some}
use Rattle.melt_model.specs.declared.reports.Phase.{Phase}
use Rattle.melt_model.specs.declared.reports.Phase.TheVariants.{Inactive, Mark, Move}
use Rattle.melt_word.specs.Words.{cost_of}
use Rattle.melt_scion.specs.State.{State, Reached}
use Rattle.melt_scion.specs.Moves.{Leaves}
use Rattle.melt_scion.specs.Collected.{CountsWords}
use Rattle.melt_scion.specs.declared.registers.Registers.{Registers}
use Rattle.melt_scion.specs.declared.heap.Heap.{Heap}
use Rattle.melt_space.specs.Space.{SpaceWords}
use Rattle.melt_copy.specs.declared.forwarding.Relocation.{Relocation}
use Rattle.melt_copy.specs.Copying.{IsCopying}
use Rattle.melt_copy.specs.Moving.{IsRelocation, words_in}
use Rattle.melt_copy.specs.Tracking.{goes}
use Rattle.melt_copy.proofs.Places.{words_in-cons, place_found, same_source}
use Rattle.melt_copy.specs.Visits.{VisitsAtMost}
use Rattle.melt_copy.proofs.Visited.{few_words}
use Rattle.melt_copy.specs.declared.live.LiveSet.{LiveSet}
use Rattle.melt_move.specs.declared.choice.Choice.{Choice}
use Rattle.melt_move.specs.declared.choice.Departure.{Departure}
use Rattle.melt_move.specs.declared.homes.Given.{Given}
use Rattle.melt_move.specs.declared.decision.Decision.{Decision}
use Rattle.melt_move.specs.Plans.{GivesNew, IsChoice, IsDecision, need_for}
use Rattle.melt_move.specs.Visits.{leaving_words, visits_in}
use Rattle.melt_move.proofs.Giving.{is_reached}
use Rattle.melt_move.proofs.HomesBy.{given_once}
use Rattle.melt_move.proofs.Needs.{as_move, move_at, move_words, need-cons}

-- the words of one object more
leaving-cons : (d : Departure) (ds : List Departure) → leaving_words (d ∷ ds) ≡ cost_of d.shape + leaving_words ds
leaving-cons d ds = sum_by-cons (λ (n : ℕ). n) (cost_of d.shape) (map (λ (x : Departure). cost_of x.shape) ds)

-- the first ones take no more words than all
pub leaving-first : (ds : List Departure) (k : ℕ) → leaving_words (take k ds) ≤ leaving_words ds
leaving-first ds zero = omega arith
leaving-first [] (suc k) = omega arith
leaving-first (d ∷ ds) (suc k) = omega (arith, leaving-first ds k, leaving-cons d ds, leaving-cons d (take k ds))

-- one more of the first ones
pub leaving-next : (ds : List Departure) (k : ℕ) (d : Departure) → slice_get ds k ≡ Some d
    → leaving_words (take (k + 1) ds) ≡ leaving_words (take k ds) + cost_of d.shape
leaving-next ds k d at =
    let below : k < length ds = slice_get_within ds k d at in
    let there : get_or ds k d ≡ d = get_or_from_slice_get ds k d d at in
    sum-map (λ (x : Departure). cost_of x.shape) (take (k + 1) ds)
    ∙ (sum_by_more (λ (x : Departure). cost_of x.shape) ds k d below
    ∙ (ap (λ (x : Departure). sum_by (λ (y : Departure). cost_of y.shape) (take k ds) + cost_of x.shape) there
    ∙ ap (λ (n : ℕ). n + cost_of d.shape) (sym (sum-map (λ (x : Departure). cost_of x.shape) (take k ds)))))

-- each takes two words at least
pub leaving-two : (ds : List Departure) → 2 * length ds ≤ leaving_words ds
leaving-two [] = omega arith
leaving-two (d ∷ ds) = omega (arith, leaving-two ds, leaving-cons d ds)

-- and so does each home
pub given-two : (gs : List Given) → 2 * length gs ≤ need_for gs
given-two [] = omega arith
given-two (g ∷ gs) = omega (arith, given-two gs, need-cons g gs)

-- objects that leave as ones that were found
abbrev as_moves : List Departure → List Relocation
as_moves ds = map (λ (d : Departure). record { from = d.from; to = 0; shape = d.shape }) ds

leaving_at : (ds : List Departure) (k : ℕ) (m : Relocation) → slice_get (as_moves ds) k ≡ Some m
    → (d : Departure) × (slice_get ds k ≡ Some d) × (record { from = d.from; to = 0; shape = d.shape } ≡ m)
leaving_at [] k m at = absurd (cc)
leaving_at (d ∷ ds) zero m at = (d, refl, same_Some _ m at)
leaving_at (d ∷ ds) (suc k) m at = leaving_at ds k m at

-- the words of those that leave, and of others after them
words_both : (ds : List Departure) (ms : List Relocation)
    → words_in (as_moves ds ++ ms) ≡ leaving_words ds + words_in ms
words_both [] ms = omega arith
words_both (d ∷ ds) ms =
    omega (
      arith,
      words_both ds ms,
      leaving-cons d ds,
      words_in-cons (record { from = d.from; to = 0; shape = d.shape }) (as_moves ds ++ ms),
    )

-- an element of one of two lists
abbrev InBoth : List Relocation → List Relocation → ℕ → Relocation → Type 0
InBoth xs ys k m = (slice_get xs k ≡ Some m) ⊎ ((j : ℕ) × (k ≡ length xs + j) × (slice_get ys j ≡ Some m))

in_both : (xs ys : List Relocation) (k : ℕ) (m : Relocation) → slice_get (xs ++ ys) k ≡ Some m → InBoth xs ys k m
in_both [] ys k m at = inr (k, omega arith, at)
in_both (x ∷ xs) ys zero m at = inl at
in_both (x ∷ xs) ys (suc k) m at = elim (in_both xs ys k m at) [
  | inl here ↦ inl here
  | inr there ↦ inr (there.0, omega (arith, there.1), there.2)
]

module _ (s : State) (live : LiveSet) (choice : Choice) (chosen : IsChoice s live choice) where
  abbrev leaves : List Relocation
  leaves = as_moves choice.leaving.items

  abbrev stays : List Relocation
  stays = choice.stay.moves.items

  -- who leaves can be reached
  leaves_reached : (k : ℕ) (m : Relocation) → slice_get leaves k ≡ Some m → IsRelocation s m × Leaves Move s m.from
  leaves_reached k m at =
      let d = leaving_at choice.leaving.items k m at in
      let is = chosen.leave.each k d.0 d.1 in
      subst (λ (x : Relocation). IsRelocation s x × Leaves Move s x.from) d.2 (
        record { reached = is.0.0; header = is.1.header; starts = is.1.starts; shape = is.1.is },
        is.0,
      )

  -- who stays does not leave
  stays_remains : (k : ℕ) (m : Relocation) → slice_get stays k ≡ Some m → Leaves Move s m.from → ⊥
  stays_remains k m at =
      (chosen.chooses.stay m.from
      (place_found s (goes choice.stay) stays choice.stay.next k m chosen.stay at)).1

  each_reached : (k : ℕ) (m : Relocation) → slice_get (leaves ++ stays) k ≡ Some m → IsRelocation s m
  each_reached k m at = elim (in_both leaves stays k m at) [
    | inl here ↦ (leaves_reached k m here).0
    | inr there ↦ chosen.stay.whole there.0 m there.2
  ]

  leaves_once : (i j : ℕ) (a b : Relocation) → slice_get leaves i ≡ Some a → slice_get leaves j ≡ Some b
      → a.from ≡ b.from → i ≡ j
  leaves_once i j a b first second same =
      let d = leaving_at choice.leaving.items i a first in
      let e = leaving_at choice.leaving.items j b second in
      chosen.leave.once i j d.0 e.0 d.1 e.1 (ap (λ (x : Relocation). x.from) d.2
      ∙ (same ∙ sym (ap (λ (x : Relocation). x.from) e.2)))

  -- each of them has an address of its own
  all_differ : (i j : ℕ) (a b : Relocation) → slice_get (leaves ++ stays) i ≡ Some a
      → slice_get (leaves ++ stays) j ≡ Some b → i < j → a.from ≢ b.from
  all_differ i j a b first second before same = elim (in_both leaves stays i a first) [
    | inl here ↦ elim (in_both leaves stays j b second) [
      | inl also ↦ let one = leaves_once i j a b here also same in omega (arith, one, before)
      | inr stay ↦ stays_remains stay.0 b stay.2 (subst (Leaves Move s) same (leaves_reached i a here).1)
    ]
    | inr there ↦ elim (in_both leaves stays j b second) [
      | inl leave ↦ let within = slice_get_within leaves j b leave in omega (arith, within, before, there.1)
      | inr stay ↦
          let one = (same_source there.0 stay.0 chosen.stay there.2 stay.2 same).0 in
          omega (arith, one, before, there.1, stay.1)
    ]
  ]

  -- those that leave and those that stay are among all that can be reached
  pub few_choice : (total : ℕ) → CountsWords s (Reached s) total
      → leaving_words choice.leaving.items + words_in choice.stay.moves.items ≤ total
  few_choice total counts =
      let few = few_words s (leaves ++ stays) each_reached all_differ total counts in
      omega (arith, few, words_both choice.leaving.items stays)

module _ (space : SpaceWords) (s : State) (decision : Decision) (decided : IsDecision space s decision) (total : ℕ)
    (counts : CountsWords s (Reached s) total) where
  -- by a decision
  pub few_chosen : leaving_words decision.choice.leaving.items + words_in decision.choice.stay.moves.items ≤ total
  few_chosen = few_choice s decided.live decision.choice decided.choice total counts

  -- and so are those that get a home
  pub few_given : need_for decision.homes.given.items ≤ total
  few_given =
      let gives : GivesNew s decision.homes = decided.homes in
      let first = decided.first in
      let some = decided.first_end in
      let given = decision.homes.given.items in
      let few = few_words s (map as_move given)
      (λ k m at.
      let g = move_at given k m at in
      let is = gives.each k g.0 g.1 in
      subst (IsRelocation s) g.2 (record {
        reached = is_reached s g.0.from is.0.why;
        header = is.1.header;
        starts = is.1.starts;
        shape = is.1.is;
      }))
      (λ i j a b at also less same.
      let g = move_at given i a at in
      let h = move_at given j b also in
      let from = ap (λ (m : Relocation). m.from) g.2 in
      let other = ap (λ (m : Relocation). m.from) h.2 in
      let one = given_once s decision gives (omega (arith, first, some)) i j g.0 h.0 g.1 h.1
      (from ∙ (same ∙ sym other)) in
      omega (arith, one, less)) total counts in
      omega (arith, few, move_words given)

-- a collection that moves nothing to the disk
pub copying_visits : (phase : Phase) (heap : Heap) (held : List Registers) (before after : ℕ) → IsCopying phase
    → VisitsAtMost 4 heap held before after → VisitsAtMost (visits_in phase) heap held before after
copying_visits Inactive heap held before after copying visits = visits
copying_visits Mark heap held before after copying visits = visits
copying_visits Move heap held before after copying visits = absurd copying
