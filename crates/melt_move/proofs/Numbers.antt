-- The numbers of a Move collection: the words that its new homes take, the Bodies and the Stubs.
use Rattle.std.proofs.Common.{◌≡◌, ◌≢◌, ℕ, zero, suc, ◌-◌, ◌≤◌, true, List, [], ◌∷◌, length, map, refl, sym}
use Rattle.std.proofs.Common.{◌∙◌, ap, subst, arith}
use Rattle.std.specs.Prelude.{Bool, false, nat_lt, slice_get, slice_index, Some, filter}
use Rattle.std.proofs.lemmas.Bool.{lt-ltb, le-ltb}
use Rattle.std.proofs.lemmas.List.{length-map}
use Rattle.std.proofs.lemmas.Option.{same_Some}
use Rattle.melt_model.specs.declared.reports.Phase.TheVariants.{Move}
use Rattle.melt_word.specs.Words.{cost_of}
use Rattle.melt_scion.specs.State.{State, Reached}
use Rattle.melt_scion.specs.Moves.{Leaves}
use Rattle.melt_scion.specs.Collected.{CountsWords}
use Rattle.melt_copy.specs.declared.live.LiveSet.{LiveSet}
use Rattle.melt_copy.specs.declared.forwarding.Relocation.{Relocation}
use Rattle.melt_copy.specs.Moving.{IsWhole, words_in}
use Rattle.melt_copy.specs.Tracking.{goes}
use Rattle.melt_copy.proofs.Counted.{cost_at, costs_at, counts_words}
use Rattle.melt_copy.proofs.Counting.{counts_moves}
use Rattle.melt_copy.proofs.Places.{place_found, same_source}
use Rattle.melt_copy.proofs.Sources.{goes as goes_to}
use Rattle.melt_move.specs.declared.choice.Departure.{Departure}
use Rattle.melt_move.specs.declared.homes.Given.{Given}
use Rattle.melt_move.specs.declared.decision.Decision.{Decision}
use Rattle.melt_move.specs.Plans.{GivesNew, IsChoice, IsShaped, AreDepartures, WantsHome, need_for, home_by, new_home}
use Rattle.melt_move.specs.GivenScions.{given_home, given_count}
use Rattle.melt_move.specs.Collecting.{Counts}
use Rattle.melt_move.proofs.HomesBy.{given_once, home-none, given_some, wants_given}
use Rattle.melt_move.proofs.Needs.{as_move, move_words, move_at, needs_fit}
use Rattle.melt_move.proofs.Prepared.{count_need}
use Rattle.melt_move.proofs.Counts.{counts_those, kept_in, found_in, differ_kept}

as_there : (gs : List Given) (k : ℕ) (g : Given) → slice_get gs k ≡ Some g
    → slice_get (map as_move gs) k ≡ Some (as_move g)
as_there [] k g at = absurd (cc)
as_there (x ∷ gs) zero g at = ap (λ (y : Given). Some (as_move y)) (same_Some x g at)
as_there (x ∷ gs) (suc k) g at = as_there gs k g at

-- an object that leaves as one that was found
abbrev from_departure : Departure → Relocation
from_departure d = record { from = d.from; to = 0; shape = d.shape }

departs_at : (ds : List Departure) (k : ℕ) (m : Relocation) → slice_get (map from_departure ds) k ≡ Some m
    → (d : Departure) × (slice_get ds k ≡ Some d) × (m.from ≡ d.from)
departs_at [] k m at = absurd (cc)
departs_at (d ∷ ds) zero m at = (d, refl, ap (λ (x : Relocation). x.from) (sym (same_Some (from_departure d) m at)))
departs_at (d ∷ ds) (suc k) m at = departs_at ds k m at

departs_there : (ds : List Departure) (k : ℕ) (d : Departure) → slice_get ds k ≡ Some d
    → (m : Relocation) × (slice_get (map from_departure ds) k ≡ Some m) × (m.from ≡ d.from)
departs_there [] k d at = absurd (cc)
departs_there (x ∷ ds) zero d at = (from_departure x, refl, ap (λ (y : Departure). y.from) (same_Some x d at))
departs_there (x ∷ ds) (suc k) d at = departs_there ds k d at

-- as many Bodies as objects leave
pub bodies_counted : (s : State) (leaving : List Departure) → AreDepartures s leaving
    → Counts (Leaves Move s) (length leaving)
bodies_counted s leaving are =
    subst (Counts (Leaves Move s)) (length-map leaving from_departure)
    (counts_those (Leaves Move s) (map from_departure leaving) (record {
      differ = λ i j a b at also less same.
          let d = departs_at leaving i a at in
          let e = departs_at leaving j b also in
          let one = are.once i j d.0 e.0 d.1 e.1 (sym d.2 ∙ (same ∙ e.2)) in
          omega (arith, one, less);
      there = λ n leaves.
          let d = are.all n leaves in
          let m = departs_there leaving d.0 d.1 d.2 in
          (d.0, m.0, m.1, m.2 ∙ d.3);
      each = λ k m at.
          let d = departs_at leaving k m at in subst (Leaves Move s) (sym d.2) (are.each k d.0 d.1).0;
    }))

module _ (s : State) (decision : Decision) (gives : GivesNew s decision.homes) (first : 1 ≤ decision.homes.first) where
  -- the new homes take the words of the objects that want one
  pub needs_counted : CountsWords s (WantsHome s) (need_for decision.homes.given.items)
  needs_counted =
      let given = decision.homes.given.items in
      subst (CountsWords s (WantsHome s)) (move_words given) (
      counts_words s (WantsHome s) (words_in (map as_move given)) (
      counts_moves (cost_at s) (WantsHome s) (λ (m : Relocation). m.from) (map as_move given)
      (λ i j a b at also less same.
      let g = move_at given i a at in
      let h = move_at given j b also in
      let from = ap (λ (m : Relocation). m.from) g.2 in
      let other = ap (λ (m : Relocation). m.from) h.2 in
      let one = given_once s decision gives first i j g.0 h.0 g.1 h.1 (from ∙ (same ∙ sym other)) in
      omega (arith, one, less))
      (λ k m at.
      let g = move_at given k m at in
      let from = ap (λ (x : Relocation). x.from) g.2 in
      let shaped = (gives.each k g.0 g.1).1 in
      ap (cost_at s) (sym from)
      ∙ ((costs_at s).is g.0.from shaped.header shaped.starts
      ∙ (ap cost_of shaped.is ∙ ap (λ (x : Relocation). cost_of x.shape) g.2)))
      (λ n wants. let g = gives.all n wants in (g.0, as_move g.1, as_there given g.0 g.1 g.2, g.3))
      (λ k m at.
      let g = move_at given k m at in
      subst (WantsHome s) (ap (λ (x : Relocation). x.from) g.2) (gives.each k g.0 g.1).0)))

  module _ (live : LiveSet) (choice : IsChoice s live decision.choice) where
    abbrev has_new : Relocation → Bool
    has_new m = nat_lt 0 (given_home decision.homes m)

    some_new : (m : Relocation) → has_new m ≡ true → given_home decision.homes m ≢ 0
    some_new m is nought = let not : nat_lt 0 (given_home decision.homes m) ≡ false =
        le-ltb 0 (given_home decision.homes m) (omega (arith, nought)) in absurd (cc)

    -- as many Stubs as objects stay and get a home
    pub stubs_counted : Counts (λ a. WantsHome s a × (goes decision.choice.stay a ≢ 0))
        (given_count decision.homes decision.choice.stay.moves.items)
    stubs_counted =
        let moves = decision.choice.stay.moves.items in
        let f = goes decision.choice.stay in
        counts_those (λ a. WantsHome s a × (f a ≢ 0)) (filter has_new moves) (record {
          differ = differ_kept has_new moves (λ i j a b at also less same.
              let one = (same_source i j choice.stay at also same).0 in
              omega (arith, one, less));
          there = λ n wanted.
              let g = goes_to s f moves decision.choice.stay.next n choice.stay wanted.1 in
              let given = wants_given s decision gives first n wanted.0 in
              let home : given_home decision.homes g.move ≡ home_by s.word decision n =
              ap (λ (a : ℕ). new_home decision.homes.first (slice_index decision.homes.offsets.items a)) g.from
              ∙ sym (home-none s decision n wanted.0.had_none) in
              let some : given_home decision.homes g.move ≢ 0 =
              λ nought. given_some s decision gives first n given (sym home ∙ nought) in
              let at = found_in has_new moves g.index g.move g.is
              (lt-ltb 0 (given_home decision.homes g.move) (omega (arith, some))) in
              (at.0, g.move, at.1, g.from);
          each = λ k m at.
              let kept = kept_in has_new moves k m at in
              let offset : slice_index decision.homes.offsets.items m.from ≢ 0 =
              λ nought. some_new m kept.passes (ap (new_home decision.homes.first) nought) in
              let g = gives.only m.from offset in (
                subst (WantsHome s) g.3 (gives.each g.0 g.1 g.2).0,
                place_found s f moves decision.choice.stay.next kept.index m choice.stay kept.is,
              );
        })

-- an object that leaves as one that may get a home
abbrev may_get : Departure → Given
may_get d = record { from = d.from; shape = d.shape }

may_get_at : (ds : List Departure) (k : ℕ) (g : Given) → slice_get (map may_get ds) k ≡ Some g
    → (d : Departure) × (slice_get ds k ≡ Some d) × (may_get d ≡ g)
may_get_at [] k g at = absurd (cc)
may_get_at (d ∷ ds) zero g at = (d, refl, same_Some (may_get d) g at)
may_get_at (d ∷ ds) (suc k) g at = may_get_at ds k g at

-- no more objects leave than there are words
pub leaving_few : (s : State) (leaving : List Departure) → IsWhole s → AreDepartures s leaving
    → length leaving ≤ s.free - 1
leaving_few s leaving whole are =
    let fits = needs_fit s (map may_get leaving) whole
    (λ k g at.
    let d = may_get_at leaving k g at in
    let each = are.each k d.0 d.1 in
    (subst (λ (x : Given). Reached s x.from) d.2 each.0.0, subst (λ (x : Given). IsShaped s x.from x.shape) d.2 each.1))
    (λ i j g h at also same.
    let d = may_get_at leaving i g at in
    let e = may_get_at leaving j h also in
    are.once i j d.0 e.0 d.1 e.1 (ap (λ (x : Given). x.from) d.2 ∙ (same ∙ sym (ap (λ (x : Given). x.from) e.2)))) in
    let count = count_need (map may_get leaving) in
    let size : length (map may_get leaving) ≡ length leaving = length-map leaving may_get in
    omega (arith, fits, count, size)
