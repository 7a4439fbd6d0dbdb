-- What registers hold, as pairs: each is an address in some register, and each that an object has is there.
use Rattle.std.proofs.Common.{◌≡◌, ◌⊎◌, ℕ, zero, suc, ◌≤◌, List, [], ◌∷◌, refl, sym, ◌∙◌, ap, subst, arith, inl, inr}
use Rattle.std.specs.Prelude.{Option, None, Some, slice_get, slice_index}
use Rattle.std.specs.Option.{option_map_or}
use lib.ListN.{get_elem?}
use mathlib.Core.Option.{some, some-injective, some-ne-none}
use Rattle.melt_scion.specs.GhostMaps.{named}
use Rattle.melt_rule.specs.Rule.{Has}
use Rattle.melt_rule.specs.declared.began.Pair.{Pair}
use Rattle.melt_epoch.specs.declared.mutator.Mutator.{Mutator}
use Rattle.melt_pool.specs.Beginning.{pair_onto, pairs_held, pairs_onto}

-- a pair of a list is its first, or one of the others
has_cons : (p : Pair) (ps : List Pair) (a n : ℕ) → Has (p ∷ ps) a n → ((p.address ≡ a) × (p.object ≡ n)) ⊎ Has ps a n
has_cons p ps a n has = by_place has.0 has.1
  where
    by_place : (i : ℕ) → get_elem? (p ∷ ps) i ≡ some (record { address = a; object = n })
        → ((p.address ≡ a) × (p.object ≡ n)) ⊎ Has ps a n
    by_place zero at =
        let same : p ≡ record { address = a; object = n } = some-injective p (record { address = a; object = n }) at in
        inl (ap (λ (x : Pair). x.address) same, ap (λ (x : Pair). x.object) same)
    by_place (suc i) at = inr (i, at)

has_none : (a n : ℕ) → Has [] a n → ⊥
has_none a n has = some-ne-none (record { address = a; object = n }) (sym has.1)

module _ (names : List (ℕ × ℕ)) where
  abbrev onto : ℕ → Option ℕ → List Pair → List Pair
  onto a found pairs = option_map_or (λ (n : ℕ). record { address = a; object = n } ∷ pairs) found pairs

  onto_has : (b : ℕ) (found : Option ℕ) (pairs : List Pair) (a n : ℕ) → Has (onto b found pairs) a n
      → ((b ≡ a) × (found ≡ Some n)) ⊎ Has pairs a n
  onto_has b None pairs a n has = inr has
  onto_has b (Some m) pairs a n has = elim (has_cons (record { address = b; object = m }) pairs a n has) [
    | inl here ↦ inl (here.0, ap (λ (x : ℕ). Some x) here.1)
    | inr there ↦ inr there
  ]

  onto_keeps : (b : ℕ) (found : Option ℕ) (pairs : List Pair) (a n : ℕ) → Has pairs a n → Has (onto b found pairs) a n
  onto_keeps b None pairs a n has = has
  onto_keeps b (Some m) pairs a n has = (suc has.0, has.1)

  onto_first : (b n : ℕ) (found : Option ℕ) (pairs : List Pair) → found ≡ Some n → Has (onto b found pairs) b n
  onto_first b n None pairs is = absurd (let no : None ≡ Some n = is in cc)
  onto_first b n (Some m) pairs is =
      let same : m ≡ n = (let both : Some m ≡ Some n = is in cc) in
      (0, λ i. some (record { address = b; object = same i }))

  -- a pair is that of the address, or was there
  pair_has : (b : ℕ) (pairs : List Pair) (a n : ℕ) → Has (pair_onto names b pairs) a n
      → ((b ≡ a) × (1 ≤ a) × (named names a ≡ Some n)) ⊎ Has pairs a n
  pair_has zero pairs a n has = inr has
  pair_has (suc b) pairs a n has = elim (onto_has (suc b) (named names (suc b)) pairs a n has) [
    | inl here ↦ inl (here.0, omega (arith, here.0), ap (named names) (sym here.0) ∙ here.1)
    | inr there ↦ inr there
  ]

  pair_keeps : (b : ℕ) (pairs : List Pair) (a n : ℕ) → Has pairs a n → Has (pair_onto names b pairs) a n
  pair_keeps zero pairs a n has = has
  pair_keeps (suc b) pairs a n has = onto_keeps (suc b) (named names (suc b)) pairs a n has

  -- A register of the list holds the address, which an object has.
  record HeldIn (regs : List ℕ) (a n : ℕ) : Type 0 where
    register : ℕ
    holds : slice_index regs register ≡ a
    first : 1 ≤ a
    is_named : named names a ≡ Some n

  regs_have : (regs : List ℕ) (pairs : List Pair) (a n : ℕ) → Has (pairs_onto names regs pairs) a n
      → HeldIn regs a n ⊎ Has pairs a n
  regs_have [] pairs a n has = inr has
  regs_have (b ∷ regs) pairs a n has = elim (pair_has b (pairs_onto names regs pairs) a n has) [
    | inl here ↦ inl (record { register = 0; holds = here.0; first = here.1; is_named = here.2 })
    | inr there ↦ elim (regs_have regs pairs a n there) [
      | inl held ↦
          inl (record {
            register = suc held.register;
            holds = held.holds;
            first = held.first;
            is_named = held.is_named;
          })
      | inr before ↦ inr before
    ]
  ]

  regs_keep : (regs : List ℕ) (pairs : List Pair) (a n : ℕ) → Has pairs a n → Has (pairs_onto names regs pairs) a n
  regs_keep [] pairs a n has = has
  regs_keep (b ∷ regs) pairs a n has =
      pair_keeps b (pairs_onto names regs pairs) a n (regs_keep regs pairs a n has)

  regs_give : (regs : List ℕ) (pairs : List Pair) (r a n : ℕ) → slice_index regs r ≡ suc a
      → named names (suc a) ≡ Some n → Has (pairs_onto names regs pairs) (suc a) n
  regs_give [] pairs r a n holds is = absurd (let no : 0 ≡ suc a = holds in omega (arith, no))
  regs_give (b ∷ regs) pairs zero a n holds is =
      let here : b ≡ suc a = holds in
      subst (λ (x : ℕ). Has (pair_onto names x (pairs_onto names regs pairs)) (suc a) n) (sym here)
      (onto_first (suc a) n (named names (suc a)) (pairs_onto names regs pairs) is)
  regs_give (b ∷ regs) pairs (suc r) a n holds is =
      pair_keeps b (pairs_onto names regs pairs) (suc a) n (regs_give regs pairs r a n holds is)

  module _ {R : Type 0} where
    -- A register of some mutator holds the address.
    pub record HeldBy (ms : List (Mutator R)) (a n : ℕ) : Type 0 where
      pub place : ℕ
      pub mutator : Mutator R
      pub there : slice_get ms place ≡ Some mutator
      pub register : ℕ
      pub holds : slice_index mutator.registers.regs register ≡ a
      pub first : 1 ≤ a
      pub is_named : named names a ≡ Some n

    -- each pair is that of a register
    pub held_by : (ms : List (Mutator R)) (a n : ℕ) → Has (pairs_held names ms) a n → HeldBy ms a n
    held_by [] a n has = absurd (has_none a n has)
    held_by (m ∷ ms) a n has = elim (regs_have m.registers.regs (pairs_held names ms) a n has) [
      | inl held ↦ record {
        place = 0;
        mutator = m;
        there = refl;
        register = held.register;
        holds = held.holds;
        first = held.first;
        is_named = held.is_named;
      }
      | inr after ↦
          let by : HeldBy ms a n = held_by ms a n after in record {
            place = suc by.place;
            mutator = by.mutator;
            there = by.there;
            register = by.register;
            holds = by.holds;
            first = by.first;
            is_named = by.is_named;
          }
    ]

    -- and each register of which an object stands has its pair
    pub has_held : (ms : List (Mutator R)) (k r a n : ℕ) (m : Mutator R) → slice_get ms k ≡ Some m
        → slice_index m.registers.regs r ≡ suc a → named names (suc a) ≡ Some n → Has (pairs_held names ms) (suc a) n
    has_held [] k r a n m at holds is = absurd (cc)
    has_held (x ∷ ms) zero r a n m at holds is =
        let same : x ≡ m = (let both : Some x ≡ Some m = at in cc) in
        regs_give x.registers.regs (pairs_held names ms) r a n
        (ap (λ (y : Mutator R). slice_index y.registers.regs r) same ∙ holds) is
    has_held (x ∷ ms) (suc k) r a n m at holds is =
        regs_keep x.registers.regs (pairs_held names ms) (suc a) n (has_held ms k r a n m at holds is)
