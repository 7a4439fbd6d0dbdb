-- Where a state tells a history, the homes of objects that leave have no word in common, neither with each other nor
-- with other homes from before.
use Rattle.std.proofs.Common.{◌≡◌, ◌≢◌, ◌⊎◌, inl, inr, ℕ, ◌+◌, ◌<◌, ◌≤◌, List, sym, ◌∙◌, ap, subst, arith}
use Rattle.std.specs.Prelude.{slice_get, Some}
use Rattle.std.proofs.lemmas.Bool.{cases_order}
use Rattle.std.proofs.lemmas.Option.{same_Some}
use Rattle.melt_model.specs.History as history
use Rattle.melt_model.specs.declared.history.Entry.{Entry}
use Rattle.melt_model.specs.declared.reports.Phase.TheVariants.{Move}
use Rattle.melt_word.specs.Words.{cost_of}
use Rattle.melt_word.specs.declared.header.Shape.{Shape}
use Rattle.melt_word.specs.declared.header.Header.{Header}
use Rattle.melt_scion.specs.State.{State, Reached, IsReserved}
use Rattle.melt_scion.specs.Placed.{Maps, Formed, Tells}
use Rattle.melt_scion.specs.Moves.{Leaves}
use Rattle.melt_scion.proofs.Geometry.{one_header}
use Rattle.melt_scion.proofs.Reaching.{reached_named}
use Rattle.melt_scion.proofs.HomesApart.{reserved_within, reserved_apart, reserved_words}
use Rattle.melt_copy.specs.declared.live.LiveSet.{LiveSet}
use Rattle.melt_move.specs.declared.choice.Departure.{Departure}
use Rattle.melt_move.specs.declared.decision.Decision.{Decision}
use Rattle.melt_move.specs.declared.homes.Given.{Given}
use Rattle.melt_move.specs.Plans.{IsShaped, OldHome, home_by}
use Rattle.melt_move.specs.Bodies.{HomesApart, IsOutside}
use Rattle.melt_move.specs.Moved.{IsMove}
use Rattle.melt_move.proofs.HomesBy.{IsGiven, home-cases, wants_given, given_within, given_order}
use Rattle.melt_move.proofs.Moves.{some_first}

-- an object has one shape
pub one_shape : (s : State) (a : ℕ) (z y : Shape) → IsShaped s a z → IsShaped s a y → z ≡ y
one_shape s a z y is also =
    sym is.is ∙ (ap (λ (h : Header). h.shape) (one_header s a is.header also.header is.starts also.starts) ∙ also.is)

-- The object at the address has a home from before, reserved for its shape, with the number of the object.
record IsAtOldHome (maps : Maps) (s : State) (home a : ℕ) (z : Shape) : Type 0 where
  number : ℕ
  named : maps.address a ≡ Some number
  has : maps.home home ≡ Some number
  reserved : IsReserved s.base.homes home z

-- Or it was given its home for its shape.
record IsAtNewHome (s : State) (decision : Decision) (a : ℕ) (z : Shape) : Type 0 where
  given : IsGiven decision a
  shape : given.given.shape ≡ z

module _ (maps : Maps) (s t : State) (live : LiveSet) (decision : Decision) (formed : Formed maps s)
    (is : IsMove s t live decision) (h : List Entry) (tells : Tells h maps s) where
  abbrev home : ℕ → ℕ
  home = home_by s.word decision

  from_one : 1 ≤ decision.homes.first
  from_one = some_first maps s t live decision formed is

  old_place : (a scion : ℕ) (z : Shape) → Reached s a → IsShaped s a z → OldHome s a (home a) scion
      → IsAtOldHome maps s (home a) a z
  old_place a scion z reached shaped old =
      let named = reached_named maps s a formed reached in
      let has = tells.named_homes a named.0 (home a) scion named.1 old.in_range old.is in
      let stands = tells.homes (home a) named.0 has in
      let back : history.Shape → Shape = λ v. record { refs = v.refs; nums = v.nums } in
      let shape : stands.reserved_for ≡ z =
      ap back (same_Some _ _ (sym stands.shape_is ∙ tells.shapes a named.0 shaped.header named.1 shaped.starts))
      ∙ shaped.is in
      record {
        number = named.0;
        named = named.1;
        has = has;
        reserved = subst (IsReserved s.base.homes (home a)) shape stands.reserved;
      }

  -- where the home of an object that leaves is
  place : (a : ℕ) (z : Shape) → Leaves Move s a → IsShaped s a z
      → IsAtOldHome maps s (home a) a z ⊎ IsAtNewHome s decision a z
  place a z leaves shaped = elim (home-cases s decision a (is.old_homes a leaves.0)) [
    | inl old ↦ inl (old_place a old.0 z leaves.0 shaped old.1)
    | inr none ↦
        let given = wants_given s decision is.gives from_one a (record { why = inl leaves; had_none = none }) in
        let there = (is.gives.each given.index given.given given.is).1 in
        let here = subst (λ (b : ℕ). IsShaped s b given.given.shape) given.from there in
        inr (record { given = given; shape = one_shape s a given.given.shape z here shaped })
  ]

  -- an old home lies before the end of all
  old_within : (a : ℕ) (z : Shape) → IsAtOldHome maps s (home a) a z → home a + cost_of z ≤ s.base.end
  old_within a z old = (reserved_within s.base.homes s.base.end tells.homes_follow (home a) z old.reserved).1

  -- and a new one does not
  new_after : (a : ℕ) (z : Shape) → IsAtNewHome s decision a z → s.base.end ≤ home a
  new_after a z new =
      let after = (given_within s decision is.gives from_one new.given.index new.given.given new.given.is).0 in
      omega (arith, after, is.first, ap home new.given.from)

  -- of two new homes the first ends before the other
  new_order : (a b : ℕ) (z y : Shape) (one : IsAtNewHome s decision a z) (other : IsAtNewHome s decision b y)
      → one.given.index < other.given.index → home a + cost_of z ≤ home b
  new_order a b z y one other less =
      let order = given_order s decision is.gives from_one one.given.index other.given.index one.given.given
      other.given.given one.given.is other.given.is less in
      omega (arith, order, ap home one.given.from, ap home other.given.from, ap cost_of one.shape)

  -- of the homes of two objects one ends before the other
  places_apart : (a b : ℕ) (z y : Shape) → a ≢ b → IsAtOldHome maps s (home a) a z ⊎ IsAtNewHome s decision a z
      → IsAtOldHome maps s (home b) b y ⊎ IsAtNewHome s decision b y
      → (home a + cost_of z ≤ home b) ⊎ (home b + cost_of y ≤ home a)
  places_apart a b z y differ (inl one) (inl other) =
      elim (reserved_apart s.base.homes s.base.end tells.homes_follow (home a) (home b) z y one.reserved
      other.reserved) [
        | inl same ↦
            let number : one.number ≡ other.number =
            same_Some _ _ (sym one.has ∙ (ap maps.home same.0 ∙ other.has)) in
            absurd (differ (tells.one_address a b other.number (one.named ∙ ap Some number) other.named))
        | inr apart ↦ apart
      ]
  places_apart a b z y differ (inl old) (inr new) =
      inl (omega (arith, old_within a z old, new_after b y new))
  places_apart a b z y differ (inr new) (inl old) =
      inr (omega (arith, old_within b y old, new_after a z new))
  places_apart a b z y differ (inr one) (inr other) = elim (cases_order one.given.index other.given.index) [
    | inl same ↦
        let given : one.given.given ≡ other.given.given =
        same_Some _ _ (sym one.given.is ∙ (ap (slice_get decision.homes.given.items) same ∙ other.given.is)) in
        absurd (differ (sym one.given.from ∙ (ap (λ (g : Given). g.from) given ∙ other.given.from)))
    | inr (inl less) ↦ inl (new_order a b z y one other less)
    | inr (inr more) ↦ inr (new_order b a y z other one more)
  ]

  -- so the homes of those that leave have no word in common
  pub homes_apart : HomesApart home decision.choice.leaving.items
  homes_apart i j d e at also less =
      let one = is.choice.leave.each i d at in
      let other = is.choice.leave.each j e also in
      places_apart d.from e.from d.shape e.shape
      (λ same. omega (arith, less, is.choice.leave.once i j d e at also same))
      (place d.from d.shape one.0 one.1) (place e.from e.shape other.0 other.1)

  -- a word of a home that is not that of the object lies outside of it
  pub outside_home : (k j : ℕ) (z : Shape) (d : Departure) → IsReserved s.base.homes k z → Leaves Move s d.from
      → IsShaped s d.from d.shape → home d.from ≢ k → j < cost_of z → IsOutside home (k + j) d
  outside_home k j z d reserved leaves shaped differ below = elim (place d.from d.shape leaves shaped) [
    | inl old ↦
        reserved_words s.base.homes s.base.end tells.homes_follow k (home d.from) j z d.shape reserved old.reserved
        (λ same. differ (sym same)) below
    | inr new ↦
        let within = (reserved_within s.base.homes s.base.end tells.homes_follow k z reserved).1 in
        inl (omega (arith, within, below, new_after d.from d.shape new))
  ]
