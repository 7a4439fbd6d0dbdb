-- What a Move collection leaves on the disk of a state that tells a history, and the names of homes then.
use Rattle.std.proofs.Common.{◌≡◌, ◌≢◌, ◌⊎◌, inl, inr, ℕ, ◌+◌, ◌<◌, ◌≤◌, List, refl, sym, ◌∙◌, ap, subst, arith}
use Rattle.std.specs.Prelude.{slice_get, slice_index, Some}
use Rattle.std.proofs.lemmas.Option.{same_Some}
use Rattle.melt_model.specs.declared.history.Entry.{Entry}
use Rattle.melt_model.specs.declared.reports.Phase.TheVariants.{Move}
use Rattle.melt_word.specs.Words.{cost_of, scion_part}
use Rattle.melt_word.specs.declared.header.Shape.{Shape}
use Rattle.melt_word.specs.declared.header.Header.{Header}
use Rattle.melt_record.specs.declared.head.Kind.TheVariants.{Stub}
use Rattle.melt_scion.specs.State.{State, HeaderAt, Reached, IsReserved}
use Rattle.melt_scion.specs.Placed.{Maps, Formed, Tells, HeadIs}
use Rattle.melt_scion.specs.Moves.{Leaves, IsNamedByLeaving, GetsHome, LeavesBody, NamesHomes, MovesDisk}
use Rattle.melt_scion.proofs.Reaching.{reached_named}
use Rattle.melt_scion.proofs.HomesApart.{reserved_within}
use Rattle.melt_scion.proofs.NobodyLeaves.{parts_of_word}
use Rattle.melt_copy.specs.declared.live.LiveSet.{LiveSet}
use Rattle.melt_copy.proofs.Sources.{goes, source_shape}
use Rattle.melt_move.specs.declared.homes.Given.{Given}
use Rattle.melt_move.specs.declared.decision.Decision.{Decision}
use Rattle.melt_move.specs.Plans.{home_by, new_home}
use Rattle.melt_move.specs.Bodies.{HasBody}
use Rattle.melt_move.specs.GivenScions.{given_home}
use Rattle.melt_move.specs.NamedHomes.{NamesGiven, home_at}
use Rattle.melt_move.specs.Moved.{IsMove}
use Rattle.melt_move.proofs.HomesBy.{home-none, home-given, gets_given, wants_some}
use Rattle.melt_move.proofs.Moves.{named_reached, scion_by, some_first, to_by}
use Rattle.melt_move.proofs.Reserved.{begins_decided, reserved_follow, reserved_old, reserved_only}
use Rattle.melt_move.proofs.LeavingHomes.{homes_apart, outside_home, one_shape}

module _ (maps : Maps) (s t : State) (live : LiveSet) (decision : Decision) (formed : Formed maps s)
    (is : IsMove s t live decision) where
  abbrev to : ℕ → ℕ
  to = to_by decision

  abbrev home : ℕ → ℕ
  home = home_by s.word decision

  abbrev scion : ℕ → ℕ
  scion = scion_by t decision

  from_one : 1 ≤ decision.homes.first
  from_one = some_first maps s t live decision formed is

  -- who wants a home was reached
  wants_reached : (a : ℕ) → Leaves Move s a ⊎ IsNamedByLeaving Move s a → Reached s a
  wants_reached a (inl leaves) = leaves.0
  wants_reached a (inr named) = named_reached maps s t live decision formed is a named

  -- each given object gets a home
  given_gets : (k : ℕ) (g : Given) → slice_get decision.homes.given.items k ≡ Some g → GetsHome s home g.from
  given_gets k g at =
      let wants = (is.gives.each k g at).0 in
      record {
        reached = wants_reached g.from wants.why;
        had_none = wants.had_none;
        has_one = wants_some s decision is.gives from_one g.from wants;
      }

  -- its home begins after the homes before it
  given_begins : (k : ℕ) (g : Given) → slice_get decision.homes.given.items k ≡ Some g
      → home g.from ≡ home_at decision.homes k
  given_begins = home-given s decision is.gives from_one

  -- only the homes of such objects are new
  only_given : (k : ℕ) (z : Shape) → IsReserved t.base.homes k z
      → IsReserved s.base.homes k z ⊎ ((a : ℕ) × GetsHome s home a × (home a ≡ k))
  only_given k z reserved =
      elim (reserved_only s.base.homes t.base.homes s.base.end decision.homes.given.items is.homes k z reserved) [
        | inl old ↦ inl old
        | inr new ↦ inr (
          new.object.from,
          given_gets new.index new.object new.is,
          omega (arith, given_begins new.index new.object new.is, new.begins, is.first),
        )
      ]

  -- the Body of an object that left
  leaves_body : (h : List Entry) → Tells h maps s → (a : ℕ) (header : Header) → Leaves Move s a → HeaderAt s a header
      → LeavesBody s t home a header
  leaves_body h tells a header leaves starts =
      let d = is.choice.leave.all a leaves in
      let from : d.1.from ≡ a = d.3 in
      let shaped = (is.choice.leave.each d.0 d.1 d.2).1 in
      let there : HeaderAt s d.1.from header = subst (λ (b : ℕ). HeaderAt s b header) (sym from) starts in
      let shape : d.1.shape ≡ header.shape =
      one_shape s d.1.from d.1.shape header.shape shaped (record { header = header; starts = there; is = refl }) in
      let body =
      subst (λ (b : ℕ). HasBody s home t.base.end t.base.image (record { from = b; shape = header.shape })) from
      (subst (λ (z : Shape). HasBody s home t.base.end t.base.image (record { from = d.1.from; shape = z })) shape
      (is.bodies (homes_apart maps s t live decision formed is h tells) d.0 d.1 d.2)) in
      record { head = body.head; slots = body.slots; numbers = body.numbers }

  -- the Stub of an object that stays
  leaves_stub : (a : ℕ) (header : Header) → GetsHome s home a → to a ≢ 0 → HeaderAt s a header
      → HeadIs t.base (home a) (record { shape = header.shape; kind = Stub (scion a) })
  leaves_stub a header gets some starts =
      let m = goes s to decision.choice.stay.moves.items decision.choice.stay.next a is.choice.stay some in
      let new : home a ≡ given_home decision.homes m.move =
      home-none s decision a gets.had_none
      ∙ ap (λ (b : ℕ). new_home decision.homes.first (slice_index decision.homes.offsets.items b)) (sym m.from) in
      let has : given_home decision.homes m.move ≢ 0 = λ none. gets.has_one (new ∙ none) in
      let there = is.new_home m.index m.move m.is has in
      let stub = is.stubs m.index m.move there.scion m.is has there.names in
      let word = (parts_of_word _ _ there.scion there.names.in_range.scion there.names.is).1 in
      let shape : m.move.shape ≡ header.shape =
      sym (source_shape s m.move header (is.choice.stay.whole m.index m.move m.is)
      (subst (λ (b : ℕ). HeaderAt s b header) (sym m.from) starts)) in
      let number : there.scion ≡ scion a = sym (ap (λ (b : ℕ). scion_part (t.word (b + 1))) m.to ∙ word) in
      subst (λ (b : ℕ). HeadIs t.base b (record { shape = header.shape; kind = Stub (scion a) })) (sym new)
      (subst (λ (k : ℕ). HeadIs t.base (given_home decision.homes m.move)
      (record { shape = header.shape; kind = Stub k })) number
      (subst (λ (z : Shape). HeadIs t.base (given_home decision.homes m.move)
      (record { shape = z; kind = Stub there.scion })) shape stub))

  -- other records stay
  stays_there : (h : List Entry) → Tells h maps s → (k j : ℕ) (z : Shape) → IsReserved s.base.homes k z
      → ((a : ℕ) → Leaves Move s a → home a ≢ k) → j < cost_of z → t.base.image (k + j) ≡ s.base.image (k + j)
  stays_there h tells k j z reserved others below =
      let within = (reserved_within s.base.homes s.base.end tells.homes_follow k z reserved).1 in
      is.image (k + j) (omega (arith, within, below)) (λ i d at.
      let leaves = is.choice.leave.each i d at in
      outside_home maps s t live decision formed is h tells k j z d reserved leaves.0 leaves.1
      (others d.from leaves.0) below)

  pub move_disk : (h : List Entry) → Tells h maps s → MovesDisk Move s t to home scion
  move_disk h tells = record {
    follow = reserved_follow s.base.homes t.base.homes s.base.end decision.homes.given.items is.homes t.base.end
        (sym is.end);
    old_homes = reserved_old s.base.homes t.base.homes s.base.end decision.homes.given.items is.homes;
    only_homes = only_given;
    free_homes = is.free_homes;
    bodies = leaves_body h tells;
    stubs = leaves_stub;
    kept = stays_there h tells;
  }

  module _ (after : Maps) (names : NamesGiven decision.homes maps.address maps.home after.home) where
    -- the home of a given object has its number
    given_named : (k n : ℕ) (g : Given) → slice_get decision.homes.given.items k ≡ Some g
        → maps.address g.from ≡ Some n → after.home (home g.from) ≡ Some n
    given_named k n g at named = ap after.home (given_begins k g at) ∙ names.each k n g at named

    -- homes from before lie before all new ones
    old_named : (h : List Entry) → Tells h maps s → (k n : ℕ) → maps.home k ≡ Some n → after.home k ≡ Some n
    old_named h tells k n has =
        let stands = tells.homes k n has in
        let within = (reserved_within s.base.homes s.base.end tells.homes_follow k stands.reserved_for
        stands.reserved).1 in
        names.others k (λ j g at same. omega (arith, within, same, is.first)) ∙ has

    -- a home with a number has it from before, or is new
    named_homes : (k n : ℕ) → after.home k ≡ Some n → (maps.home k ≡ Some n)
        ⊎ ((a : ℕ) × GetsHome s home a × (home a ≡ k) × (maps.address a ≡ Some n))
    named_homes k n has = elim (begins_decided decision.homes.first k decision.homes.given.items) [
      | inl new ↦
          let gets = given_gets new.index new.object new.is in
          let at : home new.object.from ≡ k = given_begins new.index new.object new.is ∙ new.begins in
          let named = reached_named maps s new.object.from formed gets.reached in
          let number : named.0 ≡ n =
          same_Some _ _ (sym (given_named new.index named.0 new.object new.is named.1) ∙ (ap after.home at ∙ has)) in
          inr (new.object.from, gets, at, named.1 ∙ ap Some number)
      | inr none ↦ inl (sym (names.others k
          (λ j g at same. none (record { index = j; object = g; is = at; begins = sym same }))) ∙ has)
    ]

    pub names_given : (h : List Entry) → Tells h maps s → NamesHomes maps after s home
    names_given h tells = record {
      old = old_named h tells;
      new_homes = λ a n gets named.
          let given = gets_given s decision is.gives from_one a gets in
          ap (λ (b : ℕ). after.home (home b)) (sym given.from)
          ∙ given_named given.index n given.given given.is (ap maps.address given.from ∙ named);
      only = named_homes;
    }
