-- What was decided and done is the law of a collection, as far as it speaks of words.
use Rattle.std.proofs.Common.{◌≡◌, ◌≢◌, ◌⊎◌, inl, inr, ℕ, ◌+◌, ◌*◌, ◌≤◌, List, ◌++◌, take, refl}
use Rattle.std.proofs.Common.{sym}
use Rattle.std.proofs.Common.{◌∙◌, ap, subst, arith}
use Rattle.std.specs.Prelude.{nat_lt, slice_get, slice_index, Some}
use Rattle.std.proofs.lemmas.Bool.{cases_eq}
use Rattle.melt_model.specs.declared.reports.Phase.TheVariants.{Move}
use Rattle.melt_word.specs.Words.{cost_of, home_word, scion_part}
use Rattle.melt_word.specs.declared.header.Shape.{Shape}
use Rattle.melt_word.specs.declared.header.Header.{Header}
use Rattle.melt_scion.specs.State.{Scion, Home, State, HeaderAt, IsReserved, Reached, in_slot}
use Rattle.melt_scion.specs.Placed.{Maps, Formed}
use Rattle.melt_scion.specs.Moves.{Leaves, IsNamedByLeaving, GetsHome, moved_ref, WordBecomes, IsNewHome, GivesHomes}
use Rattle.melt_scion.specs.Moves.{Arrives}
use Rattle.melt_scion.specs.Moves.{TakesScion, MovesWords}
use Rattle.melt_scion.proofs.Geometry.{one_header}
use Rattle.melt_scion.proofs.NobodyLeaves.{parts_of_word}
use Rattle.melt_copy.specs.declared.live.LiveSet.{LiveSet}
use Rattle.melt_copy.specs.declared.forwarding.Relocation.{Relocation}
use Rattle.melt_copy.specs.Moving.{AreHeld, Carries, Relocates, header_after}
use Rattle.melt_copy.specs.Tracking.{goes}
use Rattle.melt_copy.proofs.Places.{place_found}
use Rattle.melt_copy.proofs.Sources.{goes as goes_to}
use Rattle.melt_copy.proofs.Carried.{found_at, free_within, in_order, marked, place_within}
use Rattle.melt_move.specs.declared.decision.Decision.{Decision}
use Rattle.melt_move.specs.Plans.{OldHome, home_by, need_for, new_home}
use Rattle.melt_move.specs.GivenScions.{NamesScion, given_home}
use Rattle.melt_move.specs.Moved.{IsMove, homes_from}
use Rattle.melt_move.proofs.HomesBy.{home-none, home-old, home-cases, gets_given, given_within, home-given}
use Rattle.melt_move.proofs.HomesBy.{wants_some}
use Rattle.melt_move.proofs.Reserved.{new_reserved}

-- the new address of each object that stays, and the scion of each that has a home then
abbrev pub to_by : Decision → ℕ → ℕ
to_by decision = goes decision.choice.stay

abbrev pub scion_by : State → Decision → ℕ → ℕ
scion_by t decision a = scion_part (t.word (to_by decision a + 1))

module _ (maps : Maps) (s t : State) (live : LiveSet) (decision : Decision) (formed : Formed maps s)
    (is : IsMove s t live decision) where
  abbrev moves : List Relocation
  moves = decision.choice.stay.moves.items

  pub some_first : 1 ≤ decision.homes.first
  some_first = let first = is.first in let some = is.first_end in omega (arith, first, some)

  -- what stays was carried
  pub move_carries : Carries Move s t (to_by decision) decision.choice.stay.moves.items decision.held_count
  move_carries = record {
    whole = is.whole;
    found = subst (λ (free : ℕ). Relocates s (to_by decision) decision.choice.stay.moves.items free) (sym is.free)
        is.choice.stay;
    header = λ k m header at starts. (is.objects k m at).header header starts;
    held = subst (λ (held_count : ℕ). AreHeld s decision.choice.stay.moves.items held_count) (sym is.held_count)
        is.choice.held;
    size = is.size;
  }

  -- an object with a home from before was given none
  old_not_given : (m : Relocation) (home scion : ℕ) → OldHome s m.from home scion → given_home decision.homes m ≡ 0
  old_not_given m home scion old = elim (cases_eq (slice_index decision.homes.offsets.items m.from) 0) [
    | inl none ↦ ap (new_home decision.homes.first) none
    | inr some ↦
        let g = is.gives.only m.from some in
        let none : s.word (m.from + 1) ≡ 0 =
        subst (λ (a : ℕ). s.word (a + 1) ≡ 0) g.3 (is.gives.each g.0 g.1 g.2).0.had_none in
        let word : s.word (m.from + 1) ≡ 4294967296 * home + 4 * scion = old.is in
        absurd (omega (arith, none, word, old.in_range.home.not_null))
  ]

  -- so its home word stays
  old_stays : (k : ℕ) (m : Relocation) (home scion : ℕ) → slice_get decision.choice.stay.moves.items k ≡ Some m
      → OldHome s m.from home scion → t.word (m.to + 1) ≡ home_word (Some (record { home = home; scion = scion }))
  old_stays k m home scion at old = is.kept_home k m at (old_not_given m home scion old) ∙ old.is

  -- the new home of an object without one
  given_is : (m : Relocation) → s.word (m.from + 1) ≡ 0 → given_home decision.homes m ≡ home_by s.word decision m.from
  given_is m none = sym (home-none s decision m.from none)

  -- an object that stays: its home word names its home and its scion
  record Homed (a : ℕ) : Type 0 where
    pub scion : ℕ
    pub scion_is : scion_by t decision a ≡ scion
    pub names : NamesScion t.word (to_by decision a) (home_by s.word decision a) scion
    pub is_live : t.base.scion scion ≡ Some (record { home = home_by s.word decision a; address = to_by decision a })

  homed_old : (a scion : ℕ) → to_by decision a ≢ 0 → OldHome s a (home_by s.word decision a) scion → Homed a
  homed_old a scion some old =
      let home = home_by s.word decision a in
      let g = goes_to s (to_by decision) moves decision.choice.stay.next a is.choice.stay some in
      let there : OldHome s g.move.from home scion = subst (λ (b : ℕ). OldHome s b home scion) (sym g.from) old in
      let word : t.word (to_by decision a + 1) ≡ home_word (Some (record { home = home; scion = scion })) =
      ap (λ (b : ℕ). t.word (b + 1)) g.to ∙ old_stays g.index g.move home scion g.is there in
      record {
        scion = scion;
        scion_is = (parts_of_word _ home scion old.in_range.scion word).1;
        names = record { in_range = old.in_range; some = old.some; is = word };
        is_live =
            is.old_scion g.index g.move home scion g.is there
            ∙ ap (λ (b : ℕ). Some (record { home = home; address = b })) (sym g.to);
      }

  homed_new : (a : ℕ) → to_by decision a ≢ 0 → s.word (a + 1) ≡ 0 → home_by s.word decision a ≢ 0 → Homed a
  homed_new a some none one =
      let home = home_by s.word decision a in
      let g = goes_to s (to_by decision) moves decision.choice.stay.next a is.choice.stay some in
      let given : given_home decision.homes g.move ≡ home =
      given_is g.move (ap (λ (b : ℕ). s.word (b + 1)) g.from ∙ none) ∙ ap (home_by s.word decision) g.from in
      let has = is.new_home g.index g.move g.is (λ nought. one (sym given ∙ nought)) in
      let names : NamesScion t.word (to_by decision a) home has.scion =
      subst (λ (b : ℕ). NamesScion t.word b home has.scion) (sym g.to)
      (subst (λ (h : ℕ). NamesScion t.word g.move.to h has.scion) given has.names) in
      record {
        scion = has.scion;
        scion_is = (parts_of_word _ home has.scion names.in_range.scion names.is).1;
        names = names;
        is_live =
            has.live ∙ (ap (λ (h : ℕ). Some (record { home = h; address = g.move.to })) given
            ∙ ap (λ (b : ℕ). Some (record { home = home; address = b })) (sym g.to));
      }

  stays_reached : (a : ℕ) → to_by decision a ≢ 0 → Reached s a
  stays_reached a some = (is.choice.chooses.stay a some).0

  homed : (a : ℕ) → to_by decision a ≢ 0 → home_by s.word decision a ≢ 0 → Homed a
  homed a some one = elim (home-cases s decision a (is.old_homes a (stays_reached a some))) [
    | inl old ↦ homed_old a old.0 some old.1
    | inr none ↦ homed_new a some none one
  ]

  -- an object that stays and has no home
  homeless : (a : ℕ) → to_by decision a ≢ 0 → home_by s.word decision a ≡ 0 → t.word (to_by decision a + 1) ≡ 0
  homeless a some nought = elim (home-cases s decision a (is.old_homes a (stays_reached a some))) [
    | inl old ↦ absurd (let range = old.1.in_range.home.not_null in omega (arith, nought, range))
    | inr none ↦
        let g = goes_to s (to_by decision) moves decision.choice.stay.next a is.choice.stay some in
        let word : s.word (g.move.from + 1) ≡ 0 = ap (λ (b : ℕ). s.word (b + 1)) g.from ∙ none in
        let given : given_home decision.homes g.move ≡ 0 =
        given_is g.move word ∙ (ap (home_by s.word decision) g.from ∙ nought) in
        ap (λ (b : ℕ). t.word (b + 1)) g.to ∙ (is.kept_home g.index g.move g.is given ∙ word)
  ]

  arrives : (a : ℕ) (header : Header) → to_by decision a ≢ 0 → HeaderAt s a header
      → Arrives Move s t (to_by decision) (home_by s.word decision) (scion_by t decision) a header
  arrives a header some starts =
      let x = found_at Move maps s t (to_by decision) moves decision.held_count move_carries a header some starts in
      let object = is.objects x.index x.move x.is in
      let refs : header.shape.refs ≡ x.move.shape.refs = ap (λ (z : Shape). z.refs) x.shape in
      let nums : header.shape.nums ≡ x.move.shape.nums = ap (λ (z : Shape). z.nums) x.shape in
      let Becomes : ℕ → ℕ → Type 0 = WordBecomes (moved_ref Move (to_by decision) (home_by s.word decision)) in
      record {
        later = header_after Move (nat_lt x.index decision.held_count) header;
        starts = x.there;
        shape = refl;
        marked = marked Move maps s t (to_by decision) moves decision.held_count move_carries formed a header x starts;
        below = place_within Move maps s t (to_by decision) moves decision.held_count move_carries a header some starts;
        no_home = homeless a some;
        at_home = λ one. let h = homed a some one in
            h.names.is ∙ ap (λ (k : ℕ). home_word (Some (record { home = home_by s.word decision a; scion = k })))
            (sym h.scion_is);
        slots = λ i below.
            subst (λ (b : ℕ). Becomes (s.word (b + 2 + i)) (t.word (to_by decision a + 2 + i))) x.from
            (subst (λ (b : ℕ). Becomes (s.word (x.move.from + 2 + i)) (t.word (b + 2 + i))) x.to
            (object.slots i (omega (arith, refs, below))));
        numbers = λ j below.
            ap t.word (omega (arith, refs, x.to))
            ∙ (object.numbers j (omega (arith, nums, below)) ∙ ap s.word (omega (arith, refs, x.from)));
      }

  takes_scion : (a : ℕ) → to_by decision a ≢ 0 → home_by s.word decision a ≢ 0
      → TakesScion t (to_by decision) (home_by s.word decision) (scion_by t decision) a
  takes_scion a some one =
      let h = homed a some one in
      let same = h.scion_is in
      record {
        first = (let first = h.names.some in omega (arith, same, first));
        small = (let small = h.names.in_range.scion in omega (arith, same, small));
        live = ap t.base.scion same ∙ h.is_live;
      }

  only_scions : (k : ℕ) (x : Scion) → t.base.scion k ≡ Some x
      → (a : ℕ) × (to_by decision a ≢ 0) × (home_by s.word decision a ≢ 0) × (scion_by t decision a ≡ k)
  only_scions k x there =
      let n = is.only_scions k x there in
      let a = n.move.from in
      let to : to_by decision a ≡ n.move.to = is.choice.stay.found n.index n.move n.is in
      let some : to_by decision a ≢ 0 =
      place_found s (to_by decision) moves decision.choice.stay.next n.index n.move is.choice.stay n.is in
      let word : t.word (to_by decision a + 1) ≡ home_word (Some (record { home = x.home; scion = k })) =
      ap (λ (b : ℕ). t.word (b + 1)) to ∙ n.names.is in (
        a,
        some,
        λ nought.
            let empty = homeless a some nought in
            let w : t.word (to_by decision a + 1) ≡ 4294967296 * x.home + 4 * k = word in
            omega (arith, empty, w, n.names.some),
        (parts_of_word _ x.home k n.names.in_range.scion word).1,
      )

  -- an object that is reached and has no home yet, by why it wants one
  wants : (a : ℕ) → Reached s a → Leaves Move s a ⊎ IsNamedByLeaving Move s a → home_by s.word decision a ≢ 0
  wants a reached why = elim (home-cases s decision a (is.old_homes a reached)) [
    | inl old ↦ λ nought. let range = old.1.in_range.home.not_null in omega (arith, nought, range)
    | inr none ↦ wants_some s decision is.gives some_first a (record { why = why; had_none = none })
  ]

  pub named_reached : (a : ℕ) → IsNamedByLeaving Move s a → Reached s a
  named_reached a named =
      in_slot named.object named.slot a named.header named.leaves.0 named.starts named.below named.refers

  new_home_is : (a : ℕ) (header : Header) → GetsHome s (home_by s.word decision) a → HeaderAt s a header
      → IsNewHome s t (home_by s.word decision) a header
  new_home_is a header gets starts =
      let home = home_by s.word decision in
      let g = gets_given s decision is.gives some_first a gets in
      let within = given_within s decision is.gives some_first g.index g.given g.is in
      let shaped = (is.gives.each g.index g.given g.is).1 in
      let shape : header.shape ≡ g.given.shape =
      ap (λ (h : Header). h.shape) (one_header s a header shaped.header starts
      (subst (λ (b : ℕ). HeaderAt s b shaped.header) g.from shaped.starts)) ∙ shaped.is in
      let cost : cost_of header.shape ≡ cost_of g.given.shape = ap cost_of shape in
      let same : home g.given.from ≡ home a = ap home g.from in
      let at : home a ≡ s.base.end + need_for (take g.index decision.homes.given.items) =
      sym same ∙ (home-given s decision is.gives some_first g.index g.given g.is
      ∙ ap (λ (n : ℕ). n + need_for (take g.index decision.homes.given.items)) is.first) in
      let first = is.first in
      let end = is.end in
      record {
        after = omega (arith, within.0, same, first);
        within = omega (arith, within.1, same, first, cost, end);
        reserved =
            subst (λ (hs : List Home). IsReserved hs (home a) header.shape) (sym is.homes)
            (subst (λ (z : Shape).
            IsReserved (s.base.homes ++ homes_from s.base.end decision.homes.given.items) (home a) z)
            (sym shape)
            (subst (λ (n : ℕ).
            IsReserved (s.base.homes ++ homes_from s.base.end decision.homes.given.items) n g.given.shape)
            (sym at)
            (new_reserved s.base.homes s.base.end g.index decision.homes.given.items g.given g.is)));
      }

  gives_homes : GivesHomes Move s t (to_by decision) (home_by s.word decision) (scion_by t decision)
  unfolding homed_old
  gives_homes = record {
    kept = λ a h k reached range word. elim (is.old_homes a reached) [
      | inl none ↦
          let w : s.word (a + 1) ≡ 4294967296 * h + 4 * k = word in
          absurd (let some = range.home.not_null in omega (arith, none, w, some))
      | inr old ↦
          let parts = parts_of_word (s.word (a + 1)) h k range.scion word in
          let others = parts_of_word (s.word (a + 1)) old.0 old.1 old.2.in_range.scion old.2.is in
          let home : home_by s.word decision a ≡ h = home-old s decision a old.0 old.1 old.2
          ∙ (sym others.0 ∙ parts.0) in (
            home,
            λ some.
                let there : OldHome s a (home_by s.word decision a) old.1 =
                subst (λ (n : ℕ). OldHome s a n old.1) (sym (home-old s decision a old.0 old.1 old.2)) old.2 in
                (homed_old a old.1 some there).scion_is ∙ (sym others.1 ∙ parts.1),
          )
    ];
    leaving = λ a leaves. wants a leaves.0 (inl leaves);
    named = λ a named. wants a (named_reached a named) (inr named);
    only = λ a gets.
        let g = gets_given s decision is.gives some_first a gets in
        let why = (is.gives.each g.index g.given g.is).0.why in
        subst (λ (b : ℕ). Leaves Move s b ⊎ IsNamedByLeaving Move s b) g.from why;
    new = new_home_is;
    first_end = is.first_end;
    end = (let end = is.end in omega (arith, end));
    small_end = is.small_end;
  }

  pub move_words : MovesWords Move s t (to_by decision) (home_by s.word decision) (scion_by t decision)
  move_words = record {
    chooses = is.choice.chooses;
    homes = gives_homes;
    size = is.size;
    globals = is.globals;
    free = free_within Move maps s t (to_by decision) moves decision.held_count move_carries;
    arrives = arrives;
    order = in_order Move maps s t (to_by decision) moves decision.held_count move_carries;
    global = is.global;
    register = is.register;
    scions = takes_scion;
    only_scions = only_scions;
    settled = λ p below. is.settled p;
    forwards = λ p below. is.forward p;
  }
