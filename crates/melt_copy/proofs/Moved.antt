-- A copy of what can be reached is a collection in which nobody leaves.
use Rattle.std.proofs.Common.{◌≡◌, ◌≢◌, ◌⊎◌, ℕ, zero, suc, ◌+◌, ◌*◌, ◌≤◌, List, refl, sym, ◌∙◌, ap, subst}
use Rattle.std.proofs.Common.{arith, inl, inr}
use Rattle.std.specs.Prelude.{nat_lt, Option, None, Some}
use Rattle.std.specs.Option.{option_map}
use Rattle.std.proofs.lemmas.Bool.{cases_eq}
use Rattle.std.proofs.lemmas.Option.{same_Some}
use Rattle.melt_model.specs.declared.reports.Phase.{Phase}
use Rattle.melt_word.specs.Words.{ref_word, home_word, home_part, IsHomeAndScion}
use Rattle.melt_word.specs.declared.header.Shape.{Shape}
use Rattle.melt_word.specs.declared.header.Header.{Header}
use Rattle.melt_word.specs.declared.reference.Ref.{Ref}
use Rattle.melt_word.specs.declared.reference.Ref.TheVariants.{Null, Clean, Stale, Disk}
use Rattle.melt_forward.specs.Forwarding.{forward_word}
use Rattle.melt_scion.specs.State.{Scion, State, HeaderAt, Forwards, Reached, at_scion}
use Rattle.melt_scion.specs.Placed.{Maps, Formed}
use Rattle.melt_scion.specs.Moves.{by_place, moved_ref, WordBecomes, Chooses, Arrives, TakesScion, MovesWords}
use Rattle.melt_scion.specs.Moves.{MovesNames}
use Rattle.melt_scion.specs.Collected.{Collected}
use Rattle.melt_scion.proofs.Reaching.{reached_named}
use Rattle.melt_scion.proofs.Moving.{moves_formed}
use Rattle.melt_scion.proofs.MovingTells.{moves_placed}
use Rattle.melt_scion.proofs.NobodyLeaves.{old_home, old_scion, parts_of_word, has_old_homes, names_stay, disk_stays}
use Rattle.melt_scion.proofs.NobodyLeaves.{homes_stay}
use Rattle.melt_copy.specs.declared.forwarding.Relocation.{Relocation}
use Rattle.melt_copy.specs.Moving.{IsWhole, IsFound, IsCopy, Carries, WordMoves, moved, moved_scion, header_after}
use Rattle.melt_copy.specs.Moving.{maps_after}
use Rattle.melt_copy.specs.Copying.{IsCopying}
use Rattle.melt_copy.proofs.Sources.{goes, reached_found, copy_closed}
use Rattle.melt_copy.proofs.Phases.{none_leaves}
use Rattle.melt_copy.proofs.Carried.{found_at, marked, place_within, in_order, zero_stays, free_within, carried_names}
use Rattle.melt_copy.proofs.Carried.{word_taken, found_once}

-- with a place, the reference to it
by_some : (place : ℕ) (there away : Ref) → place ≢ 0 → by_place place there away ≡ there
by_some zero there away some = absurd (some refl)
by_some (suc place) there away some = refl

-- a reference whose object stays
ref_moves : (phase : Phase) (f home : ℕ → ℕ) (r : Ref) → IsFound f r → moved_ref phase f home r ≡ moved phase f r
ref_moves phase f home Null found = refl
ref_moves phase f home (Clean a) found = by_some (f a) _ _ found
ref_moves phase f home (Stale a) found = by_some (f a) _ _ found
ref_moves phase f home (Disk k) found = refl

word_becomes : (phase : Phase) (f home : ℕ → ℕ) (old new : ℕ) → WordMoves phase f old new
    → WordBecomes (moved_ref phase f home) old new
word_becomes phase f home old new moves = record {
  reference = moves.reference;
  in_range = moves.in_range;
  was = moves.was;
  is = moves.is ∙ ap ref_word (sym (ref_moves phase f home moves.reference moves.found));
}

-- what a scion was, by what it is after the moves
scion_before : (f : ℕ → ℕ) (o : Option Scion) (x : Scion) → option_map (moved_scion f) o ≡ Some x
    → (y : Scion) × (o ≡ Some y) × (moved_scion f y ≡ x)
scion_before f None x is = absurd (cc)
scion_before f (Some y) x is = (y, refl, same_Some (moved_scion f y) x is)

module _ (phase : Phase) (maps : Maps) (s t : State) (f : ℕ → ℕ) (moves : List Relocation) (held_count : ℕ)
    (whole : IsWhole s) (copy : IsCopy phase s t f moves held_count) (formed : Formed maps s)
    (copying : IsCopying phase) where
  -- no forwarding word sends a home
  not_sent : {home address : ℕ} → Forwards s home address → ⊥
  not_sent {home} {address} is =
      let word : s.forward is.place ≡ forward_word home address = is.sends.is in
      omega (arith, word, copy.settled is.place, is.sends.home_in_range.not_null)

  -- what was found was carried
  pub copy_carries : Carries phase s t f moves held_count
  copy_carries = record {
    whole = whole;
    found = copy.found;
    header = λ k m header at starts. (copy.objects k m at).header header starts;
    held = copy.held;
    size = copy.sizes.size;
  }

  -- what can be reached stays, and nothing else does
  chooses : Chooses phase s f
  chooses = record {
    stay = λ a some.
        let g = goes s f moves t.free a copy.found some in
        (subst (Reached s) g.from (copy.found.whole g.index g.move g.is).reached, none_leaves phase s a copying);
    go = λ a reached.
        inl (reached_found s f moves t.free held_count copy.found (copy_closed s t f moves held_count copy) a reached);
    once = found_once phase maps s t f moves held_count copy_carries;
    nothing = zero_stays phase maps s t f moves held_count copy_carries;
  }

  -- an object that is reached has no home, or one with a live scion: none is forwarded
  home_of : (a : ℕ) → Reached s a → (s.word (a + 1) ≡ 0)
      ⊎ ((h : ℕ) × (k : ℕ) × (1 ≤ k) × IsHomeAndScion (record { home = h; scion = k })
      × (s.word (a + 1) ≡ home_word (Some (record { home = h; scion = k })))
      × (s.base.scion k ≡ Some (record { home = h; address = a })))
  home_of a reached =
      let named = reached_named maps s a formed reached in
      let object = formed.words.objects a named.0 named.1 in
      elim (formed.words.home_words a named.0 object.0 named.1 object.1.starts) [
        | inl none ↦ inl none
        | inr has ↦ elim (cases_eq has.1 0) [
          | inl nought ↦ absurd (not_sent (has.2.forwarded.0 nought))
          | inr some ↦ inr (has.0, has.1, omega (arith, some), has.2.in_range, has.2.is, has.2.live some)
        ]
      ]

  -- each object at its new address
  arrives : (a : ℕ) (header : Header) → f a ≢ 0 → HeaderAt s a header
      → Arrives phase s t f (old_home s) (old_scion s) a header
  arrives a header some starts =
      let x = found_at phase maps s t f moves held_count copy_carries a header some starts in
      let object = copy.objects x.index x.move x.is in
      let home : t.word (f a + 1) ≡ s.word (a + 1) =
      ap (λ (b : ℕ). t.word (b + 1)) (sym x.to) ∙ (object.home ∙ ap (λ (b : ℕ). s.word (b + 1)) x.from) in
      let refs : header.shape.refs ≡ x.move.shape.refs = ap (λ (z : Shape). z.refs) x.shape in
      let nums : header.shape.nums ≡ x.move.shape.nums = ap (λ (z : Shape). z.nums) x.shape in
      record {
        later = header_after phase (nat_lt x.index held_count) header;
        starts = x.there;
        shape = refl;
        marked = marked phase maps s t f moves held_count copy_carries formed a header x starts;
        below = place_within phase maps s t f moves held_count copy_carries a header some starts;
        no_home = λ none. elim (home_of a (chooses.stay a some).0) [
          | inl nought ↦ home ∙ nought
          | inr has ↦
              let part = (parts_of_word (s.word (a + 1)) has.0 has.1 has.3.scion has.4).0 in
              absurd (omega (arith, part, none, has.3.home.not_null))
        ];
        at_home = λ one. elim (home_of a (chooses.stay a some).0) [
          | inl nought ↦ absurd (one (ap home_part nought))
          | inr has ↦
              let part = parts_of_word (s.word (a + 1)) has.0 has.1 has.3.scion has.4 in
              home ∙ (has.4 ∙ (ap (λ (h : ℕ). home_word (Some (record { home = h; scion = has.1 }))) (sym part.0)
              ∙ ap (λ (k : ℕ). home_word (Some (record { home = old_home s a; scion = k }))) (sym part.1)))
        ];
        slots = λ i below.
            subst (λ (b : ℕ). WordBecomes (moved_ref phase f (old_home s)) (s.word (b + 2 + i)) (t.word (f a + 2 + i)))
            x.from
            (subst (λ (b : ℕ). WordBecomes (moved_ref phase f (old_home s)) (s.word (x.move.from + 2 + i))
            (t.word (b + 2 + i))) x.to
            (word_becomes phase f (old_home s) (s.word (x.move.from + 2 + i)) (t.word (x.move.to + 2 + i))
            (object.slots i (omega (arith, refs, below)))));
        numbers = λ j below.
            ap t.word (omega (arith, refs, x.to))
            ∙ (object.numbers j (omega (arith, nums, below)) ∙ ap s.word (omega (arith, refs, x.from)));
      }

  takes_scion : (a : ℕ) → f a ≢ 0 → old_home s a ≢ 0 → TakesScion t f (old_home s) (old_scion s) a
  takes_scion a some one = elim (home_of a (chooses.stay a some).0) [
    | inl nought ↦ absurd (one (ap home_part nought))
    | inr has ↦
        let part = parts_of_word (s.word (a + 1)) has.0 has.1 has.3.scion has.4 in
        let live : t.base.scion has.1 ≡ Some (record { home = has.0; address = f a }) =
        copy.scion has.1 ∙ ap (option_map (moved_scion f)) has.5 in
        record {
          first = (let k = part.1 in omega (arith, k, has.2));
          small = (let k = part.1 in omega (arith, k, has.3.scion));
          live =
              ap t.base.scion part.1 ∙ (live ∙ ap (λ (h : ℕ). Some (record { home = h; address = f a })) (sym part.0));
        }
  ]

  -- each live scion is that of an object that stays
  only_scions : (k : ℕ) (x : Scion) → t.base.scion k ≡ Some x
      → (a : ℕ) × (f a ≢ 0) × (old_home s a ≢ 0) × (old_scion s a ≡ k)
  only_scions k x live =
      let y = scion_before f (s.base.scion k) x (sym (copy.scion k) ∙ live) in
      let stands = formed.words.scions k y.0 y.1 in
      let part = parts_of_word (s.word (y.0.address + 1)) y.0.home k stands.small stands.home_word in (
        y.0.address,
        copy.scions_found k y.0 y.1,
        λ none. elim (home_of y.0.address (at_scion k y.0 y.1)) [
          | inl nought ↦
              let word : s.word (y.0.address + 1) ≡ 4294967296 * y.0.home + 4 * k = stands.home_word in
              omega (arith, word, nought, stands.first)
          | inr has ↦
              let is = (parts_of_word (s.word (y.0.address + 1)) has.0 has.1 has.3.scion has.4).0 in
              omega (arith, is, none, has.3.home.not_null)
        ],
        part.1,
      )

  pub copy_moves : MovesWords phase s t f (old_home s) (old_scion s)
  copy_moves = record {
    chooses = chooses;
    homes = homes_stay maps s formed phase t f (λ a. none_leaves phase s a copying) copy.homes.end;
    size = copy.sizes.size;
    globals = copy.sizes.globals;
    free = free_within phase maps s t f moves held_count copy_carries;
    arrives = arrives;
    order = in_order phase maps s t f moves held_count copy_carries;
    global = λ g below. word_becomes phase f (old_home s) (s.global g) (t.global g) (copy.global g below);
    register = copy.register;
    scions = takes_scion;
    only_scions = only_scions;
    settled = λ p below. copy.settled p;
    forwards = λ p below. copy.forward p;
  }

  pub copy_names : MovesNames maps (maps_after maps moves) f
  copy_names = carried_names phase maps s t f moves held_count copy_carries

  -- a copy is a collection
  pub copy_collects : Collected phase maps (maps_after maps moves) s t f (old_home s) (old_scion s)
  copy_collects = record {
    formed = moves_formed phase maps (maps_after maps moves) s t f (old_home s)
        (old_scion s) formed copy_moves copy_names;
    placed = λ h value placed.
        moves_placed phase maps (maps_after maps moves) s t f (old_home s) (old_scion s) copy_moves copy_names
        (names_stay s (old_home s) (has_old_homes maps s formed) maps (maps_after maps moves) (λ k. refl))
        (disk_stays s (old_home s) (has_old_homes maps s formed) phase t f (old_scion s)
        (λ a. none_leaves phase s a copying) copy.homes copy.image) h value placed;
    words = copy_moves;
    names = copy_names;
    homes = λ h tells. names_stay s (old_home s) (has_old_homes maps s formed) maps (maps_after maps moves) (λ k. refl);
    disk = λ h tells. disk_stays s (old_home s) (has_old_homes maps s formed) phase t f (old_scion s)
        (λ a. none_leaves phase s a copying) copy.homes copy.image;
    no_gaps = word_taken phase maps s t f moves held_count copy_carries formed;
  }
