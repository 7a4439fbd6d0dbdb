-- New homes, given one after the other.
use Rattle.std.proofs.Common.{◌≡◌, ◌≢◌, ◌⊎◌, inl, inr, ℕ, ◌+◌, ◌<◌, ◌^◌, List, [], ◌∷◌, ◌++◌, length, take}
use Rattle.std.proofs.Common.{set, replicate, refl, sym, ap, subst, ◌∙◌, arith, get_or-set_same, get_or-set_other}
use Rattle.std.specs.Prelude.{Bool, slice_get, slice_index, Some}
use Rattle.std.proofs.lemmas.Bool.{cases_eq, cases_lt}
use Rattle.std.proofs.lemmas.List.{length-set, length-replicate, get_or-replicate, get_or_past, take-append-le}
use Rattle.std.proofs.lemmas.Option.{same_Some, slice_get_within}
use Rattle.std.proofs.Math.Seq.{take-append_seam}
use Rattle.melt_model.proofs.Histories.{slice_get-append_left, slice_get-append_seam, last_place}
use Rattle.melt_model.specs.declared.reports.Phase.TheVariants.{Move}
use Rattle.melt_word.specs.Words.{cost_of}
use Rattle.melt_word.specs.declared.header.Shape.{Shape}
use Rattle.melt_space.specs.Space.{SpaceWords, word_at}
use Rattle.melt_scion.specs.State.{State, Reached, in_slot}
use Rattle.melt_scion.specs.Moves.{Leaves, IsNamedByLeaving}
use Rattle.melt_disk.specs.Homes.{need_of}
use Rattle.melt_copy.specs.declared.forwarding.Relocation.{Relocation}
use Rattle.melt_copy.specs.Moving.{IsWhole}
use Rattle.melt_copy.specs.Tracking.{goes}
use Rattle.melt_copy.proofs.Places.{same_source, place_found}
use Rattle.melt_move.specs.declared.choice.Choice.{Choice}
use Rattle.melt_move.specs.declared.choice.Departure.{Departure}
use Rattle.melt_move.specs.declared.homes.Given.{Given}
use Rattle.melt_move.specs.declared.homes.Giving.{Giving}
use Rattle.melt_move.specs.declared.homes.NewHomes.{NewHomes}
use Rattle.melt_move.specs.GivingHomes.{IsMarked, HasMarks, WasChosen, IsOffered, offset_at, HasGiven, GivesTo, IsAmong}
use Rattle.melt_move.specs.GivingHomes.{IsAmongMarked}
use Rattle.melt_move.specs.Plans.{IsSeen, IsShaped, WantsHome, GivesNew, need_for}
use Rattle.melt_move.proofs.Choosing.{none_there}
use Rattle.melt_move.proofs.Marking.{IsPlaced, shaped_placed}
use Rattle.melt_move.proofs.Needs.{need_push, needs_small}

-- an object that is to have a home can be reached
pub is_reached : (s : State) (a : ℕ) → Leaves Move s a ⊎ IsNamedByLeaving Move s a → Reached s a
is_reached s a why = elim why [
  | inl leaves ↦ leaves.0
  | inr named ↦
      in_slot named.object named.slot a named.header named.leaves.0 named.starts named.below named.refers
]

-- and stands among the words
pub offered_placed : (space : SpaceWords) (s : State) (giving : Giving) (from : ℕ) (shape : Shape)
    → HasGiven space s giving → IsOffered s from shape → IsPlaced s from shape
offered_placed space s giving from shape has offered =
    shaped_placed s from shape has.seen.whole (is_reached s from offered.why) offered.shaped

pub offered_within : (space : SpaceWords) (s : State) (giving : Giving) (from : ℕ) (shape : Shape)
    → HasGiven space s giving → IsOffered s from shape → from < length giving.homes.offsets.items
offered_within space s giving from shape has offered =
    let below = (offered_placed space s giving from shape has offered).below in
    let table = has.table in
    let free = has.seen.free in
    omega (arith, below, table, free)

-- one more gets a home
module _ (space : SpaceWords) (s : State) (a : Giving) (from : ℕ) (shape : Shape) (has : HasGiven space s a)
    (offered : IsOffered s from shape) (not_yet : offset_at a.homes from ≡ 0)
    (none : word_at space (from + 1) ≡ 0) where
  next : Given
  next = record { from = from; shape = shape }

  wants : WantsHome s from
  wants = record { why = offered.why; had_none = has.seen.word (from + 1) ∙ none }

  -- those that had a new home are others
  is_other : (k : ℕ) (g : Given) → slice_get a.homes.given.items k ≡ Some g → g.from ≢ from
  is_other k g at same =
      let offset = has.offset k g at in
      let nought = ap (offset_at a.homes) same in
      omega (arith, offset, nought, not_yet)

  each_more : (k : ℕ) (g : Given) → slice_get (a.homes.given.items ++ next ∷ []) k ≡ Some g
      → WantsHome s g.from × IsShaped s g.from g.shape
  unfolding next
  each_more k g at = elim (last_place a.homes.given.items next k g at) [
    | inl old ↦ has.each k g old.1
    | inr new ↦ subst (λ (x : Given). WantsHome s x.from × IsShaped s x.from x.shape) new.1 (wants, offered.shaped)
  ]

  once_more : (i j : ℕ) (g h : Given) → slice_get (a.homes.given.items ++ next ∷ []) i ≡ Some g
      → slice_get (a.homes.given.items ++ next ∷ []) j ≡ Some h → g.from ≡ h.from → i ≡ j
  unfolding next
  once_more i j g h first second same = elim (last_place a.homes.given.items next i g first) [
    | inl i_old ↦ elim (last_place a.homes.given.items next j h second) [
      | inl j_old ↦ has.once i j g h i_old.1 j_old.1 same
      | inr j_new ↦ absurd (is_other i g i_old.1 (same ∙ ap (λ (x : Given). x.from) (sym j_new.1)))
    ]
    | inr i_new ↦ elim (last_place a.homes.given.items next j h second) [
      | inl j_old ↦ absurd (is_other j h j_old.1 (sym same ∙ ap (λ (x : Given). x.from) (sym i_new.1)))
      | inr j_new ↦ i_new.0 ∙ sym j_new.0
    ]
  ]

  -- the next home fits
  pub next_fits : a.need + cost_of shape < 2 ^ 30
  unfolding next
  next_fits =
      let small = needs_small s (a.homes.given.items ++ next ∷ []) has.seen.whole
      (λ k g at. let one = each_more k g at in (is_reached s g.from one.0.why, one.1)) once_more in
      let need = has.need in
      omega (arith, small, need, need_push a.homes.given.items next)

  -- what holds when it was given
  pub given_more : (b : Giving)
      → b.homes.given.items ≡ a.homes.given.items ++ (record { from = from; shape = shape }) ∷ []
      → b.homes.offsets.items ≡ set a.homes.offsets.items from (a.need + 1)
      → need_of b.homes.counts ≡ need_of a.homes.counts + cost_of shape → b.need ≡ a.need + cost_of shape
      → HasGiven space s b
  unfolding next
  given_more b given offsets counts need =
      let within = offered_within space s a from shape has offered in
      let place = length a.homes.given.items in
      let here : offset_at b.homes from ≡ a.need + 1 = ap (λ (xs : List ℕ). slice_index xs from) offsets
      ∙ get_or-set_same a.homes.offsets.items from (a.need + 1) 0 within in
      let others : (x : ℕ) → x ≢ from → offset_at b.homes x ≡ offset_at a.homes x =
      λ x other. ap (λ (xs : List ℕ). slice_index xs x) offsets
      ∙ get_or-set_other a.homes.offsets.items from x (a.need + 1) 0 other in
      let needs : need_for b.homes.given.items ≡ need_for a.homes.given.items + cost_of shape =
      ap need_for given ∙ need_push a.homes.given.items next in
      let old_need = has.need in
      let old_counts = has.counts in
      record {
        seen = has.seen;
        table = ap length offsets ∙ (length-set a.homes.offsets.items from (a.need + 1) ∙ has.table);
        each = subst (λ (gs : List Given). (k : ℕ) (g : Given) → slice_get gs k ≡ Some g
            → WantsHome s g.from × IsShaped s g.from g.shape) (sym given) each_more;
        once = subst (λ (gs : List Given). (i j : ℕ) (g h : Given) → slice_get gs i ≡ Some g → slice_get gs j ≡ Some h
            → g.from ≡ h.from → i ≡ j) (sym given) once_more;
        offset = λ k g at.
            elim (last_place a.homes.given.items next k g (ap (λ (gs : List Given). slice_get gs k) (sym given) ∙ at)) [
              | inl old ↦
                  let below = old.0 in
                  others g.from (is_other k g old.1) ∙ (has.offset k g old.1
                  ∙ ap (λ (gs : List Given). 1 + need_for gs)
                  (sym (ap (take k) given ∙ take-append-le k a.homes.given.items (next ∷ []) (omega (arith, below)))))
              | inr new ↦
                  let front : take k b.homes.given.items ≡ a.homes.given.items =
                  ap (take k) given ∙ (ap (λ (n : ℕ). take n (a.homes.given.items ++ next ∷ [])) new.0
                  ∙ take-append_seam a.homes.given.items (next ∷ [])) in
                  let same : g.from ≡ from = ap (λ (x : Given). x.from) (sym new.1) in
                  ap (offset_at b.homes) same ∙ (here ∙ (let words = ap need_for front in
                  omega (arith, words, old_need)))
            ];
        only = λ x some. elim (cases_eq x from) [
          | inl same ↦ (
            place,
            next,
            ap (λ (gs : List Given). slice_get gs place) given ∙ slice_get-append_seam a.homes.given.items next [],
            sym same,
          )
          | inr other ↦
              let old = has.only x (λ (nought : offset_at a.homes x ≡ 0). some (others x other ∙ nought)) in (
                old.0,
                old.1,
                ap (λ (gs : List Given). slice_get gs old.0) given
                    ∙ (slice_get-append_left a.homes.given.items (next ∷ []) old.0
                    (slice_get_within a.homes.given.items old.0 old.1 old.2) ∙ old.2),
                old.3,
              )
        ];
        counts = omega (arith, counts, needs, old_counts);
        need = omega (arith, need, needs, old_need);
      }

-- one object is offered a home, and gets it
pub gives_one : (word : ℕ → ℕ) (old new : NewHomes) (from offset : ℕ) → from < length old.offsets.items
    → new.offsets.items ≡ set old.offsets.items from (offset + 1) → new.first ≡ old.first
    → GivesTo word (λ x. x ≡ from) old new
gives_one word old new from offset within is first =
    let here : offset_at new from ≡ offset + 1 = ap (λ (xs : List ℕ). slice_index xs from) is
    ∙ get_or-set_same old.offsets.items from (offset + 1) 0 within in
    let others : (x : ℕ) → x ≢ from → offset_at new x ≡ offset_at old x =
    λ x other. ap (λ (xs : List ℕ). slice_index xs x) is
    ∙ get_or-set_other old.offsets.items from x (offset + 1) 0 other in
    record {
      all = λ x same none nought. let there = ap (offset_at new) same in omega (arith, there, here, nought);
      only = λ x some. elim (cases_eq x from) [
        | inl same ↦ inr same
        | inr other ↦ inl (λ (nought : offset_at old x ≡ 0). some (others x other ∙ nought))
      ];
      keeps = λ x some. elim (cases_eq x from) [
        | inl same ↦ λ nought. let there = ap (offset_at new) same in omega (arith, there, here, nought)
        | inr other ↦ λ (nought : offset_at new x ≡ 0). some (sym (others x other) ∙ nought)
      ];
      first = first;
    }

-- nobody is offered one
pub gives_nobody : (word : ℕ → ℕ) (P : ℕ → Type 0) (homes : NewHomes) → ((x : ℕ) → P x → ⊥) → GivesTo word P homes homes
gives_nobody word P homes nobody = record {
  all = λ x offered. absurd (nobody x offered);
  only = λ x known. inl known;
  keeps = λ x known. known;
  first = refl;
}

-- first some are, then others
pub gives_then : {word : ℕ → ℕ} (P Q R : ℕ → Type 0) {a b c : NewHomes} → GivesTo word P a b → GivesTo word Q b c
    → ((x : ℕ) → R x → P x ⊎ Q x) → ((x : ℕ) → P x → R x) → ((x : ℕ) → Q x → R x) → GivesTo word R a c
gives_then P Q R one two split left right = record {
  all = λ x offered none. elim (split x offered) [
    | inl before ↦ two.keeps x (one.all x before none)
    | inr after ↦ two.all x after none
  ];
  only = λ x known. elim (two.only x known) [
    | inl before ↦ elim (one.only x before) [ inl old ↦ inl old | inr offered ↦ inr (left x offered) ]
    | inr offered ↦ inr (right x offered)
  ];
  keeps = λ x known. two.keeps x (one.keeps x known);
  first = two.first ∙ one.first;
}

-- the same are
gives_as : (word : ℕ → ℕ) (P R : ℕ → Type 0) (a b : NewHomes) → GivesTo word P a b → ((x : ℕ) → R x → P x)
    → ((x : ℕ) → P x → R x) → GivesTo word R a b
gives_as word P R a b gives from to =
    gives_then P (λ x. ⊥) R gives (gives_nobody word (λ x. ⊥) b (λ x none. none)) (λ x is. inl (from x is)) to
    (λ x none. absurd none)

-- nobody has a new home
pub given_start : (space : SpaceWords) (s : State) (giving : Giving) → IsSeen space s
    → giving.homes.offsets.items ≡ replicate (space.used + 1) 0 → giving.homes.given.items ≡ []
    → giving.homes.counts ≡ replicate 127 0 → giving.need ≡ 0 → HasGiven space s giving
given_start space s giving seen offsets nobody counts need =
    let nothing : need_for giving.homes.given.items ≡ 0 = ap need_for nobody in
    record {
      seen = seen;
      table = ap length offsets ∙ length-replicate {A = ℕ} (space.used + 1) 0;
      each = λ k g at. absurd (none_there giving.homes.given.items k g nobody at);
      once = λ i j g h first second same. absurd (none_there giving.homes.given.items i g nobody first);
      offset = λ k g at. absurd (none_there giving.homes.given.items k g nobody at);
      only = λ a some. absurd (some (ap (λ (xs : List ℕ). slice_index xs a) offsets ∙ all_zero (space.used + 1) a));
      counts = ap need_of counts ∙ sym nothing;
      need = need ∙ sym nothing;
    }
  where
    all_zero : (n i : ℕ) → slice_index (replicate n 0) i ≡ 0
    all_zero n i = elim (cases_lt i n) [
      | inl below ↦ get_or-replicate n i 0 0 below
      | inr past ↦
          let size = length-replicate {A = ℕ} n 0 in
          get_or_past (replicate n 0) i 0 (omega (arith, size, past))
    ]

-- where nobody had a new home, it is the first objects that leave that have one
pub only_leaving : {space : SpaceWords} {s : State} {word : ℕ → ℕ} (leaving : List Departure) (k : ℕ) {a : Giving}
    {b : NewHomes} → HasGiven space s a → a.homes.given.items ≡ [] → GivesTo word (IsAmong leaving k) a.homes b
    → (x : ℕ) → offset_at b x ≢ 0 → IsAmong leaving k x
only_leaving leaving k {a} has nobody gives x some = elim (gives.only x some) [
  | inl before ↦ let g = has.only x before in absurd (none_there a.homes.given.items g.0 g.1 nobody g.2)
  | inr among ↦ among
]

-- the objects that leave
module _ (s : State) (choice : Choice) (chosen : WasChosen s choice) (k : ℕ) (d : Departure)
    (at : slice_get choice.leaving.items k ≡ Some d) where
  pub leaving_offered : IsOffered s d.from d.shape
  leaving_offered = let one = chosen.1.leave.each k d at in record { why = inl one.0; shaped = one.1 }

  pub leaving_not_yet : (space : SpaceWords) (word : ℕ → ℕ) (old now : Giving) → HasGiven space s old
      → old.homes.given.items ≡ [] → GivesTo word (IsAmong choice.leaving.items k) old.homes now.homes
      → offset_at now.homes d.from ≡ 0
  leaving_not_yet space word old now has nobody gives = elim (cases_eq (offset_at now.homes d.from) 0) [
    | inl none ↦ none
    | inr some ↦
        let among = only_leaving choice.leaving.items k has nobody gives d.from some in
        let same = chosen.1.leave.once among.0 k among.1 d among.3 at among.4 in
        let below = among.2 in
        absurd (omega (arith, same, below))
  ]

pub leaving_more : {word : ℕ → ℕ} (leaving : List Departure) (k : ℕ) {d : Departure} {a b : NewHomes} (c : NewHomes)
    → slice_get leaving k ≡ Some d → GivesTo word (IsAmong leaving k) a b → GivesTo word (λ x. x ≡ d.from) b c
    → GivesTo word (IsAmong leaving (k + 1)) a c
leaving_more leaving k {d} c at before gives =
    gives_then (IsAmong leaving k) (λ x. x ≡ d.from) (IsAmong leaving (k + 1)) before gives
    (λ x among. elim (cases_eq among.0 k) [
      | inl same ↦
          let one : among.1 ≡ d = same_Some among.1 d (sym among.3 ∙ (ap (slice_get leaving) same ∙ at)) in
          inr (sym among.4 ∙ ap (λ (e : Departure). e.from) one)
      | inr other ↦ let below = among.2 in inl (among.0, among.1, omega (arith, below, other), among.3, among.4)
    ]) (λ x among. let below = among.2 in (among.0, among.1, omega (arith, below), among.3, among.4))
    (λ x same. (k, d, omega arith, at, sym same))

-- the objects that stay and have a mark
module _ (s : State) (choice : Choice) (chosen : WasChosen s choice) (marks : List Bool) (has_marks : HasMarks s marks)
    (k : ℕ) (m : Relocation) (at : slice_get choice.stay.moves.items k ≡ Some m) where
  pub mark_within : IsWhole s → m.from < length marks
  mark_within whole =
      let below = (whole.objects m.from (chosen.1.stay.whole k m at).reached).1.below in
      let size = has_marks.size in
      omega (arith, below, size)

  pub named_offered : IsMarked marks m.from → IsOffered s m.from m.shape
  named_offered marked =
      let is = chosen.1.stay.whole k m at in
      record {
        why = inr ((has_marks.marked m.from).0 marked);
        shaped = record { header = is.header; starts = is.starts; is = is.shape };
      }

  pub named_not_yet : (word : ℕ → ℕ) (old now : Giving)
      → ((a : ℕ) → offset_at old.homes a ≢ 0 → IsAmong choice.leaving.items (length choice.leaving.items) a)
      → GivesTo word (IsAmongMarked choice.stay.moves.items marks k) old.homes now.homes
      → offset_at now.homes m.from ≡ 0
  named_not_yet word old now leaving gives = elim (cases_eq (offset_at now.homes m.from) 0) [
    | inl none ↦ none
    | inr some ↦ absurd (elim (gives.only m.from some) [
      | inl before ↦
          let among = leaving m.from before in
          let goes_away = (chosen.1.leave.each among.0 among.1 among.3).0 in
          (chosen.1.chooses.stay m.from (place_found s (goes choice.stay) choice.stay.moves.items choice.stay.next k m
          chosen.1.stay at)).1 (subst (Leaves Move s) among.4 goes_away)
      | inr among ↦
          let same = same_source among.1.0 k chosen.1.stay among.1.3 at among.1.4 in
          let below = among.1.2 in
          omega (arith, same.0, below)
    ])
  ]

module _ (word : ℕ → ℕ) (moves : List Relocation) (marks : List Bool) where
  next_marked : (k : ℕ) (m : Relocation) (x : ℕ) → slice_get moves k ≡ Some m → IsAmongMarked moves marks (k + 1) x
      → IsAmongMarked moves marks k x ⊎ (IsMarked marks m.from × (x ≡ m.from))
  next_marked k m x at among = elim (cases_eq among.1.0 k) [
    | inl same ↦
        let one : among.1.1 ≡ m = same_Some among.1.1 m (sym among.1.3 ∙ (ap (slice_get moves) same ∙ at)) in
        let from : x ≡ m.from = sym among.1.4 ∙ ap (λ (y : Relocation). y.from) one in
        inr (subst (IsMarked marks) from among.0, from)
    | inr other ↦
        let below = among.1.2 in
        inl (among.0, (among.1.0, among.1.1, omega (arith, below, other), among.1.3, among.1.4))
  ]

  was_marked : (k x : ℕ) → IsAmongMarked moves marks k x → IsAmongMarked moves marks (k + 1) x
  was_marked k x among =
      let below = among.1.2 in
      (among.0, (among.1.0, among.1.1, omega (arith, below), among.1.3, among.1.4))

  pub named_more : (k : ℕ) (m : Relocation) (a b c : NewHomes) → slice_get moves k ≡ Some m → IsMarked marks m.from
      → GivesTo word (IsAmongMarked moves marks k) a b → GivesTo word (λ x. x ≡ m.from) b c
      → GivesTo word (IsAmongMarked moves marks (k + 1)) a c
  named_more k m a b c at marked before gives =
      gives_then (IsAmongMarked moves marks k) (λ x. x ≡ m.from) (IsAmongMarked moves marks (k + 1)) before gives
      (λ x among. elim (next_marked k m x at among) [ inl old ↦ inl old | inr new ↦ inr new.1 ]) (was_marked k)
      (λ x same. (subst (IsMarked marks) (sym same) marked, (k, m, omega arith, at, sym same)))

  pub named_none : (k : ℕ) (m : Relocation) (a b : NewHomes) → slice_get moves k ≡ Some m → (IsMarked marks m.from → ⊥)
      → GivesTo word (IsAmongMarked moves marks k) a b → GivesTo word (IsAmongMarked moves marks (k + 1)) a b
  named_none k m a b at clean before =
      gives_as word (IsAmongMarked moves marks k) (IsAmongMarked moves marks (k + 1)) a b before
      (λ x among. elim (next_marked k m x at among) [ inl old ↦ old | inr new ↦ absurd (clean new.0) ]) (was_marked k)

  pub named_start : (homes : NewHomes) → GivesTo word (IsAmongMarked moves marks 0) homes homes
  named_start homes =
      gives_nobody word (IsAmongMarked moves marks 0) homes
      (λ x among. let below = among.1.2 in omega (arith, below))

-- the homes, when all were offered one who are to have one
pub gives_new : {space : SpaceWords} {s : State} {choice : Choice} {marks : List Bool} {a b : NewHomes} {c : Giving}
    → HasGiven space s c → WasChosen s choice → HasMarks s marks
    → GivesTo (word_at space) (IsAmong choice.leaving.items (length choice.leaving.items)) a b
    → GivesTo (word_at space) (IsAmongMarked choice.stay.moves.items marks (length choice.stay.moves.items)) b c.homes
    → GivesNew s c.homes
gives_new {space} {s} {choice} {c} has chosen has_marks first second = record {
  each = has.each;
  all = λ x wants.
      let none : word_at space (x + 1) ≡ 0 = sym (has.seen.word (x + 1)) ∙ wants.had_none in
      let leaves : Leaves Move s x → offset_at c.homes x ≢ 0 = λ leaves.
      let d = chosen.1.leave.all x leaves in
      let below = slice_get_within choice.leaving.items d.0 d.1 d.2 in
      second.keeps x (first.all x (d.0, d.1, below, d.2, d.3) none) in
      has.only x (elim wants.why [
        | inl goes_away ↦ leaves goes_away
        | inr named ↦ elim (chosen.1.chooses.go x (is_reached s x (inr named))) [
          | inl stays ↦
              let m = chosen.1.stay.only x stays in
              let below = slice_get_within choice.stay.moves.items m.0 m.1 m.2 in
              second.all x ((has_marks.marked x).1 named, (m.0, m.1, below, m.2, m.3)) none
          | inr goes_away ↦ leaves goes_away
        ]
      ]);
  offset = has.offset;
  only = has.only;
  counts = has.counts;
  small = needs_small s c.homes.given.items has.seen.whole
      (λ k g at. let one = has.each k g at in (is_reached s g.from one.0.why, one.1)) has.once;
}
