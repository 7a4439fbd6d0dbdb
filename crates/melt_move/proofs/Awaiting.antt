-- The objects that stay await their scions, once their words were put into the space.
use Rattle.std.proofs.Common.{◌≡◌, ◌≢◌, ◌⊎◌, inl, inr, ℕ, zero, suc, ◌+◌, ◌*◌, ◌≤◌, List, length, sym}
use Rattle.std.proofs.Common.{◌∙◌, ap}
use Rattle.std.proofs.Common.{subst, arith}
use Rattle.std.specs.Prelude.{◌^◌, ◌/◌, slice_get, slice_index, Option, None, Some}
use Rattle.std.specs.Option.{option_map}
use Rattle.std.proofs.lemmas.Bool.{cases_order}
use Rattle.std.proofs.lemmas.Option.{same_Some}
use Rattle.melt_model.specs.declared.reports.Phase.TheVariants.{Move}
use Rattle.melt_word.specs.Words.{IsShape, cost_of}
use Rattle.melt_space.specs.Space.{word_at}
use Rattle.melt_scion.specs.State.{Scion, State, HeaderAt, Reached}
use Rattle.melt_scion.specs.Scions.{Scions, IsTable, scion_at}
use Rattle.melt_scion.specs.Placed.{Maps, Formed}
use Rattle.melt_scion.specs.Heaps.{OnDisk, HasMaps, TablesMade, state_of}
use Rattle.melt_scion.specs.Moves.{Leaves}
use Rattle.melt_scion.specs.declared.registers.Registers.{Registers}
use Rattle.melt_scion.specs.declared.heap.Heap.{Heap}
use Rattle.melt_scion.proofs.NobodyLeaves.{parts_of_word}
use Rattle.melt_copy.specs.declared.forwarding.Relocation.{Relocation}
use Rattle.melt_copy.specs.Tracking.{goes, word_numbered}
use Rattle.melt_copy.specs.Copied.{MayRename, NumbersAre}
use Rattle.melt_copy.specs.Moving.{words_in}
use Rattle.melt_copy.proofs.Collects.{can_rename, none_after}
use Rattle.melt_copy.proofs.Places.{place_after, place_below, place_found, same_place, same_source}
use Rattle.melt_copy.proofs.Sources.{found_words, source_shape, goes as goes_to}
use Rattle.melt_move.specs.declared.commit.Copied.{Copied}
use Rattle.melt_move.specs.declared.decision.Decision.{Decision}
use Rattle.melt_move.specs.declared.homes.Given.{Given}
use Rattle.melt_move.specs.Plans.{OldHome, IsDecision, home_by, need_for, new_home}
use Rattle.melt_move.specs.Staying.{StandIn}
use Rattle.melt_move.specs.GivenScions.{NamesScion, IsOfLeaving, FreesScions, AwaitScions, given_home}
use Rattle.melt_move.specs.Collecting.{IsPutBack, AreShapes}
use Rattle.melt_move.proofs.HomesBy.{home-none, given_within, given_order}

-- the pair of a scion in a table
pub pair_of : (o : Option (ℕ × ℕ)) (x : Scion)
    → option_map (λ (pair : ℕ × ℕ). record { home = pair.0; address = pair.1 }) o ≡ Some x
    → o ≡ Some (x.home, x.address)
pair_of None x is = absurd (cc)
pair_of (Some pair) x is =
    let same : record { home = pair.0; address = pair.1 } ≡ x =
    same_Some (record { home = pair.0; address = pair.1 }) x is in
    ap (λ (y : Scion). Some (y.home, y.address)) same

module _ (heap : Heap) (held : List Registers) (disk : OnDisk) (decision : Decision)
    (decided : IsDecision heap.space (state_of heap held disk) decision) where
  abbrev s : State
  s = state_of heap held disk

  abbrev moves : List Relocation
  moves = decision.choice.stay.moves.items

  -- a new home is that of an object with a shape
  pub given_shapes : AreShapes decision.homes.given.items
  given_shapes k g at =
      let shaped = (decided.homes.each k g at).1 in subst IsShape shaped.is shaped.starts.in_range

  -- what stays fits into the words that were in use
  pub stays_within : words_in decision.choice.stay.moves.items ≤ heap.space.used
  stays_within =
      let words = found_words s (goes decision.choice.stay) moves decision.choice.stay.next decided.seen.whole
      decided.choice.stay in omega (arith, words)

  stays_reached : (k : ℕ) (m : Relocation) → slice_get decision.choice.stay.moves.items k ≡ Some m → Reached s m.from
  stays_reached k m at = (decided.choice.stay.whole k m at).reached

  -- an object that stays does not leave
  pub not_leaving : (k : ℕ) (m : Relocation) → slice_get decision.choice.stay.moves.items k ≡ Some m
      → Leaves Move s m.from → ⊥
  not_leaving k m at =
      (decided.choice.chooses.stay m.from
      (place_found s (goes decision.choice.stay) moves decision.choice.stay.next k m decided.choice.stay at)).1

  -- a home word with a scion is that of a home from before
  pub names_old : (a home scion : ℕ) → Reached s a → NamesScion s.word a home scion → OldHome s a home scion
  names_old a home scion reached names = elim (decided.old_homes a reached) [
    | inl none ↦
        let word : s.word (a + 1) ≡ 4294967296 * home + 4 * scion = names.is in
        absurd (omega (arith, none, word, names.some))
    | inr old ↦
        let mine = parts_of_word (s.word (a + 1)) home scion names.in_range.scion names.is in
        let its = parts_of_word (s.word (a + 1)) old.0 old.1 old.2.in_range.scion old.2.is in
        subst (λ (h : ℕ). OldHome s a h scion) (sym its.0 ∙ mine.0)
        (subst (λ (k : ℕ). OldHome s a old.0 k) (sym its.1 ∙ mine.1) old.2)
  ]

  -- the scion of an object that stays is not that of one that leaves
  kept_scion : (k : ℕ) (m : Relocation) (home scion : ℕ) → slice_get decision.choice.stay.moves.items k ≡ Some m
      → OldHome s m.from home scion → IsOfLeaving s.word decision.choice.leaving.items scion → ⊥
  kept_scion k m home scion at old (j, d, other, there, names) =
      let leaves = (decided.choice.leave.each j d there).0 in
      let its = (names_old d.from other scion leaves.0 names).live in
      let same : d.from ≡ m.from =
      ap (λ (x : Scion). x.address) (same_Some (record { home = other; address = d.from })
      (record { home = home; address = m.from }) (sym its ∙ old.live)) in
      not_leaving k m at (subst (Leaves Move s) same leaves)

  module _ (maps : Maps) (formed : Formed maps (state_of heap held disk)) (made : TablesMade heap)
      (freed : Scions) (frees : FreesScions (word_at heap.space) decision.choice.leaving.items heap.scions freed)
      (new : Heap) (after : List Registers) (copied : Copied)
      (stand : StandIn (state_of heap held disk) decision copied.words.items)
      (put : IsPutBack (record heap { scions = freed }) new held after decision copied) where
    -- a word of what was put into the space
    pub put_word : (at : ℕ) → 1 ≤ at → at ≤ length copied.words.items
        → word_at new.space at ≡ word_numbered copied.words.items at
    put_word zero first last = absurd (omega (arith, first))
    put_word (suc at) first last = put.space.front at (omega (arith, last))

    pub within : (k : ℕ) (m : Relocation) → slice_get decision.choice.stay.moves.items k ≡ Some m
        → (1 ≤ m.to) × (m.to + cost_of m.shape ≤ length copied.words.items + 1)
    within k m at =
        let place = place_below s (goes decision.choice.stay) moves decision.choice.stay.next k m
        decided.choice.stay at in
        let later = decided.choice.stay.after in
        let size = stand.size in
        (place.0, (let below = place.1 in omega (arith, below, later, size)))

    -- the home word of an object at its new place is that from before
    pub put_home : (k : ℕ) (m : Relocation) → slice_get decision.choice.stay.moves.items k ≡ Some m
        → word_at new.space (m.to + 1) ≡ s.word (m.from + 1)
    put_home k m at =
        let place = within k m at in
        put_word (m.to + 1) (omega arith) (let below = place.1 in omega (arith, below)) ∙ (stand.objects k m at).home

    pub put_names : (k : ℕ) (m : Relocation) (home scion : ℕ) → slice_get decision.choice.stay.moves.items k ≡ Some m
        → OldHome s m.from home scion → NamesScion (word_at new.space) m.to home scion
    put_names k m home scion at old =
        record { in_range = old.in_range; some = old.some; is = put_home k m at ∙ old.is }

    put_scion : (scion : ℕ) → scion_at new.scions scion ≡ scion_at freed scion
    put_scion scion = ap (λ (table : Scions). scion_at table scion) put.scions

    kept_live : (k : ℕ) (m : Relocation) (home scion : ℕ) → slice_get decision.choice.stay.moves.items k ≡ Some m
        → OldHome s m.from home scion → scion_at new.scions scion ≡ Some (home, m.from)
    kept_live k m home scion at old =
        put_scion scion ∙ (frees.others scion (kept_scion k m home scion at old)
        ∙ pair_of (scion_at heap.scions scion) (record { home = home; address = m.from }) old.live)

    -- the place of an object with a live scion
    live_there : (scion : ℕ) (pair : ℕ × ℕ) → scion_at new.scions scion ≡ Some pair → (k : ℕ) × (m : Relocation)
        × (slice_get decision.choice.stay.moves.items k ≡ Some m) × (pair.1 ≡ m.from)
        × NamesScion (word_at new.space) m.to pair.0 scion
    live_there scion pair there =
        let now : scion_at freed scion ≡ Some pair = sym (put_scion scion) ∙ there in
        let stays : IsOfLeaving (word_at heap.space) decision.choice.leaving.items scion → ⊥ =
        λ leaving. (let gone = frees.gone scion leaving in let some : None ≡ Some pair = sym gone ∙ now in cc) in
        let before : s.base.scion scion ≡ Some (record { home = pair.0; address = pair.1 }) =
        ap (option_map (λ (p : ℕ × ℕ). record { home = p.0; address = p.1 })) (sym (frees.others scion stays) ∙ now) in
        let is = decided.scions scion (record { home = pair.0; address = pair.1 }) before in
        elim (decided.choice.chooses.go pair.1 is.reached) [
          | inl some ↦
              let g = goes_to s (goes decision.choice.stay) moves decision.choice.stay.next pair.1
              decided.choice.stay some in (
                g.index,
                g.move,
                g.is,
                sym g.from,
                put_names g.index g.move pair.0 scion g.is
                    (subst (λ (a : ℕ). OldHome s a pair.0 scion) (sym g.from) is.home),
              )
          | inr leaves ↦
              let d = decided.choice.leave.all pair.1 leaves in
              absurd (stays (
                d.0,
                d.1,
                pair.0,
                d.2,
                record {
                  in_range = is.home.in_range;
                  some = is.home.some;
                  is = ap (λ (a : ℕ). s.word (a + 1)) d.3 ∙ is.home.is;
                },
              ))
        ]

    some_first : 1 ≤ decision.homes.first
    some_first = let first = decided.first in let some = decided.first_end in omega (arith, first, some)

    -- who is given a home, where it stays
    pub record GivenTo (m : Relocation) : Type 0 where
      pub index : ℕ
      pub given : Given
      pub is : slice_get decision.homes.given.items index ≡ Some given
      pub from : given.from ≡ m.from
      pub cost : cost_of given.shape ≡ cost_of m.shape
      pub none : s.word (m.from + 1) ≡ 0
      pub home : given_home decision.homes m ≡ home_by s.word decision given.from

    pub given_to : (k : ℕ) (m : Relocation) → slice_get decision.choice.stay.moves.items k ≡ Some m
        → given_home decision.homes m ≢ 0 → GivenTo m
    given_to k m at some =
        let offset : slice_index decision.homes.offsets.items m.from ≢ 0 =
        λ nought. some (ap (new_home decision.homes.first) nought) in
        let g = decided.homes.only m.from offset in
        let each = decided.homes.each g.0 g.1 g.2 in
        let none : s.word (m.from + 1) ≡ 0 = ap (λ (a : ℕ). s.word (a + 1)) (sym g.3) ∙ each.0.had_none in
        let starts : HeaderAt s m.from each.1.header =
        subst (λ (a : ℕ). HeaderAt s a each.1.header) g.3 each.1.starts in
        let shape = source_shape s m each.1.header (decided.choice.stay.whole k m at) starts in
        record {
          index = g.0;
          given = g.1;
          is = g.2;
          from = g.3;
          cost = ap cost_of (sym each.1.is ∙ shape);
          none = none;
          home = sym (ap (home_by s.word decision) g.3 ∙ home-none s decision m.from none);
        }

    apart_homes : (i j : ℕ) (m n : Relocation) → slice_get decision.choice.stay.moves.items i ≡ Some m
        → slice_get decision.choice.stay.moves.items j ≡ Some n → i ≢ j → given_home decision.homes m ≢ 0
        → given_home decision.homes n ≢ 0
        → (given_home decision.homes m + cost_of m.shape ≤ given_home decision.homes n)
        ⊎ (given_home decision.homes n + cost_of n.shape ≤ given_home decision.homes m)
    apart_homes i j m n at also differ one other =
        let x = given_to i m at one in
        let y = given_to j n also other in
        let home = x.home in let its = y.home in let cost = x.cost in let costs = y.cost in
        elim (cases_order x.index y.index) [
          | inl same ↦
              let given : x.given ≡ y.given =
              same_Some x.given y.given (sym x.is ∙ (ap (slice_get decision.homes.given.items) same ∙ y.is)) in
              let from : m.from ≡ n.from = sym x.from ∙ (ap (λ (g : Given). g.from) given ∙ y.from) in
              absurd (differ (same_source i j decided.choice.stay at also from).0)
          | inr (inl less) ↦
              inl (let order = given_order s decision decided.homes some_first x.index y.index
              x.given y.given x.is y.is less in
              omega (arith, order, home, its, cost))
          | inr (inr less) ↦
              inr (let order = given_order s decision decided.homes some_first y.index x.index
              y.given x.given y.is x.is less in
              omega (arith, order, home, its, costs))
        ]

    pub await_scions : (end : ℕ) → end ≡ decision.homes.first + need_for decision.homes.given.items → end ≤ 2 ^ 32
        → AwaitScions new decision.homes decision.choice.stay.moves.items end
    await_scions end end_is small = record {
      small_space = (let size = put.space.size in let few = decided.seen.whole.small in omega (arith, size, few));
      shapes = λ k m at. let is = decided.choice.stay.whole k m at in subst IsShape is.shape is.starts.in_range;
      placed = λ k m at.
          let place = within k m at in
          let size = put.space.size in
          let inside = decided.seen.whole.inside in
          let words = stays_within in
          let all = stand.size in
          (place.0, (let below = place.1 in omega (arith, below, size, inside, words, all)));
      apart = λ i j m n at also less.
          place_after i j decided.choice.stay at also less;
      once = λ i j m n at also same.
          (same_source i j decided.choice.stay at also same).0;
      old_homes = λ k m at. elim (decided.old_homes m.from (stays_reached k m at)) [
        | inl none ↦ inl (put_home k m at ∙ none)
        | inr old ↦ inr (old.0, old.1, put_names k m old.0 old.1 at old.2, kept_live k m old.0 old.1 at old.2)
      ];
      live = live_there;
      new_homes = λ k m at some.
          let x = given_to k m at some in
          let between = given_within s decision decided.homes some_first x.index x.given x.is in
          let home = x.home in let cost = x.cost in
          let from = between.0 in let to = between.1 in
          (put_home k m at ∙ x.none, omega (arith, home, from, some_first), omega (arith, home, to, cost, end_is));
      homes_apart = apart_homes;
      is_table = subst IsTable (sym put.scions) frees.is_table;
      size =
          (let one : length new.scions.pairs ≡ length freed.pairs = ap (λ (t : Scions). length t.pairs) put.scions in
          one ∙ (frees.size ∙ (made.scions.size
          ∙ ap (λ (n : ℕ). n / 2) (sym put.space.size))));
      small_end = small;
    }

-- the names of what stays may go with it
pub names_may_go : (heap : Heap) (held : List Registers) (disk : OnDisk) (decision : Decision)
    → IsDecision heap.space (state_of heap held disk) decision → (maps : Maps) → Formed maps (state_of heap held disk)
    → TablesMade heap → HasMaps heap maps → (numbers : List (Option ℕ))
    → NumbersAre heap.names decision.choice.stay.moves.items numbers
    → MayRename heap.space.used heap.names decision.choice.stay.moves.items numbers
names_may_go heap held disk decision decided maps formed made names numbers are =
    let s : State = state_of heap held disk in
    let stay = decided.choice.stay in
    let moves = decision.choice.stay.moves.items in
    let inside = decided.seen.whole.inside in
    let words = stays_within heap held disk decision decided in
    can_rename (length heap.space.list) heap.maps maps heap.names moves numbers names made.names are
    (omega (arith, inside)) (λ k above. none_after maps s k formed (omega (arith, above))) (λ k m at.
    let place = place_below s (goes decision.choice.stay) moves decision.choice.stay.next k m stay at in
    (place.0, (let below = place.1 in let later = stay.after in omega (arith, below, later, words))))
    (λ i j m n here there same.
    (same_place i j stay here there same).0)
