-- A heap that is copied out: what each call of a collection finds, and what is copied in the end.
use Rattle.std.proofs.Common.{◌≡◌, ◌≢◌, ℕ, zero, suc, ◌+◌, ◌^◌, ◌<◌, ◌≤◌, List, length, refl, sym, ap, ◌∙◌, subst}
use Rattle.std.proofs.Common.{arith, inl, inr}
use Rattle.std.specs.Prelude.{Option, None, Some, nat_lt, slice_get, slice_index}
use Rattle.std.specs.Option.{option_map}
use Rattle.std.proofs.lemmas.Bool.{cases_eq}
use Rattle.std.proofs.lemmas.List.{get_or-take, length-take-le, take_all}
use Rattle.std.proofs.lemmas.Option.{slice_get_within}
use Rattle.melt_model.proofs.Histories.{slice_get-append_left}
use Rattle.melt_model.specs.declared.reports.Phase.{Phase}
use Rattle.melt_space.specs.Space.{SpaceWords, Replaces}
use Rattle.melt_scion.specs.State.{Scion}
use Rattle.melt_scion.specs.State.Reached.{in_global, at_scion}
use Rattle.melt_scion.specs.Scions.{Scions, scion_at}
use Rattle.melt_scion.specs.Placed.{Maps, Formed}
use Rattle.melt_scion.specs.Heaps.{OnDisk, IsFormed, register_in, scion_in, state_of}
use Rattle.melt_scion.specs.declared.registers.Registers.{Registers}
use Rattle.melt_scion.specs.declared.heap.Heap.{Heap}
use Rattle.melt_copy.specs.declared.forwarding.Relocation.{Relocation}
use Rattle.melt_copy.specs.declared.to_space.ToSpace.{ToSpace}
use Rattle.melt_copy.specs.Moving.{AreHeld, ObjectMoves, Relocates, WordMoves, words_in}
use Rattle.melt_copy.specs.Tracking.{MovesScions, moved_pair, word_numbered}
use Rattle.melt_copy.specs.Copied.{CopiesHeap, StandIn}
use Rattle.melt_copy.specs.Evacuating.{AreCarried, Collection, Evacuates, EvacuatesIn, EvacuatesQueue, EvacuatesScions}
use Rattle.melt_copy.specs.Evacuating.{EvacuatesThreads, FindsMore, FindsThreads, ThreadsMove, copies_of, place_of}
use Rattle.melt_copy.proofs.Collects.{other_words}
use Rattle.melt_copy.proofs.Evacuated.{words_fit}
use Rattle.melt_copy.specs.Visits.{CountsReached}
use Rattle.melt_copy.proofs.Growing.{more-then, stays_at, place_more, still_placed, word_more, nothing_at_0}
use Rattle.melt_copy.proofs.Places.{place_below}
use Rattle.melt_copy.proofs.Roots.{none_there, scion_of}
use Rattle.melt_copy.proofs.Scanning.{front_stays, longer}
use Rattle.melt_copy.proofs.Sources.{found_words}
use Rattle.melt_copy.proofs.Starting.{Begins, collection_of, evacuates_start}
use Rattle.melt_copy.proofs.Visited.{counts_over, few_found}

-- a move that is among the first was there before the others
pub was_at : (old new : List Relocation) (k : ℕ) (m : Relocation) → FindsMore old new → k < length old
    → slice_get new k ≡ Some m → slice_get old k ≡ Some m
was_at old new k m more below at = sym (slice_get-append_left old more.rest k below)
    ∙ (sym (ap (λ (ms : List Relocation). slice_get ms k) more.is) ∙ at)

-- an object of whose words all were moved
object_moved : (c : Collection) (space : SpaceWords) (to : ToSpace) (k : ℕ) (m : Relocation)
    → Evacuates c space to to.next → slice_get to.moves k ≡ Some m
    → ObjectMoves c.phase (nat_lt k c.held_count) (place_of to.moves) c.state (word_numbered to.words.items) m
object_moved c space to k m evacuates at =
    let word = word_numbered to.words.items in
    let f = place_of to.moves in
    let place = place_below c.state f to.moves (to.next + 1) k m evacuates.holds at in
    record {
      header = λ header starts.
          let part = evacuates.moved k m 0 at (omega arith) (let last = place.1 in omega (arith, last)) in
          ap word (omega arith) ∙ part.header refl header starts;
      home = (evacuates.moved k m 1 at (omega arith) (let last = place.1 in omega (arith, last))).home refl;
      slots = λ i below.
          let part = evacuates.moved k m (2 + i) at (omega (arith, below))
          (let last = place.1 in omega (arith, last, below)) in
          subst (λ (a : ℕ). WordMoves c.phase f (c.state.word a) (word (m.to + 2 + i)))
          (let same : m.from + (2 + i) ≡ m.from + 2 + i = omega arith in same)
          (subst (λ (a : ℕ). WordMoves c.phase f (c.state.word (m.from + (2 + i))) (word a))
          (let same : m.to + (2 + i) ≡ m.to + 2 + i = omega arith in same)
          (part.slot (omega arith) (omega (arith, below))));
      numbers = λ j below.
          let part = evacuates.moved k m (2 + m.shape.refs + j) at (omega (arith, below))
          (let last = place.1 in omega (arith, last, below)) in
          let new : m.to + 2 + m.shape.refs + j ≡ m.to + (2 + m.shape.refs + j) = omega arith in
          let old : m.from + (2 + m.shape.refs + j) ≡ m.from + 2 + m.shape.refs + j = omega arith in
          ap word new ∙ (part.number (omega arith) ∙ ap c.state.word old);
    }

-- a word of the copies has its number among all words
copy_numbered : (to : ToSpace) (k : ℕ) → k ≤ to.next → word_numbered (copies_of to) k ≡ word_numbered to.words.items k
copy_numbered to zero below = refl
copy_numbered to (suc k) below = get_or-take to.next to.words.items k 0 (omega (arith, below))

-- there are as many of them as were counted
copies_counted : (c : Collection) (space : SpaceWords) (to : ToSpace) (done : ℕ) → Evacuates c space to done
    → length (copies_of to) ≡ to.next
copies_counted c space to done evacuates =
    length-take-le to.next to.words.items (omega (arith, words_fit to evacuates, evacuates.room))

-- the words that were copied are no more than those in use
copied_fits : (c : Collection) (space : SpaceWords) (to : ToSpace) (done : ℕ) → Evacuates c space to done
    → to.next ≤ length space.list
copied_fits c space to done evacuates =
    let words = found_words c.state (place_of to.moves) to.moves (to.next + 1) evacuates.whole
    evacuates.holds in
    let later = evacuates.holds.after in
    let inside = evacuates.whole.inside in
    let size = evacuates.size in
    omega (arith, words, later, inside, size)

pair_more : (old new : List Relocation) → FindsMore old new → (o : Option (ℕ × ℕ))
    → ((pair : ℕ × ℕ) → o ≡ Some pair → place_of old pair.1 ≢ 0)
    → option_map (moved_pair (place_of old)) o ≡ option_map (moved_pair (place_of new)) o
pair_more old new more None finds = refl
pair_more old new more (Some pair) finds =
    ap (λ (a : ℕ). Some (pair.0, a)) (sym (place_more old new pair.1 more (finds pair refl)))

-- The objects in registers were found, before all others.
pub record HeldFound (heap : Heap) (held after : List Registers) (space : SpaceWords) (to : ToSpace) : Type 0 where
  pub start_space : SpaceWords
  pub start : ToSpace
  pub begins : Begins heap start_space start
  pub moves : ThreadsMove to.moves held after
  pub finds : FindsThreads start.moves to.moves held
  pub evacuates : (c : Collection) → EvacuatesThreads c start_space start held → Evacuates c space to 0

-- then what globals refer to
pub record GlobalsMoved (phase : Phase) (heap : Heap) (held after : List Registers) (held_words : ℕ) (globals : List ℕ)
    (space : SpaceWords) (to : ToSpace) : Type 0 where
  pub first_space : SpaceWords
  pub first : ToSpace
  pub before : HeldFound heap held after first_space first
  pub held_is : held_words ≡ first.next
  pub words : List ℕ
  pub words_are : words ≡ heap.globals
  pub count : length globals ≡ length words
  pub moves : (g : ℕ) → g < length words
      → WordMoves phase (place_of to.moves) (slice_index words g) (slice_index globals g)
  pub more : FindsMore first.moves to.moves
  pub evacuates : (c : Collection) → EvacuatesIn c phase first_space first words → Evacuates c space to 0

-- then the objects of live scions
pub record ScionsMoved (phase : Phase) (heap : Heap) (held after : List Registers) (held_words : ℕ) (globals : List ℕ)
    (scions : Scions) (space : SpaceWords) (to : ToSpace) : Type 0 where
  pub second_space : SpaceWords
  pub second : ToSpace
  pub before : GlobalsMoved phase heap held after held_words globals second_space second
  pub table : Scions
  pub table_is : table ≡ heap.scions
  pub moves : MovesScions (place_of to.moves) table scions
  pub finds : (k : ℕ) (pair : ℕ × ℕ) → scion_at table k ≡ Some pair → place_of to.moves pair.1 ≢ 0
  pub more : FindsMore second.moves to.moves
  pub evacuates : (c : Collection) → EvacuatesScions c second_space second table → Evacuates c space to 0

-- and then what slots lead to
pub record AllMoved (phase : Phase) (heap : Heap) (held after : List Registers) (held_words : ℕ) (globals : List ℕ)
    (scions : Scions) (space : SpaceWords) (to : ToSpace) : Type 0 where
  pub third_space : SpaceWords
  pub third : ToSpace
  pub before : ScionsMoved phase heap held after held_words globals scions third_space third
  pub more : FindsMore third.moves to.moves
  pub evacuates : (c : Collection) → EvacuatesQueue c phase held_words third_space third 0
      → Evacuates c space to to.next

module _ (phase : Phase) (heap : Heap) (held after : List Registers) (maps : Maps) (disk : OnDisk)
    (formed : Formed maps (state_of heap held disk)) (held_count : ℕ) where
  abbrev its : Collection
  its = collection_of phase heap held disk held_count

  pub held_evacuates : {space : SpaceWords} {to : ToSpace} → HeldFound heap held after space to
      → Evacuates its space to 0
  held_evacuates found =
      found.evacuates its (evacuates_start maps disk heap held phase held_count found.start_space found.start
      found.begins
      formed)

  -- globals are words of references to objects that can be found
  pub before_globals : {space : SpaceWords} {to : ToSpace} (words : List ℕ) → words ≡ heap.globals
      → HeldFound heap held after space to → EvacuatesIn its phase space to words
  before_globals {space} {to} words same found =
      let evacuates = held_evacuates found in
      subst (EvacuatesIn its phase space to) (sym same) (record {
        evacuates = evacuates;
        phase_is = refl;
        references = λ g below. evacuates.whole.globals g below;
        reached = λ g a below refers. in_global g a below refers;
      })

  globals_evacuates : {held_words : ℕ} {globals : List ℕ} {space : SpaceWords} {to : ToSpace}
      → GlobalsMoved phase heap held after held_words globals space to → Evacuates its space to 0
  globals_evacuates moved = moved.evacuates its (before_globals moved.words moved.words_are moved.before)

  -- the objects of live scions can be found
  pub before_scions : {held_words : ℕ} {globals : List ℕ} {space : SpaceWords} {to : ToSpace}
      (table : Scions) → table ≡ heap.scions
      → GlobalsMoved phase heap held after held_words globals space to → EvacuatesScions its space to table
  before_scions {space} {to} table same moved =
      subst (EvacuatesScions its space to) (sym same) (record {
        evacuates = globals_evacuates moved;
        reached = λ k pair at. at_scion k (record { home = pair.0; address = pair.1 })
            (ap (option_map (λ (p : ℕ × ℕ). record { home = p.0; address = p.1 })) at);
      })

  pub scions_evacuates : {held_words : ℕ} {globals : List ℕ} {scions : Scions} {space : SpaceWords} {to : ToSpace}
      → ScionsMoved phase heap held after held_words globals scions space to → Evacuates its space to 0
  scions_evacuates moved = moved.evacuates its (before_scions moved.table moved.table_is moved.before)

-- the copy when the objects in registers were found
abbrev pub held_copy : {phase : Phase} {heap : Heap} {held after : List Registers} {held_words : ℕ} {globals : List ℕ}
    {scions : Scions} {space : SpaceWords} {to : ToSpace}
    → ScionsMoved phase heap held after held_words globals scions space to → ToSpace
held_copy moved = moved.before.first

module _ {phase : Phase} {heap : Heap} {held after : List Registers} {held_words : ℕ} {globals : List ℕ}
    {scions : Scions} {space : SpaceWords} {to : ToSpace}
    (roots : ScionsMoved phase heap held after held_words globals scions space to) where
  since_first : FindsMore (held_copy roots).moves to.moves
  since_first = more-then (held_copy roots).moves roots.second.moves to.moves roots.before.more roots.more

  -- no object is done, and the words of those in registers are counted
  pub before_scan : (maps : Maps) (disk : OnDisk) → Formed maps (state_of heap held disk)
      → EvacuatesQueue (collection_of phase heap held disk (length (held_copy roots).moves)) phase held_words space to 0
  before_scan maps disk formed =
      let same = roots.before.held_is in
      let held_count = length (held_copy roots).moves in
      let first = held_evacuates phase heap held after maps disk formed held_count roots.before.before in
      record {
        evacuates = scions_evacuates phase heap held after maps disk formed held_count roots;
        phase_is = refl;
        count = 0;
        count_within = omega arith;
        done_is = refl;
        held_within = longer (held_copy roots).moves to.moves since_first;
        held_is =
            (let later = first.holds.after in
            let words : held_words ≡ words_in (held_copy roots).moves = omega (arith, same, later) in
            words ∙ (sym (ap words_in (take_all held_count (held_copy roots).moves (omega arith)))
            ∙ sym (front_stays (held_copy roots).moves to.moves held_count since_first (omega arith))));
      }

module _ {phase : Phase} {heap : Heap} {held after : List Registers} {held_words : ℕ} {globals : List ℕ}
    {scions : Scions} {space : SpaceWords} {to : ToSpace}
    (all : AllMoved phase heap held after held_words globals scions space to) where
  abbrev roots : ScionsMoved phase heap held after held_words globals scions all.third_space all.third
  roots = all.before

  abbrev first : ToSpace
  first = held_copy roots

  abbrev held_count : ℕ
  held_count = length first.moves

  -- those that were found since registers and since globals were looked at
  first_more : FindsMore first.moves to.moves
  first_more = more-then first.moves all.third.moves to.moves (since_first roots) all.more

  second_more : FindsMore roots.second.moves to.moves
  second_more = more-then roots.second.moves all.third.moves to.moves roots.more all.more

  all_evacuates : (maps : Maps) (disk : OnDisk) → Formed maps (state_of heap held disk)
      → Evacuates (collection_of phase heap held disk held_count) space to to.next
  all_evacuates maps disk formed =
      all.evacuates (collection_of phase heap held disk held_count) (before_scan roots maps disk formed)

  first_evacuates : (maps : Maps) (disk : OnDisk) → Formed maps (state_of heap held disk)
      → Evacuates (collection_of phase heap held disk held_count) roots.before.first_space first 0
  first_evacuates maps disk formed = held_evacuates phase heap held after maps disk formed held_count
      roots.before.before

  -- the first objects are those in registers
  are_held : (maps : Maps) (disk : OnDisk) → Formed maps (state_of heap held disk)
      → AreHeld (state_of heap held disk) to.moves held_count
  are_held maps disk formed =
      let found = roots.before.before in
      record {
        each = λ k m at under. elim (found.finds k m (was_at first.moves to.moves k m first_more under at)) [
          | inl before ↦ absurd (none_there found.start.moves k m found.begins.moves before)
          | inr holds ↦ holds
        ];
        all = λ t r full.
            let known = found.moves.found t r full in
            let move = (first_evacuates maps disk formed).holds.only (register_in held t r) known in (
              move.0,
              move.1,
              stays_at first.moves to.moves move.0 move.1 first_more move.2,
              slice_get_within first.moves move.0 move.1 move.2,
              move.3,
            );
      }

  -- the objects of live scions were found
  scions_found : (k : ℕ) (x : Scion) → scion_in heap.scions k ≡ Some x → place_of to.moves x.address ≢ 0
  scions_found k x live =
      let at = scion_of (scion_at heap.scions k) x live in
      let there : scion_at roots.table k ≡ Some at.0 =
      ap (λ (table : Scions). scion_at table k) roots.table_is ∙ at.1 in
      still_placed all.third.moves to.moves x.address all.more
      (subst (λ (a : ℕ). place_of all.third.moves a ≢ 0) at.2 (roots.finds k at.0 there))

  -- everything that can be reached was copied
  pub copies : CopiesHeap phase heap held
      (record { moves = to.moves; words = copies_of to; globals = globals; held = held_words })
  copies maps disk formed =
      let c = collection_of phase heap held disk held_count in
      let evacuates = all_evacuates maps disk formed in
      let words = ap length roots.before.words_are in
      record {
        held_count = held_count;
        whole = evacuates.whole;
        holds = subst (λ (n : ℕ). Relocates c.state (place_of to.moves) to.moves (n + 1))
            (sym (copies_counted c space to to.next evacuates)) evacuates.holds;
        objects = λ k m at.
            let place = place_below c.state (place_of to.moves) to.moves (to.next + 1) k m evacuates.holds at in
            other_words (place_of to.moves) c.state (word_numbered to.words.items) (word_numbered (copies_of to)) m
            (λ a from below. copy_numbered to a (omega (arith, place.1, below)))
            (object_moved c space to k m evacuates at);
        globals_count = (let count = roots.before.count in omega (arith, count, words));
        globals = λ g below.
            subst (λ (word : ℕ). WordMoves phase (place_of to.moves) word (slice_index globals g))
            (ap (λ (ws : List ℕ). slice_index ws g) roots.before.words_are)
            (word_more roots.second.moves to.moves (slice_index roots.before.words g) (slice_index globals g)
            second_more (roots.before.moves g (omega (arith, below, words))));
        held = are_held maps disk formed;
        scions = scions_found;
        held_words =
            (before_scan roots maps disk formed).held_is
            ∙ sym (front_stays all.third.moves to.moves held_count all.more
            (longer first.moves all.third.moves (since_first roots)));
      }

  -- registers hold the new addresses
  pub registers_moved : IsFormed heap held → (t r : ℕ)
      → register_in after t r ≡ place_of to.moves (register_in held t r)
  registers_moved formed t r =
      let before = first_evacuates formed.maps formed.disk formed.formed in
      let now = all_evacuates formed.maps formed.disk formed.formed in
      let found = roots.before.before in
      elim (cases_eq (register_in held t r) 0) [
        | inl none ↦
            found.moves.each t r
            ∙ (ap (place_of first.moves) none
            ∙ (nothing_at_0 before
            ∙ (sym (nothing_at_0 now)
            ∙ ap (place_of to.moves) (sym none))))
        | inr full ↦
            found.moves.each t r
            ∙ sym (place_more first.moves to.moves (register_in held t r) first_more (found.moves.found t r full))
      ]

  -- and live scions
  pub scions_moved : MovesScions (place_of to.moves) heap.scions scions
  scions_moved = subst (λ (table : Scions). MovesScions (place_of to.moves) table scions) roots.table_is (record {
    is_table = roots.moves.is_table;
    each = λ k.
        roots.moves.each k
        ∙ pair_more all.third.moves to.moves all.more (scion_at roots.table k) (roots.finds k);
    size = roots.moves.size;
  })

  -- the numbers of the objects stand at their new addresses too
  pub names_carried : IsFormed heap held → AreCarried heap.names to.names to.moves
  names_carried formed = (all_evacuates formed.maps formed.disk formed.formed).names

  pub all_fits : IsFormed heap held → to.next ≤ length space.list
  all_fits formed =
      copied_fits (collection_of phase heap held formed.disk held_count) space to to.next
      (all_evacuates formed.maps formed.disk formed.formed)

  -- and are among those of the vector
  pub all_given : IsFormed heap held → to.next ≤ length to.words.items
  all_given formed =
      let evacuates = all_evacuates formed.maps formed.disk formed.formed in
      omega (arith, words_fit to evacuates, evacuates.room)

  -- the space has as many words as it had
  same_size : IsFormed heap held → length space.list ≡ length heap.space.list
  same_size formed = sym (all_evacuates formed.maps formed.disk formed.formed).size

  -- the copies are the first words of the space
  pub stands_in : {new : SpaceWords} → IsFormed heap held → Replaces space new (copies_of to)
      → StandIn heap.space new (copies_of to)
  stands_in formed replaces = record {
    front = replaces.front;
    size = replaces.size ∙ same_size formed;
    used = replaces.used;
  }

  -- they are few, and so are those of the objects in registers
  pub held_small : IsFormed heap held → held_words < 2 ^ 30
  held_small formed =
      let before = first_evacuates formed.maps formed.disk formed.formed in
      let c = collection_of phase heap held formed.disk held_count in
      let fits = copied_fits c roots.before.first_space first 0 before in
      let size = before.size in
      let small = before.whole.small in
      let words = roots.before.held_is in
      omega (arith, fits, size, small, words)

  -- what was copied takes no more words than all that can be reached
  pub few_copied : IsFormed heap held → (total : ℕ) → CountsReached heap held total → to.next ≤ total
  few_copied formed total counts =
      let evacuates = all_evacuates formed.maps formed.disk formed.formed in
      let few = few_found (state_of heap held formed.disk) (place_of to.moves) to.moves (to.next + 1)
      evacuates.holds total (counts_over heap held formed.disk total counts) in
      let later = evacuates.holds.after in
      omega (arith, few, later)
