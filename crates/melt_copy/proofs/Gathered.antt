-- The objects that registers, globals and scions name are found first, and these get the new addresses.
use Rattle.std.proofs.Common.{◌≡◌, ◌≢◌, ℕ, ◌+◌, ◌<◌, ◌≤◌, List, length, get_or, refl, sym, ◌∙◌, ap, subst, arith}
use Rattle.std.proofs.Common.{inl, inr, below_more}
use Rattle.std.specs.Prelude.{slice_get, slice_index, slice_set, Option, Some, None, ◌⊎◌}
use Rattle.std.specs.Option.{option_map}
use Rattle.std.proofs.lemmas.Bool.{cases_eq, cases_lt}
use Rattle.std.proofs.lemmas.List.{get_or-set_same, get_or-set_other}
use Rattle.std.proofs.lemmas.Option.{same_Some}
use Rattle.melt_model.specs.declared.reports.Phase.{Phase}
use Rattle.melt_space.specs.Space.{SpaceWords}
use Rattle.melt_scion.specs.State.{Reached, RefersTo}
use Rattle.melt_scion.specs.Heaps.{register_in}
use Rattle.melt_scion.specs.Scions.{Scions, IsTable, SetsAddress, EachOnce, scion_at}
use Rattle.melt_scion.specs.declared.registers.Registers.{Registers}
use Rattle.melt_copy.specs.declared.forwarding.Relocation.{Relocation}
use Rattle.melt_copy.specs.declared.to_space.ToSpace.{ToSpace}
use Rattle.melt_copy.specs.Evacuating.{Collection, Evacuates, EvacuatesAt, EvacuatesFor, EvacuatesHeld}
use Rattle.melt_copy.specs.Evacuating.{EvacuatesIn, EvacuatesScions, EvacuatesThreads, FindsMore, FindsRegisters}
use Rattle.melt_copy.specs.Evacuating.{FindsThreads, RegistersMove, ThreadsMove, place_of}
use Rattle.melt_copy.specs.Moving.{IsRefWord, WordMoves}
use Rattle.melt_copy.specs.Tracking.{moved_pair}
use Rattle.melt_copy.proofs.Committing.{register_in-at, register_in-set_same, register_in-set_other}
use Rattle.melt_copy.proofs.Growing.{more-then, nothing_at_0, place_more, still_placed, word_more}
use Rattle.melt_copy.proofs.Held.{past_threads}
use Rattle.melt_copy.proofs.Walking.{HasMoved, not_moved, moved_more, moved_none, live_place}

-- an address has its new one, and one of an object was found
pub record HasNewAddress (moves : List Relocation) (from to : ℕ) : Type 0 where
  pub is : to ≡ place_of moves from
  pub found : from ≢ 0 → place_of moves from ≢ 0

-- it has the same when more is found
goes_more : {old new : List Relocation} {from to : ℕ} → FindsMore old new → place_of old 0 ≡ 0 → place_of new 0 ≡ 0
    → HasNewAddress old from to → HasNewAddress new from to
goes_more {old} {new} {from} more none still_none goes = record {
  is = elim (cases_eq from 0) [
    | inl nothing ↦ goes.is ∙ (ap (place_of old) nothing ∙ (none ∙ (sym still_none ∙ sym (ap (place_of new) nothing))))
    | inr some ↦ goes.is ∙ sym (place_more old new from more (goes.found some))
  ];
  found = λ some. still_placed old new from more (goes.found some);
}

-- what is found stays found, and each object that is found meanwhile is in one of the registers
more_registers : (old to new : List Relocation) (register : ℕ → ℕ) (address r : ℕ) → register r ≡ address
    → FindsRegisters old to register
    → ((k : ℕ) (m : Relocation) → slice_get new k ≡ Some m → (slice_get to k ≡ Some m) ⊎ (m.from ≡ address))
    → FindsRegisters old new register
more_registers old to new register address r is before only k m at = elim (only k m at) [
  | inl there ↦ before k m there
  | inr found ↦ inr (r, is ∙ sym found)
]

-- What holds when the first registers of a thread, so many of them, hold the new addresses of their objects.
pub record ThreadSoFar (space now : SpaceWords) (old to : ToSpace) (register : ℕ → ℕ) (items : List ℕ)
    (count : ℕ) : Type 0 where
  pub done : (r : ℕ) → r < count → HasNewAddress to.moves (register r) (slice_index items r)
  pub rest : (r : ℕ) → count ≤ r → slice_index items r ≡ register r
  pub finds : FindsRegisters old.moves to.moves register
  pub more : FindsMore old.moves to.moves
  pub evacuates : (c : Collection) → EvacuatesHeld c space old register → Evacuates c now to 0

module _ {space now : SpaceWords} {old to : ToSpace} {register : ℕ → ℕ} {items : List ℕ} {n : ℕ}
    (before : ThreadSoFar space now old to register items n) where
  same_register : slice_index items n ≡ register n
  same_register = before.rest n (omega arith)

  -- the object in the next register may be found
  pub register_at : (c : Collection) → EvacuatesHeld c space old register → slice_index items n ≢ 0
      → EvacuatesAt c now to 0 (slice_index items n)
  register_at c held full = record {
    evacuates = before.evacuates c held;
    reached =
        subst (Reached c.state) (sym same_register)
        (held.reached n (λ (nothing : register n ≡ 0). full (same_register ∙ nothing)));
  }

  -- the next register holds nothing
  pub register_empty : slice_index items n ≡ 0
      → (c : Collection) × EvacuatesHeld c space old register
      → ThreadSoFar space now old to register items (n + 1)
  register_empty empty may =
      let none = nothing_at_0 (before.evacuates may.0 may.1) in
      let nothing : register n ≡ 0 = sym same_register ∙ empty in
      record {
        done = below_more (λ (r : ℕ). HasNewAddress to.moves (register r) (slice_index items r)) n before.done (record {
          is = empty ∙ (sym none ∙ sym (ap (place_of to.moves) nothing));
          found = λ full. absurd (full nothing);
        });
        rest = λ r later. before.rest r (omega (arith, later));
        finds = before.finds;
        more = before.more;
        evacuates = before.evacuates;
      }

  -- the object in the next register is found
  pub register_found : {after : SpaceWords} {new : ToSpace} {there : ℕ} → n < length items → slice_index items n ≢ 0
      → there ≢ 0 → place_of new.moves (slice_index items n) ≡ there → FindsMore to.moves new.moves
      → ((k : ℕ) (m : Relocation) → slice_get new.moves k ≡ Some m
      → (slice_get to.moves k ≡ Some m) ⊎ (m.from ≡ slice_index items n))
      → ((c : Collection) (done : ℕ) → EvacuatesAt c now to done (slice_index items n) → Evacuates c after new done)
      → (c : Collection) × EvacuatesHeld c space old register
      → ThreadSoFar space after old new register (slice_set items n there) (n + 1)
  register_found {after} {new} {there} within full some place more only evacuates may =
      let all : (c : Collection) → EvacuatesHeld c space old register → Evacuates c after new 0 =
      λ c held. evacuates c 0 (register_at c held full) in
      let none = nothing_at_0 (before.evacuates may.0 may.1) in
      let still_none = nothing_at_0 (all may.0 may.1) in
      let here : place_of new.moves (register n) ≡ there = ap (place_of new.moves) (sym same_register) ∙ place in
      record {
        done = λ r below. elim (cases_eq r n) [
          | inl same ↦ subst (λ (i : ℕ). HasNewAddress new.moves (register i) (slice_index (slice_set items n there) i))
              (sym same)
              (record {
                is = get_or-set_same items n there 0 within ∙ sym here;
                found = λ _ (nought : place_of new.moves (register n) ≡ 0). some (sym here ∙ nought);
              })
          | inr other ↦ subst (HasNewAddress new.moves (register r)) (sym (get_or-set_other items n r there 0 other))
              (goes_more more none still_none (before.done r (omega (arith, below, other))))
        ];
        rest = λ r later.
            get_or-set_other items n r there 0 (omega (arith, later)) ∙ before.rest r (omega (arith, later));
        finds = more_registers old.moves to.moves new.moves register (slice_index items n) n (sym same_register)
            before.finds only;
        more = more-then old.moves to.moves new.moves before.more more;
        evacuates = all;
      }

-- all registers hold the new addresses
pub all_registers : {space now : SpaceWords} {old to : ToSpace} {register : ℕ → ℕ} {items : List ℕ} {n : ℕ}
    → ThreadSoFar space now old to register items n → ((r : ℕ) → n ≤ r → register r ≡ 0)
    → (c : Collection) × EvacuatesHeld c space old register → RegistersMove to.moves register (slice_index items)
all_registers {to} {register} {items} {n} before past may =
    let none = nothing_at_0 (before.evacuates may.0 may.1) in
    record {
      each = λ r. elim (cases_lt r n) [
        | inl below ↦ (before.done r below).is
        | inr later ↦ before.rest r later ∙ (past r later ∙ (sym none ∙ sym (ap (place_of to.moves) (past r later))))
      ];
      found = λ r full. elim (cases_lt r n) [
        | inl below ↦ (before.done r below).found full
        | inr later ↦ absurd (full (past r later))
      ];
    }

-- What holds when the registers of the first threads, so many of them, hold the new addresses of their objects.
pub record ThreadsSoFar (space now : SpaceWords) (old to : ToSpace) (held new : List Registers)
    (count : ℕ) : Type 0 where
  pub done : (t r : ℕ) → t < count → HasNewAddress to.moves (register_in held t r) (register_in new t r)
  pub rest : (t r : ℕ) → count ≤ t → register_in new t r ≡ register_in held t r
  pub finds : FindsThreads old.moves to.moves held
  pub more : FindsMore old.moves to.moves
  pub evacuates : (c : Collection) → EvacuatesThreads c space old held → Evacuates c now to 0

module _ {space now : SpaceWords} {old to : ToSpace} {held items : List Registers} {n : ℕ}
    (before : ThreadsSoFar space now old to held items n) (d : Registers) (within : n < length items) where
  same_thread : (r : ℕ) → slice_index (get_or items n d).regs r ≡ register_in held n r
  same_thread r = sym (register_in-at items n r d within) ∙ before.rest n r (omega arith)

  -- the objects in the registers of the next thread may be found
  pub thread_at : (c : Collection) → EvacuatesThreads c space old held
      → EvacuatesHeld c now to (slice_index (get_or items n d).regs)
  thread_at c all = record {
    evacuates = before.evacuates c all;
    reached = λ r full.
        subst (Reached c.state) (sym (same_thread r))
        (all.reached n r (λ (nothing : register_in held n r ≡ 0). full (same_thread r ∙ nothing)));
  }

  -- they are found
  pub thread_found : {after : SpaceWords} {new : ToSpace} (x : Registers)
      → RegistersMove new.moves (slice_index (get_or items n d).regs) (slice_index x.regs)
      → FindsRegisters to.moves new.moves (slice_index (get_or items n d).regs) → FindsMore to.moves new.moves
      → ((c : Collection) → EvacuatesHeld c now to (slice_index (get_or items n d).regs) → Evacuates c after new 0)
      → (c : Collection) × EvacuatesThreads c space old held
      → ThreadsSoFar space after old new held (slice_set items n x) (n + 1)
  thread_found {after} {new} x moves finds more evacuates may =
      let all : (c : Collection) → EvacuatesThreads c space old held → Evacuates c after new 0 =
      λ c threads. evacuates c (thread_at c threads) in
      let none = nothing_at_0 (before.evacuates may.0 may.1) in
      let still_none = nothing_at_0 (all may.0 may.1) in
      record {
        done = λ t r below. elim (cases_eq t n) [
          | inl same ↦
              subst (λ (u : ℕ). HasNewAddress new.moves (register_in held u r) (register_in (slice_set items n x) u r))
              (sym same)
              (record {
                is = register_in-set_same items n r x within
                    ∙ (moves.each r ∙ ap (place_of new.moves) (same_thread r));
                found =
                    subst (λ (address : ℕ). address ≢ 0 → place_of new.moves address ≢ 0) (same_thread r)
                    (moves.found r);
              })
          | inr other ↦
              subst (HasNewAddress new.moves (register_in held t r)) (sym (register_in-set_other items n t r x other))
              (goes_more more none still_none (before.done t r (omega (arith, below, other))))
        ];
        rest = λ t r later.
            register_in-set_other items n t r x (omega (arith, later)) ∙ before.rest t r (omega (arith, later));
        finds = λ k m at. elim (finds k m at) [
          | inl there ↦ before.finds k m there
          | inr found ↦ inr (n, found.0, sym (same_thread found.0) ∙ found.1)
        ];
        more = more-then old.moves to.moves new.moves before.more more;
        evacuates = all;
      }

-- the registers of all threads hold the new addresses
pub all_moved : {space now : SpaceWords} {old to : ToSpace} {held new : List Registers} {n : ℕ}
    → ThreadsSoFar space now old to held new n → length held ≤ n
    → (c : Collection) × EvacuatesThreads c space old held → ThreadsMove to.moves held new
all_moved {to} {held} {n} before whole may =
    let none = nothing_at_0 (before.evacuates may.0 may.1) in
    record {
      each = λ t r. elim (cases_lt t n) [
        | inl below ↦ (before.done t r below).is
        | inr later ↦
            let nothing = past_threads held t r (omega (arith, whole, later)) in
            before.rest t r later ∙ (nothing ∙ (sym none ∙ sym (ap (place_of to.moves) nothing)))
      ];
      found = λ t r full. elim (cases_lt t n) [
        | inl below ↦ (before.done t r below).found full
        | inr later ↦ absurd (full (past_threads held t r (omega (arith, whole, later))))
      ];
    }

-- What holds when the first globals, so many of them, were moved.
pub record GlobalsSoFar (phase : Phase) (space now : SpaceWords) (old to : ToSpace) (words new : List ℕ)
    (count : ℕ) : Type 0 where
  pub done : (g : ℕ) → g < count → WordMoves phase (place_of to.moves) (slice_index words g) (slice_index new g)
  pub rest : (g : ℕ) → count ≤ g → slice_index new g ≡ slice_index words g
  pub more : FindsMore old.moves to.moves
  pub evacuates : (c : Collection) → EvacuatesIn c phase space old words → Evacuates c now to 0

module _ {phase : Phase} {space now : SpaceWords} {old to : ToSpace} {words items : List ℕ} {n : ℕ}
    (before : GlobalsSoFar phase space now old to words items n) where
  same_global : slice_index items n ≡ slice_index words n
  same_global = before.rest n (omega arith)

  -- the object of the next global may be found
  pub global_at : n < length words → (c : Collection) → EvacuatesIn c phase space old words
      → EvacuatesFor c now to 0 (slice_index items n)
  global_at below c globals = record {
    evacuates = before.evacuates c globals;
    reference = subst IsRefWord (sym same_global) (globals.references n below);
    reached = λ address refers.
        globals.reached n address below (subst (λ (word : ℕ). RefersTo word address) same_global refers);
  }

  -- it is moved
  pub global_moved : {after : SpaceWords} {new : ToSpace} {is : ℕ} → n < length words → n < length items
      → WordMoves phase (place_of new.moves) (slice_index items n) is → FindsMore to.moves new.moves
      → ((c : Collection) (done : ℕ) → EvacuatesFor c now to done (slice_index items n) → Evacuates c after new done)
      → GlobalsSoFar phase space after old new words (slice_set items n is) (n + 1)
  global_moved {new} {is} below within moves more evacuates = record {
    done = λ g lower. elim (cases_eq g n) [
      | inl same ↦
          subst (λ (i : ℕ). WordMoves phase (place_of new.moves) (slice_index words i)
          (slice_index (slice_set items n is) i)) (sym same)
          (subst (λ (word : ℕ). WordMoves phase (place_of new.moves) word (slice_index (slice_set items n is) n))
          same_global (subst (WordMoves phase (place_of new.moves) (slice_index items n))
          (sym (get_or-set_same items n is 0 within)) moves))
      | inr other ↦ subst (WordMoves phase (place_of new.moves) (slice_index words g))
          (sym (get_or-set_other items n g is 0 other))
          (word_more to.moves new.moves _ _ more (before.done g (omega (arith, lower, other))))
    ];
    rest = λ g later.
        get_or-set_other items n g is 0 (omega (arith, later)) ∙ before.rest g (omega (arith, later));
    more = more-then old.moves to.moves new.moves before.more more;
    evacuates = λ c globals. evacuates c 0 (global_at below c globals);
  }

-- What holds when the first scions of the list, so many of them, have the new addresses of their objects.
pub record ScionsSoFar (space now : SpaceWords) (old to : ToSpace) (table new : Scions) (live : List ℕ)
    (count : ℕ) : Type 0 where
  pub moved : HasMoved (place_of to.moves) table new live count
  pub finds : (j : ℕ) (pair : ℕ × ℕ) → j < count → scion_at table (slice_index live j) ≡ Some pair
      → place_of to.moves pair.1 ≢ 0
  pub more : FindsMore old.moves to.moves
  pub evacuates : (c : Collection) → EvacuatesScions c space old table → Evacuates c now to 0

-- the scions at which objects were found have the same addresses when more is found
same_pairs : (old new : List Relocation) (o : Option (ℕ × ℕ)) → FindsMore old new
    → ((pair : ℕ × ℕ) → o ≡ Some pair → place_of old pair.1 ≢ 0)
    → option_map (moved_pair (place_of old)) o ≡ option_map (moved_pair (place_of new)) o
same_pairs old new None more found = refl
same_pairs old new (Some pair) more found =
    ap (λ (to : ℕ). Some (pair.0, to)) (sym (place_more old new pair.1 more (found pair refl)))

module _ {space now : SpaceWords} {old to : ToSpace} {table items : Scions} {live : List ℕ} {n : ℕ}
    (before : ScionsSoFar space now old to table items live n) (once : EachOnce live) (below : n < length live) where
  still_moved : (new : List Relocation) → FindsMore to.moves new → HasMoved (place_of new) table items live n
  still_moved new more = record {
    is_table = before.moved.is_table;
    done = λ j lower. before.moved.done j lower
        ∙ same_pairs to.moves new (scion_at table (slice_index live j)) more (λ pair at. before.finds j pair lower at);
    rest = before.moved.rest;
    size = before.moved.size;
  }

  same_scion : scion_at items (slice_index live n) ≡ scion_at table (slice_index live n)
  same_scion = not_moved (place_of to.moves) table items live n once below before.moved

  -- the object of the next scion may be found
  pub scion_place : (pair : ℕ × ℕ) → scion_at items (slice_index live n) ≡ Some pair → (c : Collection)
      → EvacuatesScions c space old table → EvacuatesAt c now to 0 pair.1
  scion_place pair at c scions = record {
    evacuates = before.evacuates c scions;
    reached = scions.reached (slice_index live n) pair (sym same_scion ∙ at);
  }

  -- there is no such scion
  pub scion_none : scion_at items (slice_index live n) ≡ None
      → ScionsSoFar space now old to table items live (n + 1)
  scion_none none = record {
    moved = moved_none (place_of to.moves) table items live n once below before.moved none;
    finds = λ j pair lower at. elim (cases_eq j n) [
      | inl same ↦
          let there : scion_at table (slice_index live n) ≡ Some pair =
          ap (λ (i : ℕ). scion_at table (slice_index live i)) (sym same) ∙ at in
          let nothing = sym same_scion ∙ none in absurd (cc)
      | inr other ↦ before.finds j pair (omega (arith, lower, other)) at
    ];
    more = before.more;
    evacuates = before.evacuates;
  }

  -- it is found
  pub scion_found : {after : SpaceWords} {new : ToSpace} {there : ℕ} (next : Scions) (pair : ℕ × ℕ)
      → scion_at items (slice_index live n) ≡ Some pair → there ≢ 0 → place_of new.moves pair.1 ≡ there
      → FindsMore to.moves new.moves
      → ((c : Collection) (done : ℕ) → EvacuatesAt c now to done pair.1 → Evacuates c after new done)
      → SetsAddress items next (slice_index live n) there → IsTable next
      → ScionsSoFar space after old new table next live (n + 1)
  scion_found {new} {there} next pair at some place more evacuates sets is_table = record {
    moved =
        moved_more (place_of new.moves) table items live n once below (still_moved new.moves more) next pair at
        (subst (SetsAddress items next (slice_index live n)) (sym place) sets) is_table;
    finds = λ j other lower is. elim (cases_eq j n) [
      | inl same ↦
          let here : scion_at table (slice_index live n) ≡ Some other =
          ap (λ (i : ℕ). scion_at table (slice_index live i)) (sym same) ∙ is in
          let pairs : other ≡ pair = same_Some other pair (sym here ∙ (sym same_scion ∙ at)) in
          λ (nought : place_of new.moves other.1 ≡ 0).
          some (sym place ∙ (ap (λ (p : ℕ × ℕ). place_of new.moves p.1) (sym pairs) ∙ nought))
      | inr apart ↦ still_placed to.moves new.moves other.1 more (before.finds j other (omega (arith, lower, apart)) is)
    ];
    more = more-then old.moves to.moves new.moves before.more more;
    evacuates = λ c scions. evacuates c 0 (scion_place pair at c scions);
  }

-- the objects of all scions were found
pub all_scions : {space now : SpaceWords} {old to : ToSpace} {table new : Scions} {live : List ℕ} {n : ℕ}
    → ScionsSoFar space now old to table new live n → IsTable table → live ≡ table.live → length live ≡ n → (k : ℕ)
    (pair : ℕ × ℕ) → scion_at table k ≡ Some pair → place_of to.moves pair.1 ≢ 0
all_scions {table} {live} before is same whole k pair at =
    let place = live_place table live k pair is same at in
    before.finds place.place pair (let below = place.below in omega (arith, below, whole))
    (ap (scion_at table) place.is ∙ at)
