-- What a heap stands for with what is beside it is kept by a collection between two epochs, over a disk that is told or
-- not.
use Rattle.std.proofs.Common.{◌≡◌, ◌≢◌, ℕ, ◌+◌, ◌<◌, ◌≤◌, zero, suc, List, [], ◌∷◌, length, get_or, ◌⊎◌, inl, inr, refl}
use Rattle.std.proofs.Common.{sym, ◌∙◌, ap, subst, arith, Bool, true}
use Rattle.std.proofs.Math.Path.{fun_ext}
use Rattle.std.proofs.Math.ListN.{get_or-map}
use Rattle.std.proofs.lemmas.Bool.{cases_lt, cases_eq}
use Rattle.std.proofs.lemmas.List.{get_or_past}
use Rattle.std.specs.Prelude.{All, Option, None, Some}
use Rattle.std.specs.Option.{option_map}
use Rattle.std.proofs.lemmas.List.Sums.{sum-map, sum_by-cons}
use Rattle.melt_model.specs.History.{Legal}
use Rattle.melt_model.specs.Alive.{words_of, CostsSum}
use Rattle.melt_model.specs.declared.history.Entry.{Entry}
use Rattle.melt_model.specs.declared.history.Value.{Value}
use Rattle.melt_model.specs.declared.history.Value.TheVariants.{Ref}
use Rattle.melt_model.specs.declared.reports.Phase.{Phase}
use Rattle.melt_model.specs.declared.reports.Journal.{Journal}
use Rattle.melt_scion.specs.State.{State}
use Rattle.melt_scion.specs.Placed.{Maps, IsNamed, Formed, Tells, Placed, value_at}
use Rattle.melt_scion.specs.Collected.{Collected, CountsWords, HeldAt}
use Rattle.melt_scion.specs.Moves.{Leaves}
use Rattle.melt_scion.specs.GhostMaps.{NamePairs}
use Rattle.melt_scion.specs.Heaps.{OnDisk, Shows, HasNames, HasMaps, KeepsTables, TablesMade, IsSettled}
use Rattle.melt_scion.specs.Heaps.{register_in, state_of}
use Rattle.melt_scion.specs.declared.heap.Names as name_table
use Rattle.melt_scion.specs.declared.heap.Heap.{Heap}
use Rattle.melt_scion.specs.declared.registers.Registers.{Registers}
use Rattle.melt_scion.proofs.Tables.{scions_kept}
use Rattle.melt_scion.proofs.Starting.{settled_gaps}
use Rattle.melt_scion.proofs.Numbered.{counts_numbers}
use Rattle.melt_scion.proofs.Moving.{Collection, collection, held_stays}
use Rattle.melt_move.specs.Collecting.{IsFormedOn, Counts as CountsEach}
use Rattle.melt_core.specs.declared.call.Call.{Call}
use Rattle.melt_core.specs.Views.{View, maps, maps_of, state, value, values_of, registers_in}
use Rattle.melt_core.specs.Views.{call_of, claimed, claimed_in, InUse, Bounded, Counts, Standing, IsQuiet}
use Rattle.melt_core.proofs.Alive.{placed as placed_now}
use Rattle.melt_core.proofs.Values.{same_values, value_held, may_value}
use Rattle.melt_safepoint.specs.Resting.{Beside, NamesHeap, with_names_held, rest_view}

-- A heap and what is beside it, between two epochs: what an epoch that begins with them stands for over a disk, told or
-- not. The names are those of the heap.
pub record RestsOver (told : Bool) (disk : OnDisk) (heap : Heap) (b : Beside) : Type 0 where
  pub stands : Standing told disk (rest_view heap b)
  pub quiet : IsQuiet (rest_view heap b)
  pub names : NamesHeap heap b.names

-- the maps of a heap are determined
pub same_maps : (names : Option name_table.Names) (pairs : NamePairs) (one other : Maps) → HasNames names pairs one
    → HasNames names pairs other → one ≡ other
same_maps None pairs one other has is =
    ap (λ (f : ℕ → Option ℕ). let m : Maps = record { address = f; home = one.home } in m)
    (fun_ext (λ address. has.0 address ∙ sym (is.0 address)))
    ∙ ap (λ (g : ℕ → Option ℕ). let m : Maps = record { address = other.address; home = g } in m)
    (fun_ext (λ home. has.1 home ∙ sym (is.1 home)))
same_maps (Some table) pairs one other has is =
    ap (λ (f : ℕ → Option ℕ). let m : Maps = record { address = f; home = one.home } in m)
    (fun_ext (λ address. has.0 address ∙ sym (is.0 address)))
    ∙ ap (λ (g : ℕ → Option ℕ). let m : Maps = record { address = other.address; home = g } in m)
    (fun_ext (λ home. has.1 home ∙ sym (is.1 home)))

-- the tables of a heap at rest were made for its words
pub tables_made : (told : Bool) (disk : OnDisk) (heap : Heap) (b : Beside) → RestsOver told disk heap b
    → TablesMade heap
tables_made told disk heap b rests = record { scions = rests.stands.scions_made; names = rests.names.made }

-- between two events words and registers are well formed
pub formed_now : (told : Bool) (disk : OnDisk) (v : View) → Standing told disk v → Formed (maps v) (state disk v)
formed_now told disk v s = record { words = s.holds.formed; registers = s.registers }

-- registers hold what stands for their values
pub values_now : (told : Bool) (disk : OnDisk) (v : View) → Standing told disk v → (t r : ℕ)
    → value_at (maps v) (register_in v.held t r) ≡ Some (value v t r)
values_now told disk v s t r = may_value v.names (state disk v) (register_in v.held t r) (s.registers t r)
    ∙ ap Some (sym (value_held v.names (registers_in v.held t) r))

-- and where all is told, the words stand for the history
pub placed_told : (told : Bool) (disk : OnDisk) (v : View) → Standing told disk v → told ≡ true
    → Placed v.log (value v) (maps v) (state disk v)
placed_told told disk v s is = placed_now disk v (subst (λ (b : Bool). Standing b disk v) is s)

-- heap and registers at rest may be collected
pub rest_formed : (told : Bool) (disk : OnDisk) (heap : Heap) (b : Beside) (finish : ℕ) → RestsOver told disk heap b
    → disk.end ≡ finish → IsFormedOn heap b.held finish
rest_formed told disk heap b finish rests ends = record {
  maps = maps_of b.names;
  disk = disk;
  end_is = ends;
  names = rests.names.has;
  made = tables_made told disk heap b rests;
  formed = formed_now told disk (rest_view heap b) rests.stands;
}

-- the words of what is in use, counted by headers, are those of the objects of the history
pub in_use_costs : (h : List Entry) (value : ℕ → ℕ → Value) (m : Maps) (s : State) (total : ℕ) → Placed h value m s
    → CountsWords s (IsNamed m) total → CostsSum (words_of h) (InUse m) total
in_use_costs h value m s total placed counts =
    counts_numbers h m s placed.formed.words placed.tells (IsNamed m) (InUse m) total (λ a is. is)
    (λ n. (λ is. (is.0, (n, is.1), is.1), λ is. (is.0, is.2))) counts

-- where no call is in flight, no region is owned
unclaimed : (calls : List (Option Call)) → ((t : ℕ) → get_or calls t None ≡ None) → claimed calls ≡ 0
unclaimed [] quiet = refl
unclaimed (c ∷ calls) quiet =
    let here : claimed_in c ≡ 0 = ap claimed_in (quiet 0) in
    let others : claimed calls ≡ 0 = unclaimed calls (λ t. quiet (suc t)) in
    omega (arith, sum-map claimed_in calls, sum-map claimed_in (c ∷ calls), sum_by-cons claimed_in c calls)

-- what is in use in a heap, where its words stand for the history beside it
pub record InUseOf (heap : Heap) (b : Beside) : Type 0 where
  pub in_use : ℕ
  pub adds_up : CostsSum (words_of b.log) (InUse (maps_of b.names)) in_use
  pub below : in_use ≤ heap.space.used
  pub within : in_use ≤ length heap.space.list

-- A heap, with these names and registers, stands over a disk for what another heap stood for with what is beside it. It
-- has as many words and globals, and no forwarding word is filled.
pub record StandsFor (told : Bool) (later : OnDisk) (heap new : Heap) (b : Beside) (names : Option name_table.Names)
    (registers : List Registers) : Type 0 where
  pub formed : Formed (maps_of names) (state_of new registers later)
  pub tells : told ≡ true → Tells b.log (maps_of names) (state_of new registers later)
  pub holds : (t r : ℕ) → value_at (maps_of names) (register_in registers t r)
      ≡ Some (value (rest_view heap b) t r)
  pub tables : KeepsTables heap new
  pub names_are : NamesHeap new names
  pub settled : IsSettled new
  pub size : length new.space.list ≡ length heap.space.list
  pub globals : length new.globals ≡ length heap.globals
  pub bounded : Bounded (rest_view new (with_names_held b names registers))
  pub counts : told ≡ true → InUseOf new (with_names_held b names registers)

module _ (told : Bool) (disk later : OnDisk) (heap new : Heap) (b : Beside) (names : Option name_table.Names)
    (registers : List Registers) (rests : RestsOver told disk heap b) where
  -- the objects in use are within the heap still
  counts_for : StandsFor told later heap new b names registers → told ≡ true
      → Counts (rest_view new (with_names_held b names registers))
  counts_for is tells =
      let none : claimed b.calls ≡ 0 = unclaimed b.calls rests.quiet in
      let counts : InUseOf new (with_names_held b names registers) = is.counts tells in
      record {
        in_use = counts.in_use;
        adds_up = counts.adds_up;
        below = let below = counts.below in omega (arith, none, below);
        within = let within = counts.within in omega (arith, none, within);
      }

  -- such a heap stands for the same history
  pub standing_for : StandsFor told later heap new b names registers → length registers ≡ length b.held
      → Standing told later (rest_view new (with_names_held b names registers))
  standing_for is threads =
      let v : View = rest_view heap b in
      let s : Standing told disk v = rests.stands in
      record {
        named = is.names_are.named;
        room = is.names_are.room;
        scions_made = scions_kept (length heap.space.list) (length new.space.list) heap.scions new.scions
            is.tables.scions is.size s.scions_made;
        few = subst (λ (n : ℕ). n ≤ 8) (sym threads) s.few;
        each = s.each ∙ sym threads;
        buffers = s.buffers ∙ sym threads;
        rests = λ u below. s.rests u (subst (λ (n : ℕ). u < n) threads below);
        counted = s.counted;
        first = omega arith;
        bounded = is.bounded;
        holds = record {
          formed = is.formed.words;
          no_gaps = settled_gaps (state_of new registers later) is.settled;
          tells = is.tells;
        };
        legal = λ tells. subst (Legal v.log) (sym is.globals) (s.legal tells);
        registers = is.formed.registers;
        known = λ t c call. let quiet : call_of v t ≡ None = rests.quiet t in absurd (cc);
        fits = λ t c call. let quiet : call_of v t ≡ None = rests.quiet t in absurd (cc);
        apart = λ t u c d other call at. let quiet : call_of v t ≡ None = rests.quiet t in absurd (cc);
        counts = counts_for is;
      }

  -- and is at rest
  pub rests_for : StandsFor told later heap new b names registers → length registers ≡ length b.held
      → RestsOver told later new (with_names_held b names registers)
  rests_for is threads = record { stands = standing_for is threads; quiet = rests.quiet; names = is.names_are }

  -- and registers for the values that they held
  pub values_for : StandsFor told later heap new b names registers
      → ((t : ℕ) → length (registers_in registers t) ≡ length (registers_in b.held t)) → (t : ℕ)
      → values_of (rest_view new (with_names_held b names registers)) t ≡ values_of (rest_view heap b) t
  values_for is sizes t =
      same_values b.names names (registers_in b.held t) (registers_in registers t) (sizes t) (is.holds t)

-- the value of a register that holds an address
value_some : (m : Maps) (a : ℕ) → a ≢ 0 → value_at m a ≡ option_map Ref (m.address a)
value_some m zero some = absurd (some refl)
value_some m (suc a) some = refl

-- a register holds, at its new address, what stands for what it stood for
moved_value : (c : Collection) (u r : ℕ) → value_at c.new (c.t.register u r) ≡ value_at c.maps (c.s.register u r)
moved_value c u r =
    let a : ℕ = c.s.register u r in
    ap (value_at c.new) (c.moves.register u r)
    ∙ elim (cases_eq a 0) [
      | inl none ↦ ap (λ (x : ℕ). value_at c.new (c.to x)) none
          ∙ (ap (value_at c.new) c.moves.chooses.nothing ∙ ap (value_at c.maps) (sym none))
      | inr full ↦
          value_some c.new (c.to a) (held_stays c u r full)
          ∙ (ap (option_map Ref) (c.names.names a (held_stays c u r full)) ∙ sym (value_some c.maps a full))
    ]

-- What a collection of the phase made of a settled heap over a disk: the maps and the disk after it, where each object
-- went, and what was counted.
pub record WasCollected (phase : Phase) (m : Maps) (disk : OnDisk) (heap new : Heap) (held registers : List Registers)
    (finish : ℕ) (image : Option (List ℕ)) (journal : Journal) : Type 0 where
  pub after : Maps
  pub later : OnDisk
  pub to : ℕ → ℕ
  pub home : ℕ → ℕ
  pub scion : ℕ → ℕ
  pub ends : later.end ≡ finish
  pub shows : Shows image later.image
  pub names : HasMaps new after
  pub collected : Collected phase m after (state_of heap held disk) (state_of new registers later) to home scion
  pub live : CountsWords (state_of new registers later) (IsNamed after) journal.live
  pub held_words : CountsWords (state_of heap held disk) (HeldAt (state_of heap held disk)) journal.held
  pub bodies : CountsEach (Leaves phase (state_of heap held disk)) journal.bodies
  pub used : journal.live ≡ new.space.used
  pub of_phase : journal.phase ≡ phase
  pub tables : KeepsTables heap new
  pub settled : IsSettled new

module _ (phase : Phase) (finish : ℕ) (image : Option (List ℕ)) (journal : Journal) (told : Bool) (disk : OnDisk)
    (heap new : Heap) (b : Beside) (names : Option name_table.Names) (registers : List Registers)
    (rests : RestsOver told disk heap b) (named : NamesHeap new names)
    (was : WasCollected phase (maps_of b.names) disk heap new b.held registers finish image journal) where
  abbrev v : View
  v = rest_view heap b

  abbrev t : State
  t = state_of new registers was.later

  -- the maps after it are those of the names that the heap has then
  pub maps_after : was.after ≡ maps_of names
  maps_after = same_maps new.names new.maps was.after (maps_of names) was.names named.has

  -- registers hold what stands for their values
  holds_after : (u r : ℕ) → value_at was.after (register_in registers u r) ≡ Some (value v u r)
  holds_after u r =
      moved_value (collection phase (maps_of b.names) was.after (state_of heap b.held disk) t was.to was.home was.scion
      (formed_now told disk v rests.stands) was.collected.words was.collected.names) u r
      ∙ values_now told disk v rests.stands u r

  -- where all is told, the words stand for the same history
  pub placed_after : told ≡ true → Placed v.log (value v) was.after t
  placed_after tells = was.collected.placed v.log (value v) (placed_told told disk v rests.stands tells)

  -- and what is in use is counted
  used_after : told ≡ true → InUseOf new (with_names_held b names registers)
  used_after tells =
      let free : new.space.used + 1 ≤ length new.space.list + 1 = was.collected.words.free in
      let adds_up : CostsSum (words_of v.log) (InUse was.after) journal.live =
      in_use_costs v.log (value v) was.after t journal.live (placed_after tells) was.live in
      let used : journal.live ≡ new.space.used = was.used in
      record {
        in_use = journal.live;
        adds_up = subst (λ (m : Maps). CostsSum (words_of v.log) (InUse m) journal.live) maps_after adds_up;
        below = omega (arith, used);
        within = omega (arith, free, used);
      }

  -- what was collected stands for what it stood for before
  pub collected_for : StandsFor told was.later heap new b names registers
  collected_for =
      let free : new.space.used + 1 ≤ length new.space.list + 1 = was.collected.words.free in
      record {
        formed = subst (λ (m : Maps). Formed m t) maps_after was.collected.formed;
        tells = λ tells. subst (λ (m : Maps). Tells v.log m t) maps_after (placed_after tells).tells;
        holds = λ u r. ap (λ (m : Maps). value_at m (register_in registers u r)) (sym maps_after) ∙ holds_after u r;
        tables = was.tables;
        names_are = named;
        settled = was.settled;
        size = was.collected.words.size;
        globals = was.collected.words.globals;
        bounded = inl free;
        counts = used_after;
      }

-- a thread that is there has its registers in the list, and one that is not has none
registers_at : (registers : List Registers) (t : ℕ)
    → registers_in registers t ≡ (get_or registers t (record { regs = [] })).regs
registers_at registers t = get_or-map (λ (x : Registers). x.regs) registers t (record { regs = [] })

-- a thread has as many registers as before, whether it is there or not
sizes_at : (old new : List Registers) (t : ℕ) → length new ≡ length old
    → All (λ (x : Registers). length x.regs ≡ 16) old → All (λ (x : Registers). length x.regs ≡ 16) new
    → (t < length old) ⊎ (length old ≤ t) → length (registers_in new t) ≡ length (registers_in old t)
sizes_at old new t threads before after (inl below) =
    let none : Registers = record { regs = [] } in
    let was : length (registers_in old t) ≡ 16 = ap length (registers_at old t) ∙ before t none below in
    let is : length (registers_in new t) ≡ 16 =
    ap length (registers_at new t) ∙ after t none (omega (arith, threads, below)) in
    is ∙ sym was
sizes_at old new t threads before after (inr past) =
    let none : Registers = record { regs = [] } in
    let was : registers_in old t ≡ [] =
    registers_at old t ∙ ap (λ (x : Registers). x.regs) (get_or_past old t none past) in
    let is : registers_in new t ≡ [] = registers_at new t
    ∙ ap (λ (x : Registers). x.regs) (get_or_past new t none (omega (arith, threads, past))) in
    ap length (is ∙ sym was)

-- each thread has as many registers as before, if each of as many threads has 16
pub same_sizes : (old new : List Registers) → length new ≡ length old → All (λ (x : Registers). length x.regs ≡ 16) old
    → All (λ (x : Registers). length x.regs ≡ 16) new → (t : ℕ)
    → length (registers_in new t) ≡ length (registers_in old t)
same_sizes old new threads before after t = sizes_at old new t threads before after (cases_lt t (length old))
