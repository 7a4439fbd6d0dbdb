-- A new heap that keeps no names stands for the empty history, over each disk without homes.
use Rattle.std.proofs.Common.{◌≡◌, ℕ, zero, suc, ◌^◌, ◌<◌, ◌≤◌, false, List, [], ◌∷◌, length, get_or, refl, sym, ◌∙◌}
use Rattle.std.proofs.Common.{ap, subst, arith, inl}
use Rattle.std.proofs.lemmas.List.{length-replicate}
use Rattle.std.proofs.lemmas.List.Sums.{sum-map, sum_by-cons}
use Rattle.std.specs.FinMap.{get-empty}
use Rattle.std.specs.Ordering.{nat_cmp}
use Rattle.std.specs.Prelude.{◌/◌, Bool, Option, None, Some, replicate, slice_index_or}
use Rattle.melt_model.proofs.Sums.{CostsSum-empty}
use Rattle.melt_model.specs.Alive.{words_of}
use Rattle.melt_scion.specs.GhostMaps.{NamePairs, no_pairs}
use Rattle.melt_scion.specs.Heaps.{IsNewHeap, no_homes_on, register_in, state_of}
use Rattle.melt_scion.specs.Names.{name_at}
use Rattle.melt_scion.specs.Scions.{empty_table}
use Rattle.melt_scion.specs.declared.heap.Heap.{Heap}
use Rattle.melt_scion.specs.declared.registers.Registers.{Registers}
use Rattle.melt_scion.proofs.Starting.{FormedWords_start, IsEmpty, NoGaps_start, NoObjects, Tells_start, new_heap_empty}
use Rattle.melt_scion.proofs.Tables.{scions_made}
use Rattle.melt_core.specs.Epochs.{no_registers}
use Rattle.melt_core.specs.Views.{InUse, IsQuiet, Standing, View, call_of, claimed, claimed_in, maps, maps_of, max_rest}
use Rattle.melt_core.specs.Views.{names_along, names_for, state}
use Rattle.melt_core.specs.declared.call.Call.{Call}
use Rattle.melt_core.proofs.Values.{get_or_replicate}
use Rattle.melt_safepoint.proofs.Shown.{bare}
use Rattle.melt_pool.specs.Parts.{parts_view}

-- there is a place for the name of each address
along_length : (pairs : List (ℕ × ℕ)) (most from : ℕ) → length (names_along pairs most from) ≡ most
along_length pairs zero from = refl
along_length pairs (suc most) from = ap suc (along_length pairs most (suc from))

-- and without pairs none has one
along_none : (most from k : ℕ) → slice_index_or (names_along [] most from) k None ≡ None
along_none zero from k = refl
along_none (suc most) from zero = refl
along_none (suc most) from (suc k) = along_none most (suc from) k

no_name : (most k : ℕ) → name_at (names_along [] most 1) k ≡ None
no_name most zero = refl
no_name most (suc k) = along_none most 1 k

-- names without pairs name nothing
names_nothing : (words : ℕ) (pairs : NamePairs) → pairs ≡ no_pairs → NoObjects (maps_of (Some (names_for words pairs)))
names_nothing words pairs none = subst (λ (p : NamePairs). NoObjects (maps_of (Some (names_for words p)))) (sym none)
    (record { address = no_name words; home = get-empty {X = ℕ} nat_cmp })

-- each register of threads whose registers hold nothing is 0
nothing_held : (threads u r : ℕ) → register_in (replicate threads no_registers) u r ≡ 0
nothing_held zero u r = refl
nothing_held (suc threads) zero r = get_or_replicate 16 r 0
nothing_held (suc threads) (suc u) r = nothing_held threads u r

-- the words of a new thread after the head of a record
rest_new : (threads u : ℕ) → u < threads
    → length {A = ℕ} (get_or (replicate threads (replicate max_rest 0)) u []) ≡ max_rest
rest_new zero u below = absurd (omega (arith, below))
rest_new (suc threads) zero below = length-replicate {A = ℕ} max_rest 0
rest_new (suc threads) (suc u) below = rest_new threads u (omega (arith, below))

-- no call owns words
claimed_new : (threads : ℕ) → claimed (replicate threads None) ≡ 0
claimed_new zero = refl
claimed_new (suc threads) =
    let none : Option Call = None in
    let calls : List (Option Call) = replicate threads None in
    let more : claimed calls ≡ 0 = claimed_new threads in
    omega (arith, more, sum-map claimed_in calls, sum-map claimed_in (none ∷ calls), sum_by-cons claimed_in none calls)

-- no call is in flight
pub new_quiet : (heap : Heap) (registers : List Registers) → IsQuiet (parts_view heap [] registers)
new_quiet heap registers t = get_or_replicate (length registers) t None

-- and all that is told stands
pub new_standing : (told : Bool) (image : Option (List ℕ)) {words globals forward : ℕ} (threads : ℕ) {heap : Heap}
    {registers : List Registers} → words < 2 ^ 30 → threads ≤ 8 → IsNewHeap words globals forward false heap
    → registers ≡ replicate threads no_registers → Standing told (bare image) (parts_view heap [] registers)
new_standing told image {words} {globals} {forward} threads {heap} {registers} small few new held =
    let v : View = parts_view heap [] registers in
    let still : IsQuiet v = new_quiet heap registers in
    let gone : (t : ℕ) (c : Call) → call_of v t ≡ Some c → ⊥ =
    λ t c is. (let e : None ≡ Some c = sym (still t) ∙ is in cc) in
    let unclaimed : claimed v.calls ≡ 0 = claimed_new (length registers) in
    let objects : NoObjects (maps v) = names_nothing (length heap.space.list) heap.maps new.maps in
    let clear : IsEmpty (state_of heap registers no_homes_on) =
    new_heap_empty heap registers words globals forward false small new in
    let empty : IsEmpty (state (bare image) v) = record {
      small = clear.small;
      forwards = clear.forwards;
      scions = clear.scions;
      end = refl;
      homes = refl;
      free_homes = refl;
      globals = clear.globals;
    } in
    record {
      named = refl;
      room = along_length heap.maps.addresses (length heap.space.list) 1;
      scions_made = scions_made (length heap.space.list) heap.scions
          (new.scions ∙ ap (λ (n : ℕ). empty_table (n / 2)) (sym new.space.size));
      few = omega (arith, ap length held, length-replicate threads no_registers, few);
      each = length-replicate (length registers) None;
      buffers = length-replicate (length registers) (replicate max_rest 0);
      rests = λ t below. rest_new (length registers) t below;
      counted = refl;
      first = omega arith;
      bounded = inl (omega (arith, new.space.used));
      holds = record {
        formed = FormedWords_start (maps v) (state (bare image) v) objects empty;
        no_gaps = NoGaps_start (maps v) (state (bare image) v) objects empty;
        tells = λ is. Tells_start (maps v) (state (bare image) v) objects empty;
      };
      legal = λ is p e at. absurd (cc);
      registers = λ t r. inl (ap (λ (rs : List Registers). register_in rs t r) held ∙ nothing_held threads t r);
      known = λ t c is. absurd (gone t c is);
      fits = λ t c is. absurd (gone t c is);
      apart = λ t u c d other is at. absurd (gone t c is);
      counts = λ is. record {
        in_use = 0;
        adds_up = CostsSum-empty (words_of []) (InUse (maps v)) (λ n named. let e : None ≡ Some n =
            sym (objects.address named.0) ∙ named.1 in cc);
        below = omega (arith, unclaimed);
        within = omega (arith, unclaimed);
      };
    }
