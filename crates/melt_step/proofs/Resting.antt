-- What a rest is beside its heap.
use Rattle.std.proofs.Common.{◌≡◌, ℕ, ◌≤◌, List, length, refl, sym, ◌∙◌, ap, subst}
use Rattle.std.proofs.lemmas.List.{with_items_is}
use Rattle.std.specs.Option.{is_some}
use Rattle.std.specs.Prelude.{Bool, false, Option, None, Some, unwrap_or}
use Rattle.melt_model.specs.declared.reports.Phase.{Phase}
use Rattle.melt_disk.specs.declared.space.DiskFull as disk_full
use Rattle.melt_scion.specs.GhostMaps.{NamePairs, named}
use Rattle.melt_scion.specs.Heaps.{OnDisk, HasNames, KeepsNames, NamesMade}
use Rattle.melt_scion.specs.Placed.{IsNamed, Maps}
use Rattle.melt_scion.specs.declared.heap.Heap.{Heap}
use Rattle.melt_scion.specs.declared.heap.Names as name_table
use Rattle.melt_scion.specs.declared.registers.Registers.{Registers}
use Rattle.melt_core.specs.Epochs.{AtRest, HasFinished, NamesWithin, core_of}
use Rattle.melt_core.specs.Lending.{with_held}
use Rattle.melt_core.specs.Views.{View, history_in, maps_of, names_for, names_in, room_in, view, Standing}
use Rattle.melt_core.proofs.Nameless.{along_length, homes_are, names_are}
use Rattle.melt_core.specs.declared.machine.Rest.{Rest}
use Rattle.melt_safepoint.specs.Collections.{CollectsCore, IsFullCore, MayCollect}
use Rattle.melt_safepoint.specs.Resting.{Beside, CollectsHeap, IsFullHeap, LeavesHeap, MayCollectHeap, NamesHeap}
use Rattle.melt_safepoint.specs.Resting.{with_names_held, rest_view}
use Rattle.melt_safepoint.specs.Shown.{Shown}
use Rattle.melt_safepoint.specs.declared.collector.Collector.{Collector}
use Rattle.melt_safepoint.specs.declared.ending.Left.{Left}
use Rattle.melt_safepoint.proofs.Finishing.{finished_collects, finished_full, finished_may}
use Rattle.melt_step.specs.Choices.{OnlyRegisters}

-- A heap has its names beside it, kept or not, with all of a rest. What both show is then what a core shows that begins
-- with them.
abbrev pub beside_of : Heap → Rest → Beside
beside_of heap rest = record {
  names = Some (names_in heap);
  held = rest.held.items;
  calls = rest.calls.items;
  records = rest.records.items;
  log = history_in (is_some heap.names) rest;
  capacity = room_in (is_some heap.names) rest;
  made = rest.made;
}

-- Names of a heap, of which its maps or the table that it keeps say what they are.
record AreNames (kept : Option name_table.Names) (pairs : NamePairs) (words : ℕ) : Type 0 where
  pub room : length (unwrap_or kept (names_for words pairs)).addresses ≡ words
  pub has : HasNames kept pairs (maps_of (Some (unwrap_or kept (names_for words pairs))))
  pub made : NamesMade words kept

names_by : {kept : Option name_table.Names} {pairs : NamePairs} {words : ℕ}
    → length (unwrap_or kept (names_for words pairs)).addresses ≡ words
    → ((address n : ℕ) → named pairs.addresses address ≡ Some n → (1 ≤ address) × (address ≤ words))
    → AreNames kept pairs words
names_by {kept = None} {pairs} {words} room within =
    record { room = room; has = (names_are pairs.addresses words within, homes_are pairs.homes); made = tt }
names_by {kept = Some names} room within = record { room = room; has = (λ address. refl, λ home. refl); made = room }

names_made : {kept : Option name_table.Names} {pairs : NamePairs} {words : ℕ} → NamesMade words kept
    → ((maps : Maps) (address : ℕ) → HasNames kept pairs maps → IsNamed maps address
    → (1 ≤ address) × (address ≤ words)) → AreNames kept pairs words
names_made {kept = None} {pairs} {words} made within = names_by (along_length pairs.addresses words 1) (λ address n is.
    within (record { address = named pairs.addresses; home = named pairs.homes }) address
    (λ k. refl, λ home. refl) (n, is))
names_made {kept = Some names} made within =
    record { room = made; has = (λ address. refl, λ home. refl); made = made }

heap_names : (heap : Heap) → AreNames heap.names heap.maps (length heap.space.list)
    → NamesHeap heap (Some (names_in heap))
heap_names heap are = record { named = refl; room = are.room; has = are.has; made = are.made }

-- a heap has the names of its words beside it
pub names_kept : (heap : Heap) → length (names_in heap).addresses ≡ length heap.space.list → NamesWithin heap
    → NamesHeap heap (Some (names_in heap))
names_kept heap room within = heap_names heap (names_by room within)

-- and so has what a collection leaves of it
pub names_left : (heap new : Heap) → LeavesHeap heap new → NamesHeap new (Some (names_in new))
names_left heap new leaves = heap_names new (names_made leaves.names_made leaves.within)

-- names are there where they were
pub kept_still : (old new : Option name_table.Names) → KeepsNames old new → is_some new ≡ is_some old
kept_still None None keeps = refl
kept_still None (Some new) keeps = absurd keeps
kept_still (Some old) None keeps = absurd keeps
kept_still (Some old) (Some new) keeps = refl

-- a rest with other registers shows them
pub lent_view : (heap new : Heap) (rest : Rest) (registers : List Registers) → LeavesHeap heap new
    → length registers ≡ length rest.held.items
    → rest_view new (with_names_held (beside_of heap rest) (Some (names_in new)) registers)
    ≡ view (core_of new (with_held rest registers))
lent_view heap new rest registers leaves count =
    ap (λ (held : List Registers). rest_view new (with_names_held (beside_of heap rest) (Some (names_in new)) held))
    (sym (with_items_is rest.held registers (count ∙ sym rest.held.ok.0)))
    ∙ ap (λ (stored : Bool). record (view (core_of new (with_held rest registers))) {
      log = history_in stored rest;
      capacity = room_in stored rest;
    }) (sym (kept_still heap.names new.names leaves.keeps_names))

-- and so does one in which nothing but registers changed
pub only_view : (heap new : Heap) (rest after : Rest) → is_some new.names ≡ is_some heap.names
    → OnlyRegisters rest after
    → rest_view new (with_names_held (beside_of heap rest) (Some (names_in new)) after.held.items)
    ≡ view (core_of new after)
only_view heap new rest after kept only =
    same_view new heap rest after kept only.calls only.records only.log only.shadow_log only.made
  where
    same_view : (new heap : Heap) (rest after : Rest) → is_some new.names ≡ is_some heap.names
        → after.calls.items ≡ rest.calls.items → after.records.items ≡ rest.records.items → after.log ≡ rest.log
        → after.shadow_log ≡ rest.shadow_log → after.made ≡ rest.made
        → rest_view new (with_names_held (beside_of heap rest) (Some (names_in new)) after.held.items)
        ≡ view (core_of new after)
    same_view new heap rest after kept calls records log told made = cc

-- A core became a heap and a rest, whose registers were lent for a collection.
module _ (v : View) (heap : Heap) (rest : Rest) (shown : Shown)
    (rests : (told : Bool) (disk : OnDisk) → Standing told disk v → AtRest told disk heap rest)
    (finished : HasFinished v (view (core_of heap rest))) (within : NamesWithin heap) (may : MayCollect shown.end v) where
  abbrev x : View
  x = view (core_of heap rest)

  stands_still : (told : Bool) (disk : OnDisk) → Standing told disk v → Standing told disk x
  stands_still told disk stands = (rests told disk stands).stands

  at_rest : AtRest false may.disk heap rest
  at_rest = rests false may.disk may.stands

  may_still : MayCollect shown.end x
  may_still = finished_may v x finished stands_still shown.end at_rest.quiet may

  names : NamesHeap heap (Some (names_in heap))
  names = names_kept heap at_rest.stands.room within

  -- the heap and these registers may be collected
  pub may_lend : (lent : List Registers) → lent ≡ rest.held.items → MayCollectHeap shown.end heap lent
  may_lend lent was =
      record { beside = beside_of heap rest; held_is = sym was; names = names; may = may_still }

  -- and where they were, so was the core
  pub lent_collects : (phase : Phase) (later : Shown) {new : Heap} {lent : List Registers} (registers : List Registers)
      (old plans : Collector) → lent ≡ rest.held.items → length registers ≡ length lent
      → CollectsHeap phase shown later heap new lent registers old plans → LeavesHeap heap new
      → CollectsCore phase shown later v (view (core_of new (with_held rest registers))) old plans
  lent_collects phase later {new} registers old plans was count collects leaves =
      let w : View = rest_view new (with_names_held (beside_of heap rest) (Some (names_in new)) registers) in
      subst (λ (shows : View). CollectsCore phase shown later v shows old plans)
      (lent_view heap new rest registers leaves (count ∙ ap length was))
      (finished_collects v x finished stands_still phase shown later w old plans
      (collects (beside_of heap rest) (Some (names_in new)) (sym was) names (names_left heap new leaves) may_still))

  -- and where the disk had no room for them, it had none for the core
  pub lent_full : (phase : Phase) (later : Shown) (back : Heap) (lent : List Registers) (left : Left)
      (full : disk_full.DiskFull) → lent ≡ rest.held.items → IsFullHeap phase shown later heap back lent full
      → left.heap ≡ Some back → left.history ≡ history_in (is_some heap.names) rest → IsFullCore phase shown later v left full
  lent_full phase later back lent left full was is there history =
      finished_full v x finished stands_still phase shown later left full
      (is (beside_of heap rest) left (sym was) names may_still there history)
