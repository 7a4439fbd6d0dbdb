-- A core that stands for a history stores it as its run is to, and shows what it shows.
use Rattle.std.proofs.Common.{◌≡◌, ℕ, List, length, refl, sym, ◌∙◌, ap, subst}
use Rattle.std.specs.Option.{is_some}
use Rattle.std.specs.Prelude.{◌<◌, Bool, true, false, nat_lt, slice_set, Option, None, Some, IsSome}
use Rattle.melt_scion.specs.Heaps.{OnDisk}
use Rattle.melt_scion.specs.declared.heap.Heap.{Heap}
use Rattle.melt_scion.specs.declared.registers.Registers.{Registers}
use Rattle.melt_core.specs.Epochs.{AtRest, HasDropped, HasFinished, NamesWithin, core_of, no_registers}
use Rattle.melt_core.specs.Views.{Standing, View, call_in, call_of, history_in, stores, unbounded, view}
use Rattle.melt_core.specs.declared.call.Call.{Call}
use Rattle.melt_core.specs.declared.machine.Rest.{Rest}
use Rattle.melt_core.proofs.Naming.{stores_is}
use Rattle.melt_core.proofs.Resting.{dropped}
use Rattle.melt_safepoint.specs.Collections.{LeavesAll, ShowsHeap}
use Rattle.melt_safepoint.specs.Tables.{Renewed}
use Rattle.melt_safepoint.specs.declared.ending.Left.{Left}
use Rattle.melt_step.specs.Stored.{shown_as, stored_view}
use Rattle.melt_step.proofs.Epochs.{leaves_so}

does_so : (stored does : Bool) (v : View) → IsSome (shown_as stored does v).names → does ≡ stored
does_so true true v some = refl
does_so false false v some = refl
does_so true false v some = absurd (cc)
does_so false true v some = absurd (cc)

shows_so : (stored does : Bool) (v : View) → does ≡ stored → shown_as stored does v ≡ v
shows_so true true v so = refl
shows_so false false v so = refl
shows_so true false v so = absurd (cc)
shows_so false true v so = absurd (cc)

-- what shows names stores its history as it is to
pub stored_so : (stored : Bool) (v : View) → IsSome (stored_view stored v).names → stores v ≡ stored
stored_so stored v some = does_so stored (stores v) v some

-- and what does so shows all
pub stored_same : (stored : Bool) (v : View) → stores v ≡ stored → stored_view stored v ≡ v
stored_same stored v so = shows_so stored (stores v) v so

-- what stands is shown whole
pub stands_whole : {told : Bool} {disk : OnDisk} (stored : Bool) (v : View) → Standing told disk (stored_view stored v)
    → stored_view stored v ≡ v
stands_whole stored v stands = stored_same stored v (stored_so stored v stands.named)

-- as many entries have room in both, so both are stored or none
pub capacity_stores : (v w : View) → w.capacity ≡ v.capacity → stores w ≡ stores v
capacity_stores v w same = ap (λ (n : ℕ). nat_lt n unbounded) same

-- the heap of a core that has finished keeps names as the history is stored
pub names_as : {stored : Bool} (v : View) (heap : Heap) (rest : Rest) → HasFinished v (view (core_of heap rest))
    → stores v ≡ stored → is_some heap.names ≡ stored
names_as v heap rest finished so =
    sym (stores_is (core_of heap rest)) ∙ (capacity_stores v (view (core_of heap rest)) finished.capacity ∙ so)

-- a thread without a call holds nothing now
dropped_as : (stored does : Bool) (v w : View) (t : ℕ) → t < length v.held → call_of v t ≡ None
    → w ≡ record v { held = slice_set v.held t no_registers } → HasDropped (shown_as stored does v) (shown_as stored does w) t
dropped_as true true v w t within none is =
    subst (λ (x : View). HasDropped v x t) (sym is) (dropped v t within none)
dropped_as false false v w t within none is =
    subst (λ (x : View). HasDropped v x t) (sym is) (dropped v t within none)
dropped_as true false v w t within none is =
    subst (λ (x : View). HasDropped (shown_as true false v) (shown_as true false x) t) (sym is)
    (dropped (shown_as true false v) t within none)
dropped_as false true v w t within none is =
    subst (λ (x : View). HasDropped (shown_as false true v) (shown_as false true x) t) (sym is)
    (dropped (shown_as false true v) t within none)

-- registers and calls are shown whole
shows_held : (stored does : Bool) (v : View) → (shown_as stored does v).held ≡ v.held
shows_held true true v = refl
shows_held false false v = refl
shows_held true false v = refl
shows_held false true v = refl

shows_calls : (stored does : Bool) (v : View) → (shown_as stored does v).calls ≡ v.calls
shows_calls true true v = refl
shows_calls false false v = refl
shows_calls true false v = refl
shows_calls false true v = refl

pub stored_dropped : (stored : Bool) (v w : View) (t : ℕ) → t < length (stored_view stored v).held
    → call_of (stored_view stored v) t ≡ None → w ≡ record v { held = slice_set v.held t no_registers }
    → HasDropped (stored_view stored v) (stored_view stored w) t
stored_dropped stored v w t within none is =
    subst (λ (does : Bool). HasDropped (stored_view stored v) (shown_as stored does w) t)
    (sym (capacity_stores v w (ap (λ (x : View). x.capacity) is)))
    (dropped_as stored (stores v) v w t
    (subst (λ (held : List Registers). t < length held) (shows_held stored (stores v) v) within)
    (ap (λ (calls : List (Option Call)). call_in calls t) (sym (shows_calls stored (stores v) v)) ∙ none) is)

-- the heap is left with the history as it was stored
pub leaves_stored : (stored : Bool) (v : View) (heap : Heap) (rest : Rest) (left : Left) → left.heap ≡ Some heap
    → left.history ≡ history_in stored rest → HasFinished v (view (core_of heap rest)) → NamesWithin heap
    → ((told : Bool) (disk : OnDisk) → Standing told disk v → AtRest told disk heap rest)
    → LeavesAll (stored_view stored v) left
leaves_stored stored v heap rest left there history finished within rests =
    let whole : View = view (core_of heap rest) in
    let w : View = record whole { log = history_in stored rest } in
    record {
      heap = heap;
      there = there;
      w = w;
      log = history;
      stands = λ told disk stands.
          let so : stores v ≡ stored = stored_so stored v stands.named in
          let same : stored_view stored v ≡ v = stored_same stored v so in
          let is : whole ≡ w =
          ap (λ (x : Bool). record whole { log = history_in x rest }) (names_as v heap rest finished so) in
          subst (λ (x : View). Renewed told disk (stored_view stored v) x × ShowsHeap heap x) is
          (subst (λ (x : View). Renewed told disk x whole × ShowsHeap heap whole) (sym same)
          (leaves_so told disk v heap rest (rests told disk (subst (Standing told disk) same stands)) finished within));
    }
