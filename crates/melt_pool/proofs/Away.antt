-- The machine of a run of real threads, where its registers change or its heap is collected.
use Rattle.std.proofs.Common.{◌≡◌, ◌≢◌, ℕ, ◌<◌, ◌≤◌, List, length, refl, sym, ◌∙◌, ap, subst, arith, inl, inr}
use Rattle.std.proofs.Math.ListN.{length-set}
use Rattle.std.proofs.lemmas.Bool.{cases_eq}
use Rattle.std.proofs.lemmas.Option.{same_Some}
use Rattle.std.specs.Option.{is_some}
use Rattle.std.specs.Prelude.{false, Option, None, Some, replicate, slice_get, slice_set}
use Rattle.melt_model.specs.declared.history.Entry.{Entry}
use Rattle.melt_model.specs.declared.reports.Phase.{Phase}
use Rattle.melt_disk.specs.declared.space.DiskFull as disk
use Rattle.melt_scion.specs.GhostMaps.{named}
use Rattle.melt_scion.specs.Heaps.{HasMaps, HasNames, KeepsNames}
use Rattle.melt_scion.specs.Placed.{Maps}
use Rattle.melt_scion.specs.declared.heap.Heap.{Heap}
use Rattle.melt_scion.specs.declared.heap.Names as name_table
use Rattle.melt_scion.specs.declared.registers.Registers.{Registers}
use Rattle.melt_core.specs.Epochs.{HasDropped, no_registers}
use Rattle.melt_core.specs.Views.{IsQuiet, View, max_rest, names_for}
use Rattle.melt_core.proofs.Resting.{dropped}
use Rattle.melt_core.proofs.Values.{get_or_replicate}
use Rattle.melt_epoch.specs.Mutators.{with_none}
use Rattle.melt_epoch.specs.declared.mutator.Mutator.{Mutator}
use Rattle.melt_safepoint.specs.Collections.{CollectedOver, CollectsCore, IsFullCore, MayCollect}
use Rattle.melt_safepoint.specs.Resting.{Beside, CollectsHeap, IsFullHeap, LeavesHeap, with_names_held, rest_view}
use Rattle.melt_safepoint.specs.Shown.{Shown}
use Rattle.melt_safepoint.specs.declared.collector.Collector.{Collector}
use Rattle.melt_safepoint.specs.declared.ending.Left.{Left}
use Rattle.melt_safepoint.proofs.Threads.{get_set_other, get_set_same}
use Rattle.melt_pool.specs.Parts.{AreAway, IsAway, IsNameless, beside_of, parts_view}
use Rattle.melt_core.proofs.Nameless.{is_none}
use Rattle.melt_pool.proofs.Names.{names_hold}

-- no call is in flight
pub still : (heap : Heap) (h : List Entry) (held : List Registers) → IsQuiet (parts_view heap h held)
still heap h held t = get_or_replicate (length held) t None

-- other registers, as many, change nothing else that it shows
held_alone : (heap : Heap) (h : List Entry) (held after : List Registers) → length after ≡ length held
    → parts_view heap h after ≡ record (parts_view heap h held) { held = after }
held_alone heap h held after same =
    ap (λ (n : ℕ). let v : View = record (parts_view heap h after)
    { calls = replicate n None; records = replicate n (replicate max_rest 0) } in v)
    same

-- those of a thread hold nothing now
pub thread_dropped : (heap : Heap) (h : List Entry) (held : List Registers) (t : ℕ) → t < length held
    → HasDropped (parts_view heap h held) (parts_view heap h (slice_set held t no_registers)) t
thread_dropped heap h held t within =
    let v : View = parts_view heap h held in
    let after : List Registers = slice_set held t no_registers in
    subst (λ (w : View). HasDropped v w t) (sym (held_alone heap h held after (length-set held t no_registers)))
    (dropped v t within (still heap h held t))

-- the mutator of this thread has none of them
away_none : {R : Type 0} (v w : View) (t : ℕ) (m n : Mutator R) → HasDropped v w t → n ≡ with_none m → IsAway v t m
    → IsAway w t n
away_none {R} v w t m n d is away = subst (λ (x : Mutator R). IsAway w t x) (sym is)
    (record {
      thread = away.thread;
      no_seat = away.no_seat;
      no_reader = away.no_reader;
      size = refl;
      values = sym d.here;
    })

-- and those of the others have the same values
away_other : {R : Type 0} (v w : View) (t u : ℕ) (m : Mutator R) → HasDropped v w t → u ≢ t → IsAway v u m
    → IsAway w u m
away_other v w t u m d other away = record {
  thread = away.thread;
  no_seat = away.no_seat;
  no_reader = away.no_reader;
  size = away.size;
  values = away.values ∙ sym (d.others u other);
}

pub away_dropped : {R : Type 0} (heap : Heap) (h : List Entry) {held : List Registers} {ms : List (Mutator R)} (t : ℕ)
    {m n : Mutator R} → t < length held → slice_get ms t ≡ Some m → n ≡ with_none m
    → AreAway (parts_view heap h held) held ms
    → AreAway (parts_view heap h (slice_set held t no_registers)) (slice_set held t no_registers) (slice_set ms t n)
away_dropped {R} heap h {held} {ms} t {m} {n} within at is away =
    let v : View = parts_view heap h held in
    let w : View = parts_view heap h (slice_set held t no_registers) in
    let d : HasDropped v w t = thread_dropped heap h held t within in
    record {
      count = length-set ms t n ∙ (away.count ∙ sym (length-set held t no_registers));
      few = subst (λ (k : ℕ). k ≤ 8) (sym (length-set ms t n)) away.few;
      each = λ u x there. elim (cases_eq u t) [
        | inl same ↦
            let here : slice_get (slice_set ms t n) t ≡ Some x =
            subst (λ (k : ℕ). slice_get (slice_set ms t n) k ≡ Some x) same there in
            let set : n ≡ x = same_Some n x (sym (get_set_same ms t m n at) ∙ here) in
            subst (λ (k : ℕ). IsAway w k x) (sym same)
            (away_none v w t m x d (sym set ∙ is) (away.each t m at))
        | inr other ↦
            away_other v w t u x d other (away.each u x (sym (get_set_other ms t u n other) ∙ there))
      ];
    }

-- a heap that kept no names keeps none
none_kept : (old new : Option name_table.Names) → old ≡ None → KeepsNames old new → new ≡ None
none_kept None None is keeps = refl
none_kept None (Some names) is keeps = absurd keeps
none_kept (Some names) new is keeps = absurd (cc)

-- A heap that was collected is one without names, as it was.
pub nameless_left : (old new : Heap) → IsNameless old → LeavesHeap old new → IsNameless new
nameless_left old new is leaves =
    let none : new.names ≡ None = none_kept old.names new.names (is_none old.names is.nameless) leaves.keeps_names in
    let m : Maps = record { address = named new.maps.addresses; home = named new.maps.homes } in
    let has : HasMaps new m =
    subst (λ (names : Option name_table.Names). HasNames names new.maps m) (sym none) (λ a. refl, λ home. refl) in
    record {
      nameless = ap is_some none;
      within = λ a n at. leaves.within m a has (n, at);
      some_forward = omega (arith, is.some_forward, leaves.forwards);
      few_globals = omega (arith, is.few_globals, leaves.globals);
      few_words = omega (arith, is.few_words, leaves.words, leaves.globals, leaves.forwards);
    }

-- The machine is collected where its heap is, with its registers, which were lent for that.
pub parts_collected : (phase : Phase) (shown later : Shown) {old new : Heap} (h : List Entry)
    {held lent back after : List Registers} (plans planned : Collector) → lent ≡ held → length back ≡ length lent
    → after ≡ back → IsNameless old → IsNameless new → CollectsHeap phase shown later old new lent back plans planned
    → MayCollect shown.end (parts_view old h held)
    → CollectsCore phase shown later (parts_view old h held) (parts_view new h after) plans planned
parts_collected phase shown later {old} {new} h {held} {back} {after} plans planned lent_is count is_back is left
    collects may =
    let b : Beside = beside_of old h held in
    let names : Option name_table.Names = Some (names_for (length new.space.list) new.maps) in
    let same : length back ≡ length held = count ∙ ap length lent_is in
    let shows : parts_view new h after ≡ rest_view new (with_names_held b names back) =
    ap (parts_view new h) is_back ∙ ap (λ (n : ℕ). let v : View = record (parts_view new h back)
    { calls = replicate n None; records = replicate n (replicate max_rest 0) } in v) same in
    subst (λ (w : View). CollectsCore phase shown later (parts_view old h held) w plans planned) (sym shows)
    (collects b names (sym lent_is) (names_hold old is) (names_hold new left) may)

-- The machine has no room on disk for its homes where its heap has none.
pub parts_full : (phase : Phase) (shown later : Shown) {old back : Heap} {h : List Entry} {held lent : List Registers}
    (left : Left) (full : disk.DiskFull) → lent ≡ held → IsNameless old
    → IsFullHeap phase shown later old back lent full → MayCollect shown.end (parts_view old h held)
    → left.heap ≡ Some back → left.history ≡ h → IsFullCore phase shown later (parts_view old h held) left full
parts_full phase shown later {old} {h} {held} left full lent_is is refused may there history =
    refused (beside_of old h held) left (sym lent_is) (names_hold old is) may there history

-- Each mutator has the values that its registers stand for after the collection.
pub away_collected : {R : Type 0} {phase : Phase} {shown later : Shown} {v w : View} {held : List Registers}
    (after : List Registers) {ms : List (Mutator R)} {plans planned : Collector} → length after ≡ length held
    → MayCollect shown.end v → CollectsCore phase shown later v w plans planned → AreAway v held ms → AreAway w after ms
away_collected {phase} {later} {v} {w} after same may collects away =
    let made : CollectedOver false phase later may.disk.free_homes v w collects.entry =
    collects.each false may.disk (record { ends = may.ends; tells = λ told. absurd (cc) }) may.stands in
    record {
      count = away.count ∙ sym same;
      few = away.few;
      each = λ t m at. let x = away.each t m at in record {
        thread = x.thread;
        no_seat = x.no_seat;
        no_reader = x.no_reader;
        size = x.size;
        values = x.values ∙ sym (made.renewed.values t);
      };
    }
