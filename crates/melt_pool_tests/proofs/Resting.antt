-- A run that may begin an epoch, over a disk that tells its words, is at rest.
use Rattle.std.proofs.Common.{◌≡◌, ℕ, zero, suc, ◌≤◌, true, List, [], length, refl, sym, ◌∙◌, ap, subst, arith}
use Rattle.std.proofs.Common.{inl, inr}
use Rattle.std.specs.Prelude.{Bool, Option, Some, slice_index}
use Rattle.std.specs.Option.{option_map}
use Rattle.melt_model.specs.History.{Legal}
use Rattle.melt_model.specs.declared.history.Entry.{Entry}
use Rattle.melt_model.specs.declared.history.Value.{Value}
use Rattle.melt_model.specs.declared.history.Value.TheVariants.{Ref}
use Rattle.melt_scion.specs.GhostMaps.{NamePairs, named}
use Rattle.melt_scion.specs.Heaps.{HasNames, state_of}
use Rattle.melt_scion.specs.Placed.{Holds, Maps, value_at}
use Rattle.melt_scion.specs.Scions.{EachOnce}
use Rattle.melt_scion.specs.declared.heap.Heap.{Heap}
use Rattle.melt_scion.specs.declared.heap.Names.{Names as HeapNames}
use Rattle.melt_rule.specs.Shown.{maps_at}
use Rattle.melt_rule.specs.declared.began.Start.{Start}
use Rattle.melt_epoch.specs.Ends.{HeapBegins, HistoryBegins, HoldsValues, MutatorBegins, MutatorsBegin, disk_of}
use Rattle.melt_epoch.specs.declared.mutator.Mutator.{Mutator}
use Rattle.melt_pool.specs.Beginning.{IsAtRest, RestsOn}
use Rattle.melt_pool.proofs.Passing.{all_at, all_by}

value_there : (maps : Maps) (a : ℕ) → 1 ≤ a → value_at maps a ≡ option_map Ref (maps.address a)
value_there maps zero first = absurd (omega (arith, first))
value_there maps (suc a) first = refl

module _ {R : Type 0} (image : R → Option (List ℕ)) (start : Start) (heap : Heap) (h : List Entry) (end : ℕ)
    (ms : List (Mutator R)) (tells : start.began.told ≡ true) (none : start.began.free_homes ≡ [])
    (begins : HeapBegins start.began heap end) (history : HistoryBegins start heap h)
    (mutators : MutatorsBegin image start ms) (some_forward : 1 ≤ length heap.forward) where
  -- a register stands for its value by the maps
  values_of : (m : Mutator R) → MutatorBegins image start m
      → HoldsValues (maps_at start.began) (state_of heap [] (disk_of start.began)) m
  values_of m is = record {
    stand = λ r. elim (is.registers r) [
      | inl nothing ↦
          ap (value_at (maps_at start.began)) nothing.0 ∙ ap (λ (v : Value). Some v) (sym nothing.1)
      | inr object ↦
          let there = history.held (slice_index m.registers.regs r) object.0 object.2 in
          let first = (history.holds.formed.objects (slice_index m.registers.regs r) object.0 there).1.first in
          value_there (maps_at start.began) (slice_index m.registers.regs r) first
          ∙ (ap (option_map Ref) there ∙ ap (λ (v : Value). Some v) (sym object.1))
    ];
    hold = λ r. elim (is.registers r) [
      | inl nothing ↦ inl nothing.0
      | inr object ↦
          let there = history.held (slice_index m.registers.regs r) object.0 object.2 in
          inr ((object.0, there), history.fresh (slice_index m.registers.regs r) object.0 object.2)
    ];
  }

  pub begun_rests : IsAtRest image true heap h end ms
  begun_rests = record {
    words = Some start.began.image;
    maps = maps_at start.began;
    disk = disk_of start.began;
    under = record { ends = sym begins.ends; tells = λ told. (refl, λ k. refl) };
    none_free = none;
    has_maps = subst (λ (o : Option HeapNames). HasNames o heap.maps (maps_at start.began)) (sym begins.nameless) (
      λ a. ap (λ (pairs : NamePairs). named pairs.addresses a) (sym begins.maps),
      λ home. ap (λ (pairs : NamePairs). named pairs.homes home) (sym begins.maps),
    );
    nameless = begins.nameless;
    settled = begins.settled;
    some_forward = some_forward;
    holds = subst (λ (told : Bool). Holds told h (maps_at start.began) (state_of heap [] (disk_of start.began))) tells
        history.holds;
    legal = λ told. subst (Legal h) (sym begins.globals) (history.legal tells);
    few_globals = omega (arith, begins.few_globals, begins.globals);
    few_words = omega (arith, begins.few_words, begins.globals, begins.forwards, begins.size);
    some_thread = mutators.some_thread;
    few = mutators.few;
    each_once = subst EachOnce (sym mutators.threads) mutators.each_once;
    each = all_by
        (RestsOn image (Some start.began.image) (maps_at start.began) heap (disk_of start.began)) ms (λ k m at.
        let is = all_at (MutatorBegins image start) ms k m mutators.each at in
        record {
          unseated_yet = is.unseated_yet;
          reader = is.reader;
          there = is.there;
          tells = is.tells tells;
          size = is.size;
          values = values_of m is;
        });
  }
