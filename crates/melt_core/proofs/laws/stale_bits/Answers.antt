use Rattle.std.proofs.Common.{◌≡◌, ℕ, zero, suc, refl, sym, ap, subst, List}
use Rattle.std.proofs.Math.Path.{fun_ext}
use Rattle.std.specs.Prelude.{Option, slice_index, slice_set, true}
use Rattle.melt_model.specs.declared.history.Entry.{Entry}
use Rattle.melt_space.specs.Space.{SpaceWords, word_at}
use Rattle.melt_scion.specs.declared.heap.Names as heap
use Rattle.melt_core.specs.declared.call.Call.{Call}
use Rattle.melt_core.specs.Epochs.{HasDropped, HasFinished, no_registers}
use Rattle.melt_core.specs.Views.{View, call_in, maps_of, stage_in}
use Rattle.melt_core.specs.StaleBits.{Tied, TiedTo, sight}
use Rattle.melt_core.proofs.Asked.{asks_over}
use Rattle.melt_core.proofs.Disks.{stands_untold}
use Rattle.melt_core.proofs.NoHomes.{as_told_by}
use Rattle.melt_core.proofs.StaleBitsTying.{tied_first, tied_tells}
use Rattle.melt_core.proofs.StaleBitsEvents.{event_tied}
use Rattle.melt_core.proofs.laws.stale_bits.Goals as goal

-- registers are not looked at
dropped : (u v w : View) (t : ℕ) → HasDropped v w t → TiedTo u v → TiedTo u w
dropped u v w t is tied =
    let kept : TiedTo u (record v { held = slice_set v.held t no_registers }) = tied in
    subst (TiedTo u) (sym is.only) kept

-- nor is how many words are in use
same_word : (a b : SpaceWords) → a.list ≡ b.list → (k : ℕ) → word_at a k ≡ word_at b k
same_word a b same zero = refl
same_word a b same (suc k) = ap (λ (xs : List ℕ). slice_index xs k) same

finished : (u v w : View) → HasFinished v w → TiedTo u v → TiedTo u w
finished u v w is tied =
    let word : word_at v.space ≡ word_at w.space = fun_ext (same_word v.space w.space (sym is.words)) in
    subst (λ (word : ℕ → ℕ). Tied (sight u) (record (sight w) { word = word })) word
    (subst (λ (log : List Entry). Tied (sight u) (record (sight w) { log = log; word = word_at v.space })) (sym is.log)
    (subst (λ (names : Option heap.Names). Tied (sight u)
    (record (sight w) { log = v.log; maps = maps_of names; word = word_at v.space })) (sym is.names)
    (subst (λ (calls : List (Option Call)). Tied (sight u)
    (record (sight v) { stage = λ t. stage_in (call_in calls t) })) (sym is.calls) tied)))

pub returns : goal.returns
returns c u = record {
  begins = λ quiet. tied_first (sight u) (λ t. ap stage_in (quiet t));
  advances = λ image disk v w t o result s may sixteen told is tied.
      event_tied u result s (asks_over v t o may disk (stands_untold true disk v s)) sixteen (as_told_by told is) tied;
  asked = λ v tied. tied;
  dropped = dropped u;
  finished = finished u;
  tells = λ disk v s quiet tied. tied_tells (sight u) (sight v) ((s.holds.tells refl).one_address)
      (λ t. ap stage_in (quiet t)) tied;
}
