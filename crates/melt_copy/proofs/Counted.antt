-- The words of all objects of a copy, and of those in registers, counted by the headers at their addresses.
use Rattle.std.proofs.Common.{◌≡◌, ◌≢◌, ℕ, ◌+◌, ◌*◌, ◌/◌, ◌%◌, ◌≤◌, List, take, refl, sym, ◌∙◌, ap, arith}
use Rattle.std.specs.Prelude.{Bool, true, false}
use Rattle.melt_model.specs.Alive.{CostsSum}
use Rattle.melt_model.specs.declared.reports.Phase.{Phase}
use Rattle.melt_word.specs.Words.{IsHeader, header_word, cost_of, bit}
use Rattle.melt_word.specs.declared.header.Header.{Header}
use Rattle.melt_scion.specs.State.{State}
use Rattle.melt_scion.specs.Placed.{Maps, IsNamed, Formed}
use Rattle.melt_scion.specs.Collected.{WordsAt, CountsWords, HeldAt}
use Rattle.melt_scion.proofs.Reaching.{reached_named}
use Rattle.melt_copy.specs.declared.forwarding.Relocation.{Relocation}
use Rattle.melt_copy.specs.Moving.{Carries, words_in, maps_after}
use Rattle.melt_copy.proofs.Places.{same_place, same_source}
use Rattle.melt_copy.proofs.Sources.{source_object, source_cost}
use Rattle.melt_copy.proofs.Renaming.{comes}
use Rattle.melt_copy.proofs.Carried.{carried_name, object_there, shape_before}
use Rattle.melt_copy.proofs.Counting.{slice_get-take, slice_get_in_front, counts_moves}

-- the words of the object whose header has this word
cost_in : ℕ → ℕ
cost_in word = 2 + word / 256 % 256 + word / 65536

cost_in_word : (refs nums : ℕ) (stale : Bool) → refs ≤ 62 → nums ≤ 62
    → cost_in (1 + 2 * bit stale + 256 * refs + 65536 * nums) ≡ 2 + refs + nums
unfolding cost_in
cost_in_word refs nums false few small = omega (arith, few, small)
cost_in_word refs nums true few small = omega (arith, few, small)

cost_in_header : (header : Header) → IsHeader header → cost_in (header_word header) ≡ cost_of header.shape
cost_in_header header is = cost_in_word header.shape.refs header.shape.nums header.stale is.refs is.nums

pub cost_at : State → ℕ → ℕ
cost_at s a = cost_in (s.word a)

pub costs_at : (s : State) → WordsAt s (cost_at s)
unfolding cost_at
costs_at s = record { is = λ a header starts. ap cost_in starts.word ∙ cost_in_header header starts.in_range }

pub counts_words : (s : State) (Is : ℕ → Type 0) (total : ℕ) → CostsSum (cost_at s) Is total → CountsWords s Is total
counts_words s Is total sums = record {
  members = sums.members;
  cost = cost_at s;
  costs = costs_at s;
  once = sums.once;
  all = sums.all;
  adds_up = sums.adds_up;
}

module _ (phase : Phase) (maps : Maps) (s t : State) (f : ℕ → ℕ) (moves : List Relocation) (held_count : ℕ)
    (carries : Carries phase s t f moves held_count) where
  -- those of all objects, where they are after the move
  pub live_words : Formed maps s → CountsWords t (IsNamed (maps_after maps moves)) (words_in moves)
  live_words formed = counts_words t (IsNamed (maps_after maps moves)) (words_in moves) (
      counts_moves (cost_at t) (IsNamed (maps_after maps moves)) (λ (m : Relocation). m.to) moves
      (λ i j a b first second before same. let one =
      (same_place i j carries.found first second same).0 in omega (arith, one, before))
      (λ k m at.
      let o = object_there phase maps s t f moves held_count carries k m at in
      (costs_at t).is m.to o.0 o.1.starts
      ∙ ap cost_of (shape_before phase maps s t f moves held_count carries k m m.to o.0 at refl o.1.starts))
      (λ b named. let c = comes maps.address moves b named.0 named.1 in (c.index, c.move, c.is, c.to))
      (λ k m at.
      let n = reached_named maps s m.from formed (carries.found.whole k m at).reached in
      (n.0, carried_name phase maps s t f moves held_count carries k m at ∙ n.1))
      )

  -- those of the objects in registers, where they were before
  pub held_words : CountsWords s (HeldAt s) (words_in (take held_count moves))
  held_words = counts_words s (HeldAt s) (words_in (take held_count moves)) (
      counts_moves (cost_at s) (HeldAt s) (λ (m : Relocation). m.from) (take held_count moves)
      (λ i j a b first second before same.
      let x = (slice_get-take moves held_count i a first).1 in
      let y = (slice_get-take moves held_count j b second).1 in
      let one = (same_source i j carries.found x y same).0 in
      omega (arith, one, before))
      (λ k m at.
      let is = carries.found.whole k m (slice_get-take moves held_count k m at).1 in
      (costs_at s).is m.from is.header is.starts ∙ source_cost s m is)
      (λ a held.
      let full : s.register held.0.thread held.0.register ≢ 0 = λ nought. held.1 (sym held.0.holds ∙ nought) in
      let m = carries.held.all held.0.thread held.0.register full in
      (m.0, m.1, slice_get_in_front moves held_count m.0 m.1 m.3 m.2, m.4 ∙ held.0.holds))
      (λ k m at.
      let old = slice_get-take moves held_count k m at in
      let held = carries.held.each k m old.1 old.0 in
      let first = (source_object s m carries.whole (carries.found.whole k m old.1)).first in
      (record { thread = held.0; register = held.1; holds = held.2 }, λ nought. omega (arith, nought, first)))
      )
