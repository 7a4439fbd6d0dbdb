-- The state that was read is the one that the contract speaks of.
use Rattle.std.proofs.Common.{◌≡◌, ℕ, ◌+◌, ◌<◌, inl, inr, List, length, get_or, refl, sym, ◌∙◌, ap, subst, arith}
use Rattle.std.proofs.lemmas.Bool.{cases_eq}
use Rattle.std.proofs.lemmas.Option.{same_Some, slice_get_read, slice_get_within}
use Rattle.std.specs.Prelude.{Some, slice_get}
use Rattle.melt_safepoint.specs.declared.thread.Mode.TheVariants.{Lacking}
use Rattle.melt_safepoint.specs.declared.thread.ThreadState.{ThreadState}
use Rattle.melt_safepoint.proofs.run.Run.lacking.Goals as goal

-- what was read of a list is there in the same list
state_there : (items states : List ThreadState) (t : ℕ) (x : ThreadState) → items ≡ states → t < length items
    → x ≡ get_or items t x → slice_get states t ≡ Some x
state_there items states t x same below is =
    subst (λ (ss : List ThreadState). slice_get ss t ≡ Some x) same
    (slice_get_read items (length items) t x refl below is)

-- no thread up to this one
none_more : (states : List ThreadState) (t : ℕ) (x : ThreadState) → slice_get states t ≡ Some x → (x.mode ≡ Lacking → ⊥)
    → ((k : ℕ) (s : ThreadState) → k < t → slice_get states k ≡ Some s → s.mode ≡ Lacking → ⊥)
    → (k : ℕ) (s : ThreadState) → k < t + 1 → slice_get states k ≡ Some s → s.mode ≡ Lacking → ⊥
none_more states t x at not before = λ k s below is lacks. elim (cases_eq k t) [
  | inl same ↦ not (ap (λ (z : ThreadState). z.mode) (same_Some x s (sym at ∙ (ap (slice_get states) (sym same) ∙ is)))
      ∙ lacks)
  | inr other ↦ before k s (omega (arith, other, below)) is lacks
]

pub returns-in-Lacking-clause-some : goal.returns-in-Lacking-clause-some
returns-in-Lacking-clause-some g c = (
  c.state-item.result,
  state_there c.deref-state-items.result.now c.args.self.now.states.items c.loop-t.t
      c.state-item.result c.deref-state-items.ensures.value c.loop-t-test.true c.state-item.is,
  c.in-Lacking.is,
)

pub returns-in-Lacking-clause-first : goal.returns-in-Lacking-clause-first
returns-in-Lacking-clause-first g c = c.loop-t.invariant

pub loop-t-preserved : goal.loop-t-preserved
loop-t-preserved g c =
    none_more c.args.self.now.states.items c.loop-t.t c.state-item.result
    (state_there c.deref-state-items.result.now c.args.self.now.states.items c.loop-t.t c.state-item.result
    c.deref-state-items.ensures.value c.loop-t-test.true c.state-item.is)
    c.in_default.not-Lacking c.loop-t.invariant

pub returns-clause-none : goal.returns-clause-none
returns-clause-none g c = λ t s is lacks.
    let within : t < length c.args.self.now.states.items = slice_get_within c.args.self.now.states.items t s is in
    c.loop-t.invariant t s (omega (arith, within, c.loop-t-test.false, ap length c.deref-state-items.ensures.value)) is
    lacks
