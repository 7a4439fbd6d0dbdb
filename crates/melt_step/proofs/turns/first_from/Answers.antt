-- The state that was read is the one that the contract speaks of.
use Rattle.std.proofs.Common.{◌≡◌, ℕ, ◌<◌, inl, inr, List, length, get_or, sym, ◌∙◌, ap, subst, arith}
use Rattle.std.proofs.lemmas.Bool.{cases_eq}
use Rattle.std.proofs.lemmas.Option.{slice_get_read, slice_get_within, get_or_from_slice_get}
use Rattle.std.specs.Prelude.{true, Some, slice_get}
use Rattle.melt_safepoint.specs.declared.thread.ThreadState.{ThreadState}
use Rattle.melt_safepoint.specs.Modes.{MayGo}
use Rattle.melt_step.proofs.turns.first_from.Goals as goal

-- a state that was read is the one that stands there
state_there : (states : List ThreadState) (t k : ℕ) (x s : ThreadState) → k ≡ t → x ≡ get_or states t x
    → slice_get states k ≡ Some s → x ≡ s
state_there states t k x s same is at =
    is ∙ (ap (λ (n : ℕ). get_or states n x) (sym same) ∙ get_or_from_slice_get states k s x at)

pub returns-then-can_go-clause-goes : goal.returns-then-can_go-clause-goes
returns-then-can_go-clause-goes c = (
  c.index-states-t.result,
  slice_get_read c.args.states.now c.args.count c.loop-t.t c.index-states-t.result
      c.requires c.loop-t-test.true c.index-states-t.is,
  c.can_go.ensures.0 c.if-can_go.true,
)

pub loop-t-preserved : goal.loop-t-preserved
loop-t-preserved c = λ k s from below is goes. elim (cases_eq k c.loop-t.t) [
  | inl same ↦ absurd (
      let here : c.index-states-t.result ≡ s =
      state_there c.args.states.now c.loop-t.t k c.index-states-t.result s same c.index-states-t.is is in
      let yes : c.can_go.result ≡ true =
      c.can_go.ensures.1 (subst (λ (x : ThreadState). MayGo x.mode) (sym here) goes) in
      cc)
  | inr other ↦ c.loop-t.invariant k s from (omega (arith, other)) is goes
]

pub returns-clause-none : goal.returns-clause-none
returns-clause-none c = λ t s from is goes.
    let within : t < length c.args.states.now = slice_get_within c.args.states.now t s is in
    c.loop-t.invariant t s from (omega (arith, c.loop-t-test.false, c.requires)) is goes
