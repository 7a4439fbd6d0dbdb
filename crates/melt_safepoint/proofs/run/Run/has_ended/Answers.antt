-- The threads that were looked at are those of the run.
use Rattle.std.proofs.Common.{◌≡◌, ℕ, ◌<◌, List, length, get_or, inl, inr, refl, sym, ◌∙◌, ap, subst, arith}
use Rattle.std.proofs.lemmas.Bool.{cases_eq}
use Rattle.std.proofs.lemmas.Option.{slice_get_read, slice_get_within, get_or_from_slice_get}
use Rattle.std.specs.Prelude.{true, false, Some, slice_get}
use Rattle.melt_safepoint.specs.declared.thread.ThreadState.{ThreadState}
use Rattle.melt_safepoint.specs.Modes.{IsEnded}
use Rattle.melt_safepoint.proofs.run.Run.has_ended.Goals as goal

pub loop-state-init : goal.loop-state-init
loop-state-init g c = λ t s below at. absurd (omega arith)

pub returns-then-not-has_ended-clause-goes : goal.returns-then-not-has_ended-clause-goes
returns-then-not-has_ended-clause-goes g c = λ no.
    let states : List ThreadState = c.args.self.now.states.items in
    let items : List ThreadState = c.deref-state-items.result.now in
    let there : slice_get items c.loop-state.state-index ≡ Some c.state-item.result =
    slice_get_read items (length items) c.loop-state.state-index c.state-item.result refl c.loop-state-test.true
    c.state-item.is in
    let at : slice_get states c.loop-state.state-index ≡ Some c.state-item.result =
    subst (λ (xs : List ThreadState). slice_get xs c.loop-state.state-index ≡ Some c.state-item.result)
    c.deref-state-items.ensures.value there in (
      c.loop-state.state-index,
      (
        c.state-item.result,
        at,
        λ over.
            let yes : c.has_ended.result ≡ true = c.has_ended.ensures.1 over in
            let wrong : false ≡ true = sym c.if-not-has_ended.true ∙ yes in
            absurd (cc),
      ),
    )

pub loop-state-preserved : goal.loop-state-preserved
loop-state-preserved g c = λ t s below at. elim (cases_eq t c.loop-state.state-index) [
  | inl same ↦
      let items : List ThreadState = c.deref-state-items.result.now in
      let here : c.state-item.result ≡ s =
      c.state-item.is ∙ (ap (λ (n : ℕ). get_or items n c.state-item.result) (sym same)
      ∙ get_or_from_slice_get items t s c.state-item.result at) in
      subst (λ (x : ThreadState). IsEnded x.mode) here (c.has_ended.ensures.0 c.if-not-has_ended.false)
  | inr other ↦ c.loop-state.invariant t s (omega (arith, other)) at
]

pub returns-clause-ended : goal.returns-clause-ended
returns-clause-ended g c = λ yes t s at.
    let items : List ThreadState = c.deref-state-items.result.now in
    let there : slice_get items t ≡ Some s =
    subst (λ (xs : List ThreadState). slice_get xs t ≡ Some s) (sym c.deref-state-items.ensures.value) at in
    let within : t < length items = slice_get_within items t s there in
    c.loop-state.invariant t s (omega (arith, c.loop-state-test.false)) there
