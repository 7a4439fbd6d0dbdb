-- The state that was read is that of the line's thread.
use Rattle.std.proofs.Common.{◌≡◌, ◌≢◌, ◌+◌, ◌-◌, inl, inr, true, refl}
use Rattle.std.proofs.Common.{arith}
use Rattle.melt_step.specs.Turns.{OfLine}
use Rattle.melt_step.specs.declared.turns.Turns.{Turns}
use Rattle.melt_step.proofs.Turning.{of_line, dropped_more}
use Rattle.melt_step.proofs.turns.Turns.by_line.Goals as goal
use Rattle.melt_step.proofs.turns.Turns.by_line.Goals.{Joined-self-eq0, then-self-eq0, else-self-eq0}

-- the event is one of the line
by_this : (c : Joined-self-eq0) (new : Turns) → new.left ≡ c.if-self-eq0.left - 1
    → (new.left ≢ 0 → new.line ≡ c.loop-self.self.line) → (new.left ≡ 0 → new.line ≡ c.loop-self.self.line + 1)
    → new.turn ≡ c.loop-self.self.turn
    → OfLine c.args.trace.now.orders c.args.states.now c.args.self.now new c.order-thread.result.0
by_this c new less stays over turn =
    of_line new c.if-self-eq0.left c.loop-self.invariant c.order-thread.ensures.value c.order-thread.ensures.events.0
    (c.can_go.ensures.0 c.if-can_go.true) (elim c.if-self-eq0.branch [
      | then-self-eq0 w ↦ inl (w.if-self-eq0.true, w.left-is)
      | else-self-eq0 w ↦ inr (w.if-self-eq0.false, w.left-is)
    ]) less stays over turn

pub returns-then-self-eq0-2-clause-line : goal.returns-then-self-eq0-2-clause-line
returns-then-self-eq0-2-clause-line c =
    by_this (goal.at.returns-then-self-eq0-2-clause-line c).Joined-self-eq0 _ refl
    (λ some. absurd (some c.if-self-eq0-2.true)) (λ none. refl) refl

pub returns-else-self-eq0-2-clause-line : goal.returns-else-self-eq0-2-clause-line
returns-else-self-eq0-2-clause-line c =
    by_this (goal.at.returns-else-self-eq0-2-clause-line c).Joined-self-eq0 _ refl
    (λ some. refl) (λ none. absurd (c.if-self-eq0-2.false none)) refl

pub loop-self-preserved : goal.loop-self-preserved
loop-self-preserved c =
    dropped_more _ _ _ c.loop-self.self c.drop_line.new.self c.order-thread.result c.loop-self.invariant
    c.order-thread.ensures.value (λ goes. let yes : c.can_go.result ≡ true = c.can_go.ensures.1 goes in cc)
    (omega (arith, c.loop-self-test.true, c.orders.ensures)) (c.drop_line.ensures (omega arith))
