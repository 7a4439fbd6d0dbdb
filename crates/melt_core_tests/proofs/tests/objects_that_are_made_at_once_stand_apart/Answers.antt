use Rattle.std.proofs.Common.{◌≡◌, ℕ, ◌+◌, ◌*◌, ◌<◌, ◌≤◌, [], length, ap, subst, sym, ◌∙◌, arith}
use Rattle.melt_model.specs.declared.operations.Op.{Op}
use Rattle.melt_model.specs.declared.operations.Op.TheVariants as op
use Rattle.melt_scion.specs.Heaps.{no_homes_on}
use Rattle.melt_core.specs.Advances.{InBounds, Asks}
use Rattle.melt_core.specs.Views.{View, view}
use Rattle.melt_core_tests.proofs.Onward.{Onward, onward_event}
use Rattle.melt_core_tests.proofs.tests.objects_that_are_made_at_once_stand_apart.Goals as goal

-- a thread may go on while there is room for an entry
may_go_on : (u v : View) (t entries : ℕ) (o : Op) → Onward no_homes_on u v o entries → o ≡ op.New 0 1 1 → t < 2
    → length u.held ≡ 2 → u.log ≡ [] → 32 ≤ u.capacity → entries < 32 → Asks no_homes_on v t o
may_go_on u v t entries o on is within two empty room few =
    let none : length u.log ≡ 0 = ap length empty in
    record {
      stands = on.stands;
      thread = omega (arith, on.threads, two, within);
      bounds = subst (InBounds (length v.globals)) (sym is) (omega arith, omega arith, omega arith);
      no_collect = λ e. let differ : op.New 0 1 1 ≡ op.Collect = sym is ∙ e in absurd (cc);
      continued = on.continues t;
      room = omega (arith, on.history, on.capacity, none, room, few);
      few = omega (arith, on.history, none, few);
    }

pub advance-second-requires : goal.advance-second-requires
advance-second-requires c =
    let u = view c.in_ok-core.core in
    let made = c.in_ok-core.ensures in
    may_go_on u (view c.advance-first.new.core) 1 (2 * c.loop-events.events + 1) c.new-op.result
    (onward_event c.advance-first.ensures c.loop-events.invariant)
    c.new-op.ensures (omega arith) made.threads made.history made.room (omega (arith, c.loop-events-test.true))

pub loop-events-preserved : goal.loop-events-preserved
loop-events-preserved c =
    let u = view c.in_ok-core.core in
    let n = 2 * c.loop-events.events in
    let o = c.new-op.result in
    let first : Onward no_homes_on u (view c.advance-first.new.core) o (n + 1) =
    onward_event c.advance-first.ensures c.loop-events.invariant in
    let both : Onward no_homes_on u (view c.advance-second.new.core) o (n + 1 + 1) =
    onward_event c.advance-second.ensures first in
    subst (Onward no_homes_on u (view c.advance-second.new.core) o) (let e : n + 1 + 1 ≡ 2 *
    (c.loop-events.events + 1) =
    omega arith in e) both
