use Rattle.std.proofs.Common.{◌+◌, List, sym, subst, arith}
use Rattle.melt_safepoint.specs.declared.thread.ThreadState.{ThreadState}
use Rattle.melt_safepoint.proofs.Reporting.{NewSoFar, new_none, new_more, new_all}
use Rattle.melt_safepoint.proofs.thread.new_states.Goals as goal

pub loop-t-init : goal.loop-t-init
loop-t-init c = subst (λ (xs : List ThreadState). NewSoFar c.args.trace.now 0 xs 0) (sym c.in_ok-states.ensures.items)
    (new_none c.args.trace.now)

pub overflow_add-entries : goal.overflow_add-entries
overflow_add-entries c =
    omega (arith, c.loop-t.invariant.few, c.count.ensures.within, c.loop-t-test.true, c.threads-t-end.ensures.within)

pub loop-t-preserved : goal.loop-t-preserved
loop-t-preserved c =
    subst (λ (xs : List ThreadState). NewSoFar c.args.trace.now (c.loop-t.t + 1) xs (c.loop-t.entries + c.count.result))
    (sym c.in_ok-push.ensures.items)
    (new_more c.args.trace.now c.loop-t.t c.loop-t.entries c.count.result c.loop-t.states.items c.in_ok-new.field-0
    c.loop-t.invariant c.in_ok-new.ensures c.count.ensures.value c.count.ensures.within)

pub returns : goal.returns
returns c =
    new_all c.args.trace.now c.loop-t.t c.loop-t.entries c.loop-t.states.items
    (omega (arith, c.loop-t-test.false, c.loop-t.auto.t-end, c.threads-t-end.ensures.count))
    (omega (arith, c.loop-t.auto.t-end, c.threads-t-end.ensures.within)) c.loop-t.invariant
