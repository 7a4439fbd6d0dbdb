-- A run whose threads have all ended is left as it is.
use Rattle.std.proofs.Common.{refl, arith, inl, inr}
use Rattle.std.proofs.lemmas.Result.{err_from_is_err_and}
use Rattle.melt_safepoint.specs.Rows.{row_of}
use Rattle.melt_safepoint.proofs.Composing.{stops_paid}
use Rattle.melt_safepoint.proofs.Epochs.{runs_on}
use Rattle.melt_safepoint.proofs.Lends.{all_not_some, risen_same}
use Rattle.melt_safepoint.proofs.Losses.{counts_same}
use Rattle.melt_safepoint.proofs.run.Run.next_epoch.Goals as goal

pub returns-then-has_ended-clause-goes : goal.returns-then-has_ended-clause-goes
returns-then-has_ended-clause-goes g c = inl (c.has_ended.ensures.ended c.if-has_ended.true, refl)

pub returns-then-has_ended-clause-lost : goal.returns-then-has_ended-clause-lost
returns-then-has_ended-clause-lost g c =
    counts_same c.args.self.states.items c.args.self.states.items _ _ refl (omega arith)

pub returns-then-has_ended-clause-lends : goal.returns-then-has_ended-clause-lends
returns-then-has_ended-clause-lends g c n by = record { few = omega arith; rises = risen_same _ _ refl }

pub run_epoch-requires : goal.run_epoch-requires
run_epoch-requires g c κs =
    let stands = c.requires.stands in (
      (refl, tt),
      (
        c.requires.engine,
        (stands.0, stands.1, stands.2, (stands.3, c.requires.settled, c.requires.own)),
      ),
    )

pub returns-in_err-run-clause-stopped : goal.returns-in_err-run-clause-stopped
returns-in_err-run-clause-stopped g c =
    let exit = err_from_is_err_and c.from_residual.result c.from_residual.ensures.1 in
    rw (exit.1, exit.2)
    (stops_paid _ _ (row_of g.E.Machine.view c.args.self) _ (c.has_ended.ensures.goes c.if-has_ended.false)
    c.in_err-run.ensures.stopped)

pub returns-clause-goes : goal.returns-clause-goes
returns-clause-goes g c = inr (runs_on _ _ _ _ c.in_ok-run.ensures.ends)

pub returns-in_err-run-clause-idle : goal.returns-in_err-run-clause-idle
returns-in_err-run-clause-idle g c all =
    absurd (all_not_some c.args.self.states.items (c.has_ended.ensures.goes c.if-has_ended.false) all)

pub returns-clause-idle : goal.returns-clause-idle
returns-clause-idle g c all =
    absurd (all_not_some c.args.self.states.items (c.has_ended.ensures.goes c.if-has_ended.false) all)
