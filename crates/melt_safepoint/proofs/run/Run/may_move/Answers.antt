-- What does not fit has no room.
use Rattle.std.proofs.Common.{◌+◌, false, subst, arith, inl, inr}
use Rattle.std.proofs.lemmas.Bool.{cases_lt}
use Rattle.std.specs.Prelude.{IsTrue}
use Rattle.melt_safepoint.proofs.run.Run.may_move.Goals as goal

pub returns-then-forced-lt2-clause-none : goal.returns-then-forced-lt2-clause-none
returns-then-forced-lt2-clause-none g c = λ not. inr (λ disk stands held holds.
    elim (cases_lt c.args.self.now.words (held + c.args.need)) [
      | inl above ↦ above
      | inr within ↦ absurd (let yes : IsTrue c.may_fit.result =
          (c.may_fit.ensures disk stands held holds).1 (omega (arith, within)) in
          let wrong : IsTrue false = subst IsTrue not yes in cc)
    ])
