-- The thread was found by one of the two searches, and is the next one where no line is left.
use Rattle.std.proofs.Common.{refl, inl, inr}
use Rattle.melt_step.proofs.turns.Turns.next.Goals as goal
use Rattle.melt_step.proofs.turns.Turns.next.Goals.{in-Some, in-None+in-Some-first_from}

pub returns-clause-goes : goal.returns-clause-goes
returns-clause-goes c = elim c.match-first_from.branch [
  | in-Some w ↦ rw w.first-is w.in-Some.ensures.goes
  | in-None+in-Some-first_from w ↦ rw w.first-is w.in-Some-first_from.ensures.goes
]

pub returns-clause-given : goal.returns-clause-given
returns-clause-given c = inr (record {
  no_line = c.in_default.ensures.none;
  goes = returns-clause-goes c;
  first = elim c.match-first_from.branch [
    | in-Some w ↦ inl (rw w.first-is w.in-Some.ensures.first)
    | in-None+in-Some-first_from w ↦ inr (
      (λ t from below goes. w.in-None.ensures.none t goes.0 from goes.1 goes.2),
      rw w.first-is w.in-Some-first_from.ensures.first.1,
    )
  ];
  turn = refl;
  line = c.in_default.ensures.over;
  none_left = c.in_default.ensures.none_left;
})
