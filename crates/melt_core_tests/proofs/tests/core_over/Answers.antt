use Rattle.std.proofs.Common.{◌≡◌, ℕ, ◌^◌, ◌≤◌, Bool, true, false, [], subst, sym, arith}
use Rattle.std.specs.Option.{is_some}
use Rattle.std.specs.Prelude.{vec_capacity}
use Rattle.melt_scion.specs.Heaps.{no_homes_on}
use Rattle.melt_core.specs.Views.{Standing, room_in, view}
use Rattle.melt_core.specs.declared.machine.Core.{Core}
use Rattle.melt_core.specs.declared.machine.Rest.{Rest}
use Rattle.melt_core.proofs.Resting.{history_new, start_at_rest}
use Rattle.melt_core_tests.proofs.tests.core_over.Goals as goal

-- what has room for so many has it stored or not
room_for : (stored : Bool) (rest : Rest) (entries : ℕ) → entries ≤ 2 ^ 32 → entries ≤ vec_capacity rest.log
    → entries ≤ room_in stored rest
room_for true rest entries few room = room
room_for false rest entries few room = omega (arith, few)

pub returns-clause-stands : goal.returns-clause-stands
returns-clause-stands c =
    subst (λ (core : Core). Standing false no_homes_on (view core)) (sym c.begin.ensures)
    (start_at_rest false c.requires (omega arith) c.in_ok-heap.ensures c.in_ok-rest.ensures).stands

pub returns-clause-history : goal.returns-clause-history
returns-clause-history c =
    subst (λ (core : Core). (view core).log ≡ []) (sym c.begin.ensures)
    (history_new (is_some c.in_ok-heap.heap.names) c.in_ok-rest.rest c.in_ok-rest.ensures)

pub returns-clause-room : goal.returns-clause-room
returns-clause-room c =
    subst (λ (core : Core). 32 ≤ (view core).capacity) (sym c.begin.ensures)
    (room_for (is_some c.in_ok-heap.heap.names) c.in_ok-rest.rest 32 (omega arith) c.in_ok-rest.ensures.room)
