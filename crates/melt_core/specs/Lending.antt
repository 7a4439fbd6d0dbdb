-- The registers of a rest, lent.
use Rattle.std.specs.Prelude.{List}
use Rattle.std.specs.Borrow.{Lends, MutBor, Fml, Array}
use Rattle.std.specs.Vec.{with_items}
use Rattle.melt_scion.specs.declared.registers.Registers.{Registers}
use Rattle.melt_scion.specs.contracts.registers.Registers as registers
use Rattle.melt_core.specs.declared.machine.Rest.{Rest}
use Rattle.melt_core.specs.contracts.machine.Rest.{the_row}

-- the rest with these registers
abbrev pub with_held : Rest → List Registers → Rest
with_held rest held = record rest { held = with_items rest.held held }

-- the rest ends with the last registers after the reference
abbrev pub LendsHeld : MutBor Rest → MutBor (List Registers) → Fml
LendsHeld rest held = Lends the_row (Array registers.the_row 0) rest held (with_held rest.now)
