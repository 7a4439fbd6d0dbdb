-- Registers that tests begin with.
use Rattle.std.specs.Prelude.{ℕ, List, [], ◌∷◌, replicate}
use Rattle.melt_scion.specs.declared.registers.Registers.{Registers}

-- those of one thread, of which the third holds what is at an address
abbrev pub third_holds : ℕ → List Registers
third_holds address = record { regs = 0 ∷ 0 ∷ address ∷ replicate 13 0 } ∷ []
