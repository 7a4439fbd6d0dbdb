use Rattle.std.proofs.Common.{◌≡◌, ◌<◌, ℕ, length, get_or}
use Rattle.melt_scion.specs.declared.registers.Registers.{Registers}
use Rattle.melt_safepoint.proofs.collector.count_all_registers.Given as goal

abbrev pub invariant-loop-registers : goal.invariant-loop-registers
invariant-loop-registers l = (k : ℕ) (d : Registers) → k < l.registers-index → length (get_or l.all k d).regs ≡ 16
