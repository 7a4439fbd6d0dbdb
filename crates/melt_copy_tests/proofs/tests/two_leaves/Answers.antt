use Rattle.std.proofs.Common.{List, ◌∷◌, [], refl}
use Rattle.melt_scion.specs.declared.registers.Registers.{Registers}
use Rattle.melt_copy_tests.proofs.Built.{heap_settled}
use Rattle.melt_copy_tests.proofs.Building.{no_registers, none_held}
use Rattle.melt_copy_tests.proofs.BuildingScion.{scion_formed}
use Rattle.melt_copy_tests.proofs.tests.two_leaves.Goals as goal

pub returns-clause-formed : goal.returns-clause-formed
returns-clause-formed c =
    let held : List Registers = no_registers ∷ [] in
    let leaf = c.header-leaf.ensures in
    let home = c.encode_home.ensures in
    scion_formed c.in_ok-heap.heap c.add-scion.new.self held c.set.new.self c.add-scion.result (record {
      words = _;
      words_are = cc;
      built = c.in_ok-heap.ensures;
      unnamed = c.in_ok-addresses.addresses;
      none = c.in_ok-addresses.ensures;
      named = c.set.ensures;
      adds = c.add-scion.ensures.adds;
      is_table = c.add-scion.ensures.table;
      registers = none_held;
    })

pub returns-clause-settled : goal.returns-clause-settled
returns-clause-settled c = heap_settled _ _ _ _ _ c.in_ok-heap.heap c.in_ok-heap.ensures refl
