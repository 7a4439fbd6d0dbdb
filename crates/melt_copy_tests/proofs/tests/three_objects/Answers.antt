use Rattle.std.proofs.Common.{◌≡◌, ◌∷◌, [], ℕ, List, refl, sym, subst, ap, ◌⊎◌}
use Rattle.melt_scion.specs.Heaps.{register_in}
use Rattle.melt_scion.specs.declared.registers.Registers.{Registers}
use Rattle.melt_copy_tests.proofs.Built.{heap_settled}
use Rattle.melt_copy_tests.proofs.Building.{three_formed, fourth_held}
use Rattle.melt_copy_tests.proofs.tests.three_objects.Goals as goal

pub returns-clause-formed : goal.returns-clause-formed
returns-clause-formed c =
    let first = c.header-first.ensures in
    let second = c.header-second.ensures in
    let third = c.header-third.ensures in
    let slot = c.encode_ref-slot.ensures in
    three_formed c.in_ok-heap.heap c.second_holds.result c.set-3.new.self (record {
      words = _;
      words_are = cc;
      globals = _;
      globals_are = ap (λ (word : ℕ). word ∷ []) c.encode_ref-global.ensures;
      built = c.in_ok-heap.ensures;
      unnamed = c.in_ok-addresses.addresses;
      names_one = c.set.new.self;
      names_two = c.set-2.new.self;
      none = c.in_ok-addresses.ensures;
      one_named = c.set.ensures;
      two_named = c.set-2.ensures;
      three_named = c.set-3.ensures;
      registers = λ t r. subst (λ (held : List Registers). (register_in held t r ≡ 0) ⊎ (register_in held t r ≡ 4))
          (sym c.second_holds.ensures) (fourth_held 4 t r);
    })

pub returns-clause-settled : goal.returns-clause-settled
returns-clause-settled c = heap_settled _ _ _ _ _ _ c.in_ok-heap.ensures refl
