-- The parts of a new rest, each of its size.
use Rattle.std.proofs.Common.{rules, refl, ◌≡◌}
use Rattle.std.specs.Prelude.{Option, None, Some}
use Rattle.std.proofs.lemmas.List.Elements.{same_from_all_zip}
use Rattle.melt_core.specs.declared.call.Call.{Call}
use Rattle.melt_core.proofs.machine.Rest.new.Goals as goal

-- no call is no clone of some call
none_is : (IsClone : Option Call → Type 0) → ((c : Call) → IsClone (Some c) → ⊥) → (y : Option Call) → IsClone y
    → y ≡ None
none_is IsClone never None is = refl
none_is IsClone never (Some c) is = absurd (never c is)

pub returns : goal.returns
returns c = record {
  held = search rules;
  calls = c.in_ok-vec-2.ensures.items_if_clones_equal (none_is _ (λ d is. is));
  records = c.in_ok-vec-3.ensures.items_if_clones_equal (λ y zips. same_from_all_zip _ _ _ zips.whole (λ a b is. is));
  history = search rules;
  shadow_log = c.pick.ensures;
  room = search rules;
  made = refl;
}
