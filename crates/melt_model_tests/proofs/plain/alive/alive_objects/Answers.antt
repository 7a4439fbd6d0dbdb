use Rattle.std.proofs.Common.{◌≡◌, ℕ, ◌+◌, [], ◌∷◌, ◌++◌, List, length, sym, subst, ap, ◌∙◌, arith, length-append}
use Rattle.std.specs.Prelude.{Contains}
use Rattle.melt_model.specs.Plain.{IsNext}
use Rattle.melt_model.proofs.AliveObjects.{Found, found_none, found_more, found_few, found_all}
use Rattle.melt_model_tests.proofs.plain.alive.alive_objects.Goals as goal
use Rattle.melt_model_tests.proofs.plain.alive.alive_objects.Goals.{In_ok-push}

-- with one more object they are alive still
more : (c : In_ok-push) → Found c.args.history.now c.args.registers.now
    (c.loop-object.objects.items ++ c.in-Some.object ∷ [])
more c =
    let same = c.deref.ensures.value in
    let one = subst (λ (objects : List ℕ). IsNext c.args.history.now c.args.registers.now objects c.in-Some.object
    × (Contains objects c.in-Some.object → ⊥)) same c.in-Some.ensures in
    found_more c.args.history.now c.args.registers.now c.loop-object.objects.items c.in-Some.object
    c.loop-object.invariant one.0 one.1

pub loop-object-init : goal.loop-object-init
loop-object-init c = subst (Found c.args.history.now c.args.registers.now) (sym c.new-objects.ensures.items)
    (found_none c.args.history.now c.args.registers.now)

pub loop-object-smaller : goal.loop-object-smaller
loop-object-smaller c =
    let few = found_few c.args.history.now c.args.registers.now (c.loop-object.objects.items ++ c.in-Some.object ∷ [])
    (more c) in
    let longer : length (c.loop-object.objects.items ++ c.in-Some.object ∷ [])
    ≡ length c.loop-object.objects.items + 1 = length-append c.loop-object.objects.items (c.in-Some.object ∷ []) in
    let items : length c.push.new.self.items ≡ length c.loop-object.objects.items + 1 =
    ap length c.in_ok-push.ensures.items ∙ longer in
    omega arith

pub loop-object-preserved : goal.loop-object-preserved
loop-object-preserved c = subst (Found c.args.history.now c.args.registers.now) (sym c.in_ok-push.ensures.items)
    (more c)

pub returns : goal.returns
returns c =
    found_all c.args.history.now c.args.registers.now c.loop-object.objects.items c.loop-object.invariant
    (subst (λ (objects : List ℕ). (n : ℕ) → IsNext c.args.history.now c.args.registers.now objects n
    → Contains objects n) c.deref.ensures.value c.in_default.ensures)
