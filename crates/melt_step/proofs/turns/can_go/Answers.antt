-- The state that was got is that of the thread.
use Rattle.std.proofs.Common.{rules, ◌≡◌, ◌<◌, ◌≤◌, true, false, length, Some, sym, ◌∙◌, ap, subst}
use Rattle.std.proofs.Common.{arith}
use Rattle.std.proofs.lemmas.Option.{same_Some, slice_get-get_or, slice_get_within}
use Rattle.std.specs.Prelude.{slice_get}
use Rattle.melt_safepoint.specs.declared.thread.ThreadState.{ThreadState}
use Rattle.melt_safepoint.specs.Modes.{MayGo}
use Rattle.melt_step.proofs.turns.can_go.Goals as goal

pub returns-in-Some : goal.returns-in-Some
returns-in-Some c =
    let below : c.args.thread < length c.args.states.now = search rules in
    let here : slice_get c.args.states.now c.args.thread ≡ Some c.in-Some.state.now =
    slice_get-get_or c.args.states.now c.args.thread c.in-Some.state.now below
    ∙ ap Some (sym c.in-Some.ensures.lookup.1) in (
      λ yes. (c.in-Some.state.now, here, c.can_go.ensures.0 yes),
      λ goes. c.can_go.ensures.1 (subst (λ (x : ThreadState). MayGo x.mode)
          (same_Some goes.0 c.in-Some.state.now (sym goes.1 ∙ here)) goes.2),
    )

pub returns-in-None : goal.returns-in-None
returns-in-None c =
    let past : length c.args.states.now ≤ c.args.thread = search rules in (
      λ wrong. absurd (let no : false ≡ true = wrong in cc),
      λ goes. absurd (let within : c.args.thread < length c.args.states.now =
          slice_get_within c.args.states.now c.args.thread goes.0 goes.1 in omega (arith, within, past)),
    )
