-- The events are those of `poll`, `claim_region`, `store_zero` and `publish`.
use Rattle.std.proofs.Common.{◌≡◌, ℕ, ◌+◌, ◌-◌, ◌<◌, sym, ◌∙◌, ap, subst, arith}
use Rattle.std.proofs.lemmas.List.{get_or-set_same}
use Rattle.std.specs.Prelude.{Option, None, Some}
use Rattle.melt_word.specs.Words.{cost_of}
use Rattle.melt_space.specs.Space.{SpaceWords}
use Rattle.melt_core.specs.Changed.{with_call}
use Rattle.melt_core.specs.declared.call.Call.{Call}
use Rattle.melt_core.specs.declared.call.Stage.{Stage}
use Rattle.melt_core.specs.declared.call.Stage.TheVariants.{Claimed}
use Rattle.melt_core.specs.declared.call.Task.TheVariants.{Make}
use Rattle.melt_core.specs.Views.{View, call_of, stage_in, stage_of, view}
use Rattle.melt_core.proofs.Asked.{call_at}
use Rattle.melt_core.proofs.AtOnce.{MayMakeNextEvent, call_within, claimed_well, first_on, last_on, made_none, making}
use Rattle.melt_core.proofs.AtOnce.{may_on}
use Rattle.melt_core.proofs.AtOnce.{next_on, polled, zero_on, zero_word}
use Rattle.melt_core.proofs.machine.Core.make_at_once.Goals as goal
use Rattle.melt_core.proofs.machine.Core.make_at_once.Goals.{After-claim_region, After-set_stage}

pub claim_region-requires-clause-asks : goal.claim_region-requires-clause-asks
claim_region-requires-clause-asks c =
    may_on (view c.args.self.now) (view c.poll.new.self) c.args.thread c.args.op c.requires.asks c.in-Going.ensures

pub claim_region-requires-clause-stage : goal.claim_region-requires-clause-stage
claim_region-requires-clause-stage c =
    polled (view c.args.self.now) (view c.poll.new.self) c.args.thread c.args.op (Make c.args.dst c.args.shape)
    c.requires.asks c.requires.first c.requires.task c.in-Going.ensures

-- after the second event
claims : (c : After-claim_region) → MayMakeNextEvent (view c.args.self.now) (view c.claim_region.new.self) c.args.thread
    c.args.op
claims c =
    next_on (view c.args.self.now) (view c.poll.new.self) (view c.claim_region.new.self) c.args.thread c.args.op
    (first_on (view c.args.self.now) (view c.poll.new.self) c.args.thread c.args.op c.requires.asks
    c.in-Going.ensures) c.claim_region.ensures.moves

pub returns-in_default-claim_region : goal.returns-in_default-claim_region
returns-in_default-claim_region c = (claims (goal.at.returns-in_default-claim_region c).After-claim_region).on

pub loop-stored-init : goal.loop-stored-init
loop-stored-init c =
    let goes = claims (goal.at.loop-stored-init c).After-claim_region in
    let at = c.in-Some.ensures.claimed in (
      made_none goes at,
      call_at goes.may.disk (view c.claim_region.new.self) c.args.thread c.args.op
          (Claimed c.in-Some.address c.args.shape 0 c.args.dst) goes.may.asks at,
    )

pub set_word-requires : goal.set_word-requires
set_word-requires c =
    let m : View = view c.loop-stored.self in
    zero_word m c.in-Some.address c.loop-stored.stored c.args.dst c.args.shape c.loop-stored.invariant.0
    (call_within m c.args.thread _ c.loop-stored.invariant.1) (omega (arith, c.loop-stored-test.true, c.cost-last.ensures))

pub loop-stored-preserved : goal.loop-stored-preserved
loop-stored-preserved c =
    let m : View = view c.loop-stored.self in
    let space : SpaceWords = (view c.set_word.new.self).space in
    let few : c.loop-stored.stored + 1 < cost_of c.args.shape =
    omega (arith, c.loop-stored-test.true, c.cost-last.ensures) in (
      subst (λ (w : View). MayMakeNextEvent (view c.args.self.now) (with_call w c.args.thread
          (Some (making c.args.op c.in-Some.address c.args.shape (c.loop-stored.stored + 1) c.args.dst))) c.args.thread
          c.args.op) (sym c.set_word.ensures.only)
          (zero_on m space c.in-Some.address c.loop-stored.stored c.args.dst c.args.shape c.loop-stored.invariant.0
          (call_within m c.args.thread _ c.loop-stored.invariant.1) few c.set_word.ensures.sets),
      subst (λ (w : View). call_of w c.args.thread ≡ Some (making c.args.op c.in-Some.address c.args.shape 0 c.args.dst))
          (sym c.set_word.ensures.only) c.loop-stored.invariant.1,
    )

pub set_stage-requires-clause-call : goal.set_stage-requires-clause-call
set_stage-requires-clause-call c =
    (Claimed c.in-Some.address c.args.shape 0 c.args.dst, c.loop-stored.invariant.1)

-- the stage after the last of these words
staged : (c : After-set_stage) → (MayMakeNextEvent (view c.args.self.now) (view c.set_stage.new.self) c.args.thread
    c.args.op)
    × (stage_of (view c.set_stage.new.self) c.args.thread
    ≡ Some (Claimed c.in-Some.address c.args.shape c.loop-stored.stored c.args.dst))
staged c =
    let m : View = view c.loop-stored.self in
    let call : Option Call = Some (making c.args.op c.in-Some.address c.args.shape c.loop-stored.stored c.args.dst) in
    let last : c.cost-last.result - 1 ≡ c.loop-stored.stored =
    omega (arith, c.loop-stored-test.false, c.loop-stored.auto.stored-end) in
    let is : view c.set_stage.new.self ≡ with_call m c.args.thread call =
    c.set_stage.ensures
    ∙ ap (λ (g : Stage). with_call m c.args.thread (Some (record { op = c.args.op; stage = g })))
    (c.stage.ensures ∙ ap (λ (n : ℕ). Claimed c.in-Some.address c.args.shape n c.args.dst) last) in (
      subst (λ (w : View). MayMakeNextEvent (view c.args.self.now) w c.args.thread c.args.op) (sym is)
          c.loop-stored.invariant.0,
      ap (λ (w : View). stage_of w c.args.thread) is
          ∙ ap stage_in (get_or-set_same m.calls c.args.thread call None
          (call_within m c.args.thread _ c.loop-stored.invariant.1)),
    )

pub publish-requires : goal.publish-requires
publish-requires c =
    let staged = staged (goal.at.publish-requires c).After-set_stage in
    let last : c.loop-stored.stored ≡ c.cost-last.result - 1 =
    omega (arith, c.loop-stored-test.false, c.loop-stored.auto.stored-end) in
    record {
      asks = staged.0.may;
      stage = staged.1 ∙ ap (λ (n : ℕ). Some (Claimed c.in-Some.address c.args.shape n c.args.dst)) last;
      all = omega (arith, c.cost-last.ensures);
    }

pub returns : goal.returns
returns c =
    let staged = staged (goal.at.returns c).After-set_stage in
    last_on staged.0 staged.1 (claimed_well c.in-Some.address c.args.shape c.loop-stored.stored c.args.dst)
    c.publish.ensures
