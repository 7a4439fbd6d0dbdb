use Rattle.std.proofs.Common.{◌≡◌, ℕ, ◌+◌, length, sym, ◌∙◌, ap, subst, arith, ◌<◌}
use Rattle.std.specs.Prelude.{None}
use Rattle.melt_model.specs.declared.operations.Reply.TheVariants as reply
use Rattle.melt_core.specs.Advances.{AdvancesOver}
use Rattle.melt_model.specs.declared.history.Act.TheVariants.{Make}
use Rattle.melt_scion.specs.Changes.{NameAppears}
use Rattle.melt_core.specs.Answering.{entry}
use Rattle.melt_core.specs.Changed.{noted, with_call, with_register}
use Rattle.melt_core.specs.declared.answer.StepResult.TheVariants.{Answered}
use Rattle.melt_core.specs.Views.{View, maps, numbers_of, view}
use Rattle.melt_core.proofs.Asked.{asks_over}
use Rattle.melt_core.proofs.Making.{made_few, publish_advances}
use Rattle.melt_core.proofs.machine.Core.publish.Goals as goal
use Rattle.melt_core.proofs.machine.Core.publish.Goals.{After-name}

-- naming the object changes no count
named_view : (c : After-name) → view c.name.new.self
    ≡ record (view c.args.self.now) {
      space = (view c.set_word.new.self).space;
      names = (view c.name.new.self).names;
    }
named_view c =
    c.name.ensures.only
    ∙ ap (λ (w : View). record w { names = (view c.name.new.self).names }) c.set_word.ensures.only

pub overflow_cast-number : goal.overflow_cast-number
overflow_cast-number c =
    let disk = c.requires.asks.disk in
    let few : (view c.args.self.now).made < 4294967296 =
    made_few disk (view c.args.self.now) c.args.thread c.args.op c.requires.asks.asks in
    record {
      fits = subst (λ (n : ℕ). n < 4294967296) (sym (ap (λ (w : View). w.made) c.set_word.ensures.only)) few;
    }

pub overflow_add-self : goal.overflow_add-self
overflow_add-self c =
    let disk = c.requires.asks.disk in
    let few : (view c.args.self.now).made < 4294967296 =
    made_few disk (view c.args.self.now) c.args.thread c.args.op c.requires.asks.asks in
    let same : (view c.name.new.self).made ≡ (view c.args.self.now).made =
    ap (λ (w : View). w.made) (named_view c) in
    record { fits = omega (arith, few, same) }

pub returns : goal.returns
returns c = record {
  over = λ disk stands.
      let asks = asks_over (view c.args.self.now) c.args.thread c.args.op c.requires.asks disk stands in
      let v : View = view c.args.self.now in
      let at = (goal.at.returns c).After-name in
      subst (λ (w : View). AdvancesOver disk v w c.args.thread c.args.op (Answered reply.Done)) (sym c.set_call.ensures)
      (subst (λ (w : View). AdvancesOver disk v (with_call w c.args.thread None) c.args.thread c.args.op
      (Answered reply.Done))
      (sym c.set_register.ensures)
      (subst (λ (w : View). AdvancesOver disk v
      (with_call (with_register w c.args.thread c.args.claim.dst c.args.claim.address) c.args.thread None) c.args.thread
      c.args.op (Answered reply.Done)) (sym c.note.ensures)
      (subst (λ (w : View). AdvancesOver disk v
      (with_call (with_register (noted (record w { made = w.made + 1 })
      (entry c.args.thread (Make c.args.claim.shape.refs c.args.claim.shape.nums))) c.args.thread c.args.claim.dst
      c.args.claim.address) c.args.thread None) c.args.thread c.args.op (Answered reply.Done)) (sym (named_view at))
      (publish_advances disk (record {
        asks = asks;
        at = c.requires.stage;
        all = c.requires.all;
        header = c.encode_header.ensures;
        sets = c.set_word.ensures.sets;
        named = c.name.ensures.named;
        size = c.name.ensures.size ∙ ap (λ (w : View). length (numbers_of w.names)) c.set_word.ensures.only;
        appears = subst (λ (w : View). NameAppears (maps w) (maps (view c.name.new.self)) c.args.claim.address w.made)
            c.set_word.ensures.only c.name.ensures.appears;
      })))));
}
