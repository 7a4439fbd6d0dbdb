use Rattle.std.proofs.Common.{sym, subst, ◌*◌}
use Rattle.std.specs.Prelude.{None, Option}
use Rattle.melt_model.specs.declared.operations.Reply.TheVariants as reply
use Rattle.melt_core.specs.Advances.{AdvancesOver}
use Rattle.melt_core.specs.Answering.{entry}
use Rattle.melt_core.specs.Changed.{OnlyWords, noted, with_stage, with_call}
use Rattle.melt_core.specs.Stages.{StoresFrom}
use Rattle.melt_core.specs.declared.answer.StepResult.TheVariants.{Answered}
use Rattle.melt_core.specs.declared.call.Stage.{Stage}
use Rattle.melt_core.specs.Noted.{act_named, slot_named}
use Rattle.melt_core.specs.Views.{View, maps, stage_of, state, view}
use Rattle.melt_core.specs.declared.parts.Deed.TheVariants.{Write}
use Rattle.melt_core.specs.declared.parts.Touched.TheVariants.{Reference}
use Rattle.melt_core.proofs.Asked.{asks_over}
use Rattle.melt_core.proofs.Staged.{staged_stage}
use Rattle.melt_core.proofs.Words.{only_place}
use Rattle.melt_core.proofs.Noting.{place_slot}
use Rattle.melt_core.proofs.Writing.{store_advances, stores_at, written_again}
use Rattle.melt_core.proofs.machine.Core.store.Goals as goal

pub returns : goal.returns
returns c = λ stage stores may. record {
  over = λ disk stands.
      let v : View = view c.args.self.now in
      let u : View = with_stage v c.args.thread c.args.op stage in
      let asks = asks_over u c.args.thread c.args.op may disk stands in
      let from : StoresFrom (stage_of u c.args.thread) c.args.place c.args.src =
      subst (λ (g : Option Stage). StoresFrom g c.args.place c.args.src)
      (sym (staged_stage v c.args.thread c.args.op stage asks)) stores in
      let m : View = view c.set_word_in.new.self in
      let only : OnlyWords v m = c.set_word_in.ensures.only in
      let changes = only_place disk v m c.args.place (4 * c.register-address.result) c.held_word.result only
      c.held_word.ensures (c.set_word_in.ensures.changes disk) in
      subst (λ (w : View). AdvancesOver disk u w c.args.thread c.args.op (Answered reply.Done)) (sym c.set_call.ensures)
      (subst (λ (n : View). AdvancesOver disk u (with_call n c.args.thread None) c.args.thread c.args.op
      (Answered reply.Done))
      (sym c.note.ensures)
      (subst (λ (x : View). AdvancesOver disk u
      (with_call (noted x (entry c.args.thread (act_named (maps x)
      (Write (Reference c.args.place c.register-address.result))))) c.args.thread None)
      c.args.thread c.args.op (Answered reply.Done)) (sym only)
      (subst (λ (w : View). AdvancesOver disk u w c.args.thread c.args.op (Answered reply.Done))
      (written_again v m.space m.globals c.args.thread c.args.op stage _)
      (store_advances m.space m.globals c.args.place (slot_named (maps v) c.args.place) c.args.src asks from
      c.register-address.ensures
      (place_slot (maps v) (state disk v) c.args.place
      (stores_at disk u c.args.thread c.args.op c.args.place c.args.src asks from)) changes))));
}
