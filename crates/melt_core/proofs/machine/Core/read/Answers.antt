use Rattle.std.proofs.Common.{◌∙◌, ap}
use Rattle.std.specs.Prelude.{None}
use Rattle.melt_core.specs.Changed.{with_call, with_register}
use Rattle.melt_core.specs.Noted.{slot_named}
use Rattle.melt_core.specs.Views.{View, maps, state, view}
use Rattle.melt_core.specs.declared.answer.StepResult.TheVariants.{Answered}
use Rattle.melt_core.proofs.Noting.{found_named, place_slot}
use Rattle.melt_core.proofs.machine.Core.read.Goals as goal

pub returns : goal.returns
returns c = let v : View = view c.args.self.now in record {
  slot = slot_named (maps v) c.args.place;
  is_slot = place_slot (maps v) (state c.requires.place.0 v) c.args.place c.requires.place.1;
  answered = ap Answered (c.reply_for.ensures ∙ found_named v.names c.args.address c.requires.named);
  is = c.set_call.ensures
      ∙ ap (λ (x : View). with_call x c.args.thread None)
      (c.set_register.ensures
      ∙ ap (λ (x : View). with_register x c.args.thread c.args.dst c.args.address) c.note.ensures);
}
