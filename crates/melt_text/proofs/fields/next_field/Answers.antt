use Rattle.std.proofs.Common.{sym, refl}
use Rattle.melt_text.proofs.Cuts.{first_field_at, only_field, no_field}
use Rattle.melt_text.proofs.fields.next_field.Goals as goal

pub returns-in_default : goal.returns-in_default
returns-in_default c = no_field c.args.bytes.now (sym c.in_default.ensures)

pub returns-in-Some-place : goal.returns-in-Some-place
returns-in-Some-place c = first_field_at c.args.bytes.now c.in-Some.start c.in-Some-place.end (sym c.in-Some.ensures) _
    refl (sym c.in-Some-place.ensures)

pub returns-in-None : goal.returns-in-None
returns-in-None c = only_field c.args.bytes.now c.in-Some.start (sym c.in-Some.ensures) _ refl (sym c.in-None.ensures)
