use Rattle.std.proofs.Common.{◌≡◌, ◌+◌, sym, ◌∙◌, subst, arith}
use Rattle.melt_core.specs.Advances.{Advances, IsDamage}
use Rattle.melt_core.specs.declared.answer.StepResult.TheVariants.{Going}
use Rattle.melt_core.specs.Changed.{with_call}
use Rattle.melt_core.specs.Views.{View, view}
use Rattle.melt_core.proofs.Recorded.{rest_small, buffer_size, front_size, begins_with, head_fault, rest_damaged}
use Rattle.melt_core.proofs.Recorded.{rest_is_damage, rest_advances, rest_read, is_damaged}
use Rattle.melt_core.proofs.machine.Core.read_rest.Goals as goal

pub slice_bounds-record-end : goal.slice_bounds-record-end
slice_bounds-record-end g c =
    let v : View = view c.args.self.now in
    omega (
      arith,
      c.from.ensures,
      c.from-2.ensures,
      rest_small c.args.end v c.args.thread c.args.op c.args.search c.args.shape c.requires.asks c.requires.stage,
      buffer_size c.args.end v c.args.thread c.args.op c.index.result.now c.requires.asks c.index.ensures,
    )

pub slice_bounds-words-end : goal.slice_bounds-words-end
slice_bounds-words-end g c =
    sym (front_size c.requires.asks c.requires.stage c.index.ensures (omega (arith, c.from.ensures, c.from-2.ensures)))

pub returns-then-is_err-clause-advances : goal.returns-then-is_err-clause-advances
returns-then-is_err-clause-advances g c =
    let v : View = view c.args.self.now in
    let image = g.R.RecordReader.image c.args.reader.now in
    subst (λ (w : View). Advances c.args.end image v w c.args.thread c.args.op c.lose.result)
    (sym c.lose.ensures.over)
    (subst (Advances c.args.end image v (with_call v c.args.thread _) c.args.thread c.args.op)
    (sym c.lose.ensures.refused)
    (head_fault image c.requires.asks c.requires.stage))

pub decode_rest-requires-clause-words : goal.decode_rest-requires-clause-words
decode_rest-requires-clause-words g c =
    let whole : c.from.result + c.from-2.result ≡ c.args.shape.refs + c.args.shape.nums =
    omega (arith, c.from.ensures, c.from-2.ensures) in
    c.read_at.auto.words
    ∙ (front_size c.requires.asks c.requires.stage c.index.ensures whole
    ∙ whole)

pub returns-in-Err-clause-advances : goal.returns-in-Err-clause-advances
returns-in-Err-clause-advances g c =
    let v : View = view c.args.self.now in
    let image = g.R.RecordReader.image c.args.reader.now in
    subst (λ (w : View). Advances c.args.end image v w c.args.thread c.args.op c.lose-in-Err.result)
    (sym c.lose-in-Err.ensures.over)
    (subst (Advances c.args.end image v (with_call v c.args.thread _) c.args.thread c.args.op)
    (sym c.lose-in-Err.ensures.refused)
    (rest_damaged c.args.end image v c.args.thread c.args.op c.args.search c.args.shape c.read_at.new.words
    (rest_read image c.read_at.new.words c.read_at.result c.requires.asks c.requires.stage c.index.ensures
    (omega (arith, c.from.ensures, c.from-2.ensures)) c.read_at.ensures.words (sym c.is_err.ensures.value)
    c.if-is_err.false) c.in-Err.damaged c.in-Err.ensures.err))

pub returns-in-Err-clause-damage : goal.returns-in-Err-clause-damage
returns-in-Err-clause-damage g c = λ damaged is.
    let v : View = view c.args.self.now in
    let image = g.R.RecordReader.image c.args.reader.now in
    subst (IsDamage image c.args.end v c.args.thread)
    (is_damaged c.lose-in-Err.result c.in-Err.damaged damaged c.lose-in-Err.ensures.refused is)
    (rest_is_damage c.args.end image v c.args.thread c.args.op c.args.search c.args.shape c.read_at.new.words
    (rest_read image c.read_at.new.words c.read_at.result c.requires.asks c.requires.stage c.index.ensures
    (omega (arith, c.from.ensures, c.from-2.ensures)) c.read_at.ensures.words (sym c.is_err.ensures.value)
    c.if-is_err.false) c.in-Err.damaged c.in-Err.ensures.err)

pub returns-clause-advances : goal.returns-clause-advances
returns-clause-advances g c =
    let v : View = view c.args.self.now in
    let image = g.R.RecordReader.image c.args.reader.now in
    let whole : c.from.result + c.from-2.result ≡ c.args.shape.refs + c.args.shape.nums =
    omega (arith, c.from.ensures, c.from-2.ensures) in
    subst (λ (w : View). Advances c.args.end image v w c.args.thread c.args.op Going) (sym c.set_stage.ensures)
    (rest_advances c.args.end image v c.args.thread c.args.op c.args.search c.args.shape c.read_at.new.words
    (rest_read image c.read_at.new.words c.read_at.result c.requires.asks c.requires.stage c.index.ensures whole
    c.read_at.ensures.words (sym c.is_err.ensures.value) c.if-is_err.false)
    _
    (begins_with c.read_at.new.words c.index.result.now (c.args.shape.refs + c.args.shape.nums)
    (c.from.result + c.from-2.result)
    (buffer_size c.args.end v c.args.thread c.args.op c.index.result.now c.requires.asks c.index.ensures)
    (c.read_at.auto.words
    ∙ (front_size c.requires.asks c.requires.stage c.index.ensures whole ∙ whole))
    whole
    (rest_small c.args.end v c.args.thread c.args.op c.args.search c.args.shape c.requires.asks c.requires.stage))
    c.in_default.ensures.ok)
