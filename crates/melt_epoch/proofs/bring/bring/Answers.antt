use Rattle.std.proofs.Common.{rules, ◌≡◌, ℕ, ◌+◌, ◌*◌, Ok, Err, sym, ◌∙◌, ap, subst}
use Rattle.std.proofs.lemmas.Result.{err_from_is_err_and}
use Rattle.melt_rule.specs.Seats.{knows_of}
use Rattle.melt_rule.specs.declared.began.Began.{Began}
use Rattle.melt_epoch.proofs.Bringing.{missed_brings, sought_full}
use Rattle.melt_epoch.specs.Bringing.{Brings, Seeks}
use Rattle.melt_epoch.specs.declared.bring.Sought.{Sought}
use Rattle.melt_epoch.proofs.bring.bring.Goals as goal

pub returns-in-Missed-clause-brings : goal.returns-in-Missed-clause-brings
returns-in-Missed-clause-brings g c =
    let words = c.args.words.now in
    let image = g.R.RecordReader.image c.args.reader.now in
    let v = knows_of c.args.seat.now in
    let w = knows_of c.seek.new.seat in
    let u = knows_of c.bring_missed.new.seat in
    let before = g.R.RecordReader.faults c.args.reader.now in
    let after = g.R.RecordReader.faults c.bring_missed.new.reader in
    let forwards = c.len-forwards.result in
    let same : forwards ≡ words.start.began.forwards = search rules in
    subst (λ (n : ℕ). Brings words.start.began.told image c.args.heap.now.scions c.args.end before after
    v u c.args.search (2 * n + 130) c.bring_missed.result) same
    (missed_brings words.start.began.told image c.args.heap.now.scions c.args.end before after u c.args.search forwards
    c.bring_missed.result c.requires.first
    (subst (λ (s : Sought). Seeks v w c.args.search forwards (Ok s)) c.in-Missed.is c.in_ok-sought.ensures.seeks)
    c.bring_missed.ensures.misses)

pub returns-in_err-sought-clause-brings : goal.returns-in_err-sought-clause-brings
returns-in_err-sought-clause-brings g c =
    let words = c.args.words.now in
    let image = g.R.RecordReader.image c.args.reader.now in
    let faults = g.R.RecordReader.faults c.args.reader.now in
    let v = knows_of c.args.seat.now in
    let u = knows_of c.seek.new.seat in
    let forwards = c.len-forwards.result in
    let same : forwards ≡ words.start.began.forwards = search rules in
    let began : words.start.began.forwards ≡ v.began.forwards =
    ap (λ (b : Began). b.forwards) (sym c.requires.seat.began) in
    let exit = err_from_is_err_and c.from_residual.result c.from_residual.ensures.1 in
    rw (exit.1, exit.2)
    (subst (λ (n : ℕ). Brings words.start.began.told image c.args.heap.now.scions c.args.end faults faults
    v u c.args.search (2 * n + 130) (Err c.in_err-sought.field-0.0)) same
    (sought_full words.start.began.told image c.args.heap.now.scions c.args.end faults faults v u c.args.search
    c.in_err-sought.field-0.0 c.requires.first (same ∙ began) c.in_err-sought.ensures.seeks))
