use Rattle.std.proofs.Common.{ap, refl, ◌∙◌}
use Rattle.std.proofs.lemmas.Result.{IfOk-weaker}
use Rattle.melt_trace.specs.declared.error.TraceError.{TraceError}
use Rattle.melt_top.specs.Text.{refused_text}
use Rattle.melt_top.proofs.TopLaws.{read_a_front, read_failed, too_long}
use Rattle.melt_top.proofs.top.input_answer.Goals as goal

pub returns-in-Err-Fault-clause-due : goal.returns-in-Err-Fault-clause-due
returns-in-Err-Fault-clause-due g c =
    let f = c.in-Err-Fault.ensures.front in
    let rose = c.in-Err-Fault.ensures.fault (cc) in
    IfOk-weaker c.line.result _ _ (λ answer h. read_failed c.args.way c.args.run _ f.0 f.1 f.2 rose
    (record { words = refl; faults = refl; read_faults = refl; lends = refl; writes = refl }) h.0 h.1) c.line.ensures

pub returns-in-Err-TooLong-clause-due : goal.returns-in-Err-TooLong-clause-due
returns-in-Err-TooLong-clause-due g c =
    let f = c.in-Err-TooLong.ensures.front in
    let told = ap (λ (error : TraceError). refused_text error.line error.reason) c.too_long.ensures in
    let long = f.3.0 (cc) in
    IfOk-weaker c.refused.result _ _ (λ answer h. too_long c.args.way c.args.run _ long f.2
    (record { words = refl; faults = refl; read_faults = refl; lends = refl; writes = refl }) h.0 (h.1 ∙ told)) c.refused.ensures

pub returns-in-Ok-clause-read : goal.returns-in-Ok-clause-read
returns-in-Ok-clause-read g c =
    let f = c.in-Ok.ensures.front in
    read_a_front _ f.0 f.1 f.2

pub returns-in-Err-Fault-clause-read : goal.returns-in-Err-Fault-clause-read
returns-in-Err-Fault-clause-read g c =
    let f = c.in-Err-Fault.ensures.front in
    read_a_front _ f.0 f.1 f.2

pub returns-in-Err-TooLong-clause-read : goal.returns-in-Err-TooLong-clause-read
returns-in-Err-TooLong-clause-read g c =
    let f = c.in-Err-TooLong.ensures.front in
    read_a_front _ f.0 f.1 f.2

pub returns-in-Err-NoMemory-clause-read : goal.returns-in-Err-NoMemory-clause-read
returns-in-Err-NoMemory-clause-read g c =
    let f = c.in-Err-NoMemory.ensures.front in
    read_a_front _ f.0 f.1 f.2
