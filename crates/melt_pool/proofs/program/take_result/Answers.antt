use Rattle.std.proofs.Common.{sym, subst}
use Rattle.melt_pool.specs.Programs.{DueOnly, OwesSilent}
use Rattle.melt_pool.proofs.Onward.{refusal_due, reply_due}
use Rattle.melt_pool.proofs.Owing.{refusal_owes, reply_owes}
use Rattle.melt_pool.proofs.program.take_result.Goals as goal
use Rattle.melt_pool.proofs.program.take_result.Goals.{in-Ok, in-Err}

pub returns-clause-owes : goal.returns-clause-owes
returns-clause-owes g c =
    let s = c.args.state.now in
    let every = c.args.every in
    elim c.match-answer.branch [
      | in-Ok w ↦
          subst (OwesSilent every s) (sym w.state-is)
          (reply_owes every s w.take_reply.new.self w.in-Ok.reply c.requires.runs w.take_reply.ensures.due
          w.take_reply.ensures.takes)
      | in-Err w ↦
          refusal_owes every s c.match-answer.state w.in-Err.refusal w.mode_after-state.result c.requires.runs
          w.mode_after-state.ensures w.state-is
    ]

pub returns-clause-due : goal.returns-clause-due
returns-clause-due g c =
    let s = c.args.state.now in
    let every = c.args.every in
    elim c.match-answer.branch [
      | in-Ok w ↦
          subst (DueOnly every s) (sym w.state-is)
          (reply_due every s w.take_reply.new.self w.in-Ok.reply w.take_reply.ensures.due w.take_reply.ensures.takes)
      | in-Err w ↦
          refusal_due every s c.match-answer.state w.in-Err.refusal w.mode_after-state.result c.requires.runs
          w.mode_after-state.ensures w.state-is
    ]
