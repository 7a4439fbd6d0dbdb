use Rattle.std.proofs.Common.{◌≡◌, ◌≢◌, ◌∙◌, rules, sym, ap, subst}
use Rattle.std.specs.Prelude.{Some}
use Rattle.melt_model.specs.declared.operations.Op.TheVariants.{Collect}
use Rattle.melt_epoch.specs.Mutators.{HasReader}
use Rattle.melt_epoch.specs.declared.mutator.Mutator.{Mutator}
use Rattle.melt_safepoint.specs.Modes.{CallsAgain}
use Rattle.melt_safepoint.specs.declared.thread.Mode.TheVariants.{Running}
use Rattle.melt_safepoint.specs.declared.thread.ThreadState.{ThreadState}
use Rattle.melt_pool.specs.Firsts.{CameTo, HasGone, first_for}
use Rattle.melt_pool.specs.Programs.{DueOnly, OwesSilent, Took, made_again, mode_again}
use Rattle.melt_pool.specs.declared.first.First.TheVariants.{Went}
use Rattle.melt_pool.proofs.Firsts.{has_gone, has_stayed}
use Rattle.melt_pool.proofs.Going.{called_thread, reader_stays}
use Rattle.melt_pool.proofs.first.make_first.Goals as goal

pub make_call-answer-requires-clause-no_collect : goal.make_call-answer-requires-clause-no_collect
make_call-answer-requires-clause-no_collect g c is =
    c.requires.calls (c.in-Some.is ∙ ap Some is)

pub returns-in-Went-clause-came : goal.returns-in-Went-clause-came
returns-in-Went-clause-came g c =
    let words = c.args.epoch.now.words in
    let heap = c.args.epoch.now.heap in
    let finish = c.args.epoch.now.end in
    let every = c.args.every in
    let read = g.R.RecordReader in
    let m = c.args.m.now in
    let n = c.make_call-answer.new.m in
    let s = c.args.state.now in
    let mid = c.make_again.new.self in
    let after = c.take_result.new.state in
    let op = c.in-Some.op in
    let answer = c.make_call-answer.result in
    let p = c.requires.reader in
    let q = c.make_call-answer.ensures.reader in
    let took = c.take_result.ensures in
    let next : s.op ≡ Some op = search rules in
    let other : op ≢ Collect = λ is. c.requires.calls (next ∙ ap Some is) in
    let went : first_for answer ≡ Went = sym c.first_of-first.ensures ∙ c.in-Went.is in
    let calls : CallsAgain s.mode = subst CallsAgain (sym c.requires.lacks) tt in
    let made : mid ≡ made_again s =
    c.make_again.ensures.again calls ∙ (λ i. record s { mode = mode_again (sym c.requires.lacks i) }) in
    subst (CameTo read.faults finish every words m c.take_result.new.m s after) (sym c.in-Went.is)
    (λ script works.
    subst (λ (x : Mutator _). HasGone read.faults finish every script words m x s after) (sym took.dropped)
    (has_gone read.image read.faults script words heap.scions finish m n s every p.reader q.reader after op answer went
    c.requires.lacks works next other c.make_call-answer.ensures.seated p.there q.there
    c.make_call-answer.ensures.called c.make_call-answer.ensures.count
    (subst (λ (x : ThreadState). Took x after answer) made took.took)
    (subst (λ (x : ThreadState). OwesSilent every x after) made took.owes)
    (subst (λ (x : ThreadState). DueOnly every x after) made took.due)))

pub returns-in-Went-clause-reader : goal.returns-in-Went-clause-reader
returns-in-Went-clause-reader g c =
    let words = c.args.epoch.now.words in
    subst (HasReader g.R.RecordReader.image words) (sym c.take_result.ensures.dropped)
    (reader_stays g.R.RecordReader.image words c.take_result.new.state.mode c.make_call-answer.new.m
    c.make_call-answer.ensures.reader)

pub returns-in-Went-clause-thread : goal.returns-in-Went-clause-thread
returns-in-Went-clause-thread g c =
    let read = g.R.RecordReader in
    let m = c.args.m.now in
    let n = c.make_call-answer.new.m in
    let p = c.requires.reader in
    let q = c.make_call-answer.ensures.reader in
    let works = c.requires.works in
    let same =
    called_thread read.image read.faults works.0 c.args.epoch.now.words c.args.epoch.now.heap.scions
    c.args.epoch.now.end m n (made_again c.args.state.now) p.reader q.reader c.take_result.new.state.mode c.in-Some.op
    c.make_call-answer.result works.1.seated c.make_call-answer.ensures.seated p.there q.there
    c.make_call-answer.ensures.called in
    subst (λ (x : Mutator _). x.thread ≡ m.thread) (sym c.take_result.ensures.dropped) same

pub returns-in_default-first : goal.returns-in_default-first
returns-in_default-first g c =
    let words = c.args.epoch.now.words in
    let heap = c.args.epoch.now.heap in
    let finish = c.args.epoch.now.end in
    let every = c.args.every in
    let read = g.R.RecordReader in
    let m = c.args.m.now in
    let n = c.make_call-answer.new.m in
    let s = c.args.state.now in
    let answer = c.make_call-answer.result in
    let p = c.requires.reader in
    let q = c.make_call-answer.ensures.reader in
    let works = c.requires.works in
    let next : s.op ≡ Some c.in-Some.op = search rules in
    record {
      came = subst (CameTo read.faults finish every words m n s s) (sym c.first_of-first.ensures)
          (has_stayed read.image read.faults works.0 words heap.scions finish m n s every p.reader q.reader c.in-Some.op
          answer (λ went. c.in_default-first.not-Went (c.first_of-first.ensures ∙ went)) works.1.seated
          c.make_call-answer.ensures.seated p.there q.there next c.make_call-answer.ensures.called
          c.make_call-answer.ensures.count c.make_call-answer.ensures.keeps);
      reader = q;
      thread =
          called_thread read.image read.faults works.0 words heap.scions finish m n (made_again s) p.reader q.reader
          Running c.in-Some.op answer works.1.seated c.make_call-answer.ensures.seated p.there q.there
          c.make_call-answer.ensures.called;
    }
