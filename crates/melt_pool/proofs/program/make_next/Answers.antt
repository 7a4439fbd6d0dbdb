use Rattle.std.proofs.Common.{◌≡◌, ◌≢◌, rules, sym, ap, subst, true}
use Rattle.std.specs.Prelude.{Some}
use Rattle.melt_model.specs.declared.operations.Op.TheVariants.{Collect}
use Rattle.melt_rule.specs.Rule.{has_cause}
use Rattle.melt_epoch.specs.Ends.{view_of}
use Rattle.melt_epoch.specs.Mutators.{HasReader}
use Rattle.melt_epoch.specs.declared.mutator.Mutator.{Mutator}
use Rattle.melt_safepoint.specs.Modes.{owes}
use Rattle.melt_safepoint.specs.declared.thread.Mode.TheVariants.{Collecting, Running, Silent}
use Rattle.melt_safepoint.specs.declared.thread.ThreadState.{ThreadState}
use Rattle.melt_pool.specs.Programs.{ThreadWentOn, HasEndedWell, Works}
use Rattle.melt_pool.proofs.Going.{asked_caused, asked_goes, asked_works, called_caused, called_ends, called_goes}
use Rattle.melt_pool.proofs.Going.{called_nearer, called_thread, called_works, reader_stays}
use Rattle.melt_pool.proofs.Onward.{collecting_few, silent_few}
use Rattle.melt_pool.proofs.Owing.{due_owes, runs_some}
use Rattle.melt_pool.proofs.program.make_next.Goals as goal
use Rattle.melt_pool.proofs.program.make_next.Goals.{in_default-via-in-Running+in_default}
use Rattle.melt_pool.proofs.program.make_next.Goals.{in_default-via-in_default}

pub returns-in-Running-Some-Collect-clause-works : goal.returns-in-Running-Some-Collect-clause-works
returns-in-Running-Some-Collect-clause-works g c script works =
    let words = c.args.epoch.now.words in
    let next : c.args.state.now.op ≡ Some Collect = search rules in
    subst (λ (x : ThreadState). Works script words c.wait_for.new.m x) (sym c.wait_for.ensures.waits)
    (asked_works script words c.args.m.now c.wait_for.new.m c.args.state.now Collecting works c.requires.goes
    c.wait_for.ensures.seated c.wait_for.ensures.asked next (λ again. again) tt)

pub returns-in-Running-Some-Collect-clause-goes_on : goal.returns-in-Running-Some-Collect-clause-goes_on
returns-in-Running-Some-Collect-clause-goes_on g c script works =
    let runs : c.args.state.now.mode ≡ Running = search rules in
    asked_goes c.args.every Collecting works c.wait_for.ensures.seated c.wait_for.ensures.asked c.wait_for.ensures.waits
    (sym (ap owes runs)) (collecting_few c.args.state.now runs)

pub returns-in-Running-Some-Collect-clause-caused : goal.returns-in-Running-Some-Collect-clause-caused
returns-in-Running-Some-Collect-clause-caused g c waits =
    asked_caused c.args.epoch.now.words c.args.m.now c.wait_for.new.m c.requires.works.1.seated
    c.wait_for.ensures.seated c.wait_for.ensures.asked

pub returns-in-Running-Some : goal.returns-in-Running-Some
returns-in-Running-Some g c =
    let words = c.args.epoch.now.words in
    let heap = c.args.epoch.now.heap in
    let finish = c.args.epoch.now.end in
    let read = g.R.RecordReader in
    let m = c.args.m.now in
    let n = c.make_call-answer.new.m in
    let s = c.args.state.now in
    let after = c.take_result.new.state in
    let op = c.in-Running-Some.op in
    let answer = c.make_call-answer.result in
    let runs : s.mode ≡ Running = search rules in
    let next : s.op ≡ Some op = search rules in
    let other : op ≢ Collect = search rules in
    let p = c.requires.reader in
    let q = c.make_call-answer.ensures.reader in
    let seated = c.make_call-answer.ensures.seated in
    let called = c.make_call-answer.ensures.called in
    let took = c.take_result.ensures.took in
    record {
      works = λ script works.
          subst (λ (x : Mutator _). Works script words x after) (sym c.take_result.ensures.dropped)
          (called_works read.image read.faults script words heap.scions finish m n s p.reader q.reader after op answer
          works runs next other seated p.there q.there called took);
      ends = λ script works.
          subst (λ (x : Mutator _). HasEndedWell read.faults words.start.began.told finish script x after)
          (sym c.take_result.ensures.dropped)
          (called_ends read.image read.faults script words heap.scions finish m n s p.reader q.reader after op answer
          works runs next other seated p.there q.there called c.make_call-answer.ensures.count took);
      reader = subst (HasReader read.image words) (sym c.take_result.ensures.dropped)
          (reader_stays read.image words after.mode n q);
      thread =
          let same =
          called_thread read.image read.faults c.requires.works.0 words heap.scions finish m n s p.reader q.reader
          after.mode op answer c.requires.works.1.seated seated p.there q.there called in
          subst (λ (x : Mutator _). x.thread ≡ m.thread) (sym c.take_result.ensures.dropped) same;
      nearer = called_nearer read.image read.faults c.requires.works.0 words heap.scions finish m n s after op answer
          runs next took;
      goes_on = λ script works.
          subst (λ (x : Mutator _). ThreadWentOn c.args.every script m x s after) (sym c.take_result.ensures.dropped)
          (called_goes read.image read.faults script words heap.scions finish m n s c.args.every p.reader q.reader after
          op answer works runs next other seated p.there q.there called took c.take_result.ensures.owes
          c.take_result.ensures.due);
      caused = λ waits.
          subst (λ (x : Mutator _). has_cause (view_of x) ≡ true) (sym c.take_result.ensures.dropped)
          (called_caused read.image read.faults c.requires.works.0 words heap.scions finish m n s p.reader q.reader
          after op answer c.requires.works.1.seated seated p.there q.there called took waits);
    }

pub returns-in_default-clause-works : goal.returns-in_default-clause-works
returns-in_default-clause-works g c script works =
    let words = c.args.epoch.now.words in
    subst (λ (x : ThreadState). Works script words c.wait_for-in_default.new.m x)
    (sym c.wait_for-in_default.ensures.waits)
    (asked_works script words c.args.m.now c.wait_for-in_default.new.m c.args.state.now Silent works c.requires.goes
    c.wait_for-in_default.ensures.seated c.wait_for-in_default.ensures.asked tt (λ again. again) tt)

pub returns-in_default-clause-goes_on : goal.returns-in_default-clause-goes_on
returns-in_default-clause-goes_on g c script works =
    let s = c.args.state.now in
    elim c.in_default.branch [
      | in_default-via-in-Running+in_default w ↦
          absurd
          (runs_some s.mode s.op w.in_default.is-0 w.in_default.is-1 c.requires.works.1.program.fits)
      | in_default-via-in_default w ↦
          asked_goes c.args.every Silent works c.wait_for-in_default.ensures.seated c.wait_for-in_default.ensures.asked
          c.wait_for-in_default.ensures.waits (due_owes s.mode c.requires.goes w.in_default.not-Running-0)
          (silent_few s c.requires.goes w.in_default.not-Running-0)
    ]

pub returns-in_default-clause-caused : goal.returns-in_default-clause-caused
returns-in_default-clause-caused g c waits =
    asked_caused c.args.epoch.now.words c.args.m.now c.wait_for-in_default.new.m c.requires.works.1.seated
    c.wait_for-in_default.ensures.seated c.wait_for-in_default.ensures.asked
