use Rattle.std.proofs.Common.{rules, ◌∙◌, refl, subst, sym}
use Rattle.melt_safepoint.specs.Modes.{IsEnded, MayGo, Waits}
use Rattle.melt_safepoint.specs.declared.thread.ThreadState.{ThreadState}
use Rattle.melt_pool.proofs.Going.{may_not_end}
use Rattle.melt_pool.proofs.Onward.{again_goes, goes_then}
use Rattle.melt_pool.proofs.Waiting.{again_waits}
use Rattle.melt_pool.proofs.program.run_program.Goals as goal

pub loop-is_announced-init : goal.loop-is_announced-init
loop-is_announced-init g c =
    let s = c.args.state.now in
    let again = c.make_again-is_announced.ensures.again in
    record {
      works = search rules;
      ends = search rules;
      ended = search rules;
      reader = c.requires.reader;
      thread = refl;
      goes_on = λ script works.
          again_goes c.args.every script c.args.m.now s c.make_again-is_announced.new.state again;
      caused = λ other waits.
          absurd (other (again_waits s.mode (subst (λ (x : ThreadState). Waits x.mode) again waits)));
    }

pub loop-is_announced-preserved : goal.loop-is_announced-preserved
loop-is_announced-preserved g c =
    let before = c.loop-is_announced.invariant in
    let may : MayGo c.loop-is_announced.state.mode = search rules in
    record {
      works = λ script works. c.make_next.ensures.works script (before.works script works);
      ends = λ script works goes_on. c.make_next.ensures.ends script (before.works script works);
      ended = λ over. absurd (may_not_end c.loop-is_announced.state.mode may
          (subst (λ (s : ThreadState). IsEnded s.mode) (sym (before.ended over).0) over));
      reader = c.make_next.ensures.reader;
      thread = c.make_next.ensures.thread ∙ before.thread;
      goes_on = λ script works.
          goes_then (before.goes_on script works) (c.make_next.ensures.goes_on script (before.works script works));
      caused = λ goes. c.make_next.ensures.caused;
    }
