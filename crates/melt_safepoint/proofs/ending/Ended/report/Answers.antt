-- All threads have ended when the loop has, and each was reported.
use Rattle.std.proofs.Common.{false, ◌≡◌, ◌∷◌, ◌++◌, [], List, refl, sym, ◌∙◌, ap, subst}
use Rattle.std.proofs.lemmas.List.{append-nil, append_assoc, nil_from_length}
use Rattle.melt_model.specs.declared.reports.ThreadReport.{ThreadReport}
use Rattle.melt_safepoint.specs.declared.thread.ThreadState.{ThreadState}
use Rattle.melt_safepoint.specs.Modes.{IsEnded}
use Rattle.melt_safepoint.proofs.Outcomes.{lost_same}
use Rattle.melt_safepoint.proofs.Reporting.{Reported, reported_more, ended_next}
use Rattle.melt_safepoint.proofs.Modes.{ended_so}
use Rattle.melt_safepoint.proofs.Remaining.{has_run, all_over}
use Rattle.melt_safepoint.proofs.ending.Ended.report.Goals as goal
use Rattle.melt_safepoint.proofs.ending.Ended.report.Goals.{In-None}

pub unreachable-requires : goal.unreachable-requires
unreachable-requires c =
    let states : List ThreadState = c.args.self.states.items in
    let is : c.loop-state.yielded ++ c.in-Some.state ∷ c.next.new.self.rest.items ≡ states =
    ap (λ (xs : List ThreadState). c.loop-state.yielded ++ xs) (sym c.in-Some.ensures.steps.0)
    ∙ c.loop-state.invariant.1 in
    let ended : IsEnded c.in-Some.state.mode =
    ended_next states c.loop-state.yielded c.next.new.self.rest.items c.in-Some.state is
    (all_over false c.requires.1.0 c.requires.1.1 c.requires.0 c.args.self c.requires.1.2) in
    let so = ended_so c.in-Some.state.mode ended in
    c.in_default.not-Ended so.0 so.1

pub loop-state-preserved : goal.loop-state-preserved
loop-state-preserved c =
    let before : List ThreadState = c.loop-state.yielded in
    let state : ThreadState = c.in-Some.state in
    let rest : List ThreadState = c.next.new.self.rest.items in
    let one : ThreadReport = record { replies = state.replies.items; end = c.in-Ended.end } in
    let grown : Reported (before ++ state ∷ []) (c.loop-state.threads.items ++ one ∷ []) =
    reported_more before c.loop-state.threads.items state one c.loop-state.invariant.0 refl c.in-Ended.is in (
      subst (Reported (before ++ state ∷ [])) (sym c.in_ok-push.ensures.items) grown,
      append_assoc before (state ∷ []) rest
          ∙ (ap (λ (xs : List ThreadState). before ++ xs) (sym c.in-Some.ensures.steps.0) ∙ c.loop-state.invariant.1),
    )

-- all were reported
reported : (c : In-None) → Reported c.args.self.states.items c.loop-state.threads.items
reported c =
    let rest : List ThreadState = c.loop-state.state-iterator.rest.items in
    let none : rest ≡ [] =
    nil_from_length rest (sym c.loop-state.state-iterator.rest.ok.0 ∙ c.in-None.ensures.steps.0) in
    let all : c.loop-state.yielded ≡ c.args.self.states.items =
    sym (append-nil c.loop-state.yielded)
    ∙ (ap (λ (xs : List ThreadState). c.loop-state.yielded ++ xs) (sym none) ∙ c.loop-state.invariant.1) in
    subst (λ (xs : List ThreadState). Reported xs c.loop-state.threads.items) all c.loop-state.invariant.0

pub returns-clause-has_run : goal.returns-clause-has_run
returns-clause-has_run c = λ told script config shown stands.
    has_run told script config shown c.args.self _ stands (record {
      threads = reported (goal.at.returns-clause-has_run c).In-None;
      journal = refl;
      log = refl;
      halt = refl;
    })

pub returns-clause-lost : goal.returns-clause-lost
returns-clause-lost c =
    lost_same c.args.self.states.items c.loop-state.threads.items
    (reported (goal.at.returns-clause-lost c).In-None)
