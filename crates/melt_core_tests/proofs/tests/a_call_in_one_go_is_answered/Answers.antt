use Rattle.std.proofs.Common.{◌∙◌}
use Rattle.melt_core_tests.proofs.Moving.{moved}
use Rattle.melt_core_tests.proofs.tests.a_call_in_one_go_is_answered.Goals as goal

pub finish_free-requires-clause-stands : goal.finish_free-requires-clause-stands
finish_free-requires-clause-stands c = (moved c.in_ok-core.ensures.stands c.call_at_once-result.ensures).stands

pub finish_free-requires-clause-threads : goal.finish_free-requires-clause-threads
finish_free-requires-clause-threads c =
    (moved c.in_ok-core.ensures.stands c.call_at_once-result.ensures).others.threads ∙ c.in_ok-core.ensures.threads
