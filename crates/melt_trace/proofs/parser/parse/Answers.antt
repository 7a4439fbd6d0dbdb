use Rattle.melt_trace.specs.Drafts.{place_of}
use Rattle.melt_trace.proofs.Kept.{is_script}
use Rattle.melt_trace.proofs.parser.parse.Goals as goal

pub into_trace-requires : goal.into_trace-requires
into_trace-requires c = is_script c.args.bytes.now (place_of c.in_ok-draft.draft).script c.in_ok-draft.ensures.found
