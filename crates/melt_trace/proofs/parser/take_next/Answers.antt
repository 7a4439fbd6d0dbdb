use Rattle.std.proofs.Common.{◌≡◌}
use Rattle.melt_trace.specs.declared.language.Expected.TheVariants as stage
use Rattle.melt_trace.specs.Drafts.{place_of}
use Rattle.melt_trace.proofs.Canonical.{operation_taken, shorter_after}
use Rattle.melt_trace.proofs.parser.take_next.Goals.{in-Inside, in_default}
use Rattle.melt_trace.proofs.parser.take_next.Goals as goal

pub returns : goal.returns
returns c =
    let found = c.in-Some in
    let old = c.args.draft.now in
    let new = c.operation.new.self in
    let inside : old.stage ≡ stage.Inside =
    elim c.match-matches.branch [ in-Inside w ↦ w.in-Inside.is | in_default w ↦ absurd cc ] in
    record {
      sound = c.in_ok-operation.ensures.1;
      same = operation_taken (place_of old) (place_of new) found.op c.args.bytes.now found.rest.now
          (record {
            inside = inside;
            few = c.requires.sound.globals;
            range = found.ensures.range;
            text = found.ensures.text;
          })
          c.in_ok-operation.ensures.0;
      shorter = shorter_after found.op c.args.bytes.now found.rest.now found.ensures.text;
    }
