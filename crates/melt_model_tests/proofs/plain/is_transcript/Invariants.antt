use Rattle.std.proofs.Common.{◌↔◌, drop}
use Rattle.melt_model.specs.Thread.{Answered, Transcript}
use Rattle.melt_model_tests.proofs.plain.is_transcript.Given as goal

abbrev pub invariant-loop-k : goal.invariant-loop-k
invariant-loop-k l = Transcript l.history l.thread l.ops l.replies
    ↔ Answered l.history (record { registers = l.registers; places = l.left }) (drop l.k l.ops) (drop l.k l.replies)
