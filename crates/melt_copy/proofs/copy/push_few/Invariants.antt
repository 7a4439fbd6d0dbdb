use Rattle.std.proofs.Common.{◌≡◌, ◌++◌, take}
use Rattle.std.specs.Vec.{vec_capacity}
use Rattle.melt_copy.proofs.copy.push_few.Given as goal

abbrev pub invariant-loop-word : goal.invariant-loop-word
invariant-loop-word l = record {
  items : l.out.items ≡ l.fn.out.items ++ take l.word-index l.words;
  capacity : vec_capacity l.out ≡ vec_capacity l.fn.out;
}
