-- The lines of some replies were added, and those of the rest make up the others, for which there is room.
use Rattle.std.proofs.Common.{◌≡◌, ◌+◌, ◌*◌, ◌≤◌, ◌++◌, length}
use Rattle.std.specs.List.{flat_map}
use Rattle.std.specs.Vec.{vec_capacity, vec_len}
use Rattle.melt_top.specs.Text.{reply_line}
use Rattle.melt_top.proofs.text.with_lines.Given as goal

abbrev pub decreases-loop-reply : goal.decreases-loop-reply
decreases-loop-reply l = length l.rest

abbrev pub invariant-loop-reply : goal.invariant-loop-reply
invariant-loop-reply l = record {
  items : l.text.items ++ flat_map reply_line l.rest ≡ l.initial.text.items ++ flat_map reply_line l.fn.replies;
  room : vec_len l.text + 21 * length l.rest ≤ vec_capacity l.text;
}
