-- The lines of the chunks so far were added, and those of the replies that are left make up the others.
use Rattle.std.proofs.Common.{◌≡◌, ◌++◌}
use Rattle.std.specs.List.{flat_map}
use Rattle.std.specs.Slice.Iter.{chunks_rest, chunks_size}
use Rattle.melt_top.specs.Text.{reply_line}
use Rattle.melt_top.proofs.text.push_each.Given as goal

abbrev pub invariant-loop-chunk : goal.invariant-loop-chunk
invariant-loop-chunk l = record {
  next : goal.iterator-loop-chunk.can_next l.chunk-iterator;
  finite : goal.iterator-loop-chunk.is_finite l.chunk-iterator;
  size : chunks_size l.chunk-iterator ≡ 1024;
  items : l.out.items ++ flat_map reply_line (chunks_rest l.chunk-iterator)
      ≡ l.fn.out.items ++ flat_map reply_line l.fn.replies;
}
