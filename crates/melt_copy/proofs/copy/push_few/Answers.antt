use Rattle.std.proofs.Common.{arith}
use Rattle.melt_copy.proofs.Room.{length_front}
use Rattle.melt_copy.proofs.copy.push_few.Goals as goal

pub push_reserved-requires : goal.push_reserved-requires
push_reserved-requires c =
    let size = length_front c.args.out.now.items c.args.words.now c.loop-word.out.items c.loop-word.word-index
    c.loop-word.invariant.items (omega arith) in
    omega (arith, size, c.loop-word.invariant.capacity, c.requires, c.loop-word.out.ok.0)
