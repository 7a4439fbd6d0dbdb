use Rattle.std.proofs.Common.{rules}
use Rattle.melt_move.proofs.Encoding.{named_by}
use Rattle.melt_move.proofs.bodies.encode_slot.Goals as goal

pub refer_home-requires : goal.refer_home-requires
refer_home-requires c = (
  c.requires.0,
  named_by c.args.space.now _ _ c.args.word _ c.reference_of.result c.requires.1 c.reference_of.ensures.in_range
      c.reference_of.ensures.is (search rules),
)
