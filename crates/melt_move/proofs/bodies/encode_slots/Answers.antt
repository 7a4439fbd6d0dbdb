use Rattle.melt_move.proofs.Encoding.{slots_cut, leaving_refs, slots_are, slots_encode}
use Rattle.melt_move.proofs.bodies.encode_slots.Goals as goal

pub encode_refs-requires : goal.encode_refs-requires
encode_refs-requires g c = (
  c.requires.departs.0,
  leaving_refs c.args.space.now c.requires.departs.0 c.args.decision.now c.args.d _ _
      (slots_cut c.args.space.now c.args.d _ _ _ c.words_at-object.ensures c.cost.ensures
      c.copy_from_slice.ensures.after) c.requires.departs.1,
)

pub returns-clause-slots : goal.returns-clause-slots
returns-clause-slots g c =
    slots_are c.args.space.now c.args.d _ _ c.encode_refs.new.words _
    (slots_cut c.args.space.now c.args.d _ _ _ c.words_at-object.ensures c.cost.ensures c.copy_from_slice.ensures.after)
    c.encode_refs.auto.words c.encode_refs.ensures.slots

pub returns-clause-encodes : goal.returns-clause-encodes
returns-clause-encodes g c = λ s departs.
    slots_encode c.encode_refs.new.words
    (slots_cut c.args.space.now c.args.d _ _ _ c.words_at-object.ensures c.cost.ensures c.copy_from_slice.ensures.after)
    departs c.encode_refs.auto.words
    (c.encode_refs.ensures.becomes s (leaving_refs c.args.space.now s c.args.decision.now c.args.d _ _
    (slots_cut c.args.space.now c.args.d _ _ _ c.words_at-object.ensures c.cost.ensures c.copy_from_slice.ensures.after)
    departs))
