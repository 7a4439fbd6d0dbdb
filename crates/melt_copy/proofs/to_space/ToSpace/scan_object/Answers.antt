use Rattle.std.proofs.Common.{◌<◌, ◌^◌, refl, arith}
use Rattle.std.specs.Vec.{with_item}
use Rattle.melt_copy.specs.declared.to_space.ToSpace.{ToSpace}
use Rattle.melt_copy.proofs.Scanning.{header_within, is_header, shape_small, slots_next, object_done}
use Rattle.melt_copy.proofs.Evacuated.{used_below, words_fit}
use Rattle.melt_copy.proofs.to_space.ToSpace.scan_object.Given.{Over}
use Rattle.melt_copy.proofs.to_space.ToSpace.scan_object.Goals as goal
use Rattle.melt_copy.proofs.to_space.ToSpace.scan_object.Goals.{After-move_header}

pub index-header-requires : goal.index-header-requires
index-header-requires g c =
    let now = c.args.self.now in
    omega (arith, header_within now c.requires.1, now.words.ok.0)

pub shape_of-shape-requires : goal.shape_of-shape-requires
shape_of-shape-requires g c = is_header c.args.self.now c.requires.1 c.index-header.ensures

pub move_header-requires : goal.move_header-requires
move_header-requires g c =
    shape_small c.args.self.now c.requires.1 c.index-header.ensures c.shape_of-shape.ensures

pub index_mut-requires : goal.index_mut-requires
index_mut-requires g c =
    let now = c.args.self.now in
    omega (arith, header_within now c.requires.1, now.words.ok.0)

-- the word before the next one is one of the copies
done_small : (g : Over) (c : After-move_header g) → c.args.done < 2 ^ 30
done_small g c =
    let it = c.requires.1.evacuates in
    omega (arith, it.within, words_fit c.args.self.now it, (used_below it).0)

pub overflow_add-done : goal.overflow_add-done
overflow_add-done g c = omega (arith, done_small g (goal.at.overflow_add-done g c).After-move_header)

pub overflow_add-result : goal.overflow_add-result
overflow_add-result g c = omega (
  arith,
  done_small g (goal.at.overflow_add-result g c).After-move_header,
  c.cost.ensures,
  shape_small c.args.self.now c.requires.1 c.index-header.ensures c.shape_of-shape.ensures,
)

pub move_slots-requires : goal.move_slots-requires
move_slots-requires g c = (
  c.requires.0,
  slots_next c.args.self.now c.requires.1 c.index-header.ensures c.shape_of-shape.ensures c.move_header.ensures _ refl
      refl refl refl,
)

pub returns-clause-scans : goal.returns-clause-scans
returns-clause-scans g c = λ d next.
    let now = c.args.self.now in
    let marked : ToSpace =
    record {
      words = with_item now.words c.args.done c.move_header.result;
      next = now.next;
      moves = now.moves;
      names = now.names;
    } in
    object_done now next c.index-header.ensures c.shape_of-shape.ensures c.move_header.ensures marked refl refl
    refl refl c.move_slots.new.self (c.move_slots.ensures.evacuates d
    (slots_next now next c.index-header.ensures c.shape_of-shape.ensures c.move_header.ensures marked refl refl
    refl refl)) c.move_slots.ensures.more c.cost.ensures
