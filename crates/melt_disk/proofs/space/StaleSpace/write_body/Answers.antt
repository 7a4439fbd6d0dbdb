use Rattle.std.proofs.Common.{◌≡◌, ◌+◌, ◌≤◌, ap, rules, arith}
use Rattle.std.proofs.lemmas.Grind.{common_steps}
use Rattle.melt_word.specs.Words.{cost_of}
use Rattle.melt_disk.specs.Homes.{Stale}
use Rattle.melt_disk.proofs.space.StaleSpace.write_body.Goals as goal

pub slice_bounds-words-end : goal.slice_bounds-words-end
slice_bounds-words-end g c = let shape = c.requires.lies.shape in
    omega (arith, c.cost-len.ensures, shape.refs, shape.nums)

pub slice_bounds-encode_body-end : goal.slice_bounds-encode_body-end
slice_bounds-encode_body-end g c = let shape = c.requires.lies.shape in search rules

pub encode_body-requires-clause-home : goal.encode_body-requires-clause-home
encode_body-requires-clause-home g c = let lies = c.requires.lies in
    record { not_null = lies.begins; small = c.ranges.home.fits }

pub encode_body-requires-clause-shape : goal.encode_body-requires-clause-shape
encode_body-requires-clause-shape g c = c.requires.lies.shape

pub encode_body-requires-clause-out : goal.encode_body-requires-clause-out
encode_body-requires-clause-out g c = let shape = c.requires.lies.shape in search rules

pub write_record-requires-clause-in_range : goal.write_record-requires-clause-in_range
write_record-requires-clause-in_range g c κs within =
    let lies = c.requires.lies in
    let end : c.self.inside.end ≡ c.args.self.now.end =
    ap (λ (space : Stale g.row.D.Denot). space.end) c.self.view_is in
    let fits : c.args.home + cost_of c.args.shape ≤ 4294967296 = omega (arith, lies.ends, end, c.self.invariant.1) in
    grind (arith, common_steps)
