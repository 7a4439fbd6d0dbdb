use Rattle.std.proofs.Common.{◌≡◌, length, ap, arith}
use Rattle.melt_disk.specs.Homes.{Stale}
use Rattle.melt_disk.proofs.space.StaleSpace.write_stub.Goals as goal

pub encode_stub-requires-clause-home : goal.encode_stub-requires-clause-home
encode_stub-requires-clause-home g c = let lies = c.requires.lies in
    record { not_null = lies.begins; small = c.ranges.home.fits }

pub encode_stub-requires-clause-shape : goal.encode_stub-requires-clause-shape
encode_stub-requires-clause-shape g c = c.requires.lies.shape

pub write_record-requires-clause-in_range : goal.write_record-requires-clause-in_range
write_record-requires-clause-in_range g c κs within =
    let lies = c.requires.lies in
    let end : c.self.inside.end ≡ c.args.self.now.end =
    ap (λ (space : Stale g.row.D.Denot). space.end) c.self.view_is in
    let len : length c.encode_stub.new.out ≡ 2 = ap length c.encode_stub.ensures in
    omega (arith, lies.ends, end, len, c.self.invariant.1)
