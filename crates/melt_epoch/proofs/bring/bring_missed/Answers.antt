use Rattle.std.proofs.Common.{◌≡◌, ℕ, ◌+◌, ◌*◌, ◌-◌, take, subst, arith}
use Rattle.melt_scion.specs.Commits.{HasBody}
use Rattle.melt_rule.specs.Seats.{knows_of}
use Rattle.melt_rule.specs.Shown.{base_at}
use Rattle.melt_epoch.proofs.Bringing.{body_of, of_disk, stub_brings}
use Rattle.melt_epoch.proofs.bring.bring_missed.Goals as goal

pub copy_in-requires-clause-body : goal.copy_in-requires-clause-body
copy_in-requires-clause-body g c =
    let words = c.args.words.now in
    let image = g.R.RecordReader.image c.args.reader.now in
    let z = c.in-Body.shape in
    subst (λ (n : ℕ). HasBody words.start.began.told (base_at words.start.began) c.args.search.home z
    (take n c.in-Body.rest))
    (let first = c.from.ensures in let more = c.from-in-Body.ensures in
    let e : z.refs + z.nums ≡ c.from.result + c.from-in-Body.result = omega arith in e)
    ((body_of c.args.heap.now.scions c.args.search.home (g.R.RecordReader.faults c.args.reader.now)
    (g.R.RecordReader.faults c.read_record.new.reader) z c.in-Body.rest c.in-Body.is
    c.in_ok-fetched.ensures.fetches).has words.start.began
    (of_disk words c.args.heap.now image c.args.end c.requires.fits c.requires.reader))

pub returns-in-Stub-clause-misses : goal.returns-in-Stub-clause-misses
returns-in-Stub-clause-misses g c =
    stub_brings (knows_of c.args.seat.now) (knows_of c.clear_stub.new.seat) c.args.search c.in-Stub.target
    (128 + 2 * (c.args.forwards - c.args.search.tried)) (omega arith) c.clear_stub.ensures.clears
