use Rattle.std.proofs.Common.{◌+◌, ◌*◌, subst, arith}
use Rattle.melt_word.specs.declared.reference.Ref as word
use Rattle.melt_rule.specs.Seats.{knows_of}
use Rattle.melt_rule.specs.Tells.{Looks}
use Rattle.melt_epoch.specs.Loading.{Found, IsBefore}
use Rattle.melt_epoch.proofs.Loading.{loads_most, look_loads}
use Rattle.melt_epoch.proofs.load.resolve.Goals as goal

pub returns-in-Null-clause-resolves : goal.returns-in-Null-clause-resolves
returns-in-Null-clause-resolves g c = λ v s at looks.
    let w = knows_of c.args.seat.now in
    look_loads v w s (2 * c.args.words.now.start.began.forwards + 132) 0 (omega arith)
    (subst (λ (r : word.Ref). Looks v w s c.args.place r) c.in-Null.is looks)

pub returns-in-Clean-clause-resolves : goal.returns-in-Clean-clause-resolves
returns-in-Clean-clause-resolves g c = λ v s at looks.
    let w = knows_of c.args.seat.now in
    look_loads v w s (2 * c.args.words.now.start.began.forwards + 132) c.in-Clean.address (omega arith)
    (subst (λ (r : word.Ref). Looks v w s c.args.place r) c.in-Clean.is looks)

pub load_stale-requires-clause-found : goal.load_stale-requires-clause-found
load_stale-requires-clause-found g c =
    subst (Found (knows_of c.args.seat.now) c.args.place) c.in-Stale.is c.requires.found

pub returns-in-Stale-clause-resolves : goal.returns-in-Stale-clause-resolves
returns-in-Stale-clause-resolves g c = λ v s at looks.
    let w = knows_of c.args.seat.now in
    loads_most v (knows_of c.load_stale.new.seat) s 3 (2 * c.args.words.now.start.began.forwards + 132)
    c.load_stale.result (omega arith)
    (c.load_stale.ensures.loads v s at
    (subst (λ (r : word.Ref). Looks v w s c.args.place r) c.in-Stale.is looks))

pub load_home-requires-clause-found : goal.load_home-requires-clause-found
load_home-requires-clause-found g c =
    subst (Found (knows_of c.args.seat.now) c.args.place) c.in-Disk.is c.requires.found

pub load_home-requires-clause-within : goal.load_home-requires-clause-within
load_home-requires-clause-within g c = subst (IsBefore c.args.end) c.in-Disk.is c.requires.within

pub returns-in-Disk-clause-resolves : goal.returns-in-Disk-clause-resolves
returns-in-Disk-clause-resolves g c = λ v s at looks.
    c.load_home.ensures.resolves v s at
    (subst (λ (r : word.Ref). Looks v (knows_of c.args.seat.now) s c.args.place r) c.in-Disk.is looks)
