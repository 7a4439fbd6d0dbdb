use Rattle.std.proofs.Common.{arith}
use Rattle.melt_scion.proofs.Named.{sets, long}
use Rattle.melt_scion.proofs.names.AddressNames.set.Goals as goal

pub index_mut-requires : goal.index_mut-requires
index_mut-requires c =
    let size =
    long c.args.self.now c.self.inside.named.items c.self.inside.numbers.items c.self.view_is c.self.invariant in
    omega (arith, c.requires.first, c.requires.last, size, c.self.inside.named.ok.0)

pub index_mut-requires-2 : goal.index_mut-requires-2
index_mut-requires-2 c =
    let size =
    long c.args.self.now c.self.inside.named.items c.self.inside.numbers.items c.self.view_is c.self.invariant in
    omega (arith, c.requires.first, c.requires.last, size, c.self.invariant, c.self.inside.numbers.ok.0)

pub returns : goal.returns
returns c = sets c.args.self.now c.self.inside.named.items c.self.inside.numbers.items c.args.address c.args.number
    c.self.view_is c.self.invariant c.requires.first c.requires.last
