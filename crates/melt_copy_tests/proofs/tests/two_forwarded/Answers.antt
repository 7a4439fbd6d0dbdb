use Rattle.melt_copy_tests.proofs.BuildingForwarded.{forwarded_formed}
use Rattle.melt_copy_tests.proofs.tests.two_forwarded.Goals as goal

pub returns-clause-formed : goal.returns-clause-formed
returns-clause-formed c =
    let leaf = c.header-leaf.ensures in
    let first = c.encode_home-first.ensures in
    let second = c.encode_home-second.ensures in
    let one = c.pack.ensures in
    let two = c.pack-2.ensures in
    forwarded_formed _ c.set-2.new.self (record {
      words = _;
      words_are = cc;
      forward = _;
      forward_are = cc;
      built = c.in_ok-heap_of.ensures;
      unnamed = c.in_ok-addresses.addresses;
      names_one = c.set.new.self;
      none = c.in_ok-addresses.ensures;
      one_named = c.set.ensures;
      two_named = c.set-2.ensures;
    })
