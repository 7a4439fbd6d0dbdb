use Rattle.melt_parts_tests.proofs.tests.links.move_node.Goals as goal

pub unlink-requires : goal.unlink-requires
unlink-requires c =
    let list = c.in-Some.field-0 in
    (list, (c.list_of.ensures list).0 c.in-Some.is)

pub push_front-requires-clause-alone : goal.push_front-requires-clause-alone
push_front-requires-clause-alone c list stands =
    c.in_default.not-Some list ((c.list_of.ensures list).1 stands)
