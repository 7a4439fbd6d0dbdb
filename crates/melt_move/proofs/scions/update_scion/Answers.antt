use Rattle.melt_move.proofs.Stubs.{one_stub}
use Rattle.melt_move.proofs.scions.update_scion.Goals as goal

pub set_address-requires : goal.set_address-requires
set_address-requires g c = c.requires.live c.in-Some.ensures.0 c.in-Some.scion c.in-Some.ensures.1

pub returns-clause-written : goal.returns-clause-written
returns-clause-written g c = λ image shows.
    let wrote = c.in_ok-give_scion.ensures.written image shows in (
      wrote.0,
      wrote.1,
      one_stub c.args.homes.now c.new_home-home.ensures c.if-home-eq0.false wrote.2,
    )
