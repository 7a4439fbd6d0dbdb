use Rattle.std.proofs.Common.{refl}
use Rattle.melt_rule.proofs.Allowed.{global_stores}
use Rattle.melt_rule.proofs.Seating.{seated}
use Rattle.melt_rule.proofs.Standing.{at_table, has_global, held_fits}
use Rattle.melt_rule.proofs.words.Words.store_global.Goals as goal

pub held_word-requires : goal.held_word-requires
held_word-requires c =
    let at = at_table c.self.inside c.self.view_is c.self.invariant c.requires.seat in
    held_fits c.args.held at c.requires.held.1

pub store-requires : goal.store-requires
store-requires c =
    let at = at_table c.self.inside c.self.view_is c.self.invariant c.requires.seat in (
      at.is_seat.same,
      has_global at c.args.g (rw c.requires.seat.began c.requires.global),
      global_stores _ at.is_seat.live c.requires.polled (rw c.requires.seat.began c.requires.global) c.requires.held.1
          c.held_word.ensures,
    )

pub returns-clause-writes : goal.returns-clause-writes
returns-clause-writes c value names =
    c.store.ensures.2.1 c.args.g c.args.held value (rw c.requires.seat.began c.requires.global) refl
    c.held_word.ensures names

pub returns-clause-seat : goal.returns-clause-seat
returns-clause-seat c =
    seated c.requires.seat c.store.ensures.0 c.store.ensures.2.0
    (returns-clause-writes c c.requires.held.0 c.requires.held.1).is refl refl
