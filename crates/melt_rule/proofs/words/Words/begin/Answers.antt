use Rattle.melt_rule.proofs.Beginning.{opens, first_seat}
use Rattle.melt_rule.proofs.words.Words.begin.Goals as goal

pub of_words-requires : goal.of_words-requires
of_words-requires c = opens c.args.start.now c.args.words.now c.requires.begins

pub returns-clause-seat : goal.returns-clause-seat
returns-clause-seat c =
    let made = c.in_ok-table.ensures in
    let table = c.in_ok-table.table in
    first_seat table.shared.table_id table.shared.key c.args.start.now c.args.words.now c.in_ok-table.seat
    c.requires.begins made.5 made.2 made.4
