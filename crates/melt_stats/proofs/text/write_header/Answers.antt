use Rattle.melt_stats.proofs.Plain.{header_row}
use Rattle.melt_stats.proofs.text.write_header.Goals as goal

pub returns-clause-text : goal.returns-clause-text
returns-clause-text c = rw header_row at c.write_row.ensures.text
