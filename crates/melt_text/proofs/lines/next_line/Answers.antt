use Rattle.std.proofs.Common.{sym, ◌∙◌}
use Rattle.memchr.specs.Find.{is_byte}
use Rattle.melt_text.proofs.Cuts.{first_byte, line_at, last_line}
use Rattle.melt_text.proofs.lines.next_line.Goals as goal

pub returns-in-Some-clause-line : goal.returns-in-Some-clause-line
returns-in-Some-clause-line c =
    line_at c.args.bytes.now c.in-Some.end
    (sym (first_byte (is_byte 10) c.args.bytes.now c.memchr.result c.memchr.ensures) ∙ c.in-Some.is)

pub returns-in-None-clause-line : goal.returns-in-None-clause-line
returns-in-None-clause-line c =
    last_line c.args.bytes.now c.requires
    (sym (first_byte (is_byte 10) c.args.bytes.now c.memchr.result c.memchr.ensures) ∙ c.in-None.is)
