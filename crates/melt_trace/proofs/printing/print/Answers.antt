use Rattle.std.proofs.Common.{rules, ◌≡◌, ◌≤◌, length, Ok, subst, sym}
use Rattle.melt_trace.specs.Grammar.{canonical}
use Rattle.melt_trace.specs.Language.{max_bytes, script_of}
use Rattle.melt_trace.proofs.Canonical.{canonical_is_read}
use Rattle.melt_trace.proofs.printing.print.Goals as goal

pub returns-clause-read_again : goal.returns-clause-read_again
returns-clause-read_again c short =
    let text : c.push_programs.new.out.items ≡ canonical c.args.trace.now = search rules in
    subst (λ t. script_of t ≡ Ok c.args.trace.now) (sym text)
    (canonical_is_read c.args.trace.now c.programs.ensures.in_range (subst (λ t. length t ≤ max_bytes) text short))
