use Rattle.std.proofs.Common.{◌≤◌, arith}
use Rattle.melt_trace.specs.Language.{operation_count}
use Rattle.melt_gen.specs.Workloads.{programs_of}
use Rattle.melt_gen.proofs.InLimits.{is_script}
use Rattle.melt_gen.proofs.making.generate.Goals as goal

pub new-requires-2 : goal.new-requires-2
new-requires-2 c =
    let few : operation_count (programs_of c.args.kind c.args.seed c.args.size c.args.threads) ≤ 1048576 =
    omega (arith, c.total_count.ensures) in
    let whole = is_script c.args.kind c.args.seed c.args.size c.args.threads c.requires.size.1 c.requires.threads.0
    c.requires.threads.1 few in
    let globals = c.globals.ensures in
    let orders = c.new.ensures.items in
    let programs = c.in_ok-programs.ensures in
    rw (globals, orders, programs) whole
