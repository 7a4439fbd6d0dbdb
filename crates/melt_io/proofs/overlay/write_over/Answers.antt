use Rattle.std.proofs.Common.{◌≡◌, ◌+◌, ◌-◌, ◌++◌, ◌∙◌, length, replicate, rules}
use Rattle.melt_io.proofs.Images.{overwritten, written_back}
use Rattle.melt_io.proofs.overlay.write_over.Goals as goal

pub returns-clause-written : goal.returns-clause-written
returns-clause-written g c =
    let items = c.args.items.now in
    let new = c.args.new.now in
    let long = c.deref_mut.result.now in
    let reached : long ≡ items.items ++ replicate (c.args.start + length new - length items.items) c.args.blank =
    search rules in
    let len : length c.overwrite.new.items ≡ c.reach.new.items.len = search rules in
    written_back c.reach.new.items.len c.overwrite.new.items c.reach.new.items.items len
    ∙ overwritten c.args.blank items.items long c.overwrite.new.items c.args.start new reached c.overwrite.ensures
