use Rattle.std.proofs.Common.{ℕ, List, Err, subst}
use Rattle.std.proofs.lemmas.Result.{err_from_is_err_and}
use Rattle.std.specs.Prelude.{Option}
use Rattle.melt_record.specs.declared.head.Kind.TheVariants.{Body, Stub}
use Rattle.melt_core.specs.declared.answer.Refusal.{Refusal}
use Rattle.melt_core.specs.declared.answer.Refusal.TheVariants as refusal
use Rattle.melt_epoch.proofs.Fetching.{body_fetched, head_broken, head_of_kind, rest_unread, stub_dead}
use Rattle.melt_epoch.specs.Fetching.{IsUnread, ReadsHead, ReadsRest, RestRead}
use Rattle.melt_epoch.proofs.fetch.read_record.Goals as goal

pub returns-in_err-head-clause-fetches : goal.returns-in_err-head-clause-fetches
returns-in_err-head-clause-fetches g c =
    let exit = err_from_is_err_and c.from_residual.result c.from_residual.ensures.1 in
    rw (exit.1, exit.2)
    (unread c.in_err-head.field-0.0 c.in_err-head.ensures.head)
  where
    -- no head was read, so no record
    unread : (why : Refusal)
        → ReadsHead (g.R.RecordReader.image c.args.reader.now) c.args.end c.args.home
        (g.R.RecordReader.faults c.args.reader.now) (g.R.RecordReader.faults c.read_head.new.reader) (Err why)
        → IsUnread (g.R.RecordReader.image c.args.reader.now) c.args.scions.now c.args.end c.args.home
        (g.R.RecordReader.faults c.args.reader.now) (g.R.RecordReader.faults c.read_head.new.reader) why
    unread refusal.DiskFault rose = rose
    unread (refusal.Damaged damaged) bad =
        head_broken (g.R.RecordReader.image c.args.reader.now) c.args.scions.now c.args.end c.args.home damaged bad
    unread (refusal.Pause pause) none = none

pub returns-in-Err-clause-fetches : goal.returns-in-Err-clause-fetches
returns-in-Err-clause-fetches g c =
    let image = g.R.RecordReader.image c.args.reader.now in
    stub_dead c.in_ok-head.head.shape
    (head_of_kind image c.args.end c.args.home c.in_ok-head.head (Stub c.in-Stub.scion) c.in-Stub.is
    c.in_ok-head.ensures.head) c.in-Err.ensures.dead

pub returns-in_ok-rest-in-Body-clause-fetches : goal.returns-in_ok-rest-in-Body-clause-fetches
returns-in_ok-rest-in-Body-clause-fetches g c =
    let image = g.R.RecordReader.image c.args.reader.now in
    body_fetched image c.args.end c.args.home c.in_ok-head.head.shape c.in_ok-rest-in-Body.rest c.requires.home
    (head_of_kind image c.args.end c.args.home c.in_ok-head.head Body c.in-Body.is c.in_ok-head.ensures.head)
    (subst (λ (i : Option (List ℕ)). RestRead i c.args.end c.args.home c.in_ok-head.head.shape
    c.in_ok-rest-in-Body.rest) c.read_head.ensures.image c.in_ok-rest-in-Body.ensures.rest)

pub returns-in_err-rest-in-Body-clause-fetches : goal.returns-in_err-rest-in-Body-clause-fetches
returns-in_err-rest-in-Body-clause-fetches g c =
    let image = g.R.RecordReader.image c.args.reader.now in
    let between = g.R.RecordReader.faults c.read_head.new.reader in
    let after = g.R.RecordReader.faults c.read_rest.new.reader in
    let exit = err_from_is_err_and c.from_residual-in_err-rest-in-Body.result
    c.from_residual-in_err-rest-in-Body.ensures.1 in
    rw (exit.1, exit.2)
    (rest_unread c.args.scions.now (g.R.RecordReader.faults c.args.reader.now) between after c.in_ok-head.head.shape
    c.in_err-rest-in-Body.field-0.0 c.read_head.ensures.count c.read_rest.ensures.count
    (head_of_kind image c.args.end c.args.home c.in_ok-head.head Body c.in-Body.is c.in_ok-head.ensures.head)
    (subst (λ (i : Option (List ℕ)). ReadsRest i c.args.end c.args.home c.in_ok-head.head.shape between after
    (Err c.in_err-rest-in-Body.field-0.0))
    c.read_head.ensures.image c.in_err-rest-in-Body.ensures.rest))
