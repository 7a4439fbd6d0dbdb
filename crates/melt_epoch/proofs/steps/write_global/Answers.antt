use Rattle.std.proofs.Common.{refl, ap, arith}
use Rattle.melt_model.specs.Thread.{value_in}
use Rattle.melt_model.specs.declared.history.Act.TheVariants.{Write}
use Rattle.melt_model.specs.declared.history.Slot.TheVariants.{Global}
use Rattle.melt_model.specs.declared.operations.Op.TheVariants.{GStore}
use Rattle.melt_model.specs.declared.operations.Reply.TheVariants as reply
use Rattle.melt_core.proofs.Answers.{gstore_answers}
use Rattle.melt_rule.specs.Seats.{knows_of}
use Rattle.melt_rule.specs.declared.view.View.{View}
use Rattle.melt_epoch.proofs.Plainly.{adds_replies, asked_idle, asked_plain, ended_idle, ends_polled, polled_knows}
use Rattle.melt_epoch.proofs.Following.{counts_most}
use Rattle.melt_epoch.proofs.Seated.{names_more}
use Rattle.melt_epoch.proofs.steps.write_global.Goals as goal

pub returns-then-poll-clause-seat : goal.returns-then-poll-clause-seat
returns-then-poll-clause-seat c =
    asked_idle c.args.words.now (knows_of c.args.seat.now) c.poll.new.seat c.if-poll.ensures.seat
    c.if-poll.ensures.polls

pub returns-then-poll-clause-plain : goal.returns-then-poll-clause-plain
returns-then-poll-clause-plain c rs src names =
    asked_plain (knows_of c.args.seat.now) (knows_of c.poll.new.seat) rs (GStore c.args.g src) 2 (omega arith)
    c.if-poll.ensures.polls tt

pub store_global-requires-clause-polled : goal.store_global-requires-clause-polled
store_global-requires-clause-polled c = ap (λ (x : View). x.doing) c.if-poll.ensures.polls.0.is

pub store_global-requires-clause-held : goal.store_global-requires-clause-held
store_global-requires-clause-held c =
    let v = knows_of c.args.seat.now in
    let w = knows_of c.poll.new.seat in (
      c.requires.held.0,
      names_more v.known w.known c.args.held c.requires.held.0
          (λ a n has. polled_knows v w a n c.if-poll.ensures.polls has)
          c.requires.held.1,
    )

pub returns-clause-seat : goal.returns-clause-seat
returns-clause-seat c =
    let v = knows_of c.args.seat.now in
    let w = knows_of c.poll.new.seat in
    let x = knows_of c.store_global.new.seat in
    let polls = c.if-poll.ensures.polls in
    let ends = c.store_global.ensures.writes c.requires.held.0
    (names_more v.known w.known c.args.held c.requires.held.0 (λ a n has. polled_knows v w a n polls has)
    c.requires.held.1) in
    let act = Write (Global c.args.g) c.requires.held.0 in
    let after = ends_polled v w x act c.requires.seat.sound polls ends in
    ended_idle c.args.words.now v w c.store_global.new.seat act after.0
    (counts_most v x 0 0 2 3 (omega arith) after.1) ends c.store_global.ensures.seat

pub returns-clause-plain : goal.returns-clause-plain
returns-clause-plain c rs src names =
    let v = knows_of c.args.seat.now in
    let w = knows_of c.poll.new.seat in
    let x = knows_of c.store_global.new.seat in
    let polls = c.if-poll.ensures.polls in
    let ends = c.store_global.ensures.writes (value_in rs src)
    (names_more v.known w.known c.args.held (value_in rs src) (λ a n has. polled_knows v w a n polls has) names) in
    let act = Write (Global c.args.g) (value_in rs src) in
    let after = ends_polled v w x act c.requires.seat.sound polls ends in
    record {
      comes = adds_replies x rs rs (GStore c.args.g src) reply.Done after.0
          (λ told. gstore_answers v.thread _ c.args.g src refl refl refl refl);
      counts = after.1;
      refused = tt;
      looks = tt;
    }
