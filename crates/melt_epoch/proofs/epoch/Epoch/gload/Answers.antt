use Rattle.std.proofs.Common.{◌≡◌, ◌+◌, ◌*◌, ◌++◌, refl, sym, ◌∙◌, ap, subst}
use Rattle.std.specs.Prelude.{Some, slice_set}
use Rattle.melt_core.proofs.Answers.{gload_answers}
use Rattle.melt_model.specs.declared.history.Slot.TheVariants as slot
use Rattle.melt_model.specs.declared.operations.Op.TheVariants.{GLoad}
use Rattle.melt_rule.specs.Seats.{knows_of}
use Rattle.melt_rule.specs.declared.view.View.{View}
use Rattle.melt_epoch.proofs.Holding.{holds_found}
use Rattle.melt_epoch.proofs.Loaded.{loaded_seated, refused_seated, reply_found, value_read}
use Rattle.melt_epoch.proofs.Plainly.{adds_replies}
use Rattle.melt_epoch.proofs.Seated.{by_seats}
use Rattle.melt_epoch.specs.Loading.{HasLoaded}
use Rattle.melt_epoch.specs.Mutators.{IsSeated, last_given}
use Rattle.melt_epoch.specs.declared.mutator.Mutator.{Mutator}
use Rattle.melt_epoch.proofs.epoch.Epoch.gload.Goals as goal

pub returns-clause-seated : goal.returns-clause-seated
returns-clause-seated g c =
    let words = c.args.self.now.words in
    subst (IsSeated words) (sym c.hold.ensures.holds)
    (loaded_seated words c.args.m.now c.requires.seated c.in-Some-Some.seat.now c.in-Some-Some.ensures.value
    c.load_global.new.seat (Some c.load_global.new.reader) c.in_ok-target.ensures.seat (slot.Global c.args.g)
    (2 * words.start.began.forwards + 133) c.args.dst c.in_ok-target.target c.in_ok-target.ensures.loads
    c.hold.ensures.sixteen c.requires.register)

pub returns-clause-loaded : goal.returns-clause-loaded
returns-clause-loaded g c s t p q at_s at_t at_p at_q =
    let m = c.args.m.now in
    let seat = c.in-Some-Some.seat.now in
    let new = c.load_global.new.seat in
    let v = knows_of seat in
    let w = knows_of new in
    let loads = c.in_ok-target.ensures.loads in
    let most = 2 * c.args.self.now.words.start.began.forwards + 133 in
    let o = GLoad c.args.dst c.args.g in
    let at = slot.Global c.args.g in
    let there : c.hold.new.self.seat ≡ Some new = ap (λ (x : Mutator _). x.seat) c.hold.ensures.holds in
    let values : c.hold.new.self.values ≡ slice_set m.values c.args.dst loads.value =
    ap (λ (x : Mutator _). x.values) c.hold.ensures.holds
    ∙ ap (slice_set m.values c.args.dst) (value_read v w at most c.in_ok-target.target loads) in
    by_seats (λ (x y : View). HasLoaded x y m.values c.hold.new.self.values o at most c.reply_of.result)
    c.in-Some-Some.ensures.value there at_s at_t (record {
      replies = adds_replies w m.values c.hold.new.self.values o c.reply_of.result loads.adds
          (λ told. gload_answers v.thread (v.seen ++ loads.adds.between) m.values c.args.dst c.args.g loads.value
          (reply_found w c.in_ok-target.target loads.value c.reply_of.result
          c.in_ok-target.ensures.seat.is_seat.within loads.names c.reply_of.ensures.null c.reply_of.ensures.some) values
          refl);
      words = loads.words;
      wins = loads.wins;
      counts = loads.counts;
      claims = loads.claims;
    })

pub returns-in_err-target-clause-seated : goal.returns-in_err-target-clause-seated
returns-in_err-target-clause-seated g c =
    refused_seated c.args.self.now.words c.args.m.now c.requires.seated c.in-Some-Some.seat.now
    c.in-Some-Some.ensures.value c.load_global.new.seat (Some c.load_global.new.reader) c.in_err-target.ensures.seat
    c.in_err-target.ensures.loads

pub returns-clause-holds : goal.returns-clause-holds
returns-clause-holds g c =
    let new = c.load_global.new.seat in
    holds_found c.args.m.now (Some new) (Some c.load_global.new.reader) c.args.dst (last_given (knows_of new).seen)
    c.reply_of.result c.hold.ensures.holds c.reply_of.ensures.null c.reply_of.ensures.some
