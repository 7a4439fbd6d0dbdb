use Rattle.std.proofs.Common.{List, sym, ◌∙◌, ap, refl, get_or, subst}
use Rattle.melt_rule.specs.Seats.{knows_of}
use Rattle.melt_epoch.proofs.Closed.{epoch_ended}
use Rattle.melt_epoch.specs.Ends.{HasEnded}
use Rattle.std.specs.Prelude.{All}
use Rattle.melt_rule.specs.declared.view.View.{View}
use Rattle.melt_epoch.proofs.Gathered.{Back, all_sum, comes_back, one_each}
use Rattle.melt_epoch.specs.declared.mutator.Mutator.{Mutator}
use Rattle.melt_epoch.proofs.epoch.Epoch.finish.Goals as goal

pub close-ended-requires-clause-all : goal.close-ended-requires-clause-all
close-ended-requires-clause-all g c =
    let ms : List (Mutator g.row.R.Denot) = c.args.mutators.now in
    let back : All Back ms = λ k d below. comes_back c.args.self.words (get_or ms k d) (c.requires.seated k d below) in
    ap (λ (v : View). v.parts) c.take_seats-seat.ensures.gathers
    ∙ (all_sum (λ (v : View). v.parts) (λ v w. refl) refl ms ∙ (one_each ms back ∙ c.requires.all))

pub returns-clause-ended : goal.returns-clause-ended
returns-clause-ended g c =
    let v : View = knows_of c.take_seats-seat.result in
    subst (HasEnded c.args.self.words.start.began c.args.mutators.now c.put_back.new.heap) (sym c.note.ensures)
    (epoch_ended c.args.self.words c.args.mutators.now c.requires c.args.self.heap c.put_back.new.heap c.args.self.end
    c.args.self.fits c.pick.result c.close-ended.result v c.take_seats-seat.ensures.gathers c.close-ended.ensures.ended
    c.put_back.ensures c.pick.ensures)
