use Rattle.melt_model.specs.declared.operations.Op.TheVariants.{Get}
use Rattle.melt_epoch.proofs.Seated.{names_here, plain_again, seated_again}
use Rattle.melt_epoch.proofs.epoch.Epoch.get.Goals as goal

pub returns : goal.returns
returns g c =
    let words = c.args.self.now.words in
    let m = c.args.m.now in
    let seat = c.in-Some.seat.now in
    let is = c.in-Some.ensures.value in
    let new = c.read_number.new.seat in
    let plain = c.read_number.ensures.plain m.values c.args.src
    (names_here words m c.requires.seated seat is c.args.src) in
    record {
      seated = seated_again words m c.requires.seated seat is new 0 0 3 c.read_number.ensures.seat plain.counts;
      plain = plain_again words m c.requires.seated seat is new (Get c.args.src c.args.j) 3 c.read_number.result plain;
    }
