use Rattle.melt_model.specs.declared.operations.Op.TheVariants.{Store}
use Rattle.melt_epoch.proofs.Seated.{names_here, plain_again, seated_again}
use Rattle.melt_epoch.proofs.epoch.Epoch.store.Goals as goal

pub returns : goal.returns
returns g c =
    let words = c.args.self.now.words in
    let m = c.args.m.now in
    let seat = c.in-Some.seat.now in
    let is = c.in-Some.ensures.value in
    let new = c.write_slot.new.seat in
    let plain = c.write_slot.ensures.plain m.values c.args.obj c.args.src
    (names_here words m c.requires.seated seat is c.args.obj)
    (names_here words m c.requires.seated seat is c.args.src) in
    record {
      seated = seated_again words m c.requires.seated seat is new 0 0 3 c.write_slot.ensures.seat plain.counts;
      plain = plain_again words m c.requires.seated seat is new (Store c.args.obj c.args.i c.args.src) 3
          c.write_slot.result plain;
    }
