use Rattle.melt_rule.specs.Seats.{knows_of}
use Rattle.melt_epoch.proofs.Paired.{pairs_with}
use Rattle.melt_epoch.proofs.epoch.Epoch.finish.Given as goal

abbrev pub ghost-pick : goal.ghost-pick
ghost-pick g a = record {
  addresses = pairs_with (knows_of a.from.now.1.now).known a.from.now.0.now.start.began.maps.addresses;
  homes = a.from.now.0.now.start.began.maps.homes;
}

abbrev pub ghost-note : goal.ghost-note
ghost-note g a = (knows_of a.from.now).seen
