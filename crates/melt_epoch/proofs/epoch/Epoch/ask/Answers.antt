use Rattle.melt_epoch.proofs.Asking.{asked_again, is_asked}
use Rattle.melt_epoch.proofs.epoch.Epoch.ask.Goals as goal

pub returns-clause-seated : goal.returns-clause-seated
returns-clause-seated g c =
    asked_again c.args.m.now c.in-Some.seat.now c.in-Some.ensures.value c.args.self.now.words c.requires.seated
    c.ask.new.seat c.ask.ensures.seat c.ask.ensures.asks

pub returns-clause-asked : goal.returns-clause-asked
returns-clause-asked g c =
    is_asked c.args.m.now c.in-Some.seat.now c.in-Some.ensures.value c.ask.new.seat c.ask.ensures.asks
