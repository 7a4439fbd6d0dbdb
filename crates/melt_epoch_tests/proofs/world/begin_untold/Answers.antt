use Rattle.std.proofs.Common.{sym, subst, List}
use Rattle.melt_model.specs.declared.history.Entry.{Entry}
use Rattle.melt_epoch.specs.Ends.{HistoryBegins}
use Rattle.melt_epoch_tests.proofs.Untold.{untold_goes, untold_heap, untold_history, untold_mutators, untold_start}
use Rattle.melt_epoch_tests.proofs.world.begin_untold.Goals as goal

pub begin-requires : goal.begin-requires
begin-requires g c = λ κs within.
    let heap = c.args.heap in
    let end = c.args.end in
    let formed = c.requires.formed in
    let ready = c.requires.ready in
    let history = subst (λ (h : List Entry). HistoryBegins (untold_start heap end) heap h) (sym c.new.ensures)
    (untold_history heap end formed ready) in
    let mutators = untold_mutators heap end formed ready (g.R.RecordReader.image) c.args.mutators.now
    c.requires.mutators in
    (within, (untold_heap heap end formed ready, (history, mutators)))

pub returns : goal.returns
returns g c =
    untold_goes c.args.heap c.args.end c.requires.formed c.requires.ready (g.R.RecordReader.image) c.begin.result
    c.begin.new.mutators c.args.mutators.now c.requires.mutators c.begin.ensures.kept c.begin.ensures.start
    c.begin.ensures.joined c.begin.ensures.readers
