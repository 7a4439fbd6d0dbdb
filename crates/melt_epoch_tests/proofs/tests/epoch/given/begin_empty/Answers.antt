use Rattle.std.proofs.Common.{◌≡◌, ℕ, List, length, map, refl, sym, ap, subst}
use Rattle.std.proofs.lemmas.List.{length-map}
use Rattle.std.proofs.lemmas.Result.{IfOk-weaker}
use Rattle.melt_model.specs.declared.history.Entry.{Entry}
use Rattle.melt_rule.specs.declared.began.Start.{Start}
use Rattle.melt_epoch.specs.declared.epoch.Epoch.{Epoch}
use Rattle.melt_epoch.specs.declared.mutator.Mutator.{Mutator}
use Rattle.melt_epoch.specs.Ends.{HistoryBegins}
use Rattle.melt_epoch.proofs.Empty.{begun_all, empty_start, new_heap_begins, no_history_begins}
use Rattle.melt_epoch_tests.proofs.tests.epoch.given.begin_empty.Goals as goal

pub begin-requires : goal.begin-requires
begin-requires g c = λ κs within.
    let new = c.requires.heap in
    let threads : List ℕ = map (λ (m : Mutator g.row.R.Denot). m.thread) c.args.mutators.now in
    let start : Start = empty_start threads c.args.heap in
    let begins =
    new_heap_begins threads c.args.heap new.0 new.1 new.2 new.3.0 new.3.1 new.3.2 new.4 in
    let stands =
    no_history_begins threads c.args.heap new.0 new.1 new.2 new.3.0 new.3.1 new.3.2 new.4 in
    let history = subst (λ (h : List Entry). HistoryBegins start c.args.heap h) (sym c.new.ensures) stands in
    (within, (begins, (history, c.requires.mutators start refl refl)))

pub returns-clause-begun : goal.returns-clause-begun
returns-clause-begun g c =
    let threads : List ℕ = map (λ (m : Mutator g.row.R.Denot). m.thread) c.args.mutators.now in
    let start : Start = empty_start threads c.args.heap in
    begun_all (g.R.RecordReader.image) c.begin.result start c.begin.new.mutators c.args.mutators.now
    (c.requires.mutators start refl refl).some_thread
    (length-map c.args.mutators.now (λ (m : Mutator g.row.R.Denot). m.thread))
    c.begin.ensures.kept c.begin.ensures.start c.begin.ensures.joined c.begin.ensures.readers

pub returns-clause-globals : goal.returns-clause-globals
returns-clause-globals g c =
    let threads : List ℕ = map (λ (m : Mutator g.row.R.Denot). m.thread) c.args.mutators.now in
    let start : Start = empty_start threads c.args.heap in
    IfOk-weaker c.begin.result (λ (e : Epoch). e.words.start ≡ start)
    (λ (e : Epoch). length c.args.heap.globals ≡ e.words.start.began.globals)
    (λ e is. ap (λ (s : Start). s.began.globals) (sym is)) c.begin.ensures.start
