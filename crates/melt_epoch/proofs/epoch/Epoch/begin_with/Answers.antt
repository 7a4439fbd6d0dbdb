use Rattle.std.proofs.Common.{◌≡◌, ◌≤◌, List, length, refl, sym, ◌∙◌, subst}
use Rattle.melt_scion.specs.declared.heap.Heap.{Heap}
use Rattle.melt_model.specs.History.{Legal}
use Rattle.melt_model.specs.declared.history.Entry.{Entry}
use Rattle.melt_rule.specs.Beginning.{MayBegin}
use Rattle.melt_rule.specs.declared.began.Start.{Start}
use Rattle.melt_epoch.proofs.Begun.{all_joined, all_readers, epoch_fits, none_seated, words_begin}
use Rattle.melt_epoch.specs.Ends.{HistoryBegins, MutatorsBegin}
use Rattle.melt_epoch.specs.Gathering.{words_of_heap}
use Rattle.melt_epoch.proofs.epoch.Epoch.begin_with.Goals as goal

pub returns-in_err-laid-clause-kept : goal.returns-in_err-laid-clause-kept
returns-in_err-laid-clause-kept g c =
    none_seated (g.R.RecordReader.image) c.args.start.now c.args.mutators.now c.requires.mutators.each

pub begin-requires-clause-begins : goal.begin-requires-clause-begins
begin-requires-clause-begins g c =
    let start : Start = c.args.start.now in
    let is : c.args.start.now ≡ start = refl in
    let heap : Heap = c.args.heap in
    let words : words_of_heap heap ≡ c.deref.result.now = sym (c.deref.ensures.value ∙ c.in_ok-laid.ensures) in
    let within : heap.space.used ≤ length heap.space.list =
    subst (λ (h : Heap). h.space.used ≤ length h.space.list) c.heap.view_is c.words.ensures.within.used in
    subst (MayBegin start) words
    (subst (λ (s : Start). MayBegin s (words_of_heap heap)) is
    (words_begin c.args.start.now heap c.args.end c.args.pass c.requires.heap c.requires.history
    (g.R.RecordReader.image)
    c.args.mutators.now c.requires.mutators within))

pub returns-in_err-words-clause-kept : goal.returns-in_err-words-clause-kept
returns-in_err-words-clause-kept g c =
    none_seated (g.R.RecordReader.image) c.args.start.now c.args.mutators.now c.requires.mutators.each

pub invariant_of-result : goal.invariant_of-result
invariant_of-result g c = record {
  fits = epoch_fits c.args.start.now c.args.heap c.args.end c.args.pass c.requires.heap c.requires.history
      c.in_ok-words.words
      c.in_ok-words.ensures.words;
}

pub returns-clause-joined : goal.returns-clause-joined
returns-clause-joined g c =
    let is : c.args.start.now ≡ c.in_ok-words.words.start = sym c.in_ok-words.ensures.words in
    let mutators = subst (λ (s : Start). MutatorsBegin (g.R.RecordReader.image) s c.args.mutators.now) is
    c.requires.mutators in
    let stands = subst (λ (s : Start). HistoryBegins s c.args.heap c.args.pass) is c.requires.history in
    all_joined (g.R.RecordReader.image) c.in_ok-words.words
    (λ told. subst (λ (h : List Entry). Legal h c.in_ok-words.words.start.began.globals) stands.history_is
    (stands.legal told))
    c.give_seats.new.mutators c.args.mutators.now c.give_seats.ensures.kept mutators.each c.give_seats.ensures.given

pub returns-clause-kept : goal.returns-clause-kept
returns-clause-kept g c =
    c.give_seats.ensures.kept
    ∙ none_seated (g.R.RecordReader.image) c.args.start.now c.args.mutators.now c.requires.mutators.each

pub returns-clause-readers : goal.returns-clause-readers
returns-clause-readers g c =
    let is : c.args.start.now ≡ c.in_ok-words.words.start = sym c.in_ok-words.ensures.words in
    let mutators = subst (λ (s : Start). MutatorsBegin (g.R.RecordReader.image) s c.args.mutators.now) is
    c.requires.mutators in
    all_readers (g.R.RecordReader.image) c.in_ok-words.words c.give_seats.new.mutators c.args.mutators.now
    c.give_seats.ensures.kept mutators.each
