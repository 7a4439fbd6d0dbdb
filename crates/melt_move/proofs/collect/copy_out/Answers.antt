use Rattle.melt_move.proofs.Prepared.{may_copy, may_copy_globals, copies_out}
use Rattle.melt_move.proofs.collect.copy_out.Goals as goal

pub copy_words-globals-requires-clause-sources : goal.copy_words-globals-requires-clause-sources
copy_words-globals-requires-clause-sources g c =
    may_copy_globals _ c.args.heap.now c.args.held.now c.heap.view_is c.args.decision.now c.requires.decides
    c.requires.room c.deref-2.result.now c.deref-2.ensures.value c.requires.formed

pub copy_staying-words-requires-clause-decided : goal.copy_staying-words-requires-clause-decided
copy_staying-words-requires-clause-decided g c =
    may_copy _ c.args.heap.now c.args.held.now c.heap.view_is c.args.decision.now c.requires.decides
    c.requires.room c.deref-2.result.now c.deref-2.ensures.value c.requires.formed

pub returns-clause-copies : goal.returns-clause-copies
returns-clause-copies g c =
    copies_out _ c.args.heap.now c.args.held.now c.heap.view_is c.args.decision.now c.requires.decides
    c.requires.room c.deref-2.result.now c.deref-2.ensures.value _ c.copy_staying-words.ensures.stand
    c.copy_words-globals.ensures.stay
