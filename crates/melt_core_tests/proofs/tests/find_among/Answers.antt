use Rattle.std.proofs.Common.{◌∙◌, ap, inl, inr, subst, sym}
use Rattle.melt_forward.specs.Forwarding.{AreForwarding, HaveNoGaps}
use Rattle.melt_scion.proofs.Searching.{words_without_gaps}
use Rattle.melt_scion.specs.declared.heap.Heap.{Heap}
use Rattle.melt_core_tests.proofs.tests.find_among.Goals as goal

-- the words that are searched are those of the heap
pub find-requires-clause-words : goal.find-requires-clause-words
find-requires-clause-words c =
    let (told, log, maps, held, disk, holds) = c.requires.holds in
    let are : AreForwarding c.args.heap.now.forward = λ k below. elim (holds.formed.forwards k below) [
      | inl empty ↦ inl empty
      | inr (home, address, sends, stands) ↦ inr (home, address, sends)
    ] in
    subst AreForwarding (sym (c.deref.ensures.value ∙ ap (λ (heap : Heap). heap.forward) c.heap.view_is)) are

pub find-requires-clause-no_gaps : goal.find-requires-clause-no_gaps
find-requires-clause-no_gaps c =
    let (told, log, maps, held, disk, holds) = c.requires.holds in
    subst HaveNoGaps (sym (c.deref.ensures.value ∙ ap (λ (heap : Heap). heap.forward) c.heap.view_is))
    (words_without_gaps c.args.heap.now held disk holds.no_gaps)
