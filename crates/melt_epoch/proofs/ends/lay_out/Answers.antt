use Rattle.std.proofs.Common.{◌≡◌, ℕ, ◌+◌, List, ◌++◌, ◌∙◌, ap, append_assoc, length, subst}
use Rattle.melt_scion.specs.declared.heap.Heap.{Heap}
use Rattle.melt_space.specs.Space.{AreWords, SpaceWords}
use Rattle.melt_rule.specs.Shown.{leading_words}
use Rattle.melt_epoch.proofs.Laid.{all_words}
use Rattle.melt_epoch.proofs.ends.lay_out.Goals as goal

pub returns : goal.returns
returns c =
    let heap = c.args.heap.now in
    let begin : List ℕ = leading_words 0 (heap.space.used + 1) in
    let used : c.used.result + 1 ≡ heap.space.used + 1 = ap (λ (n : ℕ). n + 1) c.used.ensures.value
    ∙ ap (λ (h : Heap). h.space.used + 1) c.heap.view_is in
    let first : c.extend_from_slice.new.self.items ≡ begin =
    c.in_ok-extend_from_slice.ensures.items
    ∙ (ap (λ (l : List ℕ). l ++ c.leading_words.result) c.new-words.ensures.items
    ∙ (c.leading_words.ensures ∙ ap (leading_words 0) used)) in
    let globals : c.extend_from_slice-2.new.self.items ≡ begin ++ heap.globals =
    c.in_ok-extend_from_slice-2.ensures.items
    ∙ (ap (λ (l : List ℕ). l ++ c.deref.result.now) first
    ∙ ap (λ (l : List ℕ). begin ++ l) (c.deref.ensures.value ∙ ap (λ (h : Heap). h.globals) c.heap.view_is)) in
    let forwards : c.extend_from_slice-3.new.self.items ≡ begin ++ (heap.globals ++ heap.forward) =
    c.in_ok-extend_from_slice-3.ensures.items
    ∙ (ap (λ (l : List ℕ). l ++ c.deref-2.result.now) globals
    ∙ (append_assoc begin heap.globals c.deref-2.result.now
    ∙ ap (λ (l : List ℕ). begin ++ (heap.globals ++ l))
    (c.deref-2.ensures.value ∙ ap (λ (h : Heap). h.forward) c.heap.view_is))) in
    let all : c.words_at.result.now ≡ heap.space.list =
    all_words heap.space c.words_at.result.now
    (subst (λ (s : SpaceWords). AreWords s 1 (length s.list) c.words_at.result.now)
    (ap (λ (h : Heap). h.space) c.heap.view_is)
    (subst (λ (n : ℕ). AreWords c.heap.inside.0.0 1 n c.words_at.result.now) c.words.ensures.value
    c.words_at.ensures)) in
    c.in_ok-extend_from_slice-4.ensures.items
    ∙ (ap (λ (l : List ℕ). l ++ c.words_at.result.now) forwards
    ∙ (append_assoc begin (heap.globals ++ heap.forward) c.words_at.result.now
    ∙ (ap (λ (l : List ℕ). begin ++ ((heap.globals ++ heap.forward) ++ l)) all
    ∙ ap (λ (l : List ℕ). begin ++ l) (append_assoc heap.globals heap.forward heap.space.list))))
