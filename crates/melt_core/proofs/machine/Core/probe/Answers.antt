use Rattle.std.proofs.Common.{◌≡◌, ℕ, get_or, sym, ◌∙◌, ap, subst}
use Rattle.melt_forward.specs.Forwarding.{Sends}
use Rattle.melt_core.specs.Changed.{probed_word}
use Rattle.melt_core.specs.declared.machine.Core.{Core}
use Rattle.melt_core.specs.Views.{View, view}
use Rattle.melt_core.proofs.Searching.{probed_read}
use Rattle.melt_core.proofs.machine.Core.probe.Goals as goal

pub returns-in-None : goal.returns-in-None
returns-in-None c =
    let v : View = view c.args.self.now in
    let word : c.index.result.now ≡ probed_word v c.args.search =
    probed_read v c.args.search c.place.result c.index.result.now c.place.ensures.place c.place.ensures.within
    (c.index.ensures ∙ ap (λ (core : Core). get_or core.heap.forward c.place.result c.index.result.now) c.self.view_is) in
    sym word ∙ c.in-None.ensures

pub returns-in-Some : goal.returns-in-Some
returns-in-Some c =
    let v : View = view c.args.self.now in
    let word : c.index.result.now ≡ probed_word v c.args.search =
    probed_read v c.args.search c.place.result c.index.result.now c.place.ensures.place c.place.ensures.within
    (c.index.ensures ∙ ap (λ (core : Core). get_or core.heap.forward c.place.result c.index.result.now) c.self.view_is) in
    subst (λ (h : ℕ). Sends (probed_word v c.args.search) h c.in-Some.address) c.if-home-search.true
    (subst (λ (w : ℕ). Sends w c.in-Some.home c.in-Some.address) word c.in-Some.ensures)

pub returns-in-Some-2 : goal.returns-in-Some-2
returns-in-Some-2 c =
    let v : View = view c.args.self.now in
    let word : c.index.result.now ≡ probed_word v c.args.search =
    probed_read v c.args.search c.place.result c.index.result.now c.place.ensures.place c.place.ensures.within
    (c.index.ensures ∙ ap (λ (core : Core). get_or core.heap.forward c.place.result c.index.result.now) c.self.view_is) in (
      c.in-Some.home,
      c.in-Some.address,
      c.if-home-search.false,
      subst (λ (w : ℕ). Sends w c.in-Some.home c.in-Some.address) word c.in-Some.ensures,
    )
