use Rattle.std.proofs.Common.{ℕ, arith, below_more, subst}
use Rattle.std.specs.Prelude.{slice_index}
use Rattle.melt_forward.specs.Forwarding.{Sends, SendsAnother, probed}
use Rattle.melt_forward.proofs.Searching.{ends_at, ends_empty, ends_full}
use Rattle.melt_forward.proofs.forwarding.find.Goals as goal

pub returns-in-None : goal.returns-in-None
returns-in-None c =
    ends_empty c.args.words.now c.args.home c.loop-tried.tried c.place_of-place.result c.loop-tried.invariant
    c.requires.no_gaps c.loop-tried-test.true c.place_of-place.ensures.place c.in-None.ensures

pub returns-in-Some : goal.returns-in-Some
returns-in-Some c =
    let words = c.args.words.now in
    let sends : Sends (slice_index words c.place_of-place.result) c.args.home c.in-Some.address =
    subst (λ (h : ℕ). Sends (slice_index words c.place_of-place.result) h c.in-Some.address) c.if-sent-home.true
    c.in-Some.ensures in
    ends_at words c.args.home c.loop-tried.tried c.in-Some.address c.loop-tried.invariant c.loop-tried-test.true
    (subst (λ (p : ℕ). Sends (slice_index words p) c.args.home c.in-Some.address) c.place_of-place.ensures.place sends)

pub loop-tried-preserved : goal.loop-tried-preserved
loop-tried-preserved c =
    let words = c.args.words.now in
    let another : SendsAnother (probed words c.args.home c.loop-tried.tried) c.args.home =
    subst (λ (p : ℕ). SendsAnother (slice_index words p) c.args.home) c.place_of-place.ensures.place
    (c.in-Some.sent, c.in-Some.address, c.if-sent-home.false, c.in-Some.ensures) in
    below_more _ _ c.loop-tried.invariant another

pub returns : goal.returns
returns c = ends_full c.args.words.now c.args.home c.loop-tried.tried c.loop-tried.invariant (omega arith)
