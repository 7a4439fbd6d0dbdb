use Rattle.std.proofs.Common.{◌≡◌, ℕ, ◌+◌, ◌/◌, ◌⊎◌, inl, inr, List, length, sym, ◌∙◌, ap, subst, arith}
use Rattle.melt_scion.specs.declared.registers.Registers.{Registers}
use Rattle.melt_core.specs.Holdings.{IsHeldBefore, Takes, nth_register}
use Rattle.melt_core.specs.Views.{registers_in}
use Rattle.melt_core.proofs.Holdings.{Counted, all_held, counted_none, counted_more, counted_first}
use Rattle.melt_core.proofs.held.held_words.Goals as goal
use Rattle.melt_core.proofs.held.held_words.Goals.{then-address-ne0+then-not-is_held_before, else-address-ne0}
use Rattle.melt_core.proofs.held.held_words.Goals.{else-address-ne0-via-then-address-ne0+else-not-is_held_before}
use Rattle.melt_core.proofs.held.held_words.Goals.{else-address-ne0-via-else-address-ne0}

pub loop-k-init : goal.loop-k-init
loop-k-init c = λ v space held. counted_none v

pub loop-k-preserved : goal.loop-k-preserved
loop-k-preserved c = λ v space held.
    let k = c.loop-k.k in
    let at = c.nth_register-address.ensures in
    let value : _ ≡ nth_register v.held k = at.value ∙ ap (λ (h : List Registers). nth_register h k) (sym held) in
    let sixteen : length (registers_in v.held (k / 16)) ≡ 16 =
    subst (λ (h : List Registers). length (registers_in h (k / 16)) ≡ 16) (sym held) at.sixteen in
    elim c.if-address-ne0.branch [
      | then-address-ne0+then-not-is_held_before w ↦
          subst (Counted v (k + 1)) (sym w.words-is)
          (counted_first v k c.loop-k.words w.words_at-words.result (c.loop-k.invariant v space held) (record {
            sixteen = sixteen;
            some = λ nothing. w.if-address-ne0.true (value ∙ nothing);
            first = λ before.
                let no = w.if-not-is_held_before.ensures.1
                (subst (λ (h : List Registers). IsHeldBefore h k) held before) in cc;
            takes = subst (λ (a : ℕ). Takes v a w.words_at-words.result) value (w.words_at-words.ensures v space);
          }))
      | else-address-ne0 w ↦
          let none : (nth_register v.held k ≡ 0) ⊎ IsHeldBefore v.held k = elim w.else-address-ne0.branch [
            | else-address-ne0-via-then-address-ne0+else-not-is_held_before w' ↦
                inr (subst (λ (h : List Registers). IsHeldBefore h k) (sym held)
                (w'.is_held_before.ensures.0 w'.if-not-is_held_before.false))
            | else-address-ne0-via-else-address-ne0 w' ↦ inl (sym value ∙ w'.if-address-ne0.false)
          ] in
          subst (Counted v (k + 1)) (sym w.words-is)
          (counted_more v k c.loop-k.words (c.loop-k.invariant v space held) sixteen none)
    ]

pub overflow_add-words : goal.overflow_add-words
overflow_add-words c =
    let sound = c.requires in
    let few = (c.loop-k.invariant sound.shown sound.space_is sound.held_is).few in
    let more = (c.words_at-words.ensures sound.shown sound.space_is).few in
    let threads = sound.sound.1.few in
    let same = ap (λ (h : List Registers). length h) sound.held_is in
    omega (arith, few, more, threads, same)

pub returns : goal.returns
returns c = λ v space held.
    all_held v c.loop-k.k c.loop-k.words (c.loop-k.invariant v space held)
    (let past = c.loop-k-test.false in
    let same = ap (λ (h : List Registers). length h) held in
    omega (arith, past, same))
