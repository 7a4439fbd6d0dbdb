-- A seat may claim words, store into those that it has, and make them an object; and what each step tells.
use Rattle.std.proofs.Common.{◌≡◌, ℕ, ◌+◌, ◌^◌, ◌%◌, ◌<◌, ◌≤◌, true, false, get_or}
use Rattle.std.proofs.Common.{refl, sym, ◌∙◌, ap, subst, arith, inl, inr, mod-eq_of_lt}
use Rattle.std.proofs.Math.ListN.{set}
use Rattle.std.proofs.lemmas.Bool.{cases_lt}
use Rattle.std.specs.Prelude.{Some}
use mathlib.Core.Option.{none}
use Rattle.atomic_table.specs.Table.{Me, Allows, step}
use Rattle.melt_word.proofs.OneToOne.{same_header}
use Rattle.melt_word.specs.Words.{IsShape, cost_of, header_word}
use Rattle.melt_word.specs.declared.header.Header.{Header}
use Rattle.melt_word.specs.declared.header.Shape.{Shape}
use Rattle.melt_rule.proofs.Keeping.{IsStep}
use Rattle.melt_rule.proofs.Makes.{shape_of_cost, claim_small, claimed, claiming, lacking, filling, publishing}
use Rattle.melt_rule.proofs.Makes.{made_view}
use Rattle.melt_rule.proofs.Within.{allowed}
use Rattle.melt_rule.specs.Making.{Claims, Lacks, Makes, ClaimPlay, FillPlay, PublishPlay}
use Rattle.melt_rule.specs.Rule.{Rule, has_cause, is_reading}
use Rattle.melt_rule.specs.Shown.{free_place, word_place}
use Rattle.melt_rule.specs.Tells.{IsWithin, view_after, Reaches}
use Rattle.melt_rule.specs.declared.began.Began.{Began}
use Rattle.melt_rule.specs.declared.began.Start.{Start}
use Rattle.melt_rule.specs.declared.view.Doing.TheVariants.{Claimed, Lacking}
use Rattle.melt_rule.specs.declared.view.View.{View}

pub claims : {start : Start} {slots : ℕ} (id cost : ℕ) {me : Me ℕ View} → 0 < me.0.parts → has_cause me.0 ≡ false
    → is_reading me.0.doing ≡ false → 2 ≤ cost → cost ≤ 126
    → Allows (Rule start) slots id me free_place (λ n. (n + cost) % 2 ^ 64)
    (ClaimPlay (step slots free_place cost 0 none) me)
claims {start} {slots} id cost {me} live no_cause left low high =
    allowed slots id free_place me (λ n. (n + cost) % 2 ^ 64) (ClaimPlay (step slots free_place cost 0 none) me) live
    (λ words views kept at alive small.
    let free : ℕ = get_or words free_place 0 in
    let wide : free + cost < 2 ^ 64 = claim_small start words views kept id me.0 at alive cost high in
    let whole : (free + cost) % 2 ^ 64 ≡ free + cost = mod-eq_of_lt wide in
    let size : me.0.began.size ≡ start.began.size = ap (λ (b : Began). b.size) (kept.seats id me.0 at alive).began in
    elim (cases_lt (start.began.size + 1) (free + cost)) [
      | inl past ↦
          let w : View = claimed start words views kept id me.0 at alive me.0.rest cost (me.0.over + 1) true
          (Lacking cost) in
          let r : IsStep start words (set words free_place (free + cost)) views kept id me.0 at alive w
          × Lacks me.0 w cost =
          lacking start words views kept id me.0 at alive cost high no_cause left past in (
            w,
            subst (λ (n : ℕ). IsStep start words (set words free_place n) views kept id me.0 at alive w)
                (sym whole) r.0,
            λ inside. ((refl, inside), wide, (λ fits. absurd (omega arith)), (λ over. r.1)),
          )
      | inr fits ↦
          let z = shape_of_cost cost low high in
          let w : ℕ → View =
          λ n. claimed start words views kept id me.0 at alive me.0.rest n me.0.over me.0.spaced (Claimed free z.0 0) in
          let r : IsStep start words (set words free_place (free + cost)) views kept id me.0 at alive (w cost)
          × Claims me.0 (w cost) free cost =
          subst (λ (n : ℕ). IsStep start words (set words free_place (free + n)) views kept id me.0 at alive (w n)
          × Claims me.0 (w n) free n) z.2
          (claiming start words views kept id me.0 at alive z.0 z.1 no_cause left
          (let cost_is : cost_of z.0 ≡ cost = z.2 in omega arith)) in (
            w cost,
            subst (λ (n : ℕ). IsStep start words (set words free_place n) views kept id me.0 at alive (w cost))
                (sym whole) r.0,
            λ inside. ((refl, inside), wide, (λ within. r.1), (λ past. absurd (omega arith))),
          )
    ])

pub fills : {start : Start} {slots : ℕ} (id : ℕ) {i address k : ℕ} {z : Shape} {me : Me ℕ View} → 0 < me.0.parts
    → me.0.doing ≡ Some (Claimed address z k) → k + 1 < cost_of z → i ≡ word_place me.0.began (address + 1 + k)
    → Allows (Rule start) slots id me i (λ n. 0) (λ n. FillPlay (step slots i 0 0 none) me 0)
fills {start} {slots} id {i} {address} {k} {z} {me} live is few placed =
    allowed slots id i me (λ n. 0) (λ n. FillPlay (step slots i 0 0 none) me 0) live (λ words views kept at alive small.
    let place : ℕ = address + 1 + k in
    let there : i ≡ word_place start.began place =
    placed ∙ ap (λ (b : Began). word_place b place) (kept.seats id me.0 at alive).began in
    let w : View = view_after me.0 kept.history me.0.known (Some (Claimed address z (k + 1))) in
    let r = filling start words views kept id me.0 at alive address k z is few in (
      w,
      subst (λ (j : ℕ). IsStep start words (set words j 0) views kept id me.0 at alive w) (sym there) r.0,
      λ inside. (
        (refl, inside),
        λ b j y other.
            let same : Some (Claimed address z k) ≡ Some (Claimed b y j) = sym is ∙ other in
            let doing : Some (Claimed address z (k + 1)) ≡ Some (Claimed b y (j + 1)) = cc in
            subst (Reaches me.0 w) doing r.1,
      ),
    ))

pub publishes : {start : Start} {slots : ℕ} (id : ℕ) {i address k word : ℕ} {y z : Shape} {me : Me ℕ View}
    → 0 < me.0.parts → me.0.doing ≡ Some (Claimed address y k) → k + 1 ≡ cost_of y → cost_of y ≡ cost_of z
    → IsShape z → i ≡ word_place me.0.began address → word ≡ header_word (record { shape = z; stale = false })
    → Allows (Rule start) slots id me i (λ n. word) (λ n. PublishPlay (step slots i word 0 none) me word)
publishes {start} {slots} id {i} {address} {k} {word} {y} {z} {me} live is all cost small placed is_word =
    let header : Header = record { shape = z; stale = false } in
    allowed slots id i me (λ n. word) (λ n. PublishPlay (step slots i word 0 none) me word) live
    (λ words views kept at alive wide.
    let there : i ≡ word_place start.began address =
    placed ∙ ap (λ (b : Began). word_place b address) (kept.seats id me.0 at alive).began in
    let w : View = made_view me.0 kept.history address z in
    let r = publishing start words views kept id me.0 at alive address k y z is all cost small in (
      w,
      subst (λ (x : ℕ). IsStep start words (set words i x) views kept id me.0 at alive w) (sym is_word)
          (subst (λ (j : ℕ). IsStep start words (set words j (header_word header)) views kept id me.0 at alive w)
          (sym there) r.0),
      λ inside. (
        (refl, inside),
        λ b j x q other range stored.
            let same : Some (Claimed address y k) ≡ Some (Claimed b x j) = sym is ∙ other in
            let there : address ≡ b = cc in
            let headers : header ≡ record { shape = q; stale = false } =
            same_header header (record { shape = q; stale = false }) small range (sym is_word ∙ stored) in
            subst (λ (a : ℕ). Makes me.0 w a q) there
            (subst (Makes me.0 w address) (ap (λ (h : Header). h.shape) headers) r.1),
      ),
    ))

-- the region of a call lies within the space
pub region_within : {v : View} {address k : ℕ} {z : Shape} → IsWithin v → v.doing ≡ Some (Claimed address z k)
    → address + cost_of z ≤ v.began.size + 1
region_within inside is = (rw is at inside.doing).1
