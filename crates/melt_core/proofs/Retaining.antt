-- Events after which a call goes on with the words that it owns.
use Rattle.std.proofs.Common.{◌≡◌, ◌≢◌, ◌⊎◌, ℕ, ◌<◌, inl, inr, length, refl, sym, ◌∙◌, ap, subst, arith}
use Rattle.std.proofs.Math.ListN.{set}
use Rattle.std.specs.Prelude.{Bool, false, Option, None, Some}
use Rattle.melt_model.specs.declared.operations.Op.{Op}
use Rattle.melt_space.specs.Space.{SpaceWords}
use Rattle.melt_scion.specs.Regions.{Region, no_region, Apart}
use Rattle.melt_scion.specs.Heaps.{OnDisk, register_in}
use Rattle.melt_core.specs.declared.answer.StepResult.TheVariants.{Going}
use Rattle.melt_core.specs.declared.call.Call.{Call}
use Rattle.melt_core.specs.declared.call.Stage.{Stage}
use Rattle.melt_core.specs.Known.{Known, Evolves, region_of}
use Rattle.melt_core.specs.Events.{Event, quiet}
use Rattle.melt_core.specs.Stages.{Fits, Next, Applies, change_of, cleared_by}
use Rattle.melt_core.specs.Changed.{with_call}
use Rattle.melt_core.specs.Advances.{Asks, AdvancesOver}
use Rattle.melt_core.specs.Views.{View, Standing, maps, state, rest_of, call_of, stage_of, claimed_in}
use Rattle.melt_core.proofs.Asked.{call_at, inside, next_fits}
use Rattle.melt_core.proofs.Claims.{bounded_is, bounded_call, claims_next}
use Rattle.melt_core.proofs.Counting.{Counts_same}
use Rattle.melt_core.proofs.Evolving.{evolves_event}
use Rattle.melt_core.proofs.Going.{goes}
use Rattle.melt_core.proofs.Plain.{as_told}
use Rattle.melt_core.proofs.Regions.{no_region_apart}
use Rattle.melt_core.proofs.Standing.{Made, advances, kept_own}
use Rattle.melt_core.proofs.Staying.{hold_stays}
use Rattle.melt_core.proofs.Words.{same_words}

-- the words of others are apart from those of the call
pub others_apart : {disk : OnDisk} {v : View} {t : ℕ} {o : Op} {stage : Stage} → Asks disk v t o
    → stage_of v t ≡ Some stage → (u : ℕ) (d : Call) → u ≢ t → call_of v u ≡ Some d
    → Apart (region_of stage) (region_of d.stage)
others_apart {disk} {v} {t} {o} {stage} asks at u d differ is =
    asks.stands.apart t u (record { op = o; stage = stage }) d (λ same. differ (sym same))
    (call_at disk v t o stage asks at) is

-- the view after the event
abbrev pub retained : View → SpaceWords → ℕ → Op → Stage → View
retained v space t o stage = with_call (record v { space = space }) t (Some (record { op = o; stage = stage }))

-- What such an event shows. It changes a word of the region, or none.
pub record Retains (disk : OnDisk) (v : View) (space : SpaceWords) (t : ℕ) (o : Op) (before after : Stage)
    (mine : Region) : Type 0 where
  pub at : stage_of v t ≡ Some before
  pub keeps : region_of after ≡ region_of before
  pub mine_is : (mine ≡ no_region) ⊎ (mine ≡ region_of before)
  pub no_clear : cleared_by (Some before) ≡ 0
  pub event : (told : Bool) → Event told v.log (maps v) (maps v) (state disk v)
      (state disk (retained v space t o after)) mine 0 None
  pub words : length space.list ≡ length v.space.list
  pub applies : Applies (maps v) (maps v) (state disk v) (state disk (retained v space t o after))
      (change_of (state disk v) (register_in v.held t) (rest_of v t) (Some before))
  pub next : Next (maps v) (state disk v) (register_in v.held t) v.stop o (Some before) after
  pub known : (told : Bool) → Standing told disk v
      → Known told (maps v) (state disk (retained v space t o after)) (rest_of v t) after

pub retains : {disk : OnDisk} {v : View} {space : SpaceWords} {t : ℕ} {o : Op} {before after : Stage} {mine : Region}
    → Asks disk v t o → Retains disk v space t o before after mine
    → AdvancesOver disk v (retained v space t o after) t o Going
retains {disk} {v} {space} {t} {o} {before} {after} {mine} asks is =
    let s : Standing false disk v = asks.stands in
    let call : Call = record { op = o; stage = after } in
    let w : View = retained v space t o after in
    let within : t < length v.calls = inside disk v t o asks in
    let next : Next (maps v) (state disk v) (register_in v.held t) v.stop o (stage_of v t) after =
    subst (λ (g : Option Stage). Next (maps v) (state disk v) (register_in v.held t) v.stop o g after) (sym is.at)
    is.next in
    let evolves : Evolves (maps v) (maps w) (state disk v) (state disk w) 0 =
    evolves_event false v.log (maps v) (maps w) (state disk v) (state disk w) mine 0 None s.holds.formed
    (is.event false) in
    let claimed : claimed_in (Some call) ≡ claimed_in (call_of v t) =
    ap (λ (r : Region). r.words) is.keeps ∙ sym (ap claimed_in (call_at disk v t o before asks is.at)) in
    let apart : (u : ℕ) (d : Call) → u ≢ t → call_of v u ≡ Some d → Apart (region_of before) (region_of d.stage) =
    others_apart asks is.at in
    let made : Made disk v w t (cleared_by (stage_of v t)) = record {
      mine = mine;
      act = None;
      after = Some call;
      happens = λ told stands. record {
        event = subst (λ (k : ℕ). Event told v.log (maps v) (maps w) (state disk v) (state disk w) mine k None)
            (sym (ap cleared_by is.at ∙ is.no_clear)) (is.event told);
        kept = kept_own disk told v w t (Some call) stands refl;
        first = stands.first;
        bounded = bounded_is w (length v.space.list) v.free v.stop (set v.calls t (Some call)) is.words refl refl refl
            (bounded_call (length v.space.list) v.free v.stop v.calls t (Some call) within
            (claims_next disk v t o (stage_of v t) after next)
            stands.bounded);
        may_hold = λ r. hold_stays (maps v) (maps w) (state disk v) (state disk w) 0 s.holds.formed evolves
            (register_in v.held t r) (s.registers t r);
        known = λ c same. subst (λ (d : Call). Known told (maps w) (state disk w) (rest_of v t) d.stage)
            (let e : call ≡ c = cc in e) (is.known told stands);
        fits = λ c same. subst (λ (d : Call). Fits (register_in v.held t) d.op d.stage) (let e : call ≡ c = cc in e)
            (next_fits (maps v) (state disk v) (register_in v.held t) v.stop o after asks.continued
            (λ d there. s.fits t d there) next);
        mine_is = λ u d differ other. elim is.mine_is [
          | inl none ↦ subst (λ (r : Region). Apart r (region_of d.stage)) (sym none)
              (no_region_apart (region_of d.stage))
          | inr same ↦ subst (λ (r : Region). Apart r (region_of d.stage)) (sym same) (apart u d differ other)
        ];
        apart = λ c same u d differ other. subst (λ (x : Call). Apart (region_of x.stage) (region_of d.stage))
            (let e : call ≡ c = cc in e)
            (subst (λ (r : Region). Apart r (region_of d.stage)) (sym is.keeps) (apart u d differ other));
        counts = λ same. Counts_same disk v w t (Some call) (as_told disk told v same stands) asks.thread refl
            (record {
              names = refl;
              words = is.words;
              calls = refl;
              below = omega (arith, claimed);
              within = inl (omega (arith, claimed));
            });
      };
    } in
    advances Going asks made refl (subst (λ (g : Option Stage). Applies (maps v) (maps w) (state disk v) (state disk w)
    (change_of (state disk v) (register_in v.held t) (rest_of v t) g)) (sym is.at) is.applies)
    (goes disk v w t o after asks next refl (record { history = refl; registers = refl; values = refl }) refl) tt

-- no word that threads share changes
pub still_retains : (disk : OnDisk) (v : View) (t : ℕ) (o : Op) (before after : Stage) → Asks disk v t o
    → stage_of v t ≡ Some before → region_of after ≡ region_of before → cleared_by (Some before) ≡ 0
    → Applies (maps v) (maps v) (state disk v) (state disk v)
    (change_of (state disk v) (register_in v.held t) (rest_of v t) (Some before))
    → Next (maps v) (state disk v) (register_in v.held t) v.stop o (Some before) after
    → ((told : Bool) → Standing told disk v → Known told (maps v) (state disk v) (rest_of v t) after)
    → AdvancesOver disk v (with_call v t (Some (record { op = o; stage = after }))) t o Going
still_retains disk v t o before after asks at keeps no_clear applies next known =
    retains asks (record {
      at = at;
      keeps = keeps;
      mine_is = inl refl;
      no_clear = no_clear;
      event = λ told. quiet refl (same_words disk v);
      words = refl;
      applies = applies;
      next = next;
      known = known;
    })
