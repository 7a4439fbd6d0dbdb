-- Events that leave the names, the first free place and the stop word, and whose thread owns no words before and after
-- them. What each of these shows is less. What the thread reads of a record may differ.
use Rattle.std.proofs.Common.{◌≡◌, ◌≢◌, ℕ, ◌<◌, ◌≤◌, inl, List, [], ◌∷◌, length, refl, sym, ◌∙◌, ap, subst, arith}
use Rattle.std.proofs.Math.ListN.{set}
use Rattle.std.specs.Prelude.{Bool, true, Option, None, Some, IsSome}
use Rattle.std.specs.List.{cons_option}
use Rattle.melt_model.specs.History.{Shape, made as makes, shape_made}
use Rattle.melt_model.specs.declared.history.Act.{Act}
use Rattle.melt_model.specs.declared.history.Entry.{Entry}
use Rattle.melt_model.proofs.Histories.{made-append}
use Rattle.melt_scion.specs.Placed.{MayHold}
use Rattle.melt_scion.specs.Regions.{Region, no_region, Apart}
use Rattle.melt_scion.specs.Heaps.{OnDisk, register_in}
use Rattle.melt_core.specs.declared.call.Call.{Call}
use Rattle.melt_core.specs.declared.call.Stage.{Stage}
use Rattle.melt_core.specs.declared.call.Stage.TheVariants.{Polled, Headed, Looked, Cleared, Claimed, Lacking}
use Rattle.melt_core.specs.declared.call.Stage.TheVariants.{Searching, Missed, HeadRead, BodyRead, Copying, Copied}
use Rattle.melt_core.specs.declared.call.Stage.TheVariants.{Retrying, LackingCopy}
use Rattle.melt_core.specs.Answering.{entry, with_entry}
use Rattle.melt_core.specs.Known.{Known, region_of}
use Rattle.melt_core.specs.Stages.{Fits}
use Rattle.melt_core.specs.Events.{Event}
use Rattle.melt_core.specs.Views.{View, Standing, Counts, maps, state, numbers_of, registers_in}
use Rattle.melt_core.specs.Views.{stage_in, stage_of, rest_of, claimed_in, claims_left}
use Rattle.melt_core.proofs.Keeping.{event_keeps}
use Rattle.melt_core.proofs.Staying.{hold_stays}
use Rattle.melt_core.proofs.Regions.{no_region_apart}
use Rattle.melt_core.proofs.Claims.{bounded_is, bounded_call}
use Rattle.melt_core.proofs.Counting.{Claims, Counts_same, Counts_entry}
use Rattle.melt_core.proofs.Standing.{KeepsRests, MadeWhere}

-- an act that makes no object, or none at all
abbrev pub MakesNothing : Option Act → Type 0
MakesNothing None = Unit {0}
MakesNothing (Some act) = shape_made act ≡ None

-- Words, globals and registers may differ, the history has the entry more, and the call of the thread is this.
abbrev pub OnlyMoves : View → View → ℕ → Option Act → Option Call → Type 0
OnlyMoves v w t act after = w ≡ record v {
  space = w.space;
  globals = w.globals;
  held = w.held;
  calls = set v.calls t after;
  log = with_entry t v.log act;
}

-- Where something is told after the event, so much is.
pub record Plain (tells : Type 0) (disk : OnDisk) (v w : View) (t : ℕ) (cleared : ℕ) (act : Option Act)
    (after : Option Call) : Type 0 where
  pub event : (told : Bool) → Standing told disk v
      → Event told v.log (maps v) (maps w) (state disk v) (state disk w) no_region cleared act
  pub nothing : MakesNothing act
  pub moves : OnlyMoves (record v { records = w.records }) w t act after
  pub rests : KeepsRests v w t
  pub words : length w.space.list ≡ length v.space.list
  pub threads : length w.held ≡ length v.held
  pub others : (u : ℕ) → u ≢ t → registers_in w.held u ≡ registers_in v.held u
  pub may_hold : (r : ℕ) → MayHold (maps v) (state disk v) (register_in w.held t r)
  pub known : (told : Bool) → (told ≡ true → tells) → Standing told disk v → (c : Call) → after ≡ Some c
      → Known told (maps w) (state disk w) (rest_of w t) c.stage
  pub fits : (c : Call) → after ≡ Some c → Fits (register_in w.held t) c.op c.stage
  pub unclaimed : claimed_in after ≡ 0
  pub claims : claims_left v.stop (stage_in after) ≤ claims_left v.stop (stage_of v t)

made_none : (t : ℕ) (act : Act) → shape_made act ≡ None → makes (entry t act ∷ []) ≡ 0
made_none t act nothing = ap (λ (z : Option Shape). length (cons_option z [])) nothing

made_same : (h : List Entry) (t : ℕ) (act : Option Act) → MakesNothing act → makes h ≡ makes (with_entry t h act)
made_same h t None nothing = refl
made_same h t (Some act) nothing =
    let one : makes (entry t act ∷ []) ≡ 0 = made_none t act nothing in
    omega (arith, made-append h (entry t act ∷ []))

-- a region of no words
unclaimed_region : (stage : Stage) → (region_of stage).words ≡ 0 → region_of stage ≡ no_region
unclaimed_region (Polled task) none = refl
unclaimed_region (Headed address shape access) none = refl
unclaimed_region (Looked place found target dst) none = refl
unclaimed_region (Cleared place found target dst) none = refl
unclaimed_region (Claimed address shape stored dst) none = absurd (omega arith)
unclaimed_region (Lacking need) none = refl
unclaimed_region (Searching search) none = refl
unclaimed_region (Missed search) none = refl
unclaimed_region (HeadRead search shape) none = refl
unclaimed_region (BodyRead search shape) none = refl
unclaimed_region (Copying a stored) none = absurd (omega arith)
unclaimed_region (Copied a) none = absurd (omega arith)
unclaimed_region (Retrying a) none = absurd (omega arith)
unclaimed_region (LackingCopy search shape) none = refl

plain_claims : {tells : Type 0} {disk : OnDisk} {v w : View} {t cleared : ℕ} {act : Option Act} {after : Option Call}
    → Plain tells disk v w t cleared act after → Claims v w t after
plain_claims {v} {w} p = record {
  names = ap (λ (x : View). x.names) p.moves;
  words = p.words;
  calls = ap (λ (x : View). x.calls) p.moves;
  below = let free : w.free ≡ v.free = ap (λ (x : View). x.free) p.moves in
      omega (arith, p.unclaimed);
  within = inl (omega (arith, p.unclaimed));
}

counts_plain : {tells : Type 0} {disk : OnDisk} {v w : View} {t cleared : ℕ} (act : Option Act) {after : Option Call}
    → Standing true disk v → t < length v.held → Plain tells disk v w t cleared act after → Counts w
counts_plain {disk} {v} {w} {t} None {after} s within p =
    Counts_same disk v w t after s within (ap (λ (x : View). x.log) p.moves)
    (plain_claims p)
counts_plain {disk} {v} {w} {t} (Some act) {after} s within p =
    Counts_entry disk v w t after (entry t act) s within (ap (λ (x : View). x.log) p.moves)
    (plain_claims p)

-- where it is told, it is told so
pub as_told : (disk : OnDisk) (told : Bool) (v : View) → told ≡ true → Standing told disk v → Standing true disk v
as_told disk told v is s = subst (λ (b : Bool). Standing b disk v) is s

pub plain : {tells : Type 0} {disk : OnDisk} {v w : View} {t cleared : ℕ} {act : Option Act} {after : Option Call}
    → t < length v.held → Plain tells disk v w t cleared act after → MadeWhere tells disk v w t cleared
plain {disk} {v} {w} {t} {cleared} {act} {after} within p = record {
  mine = no_region;
  act = act;
  after = after;
  happens = λ told tell s.
      let inside : t < length v.calls = let each : length v.calls ≡ length v.held = s.each in omega arith in
      let log : w.log ≡ with_entry t v.log act = ap (λ (x : View). x.log) p.moves in
      let calls : w.calls ≡ set v.calls t after = ap (λ (x : View). x.calls) p.moves in
      let free : w.free ≡ v.free = ap (λ (x : View). x.free) p.moves in
      record {
        event = p.event told s;
        kept = record {
          log = log;
          calls = calls;
          threads = p.threads;
          others = p.others;
          named = subst IsSome (sym (ap (λ (x : View). x.names) p.moves)) s.named;
          room = ap (λ (x : View). length (numbers_of x.names)) p.moves;
          scions = ap (λ (x : View). x.scions) p.moves;
          rests = p.rests;
          made = ap (λ (x : View). x.made) p.moves
              ∙ (s.counted ∙ (made_same v.log t act p.nothing ∙ ap makes (sym log)));
        };
        first = let first : 1 ≤ v.free = s.first in omega arith;
        bounded = bounded_is w (length v.space.list) v.free v.stop (set v.calls t after) p.words free
            (ap (λ (x : View). x.stop) p.moves) calls
            (bounded_call (length v.space.list) v.free v.stop v.calls t after inside p.claims s.bounded);
        may_hold = λ r. hold_stays (maps v) (maps w) (state disk v) (state disk w) cleared s.holds.formed
            (event_keeps told t v.log (maps v) (maps w) (state disk v) (state disk w) no_region cleared act s.legal
            s.holds
            (p.event told s)).evolves (register_in w.held t r) (p.may_hold r);
        known = p.known told tell s;
        fits = p.fits;
        mine_is = λ u d differ is. no_region_apart (region_of d.stage);
        apart = λ c is u d differ other.
            subst (λ (r : Region). Apart r (region_of d.stage))
            (sym (unclaimed_region c.stage (sym (ap claimed_in is) ∙ p.unclaimed)))
            (no_region_apart (region_of d.stage));
        counts = λ is. counts_plain act (as_told disk told v is s) within p;
      };
}
