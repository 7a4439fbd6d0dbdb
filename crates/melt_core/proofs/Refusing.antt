-- A call is refused, and the stop word is set: the thread has to pause.
use Rattle.std.proofs.Common.{◌≡◌, ℕ, ◌<◌, inl, length, refl, sym, subst, arith}
use Rattle.std.specs.Prelude.{false, None}
use Rattle.melt_model.specs.declared.operations.Op.{Op}
use Rattle.melt_scion.specs.Regions.{no_region}
use Rattle.melt_scion.specs.Heaps.{OnDisk, register_in}
use Rattle.melt_core.specs.declared.answer.StepResult.TheVariants.{Refused}
use Rattle.melt_core.specs.declared.answer.Pause as answer
use Rattle.melt_core.specs.declared.answer.Refusal.TheVariants.{Pause}
use Rattle.melt_core.specs.Known.{region_of}
use Rattle.melt_core.specs.Events.{Event, quiet}
use Rattle.melt_core.specs.Stages.{Nothing, Applies, change_of, cleared_by}
use Rattle.melt_core.specs.Changed.{stopped, with_call}
use Rattle.melt_core.specs.Advances.{Asks, AdvancesOver, Pauses}
use Rattle.melt_core.specs.Views.{View, Standing, maps, state, stage_of, rest_of}
use Rattle.melt_core.proofs.Asked.{inside, still_clears}
use Rattle.melt_core.proofs.Claims.{bounded_refused}
use Rattle.melt_core.proofs.Counting.{Counts_same}
use Rattle.melt_core.proofs.Plain.{as_told}
use Rattle.melt_core.proofs.Regions.{no_region_apart}
use Rattle.melt_core.proofs.Standing.{Made, advances, kept_own}
use Rattle.melt_core.proofs.Words.{same_words}

pub pause_advances : (disk : OnDisk) (v : View) (t : ℕ) (o : Op) (pause : answer.Pause) → Asks disk v t o
    → change_of (state disk v) (register_in v.held t) (rest_of v t) (stage_of v t) ≡ Nothing
    → Pauses v (with_call (stopped v) t None) t o pause
    → AdvancesOver disk v (with_call (stopped v) t None) t o (Refused (Pause pause))
pause_advances disk v t o pause asks still pauses =
    let s : Standing false disk v = asks.stands in
    let w : View = with_call (stopped v) t None in
    let within : t < length v.calls = inside disk v t o asks in
    let made : Made disk v w t (cleared_by (stage_of v t)) = record {
      mine = no_region;
      act = None;
      after = None;
      happens = λ told stands. record {
        event = subst (λ (k : ℕ). Event told v.log (maps v) (maps w) (state disk v) (state disk w) no_region k None)
            (sym (still_clears (state disk v) (register_in v.held t) (rest_of v t) (stage_of v t) still))
            (quiet refl (same_words disk v));
        kept = kept_own disk told v w t None stands refl;
        first = stands.first;
        bounded = bounded_refused (length v.space.list) v.free v.stop v.calls t within stands.bounded;
        may_hold = s.registers t;
        known = λ c is. absurd (cc);
        fits = λ c is. absurd (cc);
        mine_is = λ u d differ is. no_region_apart (region_of d.stage);
        apart = λ c is. absurd (cc);
        counts = λ is. Counts_same disk v w t None (as_told disk told v is stands) asks.thread refl
            (record { names = refl; words = refl; calls = refl; below = omega arith; within = inl (omega arith) });
      };
    } in
    advances (Refused (Pause pause)) asks made refl
    (subst (Applies (maps v) (maps w) (state disk v) (state disk w)) (sym still) (refl, same_words disk v)) pauses tt
