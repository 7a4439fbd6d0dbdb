-- Events after which a call goes on at another stage, and no word that threads share changes.
use Rattle.std.proofs.Common.{◌≡◌, ℕ, List, [], length, refl, sym, ap, subst}
use Rattle.std.proofs.Math.ListN.{set}
use Rattle.std.specs.Prelude.{Bool, true, false, Option, None, Some, slice_index_or}
use Rattle.melt_model.specs.declared.operations.Op.{Op}
use Rattle.melt_space.specs.Space.{SpaceWords}
use Rattle.melt_scion.specs.Heaps.{OnDisk, register_in}
use Rattle.melt_scion.specs.Regions.{no_region}
use Rattle.melt_core.specs.declared.answer.StepResult.TheVariants.{Going}
use Rattle.melt_core.specs.declared.call.Call.{Call}
use Rattle.melt_core.specs.declared.call.Stage.{Stage}
use Rattle.melt_core.specs.declared.call.Stage.TheVariants.{Polled}
use Rattle.melt_core.specs.declared.call.Task.{Task}
use Rattle.melt_core.specs.Known.{Known}
use Rattle.melt_core.specs.Events.{Event, quiet}
use Rattle.melt_core.specs.Stages.{Next, Nothing, Shares, change_of, cleared_by, Applies, Fits}
use Rattle.melt_core.specs.Changed.{with_call}
use Rattle.melt_core.specs.Advances.{Asks, AdvancesOver, AdvancesWhere, CallGoesOn, KeepsOwn}
use Rattle.melt_core.specs.Views.{View, maps, state, call_of, stage_in, stage_of, rest_of, claimed_in, Standing}
use Rattle.melt_core.proofs.Claims.{claims_next}
use Rattle.melt_core.proofs.Asked.{inside, next_fits, still_clears}
use Rattle.melt_core.proofs.Words.{same_words}
use Rattle.melt_core.proofs.Standing.{KeepsRests, advances_where, call_here, same_rests}
use Rattle.melt_core.proofs.Plain.{Plain, plain}
use Rattle.melt_core.proofs.Regions.{nearer_in}

-- the call goes on, by this call after the event
pub goes : (disk : OnDisk) (v w : View) (t : ℕ) (o : Op) (stage : Stage) → Asks disk v t o
    → Next (maps v) (state disk v) (register_in v.held t) v.stop o (stage_of v t) stage
    → w.calls ≡ set v.calls t (Some (record { op = o; stage = stage })) → KeepsOwn v w t → w.stop ≡ v.stop
    → CallGoesOn disk v w t o
goes disk v w t o stage asks next calls own stop = record {
  stage = stage;
  next = next;
  call = call_here v w t (Some (record { op = o; stage = stage })) calls (inside disk v t o asks);
  nearer = nearer_in disk v t o stage asks next;
  own = own;
  stop = stop;
}

-- What an event shows after which the call goes on at this stage. Where something is told after it, so much is.
pub record GoesOnAt (tells : Type 0) (disk : OnDisk) (v w : View) (t : ℕ) (o : Op) (stage : Stage) : Type 0 where
  pub event : (told : Bool) → Standing told disk v
      → Event told v.log (maps v) (maps w) (state disk v) (state disk w) no_region (cleared_by (stage_of v t)) None
  pub applies : Applies (maps v) (maps w) (state disk v) (state disk w)
      (change_of (state disk v) (register_in v.held t) (rest_of v t) (stage_of v t))
  pub rests : KeepsRests v w t
  pub words : length w.space.list ≡ length v.space.list
  pub next : Next (maps v) (state disk v) (register_in v.held t) v.stop o (stage_of v t) stage
  pub known : (told : Bool) → (told ≡ true → tells) → Standing told disk v
      → Known told (maps w) (state disk w) (rest_of w t) stage
  pub unclaimed : claimed_in (Some (record { op = o; stage = stage })) ≡ 0

-- the view after it, where the words are these, and so are those that threads read of records
abbrev pub gone_on : View → SpaceWords → List (List ℕ) → ℕ → Op → Stage → View
gone_on v space records t o stage =
    with_call (record v { space = space; records = records }) t (Some (record { op = o; stage = stage }))

pub goes_on : {tells : Type 0} {disk : OnDisk} {v : View} (space : SpaceWords) (records : List (List ℕ)) {t : ℕ}
    {o : Op} {stage : Stage} → Asks disk v t o → GoesOnAt tells disk v (gone_on v space records t o stage) t o stage
    → AdvancesWhere tells disk v (gone_on v space records t o stage) t o Going
goes_on {tells} {disk} {v} space records {t} {o} {stage} asks is =
    let s : Standing false disk v = asks.stands in
    let after : Call = record { op = o; stage = stage } in
    let w : View = gone_on v space records t o stage in
    let p : Plain tells disk v w t (cleared_by (stage_of v t)) None (Some after) = record {
      event = is.event;
      nothing = tt;
      moves = refl;
      rests = is.rests;
      words = is.words;
      threads = refl;
      others = λ u differ. refl;
      may_hold = s.registers t;
      known = λ told tell stands c same. subst
          (λ (d : Call). Known told (maps w) (state disk w) (rest_of w t) d.stage)
          (let e : after ≡ c = cc in e)
          (is.known told tell stands);
      fits = λ c same. subst (λ (d : Call). Fits (register_in v.held t) d.op d.stage) (let e : after ≡ c = cc in e)
          (next_fits (maps v) (state disk v) (register_in v.held t) v.stop o stage asks.continued
          (λ d at. s.fits t d at) is.next);
      unclaimed = is.unclaimed;
      claims = claims_next disk v t o (stage_of v t) stage is.next;
    } in
    advances_where Going asks (plain asks.thread p) refl is.applies
    (goes disk v w t o stage asks is.next refl (record { history = refl; registers = refl; values = refl }) refl) tt

-- no word that threads share changes
pub read_advances : (tells : Type 0) {disk : OnDisk} {v : View} (records : List (List ℕ)) {t : ℕ} {o : Op}
    (stage : Stage) → Asks disk v t o
    → change_of (state disk v) (register_in v.held t) (rest_of v t) (stage_of v t) ≡ Nothing
    → KeepsRests v (record v { records = records }) t
    → Next (maps v) (state disk v) (register_in v.held t) v.stop o (stage_of v t) stage → ((told : Bool) → (told ≡ true
    → tells) → Standing told disk v → Known told (maps v) (state disk v) (slice_index_or records t []) stage)
    → claimed_in (Some (record { op = o; stage = stage })) ≡ 0
    → AdvancesWhere tells disk v (gone_on v v.space records t o stage) t o Going
read_advances tells {disk} {v} records {t} stage asks still rests next known unclaimed =
    goes_on v.space records asks (record {
      event = λ told stands. subst (λ (k : ℕ). Event told v.log (maps v) (maps v) (state disk v) (state disk v)
          no_region k None)
          (sym (still_clears (state disk v) (register_in v.held t) (rest_of v t) (stage_of v t) still))
          (quiet refl (same_words disk v));
      applies = subst (Applies (maps v) (maps v) (state disk v) (state disk v)) (sym still) (refl, same_words disk v);
      rests = record { buffers = rests.buffers; size = rests.size; others = rests.others };
      words = refl;
      next = next;
      known = known;
      unclaimed = unclaimed;
    })

-- and nothing is read of the disk
pub go_advances : (disk : OnDisk) (v : View) (t : ℕ) (o : Op) (stage : Stage) → Asks disk v t o
    → change_of (state disk v) (register_in v.held t) (rest_of v t) (stage_of v t) ≡ Nothing
    → Next (maps v) (state disk v) (register_in v.held t) v.stop o (stage_of v t) stage
    → ((told : Bool) → Standing told disk v → Known told (maps v) (state disk v) (rest_of v t) stage)
    → claimed_in (Some (record { op = o; stage = stage })) ≡ 0
    → AdvancesOver disk v (with_call v t (Some (record { op = o; stage = stage }))) t o Going
go_advances disk v t o stage asks still next known unclaimed =
    read_advances (Unit {0}) v.records stage asks still (same_rests v v t refl) next
    (λ told tell stands. known told stands) unclaimed

-- the stop word was not set
pub poll_advances : (disk : OnDisk) (v : View) (t : ℕ) (o : Op) (task : Task) → Asks disk v t o → call_of v t ≡ None
    → Shares (register_in v.held t) o task → v.stop ≡ false
    → AdvancesOver disk v (with_call v t (Some (record { op = o; stage = Polled task }))) t o Going
poll_advances disk v t o task asks first shares runs =
    let none : None ≡ stage_of v t = sym (ap stage_in first) in
    go_advances disk v t o (Polled task) asks
    (subst (λ (g : Option Stage). change_of (state disk v) (register_in v.held t) (rest_of v t) g ≡ Nothing) none refl)
    (subst (λ (g : Option Stage). Next (maps v) (state disk v) (register_in v.held t) v.stop o g (Polled task)) none
    (task, shares, runs, refl))
    (λ told s. tt) refl
