-- The events of writes.
use Rattle.std.proofs.Common.{◌≡◌, ℕ, ◌+◌, ◌*◌, List, [], ◌∷◌, ◌++◌, length, refl, sym, ◌∙◌, ap, subst}
use Rattle.std.specs.Prelude.{Bool, true, None, Some}
use Rattle.melt_model.specs.declared.history.Act.{Act}
use Rattle.melt_model.specs.declared.history.Act.TheVariants.{Write}
use Rattle.melt_model.specs.declared.history.Slot.{Slot}
use Rattle.melt_model.specs.declared.history.Slot.TheVariants as slots
use Rattle.melt_model.specs.declared.history.Value.TheVariants.{Num}
use Rattle.melt_model.specs.declared.operations.Op.{Op}
use Rattle.melt_model.specs.declared.operations.Op.TheVariants as op
use Rattle.melt_model.specs.declared.operations.Reply.TheVariants as reply
use Rattle.melt_word.specs.declared.header.Shape.{Shape}
use Rattle.melt_space.specs.Space.{SpaceWords, SetsWord}
use Rattle.melt_scion.specs.State.{Base}
use Rattle.melt_scion.specs.Placed.{MayHold}
use Rattle.melt_scion.specs.Regions.{no_region}
use Rattle.melt_scion.specs.Changes.{WordChanges, GlobalChanges}
use Rattle.melt_scion.specs.Heaps.{OnDisk, register_in}
use Rattle.melt_core.specs.declared.answer.StepResult.TheVariants.{Answered}
use Rattle.melt_core.specs.declared.call.Access.TheVariants.{Store, Put}
use Rattle.melt_core.specs.declared.call.Place.{Place}
use Rattle.melt_core.specs.declared.call.Place.TheVariants.{Field, Global}
use Rattle.melt_core.specs.declared.call.Stage.{Stage}
use Rattle.melt_core.specs.declared.call.Stage.TheVariants.{Polled, Headed}
use Rattle.melt_core.specs.declared.call.Task.TheVariants.{StoreGlobal}
use Rattle.melt_core.specs.Answering.{Answers, entry}
use Rattle.melt_core.specs.Known.{IsObjectAt, IsPlace, SlotAt}
use Rattle.melt_core.specs.Events.{Event, PlaceChanges, writes_place, writes_number, number_place}
use Rattle.melt_core.specs.Stages.{Fits, LoadsAt, StoresFrom, Applies, change_of}
use Rattle.melt_core.specs.Changed.{with_stage, with_call, noted}
use Rattle.melt_core.specs.Advances.{Asks, AdvancesOver, HasRoomFor, InBounds}
use Rattle.melt_core.specs.Views.{View, Standing, maps, state, stage_of, values_of, held_value, registers_in, rest_of}
use Rattle.melt_core.proofs.Asked.{fits_at, known_at}
use Rattle.melt_core.proofs.Words.{over, word_set}
use Rattle.melt_core.proofs.Plain.{MakesNothing}
use Rattle.melt_core.proofs.Answered.{Ends, ends_at, local_still, over_advances, use_room}
use Rattle.melt_core.proofs.Answers.{store_answers, gstore_answers, put_answers}
use Rattle.melt_core.proofs.Objects.{object_shape, value_named}
use Rattle.melt_core.proofs.Staged.{noted_again}
use Rattle.melt_core.proofs.Tasks.{LoadsNothing, no_load, store_is, gstore_is, put_is}
use Rattle.melt_core.proofs.Values.{value_held, may_value}

-- the view after a write
abbrev pub written : View → SpaceWords → List ℕ → ℕ → Act → View
written v space globals t act = with_call (noted (over v space globals) (entry t act)) t None

-- the call that is over had reached a stage, whether that was written or not
pub written_again : (v : View) (space : SpaceWords) (globals : List ℕ) (t : ℕ) (o : Op) (stage : Stage) (act : Act)
    → written (with_stage v t o stage) space globals t act ≡ written v space globals t act
written_again v space globals t o stage act = noted_again (over v space globals) t o stage (entry t act)

-- What a write shows, which changes no register.
record Writes (disk : OnDisk) (v w : View) (t : ℕ) (o : Op) (stage : Stage) (act : Act) : Type 0 where
  pub ends : Ends disk v t o stage
  pub nothing : MakesNothing (Some act)
  pub words : length w.space.list ≡ length v.space.list
  pub event : (told : Bool) → Standing told disk v
      → Event told v.log (maps v) (maps v) (state disk v) (state disk w) no_region 0 (Some act)
  pub applies : Applies (maps v) (maps v) (state disk v) (state disk w)
      (change_of (state disk v) (register_in v.held t) (rest_of v t) (Some stage))
  pub answers : Standing true disk v
      → Answers t v.log (values_of v t) o reply.Done (v.log ++ entry t act ∷ []) (values_of v t)
  pub room : HasRoomFor disk.end v o
  pub loads_none : (place : Place) (dst : ℕ) → LoadsAt (register_in v.held t) o place dst → ⊥

write_advances : {disk : OnDisk} {v : View} (space : SpaceWords) (globals : List ℕ) {t : ℕ} {o : Op} {stage : Stage}
    {act : Act} → Asks disk v t o → Writes disk v (written v space globals t act) t o stage act
    → AdvancesOver disk v (written v space globals t act) t o (Answered reply.Done)
write_advances {disk} {v} space globals {t} asks is =
    over_advances asks (record {
      ends = is.ends;
      event = is.event;
      applies = is.applies;
      nothing = is.nothing;
      moves = refl;
      words = is.words;
      local = local_still disk v t asks.stands;
      answers = is.answers;
      registers = λ k other. refl;
      room = is.room;
      clean = λ place dst loads there tagged. is.loads_none place dst loads;
    })

-- the place to which a call stores
pub stores_at : (disk : OnDisk) (v : View) (t : ℕ) (o : Op) (place : Place) (src : ℕ) → Asks disk v t o
    → StoresFrom (stage_of v t) place src → IsPlace (maps v) (state disk v) place
stores_at disk v t o (Field object i) src asks stores =
    let stage : Stage = Headed object stores.0 (Store i src) in
    let fits : Fits (register_in v.held t) o stage = fits_at disk v t o stage asks stores.1 in
    let known : IsObjectAt (maps v) (state disk v) object stores.0 = known_at disk v t o stage asks stores.1 in
    (stores.0, known, fits.3)
stores_at disk v t o (Global g) src asks stores =
    let fits : Fits (register_in v.held t) o (Polled (StoreGlobal g src)) =
    fits_at disk v t o (Polled (StoreGlobal g src)) asks stores in
    let bounds : InBounds (length v.globals) (op.GStore g src) =
    subst (InBounds (length v.globals)) (gstore_is o g src fits.0) asks.bounds in
    bounds.0

-- as many words as before
store_words : (disk : OnDisk) (v : View) (space : SpaceWords) (globals : List ℕ) (place : Place) (word : ℕ)
    → PlaceChanges (state disk v) (state disk (over v space globals)) place word
    → length space.list ≡ length v.space.list
store_words disk v space globals (Field object i) word changes = ap (λ (b : Base). b.size) changes.base
store_words disk v space globals (Global g) word changes = ap (λ (b : Base). b.size) changes.base

pub store_advances : {disk : OnDisk} {v : View} (space : SpaceWords) (globals : List ℕ) {t : ℕ} {o : Op} (place : Place)
    (at : Slot) (src : ℕ) {address : ℕ} → Asks disk v t o → StoresFrom (stage_of v t) place src
    → address ≡ register_in v.held t src → SlotAt (maps v) place at
    → PlaceChanges (state disk v) (state disk (over v space globals)) place (4 * address)
    → AdvancesOver disk v (written v space globals t (Write at (held_value v.names address))) t o (Answered reply.Done)
store_advances {disk} {v} space globals {t} {o} (Field object i) at src {address} asks stores is slot changes =
    let stage : Stage = Headed object stores.0 (Store i src) in
    let fits : Fits (register_in v.held t) o stage = fits_at disk v t o stage asks stores.1 in
    let known : IsObjectAt (maps v) (state disk v) object stores.0 = known_at disk v t o stage asks stores.1 in
    write_advances space globals asks (record {
      ends = ends_at disk v t o stage stores.1 tt (λ next goes. goes);
      nothing = refl;
      words = store_words disk v space globals (Field object i) (4 * address) changes;
      event = λ told s.
          let may : MayHold (maps v) (state disk v) address =
          subst (MayHold (maps v) (state disk v)) (sym is) (asks.stands.registers t src) in
          writes_place (Field object i) at address (held_value v.names address) refl
          (stores.0, known, fits.3) slot may (λ x. may_value v.names (state disk v) address may) changes;
      applies = (
        refl,
        subst (λ (a : ℕ). WordChanges (state disk v) (state disk (over v space globals)) (object + 2 + i) (4 * a)) is
            changes,
      );
      answers = λ told. subst (λ (p : Op). Answers t v.log (values_of v t) p reply.Done
          (v.log ++ entry t (Write at (held_value v.names address)) ∷ []) (values_of v t))
          (sym (store_is o fits.0 i src fits.1))
          (store_answers t v.log fits.0 i src stores.0 (value_named v t fits.0 object slot.0 fits.2 slot.1)
          (object_shape disk v object slot.0 stores.0 told known slot.1) fits.3
          (value_held v.names (registers_in v.held t) src ∙ ap (held_value v.names) (sym is)) refl refl
          (ap (λ (q : Slot). v.log ++ entry t (Write q (held_value v.names address)) ∷ []) slot.2));
      room = use_room disk.end v o fits.0 (Store i src) fits.1;
      loads_none = λ place dst loads. no_load (register_in v.held t) o place dst
          (subst LoadsNothing (sym fits.1) tt) loads;
    })
store_advances {disk} {v} space globals {t} {o} (Global g) at src {address} asks stores is slot changes =
    let stage : Stage = Polled (StoreGlobal g src) in
    let fits : Fits (register_in v.held t) o stage = fits_at disk v t o stage asks stores in
    let same : o ≡ op.GStore g src = gstore_is o g src fits.0 in
    write_advances space globals asks (record {
      ends = ends_at disk v t o stage stores tt (λ next goes. goes);
      nothing = refl;
      words = store_words disk v space globals (Global g) (4 * address) changes;
      event = λ told s.
          let may : MayHold (maps v) (state disk v) address =
          subst (MayHold (maps v) (state disk v)) (sym is) (asks.stands.registers t src) in
          writes_place (Global g) at address (held_value v.names address) refl
          (stores_at disk v t o (Global g) src asks stores) slot may (λ x. may_value v.names (state disk v) address may)
          changes;
      applies = (
        refl,
        subst (λ (a : ℕ). GlobalChanges (state disk v) (state disk (over v space globals)) g (4 * a)) is
            changes,
      );
      answers = λ told. subst (λ (p : Op). Answers t v.log (values_of v t) p reply.Done
          (v.log ++ entry t (Write at (held_value v.names address)) ∷ []) (values_of v t)) (sym same)
          (gstore_answers t v.log g src
          (value_held v.names (registers_in v.held t) src ∙ ap (held_value v.names) (sym is)) refl refl
          (ap (λ (q : Slot). v.log ++ entry t (Write q (held_value v.names address)) ∷ []) slot));
      room = subst (HasRoomFor disk.end v) (sym same) tt;
      loads_none = λ place dst loads. no_load (register_in v.held t) o place dst
          (subst LoadsNothing (sym fits.0) tt) loads;
    })

-- a number word was written
pub put_advances : {disk : OnDisk} {v : View} {space : SpaceWords} {t : ℕ} {o : Op} {address j n number place : ℕ}
    {shape : Shape} → Asks disk v t o → stage_of v t ≡ Some (Headed address shape (Put j number))
    → (maps v).address address ≡ Some n → place ≡ number_place address shape j → SetsWord v.space space place number
    → AdvancesOver disk v (written v space v.globals t (Write (slots.Cell n j) (Num number))) t o (Answered reply.Done)
put_advances {disk} {v} {space} {t} {o} {address} {j} {n} {number} {place} {shape} asks at named is sets =
    let stage : Stage = Headed address shape (Put j number) in
    let fits : Fits (register_in v.held t) o stage = fits_at disk v t o stage asks at in
    let known : IsObjectAt (maps v) (state disk v) address shape = known_at disk v t o stage asks at in
    let w : View = written v space v.globals t (Write (slots.Cell n j) (Num number)) in
    let changes : WordChanges (state disk v) (state disk w) (number_place address shape j) number =
    subst (λ (k : ℕ). WordChanges (state disk v) (state disk w) k number) is
    (word_set disk v space v.held place number sets) in
    write_advances space v.globals asks (record {
      ends = ends_at disk v t o stage at tt (λ next goes. goes);
      nothing = refl;
      words = sets.size;
      event = λ told s. writes_number address n j number shape refl
          (record { object_is = known; below = fits.3; named = named }) changes;
      applies = (refl, changes);
      answers = λ told. subst (λ (p : Op). Answers t v.log (values_of v t) p reply.Done
          (v.log ++ entry t (Write (slots.Cell n j) (Num number)) ∷ []) (values_of v t))
          (sym (put_is o fits.0 j number fits.1))
          (put_answers t v.log fits.0 j number shape (value_named v t fits.0 address n fits.2 named)
          (object_shape disk v address n shape told known named) fits.3 refl refl refl);
      room = use_room disk.end v o fits.0 (Put j number) fits.1;
      loads_none = λ place dst loads. no_load (register_in v.held t) o place dst
          (subst LoadsNothing (sym fits.1) tt) loads;
    })
