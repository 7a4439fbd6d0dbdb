-- The events of a call on a part of an object that find lacks such part, or read a number word.
use Rattle.std.proofs.Common.{◌≡◌, ℕ, ◌<◌, ◌≤◌, inl, inr, List, refl, sym, ◌∙◌, ap, subst}
use Rattle.std.proofs.lemmas.Bool.{cases_lt}
use Rattle.std.specs.Prelude.{Option, None, Some}
use Rattle.melt_model.specs.Thread.{value_in}
use Rattle.melt_model.specs.declared.history.Act.{Act}
use Rattle.melt_model.specs.declared.history.Act.TheVariants.{Read}
use Rattle.melt_model.specs.declared.history.Slot.TheVariants as slots
use Rattle.melt_model.specs.declared.history.Value.{Value}
use Rattle.melt_model.specs.declared.history.Value.TheVariants.{Ref as Object, Num}
use Rattle.melt_model.specs.declared.operations.Op.{Op}
use Rattle.melt_model.specs.declared.operations.Op.TheVariants as op
use Rattle.melt_model.specs.declared.operations.Reply.TheVariants as reply
use Rattle.melt_word.specs.Words.{IsHeader, header_word}
use Rattle.melt_space.specs.Space.{word_at}
use Rattle.melt_word.specs.declared.header.Shape.{Shape}
use Rattle.melt_word.specs.declared.header.Header.{Header}
use Rattle.melt_scion.specs.Regions.{no_region}
use Rattle.melt_scion.specs.Heaps.{OnDisk, register_in}
use Rattle.melt_scion.proofs.Geometry.{one_header}
use Rattle.melt_core.specs.declared.answer.StepResult.TheVariants.{Going, Answered}
use Rattle.melt_core.specs.declared.call.Access.{Access}
use Rattle.melt_core.specs.declared.call.Access.TheVariants.{Load, Store, Get, Put}
use Rattle.melt_core.specs.declared.call.Place.TheVariants.{Field, Global}
use Rattle.melt_core.specs.declared.call.Task.TheVariants.{Use}
use Rattle.melt_core.specs.declared.call.Stage.{Stage}
use Rattle.melt_core.specs.declared.call.Stage.TheVariants.{Polled, Headed}
use Rattle.melt_core.specs.Answering.{Answers, entry}
use Rattle.melt_core.specs.Known.{IsObjectAt}
use Rattle.melt_core.specs.Events.{Event, quiet, reads_number, number_place}
use Rattle.melt_core.specs.Stages.{Next, Nothing, HasPart, Fits, change_of, task_of}
use Rattle.melt_core.specs.Changed.{with_call, noted}
use Rattle.melt_core.specs.Advances.{Asks, AdvancesOver, LeavesClean}
use Rattle.melt_core.specs.Views.{View, maps, state, stage_of, values_of, rest_of}
use Rattle.melt_core.proofs.Asked.{fits_at, known_at}
use Rattle.melt_core.proofs.Words.{same_words}
use Rattle.melt_core.proofs.Going.{go_advances}
use Rattle.melt_core.proofs.Answered.{ends_at, local_still, over_advances, use_room}
use Rattle.melt_core.proofs.Answers.{range_answers, get_answers, LacksPart}
use Rattle.melt_core.proofs.Objects.{object_held, object_of, object_shape, value_named}
use Rattle.melt_core.proofs.Tasks.{LoadsNothing, get_is, no_load}

past : (i n : ℕ) → (i < n → ⊥) → n ≤ i
past i n lacks = elim (cases_lt i n) [ inl below ↦ absurd (lacks below) | inr above ↦ above ]

lacks_by : (rs : List Value) {src r n : ℕ} (i bound : ℕ) {access same : Access} (z : Shape) → src ≡ r → access ≡ same
    → value_in rs r ≡ Object n → (HasPart access z → ⊥) → (i < bound → HasPart same z)
    → (value_in rs src ≡ Object n) × (bound ≤ i)
lacks_by rs i bound z register is value lacks has = (
  ap (value_in rs) register ∙ value,
  past i bound (λ below. lacks (subst (λ (a : Access). HasPart a z) (sym is) (has below))),
)

lacks_part : (rs : List Value) (o : Op) (r n : ℕ) (access : Access) (z : Shape) → task_of o ≡ Some (Use r access)
    → value_in rs r ≡ Object n → (HasPart access z → ⊥) → LacksPart rs o n z
lacks_part rs (op.New dst refs nums) r n access z is value lacks = absurd (cc)
lacks_part rs (op.Load dst src i) r n access z is value lacks =
    lacks_by rs {src = src} {r = r} i z.refs {access = access} {same = Load dst i} z (cc) (cc) value lacks
    (λ below. below)
lacks_part rs (op.Store obj i src) r n access z is value lacks =
    lacks_by rs {src = obj} {r = r} i z.refs {access = access} {same = Store i src} z (cc) (cc) value lacks
    (λ below. below)
lacks_part rs (op.Get src j) r n access z is value lacks =
    lacks_by rs {src = src} {r = r} j z.nums {access = access} {same = Get j} z (cc) (cc) value lacks (λ below. below)
lacks_part rs (op.Put obj j v) r n access z is value lacks =
    lacks_by rs {src = obj} {r = r} j z.nums {access = access} {same = Put j v} z (cc) (cc) value lacks (λ below. below)
lacks_part rs (op.GLoad dst g) r n access z is value lacks = absurd (cc)
lacks_part rs (op.GStore g src) r n access z is value lacks = absurd (cc)
lacks_part rs o r n access z is value lacks = absurd (cc)

-- objects at one address have one shape
pub one_shape : (disk : OnDisk) (v : View) (address : ℕ) (y z : Shape) → IsObjectAt (maps v) (state disk v) address y
    → IsObjectAt (maps v) (state disk v) address z → y ≡ z
one_shape disk v address y z first second =
    sym first.shape_is ∙ (ap (λ (h : Header). h.shape)
    (one_header (state disk v) address first.header second.header first.starts second.starts) ∙ second.shape_is)

pub range_advances : {disk : OnDisk} {v : View} {t : ℕ} {o : Op} {r : ℕ} {access : Access} {shape : Shape}
    → Asks disk v t o → stage_of v t ≡ Some (Polled (Use r access))
    → IsObjectAt (maps v) (state disk v) (register_in v.held t r) shape → (HasPart access shape → ⊥)
    → AdvancesOver disk v (with_call v t None) t o (Answered reply.Range)
range_advances {disk} {v} {t} {o} {r} {access} {shape} asks at object lacks =
    let stage : Stage = Polled (Use r access) in
    let task : task_of o ≡ Some (Use r access) = (fits_at disk v t o stage asks at).0 in
    over_advances asks (record {
      ends = ends_at disk v t o stage at tt
          (λ next goes. lacks
          (subst (HasPart access) (one_shape disk v (register_in v.held t r) goes.0 shape goes.1 object) goes.2));
      event = λ told s. quiet refl (same_words disk v);
      applies = (refl, same_words disk v);
      nothing = tt;
      moves = refl;
      words = refl;
      local = local_still disk v t asks.stands;
      answers = λ told. range_answers t o object.number shape
          (lacks_part (values_of v t) o r object.number access shape task
          (value_named v t r (register_in v.held t r) object.number refl object.named) lacks)
          (object_shape disk v (register_in v.held t r) object.number shape told object object.named) refl refl refl;
      registers = λ k other. refl;
      room = use_room disk.end v o r access task;
      clean = range_clean v t o r access shape task object lacks;
    })
  where
    range_clean : (v : View) (t : ℕ) (o : Op) (r : ℕ) (access : Access) (shape : Shape)
        → task_of o ≡ Some (Use r access) → IsObjectAt (maps v) (state disk v) (register_in v.held t r) shape
        → (HasPart access shape → ⊥) → LeavesClean disk v (with_call v t None) t o (Answered reply.Range)
    range_clean v t o r access shape task object lacks (Field address i) dst loads there tagged =
        let same : Use loads.0 (Load dst i) ≡ Use r access =
        (let e : Some (Use loads.0 (Load dst i)) ≡ Some (Use r access) = sym loads.1 ∙ task in cc) in
        let register : loads.0 ≡ r = cc in
        let part : access ≡ Load dst i = cc in
        let at : register_in v.held t r ≡ address = ap (register_in v.held t) (sym register) ∙ loads.2 in
        let shapes : there.0 ≡ shape =
        one_shape disk v address there.0 shape there.1
        (subst (λ (a : ℕ). IsObjectAt (maps v) (state disk v) a shape) at object) in
        lacks (subst (λ (a : Access). HasPart a shape) (sym part) (subst (λ (z : Shape). i < z.refs) shapes there.2))
    range_clean v t o r access shape task object lacks (Global g) dst loads there tagged = absurd (cc)

-- a number word of an object was read
pub get_advances : {disk : OnDisk} {v : View} {t : ℕ} {o : Op} {address j n number : ℕ} {shape : Shape}
    → Asks disk v t o → stage_of v t ≡ Some (Headed address shape (Get j)) → (maps v).address address ≡ Some n
    → number ≡ (state disk v).word (number_place address shape j)
    → AdvancesOver disk v (with_call (noted v (entry t (Read (slots.Cell n j) (Num number)))) t None) t o
    (Answered (reply.Num number))
get_advances {disk} {v} {t} {o} {address} {j} {n} {number} {shape} asks at named is =
    let stage : Stage = Headed address shape (Get j) in
    let act : Act = Read (slots.Cell n j) (Num number) in
    let w : View = with_call (noted v (entry t act)) t None in
    let fits : Fits (register_in v.held t) o stage = fits_at disk v t o stage asks at in
    let object : IsObjectAt (maps v) (state disk v) address shape = known_at disk v t o stage asks at in
    over_advances asks (record {
      ends = ends_at disk v t o stage at tt (λ next goes. goes);
      event = λ told s. subst (λ (x : ℕ). Event told v.log (maps v) (maps v) (state disk v) (state disk v) no_region 0
          (Some (Read (slots.Cell n j) (Num x)))) (sym is)
          (reads_number address n j shape refl (same_words disk v)
          (record { object_is = object; below = fits.3; named = named }));
      applies = (refl, same_words disk v);
      nothing = refl;
      moves = refl;
      words = refl;
      local = local_still disk v t asks.stands;
      answers = λ told. subst (λ (p : Op). Answers t v.log (values_of v t) p (reply.Num number) w.log (values_of v t))
          (sym (get_is o fits.0 j fits.1))
          (get_answers t v.log fits.0 j number shape (value_named v t fits.0 address n fits.2 named)
          (object_shape disk v address n shape told object named) fits.3 refl refl refl);
      registers = λ k other. refl;
      room = use_room disk.end v o fits.0 (Get j) fits.1;
      clean = λ place dst loads there tagged. no_load (register_in v.held t) o place dst
          (subst LoadsNothing (sym fits.1) tt) loads;
    })

-- the object whose header was read
pub head_object : {disk : OnDisk} {v : View} {t : ℕ} {o : Op} {r address : ℕ} {access : Access} (shape : Shape)
    → Asks disk v t o → stage_of v t ≡ Some (Polled (Use r access)) → address ≡ register_in v.held t r
    → ((h : Header) → IsHeader h → word_at v.space address ≡ header_word h → shape ≡ h.shape)
    → IsObjectAt (maps v) (state disk v) address shape
head_object {disk} {v} {t} {o} {r} {address} {access} shape asks at is shaped =
    let fits : Fits (register_in v.held t) o (Polled (Use r access)) = fits_at disk v t o (Polled (Use r access)) asks
    at in
    let held = object_held disk v t r asks.stands fits.1 in
    object_of disk v address held.0 shape (subst (λ (a : ℕ). IsObjectAt (maps v) (state disk v) a held.0.shape) (sym is)
    held.1)
    shaped

-- the call goes on, and has read the header
pub head_advances : {disk : OnDisk} {v : View} {t : ℕ} {o : Op} {r address : ℕ} {access : Access} {shape : Shape}
    → Asks disk v t o → stage_of v t ≡ Some (Polled (Use r access)) → address ≡ register_in v.held t r
    → IsObjectAt (maps v) (state disk v) address shape → HasPart access shape
    → AdvancesOver disk v (with_call v t (Some (record { op = o; stage = Headed address shape access }))) t o Going
head_advances {disk} {v} {t} {o} {address} {access} {shape} asks at is object part =
    go_advances disk v t o (Headed address shape access) asks
    (subst (λ (g : Option Stage). change_of (state disk v) (register_in v.held t) (rest_of v t) g ≡ Nothing) (sym at)
    refl)
    (subst (λ (g : Option Stage). Next (maps v) (state disk v) (register_in v.held t) v.stop o g
    (Headed address shape access)) (sym at) (
      shape,
      subst (λ (a : ℕ). IsObjectAt (maps v) (state disk v) a shape) is object,
      part,
      ap (λ (a : ℕ). Headed a shape access) is,
    ))
    (λ told s. object) refl
