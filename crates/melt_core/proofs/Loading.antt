-- The events of loads: a look, a clear and an untag.
use Rattle.std.proofs.Common.{◌≡◌, ℕ, zero, suc, ◌+◌, ◌^◌, ◌<◌, ◌≤◌, inl, inr, List, []}
use Rattle.std.proofs.Common.{◌∷◌, ◌++◌, length, refl, sym, ◌∙◌, ap, subst, arith}
use Rattle.std.specs.Prelude.{Bool, true, false, Option, None, Some, unwrap_or}
use Rattle.std.specs.Option.{option_map}
use Rattle.melt_model.specs.History.{last}
use Rattle.melt_model.specs.Thread.{found as found_in}
use Rattle.melt_model.specs.declared.history.Act.TheVariants.{Read}
use Rattle.melt_model.specs.declared.history.Slot.{Slot}
use Rattle.melt_model.specs.declared.history.Slot.TheVariants as slots
use Rattle.melt_model.specs.declared.history.Value.{Value}
use Rattle.melt_model.specs.declared.history.Value.TheVariants.{Nil, Ref as Object}
use Rattle.melt_model.specs.declared.operations.Op.{Op}
use Rattle.melt_model.specs.declared.operations.Op.TheVariants as op
use Rattle.melt_word.specs.Words.{IsAddress, IsHeader, IsRef, cost_of, header_word, ref_word}
use Rattle.melt_word.specs.declared.header.Header.{Header}
use Rattle.melt_space.specs.Space.{SpaceWords, SetsWord, word_at}
use Rattle.melt_word.specs.declared.reference.Ref.{Ref}
use Rattle.melt_word.specs.declared.reference.Ref.TheVariants.{Null, Clean, Stale, Disk}
use Rattle.melt_word.specs.declared.header.Shape.{Shape}
use Rattle.melt_scion.specs.State.{Base, State, HeaderAt, IsFresh}
use Rattle.melt_scion.proofs.Geometry.{one_header}
use Rattle.melt_scion.specs.Placed.{IsNamed, MayHold, value_of}
use Rattle.melt_scion.specs.Regions.{no_region}
use Rattle.melt_scion.specs.Changes.{WordChanges}
use Rattle.melt_scion.specs.Heaps.{OnDisk, register_in}
use Rattle.melt_core.specs.declared.answer.StepResult.{StepResult}
use Rattle.melt_core.specs.declared.answer.StepResult.TheVariants.{Answered, Going}
use Rattle.melt_core.specs.declared.call.Access.TheVariants.{Load}
use Rattle.melt_core.specs.declared.call.Place.{Place}
use Rattle.melt_core.specs.declared.call.Place.TheVariants.{Field, Global}
use Rattle.melt_core.specs.declared.call.Stage.{Stage}
use Rattle.melt_core.specs.declared.call.Stage.TheVariants.{Polled, Headed, Looked, Cleared, Searching}
use Rattle.melt_core.specs.declared.call.Task.TheVariants.{LoadGlobal}
use Rattle.melt_core.specs.Answering.{Answers, entry}
use Rattle.melt_core.specs.Known.{Known, IsObjectAt, IsPlace, IsTagged, HasTag, SlotAt, HasLooked, Leads, Searches}
use Rattle.melt_core.specs.Known.{Evolves, word_in}
use Rattle.melt_core.specs.Events.{Event, PlaceChanges, reads_place, clears, untags}
use Rattle.melt_core.specs.Stages.{Next, Fits, LoadsAt, LooksFrom, FindsTag, Applies, Nothing, change_of, cleared_by}
use Rattle.melt_core.specs.Changed.{HoldsRef, HasRead, with_call, with_register, noted}
use Rattle.melt_core.specs.Advances.{Asks, AdvancesOver, HasRoomFor, Sets, InBounds}
use Rattle.melt_core.specs.Views.{View, Standing, maps, state, stage_of, values_of, held_value, claimed_in, rest_of}
use Rattle.melt_core.proofs.Asked.{fits_at, known_at, known_so}
use Rattle.melt_core.proofs.Words.{same_after, word_set, over}
use Rattle.melt_core.proofs.Evolving.{evolves_event}
use Rattle.melt_core.proofs.Staying.{looked_stays, place_stays}
use Rattle.melt_core.proofs.Going.{goes_on, go_advances}
use Rattle.melt_core.proofs.Plain.{as_told}
use Rattle.melt_core.proofs.Standing.{same_rests}
use Rattle.melt_core.proofs.Answered.{Ends, ends_at, local_set, over_advances}
use Rattle.melt_core.proofs.Answers.{load_answers, gload_answers}
use Rattle.melt_core.proofs.Objects.{object_shape, place_word, value_named, tagged_is, value_there, may_stand_there}
use Rattle.melt_core.proofs.Objects.{stale_address}
use Rattle.melt_core.proofs.Registers.{register_other, values_set}
use Rattle.melt_core.proofs.Tasks.{load_is, gload_is}

-- the view after a read: what the address stands for was read at the slot, and the register holds it
abbrev pub after_read : View → ℕ → Slot → ℕ → ℕ → View
after_read m t at dst address =
    with_call (with_register (noted m (entry t (Read at (held_value m.names address)))) t dst address) t None

-- What a load knows where it is answered: its place, and the address that it found there.
pub record Finds (disk : OnDisk) (v : View) (t : ℕ) (o : Op) (place : Place) (dst address : ℕ) : Type 0 where
  pub loads : LoadsAt (register_in v.held t) o place dst
  pub there : IsPlace (maps v) (state disk v) place
  pub may_hold : MayHold (maps v) (state disk v) address
  pub value : Standing true disk v → (at : Slot) → SlotAt (maps v) place at → held_value v.names address ≡ last v.log at

-- a load is of one place
one_place : (register : ℕ → ℕ) (o : Op) (place other : Place) (dst d : ℕ) → LoadsAt register o place dst
    → LoadsAt register o other d → place ≡ other
one_place register o (Field a i) (Field b j) dst d first second =
    let same : op.Load dst first.0 i ≡ op.Load d second.0 j =
    sym (load_is o first.0 dst i first.1) ∙ load_is o second.0 d j second.1 in
    let slot : i ≡ j = cc in
    let r : first.0 ≡ second.0 = cc in
    let object : a ≡ b = sym first.2 ∙ (ap register r ∙ second.2) in
    ap (λ (x : ℕ). Field x i) object ∙ ap (Field b) slot
one_place register o (Field a i) (Global k) dst d first second =
    absurd (let e : op.Load dst first.0 i ≡ op.GLoad d k =
    sym (load_is o first.0 dst i first.1) ∙ gload_is o d k second in cc)
one_place register o (Global g) (Field b j) dst d first second =
    absurd (let e : op.GLoad dst g ≡ op.Load d second.0 j =
    sym (gload_is o dst g first) ∙ load_is o second.0 d j second.1 in cc)
one_place register o (Global g) (Global k) dst d first second = let e : op.GLoad dst g ≡ op.GLoad d k =
    sym (gload_is o dst g first) ∙ gload_is o d k second in let same : g ≡ k = cc in ap Global same

-- the answer to a load, by its place
read_answers : {disk : OnDisk} {v : View} {t : ℕ} {o : Op} (place : Place) (at : Slot) {dst address : ℕ}
    → t < length v.held → Standing true disk v → Finds disk v t o place dst address → SlotAt (maps v) place at
    → Answers t v.log (values_of v t) o (found_in (held_value v.names address))
    (v.log ++ entry t (Read at (held_value v.names address)) ∷ []) (values_of (with_register v t dst address) t)
read_answers {disk} {v} {t} {o} (Field object i) at {dst} {address} within told finds slot =
    subst (λ (q : Slot). Answers t v.log (values_of v t) o (found_in (held_value v.names address))
    (v.log ++ entry t (Read q (held_value v.names address)) ∷ []) (values_of (with_register v t dst address) t))
    (sym slot.2)
    (subst (λ (p : Op). Answers t v.log (values_of v t) p (found_in (held_value v.names address))
    (v.log ++ entry t (Read (slots.Field slot.0 i) (held_value v.names address)) ∷ [])
    (values_of (with_register v t dst address) t)) (sym (load_is o finds.loads.0 dst i finds.loads.1))
    (load_answers v.log (values_of v t) dst finds.loads.0 finds.there.0 (held_value v.names address)
    (value_named v t finds.loads.0 object slot.0 finds.loads.2 slot.1)
    (object_shape disk v object slot.0 finds.there.0 told finds.there.1 slot.1) finds.there.2 refl
    (values_set v t dst address within) refl))
read_answers {disk} {v} {t} {o} (Global g) at {dst} {address} within told finds slot =
    subst (λ (q : Slot). Answers t v.log (values_of v t) o (found_in (held_value v.names address))
    (v.log ++ entry t (Read q (held_value v.names address)) ∷ []) (values_of (with_register v t dst address) t))
    (sym slot)
    (subst (λ (p : Op). Answers t v.log (values_of v t) p (found_in (held_value v.names address))
    (v.log ++ entry t (Read (slots.Global g) (held_value v.names address)) ∷ [])
    (values_of (with_register v t dst address) t)) (sym (gload_is o dst g finds.loads))
    (gload_answers t v.log (values_of v t) dst g (held_value v.names address) refl (values_set v t dst address within)
    refl))

sets_dst : (register : ℕ → ℕ) (o : Op) (place : Place) (dst : ℕ) → LoadsAt register o place dst → Sets o dst
sets_dst register o (Field object i) dst loads =
    subst (λ (p : Op). Sets p dst) (sym (load_is o loads.0 dst i loads.1)) refl
sets_dst register o (Global g) dst loads = subst (λ (p : Op). Sets p dst) (sym (gload_is o dst g loads)) refl

load_room : (end : ℕ) (v : View) (register : ℕ → ℕ) (o : Op) (place : Place) (dst : ℕ) → LoadsAt register o place dst
    → HasRoomFor end v o
load_room end v register o (Field object i) dst loads =
    subst (HasRoomFor end v) (sym (load_is o loads.0 dst i loads.1)) tt
load_room end v register o (Global g) dst loads = subst (HasRoomFor end v) (sym (gload_is o dst g loads)) tt

-- What a load shows that is answered, where words of the space or a global may have changed.
record Reads (disk : OnDisk) (v m : View) (t : ℕ) (o : Op) (stage : Stage) (place : Place) (at : Slot) (dst address : ℕ)
    : Type 0 where
  pub ends : Ends disk v t o stage
  pub finds : Finds disk v t o place dst address
  pub is_slot : SlotAt (maps v) place at
  pub words : length m.space.list ≡ length v.space.list
  pub event : (told : Bool) → Standing told disk v
      → Event told v.log (maps v) (maps v) (state disk v) (state disk (after_read m t at dst address)) no_region 0
      (Some (Read at (held_value v.names address)))
  pub applies : Applies (maps v) (maps v) (state disk v) (state disk (after_read m t at dst address))
      (change_of (state disk v) (register_in v.held t) (rest_of v t) (Some stage))
  pub clean : IsTagged (word_in (state disk m) place) → ⊥

read_advances : {disk : OnDisk} {v : View} (space : SpaceWords) (globals : List ℕ) {t : ℕ} {o : Op} {stage : Stage}
    {place : Place} {at : Slot} {dst address : ℕ} → Asks disk v t o
    → Reads disk v (over v space globals) t o stage place at dst address
    → AdvancesOver disk v (after_read (over v space globals) t at dst address) t o
    (Answered (found_in (held_value v.names address)))
read_advances {disk} {v} space globals {t} {o} {place} {at} {dst} {address} asks is =
    let m : View = over v space globals in
    over_advances asks (record {
      ends = is.ends;
      event = is.event;
      applies = is.applies;
      nothing = refl;
      moves = refl;
      words = is.words;
      local = local_set disk v t dst address asks.stands asks.thread is.finds.may_hold;
      answers = λ told. read_answers place at asks.thread told is.finds is.is_slot;
      registers = λ r other. register_other v t dst address r asks.thread
          (λ same. other (subst (Sets o) (sym same) (sets_dst (register_in v.held t) o place dst is.finds.loads)));
      room = load_room disk.end v (register_in v.held t) o place dst is.finds.loads;
      clean = λ other d loads there tagged. is.clean
          (subst (λ (p : Place). IsTagged (word_in (state disk m) p))
          (one_place (register_in v.held t) o other place d dst loads is.finds.loads)
          (same_word m t at dst address other tagged));
    })
  where
    same_word : (m : View) (t : ℕ) (at : Slot) (dst address : ℕ) (place : Place)
        → IsTagged (word_in (state disk (after_read m t at dst address)) place) → IsTagged (word_in (state disk m)
        place)
    same_word m t at dst address (Field object i) tagged = tagged
    same_word m t at dst address (Global g) tagged = tagged

-- the place at which a load looks, and its operation
pub looks_at : (disk : OnDisk) (v : View) (t : ℕ) (o : Op) (place : Place) (dst : ℕ) → Asks disk v t o
    → LooksFrom (stage_of v t) place dst → LoadsAt (register_in v.held t) o place dst × IsPlace (maps v) (state disk v)
    place
looks_at disk v t o (Field object i) dst asks looks =
    let stage : Stage = Headed object looks.0 (Load dst i) in
    let fits : Fits (register_in v.held t) o stage = fits_at disk v t o stage asks looks.1 in
    let known : IsObjectAt (maps v) (state disk v) object looks.0 = known_at disk v t o stage asks looks.1 in
    ((fits.0, fits.1, fits.2), (looks.0, known, fits.3))
looks_at disk v t o (Global g) dst asks looks =
    let stage : Stage = Polled (LoadGlobal dst g) in
    let fits : Fits (register_in v.held t) o stage = fits_at disk v t o stage asks looks in
    let bounds : InBounds (length v.globals) (op.GLoad dst g) =
    subst (InBounds (length v.globals)) (gload_is o dst g fits.0) asks.bounds in
    (fits.0, bounds.1)

-- what a reference without a tag tells of an address
null_value : (v : View) (x : Value) → Some Nil ≡ Some x → held_value v.names 0 ≡ x
null_value v x is = ap (λ (y : Option Value). unwrap_or y Nil) is

clean_value : (v : View) (a : ℕ) (x : Value) → IsRef (Clean a) → value_of (maps v) (Clean a) ≡ Some x
    → held_value v.names a ≡ x
clean_value v zero x range is = absurd (let some : 0 < 0 = range.not_null in omega arith)
clean_value v (suc a) x range is = ap (λ (y : Option Value). unwrap_or y Nil) is

pub finds_null : (disk : OnDisk) (v : View) (t : ℕ) (o : Op) (place : Place) (dst : ℕ) → Standing false disk v
    → LoadsAt (register_in v.held t) o place dst → IsPlace (maps v) (state disk v) place
    → HoldsRef (word_in (state disk v) place) Null → Finds disk v t o place dst 0
finds_null disk v t o place dst s loads there holds = record {
  loads = loads;
  there = there;
  may_hold = inl refl;
  value = λ told at slot. null_value v (last v.log at) (value_there disk v place at Null told there slot holds);
}

pub finds_clean : {disk : OnDisk} {v : View} (t : ℕ) (o : Op) (place : Place) (dst : ℕ) {a : ℕ} → Standing false disk v
    → LoadsAt (register_in v.held t) o place dst → IsPlace (maps v) (state disk v) place
    → HoldsRef (word_in (state disk v) place) (Clean a) → Finds disk v t o place dst a
finds_clean {disk} {v} t o place dst {a} s loads there holds = record {
  loads = loads;
  there = there;
  may_hold = inr (may_stand_there disk v place (Clean a) s there holds);
  value = λ told at slot. clean_value v a (last v.log at) holds.in_range
      (value_there disk v place at (Clean a) told there slot holds);
}

-- the event of a read that changes no word
pub quiet_read : {disk : OnDisk} {told : Bool} {v : View} {t : ℕ} {o : Op} {place : Place} (at : Slot) {dst address : ℕ}
    → Standing told disk v → Finds disk v t o place dst address → SlotAt (maps v) place at
    → (IsTagged (word_in (state disk v) place) → ⊥)
    → Event told v.log (maps v) (maps v) (state disk v) (state disk (after_read v t at dst address)) no_region 0
    (Some (Read at (held_value v.names address)))
quiet_read {disk} {v} {t} {place} at {dst} {address} s finds slot clean =
    reads_place place at (held_value v.names address) refl
    (same_after disk v (after_read v t at dst address).held) finds.there clean
    (λ is. record { slot = slot; last = finds.value (subst (λ (b : Bool). Standing b disk v) is s) at slot })

-- a stale address has a tag
stale_tagged : (disk : OnDisk) (v : View) (place : Place) (target : ℕ) → Standing false disk v
    → IsPlace (maps v) (state disk v) place
    → word_in (state disk v) place ≡ ref_word (Stale target) → IsTagged (word_in (state disk v) place)
stale_tagged disk v place target s there is =
    record { reference = Stale target; in_range = stale_address disk v place target s there is; tag = tt; is = is }

-- and so has a home
home_tag : (r : Ref) (home : ℕ) → ref_word r ≡ ref_word (Disk home) → HasTag r
home_tag Null home is = absurd (omega arith)
home_tag (Clean a) home is = absurd (omega arith)
home_tag (Stale a) home is = tt
home_tag (Disk b) home is = tt

home_tagged : (disk : OnDisk) (v : View) (place : Place) (home : ℕ) → Standing false disk v
    → IsPlace (maps v) (state disk v) place
    → word_in (state disk v) place ≡ ref_word (Disk home) → IsTagged (word_in (state disk v) place)
home_tagged disk v place home s there is =
    let word = place_word disk v place s.holds.formed there in
    record {
      reference = word.reference;
      in_range = word.in_range;
      tag = home_tag word.reference home (sym word.is ∙ is);
      is = word.is;
    }

finds_tagged : (disk : OnDisk) (v : View) (place : Place) (dst : ℕ) (next : Stage) → Standing false disk v
    → IsPlace (maps v) (state disk v) place → FindsTag (word_in (state disk v) place) place dst next
    → IsTagged (word_in (state disk v) place)
finds_tagged disk v place dst next s there (inl stale) = stale_tagged disk v place stale.0 s there stale.1
finds_tagged disk v place dst next s there (inr home) = home_tagged disk v place home.0 s there home.1

-- a look that found no tag is the last event of its load
look_stage : (disk : OnDisk) (v : View) (t : ℕ) (o : Op) (place : Place) (dst : ℕ) → Standing false disk v
    → IsPlace (maps v) (state disk v) place
    → LooksFrom (stage_of v t) place dst → (IsTagged (word_in (state disk v) place) → ⊥)
    → (stage : Stage) × Ends disk v t o stage
    × (change_of (state disk v) (register_in v.held t) (rest_of v t) (Some stage) ≡ Nothing)
look_stage disk v t o (Field object i) dst s there looks clean = (
  Headed object looks.0 (Load dst i),
  ends_at disk v t o (Headed object looks.0 (Load dst i)) looks.1 tt
      (λ next goes. clean (finds_tagged disk v (Field object i) dst next s there goes)),
  refl,
)
look_stage disk v t o (Global g) dst s there looks clean = (
  Polled (LoadGlobal dst g),
  ends_at disk v t o (Polled (LoadGlobal dst g)) looks tt
      (λ next goes. clean (finds_tagged disk v (Global g) dst next s there goes)),
  refl,
)

-- a look found a reference with a tag
pub looked_known : (disk : OnDisk) (v : View) (place : Place) (found : Ref) → Standing false disk v
    → IsPlace (maps v) (state disk v) place → HoldsRef (word_in (state disk v) place) found → HasTag found
    → HasLooked (maps v) (state disk v) place found
looked_known disk v place found s there holds tag = record {
  at = there;
  in_range = holds.in_range;
  tag = tag;
  may_stand = may_stand_there disk v place found s there holds;
  unless_clean = λ tagged. holds.is;
}

-- the slot of a place
some_slot : (disk : OnDisk) (v : View) (place : Place) → IsPlace (maps v) (state disk v) place
    → (at : Slot) × SlotAt (maps v) place at
some_slot disk v (Field object i) there = (slots.Field there.1.number i, (there.1.number, there.1.named, refl))
some_slot disk v (Global g) there = (slots.Global g, refl)

-- a home that stands for a value has an object
home_object : (home : Option ℕ) (value : Value) → option_map Object home ≡ Some value → (n : ℕ) × (home ≡ Some n)
home_object None value is = absurd (cc)
home_object (Some n) value is = (n, refl)

-- a look found a home, for which no forwarding word was read yet
search_begins : (disk : OnDisk) (told : Bool) (v : View) (place : Place) (home : ℕ) → Standing false disk v
    → Standing told disk v → IsPlace (maps v) (state disk v) place
    → HoldsRef (word_in (state disk v) place) (Disk home) → Searches told (maps v) (state disk v) place home 0
search_begins disk told v place home stands s there holds = record {
  looked = looked_known disk v place (Disk home) stands there holds tt;
  probed = record { few = omega arith; others = λ i less. absurd (omega arith) };
  object = λ tells.
      let slot = some_slot disk v place there in
      home_object ((maps v).home home) (last v.log slot.0)
      (value_there disk v place slot.0 (Disk home) (as_told disk told v tells s) there slot.1 holds);
}

-- the stale bit of the object was cleared
pub clear_advances : {disk : OnDisk} {v : View} {space : SpaceWords} {t : ℕ} {o : Op} {place : Place} {found : Ref}
    {target dst word : ℕ} (shape : Shape) → Asks disk v t o → stage_of v t ≡ Some (Looked place found target dst)
    → ((h : Header) → IsHeader h → word_at v.space target ≡ header_word h → shape ≡ h.shape)
    → word ≡ header_word (record { shape = shape; stale = false }) → SetsWord v.space space target word
    → AdvancesOver disk v
    (with_call (record v { space = space }) t (Some (record { op = o; stage = Cleared place found target dst }))) t o
    Going
clear_advances {disk} {v} {space} {t} {o} {place} {found} {target} {dst} {word} shape asks at shaped is sets =
    let s : Standing false disk v = asks.stands in
    let stage : Stage = Looked place found target dst in
    let w : View = with_call (record v { space = space }) t (Some (record
    { op = o; stage = Cleared place found target dst }))
    in
    let known = known_at disk v t o stage asks at in
    let looked : HasLooked (maps v) (state disk v) place found = known.0 in
    let named : IsNamed (maps v) target = known.1.named in
    let object = s.holds.formed.objects target named.0 named.1 in
    let starts : HeaderAt (state disk v) target object.0 = object.1.starts in
    let same : shape ≡ object.0.shape = shaped object.0 starts.in_range starts.word in
    let cleared : Header = record { shape = object.0.shape; stale = false } in
    let here : word ≡ header_word cleared =
    is ∙ ap (λ (z : Shape). header_word (record { shape = z; stale = false })) same in
    let changes : WordChanges (state disk v) (state disk w) target (header_word cleared) =
    subst (WordChanges (state disk v) (state disk w) target) here (word_set disk v space v.held target word sets) in
    let event : (told : Bool) → Event told v.log (maps v) (maps w) (state disk v) (state disk w) no_region target None =
    λ told. clears target object.0 refl named starts changes in
    let evolves : Evolves (maps v) (maps w) (state disk v) (state disk w) target =
    evolves_event false v.log (maps v) (maps w) (state disk v) (state disk w) no_region target None s.holds.formed
    (event false) in
    goes_on space v.records asks (record {
      event = λ told stands. subst (λ (k : ℕ). Event told v.log (maps v) (maps w) (state disk v) (state disk w)
          no_region k None)
          (sym (ap cleared_by at)) (event told);
      applies = subst (λ (g : Option Stage). Applies (maps v) (maps w) (state disk v) (state disk w)
          (change_of (state disk v) (register_in v.held t) (rest_of v t) g)) (sym at) (
            refl,
            λ header stands. subst
                (λ (h : Header). WordChanges (state disk v) (state disk w) target
                (header_word (record { shape = h.shape; stale = false })))
                (one_header (state disk v) target object.0 header starts stands) changes,
          );
      rests = same_rests v w t refl;
      words = sets.size;
      next = subst (λ (g : Option Stage). Next (maps v) (state disk v) (register_in v.held t) v.stop o g
          (Cleared place found target dst)) (sym at) refl;
      known = λ told tell stands.
          let so = known_so told disk v t o stage asks at stands in (
            looked_stays (maps v) (maps w) (state disk v) (state disk w) target s.holds.formed evolves place found so.0,
            so.1,
            λ header starts_w. ap (λ (h : Header). h.stale)
                (one_header (state disk w) target header cleared starts_w
                (evolves.clears named.0 object.0 named.1 starts)),
          );
      unclaimed = refl;
    })

-- the look found a reference with a tag
tag_advances : {disk : OnDisk} {v : View} {t : ℕ} {o : Op} (place : Place) (dst : ℕ) (next : Stage) → Asks disk v t o
    → LooksFrom (stage_of v t) place dst → FindsTag (word_in (state disk v) place) place dst next
    → ((told : Bool) → Standing told disk v → Known told (maps v) (state disk v) (rest_of v t) next)
    → claimed_in (Some (record { op = o; stage = next })) ≡ 0
    → AdvancesOver disk v (with_call v t (Some (record { op = o; stage = next }))) t o Going
tag_advances {disk} {v} {t} {o} place dst next asks looks finds known unclaimed =
    let goes = look_next v t o place dst next looks finds in
    go_advances disk v t o next asks goes.0 goes.1 known unclaimed
  where
    look_next : (v : View) (t : ℕ) (o : Op) (place : Place) (dst : ℕ) (next : Stage)
        → LooksFrom (stage_of v t) place dst
        → FindsTag (word_in (state disk v) place) place dst next
        → (change_of (state disk v) (register_in v.held t) (rest_of v t) (stage_of v t) ≡ Nothing)
        × Next (maps v) (state disk v) (register_in v.held t) v.stop o (stage_of v t) next
    look_next v t o (Field object i) dst next looks finds = (
      subst (λ (g : Option Stage). change_of (state disk v) (register_in v.held t) (rest_of v t) g ≡ Nothing)
          (sym looks.1) refl,
      subst (λ (g : Option Stage). Next (maps v) (state disk v) (register_in v.held t) v.stop o g next)
          (sym looks.1) finds,
    )
    look_next v t o (Global g) dst next looks finds = (
      subst (λ (x : Option Stage). change_of (state disk v) (register_in v.held t) (rest_of v t) x ≡ Nothing)
          (sym looks) refl,
      subst (λ (x : Option Stage). Next (maps v) (state disk v) (register_in v.held t) v.stop o x next)
          (sym looks) finds,
    )

-- a stale address
pub look_advances : {disk : OnDisk} {v : View} {t : ℕ} {o : Op} (place : Place) {target : ℕ} (dst : ℕ) → Asks disk v t o
    → LooksFrom (stage_of v t) place dst → HoldsRef (word_in (state disk v) place) (Stale target)
    → AdvancesOver disk v (with_call v t (Some (record { op = o; stage = Looked place (Stale target) target dst }))) t o
    Going
look_advances {disk} {v} {t} {o} place {target} dst asks looks holds =
    let looked : HasLooked (maps v) (state disk v) place (Stale target) =
    looked_known disk v place (Stale target) asks.stands (looks_at disk v t o place dst asks looks).1 holds tt in
    tag_advances place dst (Looked place (Stale target) target dst) asks looks (inl (target, holds.is, refl))
    (λ told s. (looked, record { named = looked.may_stand; same = λ tells. refl })) refl

-- a home, whose object is searched for from here on
pub home_advances : {disk : OnDisk} {v : View} {t : ℕ} {o : Op} (place : Place) {home : ℕ} (dst : ℕ) → Asks disk v t o
    → LooksFrom (stage_of v t) place dst → HoldsRef (word_in (state disk v) place) (Disk home)
    → AdvancesOver disk v (with_call v t (Some (record {
      op = o;
      stage = Searching (record {
        place = place;
        home = home;
        tried = 0;
        dst = dst;
      });
    }))) t o Going
home_advances {disk} {v} {t} {o} place {home} dst asks looks holds =
    tag_advances place dst (Searching (record { place = place; home = home; tried = 0; dst = dst })) asks looks
    (inr (home, holds.is, refl))
    (λ told s. search_begins disk told v place home asks.stands s (looks_at disk v t o place dst asks looks).1 holds)
    refl

-- the stage at which a load looks
pub looks_stage : (stage : Option Stage) (place : Place) (dst : ℕ) → LooksFrom stage place dst
    → (was : Stage) × (stage ≡ Some was)
looks_stage stage (Field object i) dst looks = (Headed object looks.0 (Load dst i), looks.1)
looks_stage stage (Global g) dst looks = (Polled (LoadGlobal dst g), looks)

-- a load was answered by its look
pub look_reads : {disk : OnDisk} {v w : View} {t : ℕ} {o : Op} {place : Place} {dst address : ℕ} {result : StepResult}
    → Asks disk v t o → LooksFrom (stage_of v t) place dst → Finds disk v t o place dst address
    → (IsTagged (word_in (state disk v) place) → ⊥) → HasRead v w t place dst address result
    → AdvancesOver disk v w t o result
look_reads {disk} {v} {w} {t} {o} {place} {dst} {address} asks looks finds clean read =
    let stage = look_stage disk v t o place dst asks.stands finds.there looks clean in
    subst (λ (r : StepResult). AdvancesOver disk v w t o r) (sym read.answered)
    (subst (λ (x : View). AdvancesOver disk v x t o (Answered (found_in (held_value v.names address)))) (sym read.is)
    (read_advances v.space v.globals asks (record {
      ends = stage.1;
      finds = finds;
      is_slot = read.is_slot;
      words = refl;
      event = λ told s. quiet_read read.slot s finds read.is_slot clean;
      applies = subst (Applies (maps v) (maps v) (state disk v) (state disk (after_read v t read.slot dst address)))
          (sym stage.2)
          (refl, same_after disk v (after_read v t read.slot dst address).held);
      clean = clean;
    })))

-- The next event of the thread is the exchange of its load, which found the reference at the place.
pub record IsCleared (disk : OnDisk) (v : View) (t : ℕ) (o : Op) (place : Place) (found : Ref) (target dst : ℕ) : Type 0
  where
    pub asks : Asks disk v t o
    pub at : stage_of v t ≡ Some (Cleared place found target dst)

-- it has no event after it
cleared_ends : (disk : OnDisk) {v : View} {t : ℕ} {o : Op} {place : Place} {found : Ref} {target dst : ℕ}
    → IsCleared disk v t o place found target dst
    → Ends disk v t o (Cleared place found target dst)
cleared_ends disk {v} {t} {o} {place} {found} {target} {dst} is =
    ends_at disk v t o (Cleared place found target dst) is.at tt (λ next goes. goes)

-- what such a load knows
pub cleared_known : (disk : OnDisk) {v : View} {t : ℕ} {o : Op} {place : Place} {found : Ref} {target dst : ℕ}
    → IsCleared disk v t o place found target dst
    → HasLooked (maps v) (state disk v) place found × Leads false (maps v) found target × IsFresh (state disk v) target
cleared_known disk {v} {t} {o} {place} {found} {target} {dst} is = known_at disk v t o (Cleared place found target dst)
    is.asks is.at

pub cleared_loads : (disk : OnDisk) {v : View} {t : ℕ} {o : Op} {place : Place} {found : Ref} {target dst : ℕ}
    → IsCleared disk v t o place found target dst
    → LoadsAt (register_in v.held t) o place dst
cleared_loads disk {v} {t} {o} {place} {found} {target} {dst} is = fits_at disk v t o (Cleared place found target dst)
    is.asks is.at

-- an exchange was lost: the word that stands there is answered
pub untag_lost : (disk : OnDisk) {v w : View} {t : ℕ} {o : Op} {place : Place} {found : Ref} {target dst address : ℕ}
    {result : StepResult}
    → IsCleared disk v t o place found target dst → Finds disk v t o place dst address
    → (IsTagged (word_in (state disk v) place) → ⊥)
    → HasRead v w t place dst address result → AdvancesOver disk v w t o result
untag_lost disk {v} {w} {t} {o} {place} {found} {target} {dst} {address} is finds clean read =
    subst (λ (r : StepResult). AdvancesOver disk v w t o r) (sym read.answered)
    (subst (λ (x : View). AdvancesOver disk v x t o (Answered (found_in (held_value v.names address)))) (sym read.is)
    (read_advances v.space v.globals is.asks (record {
      ends = cleared_ends disk is;
      finds = finds;
      is_slot = read.is_slot;
      words = refl;
      event = λ told s. quiet_read read.slot s finds read.is_slot clean;
      applies = (
        refl,
        (
          λ still. absurd (clean
              (record {
                reference = found;
                in_range = (cleared_known disk is).0.in_range;
                tag = (cleared_known disk is).0.tag;
                is = still;
              })),
          λ differ. same_after disk v (after_read v t read.slot dst address).held,
        ),
      );
      clean = clean;
    })))

-- a word with a tag is still what was found
untag_is : (disk : OnDisk) {v : View} {t : ℕ} {o : Op} {place : Place} {found : Ref} {target dst : ℕ}
    → IsCleared disk v t o place found target dst → IsTagged (word_in (state disk v) place)
    → word_in (state disk v) place ≡ ref_word found
untag_is disk is tagged = (cleared_known disk is).0.unless_clean tagged

-- the address of an object is in range
named_range : (disk : OnDisk) (v : View) (a : ℕ) → Standing false disk v → IsNamed (maps v) a → IsAddress a
named_range disk v a s named =
    let object = s.holds.formed.objects a named.0 named.1 in
    let small : length v.space.list < 2 ^ 30 = s.holds.formed.small in
    let within : a + cost_of object.0.shape ≤ length v.space.list + 1 = object.1.within in
    let first : 1 ≤ a = object.1.first in
    record { not_null = omega arith; small = omega arith }

-- the load's object
untag_finds : (disk : OnDisk) {v : View} {t : ℕ} {o : Op} {place : Place} {found : Ref} {target dst : ℕ}
    → IsCleared disk v t o place found target dst → IsTagged (word_in (state disk v) place)
    → Finds disk v t o place dst target
untag_finds disk {v} {t} {o} {place} {found} {target} {dst} is tagged =
    let known = cleared_known disk is in
    record {
      loads = cleared_loads disk is;
      there = known.0.at;
      may_hold = inr (known.1.named, known.2);
      value = λ told slot at.
          let so = known_so true disk v t o (Cleared place found target dst) is.asks is.at told in
          clean_value v target (last v.log slot) (named_range disk v target is.asks.stands known.1.named)
          (sym (so.1.same refl)
          ∙ value_there disk v place slot found told known.0.at at
          (record { in_range = known.0.in_range; is = untag_is disk is tagged }));
    }

-- the exchange, as an event
untag_event : (disk : OnDisk) {v : View} {t : ℕ} {o : Op} {place : Place} {found : Ref} {target dst : ℕ} (told : Bool)
    (m : View) (at : Slot)
    → IsCleared disk v t o place found target dst → Standing told disk v → SlotAt (maps v) place at
    → IsTagged (word_in (state disk v) place) → PlaceChanges (state disk v) (state disk m) place
    (ref_word (Clean target)) →
    Event told v.log (maps v) (maps v) (state disk v) (state disk m) no_region 0
    (Some (Read at (held_value v.names target)))
untag_event disk {v} {t} {o} {place} {found} {target} {dst} told m at is s slot tagged changes =
    let known = cleared_known disk is in
    let finds = untag_finds disk is tagged in
    untags place at found target (held_value v.names target) refl known.0.at known.0.in_range
    (untag_is disk is tagged) known.1.named known.2
    (known_so told disk v t o (Cleared place found target dst) is.asks is.at s).1.same
    (λ tells. record { slot = slot; last = finds.value (subst (λ (b : Bool). Standing b disk v) tells s) at slot })
    changes

-- the place is one after it
pub untag_place : (disk : OnDisk) {v : View} {t : ℕ} {o : Op} {place : Place} {found : Ref} {target dst : ℕ}
    (space : SpaceWords)
    (globals : List ℕ) → IsCleared disk v t o place found target dst → IsTagged (word_in (state disk v) place)
    → PlaceChanges (state disk v) (state disk (over v space globals)) place (ref_word (Clean target))
    → IsPlace (maps v) (state disk (over v space globals)) place
untag_place disk {v} {t} {o} {place} space globals is tagged changes =
    let there = (cleared_known disk is).0.at in
    let s : Standing false disk v = is.asks.stands in
    let m : View = over v space globals in
    let slot = some_slot disk v place there in
    place_stays (maps v) (maps v) (state disk v) (state disk m) 0 s.holds.formed
    (evolves_event false v.log (maps v) (maps v) (state disk v) (state disk m) no_region 0 _ s.holds.formed
    (untag_event disk false m slot.0 is s slot.1 tagged changes)) place there

changed_word : (s t : State) (place : Place) (word : ℕ) → PlaceChanges s t place word → word_in t place ≡ word
changed_word s t (Field object i) word changes = changes.here
changed_word s t (Global g) word changes = changes.here

changed_size : (disk : OnDisk) (v m : View) (place : Place) (word : ℕ)
    → PlaceChanges (state disk v) (state disk m) place word
    → length m.space.list ≡ length v.space.list
changed_size disk v m (Field object i) word changes = ap (λ (b : Base). b.size) changes.base
changed_size disk v m (Global g) word changes = ap (λ (b : Base). b.size) changes.base

-- an exchange was won
pub untag_won : (disk : OnDisk) {v w : View} {t : ℕ} {o : Op} {place : Place} {found : Ref} {target dst : ℕ}
    {result : StepResult}
    (space : SpaceWords) (globals : List ℕ) → IsCleared disk v t o place found target dst
    → IsTagged (word_in (state disk v) place)
    → PlaceChanges (state disk v) (state disk (over v space globals)) place (ref_word (Clean target))
    → HasRead (over v space globals) w t place dst target result → AdvancesOver disk v w t o result
untag_won disk {v} {w} {t} {o} {place} {found} {target} {dst} space globals is tagged changes read =
    let m : View = over v space globals in
    let after : PlaceChanges (state disk v) (state disk (after_read m t read.slot dst target)) place
    (ref_word (Clean target)) =
    after_changes place (ref_word (Clean target)) changes in
    subst (λ (r : StepResult). AdvancesOver disk v w t o r) (sym read.answered)
    (subst (λ (y : View). AdvancesOver disk v y t o (Answered (found_in (held_value v.names target)))) (sym read.is)
    (read_advances space globals is.asks (record {
      ends = cleared_ends disk is;
      finds = untag_finds disk is tagged;
      is_slot = read.is_slot;
      words = changed_size disk v m place (ref_word (Clean target)) changes;
      event = λ told s. untag_event disk told (after_read m t read.slot dst target) read.slot is s read.is_slot tagged
          after;
      applies = (refl, (λ still. after, λ differ. absurd (differ (untag_is disk is tagged))));
      clean = λ later. tagged_is (word_in (state disk m) place) (Clean target)
          (record {
            in_range = named_range disk v target is.asks.stands (cleared_known disk is).1.named;
            is = changed_word (state disk v) (state disk m) place (ref_word (Clean target)) changes;
          }) later;
    })))
  where
    -- registers aside, the view after a read is that before it
    after_changes : (place : Place) (word : ℕ)
        → PlaceChanges (state disk v) (state disk (over v space globals)) place word
        → PlaceChanges (state disk v) (state disk (after_read (over v space globals) t read.slot dst target)) place word
    after_changes (Field object i) word changes = record {
      base = changes.base;
      free = changes.free;
      here = changes.here;
      others = changes.others;
      global = changes.global;
      forward = changes.forward;
    }
    after_changes (Global g) word changes = record {
      base = changes.base;
      free = changes.free;
      word_stays = changes.word_stays;
      here = changes.here;
      others = changes.others;
      forward = changes.forward;
    }
