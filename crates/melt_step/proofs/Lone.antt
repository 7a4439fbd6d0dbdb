-- The words that a call lacks are those that its operation needs: for a new object, or for one that no register holds.
use Rattle.std.proofs.Common.{◌≡◌, ◌≢◌, ℕ, zero, suc, ◌+◌, true, List, get_or, refl, sym, ◌∙◌, ap, subst, arith}
use Rattle.std.proofs.Common.{inl, inr}
use Rattle.std.specs.Prelude.{Option, None, Some, unwrap_or, slice_index}
use Rattle.std.specs.Option.{option_map, option_map_or}
use Rattle.std.proofs.lemmas.Option.{same_Some}
use Rattle.melt_model.specs.Alive.{Held, words_of}
use Rattle.melt_model.specs.History as model
use Rattle.melt_model.specs.History.{shape, last}
use Rattle.melt_model.specs.declared.history.Entry.{Entry}
use Rattle.melt_model.specs.declared.history.Slot.{Slot}
use Rattle.melt_model.specs.declared.history.Slot.TheVariants as slot
use Rattle.melt_model.specs.declared.history.Value.TheVariants.{Nil, Ref}
use Rattle.melt_model.specs.declared.operations.Op.{Op}
use Rattle.melt_model.specs.declared.operations.Op.TheVariants as op
use Rattle.melt_word.specs.Words.{cost_of, ref_word, IsDiskHome}
use Rattle.melt_word.specs.declared.header.Shape.{Shape}
use Rattle.melt_word.specs.declared.reference.Ref.TheVariants.{Disk}
use Rattle.melt_word.proofs.OneToOne.{same_ref}
use Rattle.melt_record.specs.declared.head.Head.{Head}
use Rattle.melt_record.specs.declared.head.Kind.TheVariants.{Body, Stub}
use Rattle.melt_record.proofs.Heads.{same_head}
use Rattle.melt_forward.proofs.Searching.{empty_sends_not}
use Rattle.melt_scion.specs.Commits.{HasHead}
use Rattle.melt_scion.specs.Heaps.{OnDisk, register_in}
use Rattle.melt_scion.specs.Placed.{Maps, HomeStands, Stands, value_of}
use Rattle.melt_scion.specs.declared.heap.Names as heap
use Rattle.melt_core.specs.Known.{IsPlace, SlotAt, word_in}
use Rattle.melt_core.specs.Stages.{LoadsAt}
use Rattle.melt_core.specs.Views.{View, Standing, held_value, maps, maps_of, registers_in, state, value}
use Rattle.melt_core.specs.declared.call.Place.{Place}
use Rattle.melt_core.specs.declared.call.Place.TheVariants.{Field, Global}
use Rattle.melt_core.proofs.Places.{place_stands}
use Rattle.melt_core.proofs.Tasks.{load_is, gload_is}
use Rattle.melt_core.proofs.Values.{held_is, named_value, value_held}
use Rattle.melt_safepoint.specs.Needs.{NeedsObject, NeedsWords}
use Rattle.melt_safepoint.specs.Collections.{NoneForwarded}

-- the value that an address stands for is an object with an address
held_named : (names : Option heap.Names) (address n : ℕ) → held_value names address ≡ Ref n
    → (maps_of names).address address ≡ Some n
held_named names zero n is = absurd (let e : Nil ≡ Ref n = is in cc)
held_named names (suc address) n is = named_of ((maps_of names).address (suc address)) is
  where
    named_of : (o : Option ℕ) → unwrap_or (option_map Ref o) Nil ≡ Ref n → o ≡ Some n
    named_of None same = absurd (cc)
    named_of (Some m) same = cc

-- so no register holds an object without one
not_held : (v : View) (n : ℕ) → ((address : ℕ) → (maps v).address address ≢ Some n) → Held (value v) n → ⊥
not_held v n nowhere held =
    let address : ℕ = get_or (registers_in v.held held.thread) held.register 0 in
    nowhere address
    (held_named v.names address n
    (sym (value_held v.names (registers_in v.held held.thread) held.register) ∙ held.holds))

-- the object has no address, and takes so many words
record IsAway (h : List Entry) (maps : Maps) (n words : ℕ) : Type 0 where
  nowhere : (address : ℕ) → maps.address address ≢ Some n
  cost : words ≡ words_of h n

-- the words of an object whose shape is known
words_by : (h : List Entry) (n : ℕ) (z : Shape) → shape h n ≡ Some (record { refs = z.refs; nums = z.nums })
    → words_of h n ≡ cost_of z
words_by h n z is = ap (λ (o : Option model.Shape). option_map_or (λ (y : model.Shape). 2 + y.refs + y.nums) o 0) is

-- Of the three that a home may be it is a Body then: the object has no address, and its shape is the one that was read.
home_away : (v : View) (disk : OnDisk) (home n : ℕ) (z : Shape) → NoneForwarded v
    → HasHead true (state disk v).base home z → HomeStands v.log (maps v) (state disk v) home n
    → IsAway v.log (maps v) n (cost_of z)
home_away v disk home n z none head stands =
    let read : Head = record { shape = z; kind = Body } in
    elim stands.is [
      | inl body ↦
          let e : read ≡ record { shape = stands.reserved_for; kind = Body } =
          (same_head (head.on_disk refl) body.head).1 in
          let same : z ≡ stands.reserved_for = ap (λ (x : Head). x.shape) e in
          record {
            nowhere = body.nowhere;
            cost = ap cost_of same ∙ sym (words_by v.log n stands.reserved_for stands.shape_is);
          }
      | inr rest ↦ elim rest [
        | inl stub ↦
            let e : read ≡ record { shape = stands.reserved_for; kind = Stub stub.scion } =
            (same_head (head.on_disk refl) stub.head).1 in
            let k : Body ≡ Stub stub.scion = ap (λ (x : Head). x.kind) e in
            absurd (cc)
        | inr sent ↦
            absurd (empty_sends_not (slice_index v.forward sent.forwards.place) home (none sent.forwards.place)
            sent.address sent.forwards.sends)
      ]
    ]

-- a slot whose word is that of a home refers to the object of the home
refers_by : (v : View) (disk : OnDisk) (place : Place) (at : Slot) (home n : ℕ) → Standing true disk v
    → IsPlace (maps v) (state disk v) place → SlotAt (maps v) place at → IsDiskHome home
    → word_in (state disk v) place ≡ ref_word (Disk home) → (maps v).home home ≡ Some n → last v.log at ≡ Ref n
refers_by v disk place at home n stands is where_at in_range word has =
    let there : Stands (maps v) (word_in (state disk v) place) (last v.log at) =
    place_stands v.log (maps v) (state disk v) place at (stands.holds.tells refl) is where_at in
    let one : Disk home ≡ there.reference =
    same_ref (Disk home) there.reference in_range there.in_range (sym word ∙ there.is) in
    let same : Some (Ref n) ≡ Some (last v.log at) =
    sym (ap (option_map Ref) has) ∙ (ap (value_of (maps v)) one ∙ there.stands_for) in
    sym (same_Some (Ref n) (last v.log at) same)

-- A load found a home at the place, and the Body there was read, while no forwarding word is filled.
pub record FoundAway (v : View) (disk : OnDisk) (place : Place) (home : ℕ) (z : Shape) : Type 0 where
  pub none : NoneForwarded v
  pub at : IsPlace (maps v) (state disk v) place
  pub word : word_in (state disk v) place ≡ ref_word (Disk home)
  pub has : (n : ℕ) × ((maps v).home home ≡ Some n)
  pub head : HasHead true (state disk v).base home z

-- the slot refers to an object that no register holds, of the shape
needs_object : (v : View) (disk : OnDisk) (place : Place) (at : Slot) (home : ℕ) (z : Shape) → Standing true disk v
    → SlotAt (maps v) place at → FoundAway v disk place home z → NeedsObject v.log (value v) at (cost_of z)
needs_object v disk place at home z stands where_at found =
    let n : ℕ = found.has.0 in
    let away : IsAway v.log (maps v) n (cost_of z) =
    home_away v disk home n z found.none found.head ((stands.holds.tells refl).homes home n found.has.1) in
    record {
      number = n;
      refers = refers_by v disk place at home n stands found.at where_at found.head.in_range found.word found.has.1;
      not_held = not_held v n away.nowhere;
      words = away.cost;
    }

-- so the load needs the words of that object
pub load_needs : {v : View} {disk : OnDisk} (t : ℕ) (o : Op) (place : Place) (dst : ℕ) {home : ℕ} {z : Shape}
    → Standing true disk v → LoadsAt (register_in v.held t) o place dst → FoundAway v disk place home z
    → NeedsWords v.log (value v) t o (cost_of z)
load_needs {v} {disk} t o (Field object i) dst {home} {z} stands loads found =
    let m : ℕ = found.at.1.number in
    let is : o ≡ op.Load dst loads.0 i = load_is o loads.0 dst i loads.1 in
    let value_is : value v t loads.0 ≡ Ref m =
    value_held v.names (registers_in v.held t) loads.0
    ∙ (ap (held_value v.names) loads.2
    ∙ held_is v.names object (Ref m) (named_value v.names object m found.at.1.named)) in
    subst (λ (p : Op). NeedsWords v.log (value v) t p (cost_of z)) (sym is)
    (m, value_is, needs_object v disk (Field object i) (slot.Field m i) home z stands (m, found.at.1.named, refl) found)
load_needs {v} {disk} t o (Global g) dst {home} {z} stands loads found =
    subst (λ (p : Op). NeedsWords v.log (value v) t p (cost_of z)) (sym (gload_is o dst g loads))
    (needs_object v disk (Global g) (slot.Global g) home z stands refl found)
