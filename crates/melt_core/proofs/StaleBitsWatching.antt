-- A look that finds an object watches it, and a read of the slot passes it.
use Rattle.std.proofs.Common.{◌≡◌, ℕ, ◌≤◌, inr, List, [], ◌∷◌, ◌++◌, length, refl, sym, ◌∙◌, ap, subst, arith}
use Rattle.std.proofs.lemmas.List.{take-append-le}
use Rattle.std.proofs.lemmas.Option.{same_Some, slice_get_within}
use Rattle.std.proofs.Math.Seq.{take-length}
use Rattle.std.specs.Prelude.{Option, None, Some}
use Rattle.std.specs.Option.{option_map}
use Rattle.melt_model.specs.History.{last}
use Rattle.melt_model.specs.declared.history.Value.{Value}
use Rattle.melt_model.specs.declared.history.Value.TheVariants.{Ref}
use Rattle.melt_model.specs.declared.history.Slot.{Slot}
use Rattle.melt_model.specs.declared.history.Slot.TheVariants as slot
use Rattle.melt_model.specs.declared.history.Act.TheVariants.{Read}
use Rattle.melt_model.specs.declared.history.Entry.{Entry}
use Rattle.melt_model.proofs.Histories.{slice_get-append_left, slice_get-append_seam}
use Rattle.melt_word.specs.Words.{ref_word}
use Rattle.melt_word.specs.declared.reference.Ref as words
use Rattle.melt_word.specs.declared.reference.Ref.TheVariants as word
use Rattle.melt_scion.specs.State.{State}
use Rattle.melt_scion.specs.Placed.{Maps, Tells, value_of}
use Rattle.melt_core.specs.declared.call.Place.{Place}
use Rattle.melt_core.specs.declared.call.Place.TheVariants.{Field, Global}
use Rattle.melt_core.specs.declared.call.Stage.{Stage}
use Rattle.melt_core.specs.Answering.{entry}
use Rattle.melt_core.specs.Known.{HasTag, HasLooked, IsPlace, SlotAt, word_in}
use Rattle.melt_core.specs.StaleBits.{Passed, Look, Sight, Watched, sight_of}
use Rattle.melt_core.proofs.Places.{found_stands}

-- A place is a slot of the history, and one alone;
place_slot : (m : Maps) (s : State) (place : Place) → IsPlace m s place → (at : Slot) × SlotAt m place at
place_slot m s (Field object i) is = (slot.Field is.1.number i, (is.1.number, is.1.named, refl))
place_slot m s (Global g) is = (slot.Global g, refl)

pub one_slot : (m : Maps) (place : Place) (a b : Slot) → SlotAt m place a → SlotAt m place b → a ≡ b
one_slot m (Field object i) a b one two =
    let same : one.0 ≡ two.0 = same_Some one.0 two.0 (sym one.1 ∙ two.1) in
    one.2 ∙ (ap (λ (n : ℕ). slot.Field n i) same ∙ sym two.2)
one_slot m (Global g) a b one two = one ∙ sym two

-- and a reference with a tag stands for an object.
named_object : (name : Option ℕ) (v : Value) → option_map Ref name ≡ Some v → (n : ℕ) × (v ≡ Ref n)
named_object None v is = absurd (cc)
named_object (Some n) v is = (n, sym (same_Some (Ref n) v is))

tag_object : (m : Maps) (r : words.Ref) (v : Value) → HasTag r → value_of m r ≡ Some v → (n : ℕ) × (v ≡ Ref n)
tag_object m word.Null v tag is = absurd tag
tag_object m (word.Clean a) v tag is = absurd tag
tag_object m (word.Stale a) v tag is = named_object (m.address a) v is
tag_object m (word.Disk home) v tag is = named_object (m.home home) v is

-- So a call that finds one watches the object from then on.
pub watch_begins : {h : List Entry} {m : Maps} {s : State} (stage : ℕ → Option Stage) (q t : ℕ) (look : Look)
    → Tells h m s → HasLooked m s look.place look.found → word_in s look.place ≡ ref_word look.found → q ≤ length h
    → Watched q (sight_of h m s stage) t look
watch_begins {h} {m} {s} stage q t look tells looked word_is since =
    let at = place_slot m s look.place looked.at in
    let value : value_of m look.found ≡ Some (last h at.0) =
    found_stands h m s look.place at.0 look.found tells looked.at at.1 looked.in_range word_is in
    let object = tag_object m look.found (last h at.0) looked.tag value in
    record {
      number = object.0;
      stands_for = value ∙ ap Some object.1;
      slot = at.0;
      at = at.1;
      moment = length h;
      from = since;
      to = omega arith;
      after = λ k e stands own. slice_get_within h k e stands;
      held = ap (λ (before : List Entry). last before at.0) (take-length h) ∙ object.1;
    }

-- the object that was watched is passed as the thread reads the slot
read_passes : (q t : ℕ) (s : Sight) (look : Look) (x : Value) → (w : Watched q s t look)
    → Passed (s.log ++ entry t (Read w.slot x) ∷ []) q w.number
read_passes q t s look x w =
    let e : Entry = entry t (Read w.slot x) in
    inr (record {
      place = length s.log;
      entry = e;
      stands = slice_get-append_seam s.log e [];
      slot = w.slot;
      found = x;
      reads = refl;
      moment = w.moment;
      from = w.from;
      to = w.to;
      after = λ k y below stands own.
          w.after k y (sym (slice_get-append_left s.log (e ∷ []) k below) ∙ stands) own;
      held = ap (λ (before : List Entry). last before w.slot) (take-append-le w.moment s.log (e ∷ []) w.to) ∙ w.held;
    })

-- which is the object at the address to which the reference leads
pub look_passes : {q t : ℕ} (target : ℕ) {n : ℕ} {s : Sight} {look : Look} (x : Value)
    → value_of s.maps look.found ≡ value_of s.maps (word.Clean target) → s.maps.address target ≡ Some n
    → (w : Watched q s t look) → Passed (s.log ++ entry t (Read w.slot x) ∷ []) q n
look_passes {q} {t} target {n} {s} {look} x leads named w =
    let stands : value_of s.maps look.found ≡ Some (Ref n) = leads ∙ ap (option_map Ref) named in
    let value : Ref w.number ≡ Ref n = same_Some (Ref w.number) (Ref n) (sym w.stands_for ∙ stands) in
    let same : w.number ≡ n = cc in
    subst (λ (k : ℕ). Passed (s.log ++ entry t (Read w.slot x) ∷ []) q k) same (read_passes q t s look x w)
