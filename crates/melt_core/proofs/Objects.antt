-- Objects and places, as the events of a call find them.
use Rattle.std.proofs.Common.{◌≡◌, ◌≢◌, ◌⊎◌, ℕ, ◌+◌, ◌*◌, ◌<◌, inl, inr, refl, sym, ◌∙◌, ap, subst, arith}
use Rattle.std.specs.Prelude.{true, false, Some}
use Rattle.melt_model.specs.History.{shape as shape_in, last}
use Rattle.melt_model.specs.Thread.{value_in}
use Rattle.melt_model.specs.declared.history.Slot.{Slot}
use Rattle.melt_model.specs.declared.history.Value.TheVariants.{Ref as Object}
use Rattle.melt_word.specs.Words.{IsAddress, IsHeader, IsRef, header_word, ref_word}
use Rattle.melt_word.specs.declared.header.Header.{Header}
use Rattle.melt_word.specs.declared.header.Shape.{Shape}
use Rattle.melt_word.specs.declared.reference.Ref.{Ref}
use Rattle.melt_word.specs.declared.reference.Ref.TheVariants.{Null, Clean, Stale, Disk}
use Rattle.melt_word.proofs.OneToOne.{same_ref}
use Rattle.melt_space.specs.Space.{word_at}
use Rattle.melt_scion.specs.Placed.{FormedWords, MayStand, IsReferenceWord, value_of}
use Rattle.melt_scion.specs.Heaps.{OnDisk, register_in}
use Rattle.melt_core.specs.declared.call.Place.{Place}
use Rattle.melt_core.specs.declared.call.Place.TheVariants.{Field, Global}
use Rattle.melt_core.specs.Known.{IsObjectAt, IsPlace, IsTagged, HasTag, SlotAt, word_in}
use Rattle.melt_core.specs.Changed.{HoldsRef}
use Rattle.melt_core.specs.Views.{View, maps, state, values_of, held_value, registers_in, Standing}
use Rattle.melt_core.proofs.Answers.{shape_of}
use Rattle.melt_core.proofs.Places.{found_stands}
use Rattle.melt_core.proofs.Values.{value_held, held_is, named_value}

-- an object stands where a register points
pub object_held : (disk : OnDisk) (v : View) (t r : ℕ) → Standing false disk v → register_in v.held t r ≢ 0
    → (header : Header)
    × IsObjectAt (maps v) (state disk v) (register_in v.held t r) header.shape
object_held disk v t r s some = elim (s.registers t r) [
  | inl nothing ↦ absurd (some nothing)
  | inr holds ↦
      let object = s.holds.formed.objects (register_in v.held t r) holds.0.0 holds.0.1 in (
        object.0,
        record {
          number = holds.0.0;
          named = holds.0.1;
          header = object.0;
          starts =
              object.1.starts;
          shape_is = refl;
        },
      )
]

-- the object of a shape that was read off its header
pub object_of : (disk : OnDisk) (v : View) (address : ℕ) (header : Header) (shape : Shape)
    → IsObjectAt (maps v) (state disk v) address header.shape
    → ((h : Header) → IsHeader h → word_at v.space address ≡ header_word h → shape ≡ h.shape)
    → IsObjectAt (maps v) (state disk v) address shape
object_of disk v address header shape is shaped =
    record {
      number = is.number;
      named = is.named;
      header = is.header;
      starts = is.starts;
      shape_is =
          sym (shaped is.header is.starts.in_range is.starts.word);
    }

-- the value in the register that holds an object
pub value_named : (v : View) (t r address n : ℕ) → register_in v.held t r ≡ address → (maps v).address address ≡ Some n
    → value_in (values_of v t) r ≡ Object n
value_named v t r address n holds named =
    value_held v.names (registers_in v.held t) r
    ∙ (ap (held_value v.names) holds ∙ held_is v.names address (Object n) (named_value v.names address n named))

-- the history's shape of an object
pub object_shape : (disk : OnDisk) (v : View) (address n : ℕ) (shape : Shape) → Standing true disk v
    → IsObjectAt (maps v) (state disk v) address shape → (maps v).address address ≡ Some n
    → shape_in v.log n ≡ Some (shape_of shape)
object_shape disk v address n shape s object named =
    (s.holds.tells refl).shapes address n object.header named object.starts
    ∙ ap (λ (z : Shape). Some (shape_of z)) object.shape_is

-- the word at a place is one of a reference
pub place_word : (disk : OnDisk) (v : View) (place : Place) → FormedWords (maps v) (state disk v)
    → IsPlace (maps v) (state disk v) place
    → IsReferenceWord (maps v) (state disk v) (word_in (state disk v) place)
place_word disk v (Field object i) formed there =
    let refs : there.1.header.shape.refs ≡ there.0.refs = ap (λ (x : Shape). x.refs) there.1.shape_is in
    let below : i < there.0.refs = there.2 in
    formed.slots object there.1.number i there.1.header there.1.named there.1.starts (omega arith)
place_word disk v (Global g) formed there = formed.globals g there

-- what a reference that was decoded may be
pub may_stand_there : (disk : OnDisk) (v : View) (place : Place) (r : Ref) → Standing false disk v
    → IsPlace (maps v) (state disk v) place
    → HoldsRef (word_in (state disk v) place) r → MayStand (maps v) (state disk v) r
may_stand_there disk v place r s there holds =
    let word = place_word disk v place s.holds.formed there in
    subst (MayStand (maps v) (state disk v))
    (same_ref word.reference r word.in_range holds.in_range (sym word.is ∙ holds.is)) word.stands

-- and what it stands for
pub value_there : (disk : OnDisk) (v : View) (place : Place) (slot : Slot) (r : Ref) → Standing true disk v
    → IsPlace (maps v) (state disk v) place → SlotAt (maps v) place slot → HoldsRef (word_in (state disk v) place) r
    → value_of (maps v) r ≡ Some (last v.log slot)
value_there disk v place slot r s there at holds =
    found_stands v.log (maps v) (state disk v) place slot r (s.holds.tells refl) there at holds.in_range holds.is

-- a word with a tag, and words without
pub tagged_is : (word : ℕ) (r : Ref) → HoldsRef word r → IsTagged word → HasTag r
tagged_is word r holds tagged =
    subst HasTag (same_ref tagged.reference r tagged.in_range holds.in_range (sym tagged.is ∙ holds.is)) tagged.tag

-- a number after the tag of a stale address is an address
-- a stale address or a home has a tag
pub either_tagged : (word : ℕ) (r : Ref) → HoldsRef word r
    → ((a : ℕ) × (r ≡ Stale a)) ⊎ ((home : ℕ) × (r ≡ Disk home)) → IsTagged word
either_tagged word r holds (inl stale) = record {
  reference = r;
  in_range = holds.in_range;
  tag = subst HasTag (sym stale.1) tt;
  is = holds.is;
}
either_tagged word r holds (inr disk) = record {
  reference = r;
  in_range = holds.in_range;
  tag = subst HasTag (sym disk.1) tt;
  is = holds.is;
}

stale_number : (r : Ref) (a : ℕ) → IsRef r → 4 * a + 1 ≡ ref_word r → IsAddress a
stale_number Null a range is = absurd (omega arith)
stale_number (Clean b) a range is = absurd (omega arith)
stale_number (Stale b) a range is = let same : b ≡ a = omega arith in subst IsAddress same range
stale_number (Disk b) a range is = absurd (omega arith)

pub stale_address : (disk : OnDisk) (v : View) (place : Place) (a : ℕ) → Standing false disk v
    → IsPlace (maps v) (state disk v) place
    → word_in (state disk v) place ≡ ref_word (Stale a) → IsAddress a
stale_address disk v place a s there is =
    let word = place_word disk v place s.holds.formed there in
    stale_number word.reference a word.in_range (sym is ∙ word.is)
