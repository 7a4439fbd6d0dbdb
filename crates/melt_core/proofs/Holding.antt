-- Each event keeps what holds between two events.
use Rattle.std.proofs.Common.{◌≡◌, ℕ, ◌+◌, ◌*◌, ◌<◌, refl, sym, ap, subst, arith, List}
use Rattle.std.specs.Prelude.{Bool, true, false, Option, Some}
use Rattle.melt_model.specs.History.{last, made, Legal}
use Rattle.melt_model.specs.declared.history.Entry.{Entry}
use Rattle.melt_model.specs.declared.history.Act.{Act}
use Rattle.melt_model.specs.declared.history.Act.TheVariants.{Make, Read, Write}
use Rattle.melt_model.specs.declared.history.Value.{Value}
use Rattle.melt_model.specs.declared.history.Value.TheVariants.{Num}
use Rattle.melt_model.specs.declared.history.Slot.{Slot}
use Rattle.melt_model.specs.declared.history.Slot.TheVariants as slot
use Rattle.melt_word.specs.Words.{IsShape, IsRef, ref_word, header_word, cost_of}
use Rattle.melt_word.specs.declared.header.Shape.{Shape}
use Rattle.melt_word.specs.declared.reference.Ref.{Ref}
use Rattle.melt_word.specs.declared.reference.Ref.TheVariants.{Clean}
use Rattle.melt_scion.specs.State.{State, IsFresh}
use Rattle.melt_scion.specs.Placed.{Maps, IsNamed, MayHold, value_of, value_at, Holds}
use Rattle.melt_scion.specs.Regions.{Region, HasStored}
use Rattle.melt_scion.specs.Changes.{WordChanges, NameAppears}
use Rattle.melt_scion.proofs.Keeping.{NoGaps_stays}
use Rattle.melt_scion.proofs.Following.{SameValues, same_history, unchanged, quiet_entry, write_entry}
use Rattle.melt_scion.proofs.Staying.{SameParts, FormedWords_same, Tells_same, NoGaps_same, same_words, free_moves}
use Rattle.melt_scion.proofs.Staying.{word_outside, bit_cleared, Tells_reads}
use Rattle.melt_scion.proofs.Writing.{Formed_number, Tells_number}
use Rattle.melt_scion.proofs.Making.{Formed_made, Tells_made}
use Rattle.melt_scion.proofs.Committing.{Formed_committed, NoGaps_committed, Tells_committed}
use Rattle.melt_core.specs.declared.call.Place.{Place}
use Rattle.melt_core.specs.Answering.{entry, with_entry}
use Rattle.melt_core.specs.Known.{IsPlace, SlotAt, word_in, region}
use Rattle.melt_core.specs.Events.{PlaceChanges, LastAt, IsNumberWord, number_place, Event}
use Rattle.melt_core.proofs.Places.{clean_may, held_may, held_stands, untagged_stands, place_stands, Formed_place}
use Rattle.melt_core.proofs.Places.{NoGaps_place, Tells_place}

-- where slots, number words and globals stay, and the values of the history do
pub holds_same : (told : Bool) (h k : List Entry) (maps : Maps) (s t : State) → SameParts maps s t → SameValues h k →
    Holds told h maps s → Holds told k maps t
holds_same told h k maps s t same values holds = record {
  formed = FormedWords_same maps s t same holds.formed;
  no_gaps = NoGaps_same maps s t same holds.no_gaps;
  tells = λ is. Tells_same maps s t same h k values (holds.tells is);
}

-- an event that keeps the maps
same_maps : (told : Bool) (k : List Entry) (maps new : Maps) (t : State) → new ≡ maps → Holds told k maps t →
    Holds told k new t
same_maps told k maps new t is holds = subst (λ (m : Maps). Holds told k m t) (sym is) holds

module _ (told : Bool) (thread : ℕ) (h : List Entry) (maps : Maps) (s t : State) (holds : Holds told h maps s) where
  -- a register is written to a slot or a global
  pub holds_writes_place : (place : Place) (at : Slot) (address : ℕ) (value : Value) → IsPlace maps s place →
      SlotAt maps place at → MayHold maps s address → (told ≡ true → value_at maps address ≡ Some value) →
      PlaceChanges s t place (4 * address) → Holds told (with_entry thread h (Some (Write at value))) maps t
  holds_writes_place place at address value is where_at may value_is changes = record {
    formed = Formed_place maps s t place (4 * address) holds.formed is changes
        (held_may maps s address holds.formed may);
    no_gaps = NoGaps_place s t place (4 * address) changes holds.no_gaps;
    tells = λ tell.
        Tells_place t place holds.formed is where_at changes
        (write_entry h (entry thread (Write at value)) at value refl)
        (held_stands maps s address value holds.formed may (value_is tell)) (holds.tells tell);
  }

  -- a number is written
  pub holds_writes_number : (object n j word : ℕ) (shape : Shape) → IsNumberWord maps s object shape n j →
      WordChanges s t (number_place object shape j) word →
      Holds told (with_entry thread h (Some (Write (slot.Cell n j) (Num word)))) maps t
  holds_writes_number object n j word shape is changes =
      let o = is.object_is in
      let nums : o.header.shape.nums ≡ shape.nums = ap (λ (z : Shape). z.nums) o.shape_is in
      let under : j < shape.nums = is.below in
      let below : j < o.header.shape.nums = omega arith in
      let here : WordChanges s t (number_place object o.header.shape j) word =
      subst (λ (z : Shape). WordChanges s t (number_place object z j) word) (sym o.shape_is) changes in
      record {
        formed = Formed_number maps s t object n j word o.header holds.formed is.named o.starts below here;
        no_gaps = NoGaps_stays s t changes.base changes.forward holds.no_gaps;
        tells = λ tell.
            Tells_number maps s t object n j word o.header holds.formed is.named o.starts below here h
            (with_entry thread h (Some (Write (slot.Cell n j) (Num word))))
            (write_entry h (entry thread (Write (slot.Cell n j) (Num word))) (slot.Cell n j) (Num word) refl)
            (holds.tells tell);
      }

  -- an object is made
  pub holds_publishes : (new : Maps) (address stored : ℕ) (shape : Shape) → (told ≡ true → Legal h s.base.globals) →
      IsShape shape → HasStored maps s (region address shape) (λ k. 0) stored → stored + 1 ≡ cost_of shape →
      WordChanges s t address (header_word (record { shape = shape; stale = false })) →
      NameAppears maps new address (made h) → Holds told (with_entry thread h (Some (Make shape.refs shape.nums))) new t
  holds_publishes new address stored shape legal small stores all changes appears = record {
    formed = Formed_made maps new s t address (made h) stored shape holds.formed small stores all changes appears;
    no_gaps = NoGaps_stays s t changes.base changes.forward holds.no_gaps;
    tells = λ tell.
        Tells_made maps new s t address (made h) stored shape holds.formed small stores all changes appears h
        (entry thread (Make shape.refs shape.nums)) s.base.globals (legal tell) (holds.tells tell) refl refl;
  }

  -- a reference with a tag becomes that of the object's address
  pub holds_untags : (place : Place) (at : Slot) (found : Ref) (target : ℕ) (value : Value) → IsPlace maps s place →
      IsRef found → word_in s place ≡ ref_word found → IsNamed maps target → IsFresh s target →
      (told ≡ true → value_of maps found ≡ value_of maps (Clean target)) →
      (told ≡ true → LastAt h maps place at value) → PlaceChanges s t place (ref_word (Clean target)) →
      Holds told (with_entry thread h (Some (Read at value))) maps t
  holds_untags place at found target value is range was named fresh same lasts changes = record {
    formed = Formed_place maps s t place (4 * target) holds.formed is changes
        (clean_may maps s target holds.formed named fresh);
    no_gaps = NoGaps_place s t place (4 * target) changes holds.no_gaps;
    tells = λ tell.
        let where_at : SlotAt maps place at = (lasts tell).slot in
        Tells_reads h (with_entry thread h (Some (Read at value))) maps t
        (quiet_entry h (entry thread (Read at value)) refl)
        (Tells_place t place holds.formed is where_at changes (unchanged h at (last h at) refl)
        (untagged_stands maps s (word_in s place) target found (last h at) holds.formed named range was (same tell)
        (place_stands h maps s place at (holds.tells tell) is where_at)) (holds.tells tell));
  }

module _ (told : Bool) (thread : ℕ) (h : List Entry) (maps new : Maps) (s t : State) where
  -- each event keeps what holds
  pub holds_event : (mine : Region) (cleared : ℕ) (act : Option Act) → Holds told h maps s →
      (told ≡ true → Legal h s.base.globals) → Event told h maps new s t mine cleared act →
      Holds told (with_entry thread h act) new t
  holds_event mine cleared act holds legal (Event.quiet is same) =
      same_maps told h maps new t is (holds_same told h h maps s t (same_words maps s t same) (same_history h) holds)
  holds_event mine cleared act holds legal
      (Event.reads_place place at value is same slot clean lasts) =
      same_maps told _ maps new t is
      (holds_same told h _ maps s t (same_words maps s t same) (quiet_entry h (entry thread (Read at value)) refl)
      holds)
  holds_event mine cleared act holds legal
      (Event.reads_number object n j shape is same number) =
      same_maps told _ maps new t is
      (holds_same told h _ maps s t (same_words maps s t same)
      (quiet_entry h (entry thread (Read (slot.Cell n j) (Num (s.word (number_place object shape j))))) refl) holds)
  holds_event mine cleared act holds legal
      (Event.writes_place place at address value is slot where_at may value_is changes) =
      same_maps told _ maps new t is
      (holds_writes_place told thread h maps s t holds place at address value slot where_at may value_is changes)
  holds_event mine cleared act holds legal
      (Event.writes_number object n j word shape is number changes) =
      same_maps told _ maps new t is
      (holds_writes_number told thread h maps s t holds object n j word shape number changes)
  holds_event mine cleared act holds legal (Event.claims words is moves) =
      same_maps told h maps new t is
      (holds_same told h h maps s t (free_moves maps s t (s.free + words) (omega arith) moves) (same_history h) holds)
  holds_event mine cleared act holds legal
      (Event.stores r at word is owns from below changes) =
      same_maps told h maps new t is
      (holds_same told h h maps s t (word_outside maps s t at word r holds.formed changes owns from below)
      (same_history h) holds)
  holds_event mine cleared act holds legal
      (Event.publishes address stored shape small stores all changes appears) =
      holds_publishes told thread h maps s t holds new address stored shape legal small stores all changes appears
  holds_event mine cleared act holds legal
      (Event.clears address header is named starts changes) =
      same_maps told h maps new t is
      (holds_same told h h maps s t (bit_cleared maps s t address named.0 header holds.formed named.1 starts changes)
      (same_history h) holds)
  holds_event mine cleared act holds legal
      (Event.untags place at found target value is slot range was named fresh same lasts changes) =
      same_maps told _ maps new t is
      (holds_untags told thread h maps s t holds place at found target value slot range was named fresh same lasts
      changes)
  holds_event mine cleared act holds legal
      (Event.commits home tried p n address shape rest may changes appears) = record {
        formed = Formed_committed maps new s t home tried p n address shape rest holds.formed holds.no_gaps told may
            changes
            appears;
        no_gaps = NoGaps_committed maps new s t home tried p n address shape rest holds.formed holds.no_gaps told may
            changes appears;
        tells = λ tell.
            Tells_committed maps new s t home tried p n address shape rest holds.formed holds.no_gaps told may changes
            appears h (holds.tells tell) tell;
      }
