-- Each event leaves to other threads the regions that they own.
use Rattle.std.proofs.Common.{◌≡◌, ◌≢◌, ◌⊎◌, ℕ, ◌+◌, ◌*◌, ◌<◌, ◌≤◌, inl, inr, refl, sym, ◌∙◌, ap, subst, arith}
use Rattle.std.proofs.lemmas.Bool.Decides.{eqb_tells}
use Rattle.std.specs.Prelude.{Bool, List, Option, Some, false}
use Rattle.melt_model.specs.declared.history.Act.{Act}
use Rattle.melt_model.specs.declared.history.Entry.{Entry}
use Rattle.melt_word.specs.Words.{IsShape, header_word, cost_of}
use Rattle.melt_word.specs.declared.header.Shape.{Shape}
use Rattle.melt_word.specs.declared.header.Header.{Header}
use Rattle.melt_scion.specs.State.{Base, State, HeaderAt}
use Rattle.melt_scion.specs.Placed.{Maps, FormedWords}
use Rattle.melt_scion.specs.Regions.{Region, Apart, Owns}
use Rattle.melt_scion.specs.Changes.{NameAppears}
use Rattle.melt_scion.proofs.Committing.{copy_header}
use Rattle.melt_scion.proofs.Geometry.{one_header}
use Rattle.melt_scion.proofs.Parts.{head_part, part_outside}
use Rattle.melt_core.specs.declared.call.Place.{Place}
use Rattle.melt_core.specs.declared.call.Place.TheVariants.{Field, Global}
use Rattle.melt_core.specs.Known.{IsPlace, region, Evolves, RegionStays}
use Rattle.melt_core.specs.Events.{PlaceChanges, Event}
use Rattle.melt_core.proofs.Staying.{headers_were}
use Rattle.melt_core.proofs.Evolving.{place_part, number_word_part, evolves_event}

-- an object that was there before, or one apart from the region
abbrev pub OldOrApart : Maps → ℕ → ℕ → Header → Region → Type 0
OldOrApart maps b n header r = (maps.address b ≡ Some n) ⊎ Apart (record { at = b; words = cost_of header.shape }) r

-- a region stays, of which no word changes, and in which no object appears
region_stays : (maps new : Maps) (s t : State) (cleared : ℕ) (r : Region) → FormedWords maps s →
    Evolves maps new s t cleared → Owns maps s r →
    ((k : ℕ) → r.at ≤ k → k < r.at + r.words → t.word k ≡ s.word k) →
    ((b n : ℕ) (header : Header) → new.address b ≡ Some n → HeaderAt t b header → OldOrApart maps b n header r) →
    RegionStays new s t r
region_stays maps new s t cleared r formed evolves owns word old = record {
  word = word;
  owned = record {
    first = owns.first;
    below =
        let below : r.at + r.words ≤ s.free = owns.below in
        let later : s.free ≤ t.free = evolves.free in
        omega arith;
    within = subst (λ (b : Base). r.at + r.words ≤ b.size + 1) (sym evolves.base) owns.within;
    outside = λ b n header named starts. elim (old b n header named starts) [
      | inl before ↦
          let was = headers_were maps new s t cleared formed evolves b n header before starts in
          subst (λ (z : Shape). Apart (record { at = b; words = cost_of z }) r) was.2
          (owns.outside b n was.0 before was.1)
      | inr apart ↦ apart
    ];
  };
}

-- what happens in one of two stretches apart happens outside the other
in_first : (a b : Region) (at k : ℕ) → Apart a b → a.at ≤ at → at < a.at + a.words → b.at ≤ k → k < b.at + b.words →
    k ≢ at
in_first a b at k apart from to from_b to_b = λ same.
    let differ : 0 < a.words → 0 < b.words → a.at ≢ b.at = apart.differ in
    let before : a.at < b.at → a.at + a.words ≤ b.at = apart.before in
    let after : b.at < a.at → b.at + b.words ≤ a.at = apart.after in
    grind arith

-- where a place changes, the words of a region stay
place_outside : {maps : Maps} {s : State} (t : State) {r : Region} (place : Place) (word : ℕ) → Owns maps s r
    → IsPlace maps s place → PlaceChanges s t place word → (k : ℕ) → r.at ≤ k → k < r.at + r.words → t.word k ≡ s.word k
place_outside {maps} {s} t (Field object i) word owns is changes k from to =
    changes.others k (λ same. part_outside maps s k owns (place_part maps s object i is) from to (sym same))
place_outside {maps} {s} t (Global g) word owns is changes k from to = changes.word_stays k

-- the object that a region becomes is the one object that is new, and apart from the regions of others
entered_apart : {maps new : Maps} (s : State) {t : State} {mine r : Region} {shape : Shape} {n : ℕ}
    → mine.words ≡ cost_of shape → Apart mine r → IsShape shape
    → t.word mine.at ≡ header_word (record { shape = shape; stale = false }) → NameAppears maps new mine.at n
    → (b m : ℕ) (header : Header) → new.address b ≡ Some m → HeaderAt t b header → OldOrApart maps b m header r
entered_apart s {t} {mine} {r} {shape} words apart small here appears b m header named starts =
    elim (eqb_tells b mine.at) [
      | inl same ↦
          let entered : Header = record { shape = shape; stale = false } in
          let is : entered ≡ header =
          one_header t mine.at entered header (record { in_range = small; word = here })
          (subst (λ (x : ℕ). HeaderAt t x header) same.1 starts) in
          let cost : mine.words ≡ cost_of header.shape = words ∙ ap (λ (x : Header). cost_of x.shape) is in
          inr (subst (λ (x : ℕ). Apart (record { at = x; words = cost_of header.shape }) r) (sym same.1)
          (subst (λ (x : ℕ). Apart (record { at = mine.at; words = x }) r) cost apart))
      | inr other ↦ inl (sym (appears.others b other.1) ∙ named)
    ]

module _ (told : Bool) (h : List Entry) (maps new : Maps) (s t : State) where
  -- no event changes a word of a region of another thread
  words_event : (mine : Region) (cleared : ℕ) (act : Option Act) (r : Region) → Owns maps s r → Apart mine r →
      Event told h maps new s t mine cleared act →
      (k : ℕ) → r.at ≤ k → k < r.at + r.words → t.word k ≡ s.word k
  words_event mine cleared act r owns apart (Event.quiet is same) k from to = same.word k
  words_event mine cleared act r owns apart (Event.reads_place place at value is same slot clean last) k from to =
      same.word k
  words_event mine cleared act r owns apart (Event.reads_number object n j shape is same word) k from to = same.word k
  words_event mine cleared act r owns apart
      (Event.writes_place place at address value is slot where_at may value_is changes) k from to =
      place_outside t place (4 * address) owns slot changes k from to
  words_event mine cleared act r owns apart
      (Event.writes_number object n j word shape is number changes) k from to =
      let o = number.object_is in
      changes.others k (λ same. part_outside maps s k owns (number_word_part maps s object n j shape number) from to
      (sym same))
  words_event mine cleared act r owns apart (Event.claims words is moves) k from to = moves.word k
  words_event mine cleared act r owns apart (Event.stores own at word is owned first last changes) k from to =
      changes.others k (in_first own r at k apart first last from to)
  words_event mine cleared act r owns apart
      (Event.publishes address stored shape small stores all changes appears) k from to =
      changes.others k (in_first (region address shape) r address k apart (omega arith) (omega arith) from to)
  words_event mine cleared act r owns apart (Event.clears address header is named starts changes) k from to =
      changes.others k (λ same. part_outside maps s k owns (head_part maps s address named.0 header named.1 starts) from
      to (sym same))
  words_event mine cleared act r owns apart
      (Event.untags place at found target value is slot range was named fresh same last changes) k from to =
      place_outside t place (4 * target) owns slot changes k from to
  words_event mine cleared act r owns apart
      (Event.commits home tried p n address shape rest may changes appears) k from to = changes.word_stays k

  -- no object is new
  no_new : (r : Region) → new ≡ maps →
      (b n : ℕ) (header : Header) → new.address b ≡ Some n → HeaderAt t b header → OldOrApart maps b n header r
  no_new r is b n header named starts = inl (ap (λ (m : Maps). m.address b) (sym is) ∙ named)

  -- no event puts an object into a region of another thread
  new_event : {mine : Region} {cleared : ℕ} {act : Option Act} {r : Region} → Apart mine r
      → Event told h maps new s t mine cleared act → (b n : ℕ) (header : Header) → new.address b ≡ Some n
      → HeaderAt t b header → OldOrApart maps b n header r
  new_event {r} apart (Event.quiet is same) = no_new r is
  new_event {r} apart (Event.reads_place place at value is same slot clean last) = no_new r is
  new_event {r} apart (Event.reads_number object n j shape is same word) = no_new r is
  new_event {r} apart (Event.writes_place place at address value is slot where_at may value_is changes) = no_new r is
  new_event {r} apart (Event.writes_number object n j word shape is number changes) = no_new r is
  new_event {r} apart (Event.claims words is moves) = no_new r is
  new_event {r} apart (Event.stores own at word is owned first last changes) = no_new r is
  new_event {r} apart (Event.publishes address stored shape small stores all changes appears) =
      entered_apart s {t = t} refl apart small changes.here appears
  new_event {r} apart (Event.clears address header is named starts changes) = no_new r is
  new_event {r} apart (Event.untags place at found target value is slot range was named fresh same last changes) =
      no_new r is
  new_event {r} apart (Event.commits home tried p n address shape rest may changes appears) =
      entered_apart s {t = t} refl apart may.body.head.small
      (changes.word_stays address ∙ copy_header maps s address home shape rest may.copy) appears

  -- each event leaves to other threads what they own
  pub regions_event : (mine : Region) (cleared : ℕ) (act : Option Act) → FormedWords maps s →
      Event told h maps new s t mine cleared act → (r : Region) → Owns maps s r → Apart mine r → RegionStays new s t r
  regions_event mine cleared act formed event r owns apart =
      region_stays maps new s t cleared r formed
      (evolves_event told h maps new s t mine cleared act formed event) owns
      (words_event mine cleared act r owns apart event) (new_event apart event)
