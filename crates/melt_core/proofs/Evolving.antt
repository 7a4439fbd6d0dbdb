-- Each event leaves what every event leaves.
use Rattle.std.proofs.Common.{◌≡◌, ◌≢◌, ℕ, ◌+◌, ◌*◌, ◌<◌, ◌≤◌, inl, inr, refl, sym, ◌∙◌, ap, subst, arith}
use Rattle.std.proofs.lemmas.Bool.Decides.{eqb_tells}
use Rattle.std.specs.Prelude.{Bool, List, Option, Some}
use Rattle.melt_model.specs.declared.history.Act.{Act}
use Rattle.melt_model.specs.declared.history.Entry.{Entry}
use Rattle.melt_word.specs.Words.{header_word, ref_word, cost_of}
use Rattle.melt_word.specs.declared.header.Shape.{Shape}
use Rattle.melt_word.specs.declared.header.Header.{Header}
use Rattle.melt_word.specs.declared.reference.Ref.{Ref}
use Rattle.melt_word.specs.declared.reference.Ref.TheVariants.{Null, Clean, Stale, Disk}
use Rattle.melt_scion.specs.State.{State, HeaderAt}
use Rattle.melt_scion.specs.Placed.{Maps, FormedWords}
use Rattle.melt_scion.specs.Regions.{Region, Owns}
use Rattle.melt_scion.specs.Changes.{SameWords, WordChanges, GlobalChanges, ForwardChanges, FreeMoves, NameAppears}
use Rattle.melt_forward.specs.Forwarding.{forward_word}
use Rattle.melt_scion.specs.Commits.{MayCommit}
use Rattle.melt_scion.proofs.Geometry.{one_header, header_moves}
use Rattle.melt_scion.proofs.Parts.{PartAt, head_part, slot_part, number_part}
use Rattle.melt_scion.proofs.Parts.{parts_differ, slot_or_number, part_outside}
use Rattle.melt_core.specs.declared.call.Place.{Place}
use Rattle.melt_core.specs.declared.call.Place.TheVariants.{Field, Global}
use Rattle.melt_core.specs.Known.{word_in, IsPlace, HasTag, IsTagged, Settles, region, Evolves}
use Rattle.melt_core.specs.Events.{PlaceChanges, IsNumberWord, number_place, Event}
use Rattle.melt_core.proofs.Staying.{cleared_header}

-- The word of a clean address, or 0, has no tag.
untagged : (r : Ref) (address : ℕ) → HasTag r → 4 * address ≡ ref_word r → ⊥
untagged Null address tag is = tag
untagged (Clean a) address tag is = tag
untagged (Stale a) address tag is = omega arith
untagged (Disk home) address tag is = omega arith

no_tag : (address : ℕ) → IsTagged (4 * address) → ⊥
no_tag address tagged = untagged tagged.reference address tagged.tag tagged.is

-- no object stands at the address
abbrev NotNamed : Maps → ℕ → Type 0
NotNamed maps at = (a n : ℕ) → maps.address a ≡ Some n → a ≢ at

-- no slot of an object is there
abbrev NoSlot : Maps → State → ℕ → Type 0
NoSlot maps s at = (object i : ℕ) → IsPlace maps s (Field object i) → object + 2 + i ≢ at

null_not_named : (maps : Maps) (s : State) → FormedWords maps s → NotNamed maps 0
null_not_named maps s formed a n named = λ null.
    let object = formed.objects a n named in
    let first : 1 ≤ a = object.1.first in
    omega arith

module _ (maps : Maps) (s : State) where
  slot_below : (object i : ℕ) (is : IsPlace maps s (Field object i)) → i < is.1.header.shape.refs
  slot_below object i is =
      let refs : is.1.header.shape.refs ≡ is.0.refs = ap (λ (x : Shape). x.refs) is.1.shape_is in
      let below : i < is.0.refs = is.2 in
      omega arith

  -- a place in an object is one of its slots
  pub place_part : (object i : ℕ) (is : IsPlace maps s (Field object i)) →
      PartAt maps s object is.1.number (2 + i) (object + 2 + i) is.1.header
  place_part object i is =
      slot_part maps s object is.1.number i is.1.header is.1.named is.1.starts (slot_below object i is)

  pub number_word_part : (object n j : ℕ) (shape : Shape) (is : IsNumberWord maps s object shape n j) →
      PartAt maps s object is.object_is.number (2 + shape.refs + j) (number_place object shape j) is.object_is.header
  number_word_part object n j shape is =
      let o = is.object_is in
      let cost : cost_of o.header.shape ≡ cost_of shape = ap cost_of o.shape_is in
      let below : j < shape.nums = is.below in
      record { named = o.named; starts = o.starts; within = omega arith; is = omega arith }

  -- after the header of an object no object stands
  after_not_named : (b m q y : ℕ) (k : Header) → FormedWords maps s → PartAt maps s b m q y k → 1 ≤ q → NotNamed maps y
  after_not_named b m q y k formed part after a n named = λ same.
      let object = formed.objects a n named in
      parts_differ maps s formed (head_part maps s a n object.0 named object.1.starts) part
      (λ (first : q ≡ 0). omega arith) (sym same)

  slot_not_named : (object i : ℕ) → FormedWords maps s → IsPlace maps s (Field object i) →
      NotNamed maps (object + 2 + i)
  slot_not_named object i formed is =
      after_not_named object is.1.number (2 + i) (object + 2 + i) is.1.header formed (place_part object i is)
      (omega arith)

  number_not_named : (object n j : ℕ) (shape : Shape) → FormedWords maps s → IsNumberWord maps s object shape n j →
      NotNamed maps (number_place object shape j)
  number_not_named object n j shape formed is =
      after_not_named object is.object_is.number (2 + shape.refs + j) (number_place object shape j)
      is.object_is.header formed (number_word_part object n j shape is) (omega arith)

  -- a number word is no slot
  number_no_slot : (object n j : ℕ) (shape : Shape) → FormedWords maps s → IsNumberWord maps s object shape n j →
      NoSlot maps s (number_place object shape j)
  number_no_slot object n j shape formed is b i place = λ same.
      let o = is.object_is in
      let p = place.1 in
      let part : PartAt maps s b p.number (2 + i) (b + 2 + i) p.header = place_part b i place in
      let slot : i < p.header.shape.refs = slot_below b i place in
      let refs : o.header.shape.refs ≡ shape.refs = ap (λ (x : Shape). x.refs) o.shape_is in
      let below : j < o.header.shape.nums = omega (arith, is.below, ap (λ (x : Shape). x.nums) o.shape_is) in
      slot_or_number maps s i j formed part (number_part maps s object o.number j o.header o.named o.starts below) slot
      (omega arith)

  -- a word of a region is in no object
  owned_not_named : (r : Region) (at : ℕ) → FormedWords maps s → Owns maps s r → r.at ≤ at → at < r.at + r.words →
      NotNamed maps at
  owned_not_named r at formed owns from to a n named =
      let object = formed.objects a n named in
      part_outside maps s at owns (head_part maps s a n object.0 named object.1.starts) from to

  owned_no_slot : (r : Region) (at : ℕ) → Owns maps s r → r.at ≤ at → at < r.at + r.words → NoSlot maps s at
  owned_no_slot r at owns from to object i place =
      part_outside maps s at owns (place_part object i place) from to

-- a word changes: no tag is put on a slot
settles_word : (maps : Maps) (s t : State) (at word : ℕ) → WordChanges s t at word →
    ((object i : ℕ) → IsPlace maps s (Field object i) → object + 2 + i ≡ at → IsTagged word → ⊥) →
    (place : Place) → IsPlace maps s place → Settles (word_in s place) (word_in t place)
settles_word maps s t at word changes clean (Field object i) is tagged = elim (eqb_tells (object + 2 + i) at) [
  | inl here ↦ absurd (clean object i is here.1 (subst IsTagged (ap t.word here.1 ∙ changes.here) tagged))
  | inr other ↦ changes.others (object + 2 + i) other.1
]
settles_word maps s t at word changes clean (Global g) is tagged = changes.global g

settles_global : (maps : Maps) (s t : State) (g word : ℕ) → GlobalChanges s t g word → (IsTagged word → ⊥) →
    (place : Place) → IsPlace maps s place → Settles (word_in s place) (word_in t place)
settles_global maps s t g word changes clean (Field object i) is tagged = changes.word_stays (object + 2 + i)
settles_global maps s t g word changes clean (Global k) is tagged = elim (eqb_tells k g) [
  | inl here ↦ absurd (clean (subst IsTagged (ap t.global here.1 ∙ changes.here) tagged))
  | inr other ↦ changes.others k other.1
]

-- where words and globals stay
settles_same : (maps : Maps) (s t : State) → ((k : ℕ) → t.word k ≡ s.word k) → ((g : ℕ) → t.global g ≡ s.global g) →
    (place : Place) → IsPlace maps s place → Settles (word_in s place) (word_in t place)
settles_same maps s t word global (Field object i) is tagged = word (object + 2 + i)
settles_same maps s t word global (Global g) is tagged = global g

evolves_same : (maps : Maps) (s t : State) → FormedWords maps s → SameWords s t → Evolves maps maps s t 0
evolves_same maps s t formed same = record {
  base = same.base;
  homes = λ home. refl;
  names = λ a n named. named;
  header = λ a n header named other starts. header_moves t s a header (same.word a) starts;
  clears = λ n header named starts. absurd (null_not_named maps s formed 0 n named refl);
  places = settles_same maps s t same.word same.global;
  forwards = λ p below filled. same.forward p;
  free = let e : t.free ≡ s.free = same.free in omega arith;
}

evolves_free : (maps : Maps) (s t : State) (words : ℕ) → FormedWords maps s → FreeMoves s t (s.free + words) →
    Evolves maps maps s t 0
evolves_free maps s t words formed moves = record {
  base = moves.base;
  homes = λ home. refl;
  names = λ a n named. named;
  header = λ a n header named other starts. header_moves t s a header (moves.word a) starts;
  clears = λ n header named starts. absurd (null_not_named maps s formed 0 n named refl);
  places = settles_same maps s t moves.word moves.global;
  forwards = λ p below filled. moves.forward p;
  free = let e : t.free ≡ s.free + words = moves.is in omega arith;
}

evolves_word : (maps : Maps) (s t : State) (at word : ℕ) → FormedWords maps s → NotNamed maps at →
    ((object i : ℕ) → IsPlace maps s (Field object i) → object + 2 + i ≡ at → IsTagged word → ⊥) →
    WordChanges s t at word → Evolves maps maps s t 0
evolves_word maps s t at word formed no_header clean changes = record {
  base = changes.base;
  homes = λ home. refl;
  names = λ a n named. named;
  header = λ a n header named other starts. header_moves t s a header (changes.others a (no_header a n named)) starts;
  clears = λ n header named starts. absurd (null_not_named maps s formed 0 n named refl);
  places = settles_word maps s t at word changes clean;
  forwards = λ p below filled. changes.forward p;
  free = let e : t.free ≡ s.free = changes.free in omega arith;
}

evolves_place : (maps : Maps) (s t : State) (place : Place) (address : ℕ) → FormedWords maps s → IsPlace maps s place →
    PlaceChanges s t place (4 * address) → Evolves maps maps s t 0
evolves_place maps s t (Field object i) address formed is changes =
    evolves_word maps s t (object + 2 + i) (4 * address) formed (slot_not_named maps s object i formed is)
    (λ b j place here. no_tag address) changes
evolves_place maps s t (Global g) address formed is changes = record {
  base = changes.base;
  homes = λ home. refl;
  names = λ a n named. named;
  header = λ a n header named other starts. header_moves t s a header (changes.word_stays a) starts;
  clears = λ n header named starts. absurd (null_not_named maps s formed 0 n named refl);
  places = settles_global maps s t g (4 * address) changes (no_tag address);
  forwards = λ p below filled. changes.forward p;
  free = let e : t.free ≡ s.free = changes.free in omega arith;
}

-- the stale bit of an object is cleared
evolves_clear : (maps : Maps) (s t : State) (address n : ℕ) (header : Header) → FormedWords maps s →
    maps.address address ≡ Some n → HeaderAt s address header →
    WordChanges s t address (header_word (cleared_header header)) → Evolves maps maps s t address
evolves_clear maps s t address n header formed named starts changes = record {
  base = changes.base;
  homes = λ home. refl;
  names = λ a m is. is;
  header = λ a m h is other at. header_moves t s a h (changes.others a other) at;
  clears = λ m h is at.
      let same : header ≡ h = one_header s address header h starts at in
      record { in_range = at.in_range; word = changes.here ∙ ap (λ (x : Header). header_word (cleared_header x)) same };
  places = settles_word maps s t address (header_word (cleared_header header)) changes
      (λ object i place here tagged. slot_not_named maps s object i formed place address n named (sym here));
  forwards = λ p below filled. changes.forward p;
  free = let e : t.free ≡ s.free = changes.free in omega arith;
}

-- a region becomes an object
evolves_enter : {maps new : Maps} {s t : State} {r : Region} {word n : ℕ} → FormedWords maps s → Owns maps s r
    → 0 < r.words → WordChanges s t r.at word → NameAppears maps new r.at n → Evolves maps new s t 0
evolves_enter {maps} {s} {t} {r} {word} formed owns some changes appears =
    let fresh : NotNamed maps r.at = owned_not_named maps s r r.at formed owns (omega arith) (omega arith) in
    let no_slot : NoSlot maps s r.at = owned_no_slot maps s r r.at owns (omega arith) (omega arith) in
    let word_only : Evolves maps maps s t 0 =
    evolves_word maps s t r.at word formed fresh (λ object i place here tagged. no_slot object i place here) changes in
    record {
      base = changes.base;
      homes = appears.home;
      names = λ a m named. appears.others a (fresh a m named) ∙ named;
      header = word_only.header;
      clears = word_only.clears;
      places = word_only.places;
      forwards = word_only.forwards;
      free = word_only.free;
    }

-- a copy becomes an object: a forwarding word that was empty is filled
evolves_commit : {told : Bool} {maps new : Maps} {s t : State} {home tried p n address : ℕ} {shape : Shape}
    {rest : List ℕ} → FormedWords maps s → MayCommit told maps s home tried p n address shape rest
    → ForwardChanges s t p (forward_word home address) → NameAppears maps new address n → Evolves maps new s t 0
evolves_commit {maps} {s} {t} {home} {address} {shape} formed may changes appears =
    let fresh : NotNamed maps address =
    owned_not_named maps s (region address shape) address formed may.copy.owns (omega arith) (omega arith) in
    record {
      base = changes.base;
      homes = appears.home;
      names = λ a m named. appears.others a (fresh a m named) ∙ named;
      header = λ a m header named other starts. header_moves t s a header (changes.word_stays a) starts;
      clears = λ m header named starts. absurd (null_not_named maps s formed 0 m named refl);
      places = settles_same maps s t changes.word_stays changes.global;
      forwards = λ q below filled. changes.others q (λ same. filled (ap s.forward same ∙ may.empty));
      free = let e : t.free ≡ s.free = changes.free in omega arith;
    }

-- an event that keeps the maps leaves what it leaves with the old ones
same_maps : (maps new : Maps) (s t : State) (cleared : ℕ) → new ≡ maps → Evolves maps maps s t cleared →
    Evolves maps new s t cleared
same_maps maps new s t cleared is evolves = subst (λ (m : Maps). Evolves maps m s t cleared) (sym is) evolves

module _ (told : Bool) (h : List Entry) (maps new : Maps) (s t : State) where
  -- each event leaves what every event leaves
  pub evolves_event : (mine : Region) (cleared : ℕ) (act : Option Act) → FormedWords maps s →
      Event told h maps new s t mine cleared act → Evolves maps new s t cleared
  evolves_event mine cleared act formed (Event.quiet is same) =
      same_maps maps new s t 0 is (evolves_same maps s t formed same)
  evolves_event mine cleared act formed (Event.reads_place place at value is same slot clean last) =
      same_maps maps new s t 0 is (evolves_same maps s t formed same)
  evolves_event mine cleared act formed (Event.reads_number object n j shape is same word) =
      same_maps maps new s t 0 is (evolves_same maps s t formed same)
  evolves_event mine cleared act formed
      (Event.writes_place place at address value is slot where_at may value_is changes) =
      same_maps maps new s t 0 is (evolves_place maps s t place address formed slot changes)
  evolves_event mine cleared act formed (Event.writes_number object n j word shape is number changes) =
      same_maps maps new s t 0 is
      (evolves_word maps s t (number_place object shape j) word formed
      (number_not_named maps s object n j shape formed number)
      (λ b i place here tagged. number_no_slot maps s object n j shape formed number b i place here) changes)
  evolves_event mine cleared act formed (Event.claims words is moves) =
      same_maps maps new s t 0 is (evolves_free maps s t words formed moves)
  evolves_event mine cleared act formed (Event.stores r at word is owns from to changes) =
      same_maps maps new s t 0 is
      (evolves_word maps s t at word formed (owned_not_named maps s r at formed owns from to)
      (λ b i place here tagged. owned_no_slot maps s r at owns from to b i place here) changes)
  evolves_event mine cleared act formed
      (Event.publishes address stored shape small stores all changes appears) =
      evolves_enter formed stores.owns (omega arith) changes appears
  evolves_event mine cleared act formed (Event.clears address header is named starts changes) =
      same_maps maps new s t address is
      (evolves_clear maps s t address named.0 header formed named.1 starts changes)
  evolves_event mine cleared act formed
      (Event.untags place at found target value is slot range was named fresh same last changes) =
      same_maps maps new s t 0 is (evolves_place maps s t place target formed slot changes)
  evolves_event mine cleared act formed (Event.commits home tried p n address shape rest may changes appears) =
      evolves_commit formed may changes appears
