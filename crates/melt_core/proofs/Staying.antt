-- What every event leaves of what is known: of objects, of registers, of values, and of calls.
use Rattle.std.proofs.Common.{◌≡◌, ◌≢◌, ℕ, zero, suc, ◌+◌, ◌<◌, ◌≤◌, inl, inr, refl, sym, ◌∙◌, ap, subst, arith}
use Rattle.std.proofs.lemmas.Bool.Decides.{eqb_tells}
use Rattle.std.specs.Prelude.{Bool, true, false, List, Option, None, Some}
use Rattle.std.specs.Option.{option_map}
use Rattle.melt_model.specs.declared.history.Value.{Value}
use Rattle.melt_model.specs.declared.history.Value.TheVariants.{Ref}
use Rattle.melt_word.specs.declared.header.Shape.{Shape}
use Rattle.melt_word.specs.declared.header.Header.{Header}
use Rattle.melt_word.specs.declared.reference.Ref as words
use Rattle.melt_word.specs.declared.reference.Ref.TheVariants.{Null, Clean, Stale, Disk}
use Rattle.melt_scion.specs.State.{Base, State, HeaderAt, IsFresh}
use Rattle.melt_scion.specs.Placed.{Maps, IsNamed, value_of, value_at, MayStand, MayHold, FormedWords}
use Rattle.melt_scion.specs.Regions.{Region, Owns, HasStored}
use Rattle.melt_forward.specs.Forwarding.{SendsAnother, probe}
use Rattle.melt_forward.proofs.Pairs.{forward_word-filled}
use Rattle.melt_forward.proofs.Probing.{probe_within}
use Rattle.melt_scion.specs.Commits.{Probed, HasHead, HasBody, HasCopy, HasRecord, copy_word}
use Rattle.melt_scion.proofs.Geometry.{one_header}
use Rattle.melt_core.specs.declared.call.Place.{Place}
use Rattle.melt_core.specs.declared.call.Place.TheVariants.{Field, Global}
use Rattle.melt_core.specs.declared.call.Stage.{Stage}
use Rattle.melt_core.specs.declared.call.Stage.TheVariants.{Polled, Headed, Looked, Cleared, Claimed, Lacking}
use Rattle.melt_core.specs.declared.call.Stage.TheVariants.{Searching, Missed, HeadRead, BodyRead, Copying, Copied}
use Rattle.melt_core.specs.declared.call.Stage.TheVariants.{Retrying, LackingCopy}
use Rattle.melt_core.specs.declared.call.Search.{Search}
use Rattle.melt_core.specs.declared.call.Activation.{Activation}
use Rattle.melt_core.specs.Known.{IsObjectAt, word_in, IsPlace, IsTagged, Misses, Fetches, HoldsCopy}
use Rattle.melt_core.specs.Known.{Searches, HasLooked, Leads, region, Known, region_of, Evolves, RegionStays}

-- the header without the stale bit
abbrev pub cleared_header : Header → Header
cleared_header header = record { shape = header.shape; stale = false }

-- the value of a number that an address keeps
named_value : (old new : Option ℕ) (v : Value) → ((n : ℕ) → old ≡ Some n → new ≡ Some n) →
    option_map Ref old ≡ Some v → option_map Ref new ≡ Some v
named_value None new v keeps is = absurd (cc)
named_value (Some n) new v keeps is = ap (option_map Ref) (keeps n refl) ∙ is

module _ (maps new : Maps) (s t : State) (cleared : ℕ) (formed : FormedWords maps s)
    (evolves : Evolves maps new s t cleared) where
  -- an object keeps its shape
  pub headers_stay : (a n : ℕ) (header : Header) → maps.address a ≡ Some n → HeaderAt s a header →
      (later : Header) × HeaderAt t a later × (later.shape ≡ header.shape)
  headers_stay a n header named starts = elim (eqb_tells a cleared) [
    | inl same ↦ (
      cleared_header header,
      subst (λ (b : ℕ). HeaderAt t b (cleared_header header)) (sym same.1)
          (evolves.clears n header (ap maps.address (sym same.1) ∙ named)
          (subst (λ (b : ℕ). HeaderAt s b header) same.1 starts)),
      refl,
    )
    | inr other ↦ (header, evolves.header a n header named other.1 starts, refl)
  ]

  -- and it had that shape before, and the stale bit if it has it now
  pub headers_were : (a n : ℕ) (header : Header) → maps.address a ≡ Some n → HeaderAt t a header →
      (old : Header) × HeaderAt s a old × (old.shape ≡ header.shape) × (old.stale ≡ false → header.stale ≡ false)
  headers_were a n header named starts =
      let object = formed.objects a n named in
      let was : Header = object.0 in
      elim (eqb_tells a cleared) [
        | inl same ↦
            let later : HeaderAt t cleared (cleared_header was) =
            evolves.clears n was (ap maps.address (sym same.1) ∙ named)
            (subst (λ (b : ℕ). HeaderAt s b was) same.1 object.1.starts) in
            let is : cleared_header was ≡ header =
            one_header t cleared (cleared_header was) header later
            (subst (λ (b : ℕ). HeaderAt t b header) same.1 starts) in
            (was, object.1.starts, ap (λ (x : Header). x.shape) is, λ fresh. ap (λ (x : Header). x.stale) (sym is))
        | inr other ↦
            let is : was ≡ header = one_header t a was header (evolves.header a n was named other.1 object.1.starts)
            starts in (
              was,
              object.1.starts,
              ap (λ (x : Header). x.shape) is,
              λ fresh. ap (λ (x : Header). x.stale)
                  (sym is) ∙ fresh,
            )
      ]

  -- an object without the stale bit gets none
  pub fresh_stays : (a : ℕ) → IsNamed maps a → IsFresh s a → IsFresh t a
  fresh_stays a named fresh header starts =
      let was = headers_were a named.0 header named.1 starts in
      was.3 (fresh was.0 was.1)

  pub named_stays : (a : ℕ) → IsNamed maps a → IsNamed new a
  named_stays a named = (named.0, evolves.names a named.0 named.1)

  -- what a register may hold, it may hold later
  pub hold_stays : (a : ℕ) → MayHold maps s a → MayHold new t a
  hold_stays a (inl nothing) = inl nothing
  hold_stays a (inr holds) = inr (named_stays a holds.0, fresh_stays a holds.0 holds.1)

  -- a value stands for what it stood for
  pub value_stays : (r : words.Ref) (v : Value) → value_of maps r ≡ Some v → value_of new r ≡ Some v
  value_stays Null v is = is
  value_stays (Clean a) v is = named_value (maps.address a) (new.address a) v (evolves.names a) is
  value_stays (Stale a) v is = named_value (maps.address a) (new.address a) v (evolves.names a) is
  value_stays (Disk home) v is = ap (option_map Ref) (evolves.homes home) ∙ is

  pub held_value_stays : (a : ℕ) (v : Value) → value_at maps a ≡ Some v → value_at new a ≡ Some v
  held_value_stays zero v is = is
  held_value_stays (suc a) v is = named_value (maps.address (suc a)) (new.address (suc a)) v (evolves.names (suc a)) is

  pub object_stays : (address : ℕ) (shape : Shape) → IsObjectAt maps s address shape → IsObjectAt new t address shape
  object_stays address shape is =
      let later = headers_stay address is.number is.header is.named is.starts in
      record {
        number = is.number;
        named = evolves.names address is.number is.named;
        header = later.0;
        starts = later.1;
        shape_is = later.2 ∙ is.shape_is;
      }

  pub place_stays : (place : Place) → IsPlace maps s place → IsPlace new t place
  place_stays (Field object i) is = (is.0, object_stays object is.0 is.1, is.2)
  place_stays (Global g) is = subst (λ (b : Base). g < b.globals) (sym evolves.base) is

  pub reference_stays : (r : words.Ref) → MayStand maps s r → MayStand new t r
  reference_stays Null may = tt
  reference_stays (Clean a) may = (named_stays a may.0, fresh_stays a may.0 may.1)
  reference_stays (Stale a) may = named_stays a may
  reference_stays (Disk home) may = (may.0, subst (λ (b : Base). home < b.end) (sym evolves.base) may.1)

  -- what was found at a place is found there, or a word without a tag
  pub looked_stays : (place : Place) (found : words.Ref) → HasLooked maps s place found → HasLooked new t place found
  looked_stays place found looked = record {
    at = place_stays place looked.at;
    in_range = looked.in_range;
    tag = looked.tag;
    may_stand = reference_stays found looked.may_stand;
    unless_clean = λ tagged.
        let same : word_in t place ≡ word_in s place = evolves.places place looked.at tagged in
        same ∙ looked.unless_clean (subst IsTagged same tagged);
  }

  -- an address leads to the object that it led to
  leads_stays : (told : Bool) (found : words.Ref) (target : ℕ) → Leads told maps found target →
      Leads told new found target
  leads_stays told found target is = record {
    named = named_stays target is.named;
    same = λ tells.
        let value : value_of maps (Clean target) ≡ Some (Ref is.named.0) = ap (option_map Ref) is.named.1 in
        value_stays found (Ref is.named.0) (is.same tells ∙ value)
        ∙ sym (value_stays (Clean target) (Ref is.named.0) value);
  }

  -- forwarding words that send other homes do so later
  pub probed_stays : (home tried : ℕ) → Probed s home tried → Probed t home tried
  probed_stays home tried is = record {
    few = subst (λ (b : Base). tried ≤ b.forwards) (sym evolves.base) is.few;
    others = λ i less.
        let other = is.others i less in
        let few : tried ≤ s.base.forwards = is.few in
        let within : probe home s.base.forwards i < s.base.forwards =
        probe_within home s.base.forwards i (omega arith) in
        let filled : s.forward (probe home s.base.forwards i) ≢ 0 =
        λ empty. forward_word-filled other.0 other.1 other.3.home_in_range (sym other.3.is ∙ empty) in
        let same : t.forward (probe home t.base.forwards i) ≡ s.forward (probe home s.base.forwards i) =
        ap (λ (b : Base). t.forward (probe home b.forwards i)) evolves.base
        ∙ evolves.forwards (probe home s.base.forwards i) within filled in
        subst (λ (w : ℕ). SendsAnother w home) (sym same) other;
  }

  -- and a search for the address of a home is as far as it was
  pub searches_stays : (told : Bool) (place : Place) (home tried : ℕ) → Searches told maps s place home tried →
      Searches told new t place home tried
  searches_stays told place home tried is = record {
    looked = looked_stays place (Disk home) is.looked;
    probed = probed_stays home tried is.probed;
    object = λ tells. let has = is.object tells in (has.0, evolves.homes home ∙ has.1);
  }

  -- what was read at a home was read there
  pub body_stays : (told : Bool) (home : ℕ) (z : Shape) (rest : List ℕ) → HasBody told s.base home z rest →
      HasBody told t.base home z rest
  body_stays told home z rest is = subst (λ (b : Base). HasBody told b home z rest) (sym evolves.base) is

  -- a copy in a region that stays is there
  pub copy_stays : (address home : ℕ) (z : Shape) (rest : List ℕ) → RegionStays new s t (region address z) →
      HasCopy maps s address home z rest → HasCopy new t address home z rest
  copy_stays address home z rest stays is = record {
    owns = stays.owned;
    are = λ k below. stays.word (address + k) (omega arith) (omega arith) ∙ is.are k below;
  }

  -- the words that were stored in a region that stays are there
  stored_stays : (r : Region) (holds : ℕ → ℕ) (stored : ℕ) → RegionStays new s t r → HasStored maps s r holds stored →
      HasStored new t r holds stored
  stored_stays r holds stored stays has = record {
    owns = stays.owned;
    few = has.few;
    are = λ k first to.
        let few : stored < r.words = has.few in
        stays.word (r.at + k) (omega arith) (omega arith) ∙ has.are k first to;
  }

  pub tried_within : (tried : ℕ) → tried < s.base.forwards → tried < t.base.forwards
  tried_within tried below = subst (λ (b : Base). tried < b.forwards) (sym evolves.base) below

  pub misses_stays : (told : Bool) (search : Search) → Misses told maps s search → Misses told new t search
  misses_stays told search is = record {
    searches = searches_stays told search.place search.home search.tried is.searches;
    within = tried_within search.tried is.within;
  }

  head_stays : (told : Bool) (home : ℕ) (z : Shape) → HasHead told s.base home z → HasHead told t.base home z
  head_stays told home z is = subst (λ (b : Base). HasHead told b home z) (sym evolves.base) is

  record_stays : (told : Bool) (home : ℕ) → (told ≡ true → HasRecord s.base home) → told ≡ true → HasRecord t.base home
  record_stays told home is tells = subst (λ (b : Base). HasRecord b home) (sym evolves.base) (is tells)

  pub fetches_stays : (told : Bool) (rest : List ℕ) (search : Search) (z : Shape) → Fetches told maps s rest search z →
      Fetches told new t rest search z
  fetches_stays told rest search z is = record {
    misses = misses_stays told search is.misses;
    body = body_stays told search.home z rest is.body;
  }

  pub holds_copy_stays : (told : Bool) (rest : List ℕ) (a : Activation) →
      (Owns maps s (region a.address a.shape) → RegionStays new s t (region a.address a.shape)) →
      HoldsCopy told maps s rest a → HoldsCopy told new t rest a
  holds_copy_stays told rest a stays is = record {
    searches = searches_stays told a.search.place a.search.home a.search.tried is.searches;
    body = body_stays told a.search.home a.shape rest is.body;
    copy = copy_stays a.address a.search.home a.shape rest (stays is.copy.owns) is.copy;
  }

  size_below : s.base.size + 1 < s.free → t.base.size + 1 < t.free
  size_below above =
      let later : s.free ≤ t.free = evolves.free in
      let size : t.base.size ≡ s.base.size = ap (λ (b : Base). b.size) evolves.base in
      omega arith

  -- what is known of a call stays
  pub known_stays : (told : Bool) (rest : List ℕ) (stage : Stage) →
      (Owns maps s (region_of stage) → RegionStays new s t (region_of stage)) →
      Known told maps s rest stage → Known told new t rest stage
  known_stays told rest (Polled task) stays is = tt
  known_stays told rest (Headed address shape access) stays is = object_stays address shape is
  known_stays told rest (Looked place found target dst) stays is =
      (looked_stays place found is.0, leads_stays told found target is.1)
  known_stays told rest (Cleared place found target dst) stays is = (
    looked_stays place found is.0,
    leads_stays told found target is.1,
    fresh_stays target is.1.named is.2,
  )
  known_stays told rest (Claimed address shape stored dst) stays is =
      (is.0, stored_stays (region address shape) (λ k. 0) stored (stays is.1.owns) is.1)
  known_stays told rest (Lacking need) stays is = size_below is
  known_stays told rest (Searching search) stays is =
      searches_stays told search.place search.home search.tried is
  known_stays told rest (Missed search) stays is =
      (misses_stays told search is.0, record_stays told search.home is.1)
  known_stays told rest (HeadRead search shape) stays is =
      (misses_stays told search is.0, head_stays told search.home shape is.1, is.2, record_stays told search.home is.3)
  known_stays told rest (BodyRead search shape) stays is = fetches_stays told rest search shape is
  known_stays told rest (Copying a stored) stays is = (
    fetches_stays told rest a.search a.shape is.0,
    stored_stays (region a.address a.shape) (copy_word a.search.home a.shape rest) stored (stays is.1.owns) is.1,
  )
  known_stays told rest (Copied a) stays is =
      (holds_copy_stays told rest a stays is.0, tried_within a.search.tried is.1)
  known_stays told rest (Retrying a) stays is = holds_copy_stays told rest a stays is
  known_stays told rest (LackingCopy search shape) stays is =
      (size_below is.0, misses_stays told search is.1, head_stays told search.home shape is.2)
