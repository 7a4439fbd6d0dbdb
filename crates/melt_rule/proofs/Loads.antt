-- A load keeps the rule: the words stay, and the seat learns what it found.
use Rattle.std.proofs.Common.{◌≡◌, ◌⊎◌, ℕ, zero, suc, ◌<◌, Bool, true, false, List, [], ◌∷◌, ◌++◌, get_or}
use Rattle.std.proofs.Common.{refl, sym, ◌∙◌, ap, subst, arith, inl, inr}
use Rattle.std.specs.Prelude.{Option, None, Some}
use Rattle.std.specs.Option.{option_map}
use Rattle.std.proofs.lemmas.Option.{same_Some}
use lib.ListN.{get_elem?}
use mathlib.Core.Option.{some, some-injective, some-ne-none}
use Rattle.atomic_table.proofs.Lists.{at_longer}
use Rattle.melt_model.specs.History.{last, given}
use Rattle.melt_model.specs.declared.history.Act.{Act}
use Rattle.melt_model.specs.declared.history.Act.TheVariants.{Read}
use Rattle.melt_model.specs.declared.history.Slot.{Slot}
use Rattle.melt_model.specs.declared.history.Slot.TheVariants as slot
use Rattle.melt_model.specs.declared.history.Value.{Value}
use Rattle.melt_model.specs.declared.history.Value.TheVariants.{Nil, Ref, Num}
use Rattle.melt_word.proofs.OneToOne.{same_ref}
use Rattle.melt_word.specs.Words.{IsRef, ref_word}
use Rattle.melt_word.specs.declared.header.Shape.{Shape}
use Rattle.melt_word.specs.declared.reference.Ref as word
use Rattle.melt_word.specs.declared.reference.Ref.TheVariants.{Null, Clean, Stale, Disk}
use Rattle.melt_scion.specs.Changes.{SameWords}
use Rattle.melt_scion.specs.GhostMaps.{named}
use Rattle.melt_scion.specs.Placed.{MayStand, value_of}
use Rattle.melt_scion.specs.Regions.{Region, no_region, Apart}
use Rattle.melt_scion.specs.State.{State, IsFresh}
use Rattle.melt_core.proofs.Places.{found_stands}
use Rattle.melt_core.proofs.Regions.{no_region_apart}
use Rattle.melt_core.specs.Answering.{with_entry}
use Rattle.melt_core.specs.Events.{Event, LastAt, IsNumberWord, number_place}
use Rattle.melt_core.specs.Events.Event.{quiet, reads_place, reads_number}
use Rattle.melt_core.specs.StaleBits.{home_look}
use Rattle.melt_core.specs.Known.{IsPlace, SlotAt, IsTagged, HasTag, HasLooked, word_in}
use Rattle.melt_core.specs.declared.call.Place.{Place}
use Rattle.melt_core.specs.declared.call.Search.{Search}
use Rattle.melt_rule.proofs.Keeping.{Bits, IsStep, LookGoes, ReadsLook, adds, keeps_bits, sees, still_bits}
use Rattle.melt_rule.specs.Rule.{Has, SeatStands, Kept, is_lacking, is_reading}
use Rattle.melt_rule.specs.Shown.{shows, Knows, owned}
use Rattle.melt_rule.specs.Tells.{HasAll, Adds, view_after, Reaches, Looks, Ends, Polls, search_for}
use Rattle.melt_rule.specs.declared.began.Began.{Began}
use Rattle.melt_rule.specs.declared.began.Pair.{Pair}
use Rattle.melt_rule.specs.declared.began.Start.{Start}
use Rattle.melt_rule.specs.declared.view.Doing.{Doing}
use Rattle.melt_rule.specs.declared.view.Doing.TheVariants.{Looked, Searching}
use Rattle.melt_rule.specs.declared.view.View.{View}

pub same : (s : State) → SameWords s s
same s = record { base = refl; free = refl; word = λ k. refl; global = λ g. refl; forward = λ p. refl }

-- the word of a reference without a tag has none
no_tag : (r : word.Ref) (found : ℕ) → IsRef r → found ≡ ref_word r → (HasTag r → ⊥) → IsTagged found → ⊥
no_tag r found range is none tagged =
    none (subst HasTag (same_ref tagged.reference r tagged.in_range range (sym tagged.is ∙ is)) tagged.tag)

-- a home that stands for a value has an object
home_object : (home : Option ℕ) (value : Value) → option_map Ref home ≡ Some value
    → (n : ℕ) × (home ≡ Some n) × (value ≡ Ref n)
home_object None value is = absurd (cc)
home_object (Some n) value is = (n, refl, (let e : Some (Ref n) ≡ Some value = is in cc))

-- a pair more
pub snoc_old : (l : List Pair) (x : Pair) → HasAll l (l ++ x ∷ [])
snoc_old l x a n has = (has.0, at_longer l (x ∷ []) has.0 (record { address = a; object = n }) has.1)

pub snoc_new : (l : List Pair) (x : Pair) (a n : ℕ) → Has (l ++ x ∷ []) a n
    → Has l a n ⊎ (x ≡ record { address = a; object = n })
snoc_new [] x a n (zero, e) = inr (some-injective x _ e)
snoc_new [] x a n (suc i, e) = absurd (some-ne-none _ (sym e))
snoc_new (y ∷ l) x a n (zero, e) = inl (0, e)
snoc_new (y ∷ l) x a n (suc i, e) = elim (snoc_new l x a n (i, e)) [ inl t ↦ inl (suc t.0, t.1) | inr t ↦ inr t ]

pub snoc_here : (l : List Pair) (x : Pair) → Has (l ++ x ∷ []) x.address x.object
snoc_here [] x = (0, refl)
snoc_here (y ∷ l) x = let t = snoc_here l x in (suc t.0, t.1)

module _ (start : Start) (words : List ℕ) (views : List View) (kept : Kept start words views) (id : ℕ) (v : View)
    (at : get_elem? views id ≡ some v) (live : 0 < v.parts) (goes_on : is_lacking v.doing ≡ false) where
  abbrev pub now : State
  now = shows start.began words

  abbrev pub Step : View → Type 0
  Step w = IsStep start words words views kept id v at live w

  pub stood : SeatStands start.began kept.maps now kept.history v
  stood = kept.seats id v at live

  -- What a load shows of the view after it: the pairs that it knows, and its call, which owns no words.
  pub record Learns (known : List Pair) (doing : Option Doing) : Type 0 where
    pub more : HasAll v.known known
    pub named : (a n : ℕ) → Has known a n → kept.maps.address a ≡ Some n
    pub fresh : (a n : ℕ) → Has known a n → IsFresh now a
    pub knows : Knows start.began.told kept.maps now v.rest doing
    pub none : owned doing ≡ no_region

  pub learns_same : (doing : Option Doing) → Knows start.began.told kept.maps now v.rest doing → owned doing ≡ no_region
      → Learns v.known doing
  learns_same doing knows none = record {
    more = λ a n has. has;
    named = stood.known;
    fresh = stood.fresh;
    knows = knows;
    none = none;
  }

  -- and of the stop word
  pub loads : (act : Option Act) (known : List Pair) (doing : Option Doing) (stopped : Bool)
      → Event start.began.told kept.history kept.maps kept.maps now now no_region 0 act → Learns known doing
      → (stopped ≡ true → get_or words 0 0 ≡ 1)
      → Bits start words words views kept id v at live kept.maps 0 act known doing
      → Step (record (view_after v (with_entry v.thread kept.history act) known doing) { stopped = stopped })
  loads act known doing stopped event learns set_ bits = record {
    maps = kept.maps;
    mine = no_region;
    cleared = 0;
    act = act;
    event = event;
    mine_apart = λ i u other is alive. no_region_apart (owned u.doing);
    size = refl;
    names = λ a n is. inl is;
    parts = refl;
    thread = refl;
    began = refl;
    away = refl;
    seen = refl;
    own_seen = refl;
    more = learns.more;
    known = learns.named;
    fresh = learns.fresh;
    doing = learns.knows;
    apart = λ i u other is alive. subst (λ (r : Region). Apart r (owned u.doing)) (sym learns.none)
        (no_region_apart (owned u.doing));
    sums = record { free = refl; bound = inl (omega arith); over = kept.sums.over id v at; won = refl };
    stops = record {
      bit = inl refl;
      causes = λ has. has;
      stopped = set_;
      spaced = kept.stop.spaced id v at;
      lacks = kept.stop.lacks id v at;
      sets = λ cause goes. kept.stop.sets id v at cause goes_on;
      forwarded = kept.stop.forwarded id v at;
    };
    bits = bits;
  }

  -- how the look of the call goes on where it has no entry
  abbrev pub LooksOn : Option Doing → Type 0
  LooksOn doing = LookGoes start words words views kept id v at live None doing

  -- it was not to read a slot next, or this entry is that read
  abbrev pub MayRead : Slot → Value → Type 0
  MayRead slot value = (is_reading v.doing ≡ false)
      ⊎ ReadsLook start words words views kept id v at live (Some (Read slot value))

  -- a load without an entry
  pub reaches : (doing : Option Doing) → Knows start.began.told kept.maps now v.rest doing → owned doing ≡ no_region
      → LooksOn doing → is_reading v.doing ≡ false
      → Step (view_after v kept.history v.known doing) × Reaches v (view_after v kept.history v.known doing) doing
  unfolding loads
  reaches doing knows none look left =
      let w : View = view_after v kept.history v.known doing in
      let step : Step w = loads None v.known doing v.stopped (quiet refl (same now)) (learns_same doing knows none)
      (kept.stop.stopped id v at)
      (still_bits start words words views kept id v at live v.known doing look left) in
      (step, record { sees = sees start words words views kept id v at live w step refl; is = refl })

  -- a load of the stop word, which is set
  pub stops : get_or words 0 0 ≡ 1 → is_reading v.doing ≡ false
      → let w : View = record (view_after v kept.history v.known None) { stopped = true } in Step w × Polls v w true
  unfolding loads
  stops one left =
      let w : View = record (view_after v kept.history v.known None) { stopped = true } in
      let step : Step w = loads None v.known None true (quiet refl (same now)) (learns_same None tt refl) (λ is. one)
      (still_bits start words words views kept id v at live v.known None (inl refl) left) in
      (step, (sees start words words views kept id v at live w step refl, refl))

  -- the view after a load that is answered
  abbrev pub read : Slot → Value → List Pair → View
  read slot value known = view_after v (with_entry v.thread kept.history (Some (Read slot value))) known None

  -- it is answered by the word of a place
  pub reads : (place : Place) (slot : Slot) (value : Value) (known : List Pair) → IsPlace kept.maps now place
      → (IsTagged (word_in now place) → ⊥) → (start.began.told ≡ true → LastAt kept.history kept.maps place slot value)
      → Learns known None → MayRead slot value → ((n : ℕ) → value ≡ Ref n → (a : ℕ) × Has known a n)
      → Step (read slot value known) × Adds v (read slot value known).seen (Read slot value)
  unfolding loads
  reads place slot value known there clean last_at learns due gives =
      let act : Option Act = Some (Read slot value) in
      let w : View = read slot value known in
      let step : Step w = loads act known None v.stopped
      (reads_place place slot value refl (same now) there clean last_at)
      learns
      (kept.stop.stopped id v at)
      (keeps_bits start words words views kept id v at live act known None (inl refl) due (λ n is.
      gives n (let e : Some (Read slot value) ≡ Some is.0 = is.1 in
      same_Some value (Ref n) (ap (given kept.history) (same_Some (Read slot value) is.0 e) ∙ is.2)))) in
      (step, adds start words words views kept id v at live w step (Read slot value) refl)

  -- or by a number word
  pub numbers : (object n j : ℕ) (shape : Shape) → IsNumberWord kept.maps now object shape n j
      → is_reading v.doing ≡ false
      → let value : Value = Num (now.word (number_place object shape j)) in
      Step (read (slot.Cell n j) value v.known)
      × Ends v (read (slot.Cell n j) value v.known) (Read (slot.Cell n j) value)
  unfolding loads
  numbers object n j shape is left =
      let value : Value = Num (now.word (number_place object shape j)) in
      let act : Option Act = Some (Read (slot.Cell n j) value) in
      let w : View = read (slot.Cell n j) value v.known in
      let step : Step w = loads act v.known None v.stopped (reads_number object n j shape refl (same now) is)
      (learns_same None tt refl)
      (kept.stop.stopped id v at)
      (keeps_bits start words words views kept id v at live act v.known None (inl refl) (inl left) (λ m gives.
      absurd (
      let same : Read (slot.Cell n j) value ≡ gives.0 = same_Some (Read (slot.Cell n j) value) gives.0 gives.1 in
      let e : value ≡ Ref m = same_Some value (Ref m) (ap (given kept.history) same ∙ gives.2) in
      cc))) in (
        step,
        record {
          adds = adds start words words views kept id v at live w step (Read (slot.Cell n j) value) refl;
          is = refl;
        },
      )

  -- the word of a place, which is that of a reference, stands for the last value of its slot
  pub stands_at : (place : Place) (slot : Slot) (r : word.Ref) → IsPlace kept.maps now place
      → SlotAt kept.maps place slot
      → IsRef r → word_in now place ≡ ref_word r → start.began.told ≡ true
      → value_of kept.maps r ≡ Some (last kept.history slot)
  stands_at place slot r there is_slot range is told =
      found_stands kept.history kept.maps now place slot r (kept.holds.tells told) there is_slot range is

  -- the object of a home that a slot held
  home_held : (home : ℕ) (slot : Slot) → option_map Ref (kept.maps.home home) ≡ Some (last kept.history slot)
      → (n : ℕ) × (named v.began.maps.homes home ≡ Some n) × (last kept.history slot ≡ Ref n)
  home_held home slot held =
      let n = home_object (kept.maps.home home) (last kept.history slot) held in (
        n.0,
        ap (λ (b : Began). named b.maps.homes home) stood.began ∙ (sym (kept.maps_stand.homes home) ∙ n.1),
        n.2,
      )

  -- a load that finds a reference without a tag is answered by it
  abbrev pub MayAnswer : Slot → word.Ref → Type 0
  MayAnswer slot Null = MayRead slot Nil
  MayAnswer slot (Clean a) = (n : ℕ) → MayRead slot (Ref n)
  MayAnswer slot (Stale a) = is_reading v.doing ≡ false
  MayAnswer slot (Disk home) = is_reading v.doing ≡ false

  pub may_answer : (slot : Slot) (r : word.Ref) → is_reading v.doing ≡ false → MayAnswer slot r
  may_answer slot Null left = inl left
  may_answer slot (Clean a) left = λ n. inl left
  may_answer slot (Stale a) left = left
  may_answer slot (Disk home) left = left

  -- what a look at a place finds
  pub looks : (place : Place) (slot : Slot) (r : word.Ref) → IsPlace kept.maps now place → SlotAt kept.maps place slot
      → IsRef r → word_in now place ≡ ref_word r → MayStand kept.maps now r → MayAnswer slot r
      → (w : View) × Step w × Looks v w slot place r
  looks place slot Null there is_slot range is may answers =
      let r = reads place slot Nil v.known there (no_tag Null (word_in now place) range is (λ tag. tag))
      (λ told. record {
        slot = is_slot;
        last = let e : Some Nil ≡ Some (last kept.history slot) =
            stands_at place slot Null there is_slot range is told in cc;
      })
      (learns_same None tt refl) answers (λ n e. absurd (cc)) in (
        read slot Nil v.known,
        r.0,
        record { value = Nil; adds = r.1; names = inl (refl, refl); more = λ a n has. has; is = refl },
      )
  looks place slot (Clean a) there is_slot range is may answers =
      let n : ℕ = may.0.0 in
      let named : kept.maps.address a ≡ Some n = may.0.1 in
      let pair : Pair = record { address = a; object = n } in
      let known : List Pair = v.known ++ pair ∷ [] in
      let r = reads place slot (Ref n) known there (no_tag (Clean a) (word_in now place) range is (λ tag. tag))
      (λ told. record {
        slot = is_slot;
        last =
            let e : Some (Ref n) ≡ Some (last kept.history slot) =
            ap (option_map Ref) (sym named) ∙ stands_at place slot (Clean a) there is_slot range is told in
            cc;
      })
      (record {
        more = snoc_old v.known pair;
        named = λ b m has. elim (snoc_new v.known pair b m has) [
          | inl before ↦ stood.known b m before
          | inr this ↦ subst (λ (x : Pair). kept.maps.address x.address ≡ Some x.object) this named
        ];
        fresh = λ b m has. elim (snoc_new v.known pair b m has) [
          | inl before ↦ stood.fresh b m before
          | inr this ↦ subst (λ (x : Pair). IsFresh now x.address) this may.1
        ];
        knows = tt;
        none = refl;
      })
      (answers n)
      (λ m e. (a, (let same : n ≡ m = cc in subst (λ (k : ℕ). Has known a k) same (snoc_here v.known pair)))) in (
        read slot (Ref n) known,
        r.0,
        record {
          value = Ref n;
          adds = r.1;
          names = inr (n, refl, snoc_here v.known pair);
          more = snoc_old v.known pair;
          is = refl;
        },
      )
  looks place slot (Stale a) there is_slot range is may answers =
      let looked : HasLooked kept.maps now place (Stale a) = record {
        at = there;
        in_range = range;
        tag = tt;
        may_stand = may;
        unless_clean = λ tagged. is;
      } in
      let r = reaches (Some (Looked place (Stale a) a)) (looked, record { named = may; same = λ told. refl }) refl
      (inr (refl, inr (record { place = place; found = Stale a }, refl, is))) answers in
      (view_after v kept.history v.known (Some (Looked place (Stale a) a)), r.0, r.1)
  looks place slot (Disk home) there is_slot range is may answers =
      let looked : HasLooked kept.maps now place (Disk home) = record {
        at = there;
        in_range = range;
        tag = tt;
        may_stand = may;
        unless_clean = λ tagged. is;
      } in
      let search : Search = search_for place home in
      let held : start.began.told ≡ true → option_map Ref (kept.maps.home home) ≡ Some (last kept.history slot) =
      stands_at place slot (Disk home) there is_slot range is in
      let r = reaches (Some (Searching search)) (record {
        looked = looked;
        probed = record { few = omega arith; others = λ i less. absurd (omega arith) };
        object = λ told. let n = home_object (kept.maps.home home) (last kept.history slot) (held told) in (n.0, n.1);
      }) refl (inr (refl, inr (home_look search, refl, is))) answers in (
        view_after v kept.history v.known (Some (Searching search)),
        r.0,
        record {
          reaches = r.1;
          held = λ told. home_held home slot (held (sym (ap (λ (b : Began). b.told) stood.began) ∙ told));
        },
      )
