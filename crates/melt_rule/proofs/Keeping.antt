-- A step of one seat keeps the rule, where it is an event of the core and shows what is asked of its own view.
use Rattle.std.proofs.Common.{◌≡◌, ◌≢◌, ◌⊎◌, ℕ, suc, ◌+◌, ◌*◌, ◌<◌, ◌≤◌, List, [], ◌∷◌, ◌++◌, length, map, get_or}
use Rattle.std.proofs.Common.{refl, sym, ◌∙◌, ap, subst, arith, inl, inr, Bool, true, false}
use Rattle.std.proofs.Math.ListN.{set}
use Rattle.std.specs.Prelude.{Option, None, Some, IfSome}
use lib.ListN.{get_elem?}
use mathlib.Core.Option.{some, some-injective}
use native.Mathlib.Decide.{ℕ_discrete}
use Rattle.atomic_table.proofs.Lists.{at_set, set_here, set_else, at_map}
use Rattle.melt_model.proofs.Histories.{own-push_own}
use Rattle.melt_model.specs.History.{Legal, given, made}
use Rattle.melt_model.specs.Thread.{own}
use Rattle.melt_model.specs.declared.history.Act.{Act}
use Rattle.melt_model.specs.declared.history.Act.TheVariants.{Read}
use Rattle.melt_model.specs.declared.history.Slot.{Slot}
use Rattle.melt_model.specs.declared.history.Value.{Value}
use Rattle.melt_model.specs.declared.history.Value.TheVariants.{Ref as Object}
use Rattle.melt_word.specs.Words.{ref_word}
use Rattle.melt_word.specs.declared.reference.Ref.{Ref}
use Rattle.melt_model.specs.declared.history.Entry.{Entry}
use Rattle.melt_scion.specs.Placed.{Maps, FormedWords}
use Rattle.melt_scion.specs.Regions.{Region, Apart, Owns}
use Rattle.melt_scion.specs.State.{State, IsFresh}
use Rattle.melt_core.proofs.Keeping.{event_keeps}
use Rattle.melt_core.proofs.Regions.{apart_sym}
use Rattle.melt_core.proofs.StaleBitsHeaders.{Owes, no_bit_at, touched}
use Rattle.melt_core.proofs.StaleBitsPassing.{used_push}
use Rattle.melt_core.proofs.StaleBitsTying.{look_stays, tied_later}
use Rattle.melt_core.proofs.StaleBitsWatching.{look_passes, one_slot, watch_begins}
use Rattle.melt_core.proofs.Staying.{fresh_stays, known_stays}
use Rattle.melt_core.proofs.WordsMade.{made_stay}
use Rattle.melt_core.specs.Answering.{entry, with_entry}
use Rattle.melt_core.specs.Events.{Event, Keeps}
use Rattle.melt_core.specs.Known.{Evolves, RegionStays, SlotAt, word_in}
use Rattle.melt_core.specs.StaleBits.{HasNoBit, Look, Passed, Sight, Tied, Watched, look_of, pending, sight_of}
use Rattle.melt_core.specs.declared.call.Place.{Place}
use Rattle.melt_core.specs.declared.call.Stage.{Stage}
use Rattle.melt_rule.proofs.Tying.{knows_look, none_pending, stage_apart, stage_here, stage_one, stage_other, stage_own}
use Rattle.melt_rule.proofs.Tying.{stage_set}
use Rattle.melt_rule.proofs.Views.{in_range, sum_set, begins_on, own_other, saw_other, saw_all}
use Rattle.melt_rule.specs.Rule.{Has, Knowing, Saw, SeatStands, threads_of, MapsStand, filled_count, SumsStand}
use Rattle.melt_rule.specs.Rule.{has_cause, is_lacking, is_reading, StopStands, Kept}
use Rattle.melt_rule.specs.Shown.{shows, Knows, owned, core_stage, staged}
use Rattle.melt_rule.specs.Sights.{first_sight, stage_at, own_stage}
use Rattle.melt_rule.specs.Tells.{Since, Sees, Adds}
use Rattle.melt_rule.specs.declared.began.Began.{Began}
use Rattle.melt_rule.specs.declared.began.Pair.{Pair}
use Rattle.melt_rule.specs.declared.began.Start.{Start}
use Rattle.melt_rule.specs.declared.view.Away.{Away}
use Rattle.melt_rule.specs.declared.view.Doing.{Doing}
use Rattle.melt_rule.specs.declared.view.Doing.TheVariants.{Cleared}
use Rattle.melt_rule.specs.declared.view.View.{View}

-- what another seat knows of its call stays
knows_stays : (told : Bool) {maps new : Maps} {s t : State} {cleared : ℕ} (rest : List ℕ) (doing : Option Doing)
    → FormedWords maps s → Evolves maps new s t cleared
    → (Owns maps s (owned doing) → RegionStays new s t (owned doing)) → Knows told maps s rest doing
    → Knows told new t rest doing
knows_stays told {maps} {new} {s} {t} {cleared} rest None formed evolves stays knows = tt
knows_stays told {maps} {new} {s} {t} {cleared} rest (Some doing) formed evolves stays knows =
    known_stays maps new s t cleared formed evolves told rest (core_stage doing) stays knows

module _ (start : Start) (words after : List ℕ) (views : List View) (kept : Kept start words views) (id : ℕ) (v : View)
    (at : get_elem? views id ≡ some v) (live : 0 < v.parts) where
  abbrev pub old : State
  old = shows start.began words

  abbrev pub new : State
  new = shows start.began after

  -- what the view says of stop word and causes
  pub record Stops (w : View) : Type 0 where
    pub bit : (get_or after 0 0 ≡ get_or words 0 0) ⊎ ((get_or after 0 0 ≡ 1) × (has_cause w ≡ true))
    pub causes : has_cause v ≡ true → has_cause w ≡ true
    pub stopped : w.stopped ≡ true → get_or after 0 0 ≡ 1
    pub spaced : w.spaced ≡ true → start.began.size + 1 < new.free
    pub lacks : w.over ≢ 0 → w.spaced ≡ true
    pub sets : has_cause w ≡ true → is_lacking w.doing ≡ false → get_or after 0 0 ≡ 1
    pub forwarded : w.forwarded ≡ true → (p : ℕ) → p < start.began.forwards → new.forward p ≢ 0

  -- what it counts
  pub record Sums (w : View) : Type 0 where
    pub free : new.free + v.claimed ≡ old.free + w.claimed
    pub bound : (new.free + 126 * v.over ≤ old.free + 126 * w.over) ⊎ (new.free ≤ start.began.size + 1)
    pub over : w.over ≤ v.parts
    pub won : filled_count new.forward start.began.forwards + v.won
        ≡ filled_count old.forward start.began.forwards + w.won

  -- how the look of the call goes on: it has none, keeps the one that it had, or has looked now
  abbrev pub LookGoes : Option Act → Option Doing → Type 0
  LookGoes act doing = (look_of (staged doing) ≡ None) ⊎ ((act ≡ None)
      × ((look_of (staged doing) ≡ look_of (staged v.doing))
      ⊎ ((look : Look) × (look_of (staged doing) ≡ Some look) × (word_in new look.place ≡ ref_word look.found))))

  -- the entry is of a read of the slot of the look
  pub record ReadsLook (act : Option Act) : Type 0 where
    pub place : Place
    pub found : Ref
    pub target : ℕ
    pub stage : v.doing ≡ Some (Cleared place found target)
    pub slot : Slot
    pub is_slot : SlotAt kept.maps place slot
    pub value : Value
    pub reads : act ≡ Some (Read slot value)

  -- the entry gives the object
  abbrev pub Gives : Option Act → ℕ → Type 0
  Gives act n = (x : Act) × (act ≡ Some x) × (given kept.history x ≡ Some (Object n))

  -- What it owes for the stale bit: a call that was to read the slot of its look did; one that clears the bit of an
  -- object or brings it back is to read its slot next; and objects that the entry gives are known.
  pub record Bits (maps : Maps) (cleared : ℕ) (act : Option Act) (known : List Pair) (doing : Option Doing)
      : Type 0 where
    pub look : LookGoes act doing
    pub reads : (is_reading v.doing ≡ false) ⊎ ReadsLook act
    pub clears : cleared ≢ 0 → pending (staged doing) ≡ Some cleared
    pub brings : (a n : ℕ) → maps.address a ≡ Some n
        → (kept.maps.address a ≡ Some n) ⊎ (Gives act n ⊎ (pending (staged doing) ≡ Some a))
    pub gives : (n : ℕ) → Gives act n → (a : ℕ) × Has known a n

  -- a step that neither clears a bit nor brings an object
  pub keeps_bits : (act : Option Act) (known : List Pair) (doing : Option Doing) → LookGoes act doing
      → (is_reading v.doing ≡ false) ⊎ ReadsLook act → ((n : ℕ) → Gives act n → (a : ℕ) × Has known a n)
      → Bits kept.maps 0 act known doing
  keeps_bits act known doing look reads gives = record {
    look = look;
    reads = reads;
    clears = λ some. absurd (some refl);
    brings = λ a n is. inl is;
    gives = gives;
  }

  -- nor has an entry
  pub still_bits : (known : List Pair) (doing : Option Doing) → LookGoes None doing → is_reading v.doing ≡ false
      → Bits kept.maps 0 None known doing
  still_bits known doing look left =
      keeps_bits None known doing look (inl left)
      (λ n gives. absurd (let e : None ≡ Some gives.0 = gives.1 in cc))

  -- What a step of the seat shows: which event it is; that the maps have no more names than the view knows; and of the
  -- view, what the rule says of it.
  pub record IsStep (w : View) : Type 0 where
    pub maps : Maps
    pub mine : Region
    pub cleared : ℕ
    pub act : Option Act
    pub event : Event start.began.told kept.history kept.maps maps old new mine cleared act
    pub mine_apart : (i : ℕ) (u : View) → i ≢ id → get_elem? views i ≡ some u → 0 < u.parts → Apart mine (owned u.doing)
    pub size : length after ≡ length words
    pub names : (a n : ℕ) → maps.address a ≡ Some n → (kept.maps.address a ≡ Some n) ⊎ Has w.known a n
    pub parts : w.parts ≡ v.parts
    pub thread : w.thread ≡ v.thread
    pub began : w.began ≡ v.began
    pub away : w.away ≡ v.away
    pub seen : w.seen ≡ with_entry v.thread kept.history act
    pub own_seen : w.mine ≡ with_entry v.thread kept.history act
    pub more : (a n : ℕ) → Has v.known a n → Has w.known a n
    pub known : (a n : ℕ) → Has w.known a n → maps.address a ≡ Some n
    pub fresh : (a n : ℕ) → Has w.known a n → IsFresh new a
    pub doing : Knows start.began.told maps new w.rest w.doing
    pub apart : (i : ℕ) (u : View) → i ≢ id → get_elem? views i ≡ some u → 0 < u.parts
        → Apart (owned w.doing) (owned u.doing)
    pub sums : Sums w
    pub stops : Stops w
    pub bits : Bits maps cleared act w.known w.doing

  -- a seat after the step is the one that stepped, or was there before
  cases : (w : View) (i : ℕ) (u : View) → get_elem? (set views id w) i ≡ some u
      → ((i ≡ id) × (w ≡ u)) ⊎ ((i ≢ id) × (get_elem? views i ≡ some u))
  cases w i u e = at_set views id i w u e

  here : (w : View) → get_elem? (set views id w) id ≡ some w
  here w = set_here views id w (in_range views id v at)

  -- another seat is of another thread
  other_thread : (i p t : ℕ) (u : View) → i ≢ id → get_elem? views i ≡ some u → 0 < u.parts
      → get_elem? (threads_of u) p ≡ some t → v.thread ≢ t
  other_thread i p t u differ is alive has same =
      differ (sym (kept.distinct id i 0 p v.thread v u at is live alive refl (has ∙ ap some (sym same))).0)

  module _ (w : View) (s : IsStep w) where
    abbrev later : List Entry
    later = with_entry v.thread kept.history s.act

    keeps : Keeps start.began.told kept.history later kept.maps s.maps old new s.mine s.cleared
    keeps = event_keeps start.began.told v.thread kept.history kept.maps s.maps old new s.mine s.cleared s.act
        kept.legal
        kept.holds s.event

    alive_still : 0 < w.parts
    alive_still = let p = s.parts in omega arith

    other_seat : (i : ℕ) (u : View) → i ≢ id → get_elem? views i ≡ some u → 0 < u.parts
        → SeatStands start.began s.maps new later u
    other_seat i u differ is alive =
        let stood = kept.seats i u is alive in
        let other : v.thread ≢ u.thread = other_thread i 0 u.thread u differ is alive refl in
        record {
          began = stood.began;
          seen = saw_other v.thread u.thread kept.history u.seen s.act other stood.seen;
          mine = saw_other v.thread u.thread kept.history u.mine s.act other stood.mine;
          known = λ a n has. keeps.evolves.names a n (stood.known a n has);
          fresh = λ a n has. fresh_stays kept.maps s.maps old new s.cleared kept.holds.formed keeps.evolves a
              (n, stood.known a n has)
              (stood.fresh a n has);
          doing = knows_stays start.began.told u.rest u.doing kept.holds.formed keeps.evolves
              (λ owns. keeps.regions (owned u.doing) owns (s.mine_apart i u differ is alive)) stood.doing;
        }

    own_seat : SeatStands start.began s.maps new later w
    own_seat = record {
      began = s.began ∙ (kept.seats id v at live).began;
      seen = saw_all later w.thread w.seen s.seen;
      mine = saw_all later w.thread w.mine s.own_seen;
      known = s.known;
      fresh = s.fresh;
      doing = s.doing;
    }

    knowing : (a n : ℕ) → Knowing views a n → Knowing (set views id w) a n
    knowing a n x = elim (ℕ_discrete x.seat id) [
      | yes e ↦
          let same : x.view ≡ v =
          some-injective x.view v (sym x.at ∙ (ap (λ (z : ℕ). get_elem? views z) e ∙ at)) in
          record {
            seat = id;
            view = w;
            at = here w;
            knows = s.more a n (subst (λ (z : View). Has z.known a n) same x.knows);
          }
      | no ne ↦ record { seat = x.seat; view = x.view; at = set_else views id x.seat w ne ∙ x.at; knows = x.knows }
    ]

    same_threads : threads_of w ≡ threads_of v
    same_threads =
        ap (λ (t : ℕ). t ∷ map (λ (a : Away). a.thread) w.away) s.thread
        ∙ ap (λ (l : List Away). v.thread ∷ map (λ (a : Away). a.thread) l) s.away

    -- a thread that some seat speaks for was so before, in the same place
    record Speaks (all : List View) (i p t : ℕ) : Type 0 where
      pub view : View
      pub is : get_elem? all i ≡ some view
      pub alive : 0 < view.parts
      pub has : get_elem? (threads_of view) p ≡ some t

    spoke : (i p t : ℕ) (u : View) → get_elem? (set views id w) i ≡ some u → 0 < u.parts
        → get_elem? (threads_of u) p ≡ some t → Speaks views i p t
    spoke i p t u e alive has = elim (cases w i u e) [
      | inl x ↦ record {
        view = v;
        is = ap (λ (z : ℕ). get_elem? views z) x.0 ∙ at;
        alive = live;
        has = ap (λ (l : List ℕ). get_elem? l p) (sym same_threads)
            ∙ (ap (λ (z : View). get_elem? (threads_of z) p) x.1 ∙ has);
      }
      | inr x ↦ record { view = u; is = x.1; alive = alive; has = has }
    ]

    speaks : (i p t : ℕ) (u : View) → get_elem? views i ≡ some u → 0 < u.parts → get_elem? (threads_of u) p ≡ some t
        → Speaks (set views id w) i p t
    speaks i p t u e alive has = elim (ℕ_discrete i id) [
      | yes same ↦
          let one : u ≡ v = some-injective u v (sym e ∙ (ap (λ (z : ℕ). get_elem? views z) same ∙ at)) in
          record {
            view = w;
            is = ap (λ (z : ℕ). get_elem? (set views id w) z) same ∙ here w;
            alive = alive_still;
            has = ap (λ (l : List ℕ). get_elem? l p) same_threads
                ∙ (ap (λ (z : View). get_elem? (threads_of z) p) (sym one) ∙ has);
          }
      | no ne ↦ record { view = u; is = set_else views id i w ne ∙ e; alive = alive; has = has }
    ]

    -- what a thread that is away has seen is so
    away_still : (i p : ℕ) (u : View) (a : Away) → get_elem? views i ≡ some u → 0 < u.parts
        → get_elem? u.away p ≡ some a → Saw later a.thread a.seen
    away_still i p u a e alive has =
        saw_other v.thread a.thread kept.history a.seen s.act
        (λ same.
        let both = kept.distinct id i 0 (suc p) v.thread v u at e live alive refl
        (at_map (λ (x : Away). x.thread) u.away p a has ∙ ap some (sym same)) in
        let first : 0 ≡ suc p = both.1 in
        omega arith)
        (kept.away i p u a e alive has)

    away_kept : (i p : ℕ) (u : View) (a : Away) → get_elem? (set views id w) i ≡ some u → 0 < u.parts
        → get_elem? u.away p ≡ some a → Saw later a.thread a.seen
    away_kept i p u a e alive has = elim (cases w i u e) [
      | inl x ↦ away_still id p v a at live
          (ap (λ (l : List Away). get_elem? l p) (sym s.away) ∙ (ap (λ (z : View). get_elem? z.away p) x.1 ∙ has))
      | inr x ↦ away_still i p u a x.1 alive has
    ]

    apart_kept : (i j : ℕ) (x y : View) → i ≢ j → get_elem? (set views id w) i ≡ some x
        → get_elem? (set views id w) j ≡ some y → 0 < x.parts → 0 < y.parts → Apart (owned x.doing) (owned y.doing)
    apart_kept i j x y differ ex ey lx ly = elim (cases w i x ex) [
      | inl a ↦ elim (cases w j y ey) [
        | inl b ↦ absurd (differ (a.0 ∙ sym b.0))
        | inr b ↦ subst (λ (z : View). Apart (owned z.doing) (owned y.doing)) a.1 (s.apart j y b.0 b.1 ly)
      ]
      | inr a ↦ elim (cases w j y ey) [
        | inl b ↦ subst (λ (z : View). Apart (owned x.doing) (owned z.doing)) b.1
            (apart_sym (owned w.doing) (owned x.doing) (s.apart i x a.0 a.1 lx))
        | inr b ↦ kept.apart i j x y differ a.1 b.1 lx ly
      ]
    ]

    maps_kept : MapsStand start.began s.maps (set views id w)
    maps_kept = record {
      homes = λ home. keeps.evolves.homes home ∙ kept.maps_stand.homes home;
      begun = λ a n is. keeps.evolves.names a n (kept.maps_stand.begun a n is);
      only = λ a n is. elim (s.names a n is) [
        | inl before ↦ elim (kept.maps_stand.only a n before) [
          | inl begun ↦ inl begun
          | inr knows ↦ inr (knowing a n knows)
        ]
        | inr mine ↦ inr (record { seat = id; view = w; at = here w; knows = mine })
      ];
    }

    sums_kept : SumsStand start.began (length start.began.threads) new (set views id w)
    sums_kept = record {
      parts =
          let a = sum_set (λ (u : View). u.parts) views id v w at in
          let b = kept.sums.parts in
          let c = s.parts in
          omega arith;
      free =
          let a = sum_set (λ (u : View). u.claimed) views id v w at in
          let b = kept.sums.free in
          let c = s.sums.free in
          omega arith;
      bound =
          let a = sum_set (λ (u : View). u.over) views id v w at in
          let b = kept.sums.bound in
          elim s.sums.bound [ inl c ↦ omega arith | inr c ↦ omega arith ];
      over = λ i u e. elim (cases w i u e) [
        | inl x ↦ subst (λ (z : View). z.over ≤ z.parts) x.1 (let a = s.sums.over in let b = s.parts in omega arith)
        | inr x ↦ kept.sums.over i u x.1
      ];
      won =
          let a = sum_set (λ (u : View). u.won) views id v w at in
          let b = kept.sums.won in
          let c = s.sums.won in
          omega arith;
    }

    -- a fact of views stays where it is one of the new view and stays of the others
    each : (P : View → Type 0) → P w → ((i : ℕ) (u : View) → get_elem? views i ≡ some u → P u) → (i : ℕ) (u : View)
        → get_elem? (set views id w) i ≡ some u → P u
    each P mine others i u e = elim (cases w i u e) [ inl x ↦ subst P x.1 mine | inr x ↦ others i u x.1 ]

    set_still : get_or words 0 0 ≡ 1 → get_or after 0 0 ≡ 1
    set_still one = elim s.stops.bit [ inl same ↦ same ∙ one | inr set_ ↦ set_.0 ]

    caused : get_or after 0 0 ≡ 1
        → (i : ℕ) × (u : View) × (get_elem? (set views id w) i ≡ some u) × (has_cause u ≡ true)
    caused one = elim s.stops.bit [
      | inr set_ ↦ (id, w, here w, set_.1)
      | inl same ↦
          let c = kept.stop.caused (sym same ∙ one) in
          elim (ℕ_discrete c.0 id) [
            | yes e ↦
                let is : c.1 ≡ v = some-injective c.1 v (sym c.2 ∙ (ap (λ (z : ℕ). get_elem? views z) e ∙ at)) in
                (id, w, here w, s.stops.causes (ap has_cause (sym is) ∙ c.3))
            | no ne ↦ (c.0, c.1, set_else views id c.0 w ne ∙ c.2, c.3)
          ]
    ]

    stop_kept : StopStands start.began (get_or after 0 0) new (set views id w)
    stop_kept = record {
      bit = elim s.stops.bit [
        | inr set_ ↦ inr set_.0
        | inl same ↦ elim kept.stop.bit [ inl off ↦ inl (same ∙ off) | inr on ↦ inr (same ∙ on) ]
      ];
      caused = caused;
      stopped = each (λ (u : View). u.stopped ≡ true → get_or after 0 0 ≡ 1) s.stops.stopped
          (λ i u e is. set_still (kept.stop.stopped i u e is));
      spaced = each (λ (u : View). u.spaced ≡ true → start.began.size + 1 < new.free) s.stops.spaced
          (λ i u e is. let a = kept.stop.spaced i u e is in let b : old.free ≤ new.free = keeps.evolves.free in
          omega arith);
      lacks = each (λ (u : View). u.over ≢ 0 → u.spaced ≡ true) s.stops.lacks kept.stop.lacks;
      sets = each (λ (u : View). has_cause u ≡ true → is_lacking u.doing ≡ false → get_or after 0 0 ≡ 1) s.stops.sets
          (λ i u e cause goes. set_still (kept.stop.sets i u e cause goes));
      forwarded = each
          (λ (u : View). u.forwarded ≡ true → (p : ℕ) → p < start.began.forwards → new.forward p ≢ 0)
          s.stops.forwarded
          (λ i u e is p below empty.
          kept.stop.forwarded i u e is p below
          (sym (keeps.evolves.forwards p below (kept.stop.forwarded i u e is p below)) ∙ empty));
    }

    -- The stale bit, where it is told:
    module _ (told : start.began.told ≡ true) where
      abbrev q : ℕ
      q = length start.began.history

      abbrev t : ℕ
      t = v.thread

      abbrev seen_before : Sight
      seen_before = sight_of kept.history kept.maps old (stage_at views)

      abbrev seen_now : Sight
      seen_now = sight_of later s.maps new (stage_at (set views id w))

      tied : Tied (first_sight start.began) seen_before
      tied = kept.tied told

      -- the thread is at the stage of its own call, and each other is where it was
      was_at : stage_at views t ≡ staged v.doing
      was_at = stage_here start words views kept id v at live

      stays_at : (x : ℕ) → x ≢ t → stage_at (set views id w) x ≡ stage_at views x
      stays_at x other =
          stage_set x views id v w at
          (stage_other w x (λ same. other (sym same ∙ s.thread)) ∙ sym (stage_other v x (λ same. other (sym same))))

      is_at : stage_at (set views id w) t ≡ staged w.doing
      is_at =
          stage_one t (set views id w) id w (here w) (λ i u other e. elim (cases w i u e) [
            | inl x ↦ absurd (other x.0)
            | inr x ↦ stage_apart start words views kept id v at live i u x.0 x.1
          ])
          ∙ (ap (own_stage w) (sym s.thread) ∙ stage_own w)

      watched_by : (act : Option Act) → s.act ≡ act → LookGoes act w.doing
          → IfSome (look_of (staged w.doing)) (Watched q seen_now t)
      watched_by act is (inl none) = subst (λ (g : Option Look). IfSome g (Watched q seen_now t)) (sym none) tt
      watched_by act is (inr goes) = elim goes.1 [
        | inl same ↦
            subst (λ (g : Option Look). IfSome g (Watched q seen_now t)) (sym same)
            (look_stays q t t seen_before seen_now (look_of (staged v.doing))
            (ap (with_entry t kept.history) (is ∙ goes.0)) keeps.evolves.names keeps.evolves.homes (inr refl)
            (subst (λ (g : Option Stage). IfSome (look_of g) (Watched q seen_before t)) was_at (tied.watched t)))
        | inr looks ↦
            subst (λ (g : Option Look). IfSome g (Watched q seen_now t)) (sym looks.1)
            (watch_begins (stage_at (set views id w)) q t looks.0 (keeps.holds.tells told)
            (knows_look start.began.told s.maps new w.rest w.doing looks.0 looks.1 s.doing) looks.2 since_now)
      ]
        where
          since_now : q ≤ length later
          since_now =
              let before : q ≤ length kept.history = tied.since in
              omega (arith, before, ap (λ (x : Option Act). length (with_entry t kept.history x)) (is ∙ goes.0))

      -- an object that the entry gives is used by it
      uses : (n : ℕ) → Gives s.act n → Passed later q n
      uses n gives =
          subst (λ (x : Option Act). Passed (with_entry t kept.history x) q n) (sym gives.1)
          (inl (used_push kept.history (entry t gives.0) q n tied.since gives.2))

      no_bit : (a n : ℕ) → Has w.known a n → HasNoBit seen_now n
      no_bit a n has =
          no_bit_at later s.maps new (stage_at (set views id w)) a n keeps.holds.formed (s.known a n has)
          (s.fresh a n has)

      -- a call that was to read the slot of its look did, and passed the object
      passes : (a n : ℕ) → pending (stage_at views t) ≡ Some a → kept.maps.address a ≡ Some n → Passed later q n
      passes a n waits named = elim s.bits.reads [
        | inl left ↦ absurd (
            let none : pending (stage_at views t) ≡ None = ap pending was_at ∙ none_pending v.doing left in cc)
        | inr r ↦
            let here : stage_at views t ≡ staged (Some (Cleared r.place r.found r.target)) =
            was_at ∙ ap staged r.stage in
            let target : Some r.target ≡ Some a = sym (ap pending here) ∙ waits in
            let same : r.target ≡ a = cc in
            let look : Look = record { place = r.place; found = r.found } in
            let watched : Watched q seen_before t look =
            subst (λ (g : Option Stage). IfSome (look_of g) (Watched q seen_before t)) here (tied.watched t) in
            let knows : Knows start.began.told kept.maps old v.rest (Some (Cleared r.place r.found r.target)) =
            subst (Knows start.began.told kept.maps old v.rest) r.stage (kept.seats id v at live).doing in
            let slot : watched.slot ≡ r.slot = one_slot kept.maps r.place watched.slot r.slot watched.at r.is_slot in
            let act : s.act ≡ Some (Read watched.slot r.value) =
            r.reads ∙ ap (λ (x : Slot). Some (Read x r.value)) (sym slot) in
            subst (λ (x : Option Act). Passed (with_entry t kept.history x) q n) (sym act)
            (look_passes r.target r.value (knows.1.same told) (ap kept.maps.address same ∙ named) watched)
      ]

      owes : Owes kept.history later kept.maps s.maps old new (stage_at views) (stage_at (set views id w)) s.cleared
          kept.holds.formed keeps.evolves q t s.act
      owes = record {
        log = refl;
        others = stays_at;
        one_address = (keeps.holds.tells told).one_address;
        watched = subst (λ (g : Option Stage). IfSome (look_of g) (Watched q seen_now t)) (sym is_at)
            (watched_by s.act refl s.bits.look);
        appears = λ a n named. elim (s.names a n named) [
          | inl was ↦ inl was
          | inr has ↦ elim (s.bits.brings a n named) [
            | inl was ↦ inl was
            | inr new_ ↦ inr (
              no_bit a n has,
              elim new_ [
                | inl gives ↦ inl (uses n gives)
                | inr waits ↦ inr (record { thread = t; address = a; is = ap pending is_at ∙ waits; named = named })
              ],
            )
          ]
        ];
        clears = λ some_. ap pending is_at ∙ s.bits.clears some_;
        exchanges = passes;
        gives = λ n x is gives. let has = s.bits.gives n (x, is, gives) in no_bit has.0 n has.1;
      }

      still_tied : Tied (first_sight start.began) seen_now
      still_tied =
          tied_later t s.act (first_sight start.began) seen_before seen_now
          (touched kept.history later kept.maps s.maps old new (stage_at views) (stage_at (set views id w)) s.cleared
          kept.holds.formed keeps.evolves q t s.act owes) tied

    pub keep : Kept start after (set views id w)
    keep = record {
      history = later;
      maps = s.maps;
      size = s.size ∙ kept.size;
      legal = keeps.legal;
      holds = keeps.holds;
      first = kept.first;
      few = kept.few;
      bodies = kept.bodies;
      maps_stand = maps_kept;
      seats = λ i u e alive. elim (cases w i u e) [
        | inl x ↦ subst (SeatStands start.began s.maps new later) x.1 own_seat
        | inr x ↦ other_seat i u x.0 x.1 alive
      ];
      away = away_kept;
      spent = λ i u e none. elim (cases w i u e) [
        | inl x ↦ absurd (let alive : 0 < u.parts = subst (λ (z : View). 0 < z.parts) x.1 alive_still in omega arith)
        | inr x ↦ kept.spent i u x.1 none
      ];
      distinct = λ i j p q t x y ex ey lx ly hp hq.
          let a = spoke i p t x ex lx hp in
          let b = spoke j q t y ey ly hq in
          kept.distinct i j p q t a.view b.view a.is b.is a.alive b.alive a.has b.has;
      apart = apart_kept;
      whole = record { seat = id; view = w; at = here w; live = alive_still; seen = s.seen };
      members = λ i p t u e alive has.
          let x = spoke i p t u e alive has in
          kept.members i p t x.view x.is x.alive x.has;
      since = begins_on v.thread start.began.history kept.history s.act kept.since;
      stay = λ told. made_stay start.began.told kept.history kept.maps s.maps old new v.thread s.mine s.cleared s.act
          s.event
          keeps.evolves (made start.began.history) (kept.stay told);
      strangers = λ t none.
          own_other v.thread t kept.history s.act (λ same. none id 0 w (here w) alive_still (ap some (s.thread ∙ same)))
          ∙ kept.strangers t (λ i p u e alive has. let x = speaks i p t u e alive has in
          none i p x.view x.is x.alive x.has);
      sums = sums_kept;
      stop = stop_kept;
      tied = still_tied;
    }

    -- the history is legal, for the thread of the seat
    legal_seen : v.began.told ≡ true → Legal w.seen v.began.globals
    legal_seen told =
        let began : v.began ≡ start.began = (kept.seats id v at live).began in
        subst (λ (h : List Entry). Legal h v.began.globals) (sym s.seen)
        (subst (λ (b : Began). Legal later b.globals) (sym began)
        (keeps.legal (sym (ap (λ (b : Began). b.told) began) ∙ told)))

    -- its entries since the beginning are of threads that take part
    since_seen : Since v.began w.seen
    unfolding keep
    since_seen =
        let began : v.began ≡ start.began = (kept.seats id v at live).began in
        subst (λ (h : List Entry). Since v.began h) (sym s.seen)
        (subst (λ (b : Began). Since b later) (sym began) (record {
          begins = keep.since;
          strangers = λ t none. keep.strangers t (λ i p u e alive has. none (keep.members i p t u e alive has));
        }))

    -- what the step tells of the history, where it had no entry
    pub sees : s.act ≡ None → Sees v w.seen
    sees none =
        let stood = kept.seats id v at live in
        let whole : w.seen ≡ kept.history = s.seen ∙ ap (with_entry v.thread kept.history) none in
        record {
          begins = (stood.seen.begins.0, stood.seen.begins.1 ∙ sym whole);
          since = since_seen;
          legal = legal_seen;
          own_same = ap (λ (z : List Entry). own z v.thread) whole ∙ stood.seen.own_same;
        }

    -- and where it had one
    pub adds : (act : Act) → s.act ≡ Some act → Adds v w.seen act
    adds act is =
        let stood = kept.seats id v at live in
        let more = stood.seen.begins in
        let whole : w.seen ≡ kept.history ++ entry v.thread act ∷ [] =
        s.seen ∙ ap (with_entry v.thread kept.history) is in
        let e : kept.history ≡ v.seen ++ more.0 = sym more.1 in
        record {
          between = more.0;
          seen = whole ∙ ap (λ (z : List Entry). z ++ entry v.thread act ∷ []) e;
          since = since_seen;
          legal = legal_seen;
          own_grows = ap (λ (z : List Entry). own z v.thread) whole
              ∙ (own-push_own kept.history (entry v.thread act) v.thread refl
              ∙ (ap (λ (z : List ℕ). z ++ length kept.history ∷ []) stood.seen.own_same
              ∙ ap (λ (z : List Entry). own v.seen v.thread ++ length z ∷ []) e));
        }
