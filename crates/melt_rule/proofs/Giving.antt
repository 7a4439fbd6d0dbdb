-- The rule holds after a seat that was given.
use Rattle.std.proofs.Common.{◌≡◌, ◌≢◌, ℕ, zero, suc, ◌+◌, ◌<◌, ◌≤◌, List, [], ◌∷◌, ◌++◌, length, map, get_or}
use Rattle.std.proofs.Common.{refl, sym, ◌∙◌, ap, subst, arith, inl, inr, true, false}
use Rattle.std.proofs.Math.ListN.{set, length-set}
use Rattle.std.proofs.lemmas.Bool.{false≢true}
use Rattle.std.proofs.lemmas.List.Sums.{sum_by-cons, sum_by-append}
use Rattle.std.specs.List.{sum_by}
use lib.ListN.{get_elem?}
use mathlib.Core.Option.{some, some-injective, some-ne-none}
use native.Mathlib.Decide.{ℕ_discrete}
use Rattle.atomic_table.proofs.Lists.{at_set, set_here, set_else, at_longer, at_last}
use Rattle.atomic_table.specs.Table.{Me, Splits}
use Rattle.atomic_table.specs.declared.shared.Seat.{Seat}
use Rattle.melt_scion.specs.Regions.{Apart, no_region}
use Rattle.melt_scion.specs.State.{State}
use Rattle.melt_core.proofs.Regions.{no_region_apart, apart_sym}
use Rattle.melt_rule.proofs.Pieces.{at_end}
use Rattle.melt_rule.proofs.Tying.{same_tied, stage_idle, stage_more, stage_set}
use Rattle.melt_rule.proofs.Views.{in_range, sum_set}
use Rattle.melt_rule.specs.Giving.{first_away, others_away, giver_view, given_view, spent_view}
use Rattle.melt_rule.specs.Rule.{Has, Knowing, Saw, SeatStands, threads_of, Whole, SumsStand}
use Rattle.melt_rule.specs.Rule.{has_cause, is_lacking, StopStands, Kept, Rule}
use Rattle.melt_rule.specs.Seats.{EpochWords, IsSeat, knows_of}
use Rattle.melt_rule.specs.Shown.{shows, owned}
use Rattle.melt_rule.specs.Sights.{first_sight, stage_at}
use Rattle.melt_rule.specs.Tells.{IsWithin}
use Rattle.melt_rule.specs.declared.began.Start.{Start}
use Rattle.melt_rule.specs.declared.view.Away.{Away}
use Rattle.melt_rule.specs.declared.view.View.{View}

abbrev before : ℕ → ℕ
before zero = zero
before (suc p) = p

module _ (start : Start) (words : List ℕ) (views : List View) (kept : Kept start words views) (id : ℕ) (v : View)
    (at : get_elem? views id ≡ some v) (a : Away) (others : List Away) (away_is : v.away ≡ a ∷ others)
    (two : 2 ≤ v.parts) (room : v.over ≡ 0) where
  abbrev left : View
  left = giver_view v

  abbrev right : View
  right = given_view v

  abbrev after : List View
  after = set views id left ++ right ∷ []

  abbrev now : State
  now = shows start.began words

  live : 0 < v.parts
  live = omega arith

  size : length (set views id left) ≡ length views
  size = length-set views id left

  -- where a seat stood before
  data Where (j : ℕ) (u : View) : Type 0 where
    on_left : j ≡ id → left ≡ u → Where j u
    on_right : j ≡ length views → right ≡ u → Where j u
    as_before : j ≢ id → j < length views → get_elem? views j ≡ some u → Where j u

  found : (j : ℕ) (u : View) → get_elem? after j ≡ some u → Where j u
  found j u e = elim (at_end (set views id left) right u j e) [
    | inl old ↦ elim (at_set views id j left u old) [
      | inl x ↦ on_left x.0 x.1
      | inr x ↦ as_before x.0 (in_range views j u x.1) x.1
    ]
    | inr new ↦ on_right (new.0 ∙ size) new.1
  ]

  left_there : get_elem? after id ≡ some left
  left_there = at_longer (set views id left) (right ∷ []) id left (set_here views id left (in_range views id v at))

  other_there : (j : ℕ) (u : View) → j ≢ id → get_elem? views j ≡ some u → get_elem? after j ≡ some u
  other_there j u ne e = at_longer (set views id left) (right ∷ []) j u (set_else views id j left ne ∙ e)

  right_there : get_elem? after (length views) ≡ some right
  right_there = at_last (set views id left) right (length views) size

  -- the view that a seat with this number had
  had : (i : ℕ) (u : View) → get_elem? views i ≡ some u → i ≡ id → u ≡ v
  had i u e same = some-injective u v (sym e ∙ (ap (λ (z : ℕ). get_elem? views z) same ∙ at))

  -- what is so of the two new views, and of all views before
  each : (P : View → Type 0) → P left → P right → ((i : ℕ) (u : View) → get_elem? views i ≡ some u → P u) → (i : ℕ)
      (u : View) → get_elem? after i ≡ some u → P u
  each P of_left of_right old i u e = elim (found i u e) [
    | on_left j is ↦ subst P is of_left
    | on_right j is ↦ subst P is of_right
    | as_before ne lt was ↦ old i u was
  ]

  a_is : first_away v.away ≡ a
  a_is = ap first_away away_is

  others_are : others_away v.away ≡ others
  others_are = ap others_away away_is

  away_first : get_elem? v.away 0 ≡ some a
  away_first = ap (λ (l : List Away). get_elem? l 0) away_is

  away_more : (p : ℕ) (b : Away) → get_elem? (others_away v.away) p ≡ some b → get_elem? v.away (suc p) ≡ some b
  away_more p b e =
      ap (λ (l : List Away). get_elem? l (suc p)) away_is
      ∙ (ap (λ (l : List Away). get_elem? l p) (sym others_are) ∙ e)

  stood : SeatStands start.began kept.maps now kept.history v
  stood = kept.seats id v at live

  saw_first : Saw kept.history (first_away v.away).thread (first_away v.away).seen
  saw_first = subst (λ (b : Away). Saw kept.history b.thread b.seen) (sym a_is) (kept.away id 0 v a at live away_first)

  left_stands : SeatStands start.began kept.maps now kept.history left
  left_stands = record {
    began = stood.began;
    seen = stood.seen;
    mine = stood.mine;
    known = stood.known;
    fresh = stood.fresh;
    doing = stood.doing;
  }

  right_stands : SeatStands start.began kept.maps now kept.history right
  right_stands = record {
    began = stood.began;
    seen = saw_first;
    mine = saw_first;
    known = stood.known;
    fresh = stood.fresh;
    doing = tt;
  }

  -- which seat spoke before for a thread that a seat speaks for now
  data Origin (j p t : ℕ) : Type 0 where
    from_left : (q : ℕ) → j ≡ id → q ≢ 1 → p ≡ before q → get_elem? (threads_of v) q ≡ some t → Origin j p t
    from_right : j ≡ length views → p ≡ 0 → get_elem? (threads_of v) 1 ≡ some t → Origin j p t
    from_before : (u : View) → j ≢ id → get_elem? views j ≡ some u → 0 < u.parts → get_elem? (threads_of u) p ≡ some t
        → Origin j p t

  abbrev threads : List Away → List ℕ
  threads l = map (λ (x : Away). x.thread) l

  left_origin : (j p t : ℕ) → j ≡ id → get_elem? (threads_of left) p ≡ some t → Origin j p t
  left_origin j zero t same e = from_left 0 same (λ q. omega arith) refl e
  left_origin j (suc p) t same e =
      from_left (suc (suc p)) same (λ q. omega arith) refl
      (ap (λ (l : List Away). get_elem? (threads l) (suc p)) away_is
      ∙ (ap (λ (l : List Away). get_elem? (threads l) p) (sym others_are) ∙ e))

  right_origin : (j p t : ℕ) → j ≡ length views → get_elem? (threads_of right) p ≡ some t → Origin j p t
  right_origin j zero t same e =
      from_right same refl
      (ap (λ (l : List Away). get_elem? (threads l) 0) away_is ∙ (ap (λ (x : Away). some x.thread) (sym a_is) ∙ e))
  right_origin j (suc p) t same e = absurd (some-ne-none t (sym e))

  origin : (j p t : ℕ) (u : View) → get_elem? after j ≡ some u → 0 < u.parts → get_elem? (threads_of u) p ≡ some t
      → Origin j p t
  origin j p t u e alive has = elim (found j u e) [
    | on_left x is ↦ left_origin j p t x (ap (λ (z : View). get_elem? (threads_of z) p) is ∙ has)
    | on_right x is ↦ right_origin j p t x (ap (λ (z : View). get_elem? (threads_of z) p) is ∙ has)
    | as_before ne lt old ↦ from_before u ne old alive has
  ]

  -- no thread has two seats
  one_origin : (i p j q t : ℕ) → Origin i p t → Origin j q t → (i ≡ j) × (p ≡ q)
  one_origin i p j q t (from_left x a1 b1 c1 d1) (from_left y a2 b2 c2 d2) =
      let same = kept.distinct id id x y t v v at at live live d1 d2 in
      (a1 ∙ sym a2, c1 ∙ (ap before same.1 ∙ sym c2))
  one_origin i p j q t (from_left x a1 b1 c1 d1) (from_right a2 b2 c2) =
      absurd (b1 (kept.distinct id id x 1 t v v at at live live d1 c2).1)
  one_origin i p j q t (from_left x a1 b1 c1 d1) (from_before u a2 b2 c2 d2) =
      absurd (a2 (sym (kept.distinct id j x q t v u at b2 live c2 d1 d2).0))
  one_origin i p j q t (from_right a1 b1 c1) (from_left y a2 b2 c2 d2) =
      absurd (b2 (kept.distinct id id y 1 t v v at at live live d2 c1).1)
  one_origin i p j q t (from_right a1 b1 c1) (from_right a2 b2 c2) = (a1 ∙ sym a2, b1 ∙ sym b2)
  one_origin i p j q t (from_right a1 b1 c1) (from_before u a2 b2 c2 d2) =
      absurd (a2 (sym (kept.distinct id j 1 q t v u at b2 live c2 c1 d2).0))
  one_origin i p j q t (from_before u a1 b1 c1 d1) (from_left y a2 b2 c2 d2) =
      absurd (a1 (kept.distinct i id p y t u v b1 at c1 live d1 d2).0)
  one_origin i p j q t (from_before u a1 b1 c1 d1) (from_right a2 b2 c2) =
      absurd (a1 (kept.distinct i id p 1 t u v b1 at c1 live d1 c2).0)
  one_origin i p j q t (from_before u a1 b1 c1 d1) (from_before w a2 b2 c2 d2) =
      kept.distinct i j p q t u w b1 b2 c1 c2 d1 d2

  -- some seat speaks for the thread
  record Speaks (t : ℕ) : Type 0 where
    pub seat : ℕ
    pub place : ℕ
    pub view : View
    pub is : get_elem? after seat ≡ some view
    pub alive : 0 < view.parts
    pub has : get_elem? (threads_of view) place ≡ some t

  giver_speaks : (p t : ℕ) → get_elem? (threads_of v) p ≡ some t → Speaks t
  giver_speaks zero t has =
      record { seat = id; place = 0; view = left; is = left_there; alive = omega arith; has = has }
  giver_speaks (suc zero) t has = record {
    seat = length views;
    place = 0;
    view = right;
    is = right_there;
    alive = omega arith;
    has = ap (λ (x : Away). some x.thread) a_is
        ∙ (ap (λ (l : List Away). get_elem? (threads l) 0) (sym away_is) ∙ has);
  }
  giver_speaks (suc (suc p)) t has = record {
    seat = id;
    place = suc p;
    view = left;
    is = left_there;
    alive = omega arith;
    has = ap (λ (l : List Away). get_elem? (threads l) p) others_are
        ∙ (ap (λ (l : List Away). get_elem? (threads l) (suc p)) (sym away_is) ∙ has);
  }

  -- as one did before
  speaks : (i p t : ℕ) (u : View) → get_elem? views i ≡ some u → 0 < u.parts → get_elem? (threads_of u) p ≡ some t
      → Speaks t
  speaks i p t u e alive has = elim (ℕ_discrete i id) [
    | yes same ↦ giver_speaks p t (ap (λ (z : View). get_elem? (threads_of z) p) (sym (had i u e same)) ∙ has)
    | no ne ↦ record { seat = i; place = p; view = u; is = other_there i u ne e; alive = alive; has = has }
  ]

  knowing : (b n : ℕ) → Knowing views b n → Knowing after b n
  knowing b n x = elim (ℕ_discrete x.seat id) [
    | yes same ↦ record {
      seat = id;
      view = left;
      at = left_there;
      knows = subst (λ (z : View). Has z.known b n) (had x.seat x.view x.at same) x.knows;
    }
    | no ne ↦ record { seat = x.seat; view = x.view; at = other_there x.seat x.view ne x.at; knows = x.knows }
  ]

  away_kept : (i p : ℕ) (u : View) (b : Away) → get_elem? after i ≡ some u → 0 < u.parts → get_elem? u.away p ≡ some b
      → Saw kept.history b.thread b.seen
  away_kept i p u b e alive has = elim (found i u e) [
    | on_left j is ↦ kept.away id (suc p) v b at live
        (away_more p b (ap (λ (z : View). get_elem? z.away p) is ∙ has))
    | on_right j is ↦ absurd (some-ne-none b (sym (ap (λ (z : View). get_elem? z.away p) is ∙ has)))
    | as_before ne lt old ↦ kept.away i p u b old alive has
  ]

  whole_kept : Whole kept.history after
  whole_kept =
      let w = kept.whole in
      elim (ℕ_discrete w.seat id) [
        | yes same ↦ record {
          seat = id;
          view = left;
          at = left_there;
          live = omega arith;
          seen = ap (λ (z : View). z.seen) (sym (had w.seat w.view w.at same)) ∙ w.seen;
        }
        | no ne ↦ record {
          seat = w.seat;
          view = w.view;
          at = other_there w.seat w.view ne w.at;
          live = w.live;
          seen = w.seen;
        }
      ]

  apart_kept : (i j : ℕ) (x y : View) → i ≢ j → get_elem? after i ≡ some x → get_elem? after j ≡ some y → 0 < x.parts
      → 0 < y.parts → Apart (owned x.doing) (owned y.doing)
  apart_kept i j x y differ ex ey lx ly = elim (found i x ex) [
    | on_left k is ↦ elim (found j y ey) [
      | on_left l also ↦ absurd (differ (k ∙ sym l))
      | on_right l also ↦ subst (λ (z : View). Apart (owned x.doing) (owned z.doing)) also
          (apart_sym no_region (owned x.doing) (no_region_apart (owned x.doing)))
      | as_before ne lt old ↦ subst (λ (z : View). Apart (owned z.doing) (owned y.doing)) is
          (kept.apart id j v y (λ e. ne (sym e)) at old live ly)
    ]
    | on_right k is ↦ subst (λ (z : View). Apart (owned z.doing) (owned y.doing)) is
        (no_region_apart (owned y.doing))
    | as_before ne lt old ↦ elim (found j y ey) [
      | on_left l also ↦ subst (λ (z : View). Apart (owned x.doing) (owned z.doing)) also
          (kept.apart i id x v ne old at lx live)
      | on_right l also ↦ subst (λ (z : View). Apart (owned x.doing) (owned z.doing)) also
          (apart_sym no_region (owned x.doing) (no_region_apart (owned x.doing)))
      | as_before other below also ↦ kept.apart i j x y differ old also lx ly
    ]
  ]

  sum_kept : (f : View → ℕ) → sum_by f after + f v ≡ sum_by f views + f left + f right
  sum_kept f =
      let one = sum_set f views id v left at in
      let both = sum_by-append f (set views id left) (right ∷ []) in
      let last = sum_by-cons f right [] in
      omega arith

  sums_kept : SumsStand start.began (length start.began.threads) now after
  sums_kept = record {
    parts = let s = sum_kept (λ (u : View). u.parts) in let o = kept.sums.parts in omega arith;
    free = let s = sum_kept (λ (u : View). u.claimed) in let o = kept.sums.free in omega arith;
    bound = let s = sum_kept (λ (u : View). u.over) in let o = kept.sums.bound in omega arith;
    over = each (λ (u : View). u.over ≤ u.parts) (omega arith) (omega arith) kept.sums.over;
    won = let s = sum_kept (λ (u : View). u.won) in let o = kept.sums.won in omega arith;
  }

  caused : get_or words 0 0 ≡ 1 → (i : ℕ) × (u : View) × (get_elem? after i ≡ some u) × (has_cause u ≡ true)
  caused one =
      let c = kept.stop.caused one in
      elim (ℕ_discrete c.0 id) [
        | yes same ↦ (id, left, left_there, ap has_cause (sym (had c.0 c.1 c.2 same)) ∙ c.3)
        | no ne ↦ (c.0, c.1, other_there c.0 c.1 ne c.2, c.3)
      ]

  stop_kept : StopStands start.began (get_or words 0 0) now after
  stop_kept = record {
    bit = kept.stop.bit;
    caused = caused;
    stopped = each (λ (u : View). u.stopped ≡ true → get_or words 0 0 ≡ 1) (kept.stop.stopped id v at)
        (λ is. absurd (false≢true is))
        kept.stop.stopped;
    spaced = each (λ (u : View). u.spaced ≡ true → start.began.size + 1 < now.free) (kept.stop.spaced id v at)
        (λ is. absurd (false≢true is))
        kept.stop.spaced;
    lacks = each (λ (u : View). u.over ≢ 0 → u.spaced ≡ true) (kept.stop.lacks id v at) (λ some_. absurd (some_ refl))
        kept.stop.lacks;
    sets = each (λ (u : View). has_cause u ≡ true → is_lacking u.doing ≡ false → get_or words 0 0 ≡ 1)
        (kept.stop.sets id v at)
        (λ cause. absurd (false≢true cause))
        kept.stop.sets;
    forwarded = each (λ (u : View). u.forwarded ≡ true → (p : ℕ) → p < start.began.forwards → now.forward p ≢ 0)
        (kept.stop.forwarded id v at)
        (λ is. absurd (false≢true is))
        kept.stop.forwarded;
  }

  pub give : Kept start words after
  give = record {
    history = kept.history;
    maps = kept.maps;
    size = kept.size;
    legal = kept.legal;
    holds = kept.holds;
    first = kept.first;
    few = kept.few;
    bodies = kept.bodies;
    maps_stand = record {
      homes = kept.maps_stand.homes;
      begun = kept.maps_stand.begun;
      only = λ b n is. elim (kept.maps_stand.only b n is) [
        | inl begun ↦ inl begun
        | inr knows ↦ inr (knowing b n knows)
      ];
    };
    seats = λ i u e alive. elim (found i u e) [
      | on_left j is ↦ subst (SeatStands start.began kept.maps now kept.history) is left_stands
      | on_right j is ↦ subst (SeatStands start.began kept.maps now kept.history) is right_stands
      | as_before ne lt old ↦ kept.seats i u old alive
    ];
    away = away_kept;
    spent = each (λ (u : View). u.parts ≡ 0 → u ≡ spent_view) (λ none. absurd (omega arith))
        (λ none. absurd (omega arith))
        kept.spent;
    distinct = λ i j p q t x y ex ey lx ly hp hq.
        one_origin i p j q t (origin i p t x ex lx hp) (origin j q t y ey ly hq);
    apart = apart_kept;
    whole = whole_kept;
    members = λ i p t u e alive has. elim (origin i p t u e alive has) [
      | from_left q a b c d ↦ kept.members id q t v at live d
      | from_right a b c ↦ kept.members id 1 t v at live c
      | from_before x a b c d ↦ kept.members i p t x b c d
    ];
    since = kept.since;
    stay = kept.stay;
    strangers = λ t none. kept.strangers t (λ i p u e alive has. let x = speaks i p t u e alive has in
        none x.seat x.place x.view x.is x.alive x.has);
    sums = sums_kept;
    stop = stop_kept;
    tied = λ told. same_tied (first_sight start.began) kept.history kept.maps now (stage_at views) (stage_at after)
        (λ t. stage_more t (set views id left) right (stage_idle right t refl) ∙ stage_set t views id v left at refl)
        (kept.tied told);
  }

-- where some thread is away
splits : (start : Start) (id : ℕ) (v : View) (away : List Away) → v.away ≡ away → 0 < length away → 2 ≤ v.parts
    → v.over ≡ 0 → Splits (Rule start) id v (giver_view v) (given_view v)
splits start id v [] is some_ two room s kept at = absurd (omega arith)
splits start id v (a ∷ others) is some_ two room s kept at =
    give start s.words s.views kept id v at a others is two room

pub gives : (start : Start) (id : ℕ) (v : View) → 0 < length v.away → 2 ≤ v.parts → v.over ≡ 0
    → Splits (Rule start) id v (giver_view v) (given_view v)
gives start id v some_ two room = splits start id v v.away refl some_ two room

-- the seat that gave
pub giver_seat : (words : EpochWords) (old new : Seat ℕ View) → IsSeat words old → 2 ≤ (knows_of old).parts
    → new.table_id ≡ old.table_id → new.me ≡ (giver_view (knows_of old), old.me.1) → IsSeat words new
giver_seat words old new seat two table is =
    let knows : knows_of new ≡ giver_view (knows_of old) = ap (λ (m : Me ℕ View). m.0) is in
    record {
      same = table ∙ seat.same;
      none = ap (λ (m : Me ℕ View). m.1) is ∙ seat.none;
      live = subst (λ (v : View). 0 < v.parts) (sym knows) (omega arith);
      began = ap (λ (v : View). v.began) knows ∙ seat.began;
      within = subst IsWithin (sym knows) (record {
        known = seat.within.known;
        one_object = seat.within.one_object;
        one_address = seat.within.one_address;
        doing = seat.within.doing;
      });
    }

-- and the seat that was given
pub given_seat : (words : EpochWords) (old new : Seat ℕ View) → IsSeat words old → new.table_id ≡ old.table_id
    → new.me ≡ (given_view (knows_of old), []) → IsSeat words new
given_seat words old new seat table is =
    let knows : knows_of new ≡ given_view (knows_of old) = ap (λ (m : Me ℕ View). m.0) is in
    record {
      same = table ∙ seat.same;
      none = ap (λ (m : Me ℕ View). m.1) is;
      live = subst (λ (v : View). 0 < v.parts) (sym knows) (omega arith);
      began = ap (λ (v : View). v.began) knows ∙ seat.began;
      within = subst IsWithin (sym knows) (record {
        known = seat.within.known;
        one_object = seat.within.one_object;
        one_address = seat.within.one_address;
        doing = tt;
      });
    }
