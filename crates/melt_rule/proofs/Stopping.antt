-- A store of 1 into the stop word keeps the rule, by a seat that has a cause to stop.
use Rattle.std.proofs.Common.{◌≡◌, ◌≢◌, ℕ, ◌+◌, ◌<◌, ◌≤◌, Bool, true, false, List, get_or, refl, sym, ◌∙◌}
use Rattle.std.proofs.Common.{ap, arith, inl, inr, subst}
use Rattle.std.proofs.Math.ListN.{set, length-set}
use Rattle.std.proofs.lemmas.List.{get_or-set_same}
use Rattle.std.specs.Prelude.{None, ◌||◌, if◌then◌else◌}
use lib.ListN.{get_elem?}
use mathlib.Core.Option.{some, none}
use Rattle.atomic_table.specs.Table.{Me, Allows, step}
use Rattle.melt_forward.proofs.Pairs.{forward_word-filled}
use Rattle.melt_forward.proofs.Probing.{each_place_once}
use Rattle.melt_forward.specs.Forwarding.{forward_word, probe}
use Rattle.melt_scion.specs.Placed.{Maps}
use Rattle.melt_scion.specs.Regions.{no_region}
use Rattle.melt_scion.specs.State.{State}
use Rattle.melt_core.proofs.Keeping.{event_keeps}
use Rattle.melt_core.proofs.Regions.{no_region_apart}
use Rattle.melt_core.proofs.Staying.{fresh_stays}
use Rattle.melt_core.specs.Events.Event.{quiet}
use Rattle.melt_core.specs.Known.{HoldsCopy, Searches}
use Rattle.melt_core.specs.declared.call.Place.{Place}
use Rattle.melt_core.specs.declared.call.Search.{Search}
use Rattle.melt_rule.proofs.Keeping.{IsStep, sees, still_bits}
use Rattle.melt_rule.proofs.Showing.{stop_sets, filled_same}
use Rattle.melt_rule.proofs.Within.{allowed}
use Rattle.melt_rule.specs.Coming.{FillsPlay, IsSearching}
use Rattle.melt_rule.specs.Plays.{StopPlay, AskPlay}
use Rattle.melt_rule.specs.Rule.{SeatStands, Kept, Rule, has_cause, is_reading}
use Rattle.melt_rule.specs.Shown.{shows, owned, Knows}
use Rattle.melt_rule.specs.Tells.{Sees, view_after, caused}
use Rattle.melt_rule.specs.declared.began.Began.{Began}
use Rattle.melt_rule.specs.declared.began.Start.{Start}
use Rattle.melt_rule.specs.declared.view.View.{View}

module _ (start : Start) (words : List ℕ) (views : List View) (kept : Kept start words views) (id : ℕ) (v : View)
    (at : get_elem? views id ≡ some v) (live : 0 < v.parts) where
  abbrev after : List ℕ
  after = set words 0 1

  abbrev old : State
  old = shows start.began words

  abbrev new : State
  new = shows start.began after

  stood : SeatStands start.began kept.maps old kept.history v
  stood = kept.seats id v at live

  set_there : get_or after 0 0 ≡ 1
  set_there = get_or-set_same words 0 1 0 (let size = kept.size in omega arith)

  -- The view after it, which may have been asked, or have found all forwarding words filled.
  abbrev pub stopped_by : Bool → Bool → View
  stopped_by asked forwarded =
      record (view_after v kept.history v.known None) { asked = asked; forwarded = forwarded }

  pub stops_by : (asked forwarded : Bool) → has_cause (stopped_by asked forwarded) ≡ true
      → (forwarded ≡ true → (p : ℕ) → p < start.began.forwards → old.forward p ≢ 0) → is_reading v.doing ≡ false
      → IsStep start words after views kept id v at live (stopped_by asked forwarded) × Sees v kept.history
  stops_by asked forwarded cause filled left =
      let same = stop_sets start.began words 1 in
      let keeps = event_keeps start.began.told v.thread kept.history kept.maps kept.maps old new no_region 0 None
      kept.legal kept.holds (quiet refl same) in
      let w : View = stopped_by asked forwarded in
      let is_step : IsStep start words after views kept id v at live w = record {
        maps = kept.maps;
        mine = no_region;
        cleared = 0;
        act = None;
        event = quiet refl same;
        mine_apart = λ i u other is alive. no_region_apart (owned u.doing);
        size = length-set words 0 1;
        names = λ a n is. inl is;
        parts = refl;
        thread = refl;
        began = refl;
        away = refl;
        seen = refl;
        own_seen = refl;
        more = λ a n has. has;
        known = stood.known;
        fresh = λ a n has. fresh_stays kept.maps kept.maps old new 0 kept.holds.formed keeps.evolves a
            (n, stood.known a n has)
            (stood.fresh a n has);
        doing = tt;
        apart = λ i u other is alive. no_region_apart (owned u.doing);
        sums = record {
          free = ap (λ (k : ℕ). k + v.claimed) same.free;
          bound = inl (let e = same.free in omega arith);
          over = kept.sums.over id v at;
          won = ap (λ (k : ℕ). k + v.won)
              (filled_same old.forward new.forward start.began.forwards (λ p below. same.forward p));
        };
        stops = record {
          bit = inr (set_there, cause);
          causes = λ had. cause;
          stopped = λ is. set_there;
          spaced = λ is. let e = same.free in let past = kept.stop.spaced id v at is in omega arith;
          lacks = kept.stop.lacks id v at;
          sets = λ cause goes. set_there;
          forwarded = λ is p below empty. filled is p below (sym (same.forward p) ∙ empty);
        };
        bits = still_bits start words after views kept id v at live v.known None (inl refl) left;
      } in
      (is_step, sees start words after views kept id v at live w is_step refl)

pub stops_at : {start : Start} {slots : ℕ} (id : ℕ) {me : Me ℕ View} → 0 < me.0.parts → has_cause me.0 ≡ true
    → is_reading me.0.doing ≡ false
    → Allows (Rule start) slots id me 0 (λ _. 1) (λ found. StopPlay (step slots 0 1 0 none) me 1)
stops_at {start} {slots} id {me} live cause left =
    allowed slots id 0 me (λ _. 1) (λ found. StopPlay (step slots 0 1 0 none) me 1) live
    (λ words views kept at alive small.
    let r = stops_by start words views kept id me.0 at alive me.0.asked me.0.forwarded cause
    (kept.stop.forwarded id me.0 at) left in (
      view_after me.0 kept.history me.0.known None,
      r.0,
      λ inside. ((refl, inside), record { sees = r.1; is = refl }),
    ))

-- a call that searches knows so much of the forwarding words
searches_on : {start : Start} {words : List ℕ} {views : List View} (kept : Kept start words views) (id : ℕ) (v : View)
    → get_elem? views id ≡ some v → 0 < v.parts → (search : Search) → IsSearching v search
    → Searches start.began.told kept.maps (shows start.began words) search.place search.home search.tried
searches_on {start} {words} kept id v at live search (inl is) =
    subst (Knows start.began.told kept.maps (shows start.began words) v.rest) is (kept.seats id v at live).doing
searches_on {start} {words} kept id v at live search (inr is) =
    let known : HoldsCopy start.began.told kept.maps (shows start.began words) v.rest is.0 =
    subst (Knows start.began.told kept.maps (shows start.began words) v.rest) is.1 (kept.seats id v at live).doing in
    subst (λ (s : Search).
    Searches start.began.told kept.maps (shows start.began words) s.place s.home s.tried) is.2 known.searches

-- and is not to read a slot next
searches_left : (v : View) (search : Search) → IsSearching v search → is_reading v.doing ≡ false
searches_left v search (inl is) = ap is_reading is
searches_left v search (inr is) = ap is_reading is.1

-- where it has read all of them, all are filled
all_filled : {told : Bool} {maps : Maps} {s : State} {place : Place} {home tried : ℕ}
    → Searches told maps s place home tried → s.base.forwards ≤ tried → (p : ℕ) → p < s.base.forwards → s.forward p ≢ 0
all_filled {s} {home} is all p below empty =
    let once = each_place_once home s.base.forwards p below in
    let other = is.probed.others once.0 (let k = once.1.in_range in omega arith) in
    let filled : s.forward (probe home s.base.forwards once.0) ≡ forward_word other.0 other.1 = other.3.is in
    forward_word-filled other.0 other.1 other.3.home_in_range
    (sym filled ∙ (ap s.forward once.1.here ∙ empty))

-- which is a cause to stop
forwarded_cause : (asked spaced : Bool) → asked || (spaced || true) ≡ true
forwarded_cause true spaced = refl
forwarded_cause false true = refl
forwarded_cause false false = refl

pub fills_at : {start : Start} {slots : ℕ} (id : ℕ) {search : Search} {me : Me ℕ View} → 0 < me.0.parts
    → IsSearching me.0 search → me.0.began.forwards ≤ search.tried
    → Allows (Rule start) slots id me 0 (λ _. 1) (λ found. FillsPlay (step slots 0 1 0 none) me 1)
fills_at {start} {slots} id {search} {me} live on all =
    allowed slots id 0 me (λ _. 1) (λ found. FillsPlay (step slots 0 1 0 none) me 1) live
    (λ words views kept at alive small.
    let searches = searches_on kept id me.0 at alive search on in
    let read : start.began.forwards ≤ search.tried =
    subst (λ (b : Began). b.forwards ≤ search.tried) (kept.seats id me.0 at alive).began all in
    let r = stops_by start words views kept id me.0 at alive me.0.asked true
    (forwarded_cause me.0.asked me.0.spaced)
    (λ is. all_filled searches read)
    (searches_left me.0 search on) in (
      record (view_after me.0 kept.history me.0.known None) { forwarded = true },
      r.0,
      λ inside. ((refl, inside), (r.1, refl)),
    ))

-- a view that was asked has a cause
asked_cause : (spaced forwarded : Bool) → (true || (spaced || forwarded)) ≡ true
asked_cause spaced forwarded = refl

-- what `ask` leaves
caused_is : (v : View) (b : Bool) → has_cause v ≡ b
    → (asked : Bool) × (caused v ≡ record v { asked = asked }) × (has_cause (record v { asked = asked }) ≡ true)
caused_is v true is = (v.asked, ap (λ (b : Bool). if b then v else record v { asked = true }) is, is)
caused_is v false is = (true, ap (λ (b : Bool). if b then v else record v { asked = true }) is, refl)

pub asks_at : {start : Start} {slots : ℕ} (id : ℕ) {me : Me ℕ View} → 0 < me.0.parts → is_reading me.0.doing ≡ false
    → Allows (Rule start) slots id me 0 (λ _. 1) (λ found. AskPlay (step slots 0 1 0 none) me 1)
asks_at {start} {slots} id {me} live left =
    allowed slots id 0 me (λ _. 1) (λ found. AskPlay (step slots 0 1 0 none) me 1) live
    (λ words views kept at alive small.
    let base : View = view_after me.0 kept.history me.0.known None in
    let c = caused_is base (has_cause base) refl in
    let r = stops_by start words views kept id me.0 at alive c.0 me.0.forwarded c.2
    (kept.stop.forwarded id me.0 at) left in (
      record base { asked = c.0 },
      r.0,
      λ inside. ((refl, inside), (r.1, sym c.1)),
    ))
