-- The rule holds after a seat that took in another.
use Rattle.std.proofs.Common.{◌≡◌, ◌≢◌, ◌⊎◌, ℕ, zero, suc, ◌+◌, ◌<◌, ◌≤◌, List, ◌∷◌, ◌++◌, length, get_or}
use Rattle.std.proofs.Common.{refl, sym, ◌∙◌, ap, subst, arith, inl, inr, Bool, true, false, ◌||◌}
use Rattle.std.proofs.Math.ListN.{set}
use Rattle.std.proofs.lemmas.Bool.{false≢true}
use Rattle.std.proofs.lemmas.List.{map-append}
use Rattle.std.specs.List.{sum_by}
use Rattle.std.specs.Prelude.{None}
use lib.ListN.{get_elem?}
use mathlib.Core.Option.{some, some-injective}
use native.Mathlib.Decide.{ℕ_discrete}
use Rattle.atomic_table.proofs.Lists.{at_set, set_here, set_else, at_longer}
use Rattle.atomic_table.specs.Table.{Me, Joins}
use Rattle.atomic_table.specs.declared.shared.Seat.{Seat}
use Rattle.melt_scion.specs.Regions.{Apart}
use Rattle.melt_scion.specs.State.{State}
use Rattle.melt_core.specs.StaleBits.{pending}
use Rattle.melt_rule.proofs.Lengths.{longer_first, longer_second, saw_longer}
use Rattle.melt_rule.proofs.Pieces.{at_append, at_after}
use Rattle.melt_rule.proofs.Tying.{left_tied, none_pending, stage_apart, stage_here, stage_idle}
use Rattle.melt_rule.proofs.Tying.{stage_none, stage_other, stage_set}
use Rattle.melt_rule.proofs.Views.{cases_zero, in_range, sum_set}
use Rattle.melt_rule.specs.Giving.{joined_view, spent_view}
use Rattle.melt_rule.specs.Rule.{Has, Knowing, Saw, SeatStands, threads_of, Whole, SumsStand}
use Rattle.melt_rule.specs.Rule.{has_cause, is_lacking, is_reading, StopStands, Kept, Rule}
use Rattle.melt_rule.specs.Seats.{EpochWords, Sits, knows_of}
use Rattle.melt_rule.specs.Shown.{shows, owned}
use Rattle.melt_rule.specs.Sights.{first_sight, stage_at, own_stage}
use Rattle.melt_rule.specs.declared.began.Pair.{Pair}
use Rattle.melt_rule.specs.declared.began.Start.{Start}
use Rattle.melt_rule.specs.declared.view.Away.{Away}
use Rattle.melt_rule.specs.declared.view.View.{View}

has_left : (l m : List Pair) (a n : ℕ) → Has l a n → Has (l ++ m) a n
has_left l m a n x = (x.0, at_longer l m x.0 (record { address = a; object = n }) x.1)

has_right : (l m : List Pair) (a n : ℕ) → Has m a n → Has (l ++ m) a n
has_right l m a n x = (length l + x.0, at_after l m x.0 (record { address = a; object = n }) x.1)

has_either : (l m : List Pair) (a n : ℕ) → Has (l ++ m) a n → Has l a n ⊎ Has m a n
has_either l m a n x = elim (at_append l m x.0 (record { address = a; object = n }) x.1) [
  | inl h ↦ inl (x.0, h)
  | inr h ↦ inr (h.0, h.2)
]

or_either : (a b : Bool) → a || b ≡ true → (a ≡ true) ⊎ (b ≡ true)
or_either true b e = inl e
or_either false b e = inr e

or_left : (a b : Bool) → a ≡ true → a || b ≡ true
or_left true b e = refl
or_left false b e = absurd (false≢true e)

or_right : (a b : Bool) → b ≡ true → a || b ≡ true
or_right true b e = refl
or_right false b e = e

-- two causes to stop are one's
joined_cause : (v w : View) → (has_cause v ≡ true) ⊎ (has_cause w ≡ true) → has_cause (joined_view v w) ≡ true
joined_cause v w (inl mine) = elim (or_either v.asked (v.spaced || v.forwarded) mine) [
  | inl a ↦ or_left (v.asked || w.asked) _ (or_left v.asked w.asked a)
  | inr b ↦ or_right (v.asked || w.asked) _ (elim (or_either v.spaced v.forwarded b) [
    | inl s ↦ or_left (v.spaced || w.spaced) _ (or_left v.spaced w.spaced s)
    | inr f ↦ or_right (v.spaced || w.spaced) _ (or_left v.forwarded w.forwarded f)
  ])
]
joined_cause v w (inr theirs) = elim (or_either w.asked (w.spaced || w.forwarded) theirs) [
  | inl a ↦ or_left (v.asked || w.asked) _ (or_right v.asked w.asked a)
  | inr b ↦ or_right (v.asked || w.asked) _ (elim (or_either w.spaced w.forwarded b) [
    | inl s ↦ or_left (v.spaced || w.spaced) _ (or_right v.spaced w.spaced s)
    | inr f ↦ or_right (v.spaced || w.spaced) _ (or_right v.forwarded w.forwarded f)
  ])
]

-- and where the one has a cause, one of the two had it
either_cause : (v w : View) → has_cause (joined_view v w) ≡ true → (has_cause v ≡ true) ⊎ (has_cause w ≡ true)
either_cause v w both = elim (or_either (v.asked || w.asked) _ both) [
  | inl asked ↦ elim (or_either v.asked w.asked asked) [
    | inl a ↦ inl (or_left v.asked _ a)
    | inr b ↦ inr (or_left w.asked _ b)
  ]
  | inr lack ↦ elim (or_either (v.spaced || w.spaced) _ lack) [
    | inl spaced ↦ elim (or_either v.spaced w.spaced spaced) [
      | inl a ↦ inl (or_right v.asked _ (or_left v.spaced v.forwarded a))
      | inr b ↦ inr (or_right w.asked _ (or_left w.spaced w.forwarded b))
    ]
    | inr forwarded ↦ elim (or_either v.forwarded w.forwarded forwarded) [
      | inl a ↦ inl (or_right v.asked _ (or_right v.spaced v.forwarded a))
      | inr b ↦ inr (or_right w.asked _ (or_right w.spaced w.forwarded b))
    ]
  ]
]

module _ (start : Start) (words : List ℕ) (views : List View) (kept : Kept start words views) (id other : ℕ)
    (v w : View) (at : get_elem? views id ≡ some v) (there : get_elem? views other ≡ some w) (differ : other ≢ id)
    (live : 0 < v.parts) (live_w : 0 < w.parts) (goes_on : is_lacking v.doing ≡ false)
    (other_goes_on : is_lacking w.doing ≡ false) (other_left : is_reading w.doing ≡ false) where
  abbrev both : View
  both = joined_view v w

  abbrev after : List View
  after = set (set views id both) other spent_view

  abbrev now : State
  now = shows start.began words

  mine : SeatStands start.began kept.maps now kept.history v
  mine = kept.seats id v at live

  theirs : SeatStands start.began kept.maps now kept.history w
  theirs = kept.seats other w there live_w

  both_there : get_elem? after id ≡ some both
  both_there =
      set_else (set views id both) other id spent_view (λ e. differ (sym e))
      ∙ set_here views id both (in_range views id v at)

  others_there : (j : ℕ) (u : View) → j ≢ id → j ≢ other → get_elem? views j ≡ some u → get_elem? after j ≡ some u
  others_there j u ne ne' e = set_else (set views id both) other j spent_view ne' ∙ (set_else views id j both ne ∙ e)

  -- where a seat stood before
  data Where (j : ℕ) (u : View) : Type 0 where
    is_both : j ≡ id → both ≡ u → Where j u
    is_spent : spent_view ≡ u → Where j u
    as_before : j ≢ id → j ≢ other → get_elem? views j ≡ some u → Where j u

  found : (j : ℕ) (u : View) → get_elem? after j ≡ some u → Where j u
  found j u e = elim (at_set (set views id both) other j spent_view u e) [
    | inl x ↦ is_spent x.1
    | inr x ↦ elim (at_set views id j both u x.1) [ inl y ↦ is_both y.0 y.1 | inr y ↦ as_before y.0 x.0 y.1 ]
  ]

  -- where a seat that is not spent did
  data WhereLive (j : ℕ) (u : View) : Type 0 where
    now_both : j ≡ id → both ≡ u → WhereLive j u
    still : j ≢ id → j ≢ other → get_elem? views j ≡ some u → WhereLive j u

  found_live : (j : ℕ) (u : View) → get_elem? after j ≡ some u → 0 < u.parts → WhereLive j u
  found_live j u e alive = elim (found j u e) [
    | is_both x is ↦ now_both x is
    | is_spent is ↦ absurd (let none : 0 ≡ u.parts = ap (λ (z : View). z.parts) is in omega arith)
    | as_before ne ne' old ↦ still ne ne' old
  ]

  had : (i j : ℕ) (x y : View) → get_elem? views i ≡ some x → get_elem? views j ≡ some y → i ≡ j → x ≡ y
  had i j x y ex ey same = some-injective x y (sym ex ∙ (ap (λ (z : ℕ). get_elem? views z) same ∙ ey))

  -- what is so of the two new views, and of all views before
  each : (P : View → Type 0) → P both → P spent_view → ((i : ℕ) (u : View) → get_elem? views i ≡ some u → P u)
      → (i : ℕ) (u : View) → get_elem? after i ≡ some u → P u
  each P of_both of_spent old i u e = elim (found i u e) [
    | is_both j is ↦ subst P is of_both
    | is_spent is ↦ subst P is of_spent
    | as_before ne ne' was ↦ old i u was
  ]

  both_threads : threads_of both ≡ threads_of v ++ threads_of w
  both_threads =
      ap (λ (l : List ℕ). v.thread ∷ l)
      (map-append (λ (x : Away). x.thread) v.away (record { thread = w.thread; seen = w.mine } ∷ w.away))

  -- which seat spoke before for a thread that a seat speaks for now
  data Origin (j p t : ℕ) : Type 0 where
    from_own : j ≡ id → get_elem? (threads_of v) p ≡ some t → Origin j p t
    from_other : (q : ℕ) → j ≡ id → p ≡ length (threads_of v) + q → get_elem? (threads_of w) q ≡ some t → Origin j p t
    from_before : (u : View) → j ≢ id → j ≢ other → get_elem? views j ≡ some u → 0 < u.parts
        → get_elem? (threads_of u) p ≡ some t → Origin j p t

  both_origin : (j p t : ℕ) → j ≡ id → get_elem? (threads_of both) p ≡ some t → Origin j p t
  both_origin j p t same has =
      elim (at_append (threads_of v) (threads_of w) p t (ap (λ (l : List ℕ). get_elem? l p) (sym both_threads) ∙ has)) [
        | inl h ↦ from_own same h
        | inr h ↦ from_other h.0 same h.1 h.2
      ]

  origin : (j p t : ℕ) (u : View) → get_elem? after j ≡ some u → 0 < u.parts → get_elem? (threads_of u) p ≡ some t
      → Origin j p t
  origin j p t u e alive has = elim (found_live j u e alive) [
    | now_both x is ↦ both_origin j p t x (ap (λ (z : View). get_elem? (threads_of z) p) is ∙ has)
    | still ne ne' old ↦ from_before u ne ne' old alive has
  ]

  -- no thread has two seats
  one_origin : (i p j q t : ℕ) → Origin i p t → Origin j q t → (i ≡ j) × (p ≡ q)
  one_origin i p j q t (from_own a1 b1) (from_own a2 b2) =
      (a1 ∙ sym a2, (kept.distinct id id p q t v v at at live live b1 b2).1)
  one_origin i p j q t (from_own a1 b1) (from_other y a2 b2 c2) =
      absurd (differ (sym (kept.distinct id other p y t v w at there live live_w b1 c2).0))
  one_origin i p j q t (from_own a1 b1) (from_before u a2 b2 c2 d2 e2) =
      absurd (a2 (sym (kept.distinct id j p q t v u at c2 live d2 b1 e2).0))
  one_origin i p j q t (from_other x a1 b1 c1) (from_own a2 b2) =
      absurd (differ (kept.distinct other id x q t w v there at live_w live c1 b2).0)
  one_origin i p j q t (from_other x a1 b1 c1) (from_other y a2 b2 c2) =
      (a1 ∙ sym a2, (let same = (kept.distinct other other x y t w w there there live_w live_w c1 c2).1 in omega arith))
  one_origin i p j q t (from_other x a1 b1 c1) (from_before u a2 b2 c2 d2 e2) =
      absurd (b2 (sym (kept.distinct other j x q t w u there c2 live_w d2 c1 e2).0))
  one_origin i p j q t (from_before u a1 b1 c1 d1 e1) (from_own a2 b2) =
      absurd (a1 (kept.distinct i id p q t u v c1 at d1 live e1 b2).0)
  one_origin i p j q t (from_before u a1 b1 c1 d1 e1) (from_other y a2 b2 c2) =
      absurd (b1 (kept.distinct i other p y t u w c1 there d1 live_w e1 c2).0)
  one_origin i p j q t (from_before u a1 b1 c1 d1 e1) (from_before x a2 b2 c2 d2 e2) =
      kept.distinct i j p q t u x c1 c2 d1 d2 e1 e2

  -- some seat speaks for the thread
  record Speaks (t : ℕ) : Type 0 where
    pub seat : ℕ
    pub place : ℕ
    pub view : View
    pub is : get_elem? after seat ≡ some view
    pub alive : 0 < view.parts
    pub has : get_elem? (threads_of view) place ≡ some t

  both_speak : (p t : ℕ) → get_elem? (threads_of v ++ threads_of w) p ≡ some t → Speaks t
  both_speak p t has = record {
    seat = id;
    place = p;
    view = both;
    is = both_there;
    alive = omega arith;
    has = ap (λ (l : List ℕ). get_elem? l p) both_threads ∙ has;
  }

  -- as one did before
  speaks : (i p t : ℕ) (u : View) → get_elem? views i ≡ some u → 0 < u.parts → get_elem? (threads_of u) p ≡ some t
      → Speaks t
  speaks i p t u e alive has = elim (ℕ_discrete i id) [
    | yes same ↦ both_speak p t (at_longer (threads_of v) (threads_of w) p t
        (ap (λ (z : View). get_elem? (threads_of z) p) (sym (had i id u v e at same)) ∙ has))
    | no ne ↦ elim (ℕ_discrete i other) [
      | yes same ↦ both_speak (length (threads_of v) + p) t (at_after (threads_of v) (threads_of w) p t
          (ap (λ (z : View). get_elem? (threads_of z) p) (sym (had i other u w e there same)) ∙ has))
      | no ne' ↦ record { seat = i; place = p; view = u; is = others_there i u ne ne' e; alive = alive; has = has }
    ]
  ]

  knowing : (b n : ℕ) → Knowing views b n → Knowing after b n
  knowing b n x = elim (ℕ_discrete x.seat id) [
    | yes same ↦ record {
      seat = id;
      view = both;
      at = both_there;
      knows = has_left v.known w.known b n
          (subst (λ (z : View). Has z.known b n) (had x.seat id x.view v x.at at same) x.knows);
    }
    | no ne ↦ elim (ℕ_discrete x.seat other) [
      | yes same ↦ record {
        seat = id;
        view = both;
        at = both_there;
        knows = has_right v.known w.known b n
            (subst (λ (z : View). Has z.known b n) (had x.seat other x.view w x.at there same) x.knows);
      }
      | no ne' ↦ record {
        seat = x.seat;
        view = x.view;
        at = others_there x.seat x.view ne ne' x.at;
        knows = x.knows;
      }
    ]
  ]

  both_stand : SeatStands start.began kept.maps now kept.history both
  both_stand = record {
    began = mine.began;
    seen = saw_longer kept.history v.thread v.seen w.seen mine.seen theirs.seen.begins;
    mine = mine.mine;
    known = λ a n x. elim (has_either v.known w.known a n x) [ inl y ↦ mine.known a n y | inr y ↦ theirs.known a n y ];
    fresh = λ a n x. elim (has_either v.known w.known a n x) [ inl y ↦ mine.fresh a n y | inr y ↦ theirs.fresh a n y ];
    doing = mine.doing;
  }

  -- the other's own thread is away now, with what it had seen
  away_after : (q : ℕ) (b : Away) → get_elem? (record { thread = w.thread; seen = w.mine } ∷ w.away) q ≡ some b
      → Saw kept.history b.thread b.seen
  away_after zero b e =
      subst (λ (x : Away). Saw kept.history x.thread x.seen)
      (some-injective (record { thread = w.thread; seen = w.mine }) b e)
      theirs.mine
  away_after (suc q) b e = kept.away other q w b there live_w e

  away_both : (p : ℕ) (b : Away) → get_elem? both.away p ≡ some b → Saw kept.history b.thread b.seen
  away_both p b has =
      elim (at_append v.away (record { thread = w.thread; seen = w.mine } ∷ w.away) p b has) [
        | inl h ↦ kept.away id p v b at live h
        | inr h ↦ away_after h.0 b h.2
      ]

  away_kept : (i p : ℕ) (u : View) (b : Away) → get_elem? after i ≡ some u → 0 < u.parts → get_elem? u.away p ≡ some b
      → Saw kept.history b.thread b.seen
  away_kept i p u b e alive has = elim (found_live i u e alive) [
    | now_both x is ↦ away_both p b (ap (λ (z : View). get_elem? z.away p) is ∙ has)
    | still ne ne' old ↦ kept.away i p u b old alive has
  ]

  whole_kept : Whole kept.history after
  whole_kept =
      let x = kept.whole in
      elim (ℕ_discrete x.seat id) [
        | yes same ↦ record {
          seat = id;
          view = both;
          at = both_there;
          live = omega arith;
          seen = longer_first v.seen w.seen kept.history
              (ap (λ (z : View). z.seen) (sym (had x.seat id x.view v x.at at same)) ∙ x.seen)
              theirs.seen.begins;
        }
        | no ne ↦ elim (ℕ_discrete x.seat other) [
          | yes same ↦ record {
            seat = id;
            view = both;
            at = both_there;
            live = omega arith;
            seen = longer_second v.seen w.seen kept.history
                (ap (λ (z : View). z.seen) (sym (had x.seat other x.view w x.at there same)) ∙ x.seen)
                mine.seen.begins;
          }
          | no ne' ↦ record {
            seat = x.seat;
            view = x.view;
            at = others_there x.seat x.view ne ne' x.at;
            live = x.live;
            seen = x.seen;
          }
        ]
      ]

  apart_kept : (i j : ℕ) (x y : View) → i ≢ j → get_elem? after i ≡ some x → get_elem? after j ≡ some y → 0 < x.parts
      → 0 < y.parts → Apart (owned x.doing) (owned y.doing)
  apart_kept i j x y ne ex ey lx ly = elim (found_live i x ex lx) [
    | now_both k is ↦ elim (found_live j y ey ly) [
      | now_both l also ↦ absurd (ne (k ∙ sym l))
      | still b b' old ↦ subst (λ (z : View). Apart (owned z.doing) (owned y.doing)) is
          (kept.apart id j v y (λ e. b (sym e)) at old live ly)
    ]
    | still a a' old ↦ elim (found_live j y ey ly) [
      | now_both l also ↦ subst (λ (z : View). Apart (owned x.doing) (owned z.doing)) also
          (kept.apart i id x v a old at lx live)
      | still b b' also ↦ kept.apart i j x y ne old also lx ly
    ]
  ]

  sum_kept : (f : View → ℕ) → sum_by f after + f v + f w ≡ sum_by f views + f both + f spent_view
  sum_kept f =
      let one = sum_set f views id v both at in
      let two = sum_set f (set views id both) other w spent_view (set_else views id other both differ ∙ there) in
      omega arith

  sums_kept : SumsStand start.began (length start.began.threads) now after
  sums_kept = record {
    parts = let s = sum_kept (λ (u : View). u.parts) in let o = kept.sums.parts in omega arith;
    free = let s = sum_kept (λ (u : View). u.claimed) in let o = kept.sums.free in omega arith;
    bound = let s = sum_kept (λ (u : View). u.over) in let o = kept.sums.bound in omega arith;
    over = each (λ (u : View). u.over ≤ u.parts)
        (let a = kept.sums.over id v at in let b = kept.sums.over other w there in omega arith)
        (omega arith)
        kept.sums.over;
    won = let s = sum_kept (λ (u : View). u.won) in let o = kept.sums.won in omega arith;
  }

  caused : get_or words 0 0 ≡ 1 → (i : ℕ) × (u : View) × (get_elem? after i ≡ some u) × (has_cause u ≡ true)
  caused one =
      let c = kept.stop.caused one in
      elim (ℕ_discrete c.0 id) [
        | yes same ↦
            let is : v ≡ c.1 = sym (had c.0 id c.1 v c.2 at same) in
            (id, both, both_there, joined_cause v w (inl (ap has_cause is ∙ c.3)))
        | no ne ↦ elim (ℕ_discrete c.0 other) [
          | yes same ↦
              let is : w ≡ c.1 = sym (had c.0 other c.1 w c.2 there same) in
              (id, both, both_there, joined_cause v w (inr (ap has_cause is ∙ c.3)))
          | no ne' ↦ (c.0, c.1, others_there c.0 c.1 ne ne' c.2, c.3)
        ]
      ]

  -- where one of the seats claimed past the last word, that one lacks words
  lacks_both : v.over + w.over ≢ 0 → v.spaced || w.spaced ≡ true
  lacks_both some_ = elim (cases_zero v.over) [
    | inl none ↦ or_right v.spaced w.spaced (kept.stop.lacks other w there (λ e. some_ (omega arith)))
    | inr over ↦ or_left v.spaced w.spaced (kept.stop.lacks id v at (λ e. omega arith))
  ]

  stop_kept : StopStands start.began (get_or words 0 0) now after
  stop_kept = record {
    bit = kept.stop.bit;
    caused = caused;
    stopped = each (λ (u : View). u.stopped ≡ true → get_or words 0 0 ≡ 1)
        (λ is. elim (or_either v.stopped w.stopped is) [
          | inl a ↦ kept.stop.stopped id v at a
          | inr b ↦ kept.stop.stopped other w there b
        ])
        (λ is. absurd (false≢true is))
        kept.stop.stopped;
    spaced = each (λ (u : View). u.spaced ≡ true → start.began.size + 1 < now.free)
        (λ is. elim (or_either v.spaced w.spaced is) [
          | inl a ↦ kept.stop.spaced id v at a
          | inr b ↦ kept.stop.spaced other w there b
        ])
        (λ is. absurd (false≢true is))
        kept.stop.spaced;
    lacks = each (λ (u : View). u.over ≢ 0 → u.spaced ≡ true) lacks_both (λ some_. absurd (some_ refl)) kept.stop.lacks;
    sets = each (λ (u : View). has_cause u ≡ true → is_lacking u.doing ≡ false → get_or words 0 0 ≡ 1)
        (λ cause goes. elim (either_cause v w cause) [
          | inl a ↦ kept.stop.sets id v at a goes_on
          | inr b ↦ kept.stop.sets other w there b other_goes_on
        ])
        (λ cause. absurd (false≢true cause))
        kept.stop.sets;
    forwarded = each (λ (u : View). u.forwarded ≡ true → (p : ℕ) → p < start.began.forwards → now.forward p ≢ 0)
        (λ is. elim (or_either v.forwarded w.forwarded is) [
          | inl a ↦ kept.stop.forwarded id v at a
          | inr b ↦ kept.stop.forwarded other w there b
        ])
        (λ is. absurd (false≢true is))
        kept.stop.forwarded;
  }

  -- the other's thread has no call from then on, and each else is where it was
  stages_stay : (t : ℕ) → t ≢ w.thread → stage_at after t ≡ stage_at views t
  stages_stay t ne =
      stage_set t (set views id both) other w spent_view (set_else views id other both differ ∙ there)
      (stage_idle spent_view t refl ∙ sym (stage_other w t (λ same. ne (sym same))))
      ∙ stage_set t views id v both at refl

  taken_stage : stage_at after w.thread ≡ None
  taken_stage = stage_none w.thread after (λ i u e. elim (found i u e) [
    | is_both j is ↦
        ap (λ (z : View). own_stage z w.thread) (sym is)
        ∙ stage_apart start words views kept other w there live_w id v (λ same. differ (sym same)) at
    | is_spent is ↦ ap (λ (z : View). own_stage z w.thread) (sym is) ∙ stage_idle spent_view w.thread refl
    | as_before ne ne' old ↦ stage_apart start words views kept other w there live_w i u ne' old
  ])

  pub take_in : Kept start words after
  take_in = record {
    history = kept.history;
    maps = kept.maps;
    size = kept.size;
    legal = kept.legal;
    holds = kept.holds;
    first = kept.first;
    few = kept.few;
    bodies = kept.bodies;
    maps_stand = record {
      homes = kept.maps_stand.homes;
      begun = kept.maps_stand.begun;
      only = λ b n is. elim (kept.maps_stand.only b n is) [
        | inl begun ↦ inl begun
        | inr knows ↦ inr (knowing b n knows)
      ];
    };
    seats = λ i u e alive. elim (found_live i u e alive) [
      | now_both j is ↦ subst (SeatStands start.began kept.maps now kept.history) is both_stand
      | still ne ne' old ↦ kept.seats i u old alive
    ];
    away = away_kept;
    spent = each (λ (u : View). u.parts ≡ 0 → u ≡ spent_view) (λ none. absurd (omega arith)) (λ none. refl) kept.spent;
    distinct = λ i j p q t x y ex ey lx ly hp hq.
        one_origin i p j q t (origin i p t x ex lx hp) (origin j q t y ey ly hq);
    apart = apart_kept;
    whole = whole_kept;
    members = λ i p t u e alive has. elim (origin i p t u e alive has) [
      | from_own a b ↦ kept.members id p t v at live b
      | from_other q a b c ↦ kept.members other q t w there live_w c
      | from_before x a b c d e' ↦ kept.members i p t x c d e'
    ];
    since = kept.since;
    stay = kept.stay;
    strangers = λ t none. kept.strangers t (λ i p u e alive has. let x = speaks i p t u e alive has in
        none x.seat x.place x.view x.is x.alive x.has);
    sums = sums_kept;
    stop = stop_kept;
    tied = λ told. left_tied (first_sight start.began) kept.history kept.maps now (stage_at views) (stage_at after)
        w.thread stages_stay taken_stage
        (ap pending (stage_here start words views kept other w there live_w) ∙ none_pending w.doing other_left)
        (kept.tied told);
  }

pub takes : (start : Start) (id other : ℕ) (v w : View) → 0 < v.parts → 0 < w.parts → is_lacking v.doing ≡ false
    → is_lacking w.doing ≡ false → is_reading w.doing ≡ false
    → Joins (Rule start) id v other w (joined_view v w) spent_view
takes start id other v w live live_w goes_on other_goes_on other_left s kept at differ there =
    take_in start s.words s.views kept id other v w at
    (sym (set_else s.views id other (joined_view v w) differ) ∙ there)
    differ live live_w goes_on other_goes_on other_left

-- the seat that took in the other
pub taker_seat : (words : EpochWords) (old other new : Seat ℕ View) → Sits words old → new.table_id ≡ old.table_id
    → new.me ≡ (joined_view (knows_of old) (knows_of other), old.me.1) → Sits words new
taker_seat words old other new seat table is =
    let knows : knows_of new ≡ joined_view (knows_of old) (knows_of other) = ap (λ (m : Me ℕ View). m.0) is in
    record {
      same = table ∙ seat.same;
      none = ap (λ (m : Me ℕ View). m.1) is ∙ seat.none;
      live = subst (λ (u : View). 0 < u.parts) (sym knows) (let live = seat.live in omega arith);
      began = ap (λ (u : View). u.began) knows ∙ seat.began;
    }
