-- An epoch ends with the seat that took in all others.
use Rattle.std.proofs.Common.{◌≡◌, ◌≢◌, ℕ, zero, suc, ◌+◌, ◌<◌, ◌≤◌, List, [], ◌∷◌, length, get_or}
use Rattle.std.proofs.Common.{refl, sym, ◌∙◌, ap, subst, arith, inl, inr, true, false}
use Rattle.std.proofs.lemmas.Bool.{false≢true}
use Rattle.std.proofs.lemmas.List.Sums.{sum_by-cons}
use Rattle.std.specs.List.{sum_by}
use Rattle.std.specs.Prelude.{None}
use lib.ListN.{get_elem?}
use mathlib.Core.Option.{some, some-injective, some-ne-none}
use native.Mathlib.Decide.{ℕ_discrete}
use Rattle.atomic_table.specs.Table.{Final, Seen}
use Rattle.melt_model.specs.History.{Legal}
use Rattle.melt_model.specs.Thread.{own}
use Rattle.melt_model.specs.declared.history.Entry.{Entry}
use Rattle.melt_scion.specs.Placed.{Holds}
use Rattle.melt_scion.specs.State.{State}
use Rattle.melt_core.proofs.StaleBitsTying.{tied_tells}
use Rattle.melt_core.specs.StaleBits.{BitsTold, pending}
use Rattle.melt_rule.proofs.Tying.{left_tied, none_pending, stage_here, stage_idle, stage_none, stage_other}
use Rattle.melt_rule.specs.Ending.{HistoryEnds, CountsEnd, HasEnded}
use Rattle.melt_rule.specs.Giving.{spent_view}
use Rattle.melt_rule.specs.Rule.{Has, Begins, Knowing, MadeStay, Saw, SeatStands, threads_of, has_cause, is_reading}
use Rattle.melt_rule.specs.Rule.{Kept, Rule}
use Rattle.melt_rule.specs.Shown.{shows}
use Rattle.melt_rule.specs.Sights.{first_sight, last_sight, no_calls, stage_at, own_stage}
use Rattle.melt_rule.specs.declared.began.Pair.{Pair}
use Rattle.melt_rule.specs.declared.began.Start.{Start}
use Rattle.melt_rule.specs.declared.view.View.{View}

module _ (f : View → ℕ) where
  at_most : (views : List View) (i : ℕ) (v : View) → get_elem? views i ≡ some v → f v ≤ sum_by f views
  at_most [] i v e = absurd (some-ne-none v (sym e))
  at_most (x ∷ xs) zero v e =
      let all = sum_by-cons f x xs in
      let same : f x ≡ f v = ap f (some-injective x v e) in
      omega arith
  at_most (x ∷ xs) (suc i) v e = let all = sum_by-cons f x xs in let rest = at_most xs i v e in omega arith

  -- two views count no more than all
  two_of : (views : List View) (i j : ℕ) (v u : View) → i ≢ j → get_elem? views i ≡ some v → get_elem? views j ≡ some u
      → f v + f u ≤ sum_by f views
  two_of [] i j v u ne ei ej = absurd (some-ne-none v (sym ei))
  two_of (x ∷ xs) zero zero v u ne ei ej = absurd (ne refl)
  two_of (x ∷ xs) zero (suc j) v u ne ei ej =
      let all = sum_by-cons f x xs in
      let same : f x ≡ f v = ap f (some-injective x v ei) in
      let rest = at_most xs j u ej in
      omega arith
  two_of (x ∷ xs) (suc i) zero v u ne ei ej =
      let all = sum_by-cons f x xs in
      let same : f x ≡ f u = ap f (some-injective x u ej) in
      let rest = at_most xs i v ei in
      omega arith
  two_of (x ∷ xs) (suc i) (suc j) v u ne ei ej =
      let all = sum_by-cons f x xs in
      let rest = two_of xs i j v u (λ e. ne (ap suc e)) ei ej in
      omega arith

  sum_none : (views : List View) → ((i : ℕ) (u : View) → get_elem? views i ≡ some u → f u ≡ 0) → sum_by f views ≡ 0
  sum_none [] none = omega arith
  sum_none (x ∷ xs) none =
      let all = sum_by-cons f x xs in
      let here = none 0 x refl in
      let rest = sum_none xs (λ i u e. none (suc i) u e) in
      omega arith

  -- where one view alone counts
  sum_one : (views : List View) (id : ℕ) (v : View) → get_elem? views id ≡ some v
      → ((i : ℕ) (u : View) → get_elem? views i ≡ some u → i ≢ id → f u ≡ 0) → sum_by f views ≡ f v
  sum_one [] id v at none = absurd (some-ne-none v (sym at))
  sum_one (x ∷ xs) zero v at none =
      let all = sum_by-cons f x xs in
      let same : f x ≡ f v = ap f (some-injective x v at) in
      let rest = sum_none xs (λ i u e. none (suc i) u e (λ q. omega arith)) in
      omega arith
  sum_one (x ∷ xs) (suc id) v at none =
      let all = sum_by-cons f x xs in
      let here = none 0 x refl (λ q. omega arith) in
      let rest = sum_one xs id v at (λ i u e ne. none (suc i) u e (λ q. ne (omega arith))) in
      omega arith

has_none : (pairs : List Pair) (a n : ℕ) → pairs ≡ [] → Has pairs a n → ⊥
has_none pairs a n none has =
    some-ne-none (record { address = a; object = n })
    (sym (ap (λ (l : List Pair). get_elem? l has.0) (sym none) ∙ has.1))

module _ (start : Start) (words : List ℕ) (views : List View) (kept : Kept start words views) (id : ℕ) (v : View)
    (at : get_elem? views id ≡ some v) (live : 0 < v.parts) (all : v.parts ≡ length start.began.threads) where
  abbrev now : State
  now = shows start.began words

  -- every other seat is spent
  alone : (i : ℕ) (u : View) → get_elem? views i ≡ some u → i ≢ id → u ≡ spent_view
  alone i u e ne =
      let both = two_of (λ (z : View). z.parts) views i id u v ne e at in
      let sum = kept.sums.parts in
      kept.spent i u e (omega arith)

  same : (i : ℕ) (u : View) → get_elem? views i ≡ some u → i ≡ id → u ≡ v
  same i u e is = some-injective u v (sym e ∙ (ap (λ (z : ℕ). get_elem? views z) is ∙ at))

  one_live : (i : ℕ) (u : View) → get_elem? views i ≡ some u → 0 < u.parts → u ≡ v
  one_live i u e alive = elim (ℕ_discrete i id) [
    | yes is ↦ same i u e is
    | no ne ↦ absurd (let none : u.parts ≡ 0 = ap (λ (z : View). z.parts) (alone i u e ne) in omega arith)
  ]

  pub sum_is : (f : View → ℕ) → f spent_view ≡ 0 → sum_by f views ≡ f v
  sum_is f none = sum_one f views id v at (λ i u e ne. ap f (alone i u e ne) ∙ none)

  -- where its call is not about to read the slot of its look
  module _ (left : is_reading v.doing ≡ false) where
    stood : SeatStands start.began kept.maps now kept.history v
    stood = kept.seats id v at live

    whole : v.seen ≡ kept.history
    whole =
        let w = kept.whole in
        ap (λ (z : View). z.seen) (sym (one_live w.seat w.view w.at w.live)) ∙ w.seen

    saw : (t : ℕ) (seen : List Entry) → Saw kept.history t seen → Saw v.seen t seen
    saw t seen s = subst (λ (h : List Entry). Saw h t seen) (sym whole) s

    knowing : (a n : ℕ) → Knowing views a n → Has v.known a n
    knowing a n x = elim (ℕ_discrete x.seat id) [
      | yes is ↦ subst (λ (z : View). Has z.known a n) (same x.seat x.view x.at is) x.knows
      | no ne ↦ absurd
          (has_none x.view.known a n (ap (λ (z : View). z.known) (alone x.seat x.view x.at ne)) x.knows)
    ]

    caused : get_or words 0 0 ≡ 1 → has_cause v ≡ true
    caused one =
        let c = kept.stop.caused one in
        elim (ℕ_discrete c.0 id) [
          | yes is ↦ ap has_cause (sym (same c.0 c.1 c.2 is)) ∙ c.3
          | no ne ↦ absurd (false≢true (ap has_cause (sym (alone c.0 c.1 c.2 ne)) ∙ c.3))
        ]

    history_ends : HistoryEnds start v
    history_ends = record {
      legal = λ told. subst (λ (h : List Entry). Legal h start.began.globals) (sym whole) (kept.legal told);
      since = subst (Begins start.began.history) (sym whole) kept.since;
      mine = saw v.thread v.mine stood.mine;
      away = λ p a has. saw a.thread a.seen (kept.away id p v a at live has);
      strangers = λ t none.
          ap (λ (h : List Entry). own h t) whole
          ∙ kept.strangers t (λ i p u e alive has. none p
          (ap (λ (z : View). get_elem? (threads_of z) p) (sym (one_live i u e alive)) ∙ has));
    }

    counts_end : CountsEnd start.began (get_or words 0 0) now v
    counts_end = record {
      free = kept.sums.free ∙ ap (λ (k : ℕ). start.began.free + k) (sum_is (λ (u : View). u.claimed) refl);
      spaced = kept.stop.spaced id v at;
      won = kept.sums.won ∙ sum_is (λ (u : View). u.won) refl;
      forwarded = kept.stop.forwarded id v at;
      bit = kept.stop.bit;
      stopped = kept.stop.stopped id v at;
      caused = caused;
      sets = kept.stop.sets id v at;
    }

    -- no other thread has a call, and that of the seat is left
    no_stage : (t : ℕ) → t ≢ v.thread → stage_at views t ≡ None
    no_stage t ne = stage_none t views (λ i u e. elim (ℕ_discrete i id) [
      | yes is ↦ ap (λ (z : View). own_stage z t) (same i u e is) ∙ stage_other v t (λ e. ne (sym e))
      | no other ↦ stage_idle u t (ap (λ (z : View). z.doing) (alone i u e other))
    ])

    bits_end : start.began.told ≡ true → BitsTold (first_sight start.began) (last_sight v.seen kept.maps now)
    bits_end told =
        let one = (kept.holds.tells told).one_address in
        let begun = kept.maps_stand.begun in
        subst (λ (h : List Entry). BitsTold (first_sight start.began) (last_sight h kept.maps now)) (sym whole)
        (tied_tells (first_sight start.began) (last_sight kept.history kept.maps now)
        (λ a b n is also. one a b n (begun a n is) (begun b n also))
        (λ t. refl)
        (left_tied (first_sight start.began) kept.history kept.maps now (stage_at views) no_calls v.thread
        (λ t ne. sym (no_stage t ne)) refl
        (ap pending (stage_here start words views kept id v at live) ∙ none_pending v.doing left)
        (kept.tied told)))

    pub ends : HasEnded start words v
    ends = record {
      size = kept.size;
      maps = kept.maps;
      holds = subst (λ (h : List Entry). Holds start.began.told h kept.maps now) (sym whole) kept.holds;
      history = history_ends;
      named = record {
        homes = kept.maps_stand.homes;
        begun = kept.maps_stand.begun;
        known = stood.known;
        only = λ a n is. elim (kept.maps_stand.only a n is) [
          | inl begun ↦ inl begun
          | inr knows ↦ inr (knowing a n knows)
        ];
        fresh = stood.fresh;
      };
      counts = counts_end;
      stay = λ told. subst (λ (h : List Entry). MadeStay start.began.history h kept.maps) (sym whole) (kept.stay told);
      bits = bits_end;
    }

-- the words of a table that was closed with such a seat
pub closes : (start : Start) (id : ℕ) (v : View) (words slots : List ℕ) → Final (Seen (Rule start) id v) words slots
    → 0 < v.parts → is_reading v.doing ≡ false → v.parts ≡ length start.began.threads → HasEnded start words v
closes start id v words slots final live left all =
    let kept : Kept start words final.0.views =
    subst (λ (l : List ℕ). Kept start l final.0.views) final.2 final.1.0 in
    ends start words final.0.views kept id v final.1.1 live all left
