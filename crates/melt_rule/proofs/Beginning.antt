-- The rule holds where an epoch begins.
use Rattle.std.proofs.Common.{◌≡◌, ◌≢◌, ℕ, zero, suc, ◌+◌, ◌<◌, ◌≤◌, List, [], ◌∷◌, length, map, get_or}
use Rattle.std.proofs.Common.{refl, sym, ◌∙◌, ap, subst, arith, inl, inr, true, false}
use Rattle.std.proofs.lemmas.Bool.{false≢true, cases_lt}
use Rattle.std.proofs.lemmas.List.Sums.{sum_by-cons}
use Rattle.std.specs.List.{sum_by}
use Rattle.std.specs.Prelude.{None, Some}
use lib.ListN.{get_elem?}
use mathlib.Core.Option.{some, some-injective, some-ne-none}
use Rattle.atomic_table.specs.Seated.{TableId}
use Rattle.atomic_table.specs.Table.{Me, opening}
use Rattle.atomic_table.specs.declared.shared.Seat.{Seat}
use Rattle.melt_model.specs.History.{shape}
use Rattle.melt_model.specs.declared.history.Entry.{Entry}
use Rattle.melt_word.specs.declared.header.Shape.{Shape}
use Rattle.melt_record.proofs.Heads.{same_head}
use Rattle.melt_record.specs.declared.head.Head.{Head}
use Rattle.melt_record.specs.declared.head.Kind.TheVariants.{Body, Stub}
use Rattle.melt_forward.proofs.Pairs.{forward_word-filled}
use Rattle.melt_space.specs.Space.{word_at}
use Rattle.melt_scion.specs.Scions.{EachOnce}
use Rattle.melt_scion.specs.State.{State}
use Rattle.melt_core.proofs.StaleBitsTying.{tied_first}
use Rattle.melt_core.specs.StaleBits.{Tied, sight_of}
use Rattle.melt_rule.proofs.Pieces.{read_at}
use Rattle.melt_rule.proofs.Tying.{same_tied, stage_idle, stage_none}
use Rattle.melt_rule.proofs.Views.{in_range, begins_self, saw_all}
use Rattle.melt_rule.proofs.Within.{within}
use Rattle.melt_rule.specs.Beginning.{MayBegin}
use Rattle.melt_rule.specs.Giving.{spent_view}
use Rattle.melt_rule.specs.Rule.{Saw, SeatStands, threads_of, filled_count, filled_one, BodiesTell, Kept, Rule}
use Rattle.melt_rule.specs.Rule.{first_or_0, others_of, first_view, has_cause, is_lacking}
use Rattle.melt_rule.specs.Seats.{IsSeat, knows_of}
use Rattle.melt_rule.specs.Shown.{maps_at, shows}
use Rattle.melt_rule.specs.Sights.{first_sight, no_calls, stage_at, own_stage}
use Rattle.melt_rule.specs.Tells.{IsWithin}
use Rattle.melt_rule.specs.declared.began.Start.{Start}
use Rattle.melt_rule.specs.declared.view.Away.{Away}
use Rattle.melt_rule.specs.declared.view.View.{View}

-- a number that stands in the list once stands in one place
one_place : (l : List ℕ) (p q t : ℕ) → EachOnce l → get_elem? l p ≡ some t → get_elem? l q ≡ some t → p ≡ q
one_place l p q t once at_p at_q = elim (cases_lt p q) [
  | inl less ↦ absurd (once p q 0 less (in_range l q t at_q) (read_at l p t at_p ∙ sym (read_at l q t at_q)))
  | inr not_less ↦ elim (cases_lt q p) [
    | inl less ↦ absurd (once q p 0 less (in_range l p t at_p) (read_at l q t at_q ∙ sym (read_at l p t at_p)))
    | inr not_more ↦ omega arith
  ]
]

abbrev away_with : List Entry → ℕ → Away
away_with h t = record { thread = t; seen = h }

same_threads : (h : List Entry) (ts : List ℕ) → map (λ (a : Away). a.thread) (map (away_with h) ts) ≡ ts
same_threads h [] = refl
same_threads h (t ∷ ts) = ap (λ (l : List ℕ). t ∷ l) (same_threads h ts)

-- the first seat speaks for all threads
all_threads : (h : List Entry) (ts : List ℕ) → 1 ≤ length ts
    → first_or_0 ts ∷ map (λ (a : Away). a.thread) (map (away_with h) (others_of ts)) ≡ ts
all_threads h [] some_ = absurd (omega arith)
all_threads h (t ∷ ts) some_ = ap (λ (l : List ℕ). t ∷ l) (same_threads h ts)

away_saw : (h : List Entry) (ts : List ℕ) (p : ℕ) (a : Away) → get_elem? (map (away_with h) ts) p ≡ some a
    → Saw h a.thread a.seen
away_saw h [] p a e = absurd (some-ne-none a (sym e))
away_saw h (t ∷ ts) zero a e =
    saw_all h a.thread a.seen (ap (λ (x : Away). x.seen) (sym (some-injective (away_with h t) a e)))
away_saw h (t ∷ ts) (suc p) a e = away_saw h ts p a e

none_filled : (word : ℕ → ℕ) (n : ℕ) → ((p : ℕ) → p < n → word p ≡ 0) → filled_count word n ≡ 0
none_filled word zero none = refl
none_filled word (suc n) none =
    let before : filled_count word n ≡ 0 = none_filled word n (λ p below. none p (omega arith)) in
    let last : filled_one (word n) ≡ 0 = ap filled_one (none n (omega arith)) in
    omega arith

module _ (start : Start) (words : List ℕ) (may : MayBegin start words) where
  abbrev first : View
  first = first_view start

  abbrev now : State
  now = shows start.began words

  only : (i : ℕ) (u : View) → get_elem? (first ∷ []) i ≡ some u → (i ≡ 0) × (first ≡ u)
  only zero u e = (refl, some-injective first u e)
  only (suc i) u e = absurd (some-ne-none u (sym e))

  each : (P : View → Type 0) → P first → (i : ℕ) (u : View) → get_elem? (first ∷ []) i ≡ some u → P u
  each P of_first i u e = subst P (only i u e).1 of_first

  threads : threads_of first ≡ start.began.threads
  threads = all_threads start.began.history start.began.threads may.some_thread

  first_stands : SeatStands start.began (maps_at start.began) now start.began.history first
  first_stands = record {
    began = refl;
    seen = saw_all start.began.history first.thread start.began.history refl;
    mine = saw_all start.began.history first.thread start.began.history refl;
    known = may.held;
    fresh = may.fresh;
    doing = tt;
  }

  speaks : (i p t : ℕ) (u : View) → get_elem? (first ∷ []) i ≡ some u → get_elem? (threads_of u) p ≡ some t
      → get_elem? start.began.threads p ≡ some t
  speaks i p t u e has =
      ap (λ (l : List ℕ). get_elem? l p) (sym threads)
      ∙ (ap (λ (z : View). get_elem? (threads_of z) p) (only i u e).1 ∙ has)

  sum_one : (f : View → ℕ) → sum_by f (first ∷ []) ≡ f first
  sum_one f = let s = sum_by-cons f first [] in omega arith

  -- no home is forwarded yet, so that the record of each is that of its object
  bodies : start.began.told ≡ true → BodiesTell start.began
  bodies told home n z is head =
      let stands = (may.holds.tells told).homes home n is in
      let reserved : Shape = stands.reserved_for in
      let body_head : Head = record { shape = z; kind = Body } in
      elim stands.is [
        | inl body ↦
            let one = (same_head body.head head).1 in
            subst (λ (y : Shape). shape start.began.history n ≡ Some (record { refs = y.refs; nums = y.nums }))
            (ap (λ (x : Head). x.shape) one)
            stands.shape_is
        | inr (inl stub) ↦ absurd (
            let one = (same_head stub.head head).1 in
            let kinds : Stub stub.scion ≡ Body = ap (λ (x : Head). x.kind) one in
            cc
            )
        | inr (inr forwarded) ↦ absurd (
            forward_word-filled home forwarded.address forwarded.forwards.sends.home_in_range
            (sym forwarded.forwards.sends.is ∙ may.unfilled forwarded.forwards.place forwarded.forwards.within)
            )
      ]

  -- nothing was done yet
  first_tied : Tied (first_sight start.began)
      (sight_of start.began.history (maps_at start.began) now (stage_at (first ∷ [])))
  first_tied =
      same_tied (first_sight start.began) start.began.history (maps_at start.began) now no_calls (stage_at (first ∷ []))
      (λ t. stage_none t (first ∷ []) (each (λ (u : View). own_stage u t ≡ None) (stage_idle first t refl)))
      (subst (λ (l : List ℕ). Tied (first_sight start.began)
      (record (first_sight start.began) { word = word_at (record { list = l; used = 0 }) })) may.space
      (tied_first (first_sight start.began) (λ t. refl)))

  pub begins : Kept start words (first ∷ [])
  begins = record {
    history = start.began.history;
    maps = maps_at start.began;
    size = may.size;
    legal = may.legal;
    holds = may.holds;
    first = may.first;
    few = may.few;
    bodies = bodies;
    maps_stand = record { homes = λ home. refl; begun = λ a n is. is; only = λ a n is. inl is };
    seats = λ i u e alive. each (SeatStands start.began (maps_at start.began) now start.began.history) first_stands i u
        e;
    away = λ i p u a e alive has. away_saw start.began.history (others_of start.began.threads) p a
        (ap (λ (z : View). get_elem? z.away p) (only i u e).1 ∙ has);
    spent = each (λ (u : View). u.parts ≡ 0 → u ≡ spent_view)
        (λ none. absurd (let some_ = may.some_thread in omega arith));
    distinct = λ i j p q t x y ex ey lx ly hp hq. (
      (only i x ex).0 ∙ sym (only j y ey).0,
      one_place start.began.threads p q t may.each_once (speaks i p t x ex hp) (speaks j q t y ey hq),
    );
    apart = λ i j x y ne ex ey lx ly. absurd (ne ((only i x ex).0 ∙ sym (only j y ey).0));
    whole = record { seat = 0; view = first; at = refl; live = may.some_thread; seen = refl };
    members = λ i p t u e alive has. (p, speaks i p t u e has);
    since = begins_self start.began.history;
    stay = λ told n from below. absurd (omega arith);
    strangers = λ t none. refl;
    sums = record {
      parts = sum_one (λ (u : View). u.parts);
      free = let s = sum_one (λ (u : View). u.claimed) in let f = may.free in omega arith;
      bound = let s = sum_one (λ (u : View). u.over) in let f = may.free in let r = may.room in omega arith;
      over = each (λ (u : View). u.over ≤ u.parts) (omega arith);
      won = none_filled now.forward start.began.forwards may.unfilled ∙ sym (sum_one (λ (u : View). u.won));
    };
    stop = record {
      bit = inl may.goes_on;
      caused = λ one. absurd (let off : get_or words 0 0 ≡ 0 = may.goes_on in omega arith);
      stopped = each (λ (u : View). u.stopped ≡ true → get_or words 0 0 ≡ 1) (λ is. absurd (false≢true is));
      spaced = each (λ (u : View). u.spaced ≡ true → start.began.size + 1 < now.free) (λ is. absurd (false≢true is));
      lacks = each (λ (u : View). u.over ≢ 0 → u.spaced ≡ true) (λ some_. absurd (some_ refl));
      sets = each (λ (u : View). has_cause u ≡ true → is_lacking u.doing ≡ false → get_or words 0 0 ≡ 1)
          (λ cause. absurd (false≢true cause));
      forwarded = each (λ (u : View). u.forwarded ≡ true → (p : ℕ) → p < start.began.forwards → now.forward p ≢ 0)
          (λ is. absurd (false≢true is));
    };
    tied = λ told. first_tied;
  }

pub opens : (start : Start) (words : List ℕ) → MayBegin start words → Rule start (opening words [] (first_view start))
opens start words may = begins start words may

-- the seat with which an epoch begins
pub first_seat : (id : TableId) (key start : Start) (words : List ℕ) (seat : Seat ℕ View) → MayBegin start words
    → key ≡ start → seat.table_id ≡ id → seat.me ≡ (first_view start, [])
    → IsSeat (record { id = id; start = key }) seat
first_seat id key start words seat may same table is =
    let first : View = first_view start in
    let knows : knows_of seat ≡ first = ap (λ (m : Me ℕ View). m.0) is in
    record {
      same = table;
      none = ap (λ (m : Me ℕ View). m.1) is;
      live = subst (λ (v : View). 0 < v.parts) (sym knows) may.some_thread;
      began = ap (λ (v : View). v.began) knows ∙ ap (λ (s : Start). s.began) (sym same);
      within = subst IsWithin (sym knows)
          (within start words (first ∷ []) (begins start words may) 0 first refl may.some_thread);
    }
