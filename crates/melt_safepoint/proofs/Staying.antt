-- The stale bits of a heap stay tied to the moments of a run, while its threads go on and when a collection is made.
use Rattle.std.specs.Prelude.{Some, slice_get, Contains}
use Rattle.std.proofs.Common.{◌≡◌, ◌⊎◌, ℕ, zero, suc, ◌+◌, ◌*◌, ◌<◌, ◌≤◌, List, [], ◌∷◌, ◌++◌, length}
use Rattle.std.proofs.Common.{true, refl, sym, ◌∙◌, ap, subst, arith, inl, inr}
use Rattle.std.proofs.lemmas.Bool.{cases_lt}
use Rattle.std.proofs.lemmas.List.{append-nil, take-append-le}
use Rattle.std.proofs.lemmas.Option.{same_Some, slice_get_within}
use Rattle.melt_model.proofs.Histories.{given_at-append, slice_get-append_left, slice_get-append_seam}
use Rattle.melt_model.specs.Alive.{Alive, Held}
use Rattle.melt_model.specs.History.{Shape as ModelShape, shape}
use Rattle.melt_model.specs.declared.config.Config.{Config}
use Rattle.melt_model.specs.declared.history.Entry.{Entry}
use Rattle.melt_model.specs.declared.history.Value.{Value}
use Rattle.melt_model.specs.declared.reports.Journal.{Journal}
use Rattle.melt_model.specs.declared.reports.Phase.{Phase}
use Rattle.melt_model.specs.declared.reports.Phase.TheVariants.{Inactive, Mark, Move}
use Rattle.melt_trace.specs.Script.{Script}
use Rattle.melt_scion.specs.Heaps.{OnDisk}
use Rattle.melt_scion.specs.Placed.{Maps, Placed}
use Rattle.melt_core.specs.StaleBits.{BitsTold, HasBit, HasNoBit, Passed, Sight, Used, sight}
use Rattle.melt_core.specs.Views.{InUse, Standing, View, maps, state, value}
use Rattle.melt_core.proofs.StaleBitsPassing.{gives_within, passed_grows}
use Rattle.melt_safepoint.specs.Bits.{BitsAfter, BitsAreSet, BitsStay, IsOnDisk, TakesAway}
use Rattle.melt_safepoint.specs.Cuts.{Cut, IsAwayBy, IsFreshBy, IsMarking, IsStaleBy, LastMarking, Moment, NoneMarked}
use Rattle.melt_safepoint.specs.Cuts.{Occasion, TakesAt, collection, collections_among, no_room, registers_at}
use Rattle.melt_safepoint.specs.Endings.{HaveMoments, TiedMoments}
use Rattle.melt_safepoint.specs.Staying.{KeepsBits}
use Rattle.melt_safepoint.specs.declared.thread.ThreadState.{ThreadState}
use Rattle.melt_safepoint.proofs.Cuts.{registers_by}
use Rattle.melt_safepoint.proofs.InOrder.{push_cases}

-- ---- one bit, and one last marking

-- each object has one address
abbrev pub OneAddress : Maps → Type 0
OneAddress m = (a b n : ℕ) → m.address a ≡ Some n → m.address b ≡ Some n → a ≡ b

-- so it has, where the words stand for the history
pub one_address : {disk : OnDisk} {v : View} → Standing true disk v → OneAddress (maps v)
one_address stands = (stands.holds.tells refl).one_address

-- and it has one bit
one_bit : (s : Sight) (n : ℕ) → OneAddress s.maps → HasBit s n → HasNoBit s n → ⊥
one_bit s n one stale fresh =
    let same : stale.address ≡ fresh.address = one stale.address fresh.address n stale.named fresh.named in
    let words : 3 + 256 * stale.shape.refs + 65536 * stale.shape.nums
    ≡ 1 + 256 * fresh.shape.refs + 65536 * fresh.shape.nums =
    sym stale.word ∙ (ap s.word same ∙ fresh.word) in
    omega (arith, words)

-- a collection marks, or does not
marks_or_not : (of : Occasion) → IsMarking of ⊎ (IsMarking of → ⊥)
marks_or_not (collection Inactive taken) = inr (λ marks. marks)
marks_or_not (collection Mark taken) = inl tt
marks_or_not (collection Move taken) = inl tt
marks_or_not (no_room t held_words need) = inr (λ marks. marks)

-- there is a last marking, or none
pub marked_or_none : (moments : List Moment) → NoneMarked moments ⊎ ((m : Moment) × LastMarking moments m)
marked_or_none [] = inl (λ i n at. absurd (let wrong : slice_get [] i ≡ Some n = at in cc))
marked_or_none (x ∷ moments) = elim (marked_or_none moments) [
  | inr some ↦ inr (
    some.0,
    record {
      place = suc some.1.place;
      at = some.1.at;
      marks = some.1.marks;
      none_later = λ i n after at marks. later_of x moments some.0 some.1 i n after at marks;
    },
  )
  | inl none ↦ elim (marks_or_not x.of) [
    | inl marks ↦ inr (
      x,
      record {
        place = 0;
        at = refl;
        marks = marks;
        none_later = λ i n after at marks. rest_of x moments none i n after at marks;
      },
    )
    | inr not ↦ inl (λ i n at marks. first_of x moments none not i n at marks)
  ]
] where
  rest_of : (x : Moment) (moments : List Moment) → NoneMarked moments → (i : ℕ) (n : Moment) → 0 < i
      → slice_get (x ∷ moments) i ≡ Some n → IsMarking n.of → ⊥
  rest_of x moments none zero n after at marks = absurd (omega (arith, after))
  rest_of x moments none (suc i) n after at marks = none i n at marks

  first_of : (x : Moment) (moments : List Moment) → NoneMarked moments → (IsMarking x.of → ⊥) → (i : ℕ) (n : Moment)
      → slice_get (x ∷ moments) i ≡ Some n → IsMarking n.of → ⊥
  first_of x moments none not zero n at marks =
      not (subst (λ (y : Moment). IsMarking y.of) (sym (same_Some x n at)) marks)
  first_of x moments none not (suc i) n at marks = none i n at marks

  later_of : (x : Moment) (moments : List Moment) (m : Moment) (last : LastMarking moments m) → (i : ℕ) (n : Moment)
      → suc last.place < i → slice_get (x ∷ moments) i ≡ Some n → IsMarking n.of → ⊥
  later_of x moments m last zero n after at marks = absurd (omega (arith, after))
  later_of x moments m last (suc i) n after at marks = last.none_later i n (omega (arith, after)) at marks

-- ---- the threads go on

-- what was passed from a place on was passed from an earlier one on
passed_from : (h : List Entry) (q r n : ℕ) → r ≤ q → Passed h q n → Passed h r n
passed_from h q r n less (inl used) = inl (record {
  place = used.place;
  from = omega (arith, less, used.from);
  gives = used.gives;
})
passed_from h q r n less (inr looked) = inr (record {
  place = looked.place;
  entry = looked.entry;
  stands = looked.stands;
  slot = looked.slot;
  found = looked.found;
  reads = looked.reads;
  moment = looked.moment;
  from = omega (arith, less, looked.from);
  to = looked.to;
  after = looked.after;
  held = looked.held;
})

-- what a longer history used from a place on, it used before its end, or since
used_since : (h more : List Entry) (q n : ℕ) → q ≤ length h → Used (h ++ more) q n
    → Used h q n ⊎ Used (h ++ more) (length h) n
used_since h more q n from used = elim (cases_lt used.place (length h)) [
  | inl below ↦ inl (record {
    place = used.place;
    from = used.from;
    gives = sym (given_at-append h more used.place below) ∙ used.gives;
  })
  | inr past ↦ inr (record { place = used.place; from = past; gives = used.gives })
]

module _ (script : Script) (h more : List Entry) (moments : List Moment)
    (past : (i : ℕ) (m : Moment) → slice_get moments i ≡ Some m → m.cut.entries ≤ length h) where
  -- the last marking of these moments lies before the end of the history
  within : (m : Moment) → LastMarking moments m → m.cut.entries ≤ length h
  within m last = past last.place m last.at

  -- what registers held at a moment is the same by a longer history
  held_then : (cut : Cut) (n : ℕ) → cut.entries ≤ length h → Held (registers_at script (h ++ more) cut) n
      → Held (registers_at script h cut) n
  held_then cut n fits held =
      subst (λ (k : List Entry). Held (registers_by script cut k) n) (take-append-le cut.entries h more fits) held

  held_still : (cut : Cut) (n : ℕ) → cut.entries ≤ length h → Held (registers_at script h cut) n
      → Held (registers_at script (h ++ more) cut) n
  held_still cut n fits held =
      subst (λ (k : List Entry). Held (registers_by script cut k) n) (sym (take-append-le cut.entries h more fits)) held

  -- what was stale and not used since is stale
  stale_on : (n : ℕ) → (Used (h ++ more) (length h) n → ⊥) → IsStaleBy script h moments n
      → IsStaleBy script (h ++ more) moments n
  stale_on n unused was = record {
    m = was.m;
    last = was.last;
    unheld = λ held. was.unheld (held_then was.m.cut n (within was.m was.last) held);
    unused = λ used. elim (used_since h more was.m.cut.entries n (within was.m was.last) used) [
      | inl before ↦ was.unused before
      | inr since ↦ unused since
    ];
  }

  -- what was fresh is
  fresh_on : (n : ℕ) → IsFreshBy script h moments n → IsFreshBy script (h ++ more) moments n
  fresh_on n (inl none) = inl none
  fresh_on n (inr (m, last, inl held)) = inr (m, last, inl (held_still m.cut n (within m last) held))
  fresh_on n (inr (m, last, inr passed)) = inr (m, last, inr (passed_grows h more m.cut.entries n passed))

  -- and so is what was passed since
  fresh_passed : (n : ℕ) → Passed (h ++ more) (length h) n → IsFreshBy script (h ++ more) moments n
  fresh_passed n passed = elim (marked_or_none moments) [
    | inl none ↦ inl none
    | inr some ↦ inr (
      some.0,
      some.1,
      inr (passed_from (h ++ more) (length h) some.0.cut.entries n (within some.0 some.1) passed),
    )
  ]

  -- what was away and not used since is
  away_on : (n : ℕ) → (Used (h ++ more) (length h) n → ⊥) → IsAwayBy h moments n → IsAwayBy (h ++ more) moments n
  away_on n unused was = record {
    m = was.m;
    place = was.place;
    at = was.at;
    phase = was.phase;
    taken = was.taken;
    of = was.of;
    contains = was.contains;
    unused = λ used. elim (used_since h more was.m.cut.entries n (past was.place was.m was.at) used) [
      | inl before ↦ was.unused before
      | inr since ↦ unused since
    ];
  }

-- what lies on the disk after an epoch did before it
lay_before : (u s : Sight) → BitsTold u s → (n : ℕ) → IsOnDisk s.maps n → IsOnDisk u.maps n
lay_before u s bits n there = record {
  home = there.home;
  named = sym (bits.homes there.home) ∙ there.named;
  nowhere = λ in_use. there.nowhere (bits.stays n in_use);
}

-- an epoch of a run that is told keeps bits tied to the moments of the run
pub keeps_on : (script : Script) (moments : List Moment) (u s : Sight) (more : List Entry) → s.log ≡ u.log ++ more
    → ((i : ℕ) (m : Moment) → slice_get moments i ≡ Some m → m.cut.entries ≤ length u.log)
    → OneAddress s.maps → BitsTold u s → KeepsBits script moments u → KeepsBits script moments s
keeps_on script moments u s more log past one bits keeps =
    let then_ : (n : ℕ) → Used (u.log ++ more) (length u.log) n → Used s.log (length u.log) n =
    λ n used. subst (λ (h : List Entry). Used h (length u.log) n) (sym log) used in
    record {
      stale = λ n bit. subst (λ (h : List Entry). IsStaleBy script h moments n) (sym log)
          (stale_on script u.log more moments past n
          (λ used. one_bit s n one bit
          (bits.used n (bit.address, bit.named) (then_ n used))) (keeps.stale n (bits.stale n bit)));
      fresh = λ n bit. subst (λ (h : List Entry). IsFreshBy script h moments n) (sym log)
          (elim (bits.since n bit) [
            | inl old ↦ fresh_on script u.log more moments past n (keeps.fresh n old)
            | inr passed ↦ fresh_passed script u.log more moments past n
                (subst (λ (h : List Entry). Passed h (length u.log) n) log passed)
          ]);
      away = λ n there. subst (λ (h : List Entry). IsAwayBy h moments n) (sym log)
          (away_on script u.log more moments past n (λ used. there.nowhere (bits.in_use n (then_ n used)))
          (keeps.away n (lay_before u s bits n there)));
    }

-- so a run has tied moments after an epoch, where it has these moments then
abbrev pub tied_grown : {script : Script} {u s : Sight} {states : List ThreadState} (after : List ThreadState) {config : Config}
    {journal : List Journal} (more : List Entry) → s.log ≡ u.log ++ more → OneAddress s.maps → BitsTold u s
    → (tied : TiedMoments script u states config journal)
    → HaveMoments script s.log after config journal tied.moments → TiedMoments script s after config journal
tied_grown {script} {u} {s} after more log one bits tied have = record {
  moments = tied.moments;
  have = have;
  bits = keeps_on script tied.moments u s more log (λ i m at. (tied.have.past i m at).entries) one bits tied.bits;
}

-- and so has one in which nothing was written into the history
abbrev pub tied_still : {script : Script} {u s : Sight} {states : List ThreadState} {config : Config} {journal : List Journal}
    → s.log ≡ u.log → OneAddress s.maps → BitsTold u s → TiedMoments script u states config journal
    → TiedMoments script s states config journal
tied_still {script} {u} {s} {states} {config} {journal} log one bits tied =
    tied_grown states [] (log ∙ sym (append-nil u.log)) one bits tied
    (subst (λ (h : List Entry). HaveMoments script h states config journal tied.moments) (sym log) tied.have)

-- ---- a moment more

-- the last marking of these moments is that of these and one at which nothing marked
last_more : (moments : List Moment) (x m : Moment) → (IsMarking x.of → ⊥) → LastMarking moments m
    → LastMarking (moments ++ x ∷ []) m
last_more moments x m not last = record {
  place = last.place;
  at = slice_get-append_left moments (x ∷ []) last.place (slice_get_within moments last.place m last.at) ∙ last.at;
  marks = last.marks;
  none_later = λ i n after at marks. elim (push_cases moments x i n at) [
    | inl old ↦ last.none_later i n after old.1 marks
    | inr new ↦ not (subst (λ (y : Moment). IsMarking y.of) (sym new.1) marks)
  ];
}

-- and one at which a collection marked is the last of these and it
last_new : (moments : List Moment) (x : Moment) → IsMarking x.of → LastMarking (moments ++ x ∷ []) x
last_new moments x marks = record {
  place = length moments;
  at = slice_get-append_seam moments x [];
  marks = marks;
  none_later = λ i n after at marks. elim (push_cases moments x i n at) [
    | inl old ↦ absurd (omega (arith, after, old.0))
    | inr new ↦ absurd (omega (arith, after, new.0))
  ];
}

none_more : (moments : List Moment) (x : Moment) → (IsMarking x.of → ⊥) → NoneMarked moments
    → NoneMarked (moments ++ x ∷ [])
none_more moments x not none = λ i n at marks. elim (push_cases moments x i n at) [
  | inl old ↦ none i n old.1 marks
  | inr new ↦ not (subst (λ (y : Moment). IsMarking y.of) (sym new.1) marks)
]

module _ (script : Script) (h : List Entry) (moments : List Moment) (x : Moment) (n : ℕ) where
  away_more : IsAwayBy h moments n → IsAwayBy h (moments ++ x ∷ []) n
  away_more was = record {
    m = was.m;
    place = was.place;
    at = slice_get-append_left moments (x ∷ []) was.place (slice_get_within moments was.place was.m was.at) ∙ was.at;
    phase = was.phase;
    taken = was.taken;
    of = was.of;
    contains = was.contains;
    unused = was.unused;
  }

  stale_more : (IsMarking x.of → ⊥) → IsStaleBy script h moments n → IsStaleBy script h (moments ++ x ∷ []) n
  stale_more not was = record {
    m = was.m;
    last = last_more moments x was.m not was.last;
    unheld = was.unheld;
    unused = was.unused;
  }

  fresh_more : (IsMarking x.of → ⊥) → IsFreshBy script h moments n → IsFreshBy script h (moments ++ x ∷ []) n
  fresh_more not (inl none) = inl (none_more moments x not none)
  fresh_more not (inr (m, last, why)) = inr (m, last_more moments x m not last, why)

  -- nothing was used since the end of a history
  none_used : Used h (length h) n → ⊥
  none_used used = omega (arith, used.from, gives_within h used.place n used.gives)

-- at a moment that is no collection all stays
pub keeps_more : (script : Script) (moments : List Moment) (x : Moment) (s : Sight) → (IsMarking x.of → ⊥)
    → KeepsBits script moments s → KeepsBits script (moments ++ x ∷ []) s
keeps_more script moments x s not keeps = record {
  stale = λ n bit. stale_more script s.log moments x n not (keeps.stale n bit);
  fresh = λ n bit. fresh_more script s.log moments x n not (keeps.fresh n bit);
  away = λ n there. away_more script s.log moments x n (keeps.away n there);
}

-- ---- a collection

-- what registers hold by a history is what they hold
held_by : (a b : ℕ → ℕ → Value) → ((t r : ℕ) → a t r ≡ b t r) → (n : ℕ) → Held a n → Held b n
held_by a b same n held = record {
  thread = held.thread;
  register = held.register;
  holds = sym (same held.thread held.register) ∙ held.holds;
}

alive_by : (h : List Entry) (a b : ℕ → ℕ → Value) → ((t r : ℕ) → a t r ≡ b t r) → (n : ℕ) → Alive h a n → Alive h b n
alive_by h a b same n (Alive.in_register k held) = Alive.in_register k (held_by a b same k held)
alive_by h a b same n (Alive.in_global g k at) = Alive.in_global g k at
alive_by h a b same n (Alive.in_slot m k i alive at) = Alive.in_slot m k i (alive_by h a b same m alive) at

-- the bits after a collection that marks nothing, and after one that marks
by_phase : (phase : Phase) (taken : List ℕ) (v w : View) → BitsAfter phase v w
    → ((IsMarking (collection phase taken) → ⊥) × BitsStay v w) ⊎ (IsMarking (collection phase taken) × BitsAreSet v w)
by_phase Inactive taken v w bits = inl (λ marks. marks, bits)
by_phase Mark taken v w bits = inr (tt, bits)
by_phase Move taken v w bits = inr (tt, bits)

module _ (script : Script) (moments : List Moment) (cut : Cut) (phase : Phase) (v w : View) (entry : Journal)
    (ends : cut.entries ≡ length v.log) (log : w.log ≡ v.log)
    (same : (t r : ℕ) → registers_at script v.log cut t r ≡ value v t r)
    (keeps : KeepsBits script moments (sight v)) (bits : BitsAfter phase v w) (takes : TakesAway phase v w entry) where
  abbrev made : Moment
  made = record { cut = cut; of = collection phase takes.taken }

  -- what has the bit behind a marking is stale since then
  stale_set : BitsAreSet v w → IsMarking made.of → (n : ℕ) → HasBit (sight w) n
      → IsStaleBy script v.log (moments ++ made ∷ []) n
  stale_set set marks n bit = record {
    m = made;
    last = last_new moments made marks;
    unheld = λ held. set.stale n bit
        (held_by (registers_at script v.log cut) (value v) same n held);
    unused = λ used. none_used script v.log moments made n (subst (λ (k : ℕ). Used v.log k n) ends used);
  }

  fresh_set : BitsAreSet v w → IsMarking made.of → (n : ℕ) → HasNoBit (sight w) n
      → IsFreshBy script v.log (moments ++ made ∷ []) n
  fresh_set set marks n bit =
      inr (
        made,
        last_new moments made marks,
        inl (held_by (value v) (registers_at script v.log cut) (λ t r. sym (same t r)) n (set.fresh n bit)),
      )

  -- what lies on the disk was taken away, now or before
  away_now : (n : ℕ) → IsOnDisk (maps w) n → IsAwayBy v.log (moments ++ made ∷ []) n
  away_now n there = elim (takes.away n there) [
    | inl old ↦ away_more script v.log moments made n (keeps.away n old)
    | inr new ↦ record {
      m = made;
      place = length moments;
      at = slice_get-append_seam moments made [];
      phase = phase;
      taken = takes.taken;
      of = refl;
      contains = new;
      unused = λ used. none_used script v.log moments made n (subst (λ (k : ℕ). Used v.log k n) ends used);
    }
  ]

  -- bits stay tied to the moments, of which that of the collection is the last
  pub keeps_made : KeepsBits script (moments ++ made ∷ []) (sight w)
  keeps_made =
      let stale_by : (n : ℕ) → IsStaleBy script v.log (moments ++ made ∷ []) n
      → IsStaleBy script w.log (moments ++ made ∷ []) n =
      λ n is. subst (λ (h : List Entry). IsStaleBy script h (moments ++ made ∷ []) n) (sym log) is in
      let fresh_by : (n : ℕ) → IsFreshBy script v.log (moments ++ made ∷ []) n
      → IsFreshBy script w.log (moments ++ made ∷ []) n =
      λ n is. subst (λ (h : List Entry). IsFreshBy script h (moments ++ made ∷ []) n) (sym log) is in
      let away_by : (n : ℕ) → IsOnDisk (maps w) n → IsAwayBy w.log (moments ++ made ∷ []) n =
      λ n there. subst (λ (h : List Entry). IsAwayBy h (moments ++ made ∷ []) n) (sym log) (away_now n there) in
      elim (by_phase phase takes.taken v w bits) [
        | inl stay ↦ record {
          stale = λ n bit. stale_by n (stale_more script v.log moments made n stay.0 (keeps.stale n (stay.1.stale n bit)));
          fresh = λ n bit. fresh_by n (fresh_more script v.log moments made n stay.0 (keeps.fresh n (stay.1.fresh n bit)));
          away = away_by;
        }
        | inr set ↦ record {
          stale = λ n bit. stale_by n (stale_set set.1 set.0 n bit);
          fresh = λ n bit. fresh_by n (fresh_set set.1 set.0 n bit);
          away = away_by;
        }
      ]

  -- and what it took away is told by them
  pub takes_at : (journal : List Journal) → collections_among moments ≡ length journal → entry.phase ≡ phase
      → ((n : ℕ) → Alive v.log (value v) n → InUse (maps v) n ⊎ IsOnDisk (maps v) n)
      → ((n : ℕ) → InUse (maps v) n → HasBit (sight v) n ⊎ HasNoBit (sight v) n)
      → TakesAt script v.log (journal ++ entry ∷ []) moments cut phase takes.taken
  takes_at journal all of_phase found has_bit = record {
    entry = entry;
    written = subst (λ (k : ℕ). slice_get (journal ++ entry ∷ []) k ≡ Some entry) (sym all)
        (slice_get-append_seam journal entry []);
    of_phase = of_phase;
    counts = takes.counts;
    once = takes.once;
    only_moves = takes.only_move;
    unheld = λ n taken held.
        (takes.each n taken).unheld (held_by (registers_at script v.log cut) (value v) same n held);
    stale = λ n taken. keeps.stale n (takes.each n taken).stale;
    stays = λ n moves alive not.
        let lives : Alive v.log (value v) n = alive_by v.log (registers_at script v.log cut) (value v) same n alive in
        elim (found n lives) [
          | inr away ↦ inr (inr (keeps.away n away))
          | inl in_use ↦ elim (has_bit n in_use) [
            | inr fresh ↦ inr (inl (keeps.fresh n fresh))
            | inl stale ↦ elim (takes.others n in_use lives) [
              | inr taken ↦ absurd (not taken)
              | inl still ↦ inl (held_by (value v) (registers_at script v.log cut) (λ t r. sym (same t r)) n
                  (takes.leaves n moves still stale))
            ]
          ]
        ];
  }

-- ---- the beginning

-- where nothing is in use and nothing on the disk, nothing is tied
keeps_none : (script : Script) (s : Sight) → ((n : ℕ) → InUse s.maps n → ⊥)
    → ((home n : ℕ) → s.maps.home home ≡ Some n → ⊥) → KeepsBits script [] s
keeps_none script s none no_home = record {
  stale = λ n bit. absurd (none n (bit.address, bit.named));
  fresh = λ n bit. absurd (none n (bit.address, bit.named));
  away = λ n there. absurd (no_home there.home n there.named);
}

-- no object has a shape in an empty history
no_shape : (h : List Entry) (n : ℕ) (z : ModelShape) → h ≡ [] → shape h n ≡ Some z → ⊥
no_shape [] n z empty is = cc
no_shape (e ∷ h) n z empty is = absurd (cc)

-- and so it is at the beginning
pub keeps_begin : (script : Script) (disk : OnDisk) (v : View) → Placed v.log (value v) (maps v) (state disk v)
    → v.log ≡ [] → KeepsBits script [] (sight v)
keeps_begin script disk v placed empty = keeps_none script (sight v)
    (λ n in_use.
    let object = placed.formed.words.objects in_use.0 n in_use.1 in
    no_shape v.log n _ empty (placed.tells.shapes in_use.0 n object.0 in_use.1 object.1.starts))
    (λ home n named. no_shape v.log n _ empty (placed.tells.homes home n named).shape_is)
