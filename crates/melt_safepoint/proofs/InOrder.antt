-- The moments of a run stay in their order while it goes on, and a new one comes after all others.
use Rattle.std.specs.Prelude.{if◌then◌else◌, Some, slice_get}
use Rattle.std.specs.List.{sum_by}
use Rattle.std.proofs.Common.{◌≡◌, ℕ, ◌+◌, ◌*◌, ◌<◌, ◌≤◌, true, false, List, [], ◌∷◌, ◌++◌, length, take}
use Rattle.std.proofs.Common.{refl, sym, ◌∙◌, ap, subst, arith, length-append, ◌⊎◌, inl, inr}
use Rattle.std.proofs.Math.Seq.{take-append_seam}
use Rattle.std.proofs.Math.ListN.{set}
use Rattle.std.proofs.lemmas.Bool.{cases_eq, cases_lt}
use Rattle.std.proofs.lemmas.List.{append-nil, take-append-le}
use Rattle.std.proofs.lemmas.List.Sums.{sum_by-append, sum_by-cons}
use Rattle.std.proofs.lemmas.Option.{slice_get_cases, slice_get_within, same_Some}
use Rattle.melt_model.proofs.Histories.{slice_get-append_left, slice_get-append_seam}
use Rattle.melt_model.specs.declared.config.Config.{Config}
use Rattle.melt_model.specs.declared.history.Entry.{Entry}
use Rattle.melt_model.specs.declared.operations.Op.{Op}
use Rattle.melt_model.specs.declared.operations.Op.TheVariants.{Collect}
use Rattle.melt_model.specs.declared.operations.Reply.{Reply}
use Rattle.melt_model.specs.declared.reports.Journal.{Journal}
use Rattle.melt_model.specs.declared.reports.Phase.{Phase}
use Rattle.melt_model.specs.declared.reports.ThreadEnd.TheVariants as end
use Rattle.melt_trace.specs.Script.{Script, operations}
use Rattle.melt_core.specs.Stages.{LooksAtStop}
use Rattle.melt_core.specs.StaleBits.{Sight}
use Rattle.melt_safepoint.specs.declared.thread.Mode.{Mode}
use Rattle.melt_safepoint.specs.declared.thread.Mode.TheVariants.{Ended}
use Rattle.melt_safepoint.specs.declared.thread.ThreadState.{ThreadState}
use Rattle.melt_safepoint.specs.Asked.{collections}
use Rattle.melt_safepoint.specs.Cuts.{AreMoments, CountsBy, Cut, IsAmong, IsCut, IsMoment, LacksRoom, Moment, NotAfter}
use Rattle.melt_safepoint.specs.Cuts.{IsDue, IsSafepoint, Occasion, TakesAt, history_at}
use Rattle.melt_safepoint.specs.Cuts.{collection, collections_among, due_by, is_collection, no_room, replies_at}
use Rattle.melt_safepoint.specs.Cuts.{replies_by}
use Rattle.melt_safepoint.specs.Endings.{GoneIn, HaveMoments, SomeMoments, TiedMoments, gone_in, has_gone, now}
use Rattle.melt_safepoint.specs.Modes.{HadNoRoom, IsEnded}
use Rattle.melt_safepoint.specs.Threads.{Later, replies_of}
use Rattle.melt_safepoint.proofs.Asked.{asked_same, collections_same}
use Rattle.melt_safepoint.proofs.Cuts.{IsCollectedAt_later, IsCut_later, LacksRoom_later, gone_here}
use Rattle.melt_safepoint.proofs.Cuts.{gone_now, gone_past, registers_by, replies_here, replies_past}
use Rattle.melt_safepoint.proofs.Threads.{get_set_other, get_set_same, later_set, replies_other, replies_same}

-- ---- one moment after another

not_after_trans : {one two three : Cut} → NotAfter one two → NotAfter two three → NotAfter one three
not_after_trans first second = record {
  entries = omega (arith, first.entries, second.entries);
  replies = λ t. omega (arith, first.replies t, second.replies t);
  ended = λ t over.
      let then_ = first.ended t over in
      let last = second.ended t then_.0 in
      (last.0, last.1 ∙ then_.1);
}

-- a run goes on from one moment to a later one
now_later : (log more : List Entry) {states after : List ThreadState} → Later states after
    → NotAfter (now log states) (now (log ++ more) after)
now_later log more {states} {after} later = record {
  entries = omega (arith, length-append log more);
  replies = λ t.
      let extra : (rs : List Reply) × (replies_of after t ≡ replies_of states t ++ rs) = later.replies t in
      omega (arith, ap length extra.1, length-append (replies_of states t) extra.0);
  ended = λ t over. elim (slice_get_cases states t).1 [
    | inl w ↦
        let is : IsEnded w.0.mode = gone_now log states t w.0 w.2 over in
        let there = later.ended t w.0 w.2 is in (
          gone_here after t w.0 there ∙ (sym (gone_here states t w.0 w.2) ∙ over),
          ap length (replies_here after t w.0 there ∙ sym (replies_here states t w.0 w.2)),
        )
    | inr w ↦ (
      gone_past after t (omega (arith, later.count, w.0)),
      ap length (replies_past after t (omega (arith, later.count, w.0)) ∙ sym (replies_past states t w.0)),
    )
  ];
}

-- the threads that had ended at a moment that is past have ended
gone_then : (log : List Entry) (states : List ThreadState) (cut : Cut) → NotAfter cut (now log states)
    → GoneIn states cut
gone_then log states cut past = λ u s at over. gone_now log states u s at (past.ended u over).0

-- ---- what is said of a moment stays so

module _ (script : Script) (log : List Entry) (config : Config) (journal : List Journal) (made : ℕ) (cut : Cut) where
  is_cut_of : (replies : ℕ → List Reply) (of : Occasion) → IsMoment script log replies config journal made cut of
      → IsCut script log replies config cut
  is_cut_of replies (collection phase taken) is = is.0
  is_cut_of replies (no_room t held_words need) is = is.is_cut.is

  moment_later : (more : List Entry) {states after : List ThreadState} → Later states after → GoneIn states cut
      → (of : Occasion)
      → ((t held_words need : ℕ) → of ≡ no_room t held_words need → replies_of after t ≡ replies_of states t)
      → IsMoment script log (replies_of states) config journal made cut of
      → IsMoment script (log ++ more) (replies_of after) config journal made cut of
  moment_later more later gone (collection phase taken) same is =
      (IsCut_later more later gone is.0, (is.1.0, is.1.1, IsCollectedAt_later more is.0.within is.1.2))
  moment_later more later gone (no_room t held_words need) same is =
      LacksRoom_later more later gone (same t held_words need refl) is

  -- and by a longer journal
  moment_longer : (replies : ℕ → List Reply) (later : List Journal)
      → ((k : ℕ) (e : Journal) → slice_get journal k ≡ Some e → slice_get later k ≡ Some e) → (of : Occasion)
      → IsMoment script log replies config journal made cut of → IsMoment script log replies config later made cut of
  moment_longer replies later longer (collection phase taken) is = (is.0, (is.1.0, longer made is.1.0 is.1.1, is.1.2))
  moment_longer replies later longer (no_room t held_words need) is = is

-- what is counted at a moment, by other lists of the same replies
pub counted_same : (script : Script) (config : Config) (a b : ℕ → List Reply) (cut : Cut) {made : ℕ}
    → ((t : ℕ) → replies_at a cut t ≡ replies_at b cut t) → CountsBy script config a cut made
    → CountsBy script config b cut made
counted_same script config a b cut {made} same counts =
    let n : ℕ = length script.programs in
    let all : collections script config (replies_at a cut) n ≡ collections script config (replies_at b cut) n =
    collections_same script config (replies_at a cut) (replies_at b cut) same n in
    record {
      asked = subst (λ (k : ℕ). k ≤ made) (asked_same script (replies_at a cut) (replies_at b cut) same n)
          counts.asked;
      collected = subst (λ (k : ℕ). k ≤ made + due_by config cut n) all counts.collected;
      bounded = subst (λ (k : ℕ). made ≤ k + 3 * (replies_by cut n + n)) all counts.bounded;
    }

-- and the replies that threads had then are a front of those that they have later
replies_later : {states after : List ThreadState} (cut : Cut) → Later states after
    → ((t : ℕ) → cut.replies t ≤ length (replies_of states t)) → (t : ℕ)
    → replies_at (replies_of states) cut t ≡ replies_at (replies_of after) cut t
replies_later {states} {after} cut later few t =
    let extra : (rs : List Reply) × (replies_of after t ≡ replies_of states t ++ rs) = later.replies t in
    sym (ap (take (cut.replies t)) extra.1
    ∙ take-append-le (cut.replies t) (replies_of states t) extra.0 (few t))

had_no_room : (mode : Mode) (held_words need : ℕ) → mode ≡ Ended (end.OutOfHeap held_words need) → HadNoRoom mode
had_no_room mode held_words need is = subst HadNoRoom (sym is) tt

has_ended : (mode : Mode) (held_words need : ℕ) → mode ≡ Ended (end.OutOfHeap held_words need) → IsEnded mode
has_ended mode held_words need is = subst IsEnded (sym is) tt

-- none has ended meanwhile for want of room
abbrev pub NoneForRoom : List ThreadState → List ThreadState → Type 0
NoneForRoom states after =
    (t : ℕ) (s : ThreadState) → slice_get after t ≡ Some s → HadNoRoom s.mode → slice_get states t ≡ Some s

-- a thread that was set has not
pub none_set : (states : List ThreadState) (t : ℕ) (s after : ThreadState) → slice_get states t ≡ Some s
    → (HadNoRoom after.mode → ⊥) → NoneForRoom states (set states t after)
none_set states t s after at room u x there none = elim (cases_eq u t) [
  | inl same ↦
      let is : after ≡ x = same_Some after x (sym (get_set_same states t s after at)
      ∙ (ap (slice_get (set states t after)) (sym same) ∙ there)) in
      absurd (room (subst (λ (y : ThreadState). HadNoRoom y.mode) (sym is) none))
  | inr other ↦ sym (get_set_other states t u after other) ∙ there
]

-- a thread waits at the moment, by the history at the moment
abbrev WaitsBy : Script → Config → Cut → ℕ → List Entry → Type 0
WaitsBy script config cut t h = IsDue config (cut.replies t)
    ⊎ ((op : Op) × (slice_get (operations script t) (cut.replies t) ≡ Some op)
    × ((op ≡ Collect) ⊎ LooksAtStop (registers_by script cut h t) op))

-- a safepoint stays one
safe_later : {script : Script} (log more : List Entry) {config : Config} {moments : List Moment}
    (cut : Cut) → cut.entries ≤ length log → IsSafepoint script log config moments cut
    → IsSafepoint script (log ++ more) config moments cut
safe_later {script} log more {config} cut within safe t alive =
    let history : take cut.entries (log ++ more) ≡ take cut.entries log = take-append-le cut.entries log more within in
    elim (safe t alive) [
      | inl waits ↦ inl (subst (WaitsBy script config cut t) (sym history) waits)
      | inr had ↦ inr had
    ]

-- what a collection took away is told by a longer journal too
takes_longer : {script : Script} {h : List Entry} {journal : List Journal} (later : List Journal)
    {earlier : List Moment} {cut : Cut} {phase : Phase} {taken : List ℕ}
    → ((k : ℕ) (e : Journal) → slice_get journal k ≡ Some e → slice_get later k ≡ Some e)
    → TakesAt script h journal earlier cut phase taken → TakesAt script h later earlier cut phase taken
takes_longer later {earlier} longer takes = record {
  entry = takes.entry;
  written = longer (collections_among earlier) takes.entry takes.written;
  of_phase = takes.of_phase;
  counts = takes.counts;
  once = takes.once;
  only_moves = takes.only_moves;
  unheld = takes.unheld;
  stale = takes.stale;
  stays = takes.stays;
}

-- moments stay moments, where the threads that had no room then get no further reply
are_later : {script : Script} {log : List Entry} (more : List Entry) {states after : List ThreadState} {config : Config}
    {journal : List Journal} {moments : List Moment} → Later states after
    → ((i : ℕ) (m : Moment) → slice_get moments i ≡ Some m → NotAfter m.cut (now log states))
    → ((t held_words need : ℕ) → IsAmong moments (no_room t held_words need)
    → replies_of after t ≡ replies_of states t)
    → AreMoments script log (replies_of states) config journal moments
    → AreMoments script (log ++ more) (replies_of after) config journal moments
are_later {script} {log} more {states} {after} {config} {journal} {moments} later past same are = record {
  each = λ i m at. moment_later script log config journal (collections_among (take i moments)) m.cut more later
      (gone_then log states m.cut (past i m at)) m.of
      (λ t held_words need is. same t held_words need (i, (m, at, is))) (are.each i m at);
  safe = λ i m at. safe_later log more m.cut (past i m at).entries (are.safe i m at);
  counts = λ i m at. counted_same script config (replies_of states) (replies_of after) m.cut
      (replies_later m.cut later (is_cut_of script log config journal (collections_among (take i moments)) m.cut
      (replies_of states) m.of (are.each i m at)).few) (are.counts i m at);
  takes = λ i m phase taken at of.
      subst (λ (h : List Entry). TakesAt script h journal (take i moments) m.cut phase taken)
      (sym (take-append-le m.cut.entries log more (past i m at).entries)) (are.takes i m phase taken at of);
  order = are.order;
  gone = are.gone;
  all = are.all;
}

-- the moments of a run that are tied to its stale bits are moments of it
pub some_of : {script : Script} {s : Sight} {states : List ThreadState} {config : Config} {journal : List Journal}
    → TiedMoments script s states config journal → SomeMoments script s.log states config journal
some_of tied = (tied.moments, tied.have)

-- they are moments of a run of which other threads are told, where they are moments of it
pub tied_by : {script : Script} {s : Sight} {states : List ThreadState} {config : Config} {journal : List Journal}
    (after : List ThreadState) (tied : TiedMoments script s states config journal)
    → HaveMoments script s.log after config journal tied.moments → TiedMoments script s after config journal
tied_by after tied have = record { moments = tied.moments; have = have; bits = tied.bits }

pub HaveMoments_later : (script : Script) (log more : List Entry) {states after : List ThreadState} (config : Config)
    (journal : List Journal) → Later states after → NoneForRoom states after
    → {moments : List Moment} → HaveMoments script log states config journal moments
    → HaveMoments script (log ++ more) after config journal moments
HaveMoments_later script log more {states} {after} config journal later room have = record {
  are = are_later more later have.past
      (λ t held_words need among.
      let x = have.real t held_words need among in
      replies_here after t x.0 (later.ended t x.0 x.1 (has_ended x.0.mode held_words need x.2))
      ∙ sym (replies_here states t x.0 x.1)) have.are;
  past = λ i m at. not_after_trans (have.past i m at) (now_later log more later);
  gone = λ t held_words need s at is.
      have.gone t held_words need s (room t s at (had_no_room s.mode held_words need is)) is;
  real = λ t held_words need among.
      let x = have.real t held_words need among in
      (x.0, later.ended t x.0 x.1 (has_ended x.0.mode held_words need x.2), x.2);
}

-- ---- one moment more

-- the last element of a list, or one before it
pub push_cases : (xs : List Moment) (m : Moment) (i : ℕ) (x : Moment) → slice_get (xs ++ m ∷ []) i ≡ Some x
    → ((i < length xs) × (slice_get xs i ≡ Some x)) ⊎ ((i ≡ length xs) × (m ≡ x))
push_cases xs m i x at = elim (cases_lt i (length xs)) [
  | inl below ↦ inl (below, sym (slice_get-append_left xs (m ∷ []) i below) ∙ at)
  | inr past ↦
      let within : i < length (xs ++ m ∷ []) = slice_get_within (xs ++ m ∷ []) i x at in
      let is : i ≡ length xs = omega (arith, past, within, length-append xs (m ∷ [])) in
      inr (
        is,
        same_Some m x (sym (slice_get-append_seam xs m [])
            ∙ (ap (slice_get (xs ++ m ∷ [])) (sym is) ∙ at)),
      )
]

pub count_push : (moments : List Moment) (m : Moment)
    → collections_among (moments ++ m ∷ [])
    ≡ collections_among moments + (if is_collection m.of then 1 else 0)
count_push moments m =
    let f : Moment → ℕ = λ (x : Moment). if is_collection x.of then 1 else 0 in
    let one : sum_by f (m ∷ []) ≡ f m + 0 = sum_by-cons f m [] in
    omega (arith, sum_by-append f moments (m ∷ []), one)

pub moments_push : {script : Script} {log : List Entry} {replies : ℕ → List Reply} {config : Config}
    (journal later : List Journal) {moments : List Moment} (m : Moment)
    → AreMoments script log replies config journal moments
    → ((k : ℕ) (e : Journal) → slice_get journal k ≡ Some e → slice_get later k ≡ Some e)
    → IsMoment script log replies config later (length journal) m.cut m.of
    → IsSafepoint script log config moments m.cut → CountsBy script config replies m.cut (length journal)
    → ((phase : Phase) (taken : List ℕ) → m.of ≡ collection phase taken
    → TakesAt script (history_at log m.cut) later moments m.cut phase taken)
    → ((i : ℕ) (x : Moment) → slice_get moments i ≡ Some x → NotAfter x.cut m.cut)
    → ((t held_words need : ℕ) → IsAmong moments (no_room t held_words need) → m.cut.ended t ≡ true)
    → collections_among (moments ++ m ∷ []) ≡ length later
    → AreMoments script log replies config later (moments ++ m ∷ [])
moments_push {script} {log} {replies} {config} journal later {moments} m are longer is safe counts takes past gone all =
    let before : (i : ℕ) → i < length moments
    → collections_among (take i moments) ≡ collections_among (take i (moments ++ m ∷ [])) =
    λ i below. ap collections_among (sym (take-append-le i moments (m ∷ []) (omega (arith, below)))) in
    let here : (i : ℕ) → i ≡ length moments
    → length journal ≡ collections_among (take i (moments ++ m ∷ [])) =
    λ i last.
    sym are.all ∙ ap collections_among (sym (ap (λ (k : ℕ). take k (moments ++ m ∷ [])) last
    ∙ take-append_seam moments (m ∷ []))) in
    record {
      each = λ i x at. elim (push_cases moments m i x at) [
        | inl old ↦ subst (λ (k : ℕ). IsMoment script log replies config later k x.cut x.of) (before i old.0)
            (moment_longer script log config journal (collections_among (take i moments)) x.cut replies later longer x.of
            (are.each i x old.1))
        | inr new ↦ subst (λ (y : Moment). IsMoment script log replies config later
            (collections_among (take i (moments ++ m ∷ []))) y.cut y.of) new.1
            (subst (λ (k : ℕ). IsMoment script log replies config later k m.cut m.of) (here i new.0) is)
      ];
      safe = λ i x at. elim (push_cases moments m i x at) [
        | inl old ↦ subst (λ (ms : List Moment). IsSafepoint script log config ms x.cut)
            (sym (take-append-le i moments (m ∷ []) (omega (arith, old.0)))) (are.safe i x old.1)
        | inr new ↦ subst (λ (y : Moment). IsSafepoint script log config (take i (moments ++ m ∷ [])) y.cut) new.1
            (subst (λ (ms : List Moment). IsSafepoint script log config ms m.cut)
            (sym (ap (λ (k : ℕ). take k (moments ++ m ∷ [])) new.0 ∙ take-append_seam moments (m ∷ []))) safe)
      ];
      counts = λ i x at. elim (push_cases moments m i x at) [
        | inl old ↦ subst (λ (k : ℕ). CountsBy script config replies x.cut k) (before i old.0) (are.counts i x old.1)
        | inr new ↦ subst (λ (y : Moment). CountsBy script config replies y.cut
            (collections_among (take i (moments ++ m ∷ [])))) new.1
            (subst (λ (k : ℕ). CountsBy script config replies m.cut k) (here i new.0) counts)
      ];
      takes = λ i x phase taken at of. elim (push_cases moments m i x at) [
        | inl old ↦ subst (λ (ms : List Moment). TakesAt script (history_at log x.cut) later ms x.cut phase taken)
            (sym (take-append-le i moments (m ∷ []) (omega (arith, old.0))))
            (takes_longer later longer (are.takes i x phase taken old.1 of))
        | inr new ↦ subst (λ (y : Moment). TakesAt script (history_at log y.cut) later (take i (moments ++ m ∷ [])) y.cut
            phase taken) new.1
            (subst (λ (ms : List Moment). TakesAt script (history_at log m.cut) later ms m.cut phase taken)
            (sym (ap (λ (k : ℕ). take k (moments ++ m ∷ [])) new.0 ∙ take-append_seam moments (m ∷ [])))
            (takes phase taken (ap (λ (y : Moment). y.of) new.1 ∙ of)))
      ];
      order = λ i j x y less at there. elim (push_cases moments m j y there) [
        | inl old ↦ are.order i j x y less
            (sym (slice_get-append_left moments (m ∷ []) i (omega (arith, less, old.0))) ∙ at) old.1
        | inr new ↦ subst (λ (z : Moment). NotAfter x.cut z.cut) new.1
            (past i x (sym (slice_get-append_left moments (m ∷ []) i (omega (arith, less, new.0))) ∙ at))
      ];
      gone = λ i j x y t held_words need less at of there.
          let old_at : i < length moments → slice_get moments i ≡ Some x =
          λ below. sym (slice_get-append_left moments (m ∷ []) i below) ∙ at in
          elim (push_cases moments m j y there) [
            | inl old ↦ are.gone i j x y t held_words need less (old_at (omega (arith, less, old.0))) of old.1
            | inr new ↦ subst (λ (z : Moment). z.cut.ended t ≡ true) new.1
                (gone t held_words need (i, (x, old_at (omega (arith, less, new.0)), of)))
          ];
      all = all;
    }

-- a moment that is one of these is one of these and one more
among_push : (moments : List Moment) (m : Moment) (of : Occasion) → IsAmong moments of → IsAmong (moments ++ m ∷ []) of
among_push moments m of (i, (x, at, is)) =
    (i, (x, slice_get-append_left moments (m ∷ []) i (slice_get_within moments i x at) ∙ at, is))

-- and one of these and one more is one of these, or that one
among_cases : (moments : List Moment) (m : Moment) (of : Occasion) → IsAmong (moments ++ m ∷ []) of
    → IsAmong moments of ⊎ (m.of ≡ of)
among_cases moments m of (i, (x, at, is)) = elim (push_cases moments m i x at) [
  | inl old ↦ inl (i, (x, old.1, is))
  | inr new ↦ inr (ap (λ (y : Moment). y.of) new.1 ∙ is)
]

-- a run without a moment
pub no_moments : (script : Script) (log : List Entry) (states : List ThreadState) (config : Config)
    → ((t : ℕ) (s : ThreadState) → slice_get states t ≡ Some s → HadNoRoom s.mode → ⊥)
    → HaveMoments script log states config [] []
no_moments script log states config none = record {
  are = record {
    each = λ i m at. absurd (let wrong : slice_get [] i ≡ Some m = at in cc);
    safe = λ i m at. absurd (let wrong : slice_get [] i ≡ Some m = at in cc);
    counts = λ i m at. absurd (let wrong : slice_get [] i ≡ Some m = at in cc);
    takes = λ i m phase taken at of. absurd (let wrong : slice_get [] i ≡ Some m = at in cc);
    order = λ i j m n less at there. absurd (let wrong : slice_get [] i ≡ Some m = at in cc);
    gone = λ i j m n t held_words need less at of there. absurd (let wrong : slice_get [] i ≡ Some m = at in cc);
    all = refl;
  };
  past = λ i m at. absurd (let wrong : slice_get [] i ≡ Some m = at in cc);
  gone = λ t held_words need s at is. absurd (none t s at (had_no_room s.mode held_words need is));
  real = λ t held_words need (i, (m, at, is)). absurd (let wrong : slice_get [] i ≡ Some m = at in cc);
}

-- the moment at which a run is is not after itself
now_now : (log : List Entry) (states : List ThreadState) → NotAfter (now log states) (now log states)
now_now log states = record {
  entries = omega arith;
  replies = λ t. omega arith;
  ended = λ t over. (over, refl);
}

-- a thread that ended for want of room has ended
gone_already : {script : Script} {log : List Entry} {states : List ThreadState} {config : Config}
    {journal : List Journal} {moments : List Moment} → HaveMoments script log states config journal moments
    → (t held_words need : ℕ) → IsAmong moments (no_room t held_words need) → gone_in states t ≡ true
gone_already {states} have t held_words need among =
    let x = have.real t held_words need among in
    gone_here states t x.0 x.1 ∙ ap has_gone x.2

-- what one collection took away is what another took that is the same
same_takes : {script : Script} {h : List Entry} {journal : List Journal} {earlier : List Moment} {cut : Cut}
    {phase : Phase} {taken : List ℕ} (p : Phase) (xs : List ℕ) → collection phase taken ≡ collection p xs
    → TakesAt script h journal earlier cut phase taken → TakesAt script h journal earlier cut p xs
same_takes {script} {h} {journal} {earlier} {cut} {phase} {taken} p xs of takes =
    let ps : phase ≡ p = let e : collection phase taken ≡ collection p xs = of in cc in
    let ts : taken ≡ xs = let e : collection phase taken ≡ collection p xs = of in cc in
    subst (λ (q : Phase). TakesAt script h journal earlier cut q xs) ps
    (subst (λ (ys : List ℕ). TakesAt script h journal earlier cut phase ys) ts takes)

-- a collection more
pub moments_collected : {script : Script} {log : List Entry} {states : List ThreadState} {config : Config}
    (journal : List Journal) (entry : Journal) {phase : Phase} {taken : List ℕ} {moments : List Moment}
    → HaveMoments script log states config journal moments
    → IsMoment script log (replies_of states) config (journal ++ entry ∷ []) (length journal) (now log states)
    (collection phase taken)
    → IsSafepoint script log config moments (now log states)
    → CountsBy script config (replies_of states) (now log states) (length journal)
    → TakesAt script (history_at log (now log states)) (journal ++ entry ∷ []) moments (now log states) phase taken
    → HaveMoments script log states config (journal ++ entry ∷ [])
    (moments ++ record { cut = now log states; of = collection phase taken } ∷ [])
moments_collected {script} {log} {states} {config} journal entry {phase} {taken} {moments} have is safe counts takes =
    let m : Moment = record { cut = now log states; of = collection phase taken } in
    let all : collections_among (moments ++ m ∷ []) ≡ length (journal ++ entry ∷ []) =
    omega (arith, count_push moments m, have.are.all, length-append journal (entry ∷ [])) in
    record {
      are = moments_push journal (journal ++ entry ∷ []) m have.are
          (λ k e at. slice_get-append_left journal (entry ∷ []) k (slice_get_within journal k e at) ∙ at) is safe counts
          (λ p xs of. same_takes p xs of takes) have.past (gone_already have) all;
      past = λ i x at. elim (push_cases moments m i x at) [
        | inl old ↦ have.past i x old.1
        | inr new ↦ subst (λ (y : Moment). NotAfter y.cut (now log states)) new.1 (now_now log states)
      ];
      gone = λ t held_words need s at over.
          among_push moments m (no_room t held_words need) (have.gone t held_words need s at over);
      real = λ t held_words need among.
          elim (among_cases moments m (no_room t held_words need) among) [
            | inl old ↦ have.real t held_words need old
            | inr new ↦ absurd (let wrong : collection phase taken ≡ no_room t held_words need = new in
                let e : true ≡ false = ap is_collection wrong in cc)
          ];
    }

-- the end of a thread more, for want of room
pub moments_gone : {script : Script} {log : List Entry} {states : List ThreadState} {config : Config}
    (journal : List Journal) (t held_words need : ℕ) {s : ThreadState} → slice_get states t ≡ Some s
    → (IsEnded s.mode → ⊥) → {moments : List Moment} → HaveMoments script log states config journal moments
    → LacksRoom script log (replies_of states) config (now log states) t held_words need
    → IsSafepoint script log config moments (now log states)
    → CountsBy script config (replies_of states) (now log states) (length journal)
    → HaveMoments script log (set states t (record s { mode = Ended (end.OutOfHeap held_words need) })) config journal
    (moments ++ record { cut = now log states; of = no_room t held_words need } ∷ [])
moments_gone {script} {log} {states} {config} journal t held_words need {s} at goes {moments} have lacks safe counts =
    let ended : ThreadState = record s { mode = Ended (end.OutOfHeap held_words need) } in
    let after : List ThreadState = set states t ended in
    let m : Moment = record { cut = now log states; of = no_room t held_words need } in
    let later : Later states after =
    later_set states t s ended [] at goes (sym (append-nil s.replies.items)) in
    let on : NotAfter (now log states) (now log after) =
    subst (λ (h : List Entry). NotAfter (now log states) (now h after)) (append-nil log) (now_later log [] later) in
    let past : (i : ℕ) (x : Moment) → slice_get (moments ++ m ∷ []) i ≡ Some x → NotAfter x.cut (now log states) =
    λ i x there. elim (push_cases moments m i x there) [
      | inl old ↦ have.past i x old.1
      | inr new ↦ subst (λ (y : Moment). NotAfter y.cut (now log states)) new.1 (now_now log states)
    ] in
    let are : AreMoments script log (replies_of states) config journal (moments ++ m ∷ []) =
    moments_push journal journal m have.are (λ k e there. there) lacks safe counts
    (λ p xs of. absurd (let wrong : no_room t held_words need ≡ collection p xs = of in
    let e : false ≡ true = ap is_collection wrong in cc)) have.past (gone_already have)
    (omega (arith, count_push moments m, have.are.all)) in
    let replies : (u : ℕ) → replies_of after u ≡ replies_of states u = λ u. elim (cases_eq u t) [
      | inl same ↦ subst (λ (k : ℕ). replies_of after k ≡ replies_of states k) (sym same)
          (replies_same states t s ended at ∙ sym (replies_here states t s at))
      | inr other ↦ replies_other states t u ended other
    ] in
    record {
      are = subst (λ (h : List Entry). AreMoments script h (replies_of after) config journal (moments ++ m ∷ []))
          (append-nil log) (are_later [] later past (λ u a b among. replies u) are);
      past = λ i x there. not_after_trans (past i x there) on;
      gone = λ u a b x there is. elim (cases_eq u t) [
        | inl same ↦
            let it : ended ≡ x = same_Some ended x (sym (get_set_same states t s ended at)
            ∙ (ap (slice_get after) (sym same) ∙ there)) in
            let mode : Ended (end.OutOfHeap held_words need) ≡ Ended (end.OutOfHeap a b) =
            ap (λ (y : ThreadState). y.mode) it ∙ is in
            let of : no_room t held_words need ≡ no_room u a b = rw same (cc) in
            (length moments, (m, slice_get-append_seam moments m [], of))
        | inr other ↦ among_push moments m (no_room u a b)
            (have.gone u a b x (sym (get_set_other states t u ended other) ∙ there) is)
      ];
      real = λ u a b among. elim (among_cases moments m (no_room u a b) among) [
        | inl old ↦
            let x = have.real u a b old in
            (x.0, later.ended u x.0 x.1 (has_ended x.0.mode a b x.2), x.2)
        | inr new ↦
            let thread : t ≡ u = let e : no_room t held_words need ≡ no_room u a b = new in cc in
            let mode : Ended (end.OutOfHeap held_words need) ≡ Ended (end.OutOfHeap a b) =
            let e : no_room t held_words need ≡ no_room u a b = new in cc in
            (ended, subst (λ (k : ℕ). slice_get after k ≡ Some ended) thread (get_set_same states t s ended at), mode)
      ];
    }
