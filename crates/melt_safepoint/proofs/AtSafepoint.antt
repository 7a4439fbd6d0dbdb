-- A safepoint: each thread waits there, or has just had its own collection, and so it is at each moment of a run.
use Rattle.std.proofs.Common.{◌≡◌, ℕ, ◌+◌, suc, true, false, List, [], ◌∷◌, ◌++◌, length, refl, sym, ◌∙◌, ap, subst, arith}
use Rattle.std.proofs.Common.{◌⊎◌, inl, inr, length-append}
use Rattle.std.proofs.Math.ListN.{set}
use Rattle.std.proofs.lemmas.Bool.{cases_Bool, cases_eq}
use Rattle.std.proofs.Math.Seq.{take-length}
use Rattle.std.proofs.lemmas.List.{append-nil}
use Rattle.std.proofs.lemmas.Option.{same_Some, slice_get_cases, slice_get_within}
use Rattle.std.specs.Prelude.{Bool, Option, None, Some, IfSome, slice_get}
use Rattle.melt_model.proofs.Histories.{slice_get-append_left, slice_get-append_seam}
use Rattle.melt_model.specs.declared.config.Config.{Config}
use Rattle.melt_model.specs.declared.history.Entry.{Entry}
use Rattle.melt_model.specs.declared.operations.Op.{Op}
use Rattle.melt_model.specs.declared.operations.Op.TheVariants.{Collect}
use Rattle.melt_model.specs.declared.operations.Reply.{Reply}
use Rattle.melt_model.specs.declared.reports.Journal.{Journal}
use Rattle.melt_model.specs.declared.reports.Phase.{Phase}
use Rattle.melt_trace.specs.Script.{Script, operations}
use Rattle.melt_word.specs.declared.header.Header.{Header}
use Rattle.melt_scion.specs.Heaps.{OnDisk}
use Rattle.melt_scion.specs.State.{ObjectAt}
use Rattle.melt_core.specs.Stages.{LooksAtStop}
use Rattle.melt_core.specs.StaleBits.{BitIs, BitsTold, HasBit, HasNoBit, Sight, sight}
use Rattle.melt_core.specs.Views.{InUse, Standing, View, maps, state, value}
use Rattle.melt_safepoint.specs.declared.thread.Mode.{Mode}
use Rattle.melt_safepoint.specs.declared.thread.Mode.TheVariants.{Asked, Collecting, Due, Ended, Lacking, Running, Silent}
use Rattle.melt_safepoint.specs.declared.thread.ThreadState.{ThreadState}
use Rattle.melt_safepoint.specs.Bits.{BitsAfter, TakesAway}
use Rattle.melt_safepoint.specs.Collections.{Gathers}
use Rattle.melt_safepoint.specs.Cuts.{CountsBy, Cut, HadOwn, IsDue, IsMoment, IsSafepoint, Moment, TakesAt, WaitsAt}
use Rattle.melt_safepoint.specs.Cuts.{collection, history_at, registers_at}
use Rattle.melt_safepoint.specs.Endings.{HaveMoments, RestMoments, TiedMoments, gone_in, has_gone, now}
use Rattle.melt_safepoint.specs.Modes.{CallsAgain, FitsMode, HadNoRoom, IsEnded, MayGo, owes_silent}
use Rattle.melt_safepoint.specs.Rows.{RestsSo, Row}
use Rattle.melt_safepoint.specs.declared.collector.Collector.{Collector}
use Rattle.melt_safepoint.specs.Tables.{TableStands, ThreadStands}
use Rattle.melt_safepoint.specs.Threads.{AllWait, Later, replies_of}
use Rattle.melt_safepoint.proofs.Collecting.{placed_told}
use Rattle.melt_safepoint.proofs.Cuts.{gone_cases, gone_here, gone_past, registers_by, replies_here}
use Rattle.melt_safepoint.proofs.Found.{alive_lies}
use Rattle.melt_safepoint.proofs.InOrder.{HaveMoments_later, moments_collected, none_set}
use Rattle.melt_safepoint.proofs.Modes.{later_mode}
use Rattle.melt_safepoint.proofs.Moments.{looks_now, moment_now, next_op, registers_now}
use Rattle.melt_safepoint.proofs.Staying.{keeps_made, one_address, takes_at, tied_still}
use Rattle.melt_safepoint.proofs.Threads.{get_set_other, get_set_same, later_set, replies_other, replies_same}

-- an object in use has the stale bit, or lacks it
bit_of : (disk : OnDisk) (v : View) → Standing true disk v → (n : ℕ) → InUse (maps v) n
    → HasBit (sight v) n ⊎ HasNoBit (sight v) n
bit_of disk v stands n in_use =
    let object : (h : Header) × ObjectAt (state disk v) in_use.0 h =
    (placed_told true disk v stands refl).formed.words.objects in_use.0 n in_use.1 in
    let bit : BitIs (sight v) n object.0.stale = record {
      address = in_use.0;
      named = in_use.1;
      shape = object.0.shape;
      small = object.1.starts.in_range;
      word = object.1.starts.word;
    } in
    elim (cases_Bool object.0.stale) [
      | inl has ↦ inl (subst (BitIs (sight v) n) has bit)
      | inr lacks ↦ inr (subst (BitIs (sight v) n) lacks bit)
    ]

-- a thread that has not ended waits, or has had its own collection, by its mode
waits_by_mode : (script : Script) (log : List Entry) (config : Config) (moments : List Moment) (cut : Cut) (t : ℕ)
    (mode : Mode) (op : Option Op) → FitsMode mode op
    → (CallsAgain mode → IfSome op (LooksAtStop (registers_at script log cut t))) → (IsEnded mode → ⊥)
    → (owes_silent mode ≡ true → IsDue config (cut.replies t))
    → (MayGo mode → IsDue config (cut.replies t) ⊎ HadOwn script moments cut t)
    → ((o : Op) → op ≡ Some o → slice_get (operations script t) (cut.replies t) ≡ Some o)
    → WaitsAt script log config cut t ⊎ HadOwn script moments cut t
waits_by_mode script log config moments cut t Running op fits looks goes due own next = elim (own tt) [
  | inl is_due ↦ inl (inl is_due)
  | inr had ↦ inr had
]
waits_by_mode script log config moments cut t Due op fits looks goes due own next = inl (inl (due refl))
waits_by_mode script log config moments cut t Silent op fits looks goes due own next = inl (inl (due refl))
waits_by_mode script log config moments cut t Collecting op fits looks goes due own next =
    inl (inr (Collect, next Collect fits, inl refl))
waits_by_mode script log config moments cut t Asked None fits looks goes due own next = absurd (let none = fits.0 in cc)
waits_by_mode script log config moments cut t Asked (Some o) fits looks goes due own next =
    inl (inr (o, next o refl, inr (looks tt)))
waits_by_mode script log config moments cut t Lacking None fits looks goes due own next = absurd (let none = fits.0 in cc)
waits_by_mode script log config moments cut t Lacking (Some o) fits looks goes due own next =
    inl (inr (o, next o refl, inr (looks tt)))
waits_by_mode script log config moments cut t (Ended e) op fits looks goes due own next = absurd (goes tt)

-- so now is a safepoint, where a run is at one
pub safe_now : {script : Script} {config : Config} {disk : OnDisk} {v : View} {states : List ThreadState}
    {journal : List Journal} → TableStands true script config disk v states
    → (rest : RestMoments script (sight v) states config journal)
    → IsSafepoint script v.log config rest.tied.moments (now v.log states)
safe_now {script} {config} {v} {states} table rest t open_ = elim (slice_get_cases states t).1 [
  | inl w ↦
      let s : ThreadState = w.0 in
      let at : slice_get states t ≡ Some s = w.2 in
      let st : ThreadStands true script v t s = table.each t s at in
      let same : length s.replies.items ≡ length (replies_of states t) =
      ap length (sym (replies_here states t s at)) in
      let goes : IsEnded s.mode → ⊥ = elim (gone_cases s.mode) [
        | inl gone ↦ absurd (let wrong : true ≡ false = sym (gone_here states t s at ∙ gone.1) ∙ open_ in cc)
        | inr not ↦ not.0
      ] in
      waits_by_mode script v.log config rest.tied.moments (now v.log states) t s.mode s.op st.fits
      (λ again. looks_now t table s.op (st.looks again)) goes
      (λ owes. subst (IsDue config) same (table.due t s at owes))
      (λ may. elim (rest.own t s at may) [
        | inl due ↦ inl (subst (IsDue config) same due)
        | inr had ↦ inr had
      ]) (λ o is. next_op t table at is)
  | inr w ↦ absurd (let wrong : true ≡ false = sym (gone_past states t w.0) ∙ open_ in cc)
]

-- where no thread can go on, a run is at a safepoint
pub rests_all : {script : Script} {s : Sight} {states : List ThreadState} {config : Config}
    {journal : List Journal} → AllWait states → TiedMoments script s states config journal
    → RestMoments script s states config journal
rests_all waits tied = record { tied = tied; own = λ t x at goes. absurd (waits t x at goes) }

-- and it stays at one while nothing of it changes that is told
pub safe_same : {told : Bool} {script : Script} {config : Config} (old new : Row) → sight new.view ≡ sight old.view
    → new.states ≡ old.states → new.collector ≡ old.collector → RestsSo told script config old
    → RestsSo told script config new
safe_same {script = script} {config = config} old new seen states collector safe = λ tells.
    subst (λ (c : Collector). RestMoments script (sight new.view) new.states config c.journal.items) (sym collector)
    (subst (λ (xs : List ThreadState). RestMoments script (sight new.view) xs config old.collector.journal.items)
    (sym states)
    (subst (λ (s : Sight). RestMoments script s old.states config old.collector.journal.items) (sym seen)
    (safe tells)))

-- and while its stale bits are told by what was done since, and nothing was
pub safe_still : {told : Bool} {script : Script} {config : Config} {disk : OnDisk} (old new : Row)
    → Standing told disk new.view → new.view.log ≡ old.view.log → new.states ≡ old.states
    → new.collector ≡ old.collector → (told ≡ true → BitsTold (sight old.view) (sight new.view))
    → RestsSo told script config old → RestsSo told script config new
safe_still {told} {script} {config} {disk} old new stands history states collector bits safe = λ tells.
    let rest : RestMoments script (sight old.view) old.states config old.collector.journal.items = safe tells in
    let still : RestMoments script (sight new.view) old.states config old.collector.journal.items = record {
      tied = tied_still history (one_address (subst (λ (b : Bool). Standing b disk new.view) tells stands)) (bits tells)
          rest.tied;
      own = λ t x at goes. elim (rest.own t x at goes) [
        | inl due ↦ inl due
        | inr had ↦ inr (subst (λ (h : List Entry). HadOwn script rest.tied.moments (now h old.states) t) (sym history) had)
      ];
    } in
    subst (λ (c : Collector). RestMoments script (sight new.view) new.states config c.journal.items) (sym collector)
    (subst (λ (xs : List ThreadState). RestMoments script (sight new.view) xs config old.collector.journal.items)
    (sym states) still)

-- ---- a collection was made

-- A run at a safepoint, of whose moments the last is now.
pub record JustMade (script : Script) (s : Sight) (states : List ThreadState) (config : Config)
    (journal : List Journal) : Type 0 where
  pub rest : RestMoments script s states config journal
  pub place : ℕ
  pub phase : Phase
  pub taken : List ℕ
  pub last : slice_get rest.tied.moments place ≡ Some (record { cut = now s.log states; of = collection phase taken })

-- a thread that had its own collection has had it where there is one moment more
had_more : {script : Script} {moments : List Moment} {cut : Cut} {t : ℕ} (m : Moment) → HadOwn script moments cut t
    → HadOwn script (moments ++ m ∷ []) cut t
had_more {moments} m had = record {
  own = had.own;
  place = had.place;
  among = slice_get-append_left moments (m ∷ []) had.place (slice_get_within moments had.place had.own had.among)
      ∙ had.among;
  collected = had.collected;
  asked = had.asked;
  replies = had.replies;
  entries = had.entries;
}

-- now is the moment of one collection more
pub made_now : {script : Script} {config : Config} {disk : OnDisk} {v : View} (w : View) {states : List ThreadState}
    (journal : List Journal) (entry : Journal) {phase : Phase} → TableStands true script config disk v states
    → RestMoments script (sight v) states config journal
    → CountsBy script config (replies_of states) (now v.log states) (length journal) → Gathers v entry
    → entry.phase ≡ phase → w.log ≡ v.log → BitsAfter phase v w → TakesAway phase v w entry
    → JustMade script (sight w) states config (journal ++ entry ∷ [])
made_now {script} {config} {disk} {v} w {states} journal entry {phase} table rest counts gathers of_phase history bits
    takes =
    let moments : List Moment = rest.tied.moments in
    let cut : Cut = now v.log states in
    let m : Moment = record { cut = cut; of = collection phase takes.taken } in
    let same : (t r : ℕ) → registers_at script v.log cut t r ≡ value v t r = λ t r.
    ap (λ (h : List Entry). registers_by script cut h t r) (take-length v.log) ∙ registers_now t r table in
    let told : TakesAt script v.log (journal ++ entry ∷ []) moments cut phase takes.taken =
    takes_at script moments cut phase v w entry refl history same rest.tied.bits bits takes journal
    rest.tied.have.are.all of_phase
    (λ n alive. alive_lies v.log (value v) (maps v) (state disk v) (table.stands.legal refl)
    (placed_told true disk v table.stands refl) n alive) (λ n in_use. bit_of disk v table.stands n in_use) in
    let have : HaveMoments script v.log states config (journal ++ entry ∷ []) (moments ++ m ∷ []) =
    moments_collected journal entry rest.tied.have
    (moment_now script config disk v states journal entry phase takes.taken table gathers) (safe_now table rest)
    counts
    (subst (λ (h : List Entry). TakesAt script h (journal ++ entry ∷ []) moments cut phase takes.taken)
    (sym (take-length v.log)) told) in
    record {
      rest = record {
        tied = record {
          moments = moments ++ m ∷ [];
          have = subst (λ (h : List Entry). HaveMoments script h states config (journal ++ entry ∷ []) (moments ++ m ∷ []))
              (sym history) have;
          bits = keeps_made script moments cut phase v w entry refl history same rest.tied.bits bits takes;
        };
        own = λ t s at goes. elim (rest.own t s at goes) [
          | inl due ↦ inl due
          | inr had ↦ inr (subst (λ (h : List Entry). HadOwn script (moments ++ m ∷ []) (now h states) t)
              (sym history) (had_more m had))
        ];
      };
      place = length moments;
      phase = phase;
      taken = takes.taken;
      last = subst (λ (h : List Entry). slice_get (moments ++ m ∷ []) (length moments)
          ≡ Some (record { cut = now h states; of = collection phase takes.taken })) (sym history)
          (slice_get-append_seam moments m []);
    }

-- ---- a thread goes on after its own

-- a run stays at a safepoint, where of one thread all replies so far stay, and its own collection was the last thing done
rests_set : {script : Script} {config : Config} (s : Sight) {states : List ThreadState} {t : ℕ}
    {x : ThreadState} (after : ThreadState) (journal : List Journal) → slice_get states t ≡ Some x
    → (HadNoRoom after.mode → ⊥) → Later states (set states t after)
    → (rest : RestMoments script s states config journal)
    → (MayGo after.mode → IsDue config (length after.replies.items)
    ⊎ HadOwn script rest.tied.moments (now s.log (set states t after)) t)
    → RestMoments script s (set states t after) config journal
rests_set {script} {config} s {states} {t} {x} after journal at room later rest own =
    let xs : List ThreadState = set states t after in
    let moments : List Moment = rest.tied.moments in
    record {
      tied = record {
        moments = moments;
        have = subst (λ (h : List Entry). HaveMoments script h xs config journal moments) (append-nil s.log)
            (HaveMoments_later script s.log [] config journal later (none_set states t x after at room) rest.tied.have);
        bits = rest.tied.bits;
      };
      own = λ u y there goes. elim (cases_eq u t) [
        | inl same ↦
            let here : slice_get xs t ≡ Some y = ap (slice_get xs) (sym same) ∙ there in
            let is : after ≡ y = same_Some after y (sym (get_set_same states t x after at) ∙ here) in
            elim (own (subst (λ (z : ThreadState). MayGo z.mode) (sym is) goes)) [
              | inl due ↦ inl (subst (λ (z : ThreadState). IsDue config (length z.replies.items)) is due)
              | inr had ↦ inr (subst (λ (k : ℕ). HadOwn script moments (now s.log xs) k) (sym same) had)
            ]
        | inr other ↦
            elim (rest.own u y (sym (get_set_other states t u after other) ∙ there) goes) [
              | inl due ↦ inl due
              | inr had ↦ inr (record {
                own = had.own;
                place = had.place;
                among = had.among;
                collected = had.collected;
                asked = had.asked;
                replies = ap length (replies_other states t u after other) ∙ had.replies;
                entries = had.entries;
              })
            ]
      ];
    }

-- the silent collection of a thread was made
pub rests_silent : {script : Script} {config : Config} (s : Sight) {states : List ThreadState} (t : ℕ)
    {x : ThreadState} (mode : Mode) (journal : List Journal) → slice_get states t ≡ Some x → (IsEnded x.mode → ⊥)
    → (HadNoRoom mode → ⊥) → IsDue config (length x.replies.items) → RestMoments script s states config journal
    → RestMoments script s (set states t (record x { mode = mode })) config journal
rests_silent s {states} t {x} mode journal at goes room due rest =
    rests_set s (record x { mode = mode }) journal at room (later_mode states t x mode at goes) rest (λ may. inl due)

-- the collection that the next operation of a thread is was made, and it got its reply
pub rests_replied : {script : Script} {config : Config} (s : Sight) {states : List ThreadState} (t : ℕ)
    {x : ThreadState} (after : ThreadState) (reply : Reply) (journal : List Journal) → slice_get states t ≡ Some x
    → (IsEnded x.mode → ⊥) → after.replies.items ≡ x.replies.items ++ reply ∷ [] → (HadNoRoom after.mode → ⊥)
    → slice_get (operations script t) (length (replies_of states t)) ≡ Some Collect
    → JustMade script s states config journal → RestMoments script s (set states t after) config journal
rests_replied s {states} t {x} after reply journal at goes grown room asked made =
    let one : length (replies_of (set states t after) t) ≡ suc (length (replies_of states t)) =
    ap length (replies_same states t x after at) ∙ (ap length grown
    ∙ (omega (arith, length-append x.replies.items (reply ∷ []))
    ∙ ap (λ (xs : List Reply). suc (length xs)) (sym (replies_here states t x at)))) in
    rests_set s after journal at room (later_set states t x after (reply ∷ []) at goes grown) made.rest
    (λ may. inr (record {
      own = record { cut = now s.log states; of = collection made.phase made.taken };
      place = made.place;
      among = made.last;
      collected = refl;
      asked = asked;
      replies = one;
      entries = refl;
    }))
