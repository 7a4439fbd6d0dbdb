-- What a run reports of its threads when it has ended, or was halted.
use Rattle.std.specs.Prelude.{Bool, Some, IsSome, slice_get, take, map, sum, if◌then◌else◌, true, false}
use Rattle.std.specs.List.{count_by, sum_by}
use Rattle.std.proofs.Common.{◌≡◌, ℕ, ◌<◌, ◌≤◌, suc, List, [], ◌∷◌, length, refl, sym, ◌∙◌, ap, subst, arith}
use Rattle.std.proofs.Common.{◌⊎◌, inl, inr}
use Rattle.std.proofs.lemmas.List.Sums.{sum-map, sum_by-cons}
use Rattle.std.proofs.lemmas.Option.{slice_get_cases}
use Rattle.melt_model.specs.Thread.{Transcript}
use Rattle.melt_model.specs.declared.config.Config.{Config}
use Rattle.melt_model.specs.declared.history.Entry.{Entry}
use Rattle.melt_model.specs.declared.operations.Reply.{Reply}
use Rattle.melt_model.specs.declared.reports.Journal.{Journal}
use Rattle.melt_model.specs.declared.reports.Report.{Report}
use Rattle.melt_model.specs.declared.reports.ThreadEnd.{ThreadEnd}
use Rattle.melt_model.specs.declared.reports.ThreadEnd.TheVariants as end
use Rattle.melt_model.specs.declared.reports.ThreadReport.{ThreadReport}
use Rattle.melt_trace.specs.Script.{Script, operations}
use Rattle.melt_safepoint.specs.declared.thread.ThreadState.{ThreadState}
use Rattle.melt_safepoint.specs.declared.thread.Mode.{Mode}
use Rattle.melt_safepoint.specs.declared.thread.Mode.TheVariants as mode
use Rattle.melt_safepoint.specs.Modes.{halted_mode, owes, lost, IsEnded}
use Rattle.melt_safepoint.specs.Run.{is_halted, is_lost}
use Rattle.melt_safepoint.specs.Cuts.{AreMoments, Cut, IsCut, IsMoment, LacksRoom, Moment, Occasion}
use Rattle.melt_safepoint.specs.Cuts.{collection, collections_among, no_room}
use Rattle.melt_safepoint.specs.Counts.{answers}
use Rattle.melt_safepoint.specs.Losses.{losses}
use Rattle.melt_safepoint.specs.Endings.{EndsSo}
use Rattle.melt_safepoint.proofs.InOrder.{counted_same}
use Rattle.melt_safepoint.proofs.Reporting.{Reported}

-- a moment, by other lists of the same replies
pub IsCut_same : (script : Script) (log : List Entry) (a b : ℕ → List Reply) (config : Config) (cut : Cut)
    → ((t : ℕ) → a t ≡ b t) → IsCut script log a config cut → IsCut script log b config cut
IsCut_same script log a b config cut same is = record {
  within = is.within;
  few = λ t. subst (λ (rs : List Reply). cut.replies t ≤ length rs) (same t) (is.few t);
  transcripts =
      λ t. subst (λ (rs : List Reply). Transcript (take cut.entries log) t (operations script t)
      (take (cut.replies t) rs)) (same t) (is.transcripts t);
  last = λ t ended. is.last t ended ∙ ap length (same t);
  over = is.over;
}

-- the next operation had no room, by other lists of the same replies
pub LacksRoom_same : {script : Script} {log : List Entry} {a : ℕ → List Reply} (b : ℕ → List Reply) {config : Config}
    {cut : Cut} {t held_words need : ℕ} → ((u : ℕ) → a u ≡ b u) → LacksRoom script log a config cut t held_words need
    → LacksRoom script log b config cut t held_words need
LacksRoom_same {script} {log} {a} b {config} {cut} {t} same lacks = record {
  is_cut = record {
    is = IsCut_same script log a b config cut same lacks.is_cut.is;
    count = lacks.is_cut.count ∙ ap length (same t);
    alive = lacks.is_cut.alive;
  };
  over = lacks.over;
  op = lacks.op;
  next = ap (λ (rs : List Reply). slice_get (operations script t) (length rs)) (sym (same t)) ∙ lacks.next;
  needed = lacks.needed;
  holds = lacks.holds;
  above = lacks.above;
}

-- the moments of a run, by other lists of the same replies
module _ (script : Script) (log : List Entry) (config : Config) (journal : List Journal) (made : ℕ) (cut : Cut) where
  moment_same : (a b : ℕ → List Reply) → ((t : ℕ) → a t ≡ b t) → (of : Occasion)
      → IsMoment script log a config journal made cut of → IsMoment script log b config journal made cut of
  moment_same a b same (collection phase taken) is = (IsCut_same script log a b config cut same is.0, is.1)
  moment_same a b same (no_room t held_words need) is = LacksRoom_same b same is

pub are_same : {script : Script} {log : List Entry} {a : ℕ → List Reply} (b : ℕ → List Reply) {config : Config}
    {journal : List Journal} {moments : List Moment} → ((t : ℕ) → a t ≡ b t)
    → AreMoments script log a config journal moments → AreMoments script log b config journal moments
are_same {script} {log} {a} b {config} {journal} {moments} same are = record {
  each = λ i m at. moment_same script log config journal (collections_among (take i moments)) m.cut a b same m.of
      (are.each i m at);
  safe = are.safe;
  counts = λ i m at. counted_same script config a b m.cut (λ t. ap (take (m.cut.replies t)) (same t))
      (are.counts i m at);
  takes = are.takes;
  order = are.order;
  gone = are.gone;
  all = are.all;
}

-- a thread of the run
pub state_at : (states : List ThreadState) (t : ℕ) → t < length states
    → (s : ThreadState) × (slice_get states t ≡ Some s)
state_at states t below = elim (slice_get_cases states t).1 [ inl w ↦ (w.0, w.2) | inr w ↦ absurd (omega (arith, w.0)) ]

-- how a thread ended: as it stood, or it had not ended and is halted
abbrev pub EndsAs : Report → ThreadState → ThreadReport → Type 0
EndsAs report s r = (s.mode ≡ mode.Ended r.end)
    ⊎ ((IsEnded s.mode → ⊥) × (r.end ≡ end.Halted) × IsSome report.halt)

-- a thread that is to be halted had ended, or had not
pub halted_cases : (m : Mode) → (halted_mode m ≡ m) ⊎ ((IsEnded m → ⊥) × (halted_mode m ≡ mode.Ended end.Halted))
halted_cases mode.Running = inr (λ is. is, refl)
halted_cases mode.Due = inr (λ is. is, refl)
halted_cases mode.Silent = inr (λ is. is, refl)
halted_cases mode.Collecting = inr (λ is. is, refl)
halted_cases mode.Asked = inr (λ is. is, refl)
halted_cases mode.Lacking = inr (λ is. is, refl)
halted_cases (mode.Ended e) = inl refl

-- how a thread ended that is Ended twice
pub same_end : (a b : ThreadEnd) → mode.Ended a ≡ mode.Ended b → a ≡ b
same_end a b is = cc

-- two counts, of which the first has no more than the second for each thread
pub counts_less : (f : ThreadState → ℕ) (p : ThreadReport → Bool) (states : List ThreadState)
    (threads : List ThreadReport) → length threads ≡ length states
    → ((t : ℕ) (s : ThreadState) (r : ThreadReport) → slice_get states t ≡ Some s → slice_get threads t ≡ Some r
    → f s ≤ (if p r then 1 else 0)) → sum_by f states ≤ count_by p threads
counts_less f p [] [] count each = omega arith
counts_less f p [] (r ∷ threads) count each = absurd (omega (arith, count))
counts_less f p (s ∷ states) [] count each = absurd (omega (arith, count))
counts_less f p (s ∷ states) (r ∷ threads) count each =
    let g : ThreadReport → ℕ = λ (x : ThreadReport). if p x then 1 else 0 in
    let here : f s ≤ g r = each 0 s r refl refl in
    let others : sum_by f states ≤ sum_by g threads =
    counts_less f p states threads (omega (arith, count)) (λ t x y at is. each (suc t) x y at is) in
    let all : sum_by f (s ∷ states) ≤ sum_by g (r ∷ threads) =
    omega (arith, here, others, sum_by-cons f s states, sum_by-cons g r threads) in
    all

-- and as many
counts_same : (f : ThreadState → ℕ) (p : ThreadReport → Bool) (states : List ThreadState) (threads : List ThreadReport)
    → length threads ≡ length states
    → ((t : ℕ) (s : ThreadState) (r : ThreadReport) → slice_get states t ≡ Some s → slice_get threads t ≡ Some r
    → f s ≡ (if p r then 1 else 0)) → count_by p threads ≡ sum_by f states
counts_same f p [] [] count each = refl
counts_same f p [] (r ∷ threads) count each = absurd (omega (arith, count))
counts_same f p (s ∷ states) [] count each = absurd (omega (arith, count))
counts_same f p (s ∷ states) (r ∷ threads) count each =
    let g : ThreadReport → ℕ = λ (x : ThreadReport). if p x then 1 else 0 in
    let here : f s ≡ g r = each 0 s r refl refl in
    let others : sum_by g threads ≡ sum_by f states =
    counts_same f p states threads (omega (arith, count)) (λ t x y at is. each (suc t) x y at is) in
    let all : sum_by g (r ∷ threads) ≡ sum_by f (s ∷ states) =
    omega (arith, here, others, sum_by-cons f s states, sum_by-cons g r threads) in
    all

-- a report has as many threads that could not read the disk as there were
pub lost_same : (states : List ThreadState) (threads : List ThreadReport) → Reported states threads
    → count_by (λ (r : ThreadReport). is_lost r.end) threads ≡ losses states
lost_same states threads reported =
    let f : ThreadState → ℕ = λ (s : ThreadState). lost s.mode in
    counts_same f (λ (r : ThreadReport). is_lost r.end) states threads reported.count
    (λ t s r at there. ap lost (reported.each t s r at there).1) ∙ sym (sum-map f states)

-- a thread owes one silent collection at most, and none once it has ended
owes_less : (m : Mode) → owes m ≤ 1
owes_less mode.Running = omega arith
owes_less mode.Due = omega arith
owes_less mode.Silent = omega arith
owes_less mode.Collecting = omega arith
owes_less mode.Asked = omega arith
owes_less mode.Lacking = omega arith
owes_less (mode.Ended e) = omega arith

pub owes_ended : (report : Report) (s : ThreadState) (r : ThreadReport) → EndsAs report s r
    → owes s.mode ≤ (if is_halted r.end then 1 else 0)
owes_ended report s r (inl ends) =
    let none : owes s.mode ≡ 0 = ap owes ends in
    omega (arith, none)
owes_ended report s r (inr halts) =
    let flag : ThreadEnd → ℕ = λ e. if is_halted e then 1 else 0 in
    let one : flag r.end ≡ 1 = ap flag halts.1 in
    let less : owes s.mode ≤ flag r.end = omega (arith, one, owes_less s.mode) in
    less

-- a report has the replies of all threads
pub told_less : (states : List ThreadState) (threads : List ThreadReport) → length threads ≡ length states
    → ((t : ℕ) (s : ThreadState) (r : ThreadReport) → slice_get states t ≡ Some s → slice_get threads t ≡ Some r
    → r.replies ≡ s.replies.items) → answers states ≡ sum (map (λ (r : ThreadReport). length r.replies) threads)
told_less [] [] count each = refl
told_less [] (r ∷ threads) count each = absurd (omega (arith, count))
told_less (s ∷ states) [] count each = absurd (omega (arith, count))
told_less (s ∷ states) (r ∷ threads) count each =
    let f : ThreadState → ℕ = λ (x : ThreadState). length x.replies.items in
    let g : ThreadReport → ℕ = λ (x : ThreadReport). length x.replies in
    let others : answers states ≡ sum (map g threads) =
    told_less states threads (omega (arith, count)) (λ t x y at is. each (suc t) x y at is) in
    omega (
      arith,
      ap length (each 0 s r refl refl),
      others,
      sum-map f (s ∷ states),
      sum-map f states,
      sum_by-cons f s states,
      sum-map g (r ∷ threads),
      sum-map g threads,
      sum_by-cons g r threads,
    )

-- a thread that has ended by itself is not halted
pub not_halted : (script : Script) (log : List Entry) (states : List ThreadState) (config : Config) (t : ℕ)
    (e : ThreadEnd) → EndsSo true script log states config t (mode.Ended e) → is_halted e ≡ false
not_halted script log states config t end.Done ends = refl
not_halted script log states config t (end.OutOfHeap held_words need) ends = refl
not_halted script log states config t end.DiskFault ends = refl
not_halted script log states config t (end.Damaged home at word) ends = refl
not_halted script log states config t end.Halted ends = absurd ends
