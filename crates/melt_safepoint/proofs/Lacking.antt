-- A thread that waits for room, and its call.
use Rattle.std.specs.Prelude.{Some}
use Rattle.std.proofs.Common.{◌≡◌, ℕ, ◌+◌, ◌*◌, ◌<◌, ◌≤◌, List, length, get_or, refl, sym, ◌∙◌, ap, subst, arith, inl}
use Rattle.std.proofs.Common.{inr}
use Rattle.std.proofs.Math.ListN.{set}
use Rattle.std.proofs.lemmas.Option.{get_or_from_slice_get, same_Some}
use Rattle.melt_model.specs.declared.operations.Reply.{Reply}
use Rattle.melt_safepoint.specs.declared.thread.Mode.{Mode}
use Rattle.melt_safepoint.specs.declared.thread.Mode.TheVariants.{Running, Due, Silent, Collecting, Asked, Lacking}
use Rattle.melt_safepoint.specs.declared.thread.Mode.TheVariants.{Ended}
use Rattle.melt_safepoint.specs.declared.thread.ThreadState.{ThreadState}
use Rattle.melt_safepoint.specs.Passing.{IsLacking, CalledAt, OneWaits, WaitsForRoom}
use Rattle.melt_safepoint.specs.Modes.{IsEnded, IsPaused, Waits, jobs}
use Rattle.melt_safepoint.specs.Threads.{TakesReply, jobs_of, left, SomeGoesOn}
use Rattle.melt_safepoint.proofs.Journals.{may_owe, MayOwe}

-- the state that was read is that of the thread
pub lacking_here : (states : List ThreadState) (t : ℕ) (x d : ThreadState) → x ≡ get_or states t d
    → WaitsForRoom states t → IsLacking states t x
lacking_here states t x d is waits =
    let same : x ≡ waits.0 = is ∙ get_or_from_slice_get states t waits.0 d waits.1 in
    record {
      at = waits.1 ∙ ap Some (sym same);
      lacking = ap (λ (y : ThreadState). y.mode) same ∙ waits.2;
    }

-- it has not ended
pub lacking_open : {states : List ThreadState} {t : ℕ} {s : ThreadState} → IsLacking states t s → IsEnded s.mode → ⊥
lacking_open {states} {t} {s} was ended = subst IsEnded was.lacking ended

-- a thread that has ended has nothing to do
ended_jobs : (mode : Mode) (n : ℕ) → IsEnded mode → jobs mode n ≡ 0
ended_jobs Running n over = absurd over
ended_jobs Due n over = absurd over
ended_jobs Silent n over = absurd over
ended_jobs Collecting n over = absurd over
ended_jobs Asked n over = absurd over
ended_jobs Lacking n over = absurd over
ended_jobs (Ended e) n over = refl

-- and does not wait
ended_goes : (mode : Mode) → IsEnded mode → IsPaused mode → ⊥
ended_goes Running over paused = over
ended_goes Due over paused = over
ended_goes Silent over paused = over
ended_goes Collecting over paused = over
ended_goes Asked over paused = over
ended_goes Lacking over paused = over
ended_goes (Ended e) over paused = paused

-- one that waits for room has something to do
lacking_jobs : (s : ThreadState) → s.mode ≡ Lacking → jobs_of s ≡ 1 + 2 * length (left s)
lacking_jobs s is = ap (λ (m : Mode). jobs m (length (left s))) is

-- Of a thread that waited for room: it has less to do, and does not wait.
pub record Frees (s after : ThreadState) : Type 0 where
  pub fewer : jobs_of after < jobs_of s
  pub goes : IsPaused after.mode → ⊥

-- so it is where it has ended
pub frees_ended : (s : ThreadState) (mode : Mode) → s.mode ≡ Lacking → IsEnded mode → Frees s (record s { mode = mode })
frees_ended s mode lacking over = record {
  fewer =
      let none : jobs mode (length (left s)) ≡ 0 = ended_jobs mode (length (left s)) over in
      let less : jobs mode (length (left s)) < jobs_of s = omega (arith, none, lacking_jobs s lacking) in
      less;
  goes = ended_goes mode over;
}

-- and does not wait
pub told_goes : (s after : ThreadState) (reply : Reply) → TakesReply s after reply → IsPaused after.mode → ⊥
told_goes s after reply takes paused = elim takes.fits [
  | inl runs ↦ subst IsPaused runs.0 paused
  | inr rest ↦ elim rest [ inl due ↦ subst IsPaused due paused | inr ended ↦ subst IsPaused ended.0 paused ]
]

-- a thread that waited for room, and was set to a state that has less to do
pub called_at : {states later : List ThreadState} {t : ℕ} {s after : ThreadState} → IsLacking states t s
    → later ≡ set states t after → Frees s after → CalledAt states later t
called_at {states} {later} {t} {s} {after} was is frees = λ x here. (
  after,
  is,
  subst (λ (z : ThreadState). jobs_of after < jobs_of z) (same_Some s x (sym was.at ∙ here)) frees.fewer,
  frees.goes,
)

-- a thread that waits for room has not ended
pub room_goes : (states : List ThreadState) (t : ℕ) → WaitsForRoom states t → SomeGoesOn states
room_goes states t waits = (t, (waits.0, waits.1, λ ended. subst IsEnded waits.2 ended))

pub room_waits : (states : List ThreadState) (t : ℕ) → WaitsForRoom states t → OneWaits states
room_waits states t waits = (t, (waits.0, waits.1, subst Waits (sym waits.2) tt))

-- a thread that waits for room has not ended, so that one more collection may be unpaid
pub room_owes : {unpaid : ℕ} (states : List ThreadState) (t : ℕ) → WaitsForRoom states t → unpaid ≤ 2
    → MayOwe unpaid states
room_owes {unpaid} states t waits few =
    may_owe unpaid states t waits.0 few waits.1 (λ ended. subst IsEnded waits.2 ended)
