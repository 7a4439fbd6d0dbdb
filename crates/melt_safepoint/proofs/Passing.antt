-- What a safepoint does to all threads.
use Rattle.std.specs.Prelude.{Option, Some, IsSome, slice_get, slice_set, ◌⊎◌}
use Rattle.std.proofs.Common.{◌≡◌, ℕ, ◌+◌, ◌<◌, ◌≤◌, true, false, List, length, refl, sym, ◌∙◌, ap, subst, arith, inl}
use Rattle.std.proofs.Common.{inr}
use Rattle.std.proofs.Math.ListN.{set, length-set}
use Rattle.std.proofs.lemmas.Bool.{cases_eq}
use Rattle.std.proofs.lemmas.Option.{same_Some, slice_get_within, slice_get_cases}
use Rattle.melt_model.specs.declared.operations.Op.{Op}
use Rattle.melt_safepoint.specs.declared.thread.ThreadState.{ThreadState}
use Rattle.melt_safepoint.specs.declared.thread.Mode.{Mode}
use Rattle.melt_safepoint.specs.declared.thread.Mode.TheVariants.{Running, Due, Silent, Collecting, Asked, Lacking}
use Rattle.melt_safepoint.specs.declared.thread.Mode.TheVariants.{Ended}
use Rattle.melt_safepoint.specs.Passing.{CollectedFor, CollectedAt, CollectedAll}
use Rattle.melt_safepoint.specs.Modes.{owes, IsPaused, MayGo, lost, owes_silent, IsEnded, FitsMode, CallsAgain}
use Rattle.melt_safepoint.specs.Modes.{ForCollection, Waits, jobs}
use Rattle.melt_safepoint.specs.Threads.{jobs_of, left}
use Rattle.melt_safepoint.proofs.Threads.{get_set_same, get_set_other}

-- a call was refused or was not
pub calls_again : (mode : Mode) → CallsAgain mode ⊎ (CallsAgain mode → ⊥)
calls_again Running = inr (λ is. is)
calls_again Due = inr (λ is. is)
calls_again Silent = inr (λ is. is)
calls_again Collecting = inr (λ is. is)
calls_again Asked = inl tt
calls_again Lacking = inl tt
calls_again (Ended e) = inr (λ is. is)

-- a thread whose call was refused has not ended
pub again_open : (mode : Mode) → CallsAgain mode → IsEnded mode → ⊥
again_open Running again ended = ended
again_open Due again ended = ended
again_open Silent again ended = ended
again_open Collecting again ended = ended
again_open Asked again ended = ended
again_open Lacking again ended = ended
again_open (Ended e) again ended = again

-- it has an operation
pub again_some : (mode : Mode) (op : Option Op) → CallsAgain mode → FitsMode mode op → IsSome op
again_some Running op again fits = absurd again
again_some Due op again fits = absurd again
again_some Silent op again fits = absurd again
again_some Collecting op again fits = absurd again
again_some Asked op again fits = fits.0
again_some Lacking op again fits = fits.0
again_some (Ended e) op again fits = absurd again

-- and has as much to do as when it runs
again_jobs : (mode : Mode) (count : ℕ) → CallsAgain mode → jobs Running count ≡ jobs mode count
again_jobs Running count again = absurd again
again_jobs Due count again = absurd again
again_jobs Silent count again = absurd again
again_jobs Collecting count again = absurd again
again_jobs Asked count again = refl
again_jobs Lacking count again = refl
again_jobs (Ended e) count again = absurd again

-- it has no silent collection to come
pub again_owes : (mode : Mode) → CallsAgain mode → owes mode ≡ owes Running
again_owes Running again = refl
again_owes Due again = absurd again
again_owes Silent again = absurd again
again_owes Collecting again = absurd again
again_owes Asked again = refl
again_owes Lacking again = refl
again_owes (Ended e) again = absurd again

-- and was not lost
pub again_lost : (mode : Mode) → CallsAgain mode → lost mode ≡ lost Running
again_lost Running again = refl
again_lost Due again = absurd again
again_lost Silent again = absurd again
again_lost Collecting again = absurd again
again_lost Asked again = refl
again_lost Lacking again = refl
again_lost (Ended e) again = absurd again

-- the call of a thread is made again, if it was refused
pub record MadeAgain (s after : ThreadState) : Type 0 where
  pub again : CallsAgain s.mode → after ≡ record s { mode = Running }
  pub same : (CallsAgain s.mode → ⊥) → after ≡ s

-- a thread whose call is made again has as much to do as before
pub made_again_jobs : (s x : ThreadState) → MadeAgain s x → jobs_of x ≡ jobs_of s
made_again_jobs s x made = elim (calls_again s.mode) [
  | inl again ↦ ap jobs_of (made.again again) ∙ again_jobs s.mode (length (left s)) again
  | inr not ↦ ap jobs_of (made.same not)
]

-- a thread that waits does so for a collection of its own, or its call is made again
paused_for : (mode : Mode) → IsPaused mode → ForCollection mode ⊎ CallsAgain mode
paused_for Running paused = absurd paused
paused_for Due paused = absurd paused
paused_for Silent paused = inl tt
paused_for Collecting paused = inl tt
paused_for Asked paused = inr tt
paused_for Lacking paused = inr tt
paused_for (Ended e) paused = absurd paused

-- one that makes its call again does not wait
pub made_again_goes : (s x : ThreadState) → (ForCollection s.mode → ⊥) → MadeAgain s x → IsPaused x.mode → ⊥
made_again_goes s x own made paused = elim (calls_again s.mode) [
  | inl again ↦ subst (λ (z : ThreadState). IsPaused z.mode) (made.again again) paused
  | inr not ↦ elim (paused_for s.mode (subst (λ (z : ThreadState). IsPaused z.mode) (made.same not) paused))
      [ inl for ↦ own for | inr again ↦ not again ]
]

-- what waits for a collection or for room waits
pub waits_paused : (mode : Mode) → Waits mode → IsPaused mode
waits_paused Running waits = waits
waits_paused Due waits = waits
waits_paused Silent waits = waits
waits_paused Collecting waits = waits
waits_paused Asked waits = tt
waits_paused Lacking waits = waits
waits_paused (Ended e) waits = waits

-- its call is not refused any more
pub made_again_asked : (s x : ThreadState) → MadeAgain s x → x.mode ≡ Asked → ⊥
made_again_asked s x made asked = elim (calls_again s.mode) [
  | inl again ↦
      let runs : Running ≡ Asked = sym (ap (λ (z : ThreadState). z.mode) (made.again again)) ∙ asked in cc
  | inr not ↦ not (subst CallsAgain (sym asked ∙ ap (λ (z : ThreadState). z.mode) (made.same not)) tt)
]

-- So many threads have their collections, and the others are as they were.
pub record CollectedBelow (states after : List ThreadState) (n : ℕ) : Type 0 where
  pub count : length after ≡ length states
  pub done : (t : ℕ) (s : ThreadState) → t < n → slice_get states t ≡ Some s
      → (x : ThreadState) × (slice_get after t ≡ Some x) × CollectedFor s x
  pub rest : (t : ℕ) → n ≤ t → slice_get after t ≡ slice_get states t

-- none of them has it yet
pub collected_none : (states : List ThreadState) → CollectedBelow states states 0
collected_none states = record {
  count = refl;
  done = λ t s below at. absurd (omega (arith, below));
  rest = λ t above. refl;
}

-- one thread more has its collection
pub collected_more : (states after next : List ThreadState) (n : ℕ) → CollectedBelow states after n → n < length after
    → CollectedAt after next n → CollectedBelow states next (n + 1)
collected_more states after next n so_far within at_n =
    elim (slice_get_cases after n).1 [
      | inl w ↦
          let s : ThreadState = w.0 in
          let one : (x : ThreadState) × (next ≡ slice_set after n x) × CollectedFor s x = at_n s w.2 in
          let x : ThreadState = one.0 in
          subst (λ (ss : List ThreadState). CollectedBelow states ss (n + 1)) (sym one.1)
          (record {
            count = length-set after n x ∙ so_far.count;
            done = λ t y below there. elim (cases_eq t n) [
              | inl same ↦
                  let here : slice_get states t ≡ Some s =
                  ap (slice_get states) same ∙ (sym (so_far.rest n (omega arith)) ∙ w.2) in (
                    x,
                    ap (slice_get (set after n x)) same ∙ get_set_same after n s x w.2,
                    subst (λ (z : ThreadState). CollectedFor z x) (same_Some s y (sym here ∙ there)) one.2,
                  )
              | inr other ↦
                  let z : (z : ThreadState) × (slice_get after t ≡ Some z) × CollectedFor y z =
                  so_far.done t y (omega (arith, other, below)) there in
                  (z.0, get_set_other after n t x other ∙ z.1, z.2)
            ];
            rest = λ t above. get_set_other after n t x (λ same. omega (arith, same, above))
                ∙ so_far.rest t (omega (arith, above));
          })
      | inr w ↦ absurd (omega (arith, within, w.0))
    ]

-- all of them have it
pub collected_all : (states after : List ThreadState) (n : ℕ) → CollectedBelow states after n → length states ≤ n
    → CollectedAll states after
collected_all states after n below all = record {
  count = below.count;
  each = λ t s at. let within : t < length states =
      slice_get_within states t s at in below.done t s (omega (arith, all, within)) at;
}

-- a thread waits for a collection or does not
pub for_collection : (mode : Mode) → ForCollection mode ⊎ (ForCollection mode → ⊥)
for_collection Running = inr (λ is. is)
for_collection Due = inr (λ is. is)
for_collection Silent = inl tt
for_collection Collecting = inl tt
for_collection Asked = inr (λ is. is)
for_collection Lacking = inr (λ is. is)
for_collection (Ended e) = inr (λ is. is)

-- one that can not go on and waits for no collection has no silent one to come
pub no_due : (mode : Mode) → (MayGo mode → ⊥) → (ForCollection mode → ⊥) → owes_silent mode ≡ true → ⊥
no_due Running waits not owes = waits tt
no_due Due waits not owes = waits tt
no_due Silent waits not owes = not tt
no_due Collecting waits not owes = not tt
no_due Asked waits not owes = let wrong : false ≡ true = owes in cc
no_due Lacking waits not owes = let wrong : false ≡ true = owes in cc
no_due (Ended e) waits not owes = let wrong : false ≡ true = owes in cc

-- one that waits does so for a collection or for room
pub waits_for : (mode : Mode) → Waits mode → ForCollection mode ⊎ ((mode ≡ Lacking) × (ForCollection mode → ⊥))
waits_for Running waits = absurd waits
waits_for Due waits = absurd waits
waits_for Silent waits = inl tt
waits_for Collecting waits = inl tt
waits_for Asked waits = absurd waits
waits_for Lacking waits = inr (refl, λ is. is)
waits_for (Ended e) waits = absurd waits

-- collections give no thread more to do
pub collected_jobs : (s x : ThreadState) → CollectedFor s x → jobs_of x ≤ jobs_of s
collected_jobs s x collected = elim (for_collection s.mode) [
  | inl for ↦ omega (arith, collected.fewer for)
  | inr not ↦ omega (arith, ap jobs_of (collected.same not))
]
