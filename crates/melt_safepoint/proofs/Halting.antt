-- All threads that have not ended are halted.
use Rattle.std.specs.Prelude.{map, None, Some, slice_get}
use Rattle.std.specs.Option.{option_map}
use Rattle.std.proofs.Common.{◌≡◌, ℕ, ◌<◌, ◌≤◌, suc, List, [], ◌∷◌, length, refl, sym, ◌∙◌, ap, subst, arith, inl}
use Rattle.std.proofs.Common.{inr}
use Rattle.std.proofs.lemmas.List.Sums.{sum-map, sum_by-cons}
use Rattle.std.proofs.lemmas.Option.{slice_get_cases, slice_get_within, slice_get-map, same_Some}
use Rattle.melt_safepoint.specs.declared.thread.Mode.{Mode}
use Rattle.melt_safepoint.specs.declared.thread.Mode.TheVariants.{Running, Due, Silent, Collecting, Asked, Lacking}
use Rattle.melt_safepoint.specs.declared.thread.Mode.TheVariants.{Ended}
use Rattle.melt_safepoint.specs.declared.thread.ThreadState.{ThreadState}
use Rattle.melt_safepoint.specs.Threads.{AllEnded, AreHalted, halted}
use Rattle.melt_safepoint.specs.Modes.{halted_mode, IsEnded, lost}
use Rattle.melt_safepoint.specs.Losses.{CountsLosses, losses}

-- So many threads are halted, and the others are as they were.
pub record HaltedBelow (states after : List ThreadState) (n : ℕ) : Type 0 where
  pub count : length after ≡ length states
  pub done : (t : ℕ) (s : ThreadState) → t < n → slice_get states t ≡ Some s → slice_get after t ≡ Some (halted s)
  pub rest : (t : ℕ) → n ≤ t → slice_get after t ≡ slice_get states t

-- a list is another whose threads are halted, where each of its threads is one of those
halted_each : (states after : List ThreadState) → length after ≡ length states
    → ((t : ℕ) (s : ThreadState) → slice_get states t ≡ Some s → slice_get after t ≡ Some (halted s))
    → AreHalted states after
halted_each [] [] count each = refl
halted_each [] (x ∷ after) count each = absurd (omega (arith, count))
halted_each (s ∷ states) [] count each = absurd (omega (arith, count))
halted_each (s ∷ states) (x ∷ after) count each =
    let here : x ≡ halted s = same_Some x (halted s) (each 0 s refl) in
    let others : after ≡ map halted states =
    halted_each states after (omega (arith, count)) (λ t y at. each (suc t) y at) in
    cc

-- all are, once none is left
pub halted_all : (states after : List ThreadState) (n : ℕ) → HaltedBelow states after n → length states ≤ n
    → AreHalted states after
halted_all states after n so_far all = halted_each states after so_far.count (λ t s at.
    so_far.done t s (let below : t < length states = slice_get_within states t s at in omega (arith, below, all)) at)

-- a thread of a run whose threads are halted
pub halted_at : (states after : List ThreadState) (t : ℕ) (s : ThreadState) → AreHalted states after
    → slice_get states t ≡ Some s → slice_get after t ≡ Some (halted s)
halted_at states after t s halts at =
    ap (λ (xs : List ThreadState). slice_get xs t) halts
    ∙ (slice_get-map halted states t ∙ ap (option_map halted) at)

-- a thread that is halted counts as lost only if it was
lost_less : (mode : Mode) → lost (halted_mode mode) ≤ lost mode
lost_less Running = omega arith
lost_less Due = omega arith
lost_less Silent = omega arith
lost_less Collecting = omega arith
lost_less Asked = omega arith
lost_less Lacking = omega arith
lost_less (Ended e) = omega arith

losses_less : (states : List ThreadState) → losses (map halted states) ≤ losses states
losses_less [] = omega arith
losses_less (s ∷ states) =
    let f : ThreadState → ℕ = λ (x : ThreadState). lost x.mode in
    omega (
      arith,
      lost_less s.mode,
      losses_less states,
      sum-map f states,
      sum-map f (map halted states),
      sum-map f (s ∷ states),
      sum-map f (halted s ∷ map halted states),
      sum_by-cons f s states,
      sum_by-cons f (halted s) (map halted states),
    )

-- so no thread more is lost
pub halted_losses : (states after : List ThreadState) (faults : ℕ) → AreHalted states after
    → CountsLosses states after faults faults
halted_losses states after faults halts = record {
  counted = inl (let more : losses after ≤ losses states =
      subst (λ (xs : List ThreadState). losses xs ≤ losses states) (sym halts) (losses_less states) in
      omega (arith, more));
  rises = inl (omega arith);
}

-- a thread has ended once it is halted
halted_over : (mode : Mode) → IsEnded (halted_mode mode)
halted_over Running = tt
halted_over Due = tt
halted_over Silent = tt
halted_over Collecting = tt
halted_over Asked = tt
halted_over Lacking = tt
halted_over (Ended e) = tt

-- and so all threads have
pub halted_ended : (states after : List ThreadState) → AreHalted states after → AllEnded after
halted_ended states after halts = λ t s at.
    let there : option_map halted (slice_get states t) ≡ Some s =
    sym (slice_get-map halted states t) ∙ (ap (λ (xs : List ThreadState). slice_get xs t) (sym halts) ∙ at) in
    elim (slice_get_cases states t).1 [
      | inl w ↦
          let same : halted w.0 ≡ s = same_Some (halted w.0) s (ap (option_map halted) (sym w.2) ∙ there) in
          subst (λ (x : ThreadState). IsEnded x.mode) same (halted_over w.0.mode)
      | inr w ↦ absurd (let wrong : None ≡ Some s = ap (option_map halted) (sym w.1) ∙ there in cc)
    ]
