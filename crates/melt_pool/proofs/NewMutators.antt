-- Mutators are made one by one, from that of the first thread on.
use Rattle.std.proofs.Common.{◌≡◌, ℕ, ◌+◌, List, [], ◌∷◌, ◌++◌, length, length-append, sym, ◌∙◌, ap, subst, arith, inl}
use Rattle.std.proofs.Common.{inr}
use Rattle.std.proofs.lemmas.Bool.{cases_lt}
use Rattle.std.proofs.lemmas.Option.{same_Some, slice_get_within}
use Rattle.std.specs.Prelude.{Some, slice_get}
use Rattle.melt_epoch.specs.declared.mutator.Mutator.{Mutator}
use Rattle.melt_pool.proofs.Armed.{front_got, last_got}
use Rattle.melt_pool.proofs.NewRun.{IsNewMutator}

-- those of so many threads
pub record NewUpTo {R : Type 0} (t : ℕ) (ms : List (Mutator R)) : Type 0 where
  pub count : length ms ≡ t
  pub each : (k : ℕ) (m : Mutator R) → slice_get ms k ≡ Some m → IsNewMutator k m

pub new_up_to_none : {R : Type 0} (ms : List (Mutator R)) → ms ≡ [] → NewUpTo 0 ms
new_up_to_none {R} ms none = record {
  count = ap length none;
  each = λ k m at. absurd (omega (arith, slice_get_within ms k m at, ap length none));
}

-- and one more
pub new_up_to_more : {R : Type 0} (t : ℕ) (ms : List (Mutator R)) (m : Mutator R) → NewUpTo t ms → IsNewMutator t m
    → NewUpTo (t + 1) (ms ++ m ∷ [])
new_up_to_more {R} t ms m so_far new =
    let longer : length (ms ++ m ∷ []) ≡ length ms + 1 = length-append ms (m ∷ []) in
    record {
      count = omega (arith, longer, so_far.count);
      each = λ k x at. elim (cases_lt k (length ms)) [
        | inl below ↦ so_far.each k x (sym (front_got ms (m ∷ []) k below) ∙ at)
        | inr past ↦
            let last : k ≡ length ms =
            omega (arith, past, longer, slice_get_within (ms ++ m ∷ []) k x at) in
            let here : slice_get (ms ++ m ∷ []) (length ms) ≡ Some x =
            subst (λ (j : ℕ). slice_get (ms ++ m ∷ []) j ≡ Some x) last at in
            let same : m ≡ x = same_Some m x (sym (last_got ms m) ∙ here) in
            let at_t : IsNewMutator k m = subst (λ (j : ℕ). IsNewMutator j m) (sym (last ∙ so_far.count)) new in
            subst (IsNewMutator k) same at_t
      ];
    }
