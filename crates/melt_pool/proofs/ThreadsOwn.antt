-- The entries of a history are those of its threads, where no other thread has one.
use Rattle.std.proofs.Common.{◌≡◌, ℕ, ◌+◌, ◌<◌, ◌≤◌, cond, List, [], ◌∷◌, refl, sym, ◌∙◌, ap, arith}
use Rattle.std.proofs.Common.{inl, inr}
use Rattle.std.proofs.lemmas.Bool.{cases_lt, eq-eqb, ne_eqb}
use Rattle.std.proofs.lemmas.Bool.Decides.{eqb_tells}
use Rattle.std.proofs.lemmas.List.Elements.{All-from_recursion, recursion_from_All}
use Rattle.std.specs.Prelude.{All, Bool}
use Rattle.std.specs.List.{AllByRecursion}
use Rattle.melt_model.specs.Thread.{own, own_from}
use Rattle.melt_model.specs.declared.history.Entry.{Entry}

-- a thread that is none has no entry
none_from : (p : ℕ) (h : List Entry) (n u : ℕ) → n ≤ u → AllByRecursion (λ (e : Entry). e.thread < n) h
    → own_from p h u ≡ []
none_from p [] n u above own = refl
none_from p (e ∷ h) n u above own =
    ap (λ (b : Bool). cond b (p ∷ own_from (p + 1) h u) (own_from (p + 1) h u))
    (ne_eqb e.thread u (λ same. let below : e.thread < n = own.0 in omega arith))
    ∙ none_from (p + 1) h n u above own.1

pub none_own : (h : List Entry) (n u : ℕ) → n ≤ u → All (λ (e : Entry). e.thread < n) h → own h u ≡ []
none_own h n u above own = none_from 0 h n u above (recursion_from_All (λ (e : Entry). e.thread < n) h own)

-- so where no other has one, all are those of threads
below_from : (p : ℕ) (h : List Entry) (n : ℕ) → ((t : ℕ) → n ≤ t → own_from p h t ≡ [])
    → AllByRecursion (λ (e : Entry). e.thread < n) h
below_from p [] n none = tt
below_from p (e ∷ h) n none =
    let by : ℕ → Bool → List ℕ = λ t b. cond b (p ∷ own_from (p + 1) h t) (own_from (p + 1) h t) in (
      elim (cases_lt e.thread n) [
        | inl below ↦ below
        | inr past ↦ absurd (
            let wrong : p ∷ own_from (p + 1) h e.thread ≡ [] =
            sym (ap (by e.thread) (eq-eqb e.thread e.thread refl)) ∙ none e.thread past in
            cc)
      ],
      below_from (p + 1) h n (λ t past. elim (eqb_tells e.thread t) [
        | inl same ↦ absurd (
            let wrong : p ∷ own_from (p + 1) h t ≡ [] = sym (ap (by t) same.0) ∙ none t past in
            cc)
        | inr differ ↦ sym (ap (by t) differ.0) ∙ none t past
      ]),
    )

pub all_below : (h : List Entry) (n : ℕ) → ((t : ℕ) → n ≤ t → own h t ≡ []) → All (λ (e : Entry). e.thread < n) h
all_below h n none = All-from_recursion (λ (e : Entry). e.thread < n) h (below_from 0 h n none)
