-- Histories that others add to: what a thread was told stays, and their fronts are legal.
use Rattle.std.proofs.Common.{[], ◌≡◌, ◌≢◌, ℕ, ◌+◌, ◌<◌, List, ◌∷◌, ◌++◌, length, sym, ◌∙◌, ap, subst}
use Rattle.std.proofs.Common.{arith, length-append}
use Rattle.std.proofs.lemmas.List.{append-nil, append_assoc, take-append-le}
use Rattle.std.proofs.lemmas.Option.{slice_get_within}
use Rattle.melt_model.specs.History.{Legal, MayFollow}
use Rattle.melt_model.specs.Standing.{Stands}
use Rattle.melt_model.specs.Thread.{own, own_from}
use Rattle.melt_model.specs.declared.history.Entry.{Entry}
use Rattle.melt_model.specs.declared.history.Value.{Value}
use Rattle.melt_model.specs.declared.operations.Op.{Op}
use Rattle.melt_model.specs.declared.operations.Reply.{Reply}
use Rattle.melt_model.proofs.Histories.{own_from-append, own-push_own, own-push_other, slice_get-append_left}
use Rattle.melt_model.proofs.Transcripts.{Stands_other}

-- the front of a legal history is one
pub legal_front : (h k : List Entry) (globals : ℕ) → Legal (h ++ k) globals → Legal h globals
legal_front h k globals legal p e at =
    let below : p < length h = slice_get_within h p e at in
    subst (λ (g : List Entry). MayFollow g globals e.act) (take-append-le p h k (omega arith))
    (legal p e (slice_get-append_left h k p below ∙ at))

-- where a thread has no place more, the first entry that was added is of another
pub other_first : (h k : List Entry) (t : ℕ) (e : Entry) → own (h ++ e ∷ k) t ≡ own h t → e.thread ≢ t
other_first h k t e same is =
    let first : own (h ++ e ∷ []) t ≡ own h t ++ length h ∷ [] = own-push_own h e t is in
    let more : List ℕ = own_from (0 + length (h ++ e ∷ [])) k t in
    let all : own ((h ++ e ∷ []) ++ k) t ≡ own (h ++ e ∷ []) t ++ more = own_from-append 0 (h ++ e ∷ []) k t in
    let joined : own (h ++ e ∷ k) t ≡ own ((h ++ e ∷ []) ++ k) t =
    ap (λ (g : List Entry). own g t) (sym (append_assoc h (e ∷ []) k)) in
    let whole : own h t ≡ (own h t ++ length h ∷ []) ++ more =
    sym same ∙ (joined ∙ (all ∙ ap (λ (ps : List ℕ). ps ++ more) first)) in
    omega (
      arith,
      ap length whole,
      length-append (own h t ++ length h ∷ []) more,
      length-append (own h t) (length h ∷ []),
    )

-- what a thread was told stays where all entries that were added are of others
pub stands_more : (h k : List Entry) (t : ℕ) (ops : List Op) (replies : List Reply) (registers : List Value)
    → own (h ++ k) t ≡ own h t → Stands h t ops replies registers → Stands (h ++ k) t ops replies registers
stands_more h [] t ops replies registers same stands =
    subst (λ (g : List Entry). Stands g t ops replies registers) (sym (append-nil h)) stands
stands_more h (e ∷ k) t ops replies registers same stands =
    let other : e.thread ≢ t = other_first h k t e same in
    let joined : (h ++ e ∷ []) ++ k ≡ h ++ e ∷ k = append_assoc h (e ∷ []) k in
    let rest : own ((h ++ e ∷ []) ++ k) t ≡ own (h ++ e ∷ []) t =
    ap (λ (g : List Entry). own g t) joined ∙ (same ∙ sym (own-push_other h e t other)) in
    subst (λ (g : List Entry). Stands g t ops replies registers) joined
    (stands_more (h ++ e ∷ []) k t ops replies registers rest
    (Stands_other h t ops replies registers e stands other))
