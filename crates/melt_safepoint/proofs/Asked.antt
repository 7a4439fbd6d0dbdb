-- How many collections replies bring is told by the replies alone.
use Rattle.std.proofs.Common.{◌≡◌, ℕ, ◌+◌, zero, suc, List, length, refl, ◌∙◌, ap, take}
use Rattle.std.specs.List.{count_by}
use Rattle.melt_model.specs.declared.config.Config.{Config}
use Rattle.melt_model.specs.declared.operations.Reply.{Reply}
use Rattle.melt_trace.specs.Script.{Script, operations}
use Rattle.melt_safepoint.specs.Asked.{collects, collects_of, collections, collections_of, is_collect, silent_in, total}

-- the collections that threads got, by other lists of the same replies
pub collections_same : (script : Script) (config : Config) (a b : ℕ → List Reply) → ((t : ℕ) → a t ≡ b t) → (n : ℕ)
    → collections script config a n ≡ collections script config b n
collections_same script config a b same zero = refl
collections_same script config a b same (suc n) =
    ap (λ (k : ℕ). k + collections_of script config a n) (collections_same script config a b same n)
    ∙ ap (λ (rs : List Reply). collections script config b n
    + (count_by is_collect (take (length rs) (operations script n)) + silent_in config.every (length rs))) (same n)

-- and the `collect`s
pub asked_same : (script : Script) (a b : ℕ → List Reply) → ((t : ℕ) → a t ≡ b t) → (n : ℕ)
    → collects script a n ≡ collects script b n
asked_same script a b same zero = refl
asked_same script a b same (suc n) =
    ap (λ (k : ℕ). k + collects_of script a n) (asked_same script a b same n)
    ∙ ap (λ (rs : List Reply). collects script b n + count_by is_collect (take (length rs) (operations script n)))
    (same n)

-- sums of the same numbers are the same
pub total_same : (f g : ℕ → ℕ) → ((t : ℕ) → f t ≡ g t) → (n : ℕ) → total f n ≡ total g n
total_same f g same zero = refl
total_same f g same (suc n) =
    ap (λ (k : ℕ). k + f n) (total_same f g same n) ∙ ap (λ (k : ℕ). total g n + k) (same n)
