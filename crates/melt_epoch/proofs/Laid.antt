-- The words of a heap go out of its space and come back, one at a time.
use Rattle.std.proofs.Common.{◌≡◌, ℕ, suc, ◌+◌}
use Rattle.std.proofs.Common.{List, length}
use Rattle.std.proofs.Common.{sym, ◌∙◌, ap, subst, arith, inl, inr}
use Rattle.std.proofs.lemmas.Bool.{cases_eq}
use Rattle.std.proofs.lemmas.List.{ext_get_or}
use Rattle.std.specs.Prelude.{slice_index}
use Rattle.melt_space.specs.Space.{AreWords, SetsWord, SpaceWords, word_at}
use Rattle.melt_epoch.specs.Gathering.{PutsFirst}

-- all words of a space
pub all_words : (space : SpaceWords) (words : List ℕ) → AreWords space 1 (length space.list) words → words ≡ space.list
all_words space words are =
    ext_get_or 0 words space.list are.count_is
    (λ i below.
    are.each i (let size = are.count_is in omega arith)
    ∙ ap (word_at space) (let next : 1 + i ≡ suc i = omega arith in next))

-- one word more was put back
pub put_more : {old now new : SpaceWords} (words : List ℕ) (from k : ℕ) {word : ℕ} → SetsWord now new (k + 1) word
    → word ≡ slice_index words (from + k) → PutsFirst old now words from k → PutsFirst old new words from (k + 1)
put_more {old} {now} {new} words from k {word} sets is puts =
    let next : k + 1 ≡ suc k = omega arith in
    let here : SetsWord now new (suc k) word = subst (λ (n : ℕ). SetsWord now new n word) next sets in
    record {
      size = here.size ∙ puts.size;
      used = here.used ∙ puts.used;
      first = λ i below. elim (cases_eq i k) [
        | inl same ↦ subst (λ (j : ℕ). slice_index new.list j ≡ slice_index words (from + j)) (sym same)
            (here.here ∙ is)
        | inr other ↦ here.others (suc i) (λ e. other (omega arith)) ∙ puts.first i (omega arith)
      ];
      after = λ i from_next. here.others (suc i) (λ e. omega arith) ∙ puts.after i (omega arith);
    }
