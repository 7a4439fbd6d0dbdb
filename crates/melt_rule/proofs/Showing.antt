-- Where each word of the table stands in the state that it shows, and what a change of one word of the table is to it.
use Rattle.std.proofs.Common.{◌≡◌, ◌≢◌, ℕ, zero, suc, ◌+◌, ◌<◌, ◌≤◌, List, [], ◌∷◌, length, get_or, take, drop}
use Rattle.std.proofs.Common.{refl, sym, ◌∙◌, ap, arith, inl, inr, zero-add}
use Rattle.std.proofs.Math.ListN.{set}
use Rattle.std.proofs.lemmas.Bool.{cases_lt, cases_eq}
use Rattle.std.proofs.lemmas.List.{get_or-set_same, get_or-set_other}
use Rattle.melt_space.specs.Space.{word_at}
use Rattle.melt_scion.specs.Changes.{SameWords, WordChanges, GlobalChanges, ForwardChanges, FreeMoves}
use Rattle.melt_rule.specs.Rule.{filled_count, filled_one}
use Rattle.melt_rule.specs.Shown.{shows, forwards_in, globals_in, space_in}
use Rattle.melt_rule.specs.Shown.{forward_place, free_place, global_place, globals_from, word_place}
use Rattle.melt_rule.specs.declared.began.Began.{Began}

-- a number of a list after so many others
get_drop : (n : ℕ) (xs : List ℕ) (i : ℕ) → get_or (drop n xs) i 0 ≡ get_or xs (n + i) 0
get_drop zero xs i = ap (λ (k : ℕ). get_or xs k 0) (sym (zero-add i))
get_drop (suc n) [] i = refl
get_drop (suc n) (x ∷ xs) i =
    get_drop n xs i ∙ ap (λ (k : ℕ). get_or (x ∷ xs) k 0) (let e : suc (n + i) ≡ suc n + i = omega arith in e)

-- a number of the first so many
get_take : (n : ℕ) (xs : List ℕ) (i : ℕ) → i < n → get_or (take n xs) i 0 ≡ get_or xs i 0
get_take zero xs i below = absurd (omega arith)
get_take (suc n) [] i below = refl
get_take (suc n) (x ∷ xs) zero below = refl
get_take (suc n) (x ∷ xs) (suc i) below = get_take n xs i (omega arith)

past_take : (n : ℕ) (xs : List ℕ) (i : ℕ) → n ≤ i → get_or (take n xs) i 0 ≡ 0
past_take zero xs i past = refl
past_take (suc n) [] i past = refl
past_take (suc n) (x ∷ xs) zero past = absurd (omega arith)
past_take (suc n) (x ∷ xs) (suc i) past = past_take n xs i (omega arith)

-- numbers of a stretch of a list are the same where the list is, but for one place
stretch_other : (from n : ℕ) (xs : List ℕ) (at x i : ℕ) → (i < n → from + i ≢ at)
    → get_or (take n (drop from (set xs at x))) i 0 ≡ get_or (take n (drop from xs)) i 0
stretch_other from n xs at x i other = elim (cases_lt i n) [
  | inl below ↦
      get_take n (drop from (set xs at x)) i below
      ∙ (get_drop from (set xs at x) i
      ∙ (get_or-set_other xs at (from + i) x 0 (other below)
      ∙ (sym (get_drop from xs i) ∙ sym (get_take n (drop from xs) i below))))
  | inr past ↦ past_take n (drop from (set xs at x)) i past ∙ sym (past_take n (drop from xs) i past)
]

stretch_here : (from n : ℕ) (xs : List ℕ) (x i : ℕ) → i < n → from + i < length xs
    → get_or (take n (drop from (set xs (from + i) x))) i 0 ≡ x
stretch_here from n xs x i below within =
    get_take n (drop from (set xs (from + i) x)) i below
    ∙ (get_drop from (set xs (from + i) x) i ∙ get_or-set_same xs (from + i) x 0 within)

module _ (b : Began) (words : List ℕ) where
  -- so many words stand before those of the space
  abbrev words_before : ℕ
  words_before = globals_from + b.globals + b.forwards

  place_is : (k : ℕ) → words_before + k ≡ word_place b (suc k)
  place_is k = omega arith

  pub word_is : (address : ℕ) → 1 ≤ address → word_at (space_in b words) address ≡ get_or words (word_place b address) 0
  word_is zero first = absurd (omega arith)
  word_is (suc k) first = get_drop words_before words k ∙ ap (λ (n : ℕ). get_or words n 0) (place_is k)

  pub global_is : (g : ℕ) → g < b.globals → get_or (globals_in b words) g 0 ≡ get_or words (global_place g) 0
  global_is g below = get_take b.globals (drop globals_from words) g below ∙ get_drop globals_from words g

  pub forward_is : (p : ℕ) → p < b.forwards → get_or (forwards_in b words) p 0 ≡ get_or words (forward_place b p) 0
  forward_is p below = get_take b.forwards (drop (globals_from + b.globals) words) p below
      ∙ get_drop (globals_from + b.globals) words p

  -- a word of the space stays where another is set
  space_other : (at x address : ℕ) → (1 ≤ address → word_place b address ≢ at)
      → word_at (space_in b (set words at x)) address ≡ word_at (space_in b words) address
  space_other at x zero other = refl
  space_other at x (suc k) other =
      get_drop words_before (set words at x) k
      ∙ (get_or-set_other words at (words_before + k) x 0 (λ same. other (omega arith) (sym (place_is k) ∙ same))
      ∙ sym (get_drop words_before words k))

  space_here : (x address : ℕ) → 1 ≤ address → word_place b address < length words
      → word_at (space_in b (set words (word_place b address) x)) address ≡ x
  space_here x zero first within = absurd (omega arith)
  space_here x (suc k) first within =
      get_drop words_before (set words (word_place b (suc k)) x) k
      ∙ (ap (λ (n : ℕ). get_or (set words (word_place b (suc k)) x) n 0) (place_is k)
      ∙ get_or-set_same words (word_place b (suc k)) x 0 within)

  -- a word of the space is set
  pub word_changes : (address x : ℕ) → 1 ≤ address → word_place b address < length words
      → WordChanges (shows b words) (shows b (set words (word_place b address) x)) address x
  word_changes address x first within = record {
    base = refl;
    free = get_or-set_other words (word_place b address) free_place x 0 (λ same. omega arith);
    here = space_here x address first within;
    others = λ k other. space_other (word_place b address) x k (λ from same. other (omega arith));
    global = λ g. stretch_other globals_from b.globals words (word_place b address) x g (λ below same. omega arith);
    forward = λ p. stretch_other (globals_from + b.globals) b.forwards words (word_place b address) x p
        (λ below same. omega arith);
  }

  -- a global is set
  pub global_changes : (g x : ℕ) → g < b.globals → global_place g < length words
      → GlobalChanges (shows b words) (shows b (set words (global_place g) x)) g x
  global_changes g x below within = record {
    base = refl;
    free = get_or-set_other words (global_place g) free_place x 0 (λ same. omega arith);
    word_stays = λ k. space_other (global_place g) x k (λ from same. omega arith);
    here = stretch_here globals_from b.globals words x g below within;
    others = λ k other. stretch_other globals_from b.globals words (global_place g) x k
        (λ under same. other (omega arith));
    forward = λ p. stretch_other (globals_from + b.globals) b.forwards words (global_place g) x p
        (λ under same. omega arith);
  }

  -- a forwarding word is set
  pub forward_changes : (p x : ℕ) → p < b.forwards → forward_place b p < length words
      → ForwardChanges (shows b words) (shows b (set words (forward_place b p) x)) p x
  forward_changes p x below within = record {
    base = refl;
    free = get_or-set_other words (forward_place b p) free_place x 0 (λ same. omega arith);
    word_stays = λ k. space_other (forward_place b p) x k (λ from same. omega arith);
    global = λ g. stretch_other globals_from b.globals words (forward_place b p) x g (λ under same. omega arith);
    here = stretch_here (globals_from + b.globals) b.forwards words x p below within;
    others = λ k other. stretch_other (globals_from + b.globals) b.forwards words (forward_place b p) x k
        (λ under same. other (omega arith));
  }

  -- the stop word is set, which the state does not show
  pub stop_sets : (x : ℕ) → SameWords (shows b words) (shows b (set words 0 x))
  stop_sets x = record {
    base = refl;
    free = get_or-set_other words 0 free_place x 0 (λ same. omega arith);
    word = λ k. space_other 0 x k (λ from same. omega arith);
    global = λ g. stretch_other globals_from b.globals words 0 x g (λ below same. omega arith);
    forward = λ p. stretch_other (globals_from + b.globals) b.forwards words 0 x p (λ below same. omega arith);
  }

  -- the first free place moves on
  pub free_moves : (free : ℕ) → free_place < length words
      → FreeMoves (shows b words) (shows b (set words free_place free)) free
  free_moves free within = record {
    base = refl;
    is = get_or-set_same words free_place free 0 within;
    word = λ k. space_other free_place free k (λ from same. omega arith);
    global = λ g. stretch_other globals_from b.globals words free_place free g (λ below same. omega arith);
    forward = λ p. stretch_other (globals_from + b.globals) b.forwards words free_place free p
        (λ below same. omega arith);
  }

-- as many words are filled where all of them are the same
pub filled_same : (old new : ℕ → ℕ) (n : ℕ) → ((p : ℕ) → p < n → new p ≡ old p)
    → filled_count new n ≡ filled_count old n
filled_same old new zero same = refl
filled_same old new (suc n) same =
    ap (λ (k : ℕ). k + filled_one (new n)) (filled_same old new n (λ p below. same p (omega arith)))
    ∙ ap (λ (k : ℕ). filled_count old n + filled_one k) (same n (omega arith))

filled_some : (word : ℕ) → word ≢ 0 → filled_one word ≡ 1
filled_some zero some = absurd (some refl)
filled_some (suc word) some = refl

-- one word more is filled where one of them was empty, and alone is set
pub filled_more : (old new : ℕ → ℕ) (n at : ℕ) → at < n → old at ≡ 0 → new at ≢ 0
    → ((p : ℕ) → p ≢ at → new p ≡ old p) → filled_count new n ≡ filled_count old n + 1
filled_more old new zero at below empty some same = absurd (omega arith)
filled_more old new (suc n) at below empty some same = elim (cases_eq at n) [
  | inl last ↦
      let before : filled_count new n ≡ filled_count old n = filled_same old new n
      (λ p less. same p (λ is. omega arith)) in
      let was : filled_one (old n) ≡ 0 = ap (λ (p : ℕ). filled_one (old p)) (sym last) ∙ ap filled_one empty in
      let now : filled_one (new n) ≡ 1 =
      ap (λ (p : ℕ). filled_one (new p)) (sym last) ∙ filled_some (new at) some in
      omega arith
  | inr other ↦
      let before : filled_count new n ≡ filled_count old n + 1 = filled_more old new n at
      (omega arith) empty some same in
      let last : filled_one (new n) ≡ filled_one (old n) = ap filled_one (same n (λ is. other (sym is))) in
      omega arith
]
