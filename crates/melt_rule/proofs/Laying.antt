-- Where the parts of a heap stand among the words of an epoch, and what those words show.
use Rattle.std.proofs.Common.{◌≡◌, ℕ, zero, suc, ◌+◌, ◌-◌, List, ◌++◌, length, take, drop, get_or}
use Rattle.std.proofs.Common.{refl, sym, ◌∙◌, ap, arith}
use Rattle.std.proofs.Math.Seq.{take-append_seam, take-length, drop-append_seam, drop-append-add}
use Rattle.std.proofs.lemmas.List.{length-drop}
use Rattle.std.specs.Prelude.{slice_index}
use Rattle.melt_space.specs.Space.{SpaceWords, word_at}
use Rattle.melt_scion.specs.State.{State}
use Rattle.melt_rule.specs.Shown.{base_at, forwards_in, free_place, leading_words, globals_from, globals_in, space_in}
use Rattle.melt_rule.specs.Shown.{shows}
use Rattle.melt_rule.specs.declared.began.Began.{Began}

-- the stop word, the first free place, globals, forwarding words and the words of the space, as an epoch has them
abbrev pub laid_out : ℕ → ℕ → List ℕ → List ℕ → List ℕ → List ℕ
laid_out stop free globals forwards space = leading_words stop free ++ (globals ++ (forwards ++ space))

-- the state of these parts, registers aside
abbrev pub state_by : Began → ℕ → List ℕ → List ℕ → SpaceWords → State
state_by b free globals forwards space = record {
  base = base_at b;
  free = free;
  word = word_at space;
  global = slice_index globals;
  forward = slice_index forwards;
  register = λ t r. 0;
}

same_word : (s t : SpaceWords) → s.list ≡ t.list → (address : ℕ) → word_at s address ≡ word_at t address
same_word s t same zero = refl
same_word s t same (suc k) = ap (λ (l : List ℕ). get_or l k 0) same

-- how many words of a space are in use says nothing of them
pub same_words : (s t : SpaceWords) → s.list ≡ t.list → word_at s ≡ word_at t
same_words s t same = λ k address. same_word s t same address k

module _ (b : Began) (stop free : ℕ) (globals forwards : List ℕ) (space : SpaceWords)
    (globals_are : length globals ≡ b.globals) (forwards_are : length forwards ≡ b.forwards) where
  abbrev words : List ℕ
  words = laid_out stop free globals forwards space.list

  abbrev after : List ℕ
  after = globals ++ (forwards ++ space.list)

  pub globals_laid : globals_in b words ≡ globals
  globals_laid =
      ap (λ (n : ℕ). take n after) (sym globals_are) ∙ take-append_seam globals (forwards ++ space.list)

  pub forwards_laid : forwards_in b words ≡ forwards
  forwards_laid =
      let from : globals_from + b.globals ≡ length (leading_words stop free) + length globals = omega arith in
      ap (λ (n : ℕ). take b.forwards (drop n words)) from
      ∙ (ap (λ (l : List ℕ). take b.forwards l) (drop-append-add (leading_words stop free) after (length globals)
      ∙ drop-append_seam globals (forwards ++ space.list))
      ∙ (ap (λ (n : ℕ). take n (forwards ++ space.list)) (sym forwards_are)
      ∙ take-append_seam forwards space.list))

  pub space_laid : (space_in b words).list ≡ space.list
  space_laid =
      let from : globals_from + b.globals + b.forwards
      ≡ length (leading_words stop free) + (length globals + length forwards) = omega arith in
      ap (λ (n : ℕ). drop n words) from
      ∙ (drop-append-add (leading_words stop free) after (length globals + length forwards)
      ∙ (drop-append-add globals (forwards ++ space.list) (length forwards)
      ∙ drop-append_seam forwards space.list))

  -- the words show the state of the parts
  pub parts_shown : shows b words ≡ state_by b free globals forwards space
  parts_shown = λ k. record {
    base = base_at b;
    free = free;
    word = same_words (space_in b words) space space_laid k;
    global = slice_index (globals_laid k);
    forward = slice_index (forwards_laid k);
    register = λ t r. 0;
  }

-- and back: what is copied from the words of an epoch, part by part, is of the state that they show
pub shown_by_parts : (b : Began) (words : List ℕ) (space : SpaceWords)
    → length words ≡ globals_from + b.globals + b.forwards + b.size
    → space.list ≡ take b.size (drop (globals_from + b.globals + b.forwards) words)
    → shows b words ≡ state_by b (slice_index words free_place) (globals_in b words) (forwards_in b words) space
shown_by_parts b words space size is =
    let all : List ℕ = drop (globals_from + b.globals + b.forwards) words in
    let left : length all ≡ length words - (globals_from + b.globals + b.forwards) =
    length-drop (globals_from + b.globals + b.forwards) words in
    let as_many : b.size ≡ length all = omega arith in
    let whole : all ≡ space.list = sym (is ∙ (ap (λ (n : ℕ). take n all) as_many ∙ take-length all)) in
    λ k. record {
      base = base_at b;
      free = slice_index words free_place;
      word = same_words (space_in b words) space whole k;
      global = slice_index (globals_in b words);
      forward = slice_index (forwards_in b words);
      register = λ t r. 0;
    }
