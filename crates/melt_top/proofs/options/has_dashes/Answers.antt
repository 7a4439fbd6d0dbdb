use Rattle.std.proofs.Common.{◌≡◌, ◌+◌, ◌∷◌, ◌||◌, [], List, ℕ, true, false, drop, map, string_bytes, sym, ap, ◌∙◌}
use Rattle.std.proofs.Common.{drop_of_length-le, subst}
use Rattle.std.specs.List.{list_any}
use Rattle.std.specs.Str.{bytes_eq, IsUtf8}
use Rattle.melt_top.specs.Words.{parts_options}
use Rattle.melt_top.proofs.Parsing.{here_and_after, words_from}
use Rattle.melt_top.proofs.options.has_dashes.Goals as goal

pub returns-then-eq-clause-value : goal.returns-then-eq-clause-value
returns-then-eq-clause-value c =
    let words = c.args.words.now in
    let i = c.loop-word.word-index in
    let here = here_and_after words i c.word-item.result c.loop-word-test.true c.word-item.is in
    let dashes : parts_options (string_bytes c.word-item.result) ≡ true =
    ap (λ (t : List ℕ). bytes_eq t (45 ∷ 45 ∷ [])) (sym c.as_str.ensures.value) ∙ sym c.eq.ensures ∙ c.if-eq.true in
    sym (c.loop-word.invariant.same ∙ ap (λ ws. list_any parts_options (map string_bytes ws)) here
    ∙ ap (λ b. b || list_any parts_options (map string_bytes (drop (i + 1) words))) dashes)

pub loop-word-preserved : goal.loop-word-preserved
loop-word-preserved c =
    let words = c.args.words.now in
    let i = c.loop-word.word-index in
    let here = here_and_after words i c.word-item.result c.loop-word-test.true c.word-item.is in
    let dashes : parts_options (string_bytes c.word-item.result) ≡ false =
    ap (λ (t : List ℕ). bytes_eq t (45 ∷ 45 ∷ [])) (sym c.as_str.ensures.value) ∙ sym c.eq.ensures ∙ c.if-eq.false in
    let utf8 = subst IsUtf8 c.as_str.ensures.value c.as_str.utf8 in
    record {
      same = c.loop-word.invariant.same ∙ ap (λ ws. list_any parts_options (map string_bytes ws)) here
          ∙ ap (λ b. b || list_any parts_options (map string_bytes (drop (i + 1) words))) dashes;
      words = λ rest. c.loop-word.invariant.words
          (words_from string_bytes words i c.word-item.result here (dashes, utf8) rest);
    }

pub returns : goal.returns
returns c =
    let none = drop_of_length-le c.args.words.now c.loop-word-test.false in
    record {
      value = sym (c.loop-word.invariant.same ∙ ap (λ ws. list_any parts_options (map string_bytes ws)) none);
      words = c.loop-word.invariant.words (rw none tt);
    }
