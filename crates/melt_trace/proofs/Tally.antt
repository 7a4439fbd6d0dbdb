-- How many operations a program has, counted line by line.
use Rattle.std.proofs.Common.{◌≡◌, ℕ, zero, suc, ◌+◌, ◌*◌, ◌^◌, ◌<◌, ◌≤◌, Bool, List, [], ◌∷◌, ◌++◌, length, map, refl}
use Rattle.std.proofs.Common.{sym, ap, subst, ◌∙◌, append_assoc, length-append, mul-le-mul_left, arith, inl, inr}
use Rattle.std.specs.Prelude.{unwrap_or, slice_get}
use Rattle.std.proofs.lemmas.List.{append-nil}
use Rattle.std.proofs.lemmas.Bool.{cases_lt, lt-ltb}
use Rattle.melt_model.specs.declared.operations.Op.{Op}
use Rattle.melt_trace.specs.declared.script.Item.{Item}
use Rattle.melt_trace.specs.declared.script.Item.TheVariants as item
use Rattle.melt_trace.specs.declared.parser.draft.Block.{Block}
use Rattle.melt_trace.specs.Script.{times, before_first, unrolled, levels, expand}
use Rattle.melt_trace.specs.Language.{with_operation}
use Rattle.melt_trace.specs.Drafts.{blocks_of, lengths_of, add_first, copies, closing, CountsOperations, capped}
use Rattle.melt_trace.specs.Drafts.{AreCapped}
use Rattle.melt_trace.specs.Drafts.{IsTallied}

-- ---- the lengths of levels

length-times : (n : ℕ) (block : List Op) → length (times n block) ≡ n * length block
length-times zero block = omega arith
length-times (suc n) block = omega (arith, length-append block (times n block), length-times n block)

lengths_before : (o : Op) (ls : List (List Op)) → map length (before_first o ls) ≡ add_first 1 (map length ls)
lengths_before o [] = refl
lengths_before o (ops ∷ around) = ap (λ (n : ℕ). n ∷ map length around) (omega arith)

lengths_unrolled : (n : ℕ) (ls : List (List Op)) → map length (unrolled n ls) ≡ copies n (map length ls)
lengths_unrolled n [] = refl
lengths_unrolled n (block ∷ []) = refl
lengths_unrolled n (block ∷ rest ∷ around) =
    ap (λ (k : ℕ). k ∷ map length around) (omega (arith, length-append (times n block) rest, length-times n block))

-- a program has at least its own level
some_before : (o : Op) (ls : List (List Op)) (l : List Op) (around : List (List Op)) → ls ≡ l ∷ around
    → before_first o ls ≡ (o ∷ l) ∷ around
some_before o ls l around e = ap (before_first o) e

some_unrolled : (n : ℕ) (l : List Op) (around : List (List Op))
    → (k : List Op) × (others : List (List Op)) × (unrolled n (l ∷ around) ≡ k ∷ others)
some_unrolled n l [] = (l, [], refl)
some_unrolled n l (rest ∷ around) = (times n l ++ rest, around, refl)

some_level : (items : List Item) → (l : List Op) × (around : List (List Op)) × (levels items ≡ l ∷ around)
some_level [] = ([], [], refl)
some_level (item.Op o ∷ items) =
    let next = some_level items in
    (o ∷ next.0, next.1, ap (before_first o) next.2)
some_level (item.End ∷ items) = ([], levels items, refl)
some_level (item.Repeat n ∷ items) =
    let next = some_level items in
    let more = some_unrolled n next.0 next.1 in
    (more.0, more.1, ap (unrolled n) next.2 ∙ more.2)

-- ---- exact counts

add_none : (ls : List ℕ) → ls ≡ add_first 0 ls
add_none [] = refl
add_none (l ∷ ls) = ap (λ (n : ℕ). n ∷ ls) (omega arith)

add_both : (m n : ℕ) (ls : List ℕ) → add_first m (add_first n ls) ≡ add_first (m + n) ls
add_both m n [] = refl
add_both m n (l ∷ ls) = ap (λ (k : ℕ). k ∷ ls) (omega arith)

closing_more : (count n : ℕ) (around : List (ℕ × ℕ)) (ls : List ℕ)
    → closing count around (add_first n ls) ≡ closing (count + n) around ls
closing_more count n [] ls = add_both count n ls
closing_more count n (block ∷ around) ls =
    ap (λ (k : List ℕ). closing block.1 around (copies block.0 k)) (add_both count n ls)

-- one line more
with_line : (items : List Item) (i : Item) (count : ℕ) (around : List (ℕ × ℕ)) → CountsOperations items count around
    → (rest : List Item) → lengths_of ((items ++ i ∷ []) ++ rest) ≡ closing count around (lengths_of (i ∷ rest))
with_line items i count around h rest = ap lengths_of (append_assoc items (i ∷ []) rest) ∙ h (i ∷ rest)

counts_none : CountsOperations [] 0 []
counts_none rest = add_none (lengths_of rest)

counts_operation : (items : List Item) (o : Op) (count : ℕ) (around : List (ℕ × ℕ))
    → CountsOperations items count around
    → CountsOperations (items ++ item.Op o ∷ []) (count + 1) around
counts_operation items o count around h rest =
    with_line items (item.Op o) count around h rest
    ∙ ap (closing count around) (lengths_before o (levels rest))
    ∙ closing_more count 1 around (lengths_of rest)

counts_repeat : (items : List Item) (n count : ℕ) (around : List (ℕ × ℕ)) → CountsOperations items count around
    → CountsOperations (items ++ item.Repeat n ∷ []) 0 ((n, count) ∷ around)
counts_repeat items n count around h rest =
    with_line items (item.Repeat n) count around h rest
    ∙ ap (closing count around) (lengths_unrolled n (levels rest))
    ∙ ap (λ (ls : List ℕ). closing count around (copies n ls)) (add_none (lengths_of rest))

block_ends : (n count : ℕ) (ls : List (List Op)) (l : List Op) (around : List (List Op)) → ls ≡ l ∷ around
    → copies n (add_first count (0 ∷ map length ls)) ≡ add_first (n * count) (map length ls)
block_ends n count ls l around e =
    let zero : count + 0 ≡ count = omega arith in
    ap (λ (k : List (List Op)). copies n (add_first count (0 ∷ map length k))) e
    ∙ ap (λ (k : ℕ). (n * k + length l) ∷ map length around) zero
    ∙ ap (λ (k : List (List Op)). add_first (n * count) (map length k)) (sym e)

counts_end : (items : List Item) (n count outer : ℕ) (around : List (ℕ × ℕ))
    → CountsOperations items count ((n, outer) ∷ around)
    → CountsOperations (items ++ item.End ∷ []) (outer + n * count) around
counts_end items n count outer around h rest =
    let level = some_level rest in
    with_line items item.End count ((n, outer) ∷ around) h rest
    ∙ ap (closing outer around) (block_ends n count (levels rest) level.0 level.1 level.2)
    ∙ closing_more outer (n * count) around (lengths_of rest)

first_length : (ls : List (List Op)) (k : ℕ) → map length ls ≡ k ∷ [] → length (unwrap_or (slice_get ls 0) []) ≡ k
first_length [] k e = absurd cc
first_length (l ∷ ls) k e = cc

counts_done : (items : List Item) (count : ℕ) → CountsOperations items count [] → length (expand items) ≡ count
counts_done items count h =
    let whole : lengths_of items ≡ (count + 0) ∷ [] = sym (ap lengths_of (append-nil items)) ∙ h [] in
    omega (arith, first_length (levels items) (count + 0) whole)

-- ---- counts that stay at their highest

capped_more : (outer n count : ℕ) → 0 < n → capped (capped outer + capped (n * capped count))
    ≡ capped (outer + n * count)
capped_more outer n count some =
    elim (cases_lt count (2 ^ 32)) [
      | inl lt ↦
          let same : capped count ≡ count = omega arith in
          ap (λ (k : ℕ). capped (capped outer + capped (n * k))) same ∙ omega arith
      | inr le ↦
          let most : capped count ≡ 4294967295 = omega arith in
          let low : 1 * 4294967295 ≤ n * 4294967295 = omega arith in
          let high : n * 4294967296 ≤ n * count = mul-le-mul_left n le in
          ap (λ (k : ℕ). capped (capped outer + capped (n * k))) most ∙ omega arith
    ]

pub tallied_none : IsTallied [] 0 []
tallied_none = record { exact = 0; around = []; counts = counts_none; capped_count = refl; capped_blocks = tt }

pub tallied_operation : (items : List Item) (o : Op) (count : ℕ) (blocks : List Block) → IsTallied items count blocks
    → IsTallied (items ++ item.Op o ∷ []) (capped (count + 1)) blocks
tallied_operation items o count blocks h = record {
  exact = h.exact + 1;
  around = h.around;
  counts = counts_operation items o h.exact h.around h.counts;
  capped_count = omega (arith, h.capped_count);
  capped_blocks = h.capped_blocks;
}

pub tallied_repeat : (items : List Item) (n count : ℕ) (blocks : List Block) → 0 < n → IsTallied items count blocks
    → IsTallied (items ++ item.Repeat n ∷ []) 0 (record { times = n; before = count } ∷ blocks)
tallied_repeat items n count blocks some h = record {
  exact = 0;
  around = (n, h.exact) ∷ h.around;
  counts = counts_repeat items n h.exact h.around h.counts;
  capped_count = refl;
  capped_blocks = (refl, some, h.capped_count, h.capped_blocks);
}

-- what is known where a block is open
end_of : (items : List Item) (exact count : ℕ) (around : List (ℕ × ℕ)) (block : Block) (blocks : List Block)
    → CountsOperations items exact around → count ≡ capped exact → AreCapped around (block ∷ blocks)
    → (0 < block.times) × IsTallied (items ++ item.End ∷ []) (capped (block.before + capped (block.times * count)))
    blocks
end_of items exact count [] block blocks counts is h = absurd h
end_of items exact count (outer ∷ around) block blocks counts is h =
    let times : block.times ≡ outer.0 = h.0 in
    let before : block.before ≡ capped outer.1 = h.2 in
    let some : 0 < block.times = omega arith in (
      some,
      record {
        exact = outer.1 + block.times * exact;
        around = around;
        counts = counts_end items block.times exact outer.1 around
            (subst (λ (n : ℕ). CountsOperations items exact ((n, outer.1) ∷ around)) (sym times) counts);
        capped_count = ap (λ (k : ℕ). capped (k + capped (block.times * count))) before
            ∙ ap (λ (k : ℕ). capped (capped outer.1 + capped (block.times * k))) is
            ∙ capped_more outer.1 block.times exact some;
        capped_blocks = h.3;
      },
    )

pub tallied_end : (items : List Item) (count : ℕ) (block : Block) (blocks : List Block)
    → IsTallied items count (block ∷ blocks)
    → IsTallied (items ++ item.End ∷ []) (capped (block.before + capped (block.times * count))) blocks
tallied_end items count block blocks h =
    (end_of items h.exact count h.around block blocks h.counts h.capped_count h.capped_blocks).1

pub some_times : (items : List Item) (count : ℕ) (block : Block) (blocks : List Block)
    → IsTallied items count (block ∷ blocks) → 0 < block.times
some_times items count block blocks h =
    (end_of items h.exact count h.around block blocks h.counts h.capped_count h.capped_blocks).0

done_of : (items : List Item) (exact : ℕ) (around : List (ℕ × ℕ)) → CountsOperations items exact around
    → AreCapped around []
    → length (expand items) ≡ exact
done_of items exact [] counts h = counts_done items exact counts
done_of items exact (outer ∷ around) counts h = absurd h

pub tallied_done : (items : List Item) (count : ℕ) → IsTallied items count [] → count ≡ capped (length (expand items))
tallied_done items count h = omega (arith, h.capped_count, done_of items h.exact h.around h.counts h.capped_blocks)

-- ---- which blocks have an operation

pub blocks_with_operation : (count more : ℕ) (blocks : List Block) → 0 < more
    → with_operation (blocks_of count blocks) ≡ blocks_of more blocks
blocks_with_operation count more [] some = refl
blocks_with_operation count more (block ∷ blocks) some =
    ap (λ (b : Bool). b ∷ blocks_of block.before blocks) (sym (lt-ltb 0 more some))

pub some_more : (before n count : ℕ) → 0 < n → 0 < count → 0 < capped (before + capped (n * count))
some_more before n count some more =
    let product : n * 1 ≤ n * count = mul-le-mul_left n (omega arith) in
    omega arith
