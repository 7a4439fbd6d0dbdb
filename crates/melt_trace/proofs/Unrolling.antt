-- Each step of a cursor keeps what is left, but for the operation that it gives.
use Rattle.std.proofs.Common.{◌≡◌, ℕ, zero, suc, ◌+◌, ◌-◌, ◌<◌, ◌≤◌, Bool, true, false, cond, List, [], ◌∷◌, ◌++◌}
use Rattle.std.proofs.Common.{length, drop, get_or, Option, None, Some, refl, sym, ap, subst, ◌∙◌, arith, ltb}
use Rattle.std.specs.Prelude.{unwrap_or, slice_get}
use Rattle.std.proofs.lemmas.Option.{slice_get_within, slice_get_read, slice_get_past}
use borrow.Author.Tests.{ltb-true, ltb-false}
use Rattle.melt_model.specs.declared.operations.Op.{Op}
use Rattle.melt_trace.specs.declared.script.Item.{Item}
use Rattle.melt_trace.specs.declared.script.Item.TheVariants as item
use Rattle.melt_trace.specs.declared.blocks.Block.{Block}
use Rattle.melt_trace.specs.Script.{times, before_first, unrolled, levels, expand}
use Rattle.melt_trace.specs.Grammar.{InRange}
use Rattle.melt_trace.specs.Language.{with_operation, AreItems}
use Rattle.melt_trace.specs.Cursor.{Ahead, block_end, left_of, left_at, begins_block, is_entered, AreOpen, IsStillEmpty}
use Rattle.melt_trace.specs.Cursor.{IsUnderway}

-- ---- places of a list

drop-slice_get : {X : Type 0} (xs : List X) (i : ℕ) (x : X) → slice_get xs i ≡ Some x → drop i xs ≡ x ∷ drop (i + 1) xs
drop-slice_get [] i x e = absurd (cc)
drop-slice_get (y ∷ ys) zero x e = let same : y ≡ x = cc in ap (λ z. z ∷ ys) same
drop-slice_get (y ∷ ys) (suc i) x e =
    let same : suc (i + 1) ≡ suc i + 1 = omega arith in
    drop-slice_get ys i x e ∙ ap (λ (k : ℕ). x ∷ drop k (y ∷ ys)) same

-- ---- levels

length-with_operation : (marks : List Bool) → length (with_operation marks) ≡ length marks
length-with_operation [] = refl
length-with_operation (mark ∷ marks) = refl

length-before_first : (o : Op) (around : List (List Op)) → length (before_first o around) ≡ length around
length-before_first o [] = refl
length-before_first o (ops ∷ around) = refl

length-unrolled : (n k : ℕ) (around : List (List Op)) → length around ≡ k + 2 → length (unrolled n around) ≡ k + 1
length-unrolled n k [] e = absurd (omega (arith, e))
length-unrolled n k (block ∷ []) e = absurd (omega (arith, e))
length-unrolled n k (block ∷ rest ∷ around) e = omega (arith, e)

-- there is a level for each open block, and one for the program itself
length-levels : (globals : ℕ) (marks : List Bool) (items : List Item) → AreItems globals marks items
    → length (levels items) ≡ length marks + 1
length-levels globals marks [] are = omega (arith, ap length are)
length-levels globals marks (item.Op o ∷ items) are =
    omega (
      arith,
      length-before_first o (levels items),
      length-levels globals (with_operation marks) items are.1,
      length-with_operation marks,
    )
length-levels globals marks (item.Repeat n ∷ items) are =
    length-unrolled n (length marks) (levels items) (omega (arith, length-levels globals (false ∷ marks) items are.3))
length-levels globals [] (item.End ∷ items) are = absurd are
length-levels globals (false ∷ marks) (item.End ∷ items) are = absurd are
length-levels globals (true ∷ marks) (item.End ∷ items) are =
    omega (arith, length-levels globals (with_operation marks) items are, length-with_operation marks)

-- ---- what is left

left_of-op : (items : List Item) (blocks : List Block) (o : Op) (ops : List Op) (around : List (List Op))
    → left_of items blocks ((o ∷ ops) ∷ around) ≡ o ∷ left_of items blocks (ops ∷ around)
left_of-op items [] o ops around = refl
left_of-op items (block ∷ blocks) o ops [] = left_of-op items blocks o ops []
left_of-op items (block ∷ blocks) o ops (rest ∷ around) =
    left_of-op items blocks o (ops ++ times block.turns (expand (drop block.start items)) ++ rest) around

left_of-before_first : (items : List Item) (blocks : List Block) (o : Op) (around : List (List Op)) → 0 < length around
    → left_of items blocks (before_first o around) ≡ o ∷ left_of items blocks around
left_of-before_first items blocks o [] some = absurd (omega (arith, some))
left_of-before_first items blocks o (ops ∷ around) some = left_of-op items blocks o ops around

-- ---- open blocks

length-AreOpen : (globals : ℕ) (items : List Item) (blocks : List Block) (marks : List Bool) (around : List (List Op))
    → AreOpen globals items blocks marks around → length blocks ≡ length marks
length-AreOpen globals items [] marks around are = ap length (sym are)
length-AreOpen globals items (block ∷ blocks) [] around are = absurd are
length-AreOpen globals items (block ∷ blocks) (mark ∷ marks) around are =
    ap suc (length-AreOpen globals items blocks marks (drop 1 around) are.1)

AreOpen-with_operation : (globals : ℕ) (items : List Item) (blocks : List Block) (marks : List Bool)
    (around : List (List Op)) → AreOpen globals items blocks marks around
    → AreOpen globals items blocks (with_operation marks) around
AreOpen-with_operation globals items [] marks around are = ap with_operation are
AreOpen-with_operation globals items (block ∷ blocks) [] around are = absurd are
AreOpen-with_operation globals items (block ∷ blocks) (mark ∷ marks) around are = are

-- what is left of the innermost block does not matter
AreOpen-first : (globals : ℕ) (items : List Item) (blocks : List Block) (marks : List Bool)
    (here others : List (List Op)) → drop 1 here ≡ drop 1 others → AreOpen globals items blocks marks here
    → AreOpen globals items blocks marks others
AreOpen-first globals items [] marks here others same are = are
AreOpen-first globals items (block ∷ blocks) [] here others same are = are
AreOpen-first globals items (block ∷ blocks) (mark ∷ marks) here others same are = (
  record { lines = are.0.lines; around = are.0.around ∙ same; entered = are.0.entered },
  subst (AreOpen globals items blocks marks) same are.1,
)

AreOpen-before_first : (globals : ℕ) (items : List Item) (blocks : List Block) (marks : List Bool) (o : Op)
    (around : List (List Op)) → AreOpen globals items blocks marks (before_first o around)
    → AreOpen globals items blocks marks around
AreOpen-before_first globals items blocks marks o [] are = are
AreOpen-before_first globals items blocks marks o (ops ∷ around) are =
    AreOpen-first globals items blocks marks ((o ∷ ops) ∷ around) (ops ∷ around) refl are

-- ---- a block, and its end

times-first : (n : ℕ) (ops : List Op) → 0 < n → times n ops ≡ ops ++ times (n - 1) ops
times-first zero ops some = absurd (omega (arith, some))
times-first (suc n) ops some = let same : n ≡ suc n - 1 = omega arith in ap (λ k. ops ++ times k ops) same

cons_first : (around : List (List Op)) → 0 < length around → around ≡ unwrap_or (slice_get around 0) [] ∷ drop 1 around
cons_first [] some = absurd (omega (arith, some))
cons_first (ops ∷ around) some = refl

left_of-repeat : (items : List Item) (blocks : List Block) (start n k : ℕ) (around : List (List Op)) → 0 < n
    → length around ≡ k + 2 → expand (drop start items) ≡ unwrap_or (slice_get around 0) []
    → left_of items (record { start = start; turns = n - 1 } ∷ blocks) around ≡ left_of items blocks (unrolled n around)
left_of-repeat items blocks start n k [] some e is = absurd (omega (arith, e))
left_of-repeat items blocks start n k (block ∷ []) some e is = absurd (omega (arith, e))
left_of-repeat items blocks start n k (block ∷ rest ∷ around) some e is =
    ap (λ (ops : List Op). left_of items blocks (((block ++ times (n - 1) ops) ++ rest) ∷ around)) is
    ∙ ap (λ (ops : List Op). left_of items blocks ((ops ++ rest) ∷ around)) (sym (times-first n block some))

AreOpen-unrolled : (globals : ℕ) (items : List Item) (blocks : List Block) (marks : List Bool) (n : ℕ)
    (around : List (List Op)) → 2 ≤ length around → AreOpen globals items blocks marks (unrolled n around)
    → AreOpen globals items blocks marks (drop 1 around)
AreOpen-unrolled globals items blocks marks n [] e are = absurd (omega (arith, e))
AreOpen-unrolled globals items blocks marks n (block ∷ []) e are = absurd (omega (arith, e))
AreOpen-unrolled globals items blocks marks n (block ∷ rest ∷ around) e are =
    AreOpen-first globals items blocks marks ((times n block ++ rest) ∷ around) (rest ∷ around) refl are

left_of-leave : (items : List Item) (block : Block) (blocks : List Block) (around : List (List Op)) → 0 < length around
    → block.turns ≡ 0 → left_of items blocks around ≡ left_of items (block ∷ blocks) ([] ∷ around)
left_of-leave items block blocks [] some none = absurd (omega (arith, some))
left_of-leave items block blocks (rest ∷ around) some none =
    ap (λ (n : ℕ). left_of items blocks ((times n (expand (drop block.start items)) ++ rest) ∷ around)) (sym none)

left_of-again : (items : List Item) (block : Block) (blocks : List Block) (around : List (List Op)) → 0 < length around
    → 0 < block.turns → levels (drop block.start items) ≡ expand (drop block.start items) ∷ around
    → left_at items (record { start = block.start; turns = block.turns - 1 } ∷ blocks) block.start
    ≡ left_of items (block ∷ blocks) ([] ∷ around)
left_of-again items block blocks [] some more is = absurd (omega (arith, some))
left_of-again items block blocks (rest ∷ around) some more is =
    let ops : List Op = expand (drop block.start items) in
    ap (left_of items (record { start = block.start; turns = block.turns - 1 } ∷ blocks)) is
    ∙ ap (λ (again : List Op). left_of items blocks ((again ++ rest) ∷ around)) (sym (times-first block.turns ops more))

-- ---- one line

is_entered-next : (items : List Item) (at : ℕ) → is_entered items (at + 1) ≡ begins_block (slice_get items at)
is_entered-next items at = let same : (at + 1) - 1 ≡ at =
    omega arith in ap (λ (k : ℕ). begins_block (slice_get items k)) same

-- A bound on the lines before the next operation: only such as begin a block, or the ends of some and then those.
abbrev pub lines_to_operation : List Item → ℕ → ℕ
lines_to_operation items at = cond (is_entered items at) 0 (length items + 1) + (length items - at)

pub record AtOperation (globals : ℕ) (items : List Item) (blocks : List Block) (at : ℕ) (o : Op) : Type 0 where
  pub left : left_at items blocks at ≡ o ∷ left_at items blocks (at + 1)
  pub underway : IsUnderway globals items blocks (at + 1)
  pub in_range : InRange globals o

pub at_operation : (globals : ℕ) (items : List Item) (blocks : List Block) (at : ℕ) (o : Op)
    → IsUnderway globals items blocks at → slice_get items at ≡ Some (item.Op o) → AtOperation globals items blocks at o
at_operation globals items blocks at o way is =
    let rest : List Item = drop (at + 1) items in
    let e : drop at items ≡ item.Op o ∷ rest = drop-slice_get items at (item.Op o) is in
    let lines : AreItems globals way.marks (item.Op o ∷ rest) = subst (AreItems globals way.marks) e way.lines in
    let some : 0 < length (levels rest) =
    omega (arith, length-levels globals (with_operation way.marks) rest lines.1) in
    let opened : AreOpen globals items blocks way.marks (before_first o (levels rest)) =
    subst (λ (r : List Item). AreOpen globals items blocks way.marks (levels r)) e way.opened in
    let entered : is_entered items (at + 1) ≡ false = is_entered-next items at ∙ ap begins_block is in
    record {
      left = ap (λ (r : List Item). left_of items blocks (levels r)) e
          ∙ left_of-before_first items blocks o (levels rest) some;
      underway = record {
        marks = with_operation way.marks;
        lines = lines.1;
        opened = AreOpen-with_operation globals items blocks way.marks (levels rest)
            (AreOpen-before_first globals items blocks way.marks o (levels rest) opened);
        fresh = λ yes. absurd (cc);
      };
      in_range = lines.0;
    }

pub record AtRepeat (globals : ℕ) (items : List Item) (blocks : List Block) (at n : ℕ) : Type 0 where
  pub few : length blocks < 4
  pub some : 0 < n
  pub left : left_at items (record { start = at + 1; turns = n - 1 } ∷ blocks) (at + 1) ≡ left_at items blocks at
  pub underway : IsUnderway globals items (record { start = at + 1; turns = n - 1 } ∷ blocks) (at + 1)
  pub smaller : lines_to_operation items (at + 1) < lines_to_operation items at

pub at_repeat : (globals : ℕ) (items : List Item) (blocks : List Block) (at n : ℕ) → IsUnderway globals items blocks at
    → slice_get items at ≡ Some (item.Repeat n) → AtRepeat globals items blocks at n
at_repeat globals items blocks at n way is =
    let rest : List Item = drop (at + 1) items in
    let e : drop at items ≡ item.Repeat n ∷ rest = drop-slice_get items at (item.Repeat n) is in
    let lines : AreItems globals way.marks (item.Repeat n ∷ rest) = subst (AreItems globals way.marks) e way.lines in
    let two : length (levels rest) ≡ length way.marks + 2 =
    omega (arith, length-levels globals (false ∷ way.marks) rest lines.3) in
    let opened : AreOpen globals items blocks way.marks (unrolled n (levels rest)) =
    subst (λ (r : List Item). AreOpen globals items blocks way.marks (levels r)) e way.opened in
    let entered : is_entered items (at + 1) ≡ true = is_entered-next items at ∙ ap begins_block is in
    let within : at < length items = slice_get_within items at (item.Repeat n) is in
    record {
      few = omega (arith, length-AreOpen globals items blocks way.marks (levels (drop at items)) way.opened, lines.2);
      some = lines.0;
      left = left_of-repeat items blocks (at + 1) n (length way.marks) (levels rest) lines.0 two refl
          ∙ ap (λ (r : List Item). left_of items blocks (levels r)) (sym e);
      underway = record {
        marks = false ∷ way.marks;
        lines = lines.3;
        opened = (
          record { lines = lines.3; around = refl; entered = entered },
          AreOpen-unrolled globals items blocks way.marks n (levels rest) (omega (arith, two)) opened,
        );
        fresh = λ yes. tt;
      };
      smaller = rw entered (omega arith);
    }

-- what the end of the innermost block leads to
pub record Leads (globals : ℕ) (items : List Item) (blocks : List Block) (at : ℕ) (end : Option ℕ
    × List Block) : Type 0 where
  pub left : left_at items end.1 (unwrap_or end.0 (at + 1)) ≡ left_at items blocks at
  pub underway : IsUnderway globals items end.1 (unwrap_or end.0 (at + 1))
  pub smaller : lines_to_operation items (unwrap_or end.0 (at + 1)) < lines_to_operation items at

leads : {globals : ℕ} (items : List Item) (block : Block) (blocks : List Block) (marks : List Bool) (at : ℕ)
    (more : Bool) → ltb 0 block.turns ≡ more → slice_get items at ≡ Some item.End → is_entered items at ≡ false
    → AreItems globals (with_operation marks) (drop (at + 1) items)
    → AreOpen globals items (block ∷ blocks) (true ∷ marks) ([] ∷ levels (drop (at + 1) items))
    → Leads globals items (block ∷ blocks) at
    (cond more (Some block.start, record { start = block.start; turns = block.turns - 1 } ∷ blocks) (None, blocks))
leads {globals} items block blocks marks at true more is old lines are =
    let rest : List Item = drop (at + 1) items in
    let e : drop at items ≡ item.End ∷ rest = drop-slice_get items at item.End is in
    let some : 0 < length (levels rest) = omega (arith, length-levels globals (with_operation marks) rest lines) in
    let begun : 0 < length (levels (drop block.start items)) =
    omega (arith, length-levels globals (false ∷ marks) (drop block.start items) are.0.lines) in
    let body : levels (drop block.start items) ≡ expand (drop block.start items) ∷ levels rest =
    cons_first (levels (drop block.start items)) begun
    ∙ ap (λ (around : List (List Op)). expand (drop block.start items) ∷ around) are.0.around in
    let entered : is_entered items block.start ≡ true = are.0.entered in
    record {
      left = left_of-again items block blocks (levels rest) some (ltb-true 0 block.turns more) body
          ∙ ap (λ (r : List Item). left_of items (block ∷ blocks) (levels r)) (sym e);
      underway = record {
        marks = false ∷ marks;
        lines = are.0.lines;
        opened = (
          record { lines = are.0.lines; around = refl; entered = entered },
          subst (AreOpen globals items blocks marks) (sym are.0.around) are.1,
        );
        fresh = λ yes. tt;
      };
      smaller = rw (entered, old) (omega arith);
    }
leads {globals} items block blocks marks at false more is old lines are =
    let rest : List Item = drop (at + 1) items in
    let e : drop at items ≡ item.End ∷ rest = drop-slice_get items at item.End is in
    let some : 0 < length (levels rest) = omega (arith, length-levels globals (with_operation marks) rest lines) in
    let last : block.turns ≤ 0 = ltb-false 0 block.turns more in
    let none : block.turns ≡ 0 = omega arith in
    let entered : is_entered items (at + 1) ≡ false = is_entered-next items at ∙ ap begins_block is in
    let within : at < length items = slice_get_within items at item.End is in
    record {
      left = left_of-leave items block blocks (levels rest) some none
          ∙ ap (λ (r : List Item). left_of items (block ∷ blocks) (levels r)) (sym e);
      underway = record {
        marks = with_operation marks;
        lines = lines;
        opened = AreOpen-with_operation globals items blocks marks (levels rest) are.1;
        fresh = λ yes. absurd (cc);
      };
      smaller = rw (entered, old) (omega arith);
    }

not_fresh : (items : List Item) (marks : List Bool) (at : ℕ) (b : Bool) → is_entered items at ≡ b
    → (is_entered items at ≡ true → IsStillEmpty (true ∷ marks)) → is_entered items at ≡ false
not_fresh items marks at true is fresh = absurd (fresh is)
not_fresh items marks at false is fresh = is

abbrev AtEnd : ℕ → List Item → List Block → ℕ → Type 0
AtEnd globals items blocks at = (0 < length blocks) × Leads globals items blocks at (block_end blocks)

end_leads : (globals : ℕ) (items : List Item) (blocks : List Block) (marks : List Bool) (at : ℕ)
    → slice_get items at ≡ Some item.End → AreItems globals marks (item.End ∷ drop (at + 1) items)
    → AreOpen globals items blocks marks ([] ∷ levels (drop (at + 1) items))
    → (is_entered items at ≡ true → IsStillEmpty marks) → AtEnd globals items blocks at
end_leads globals items blocks [] at is lines are fresh = absurd lines
end_leads globals items blocks (false ∷ marks) at is lines are fresh = absurd lines
end_leads globals items [] (true ∷ marks) at is lines are fresh = absurd (cc)
end_leads globals items (block ∷ blocks) (true ∷ marks) at is lines are fresh = (
  omega arith,
  leads items block blocks marks at (ltb 0 block.turns) refl is
      (not_fresh items marks at (is_entered items at) refl fresh) lines are,
)

pub at_end : (globals : ℕ) (items : List Item) (blocks : List Block) (at : ℕ) → IsUnderway globals items blocks at
    → slice_get items at ≡ Some item.End → (0 < length blocks) × Leads globals items blocks at (block_end blocks)
at_end globals items blocks at way is =
    let rest : List Item = drop (at + 1) items in
    let e : drop at items ≡ item.End ∷ rest = drop-slice_get items at item.End is in
    end_leads globals items blocks way.marks at is
    (subst (AreItems globals way.marks) e way.lines)
    (subst (λ (r : List Item). AreOpen globals items blocks way.marks (levels r)) e way.opened)
    way.fresh

-- ---- the first line, and after the last one

pub at_first : (globals : ℕ) (items : List Item) → AreItems globals [] items → IsUnderway globals items [] 0
at_first globals items are = record { marks = []; lines = are; opened = refl; fresh = λ yes. tt }

none_left : (globals : ℕ) (items : List Item) (blocks : List Block) (marks : List Bool) → AreItems globals marks []
    → AreOpen globals items blocks marks ([] ∷ []) → left_of items blocks ([] ∷ []) ≡ []
none_left globals items [] marks lines are = refl
none_left globals items (block ∷ blocks) [] lines are = absurd are
none_left globals items (block ∷ blocks) (mark ∷ marks) lines are = absurd (cc)

drop-past : {X : Type 0} (xs : List X) (i : ℕ) → slice_get xs i ≡ None → drop i xs ≡ []
drop-past [] zero e = refl
drop-past [] (suc i) e = refl
drop-past (x ∷ xs) zero e = absurd (cc)
drop-past (x ∷ xs) (suc i) e = drop-past xs i e

pub at_last : (globals : ℕ) (items : List Item) (blocks : List Block) (at : ℕ) → IsUnderway globals items blocks at
    → slice_get items at ≡ None → left_at items blocks at ≡ []
at_last globals items blocks at way is =
    let e : drop at items ≡ [] = drop-past items at is in
    ap (λ (r : List Item). left_of items blocks (levels r)) e
    ∙ none_left globals items blocks way.marks (subst (AreItems globals way.marks) e way.lines)
    (subst (λ (r : List Item). AreOpen globals items blocks way.marks (levels r)) e way.opened)

-- ---- the loop

-- what is left, and so the operations that a cursor gives, is as it was
pub record IsAsBefore (before : Ahead) (globals : ℕ) (items : List Item) (blocks : List Block) (at : ℕ) : Type 0 where
  pub globals_kept : globals ≡ before.globals
  pub left : left_at items blocks at ≡ before.operations
  pub underway : IsUnderway globals items blocks at

pub found_line : (items : List Item) (at : ℕ) (x y : Item) → at < length items → x ≡ get_or items at x → x ≡ y
    → slice_get items at ≡ Some y
found_line items at x y within is same = slice_get_read items (length items) at x refl within is ∙ ap Some same

pub none_after : (before : Ahead) (globals : ℕ) (items : List Item) (blocks : List Block) (at : ℕ)
    → IsAsBefore before globals items blocks at → length items ≤ at → before.operations ≡ []
none_after before globals items blocks at way past =
    sym way.left ∙ at_last globals items blocks at way.underway (slice_get_past items at past)

-- what a cursor gives, and what is left after it
pub record Gives (before : Ahead) (globals : ℕ) (items : List Item) (blocks : List Block) (at : ℕ) (o : Op) : Type 0
  where
    pub operation : Some o ≡ slice_get before.operations 0
    pub rest : left_at items blocks at ≡ drop 1 before.operations
    pub in_range : InRange before.globals o
    pub underway : IsUnderway globals items blocks at

pub past_operation : (before : Ahead) (globals : ℕ) (items : List Item) (blocks : List Block) (at : ℕ) (o : Op)
    → IsAsBefore before globals items blocks at → slice_get items at ≡ Some (item.Op o)
    → Gives before globals items blocks (at + 1) o
past_operation before globals items blocks at o way is =
    let step = at_operation globals items blocks at o way.underway is in
    let all : before.operations ≡ o ∷ left_at items blocks (at + 1) = sym way.left ∙ step.left in
    record {
      operation = ap (λ (ops : List Op). slice_get ops 0) (sym all);
      rest = ap (λ (ops : List Op). drop 1 ops) (sym all);
      in_range = subst (λ (n : ℕ). InRange n o) way.globals_kept step.in_range;
      underway = step.underway;
    }

pub past_repeat : {before : Ahead} {globals : ℕ} {items : List Item} {blocks entered : List Block} {at : ℕ} (n : ℕ)
    → IsAsBefore before globals items blocks at → slice_get items at ≡ Some (item.Repeat n)
    → entered ≡ record { start = at + 1; turns = n - 1 } ∷ blocks → IsAsBefore before globals items entered (at + 1)
past_repeat {before} {globals} {items} {blocks} {at} n way is same =
    let step = at_repeat globals items blocks at n way.underway is in
    subst (λ (bs : List Block). IsAsBefore before globals items bs (at + 1)) (sym same)
    (record { globals_kept = way.globals_kept; left = step.left ∙ way.left; underway = step.underway })

-- the innermost block ended, and its end leads there
pub record IsEnded (items : List Item) (blocks : List Block) (at : ℕ) (start : Option ℕ) (after : List Block)
    (next : ℕ) : Type 0 where
  pub starts : start ≡ (block_end blocks).0
  pub leaves : after ≡ (block_end blocks).1
  pub leads : next ≡ unwrap_or start (at + 1)

next_place : (items : List Item) (blocks : List Block) (at : ℕ) (start : Option ℕ) (after : List Block) (next : ℕ)
    → IsEnded items blocks at start after next → next ≡ unwrap_or (block_end blocks).0 (at + 1)
next_place items blocks at start after next is = is.leads ∙ ap (λ (s : Option ℕ). unwrap_or s (at + 1)) is.starts

pub past_end : {before : Ahead} {globals : ℕ} {items : List Item} {blocks : List Block} {at : ℕ} {start : Option ℕ}
    {after : List Block} {next : ℕ} → IsAsBefore before globals items blocks at → slice_get items at ≡ Some item.End
    → IsEnded items blocks at start after next → IsAsBefore before globals items after next
past_end {before} {globals} {items} {blocks} {at} {start} {after} {next} way is end =
    let step = (at_end globals items blocks at way.underway is).1 in
    subst (λ (bs : List Block). IsAsBefore before globals items bs next) (sym end.leaves)
    (subst (λ (k : ℕ). IsAsBefore before globals items (block_end blocks).1 k)
    (sym (next_place items blocks at start after next end))
    (record { globals_kept = way.globals_kept; left = step.left ∙ way.left; underway = step.underway }))

pub end_smaller : {globals : ℕ} {items : List Item} {blocks : List Block} {at : ℕ} {start : Option ℕ}
    {after : List Block} {next : ℕ} → IsUnderway globals items blocks at → slice_get items at ≡ Some item.End
    → IsEnded items blocks at start after next → lines_to_operation items next < lines_to_operation items at
end_smaller {globals} {items} {blocks} {at} {start} {after} {next} way is end =
    subst (λ (k : ℕ). lines_to_operation items k < lines_to_operation items at)
    (sym (next_place items blocks at start after next end))
    (at_end globals items blocks at way is).1.smaller
