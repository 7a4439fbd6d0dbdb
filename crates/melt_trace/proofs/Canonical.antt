-- The canonical text of a script in range is read as that script.
use Rattle.std.proofs.Common.{◌≡◌, ℕ, zero, suc, ◌+◌, ◌^◌, ◌<◌, ◌≤◌, Bool, true, false, cond, eqb, List, [], ◌∷◌, ◌++◌}
use Rattle.std.proofs.Common.{length, map, Some, Result, Ok, Err, refl, sym, ap, subst, ◌∙◌, append_assoc, eq-eqb}
use Rattle.std.proofs.Common.{length-append, arith}
use Rattle.std.specs.Prelude.{codes}
use Rattle.std.specs.List.{AllByRecursion, list_all, flat_map}
use Rattle.std.specs.Str.{bytes_eq}
use Rattle.std.specs.Fmt.{decimal}
use Rattle.std.proofs.lemmas.Bool.{lt-ltb, le-leb, ne_eqb}
use Rattle.std.proofs.lemmas.List.{append-nil, length_push}
use Rattle.std.proofs.lemmas.List.Sums.{sum_by-append}
use Rattle.melt_model.specs.declared.operations.Op.{Op}
use Rattle.melt_model.specs.declared.operations.Op.TheVariants as op
use Rattle.melt_trace.specs.declared.script.Item.{Item}
use Rattle.melt_trace.specs.declared.script.Item.TheVariants as item
use Rattle.melt_trace.specs.declared.language.Word.{Word}
use Rattle.melt_trace.specs.declared.language.Word.TheVariants as word
use Rattle.melt_trace.specs.declared.language.Expected.{Expected}
use Rattle.melt_trace.specs.declared.language.Expected.TheVariants as stage
use Rattle.melt_trace.specs.Script.{Script, expand}
use Rattle.melt_text.specs.Printed.{line}
use Rattle.melt_trace.specs.Grammar.{op_line, item_line, program_lines, canonical, InRange}
use Rattle.melt_trace.specs.Language.{max_bytes, Place, first_place, global, ranges_of, numbers, operation_count}
use Rattle.melt_text.specs.Lines.{lines_of, without_empty_rest}
use Rattle.melt_trace.specs.Language.{with_operation, with_program, fits, is_skipped}
use Rattle.melt_text.specs.Numbers.{number_of}
use Rattle.melt_trace.specs.Language.{word_of, after_line, after_word, and_then, heading, in_heading}
use Rattle.melt_trace.specs.Language.{after_operation}
use Rattle.melt_trace.specs.Language.{after_fields, after, script_from, script_of, AreItems, IsOrder, IsScript}
use Rattle.melt_text.proofs.Cuts.{split_parts, line_before}
use Rattle.melt_trace.proofs.Kept.{AreWithin, placed, same_Ok}
use Rattle.melt_trace.proofs.Again.{is_plain, spaced, AreWords, split_line, line_taken, number_again, numbers_again}

-- ---- texts that lead from one place to another

-- what stands after the text is read from the second place
abbrev Leads : Place → List ℕ → Place → Type 0
Leads place text next = (n : ℕ) (rest : List ℕ) → (m : ℕ)
    × (script_from n place (lines_of (text ++ rest)) ≡ script_from m next (lines_of rest))

leads_none : (place : Place) → Leads place [] place
leads_none place n rest = (n, refl)

leads_both : (a b c : Place) (x y : List ℕ) → Leads a x b → Leads b y c → Leads a (x ++ y) c
leads_both a b c x y f g n rest =
    let first = f n (y ++ rest) in
    let second = g first.0 rest in
    (second.0, ap (λ (bytes : List ℕ). script_from n a (lines_of bytes)) (append_assoc x y rest) ∙ first.1 ∙ second.1)

next_line : (n : ℕ) (place next : Place) (text : List ℕ) (lines : List (List ℕ)) → after place text ≡ Ok next
    → script_from n place (text ∷ lines) ≡ script_from (n + 1) next lines
next_line n place next text lines e =
    ap (λ (r : Result Place ℕ). elim r [ Ok next ↦ script_from (n + 1) next lines | Err reason ↦ Err (n, reason) ]) e

-- a line of a word and its numbers
record IsLine (w ns : List ℕ) : Type 0 where
  some : 0 < length w
  plain : list_all is_plain w ≡ true
  shown : is_skipped (w ∷ map decimal ns) ≡ false
  words : AreWords ns

lines_again : (w ns rest : List ℕ) → list_all is_plain w ≡ true → AreWords ns
    → lines_of (line w ns ++ rest) ≡ (w ++ spaced ns) ∷ lines_of rest
lines_again w ns rest plain words =
    let parts = split_parts (λ b. eqb b 10) rest in
    ap lines_of (append_assoc (w ++ spaced ns) (10 ∷ []) rest)
    ∙ ap without_empty_rest (split_line w ns rest plain words)
    ∙ ap (λ (ls : List (List ℕ)). without_empty_rest ((w ++ spaced ns) ∷ ls)) parts.2
    ∙ line_before (w ++ spaced ns) parts.0 parts.1
    ∙ ap (λ (ls : List (List ℕ)). (w ++ spaced ns) ∷ without_empty_rest ls) (sym parts.2)

-- the text is one line, which leads from the one place to the other
abbrev LeadsOn : Place → List ℕ → Place → Type 0
LeadsOn place text next = (n : ℕ) (rest : List ℕ)
    → script_from n place (lines_of (text ++ rest)) ≡ script_from (n + 1) next (lines_of rest)

leads_on : (place next : Place) (w ns : List ℕ) → IsLine w ns
    → after_fields place place.stage (w ∷ map decimal ns) ≡ Ok next → LeadsOn place (line w ns) next
leads_on place next w ns h e n rest =
    ap (script_from n place) (lines_again w ns rest h.plain h.words)
    ∙ next_line n place next (w ++ spaced ns) (lines_of rest) (line_taken place w ns h.some h.plain h.shown h.words ∙ e)

leads_once : (place next : Place) (text : List ℕ) → LeadsOn place text next → Leads place text next
leads_once place next text h n rest = (n + 1, h n rest)

leads_line : (place next : Place) (w ns : List ℕ) → IsLine w ns
    → after_fields place place.stage (w ∷ map decimal ns) ≡ Ok next → Leads place (line w ns) next
leads_line place next w ns h e = leads_once place next (line w ns) (leads_on place next w ns h e)

-- ---- lines of a program

-- a line with this word, which may stand here and has its numbers in range
worded : (place next : Place) (w : Word) (ns : List ℕ) → fits place.stage place.blocks w ≡ true
    → AreWithin (ranges_of place w) ns → AreWords ns → after_line place w ns ≡ Ok next
    → after_word place (Some w) (map decimal ns) ≡ Ok next
worded place next w ns stands range words e =
    ap (λ (t : Bool). cond t (and_then (numbers (ranges_of place w) (map decimal ns)) (after_line place w)) (Err 6))
    stands
    ∙ ap (λ (r : Result (List ℕ) ℕ). and_then r (after_line place w)) (numbers_again (ranges_of place w) ns range words)
    ∙ e

abbrev inside : ℕ → Script → List Item → List Bool → Place
inside threads script items blocks = placed stage.Inside threads script items blocks

within_global : (globals g : ℕ) → g < globals → ((global globals).low ≤ g) × (g ≤ (global globals).high)
within_global zero g lt = absurd (omega arith)
within_global (suc n) g lt = (omega arith, omega arith)

operation_leads : (threads : ℕ) (script : Script) (items : List Item) (blocks : List Bool) (o : Op)
    → script.globals ≤ 64 → InRange script.globals o
    → LeadsOn (inside threads script items blocks) (op_line o)
    (inside threads script (items ++ item.Op o ∷ []) (with_operation blocks))
operation_leads threads script items blocks (op.New a b c) few h =
    let words : AreWords (a ∷ b ∷ c ∷ []) = (omega (arith, h.0), (omega (arith, h.1), (omega (arith, h.2), tt))) in
    leads_on (inside threads script items blocks) _ (codes "new") (a ∷ b ∷ c ∷ [])
    (record { some = omega arith; plain = refl; shown = refl; words = words })
    (worded (inside threads script items blocks) _ word.New (a ∷ b ∷ c ∷ []) refl (
      omega arith,
      omega (arith, h.0),
      (omega arith, h.1, (omega arith, h.2, tt)),
    ) words refl)
operation_leads threads script items blocks (op.Load a b c) few h =
    let words : AreWords (a ∷ b ∷ c ∷ []) = (omega (arith, h.0), (omega (arith, h.1), (omega (arith, h.2), tt))) in
    leads_on (inside threads script items blocks) _ (codes "load") (a ∷ b ∷ c ∷ [])
    (record { some = omega arith; plain = refl; shown = refl; words = words })
    (worded (inside threads script items blocks) _ word.Load (a ∷ b ∷ c ∷ []) refl (
      omega arith,
      omega (arith, h.0),
      (omega arith, omega (arith, h.1), (omega arith, h.2, tt)),
    ) words refl)
operation_leads threads script items blocks (op.Store a b c) few h =
    let words : AreWords (a ∷ b ∷ c ∷ []) = (omega (arith, h.0), (omega (arith, h.1), (omega (arith, h.2), tt))) in
    leads_on (inside threads script items blocks) _ (codes "store") (a ∷ b ∷ c ∷ [])
    (record { some = omega arith; plain = refl; shown = refl; words = words })
    (worded (inside threads script items blocks) _ word.Store (a ∷ b ∷ c ∷ []) refl (
      omega arith,
      omega (arith, h.0),
      (omega arith, h.1, (omega arith, omega (arith, h.2), tt)),
    ) words refl)
operation_leads threads script items blocks (op.Get a b) few h =
    let words : AreWords (a ∷ b ∷ []) = (omega (arith, h.0), (omega (arith, h.1), tt)) in
    leads_on (inside threads script items blocks) _ (codes "get") (a ∷ b ∷ [])
    (record { some = omega arith; plain = refl; shown = refl; words = words })
    (worded (inside threads script items blocks) _ word.Get (a ∷ b ∷ []) refl (
      omega arith,
      omega (arith, h.0),
      (omega arith, h.1, tt),
    ) words refl)
operation_leads threads script items blocks (op.Put a b c) few h =
    let words : AreWords (a ∷ b ∷ c ∷ []) = (omega (arith, h.0), (omega (arith, h.1), (h.2, tt))) in
    leads_on (inside threads script items blocks) _ (codes "put") (a ∷ b ∷ c ∷ [])
    (record { some = omega arith; plain = refl; shown = refl; words = words })
    (worded (inside threads script items blocks) _ word.Put (a ∷ b ∷ c ∷ []) refl (
      omega arith,
      omega (arith, h.0),
      (omega arith, h.1, (omega arith, omega (arith, h.2), tt)),
    ) words refl)
operation_leads threads script items blocks (op.GLoad a g) few h =
    let words : AreWords (a ∷ g ∷ []) = (omega (arith, h.0), (omega (arith, h.1), tt)) in
    let range = within_global script.globals g h.1 in
    leads_on (inside threads script items blocks) _ (codes "gload") (a ∷ g ∷ [])
    (record { some = omega arith; plain = refl; shown = refl; words = words })
    (worded (inside threads script items blocks) _ word.GLoad (a ∷ g ∷ []) refl (
      omega arith,
      omega (arith, h.0),
      (range.0, range.1, tt),
    ) words refl)
operation_leads threads script items blocks (op.GStore g a) few h =
    let words : AreWords (g ∷ a ∷ []) = (omega (arith, h.0), (omega (arith, h.1), tt)) in
    let range = within_global script.globals g h.0 in
    leads_on (inside threads script items blocks) _ (codes "gstore") (g ∷ a ∷ [])
    (record { some = omega arith; plain = refl; shown = refl; words = words })
    (worded (inside threads script items blocks) _ word.GStore (g ∷ a ∷ []) refl (
      range.0,
      range.1,
      (omega arith, omega (arith, h.1), tt),
    ) words refl)
operation_leads threads script items blocks (op.Same a b) few h =
    let words : AreWords (a ∷ b ∷ []) = (omega (arith, h.0), (omega (arith, h.1), tt)) in
    leads_on (inside threads script items blocks) _ (codes "same") (a ∷ b ∷ [])
    (record { some = omega arith; plain = refl; shown = refl; words = words })
    (worded (inside threads script items blocks) _ word.Same (a ∷ b ∷ []) refl (
      omega arith,
      omega (arith, h.0),
      (omega arith, omega (arith, h.1), tt),
    ) words refl)
operation_leads threads script items blocks (op.Copy a b) few h =
    let words : AreWords (a ∷ b ∷ []) = (omega (arith, h.0), (omega (arith, h.1), tt)) in
    leads_on (inside threads script items blocks) _ (codes "copy") (a ∷ b ∷ [])
    (record { some = omega arith; plain = refl; shown = refl; words = words })
    (worded (inside threads script items blocks) _ word.Copy (a ∷ b ∷ []) refl (
      omega arith,
      omega (arith, h.0),
      (omega arith, omega (arith, h.1), tt),
    ) words refl)
operation_leads threads script items blocks (op.Drop r) few h =
    let words : AreWords (r ∷ []) = (omega (arith, h), tt) in
    leads_on (inside threads script items blocks) _ (codes "drop") (r ∷ [])
    (record { some = omega arith; plain = refl; shown = refl; words = words })
    (worded (inside threads script items blocks) _ word.Drop (r ∷ []) refl (omega arith, omega (arith, h), tt) words
    refl)
operation_leads threads script items blocks op.Collect few h =
    leads_on (inside threads script items blocks) _ (codes "collect") []
    (record { some = omega arith; plain = refl; shown = refl; words = tt })
    (worded (inside threads script items blocks) _ word.Collect [] refl tt tt refl)

-- a place in a program, and bytes that begin with the canonical line of an operation that may stand there
pub record IsOperationLine (place : Place) (o : Op) (bytes rest : List ℕ) : Type 0 where
  pub inside : place.stage ≡ stage.Inside
  pub few : place.script.globals ≤ 64
  pub range : InRange place.script.globals o
  pub text : bytes ≡ op_line o ++ rest

op_line_some : (o : Op) → 0 < length (op_line o)
op_line_some (op.New dst refs nums) = omega arith
op_line_some (op.Load dst src i) = omega arith
op_line_some (op.Store obj i src) = omega arith
op_line_some (op.Get src j) = omega arith
op_line_some (op.Put obj j v) = omega arith
op_line_some (op.GLoad dst g) = omega arith
op_line_some (op.GStore g src) = omega arith
op_line_some (op.Same a b) = omega arith
op_line_some (op.Copy dst src) = omega arith
op_line_some (op.Drop r) = omega arith
op_line_some op.Collect = omega arith

pub shorter_after : (o : Op) (bytes rest : List ℕ) → bytes ≡ op_line o ++ rest → length rest < length bytes
shorter_after o bytes rest e = omega (arith, ap length e, length-append (op_line o) rest, op_line_some o)

pub operation_taken : (place next : Place) (o : Op) (bytes rest : List ℕ) → IsOperationLine place o bytes rest
    → after_operation place (Some o) ≡ Ok next
    → (n : ℕ) → script_from n place (lines_of bytes) ≡ script_from (n + 1) next (lines_of rest)
operation_taken place next o bytes rest h e n =
    let later : Expected → Place = λ s.
    placed s place.threads place.script (place.items ++ item.Op o ∷ []) (with_operation place.blocks) in
    let leads : LeadsOn place (op_line o) (later place.stage) =
    subst (λ (s : Expected). LeadsOn (placed s place.threads place.script place.items place.blocks) (op_line o) (later
    s))
    (sym h.inside) (operation_leads place.threads place.script place.items place.blocks o h.few h.range) in
    ap (λ (b : List ℕ). script_from n place (lines_of b)) h.text ∙ leads n rest
    ∙ ap (λ (p : Place). script_from (n + 1) p (lines_of rest)) (same_Ok (later place.stage) next e)

repeat_leads : (threads : ℕ) (script : Script) (items : List Item) (blocks : List Bool) (n : ℕ) → 0 < n → n ≤ 1048576
    → length blocks < 4 → Leads (inside threads script items blocks) (line (codes "repeat") (n ∷ []))
    (inside threads script (items ++ item.Repeat n ∷ []) (false ∷ blocks))
repeat_leads threads script items blocks n some few shallow =
    let words : AreWords (n ∷ []) = (omega arith, tt) in
    leads_line (inside threads script items blocks) _ (codes "repeat") (n ∷ [])
    (record { some = omega arith; plain = refl; shown = refl; words = words })
    (worded (inside threads script items blocks) _ word.Repeat (n ∷ []) refl (omega arith, few, tt) words
    (rw (lt-ltb _ _ shallow) refl))

end_leads : (threads : ℕ) (script : Script) (items : List Item) (blocks : List Bool)
    → Leads (inside threads script items (true ∷ blocks)) (line (codes "end") [])
    (inside threads script (items ++ item.End ∷ []) (with_operation blocks))
end_leads threads script items blocks =
    leads_line (inside threads script items (true ∷ blocks)) _ (codes "end") []
    (record { some = omega arith; plain = refl; shown = refl; words = tt })
    (worded (inside threads script items (true ∷ blocks)) _ word.End [] refl tt tt refl)

-- one item, and those after it
then_items : (from : Place) (i : Item) (items : List Item) (next : List Bool)
    → Leads from (item_line i) (record from { items = from.items ++ i ∷ []; blocks = next })
    → Leads (record from { items = from.items ++ i ∷ []; blocks = next }) (flat_map item_line items)
    (record from { items = (from.items ++ i ∷ []) ++ items; blocks = [] })
    → Leads from (flat_map item_line (i ∷ items)) (record from { items = from.items ++ i ∷ items; blocks = [] })
then_items from i items next f g =
    subst (λ (all : List Item). Leads from (flat_map item_line (i ∷ items)) (record from { items = all; blocks = [] }))
    (append_assoc from.items (i ∷ []) items)
    (leads_both from (record from { items = from.items ++ i ∷ []; blocks = next })
    (record from { items = (from.items ++ i ∷ []) ++ items; blocks = [] }) (item_line i) (flat_map item_line items) f g)

items_lead : (threads : ℕ) (script : Script) (before items : List Item) (blocks : List Bool) → script.globals ≤ 64
    → AreItems script.globals blocks items
    → Leads (inside threads script before blocks) (flat_map item_line items)
    (inside threads script (before ++ items) [])
items_lead threads script before [] blocks few h =
    subst (λ (b : List Bool). Leads (inside threads script before b) [] (inside threads script (before ++ []) []))
    (sym h)
    (subst (λ (all : List Item). Leads (inside threads script before []) [] (inside threads script all []))
    (sym (append-nil before)) (leads_none (inside threads script before [])))
items_lead threads script before (item.Op o ∷ items) blocks few h =
    then_items (inside threads script before blocks) (item.Op o) items (with_operation blocks)
    (leads_once (inside threads script before blocks)
    (inside threads script (before ++ item.Op o ∷ []) (with_operation blocks)) (op_line o)
    (operation_leads threads script before blocks o few h.0))
    (items_lead threads script (before ++ item.Op o ∷ []) items (with_operation blocks) few h.1)
items_lead threads script before (item.Repeat n ∷ items) blocks few h =
    then_items (inside threads script before blocks) (item.Repeat n) items (false ∷ blocks)
    (repeat_leads threads script before blocks n h.0 h.1 h.2)
    (items_lead threads script (before ++ item.Repeat n ∷ []) items (false ∷ blocks) few h.3)
items_lead threads script before (item.End ∷ items) [] few h = absurd h
items_lead threads script before (item.End ∷ items) (false ∷ blocks) few h = absurd h
items_lead threads script before (item.End ∷ items) (true ∷ blocks) few h =
    then_items (inside threads script before (true ∷ blocks)) item.End items (with_operation blocks)
    (end_leads threads script before blocks)
    (items_lead threads script (before ++ item.End ∷ []) items (with_operation blocks) few h)

-- ---- programs

-- where a program may begin, a line is read by its first word
standing_fields : (s : Expected) (place : Place) (blocks : List Bool) (first : List ℕ) (fields : List (List ℕ))
    {next : Place} → fits s blocks word.Thread ≡ true → after_word place (word_of first) fields ≡ Ok next
    → after_fields place s (first ∷ fields) ≡ Ok next
standing_fields stage.Version place blocks first fields stands e = absurd cc
standing_fields stage.Threads place blocks first fields stands e = absurd cc
standing_fields stage.Globals place blocks first fields stands e = absurd cc
standing_fields stage.Orders place blocks first fields stands e = e
standing_fields stage.Inside place blocks first fields stands e = e
standing_fields stage.Between place blocks first fields stands e = e
standing_fields stage.Over place blocks first fields stands e = absurd cc

-- a program, and what is wanted after it
program_leads : (s : Expected) {after : Expected} (threads : ℕ) (script : Script) (items : List Item)
    → fits s [] word.Thread ≡ true → script.globals ≤ 64 → length script.programs < 8
    → AreItems script.globals [] items → operation_count (script.programs ++ items ∷ []) ≤ 1048576
    → cond (eqb (length (script.programs ++ items ∷ [])) threads) stage.Over stage.Between ≡ after
    → Leads (placed s threads script [] [])
    (line (codes "thread") (length script.programs ∷ []) ++ flat_map item_line items ++ line (codes "done") [])
    (placed after threads (with_program script items) [] [])
program_leads s {after} threads script items stands few small h count is =
    let begun : Place = inside threads script [] [] in
    let whole : Place = inside threads script items [] in
    let next : Place = placed after threads (with_program script items) [] [] in
    let t = length script.programs in
    let first : Leads (placed s threads script [] []) (line (codes "thread") (t ∷ [])) begun =
    leads_line (placed s threads script [] []) begun (codes "thread") (t ∷ [])
    (record { some = omega arith; plain = refl; shown = refl; words = (omega arith, tt) })
    (standing_fields s (placed s threads script [] []) [] (codes "thread") (map decimal (t ∷ [])) stands
    (worded (placed s threads script [] []) begun word.Thread (t ∷ []) stands (omega arith, omega arith, tt)
    (omega arith, tt) refl))
    in
    let last : Leads whole (line (codes "done") []) next =
    leads_line whole next (codes "done") [] (record { some = omega arith; plain = refl; shown = refl; words = tt })
    (worded whole next word.Done [] refl tt tt
    (rw (le-leb (operation_count (script.programs ++ items ∷ [])) 1048576 count)
    (ap (λ (k : Expected). Ok (placed k threads (with_program script items) [] [])) is)))
    in
    leads_both (placed s threads script [] []) whole next
    (line (codes "thread") (t ∷ []) ++ flat_map item_line items) (line (codes "done") [])
    (leads_both (placed s threads script [] []) begun whole (line (codes "thread") (t ∷ []))
    (flat_map item_line items) first (items_lead threads script [] items [] few h))
    last

abbrev scripted : ℕ → List (ℕ × ℕ) → List (List Item) → Script
scripted globals orders programs = record { globals = globals; orders = orders; programs = programs }

count-front : (xs ys : List (List Item)) → operation_count xs ≤ operation_count (xs ++ ys)
count-front xs ys = omega (arith, sum_by-append (λ (items : List Item). length (expand items)) xs ys)

programs_lead : (after : List (List Item)) (program : List Item) (before : List (List Item)) (s : Expected)
    {threads globals : ℕ} (orders : List (ℕ × ℕ))
    → fits s [] word.Thread ≡ true → globals ≤ 64 → threads ≤ 8 → threads ≡ length before + length (program ∷ after)
    → AllByRecursion (AreItems globals []) (program ∷ after) → operation_count (before ++ program ∷ after) ≤ 1048576
    → Leads (placed s threads (scripted globals orders before) [] [])
    (program_lines (length before) (program ∷ after))
    (placed stage.Over threads (scripted globals orders (before ++ program ∷ after)) [] [])
programs_lead [] program before s {threads} {globals} orders stands few most count all total =
    let from : Place = placed s threads (scripted globals orders before) [] [] in
    let to : Place = placed stage.Over threads (scripted globals orders (before ++ program ∷ [])) [] [] in
    let text : List ℕ = line (codes "thread") (length before ∷ []) ++ flat_map item_line program
    ++ line (codes "done") [] in
    let whole : length (before ++ program ∷ []) ≡ threads = omega (arith, length_push before program) in
    leads_both from to to text []
    (program_leads s threads (scripted globals orders before) program stands few (omega arith) all.0 total
    (ap (λ (t : Bool). cond t stage.Over stage.Between) (eq-eqb _ _ whole)))
    (leads_none to)
programs_lead (next ∷ after) program before s {threads} {globals} orders stands few most count all total =
    let from : Place = placed s threads (scripted globals orders before) [] [] in
    let more : List (List Item) = before ++ program ∷ [] in
    let middle : Place = placed stage.Between threads (scripted globals orders more) [] [] in
    let text : List ℕ = line (codes "thread") (length before ∷ []) ++ flat_map item_line program
    ++ line (codes "done") [] in
    let longer : length more ≡ length before + 1 = length_push before program in
    let joined : more ++ next ∷ after ≡ before ++ program ∷ next ∷ after =
    append_assoc before (program ∷ []) (next ∷ after) in
    let left : length more ≡ threads → ⊥ = λ e. omega arith in
    let part : operation_count more ≤ 1048576 =
    omega (arith, count-front more (next ∷ after), ap operation_count joined) in
    let first : Leads from text middle =
    program_leads s threads (scripted globals orders before) program stands few (omega arith) all.0 part
    (ap (λ (t : Bool). cond t stage.Over stage.Between) (ne_eqb _ _ left))
    in
    let rest = programs_lead after next more stage.Between orders refl few most (omega arith) all.1
    (omega (arith, ap operation_count joined)) in
    let others : Leads middle (program_lines (length before + 1) (next ∷ after))
    (placed stage.Over threads (scripted globals orders (before ++ program ∷ next ∷ after)) [] []) =
    subst (λ (programs : List (List Item)). Leads middle (program_lines (length before + 1) (next ∷ after))
    (placed stage.Over threads (scripted globals orders programs) [] [])) joined
    (subst (λ (t : ℕ). Leads middle (program_lines t (next ∷ after))
    (placed stage.Over threads (scripted globals orders (more ++ next ∷ after)) [] [])) longer rest)
    in
    leads_both from middle (placed stage.Over threads (scripted globals orders (before ++ program ∷ next ∷ after)) []
    []) text (program_lines (length before + 1) (next ∷ after)) first others

-- ---- orders

abbrev ordering : ℕ → ℕ → List (ℕ × ℕ) → Place
ordering threads globals orders = placed stage.Orders threads (scripted globals orders []) [] []

abbrev order_line : ℕ × ℕ → List ℕ
order_line order = line (codes "order") (order.0 ∷ order.1 ∷ [])

order_leads : (threads globals : ℕ) (orders : List (ℕ × ℕ)) (order : ℕ × ℕ) → IsOrder threads order → threads ≤ 8
    → length orders < 65536 → Leads (ordering threads globals orders) (order_line order)
    (ordering threads globals (orders ++ order ∷ []))
order_leads threads globals orders order h most few =
    let place : Place = ordering threads globals orders in
    let words : AreWords (order.0 ∷ order.1 ∷ []) = (omega (arith, h.thread), (omega (arith, h.few), tt)) in
    leads_line place (ordering threads globals (orders ++ order ∷ [])) (codes "order") (order.0 ∷ order.1 ∷ [])
    (record { some = omega arith; plain = refl; shown = refl; words = words })
    (worded place (ordering threads globals (orders ++ order ∷ [])) word.Order (order.0 ∷ order.1 ∷ []) refl
    (omega arith, omega (arith, h.thread), (omega (arith, h.some), h.few, tt)) words (rw (lt-ltb _ _ few) refl))

orders_lead : (threads globals : ℕ) (before after : List (ℕ × ℕ)) → AllByRecursion (IsOrder threads) after → threads ≤ 8
    → length before + length after ≤ 65536
    → Leads (ordering threads globals before) (flat_map order_line after) (ordering threads globals (before ++ after))
orders_lead threads globals before [] h most few =
    subst (λ (orders : List (ℕ × ℕ)). Leads (ordering threads globals before) [] (ordering threads globals orders))
    (sym (append-nil before)) (leads_none (ordering threads globals before))
orders_lead threads globals before (order ∷ after) h most few =
    let first = order_leads threads globals before order h.0 most (omega arith) in
    let rest = orders_lead threads globals (before ++ order ∷ []) after h.1 most
    (omega (arith, length_push before order)) in
    subst (λ (orders : List (ℕ × ℕ)). Leads (ordering threads globals before)
    (order_line order ++ flat_map order_line after) (ordering threads globals orders))
    (append_assoc before (order ∷ []) after)
    (leads_both (ordering threads globals before) (ordering threads globals (before ++ order ∷ []))
    (ordering threads globals ((before ++ order ∷ []) ++ after)) (order_line order) (flat_map order_line after)
    first rest)

-- ---- the first three lines

heading_again : (text : List ℕ) (low high reason n : ℕ) → bytes_eq text text ≡ true → low ≤ n → n ≤ high → n < 2 ^ 64
    → heading text low high reason (text ∷ decimal n ∷ []) ≡ Ok n
heading_again text low high reason n same least most lt =
    ap (λ (t : Bool). cond t (in_heading low high reason (number_of (decimal n))) (Err reason)) same
    ∙ ap (in_heading low high reason) (number_again n lt)
    ∙ rw (le-leb _ _ least, le-leb _ _ most) refl

opening_leads : (threads globals : ℕ) → 0 < threads → threads ≤ 8 → globals ≤ 64
    → Leads first_place (line (codes "melt") (1 ∷ []) ++ line (codes "threads") (threads ∷ [])
    ++ line (codes "globals") (globals ∷ [])) (ordering threads globals [])
opening_leads threads globals some most few =
    let empty : Script = scripted 0 [] [] in
    let second : Place = placed stage.Threads 0 empty [] [] in
    let third : Place = placed stage.Globals threads empty [] [] in
    let last : Place = ordering threads globals [] in
    let f : Leads first_place (line (codes "melt") (1 ∷ [])) second =
    leads_line first_place second (codes "melt") (1 ∷ []) (record {
      some = omega arith;
      plain = refl;
      shown = refl;
      words = (omega arith, tt);
    })
    (ap (λ (r : Result ℕ ℕ). and_then r (λ n. Ok second))
    (heading_again (codes "melt") 1 1 3 1 refl (omega arith) (omega arith) (omega arith)))
    in
    let g : Leads second (line (codes "threads") (threads ∷ [])) third =
    leads_line second third (codes "threads") (threads ∷ [])
    (record { some = omega arith; plain = refl; shown = refl; words = (omega arith, tt) })
    (ap (λ (r : Result ℕ ℕ). and_then r (λ n. Ok (placed stage.Globals n empty [] [])))
    (heading_again (codes "threads") 1 8 4 threads refl (omega arith) most (omega arith)))
    in
    let h : Leads third (line (codes "globals") (globals ∷ [])) last =
    leads_line third last (codes "globals") (globals ∷ [])
    (record { some = omega arith; plain = refl; shown = refl; words = (omega arith, tt) })
    (ap (λ (r : Result ℕ ℕ). and_then r (λ n. Ok (ordering threads n [])))
    (heading_again (codes "globals") 0 64 5 globals refl (omega arith) few (omega arith)))
    in
    leads_both first_place third last (line (codes "melt") (1 ∷ []) ++ line (codes "threads") (threads ∷ []))
    (line (codes "globals") (globals ∷ []))
    (leads_both first_place second third (line (codes "melt") (1 ∷ [])) (line (codes "threads") (threads ∷ [])) f g) h

-- ---- a whole script

script_leads : (globals : ℕ) (orders : List (ℕ × ℕ)) (programs : List (List Item))
    → IsScript (scripted globals orders programs)
    → Leads first_place (canonical (scripted globals orders programs))
    (placed stage.Over (length programs) (scripted globals orders programs) [] [])
script_leads globals orders [] h = let some : 0 < 0 = h.some in absurd (omega arith)
script_leads globals orders (program ∷ programs) h =
    let threads : ℕ = length (program ∷ programs) in
    let over : Place = placed stage.Over threads (scripted globals orders (program ∷ programs)) [] [] in
    let opening : List ℕ = line (codes "melt") (1 ∷ []) ++ line (codes "threads") (threads ∷ [])
    ++ line (codes "globals") (globals ∷ []) in
    let ordered = orders_lead threads globals [] orders h.orders h.few (omega (arith, h.few_orders)) in
    let lines = programs_lead programs program [] stage.Orders orders refl h.globals h.few (omega arith)
    h.programs h.count in
    leads_both first_place (ordering threads globals orders) over (opening ++ flat_map order_line orders)
    (program_lines 0 (program ∷ programs))
    (leads_both first_place (ordering threads globals []) (ordering threads globals orders) opening
    (flat_map order_line orders) (opening_leads threads globals h.some h.few h.globals) ordered)
    lines

pub canonical_is_read : (script : Script) → IsScript script → length (canonical script) ≤ max_bytes
    → script_of (canonical script) ≡ Ok script
canonical_is_read script h short =
    let whole = script_leads script.globals script.orders script.programs h 1 [] in
    ap (λ (t : Bool). cond t (script_from 1 first_place (lines_of (canonical script))) (Err (0, 1))) (le-leb _ _ short)
    ∙ ap (λ (bytes : List ℕ). script_from 1 first_place (lines_of bytes)) (sym (append-nil (canonical script)))
    ∙ whole.1
