-- A script that was read is in range.
use Rattle.std.proofs.Common.{◌≡◌, ℕ, zero, suc, ◌+◌, ◌<◌, ◌≤◌, Bool, true, false, cond, eqb, leb, ltb, ◌&&◌, List, []}
use Rattle.std.proofs.Common.{◌∷◌, ◌++◌, length, Option, Some, None, Result, Ok, Err, refl, sym, subst, ◌⊎◌, inl, inr}
use Rattle.std.proofs.Common.{append_assoc, arith}
use Rattle.std.specs.Prelude.{codes}
use Rattle.std.specs.List.{AllByRecursion, list_all}
use Rattle.std.specs.Str.{bytes_eq}
use Rattle.std.proofs.lemmas.Bool.{leb-true, ltb-true, eqb-true, eqb-false}
use Rattle.std.proofs.lemmas.List.{append-nil, length_push}
use Rattle.std.proofs.lemmas.Option.{same_Some, none-some}
use Rattle.melt_model.specs.declared.operations.Op.{Op}
use Rattle.melt_model.specs.declared.operations.Op.TheVariants as op
use Rattle.melt_trace.specs.declared.script.Item.{Item}
use Rattle.melt_trace.specs.declared.script.Item.TheVariants as item
use Rattle.melt_trace.specs.declared.language.Word.{Word}
use Rattle.melt_trace.specs.declared.language.Word.TheVariants as word
use Rattle.melt_trace.specs.declared.language.Expected.{Expected}
use Rattle.melt_trace.specs.declared.language.Expected.TheVariants as stage
use Rattle.melt_trace.specs.Script.{Script}
use Rattle.melt_trace.specs.Grammar.{InRange}
use Rattle.melt_trace.specs.Language.{max_bytes, Range, Place, first_place, within, checked, numbers_with, numbers_in}
use Rattle.melt_trace.specs.Language.{numbers}
use Rattle.melt_text.specs.Numbers.{number_of}
use Rattle.melt_trace.specs.Language.{global, ranges_of, operation_of, operation_count, with_operation}
use Rattle.melt_text.specs.Lines.{is_printable, fields_of, lines_of}
use Rattle.melt_trace.specs.Language.{with_program, fits, is_skipped, word_of}
use Rattle.melt_trace.specs.Language.{after_operation, after_repeat, after_end, after_done, after_thread, after_order}
use Rattle.melt_trace.specs.Language.{after_line, and_then, after_word, in_heading, heading, after_fields, after}
use Rattle.melt_trace.specs.Language.{script_at_end}
use Rattle.melt_trace.specs.Language.{script_from, script_of, AreItems, IsOrder, IsScript}

-- ---- results

pub same_Ok : {A : Type 0} (x y : A) → ◌≡◌ {A = Result A ℕ} (Ok x) (Ok y) → x ≡ y
same_Ok x y e = cc

then_ok : {A B : Type 0} (r : Result A ℕ) (f : A → Result B ℕ) (y : B) → and_then r f ≡ Ok y
    → (x : A) × (r ≡ Ok x) × (f x ≡ Ok y)
then_ok (Ok x) f y e = (x, refl, e)
then_ok (Err reason) f y e = absurd cc

guard_ok : {A : Type 0} (b : Bool) (r : Result A ℕ) (reason : ℕ) (y : A) → cond b r (Err reason) ≡ Ok y
    → (b ≡ true) × (r ≡ Ok y)
guard_ok true r reason y e = (refl, e)
guard_ok false r reason y e = absurd cc

either_ok : {A : Type 0} (b : Bool) (r s : Result A ℕ) (y : A) → cond b r s ≡ Ok y → (r ≡ Ok y) ⊎ (s ≡ Ok y)
either_ok true r s y e = inl e
either_ok false r s y e = inr e

both : (a b : Bool) → (a && b) ≡ true → (a ≡ true) × (b ≡ true)
both true b e = (refl, e)
both false b e = absurd cc

-- ---- numbers

abbrev pub AreWithin : List Range → List ℕ → Type 0
AreWithin [] [] = Unit {0}
AreWithin [] (n ∷ ns) = ⊥
AreWithin (range ∷ ranges) [] = ⊥
AreWithin (range ∷ ranges) (n ∷ ns) = (range.low ≤ n) × (n ≤ range.high) × AreWithin ranges ns

within_range : (range : Range) (n : ℕ) → within range n ≡ true → (range.low ≤ n) × (n ≤ range.high)
within_range range n e =
    let parts = both (leb range.low n) (leb n range.high) e in
    (leb-true _ _ parts.0, leb-true _ _ parts.1)

checked_range : (range : Range) (o : Option ℕ) (n : ℕ) → checked range o ≡ Ok n → (range.low ≤ n) × (n ≤ range.high)
checked_range range None n e = absurd cc
checked_range range (Some m) n e =
    let found = guard_ok (within range m) (Ok m) range.reason n e in
    subst (λ (k : ℕ). (range.low ≤ k) × (k ≤ range.high)) (same_Ok m n found.1) (within_range range m found.0)

with_range : (range : Range) (ranges : List Range) (first : Result ℕ ℕ) (rest : Result (List ℕ) ℕ) (ns : List ℕ)
    → ((n : ℕ) → first ≡ Ok n → (range.low ≤ n) × (n ≤ range.high))
    → ((ms : List ℕ) → rest ≡ Ok ms → AreWithin ranges ms) → numbers_with first rest ≡ Ok ns
    → AreWithin (range ∷ ranges) ns
with_range range ranges (Err reason) rest ns one others e = absurd cc
with_range range ranges (Ok n) (Err reason) ns one others e = absurd cc
with_range range ranges (Ok n) (Ok ms) ns one others e =
    let head = one n refl in
    subst (AreWithin (range ∷ ranges)) (same_Ok (n ∷ ms) ns e) (head.0, head.1, others ms refl)

numbers_in_range : (ranges : List Range) (fields : List (List ℕ)) (ns : List ℕ) → numbers_in ranges fields ≡ Ok ns
    → AreWithin ranges ns
numbers_in_range [] [] ns e = subst (AreWithin []) (same_Ok [] ns e) tt
numbers_in_range [] (field ∷ fields) ns e = absurd cc
numbers_in_range (range ∷ ranges) [] ns e = absurd cc
numbers_in_range (range ∷ ranges) (field ∷ fields) ns e =
    with_range range ranges (checked range (number_of field)) (numbers_in ranges fields) ns
    (checked_range range (number_of field)) (numbers_in_range ranges fields) e

numbers_range : (ranges : List Range) (fields : List (List ℕ)) (ns : List ℕ) → numbers ranges fields ≡ Ok ns
    → AreWithin ranges ns
numbers_range ranges fields ns e =
    numbers_in_range ranges fields ns (guard_ok (eqb (length fields) (length ranges)) (numbers_in ranges fields) 7 ns
    e).1

in_heading_range : (low high reason : ℕ) (o : Option ℕ) (n : ℕ) → in_heading low high reason o ≡ Ok n
    → (low ≤ n) × (n ≤ high)
in_heading_range low high reason None n e = absurd cc
in_heading_range low high reason (Some m) n e =
    let found = guard_ok (leb low m && leb m high) (Ok m) reason n e in
    let parts = both (leb low m) (leb m high) found.0 in
    subst (λ (k : ℕ). (low ≤ k) × (k ≤ high)) (same_Ok m n found.1) (leb-true _ _ parts.0, leb-true _ _ parts.1)

heading_range : (text : List ℕ) (low high reason : ℕ) (fields : List (List ℕ)) (n : ℕ)
    → heading text low high reason fields ≡ Ok n → (low ≤ n) × (n ≤ high)
heading_range text low high reason [] n e = absurd cc
heading_range text low high reason (first ∷ []) n e = absurd cc
heading_range text low high reason (first ∷ second ∷ []) n e =
    in_heading_range low high reason (number_of second) n
    (guard_ok (bytes_eq first text) (in_heading low high reason (number_of second)) reason n e).1
heading_range text low high reason (first ∷ second ∷ third ∷ fields) n e = absurd cc

global_range : (globals g : ℕ) → (global globals).low ≤ g → g ≤ (global globals).high → g < globals
global_range zero g low high = absurd (omega arith)
global_range (suc n) g low high = omega arith

-- ---- operations

operation_range : (place : Place) (w : Word) (ns : List ℕ) (o : Op) → AreWithin (ranges_of place w) ns
    → operation_of w ns ≡ Some o → InRange place.script.globals o
operation_range place word.New (a ∷ b ∷ c ∷ []) o h e =
    subst (InRange place.script.globals) (same_Some (op.New a b c) o e) (omega (arith, h.1), h.2.1, h.2.2.1)
operation_range place word.Load (a ∷ b ∷ c ∷ []) o h e =
    subst (InRange place.script.globals) (same_Some (op.Load a b c) o e) (
      omega (arith, h.1),
      omega (arith, h.2.1),
      h.2.2.1,
    )
operation_range place word.Store (a ∷ b ∷ c ∷ []) o h e =
    subst (InRange place.script.globals) (same_Some (op.Store a b c) o e) (
      omega (arith, h.1),
      h.2.1,
      omega (arith, h.2.2.1),
    )
operation_range place word.Get (a ∷ b ∷ []) o h e =
    subst (InRange place.script.globals) (same_Some (op.Get a b) o e) (omega (arith, h.1), h.2.1)
operation_range place word.Put (a ∷ b ∷ c ∷ []) o h e =
    subst (InRange place.script.globals) (same_Some (op.Put a b c) o e) (
      omega (arith, h.1),
      h.2.1,
      omega (arith, h.2.2.1),
    )
operation_range place word.GLoad (a ∷ b ∷ []) o h e =
    subst (InRange place.script.globals) (same_Some (op.GLoad a b) o e) (
      omega (arith, h.1),
      global_range place.script.globals b h.2.0 h.2.1,
    )
operation_range place word.GStore (a ∷ b ∷ []) o h e =
    subst (InRange place.script.globals) (same_Some (op.GStore a b) o e) (
      global_range place.script.globals a h.0 h.1,
      omega (arith, h.2.1),
    )
operation_range place word.Same (a ∷ b ∷ []) o h e =
    subst (InRange place.script.globals) (same_Some (op.Same a b) o e) (omega (arith, h.1), omega (arith, h.2.1))
operation_range place word.Copy (a ∷ b ∷ []) o h e =
    subst (InRange place.script.globals) (same_Some (op.Copy a b) o e) (omega (arith, h.1), omega (arith, h.2.1))
operation_range place word.Drop (a ∷ []) o h e =
    subst (InRange place.script.globals) (same_Some (op.Drop a) o e) (omega (arith, h.1))
operation_range place word.Collect [] o h e =
    subst (InRange place.script.globals) (same_Some op.Collect o e) tt
operation_range place w ns o h e = absurd (none-some o e)

-- ---- places

all_push : {X : Type 0} (P : X → Type 0) (xs : List X) (x : X) → AllByRecursion P xs → P x
    → AllByRecursion P (xs ++ x ∷ [])
all_push P [] x h p = (p, tt)
all_push P (y ∷ xs) x h p = (h.0, all_push P xs x h.1 p)

-- the lines of the open program, and whatever may stand after them
abbrev Opens : ℕ → List Item → List Bool → Type 0
Opens globals items blocks = (rest : List Item) → AreItems globals blocks rest → AreItems globals [] (items ++ rest)

-- what is whole so far
record IsBody (threads : ℕ) (script : Script) : Type 0 where
  some : 0 < threads
  most : threads ≤ 8
  globals : script.globals ≤ 64
  few_orders : length script.orders ≤ 65536
  orders : AllByRecursion (IsOrder threads) script.orders
  programs : AllByRecursion (AreItems script.globals []) script.programs
  count : operation_count script.programs ≤ 1048576

abbrev IsAt : Expected → ℕ → Script → List Item → List Bool → Type 0
IsAt stage.Version threads script items blocks = Unit {0}
IsAt stage.Threads threads script items blocks = Unit {0}
IsAt stage.Globals threads script items blocks = (0 < threads) × (threads ≤ 8)
IsAt stage.Orders threads script items blocks = IsBody threads script × (length script.programs < threads)
IsAt stage.Between threads script items blocks = IsBody threads script × (length script.programs < threads)
IsAt stage.Inside threads script items blocks = IsBody threads script × (length script.programs < threads)
    × Opens script.globals items blocks
IsAt stage.Over threads script items blocks = IsBody threads script × (length script.programs ≡ threads)

abbrev IsPlace : Place → Type 0
IsPlace place = IsAt place.stage place.threads place.script place.items place.blocks

abbrev pub placed : Expected → ℕ → Script → List Item → List Bool → Place
placed s threads script items blocks =
    record { stage = s; threads = threads; script = script; items = items; blocks = blocks }

opens_none : (globals : ℕ) → Opens globals [] []
opens_none globals rest h = h

opens_more : (globals : ℕ) (items : List Item) (blocks next : List Bool) (i : Item) → Opens globals items blocks
    → ((rest : List Item) → AreItems globals next rest → AreItems globals blocks (i ∷ rest))
    → Opens globals (items ++ i ∷ []) next
opens_more globals items blocks next i h step rest r =
    subst (AreItems globals []) (sym (append_assoc items (i ∷ []) rest)) (h (i ∷ rest) (step rest r))

opens_all : (globals : ℕ) (items : List Item) → Opens globals items [] → AreItems globals [] items
opens_all globals items h = subst (AreItems globals []) (append-nil items) (h [] refl)

-- ---- lines of a program

operation_kept : (threads : ℕ) (script : Script) (items : List Item) (blocks : List Bool) (o : Option Op) (next : Place)
    → IsAt stage.Inside threads script items blocks → ((x : Op) → o ≡ Some x → InRange script.globals x)
    → after_operation (placed stage.Inside threads script items blocks) o ≡ Ok next → IsPlace next
operation_kept threads script items blocks None next h range e = absurd cc
operation_kept threads script items blocks (Some o) next h range e =
    subst IsPlace (same_Ok (placed stage.Inside threads script (items ++ item.Op o ∷ []) (with_operation blocks)) next
    e) (
      h.0,
      h.1,
      opens_more script.globals items blocks (with_operation blocks) (item.Op o) h.2
          (λ rest r. (range o refl, r)),
    )

repeat_kept : (threads : ℕ) (script : Script) (items : List Item) (blocks : List Bool) (ns : List ℕ) (next : Place)
    → IsAt stage.Inside threads script items blocks
    → AreWithin (ranges_of (placed stage.Inside threads script items blocks) word.Repeat) ns
    → after_repeat (placed stage.Inside threads script items blocks) ns ≡ Ok next → IsPlace next
repeat_kept threads script items blocks [] next h range e = absurd cc
repeat_kept threads script items blocks (n ∷ []) next h range e =
    let found = guard_ok (ltb (length blocks) 4)
    (Ok (placed stage.Inside threads script (items ++ item.Repeat n ∷ []) (false ∷ blocks))) 11 next e in
    let shallow : length blocks < 4 = ltb-true _ _ found.0 in
    subst IsPlace (same_Ok (placed stage.Inside threads script (items ++ item.Repeat n ∷ []) (false ∷ blocks)) next
    found.1) (
      h.0,
      h.1,
      opens_more script.globals items blocks (false ∷ blocks) (item.Repeat n) h.2
          (λ rest r. (omega (arith, range.0), range.1, shallow, r)),
    )
repeat_kept threads script items blocks (n ∷ m ∷ ns) next h range e = absurd cc

end_kept : (threads : ℕ) (script : Script) (items : List Item) (blocks : List Bool) (next : Place)
    → IsAt stage.Inside threads script items blocks → after_end (placed stage.Inside threads script items blocks) blocks
    ≡ Ok next → IsPlace next
end_kept threads script items [] next h e = absurd cc
end_kept threads script items (false ∷ blocks) next h e = absurd cc
end_kept threads script items (true ∷ blocks) next h e =
    subst IsPlace (same_Ok (placed stage.Inside threads script (items ++ item.End ∷ []) (with_operation blocks)) next e)
    (h.0, h.1, opens_more script.globals items (true ∷ blocks) (with_operation blocks) item.End h.2 (λ rest r. r))

-- the next program, or the end
after_kept : (b : Bool) (threads : ℕ) (script : Script) → eqb (length script.programs) threads ≡ b
    → IsBody threads script → length script.programs ≤ threads
    → IsPlace (placed (cond b stage.Over stage.Between) threads script [] [])
after_kept true threads script e body le = (body, eqb-true _ _ e)
after_kept false threads script e body le =
    let apart : length script.programs ≡ threads → ⊥ = eqb-false _ _ e in
    (body, omega arith)

done_kept : (threads : ℕ) (script : Script) (items : List Item) (next : Place)
    → IsAt stage.Inside threads script items [] → after_done (placed stage.Inside threads script items []) ≡ Ok next
    → IsPlace next
done_kept threads script items next h e =
    let whole = with_program script items in
    let body = h.0 in
    let result = placed (cond (eqb (length whole.programs) threads) stage.Over stage.Between) threads whole [] [] in
    let found = guard_ok (leb (operation_count whole.programs) 1048576) (Ok result) 13 next e in
    let is_body : IsBody threads whole = record {
      some = body.some;
      most = body.most;
      globals = body.globals;
      few_orders = body.few_orders;
      orders = body.orders;
      programs = all_push (AreItems script.globals []) script.programs items body.programs
          (opens_all script.globals items h.2);
      count = leb-true _ _ found.0;
    }
    in
    subst IsPlace (same_Ok result next found.1)
    (after_kept (eqb (length whole.programs) threads) threads whole refl is_body
    (omega (arith, length_push script.programs items, h.1)))

thread_kept : (s : Expected) (threads : ℕ) (script : Script) (items : List Item) (blocks : List Bool) (next : Place)
    → IsBody threads script → length script.programs < threads
    → after_thread (placed s threads script items blocks) ≡ Ok next → IsPlace next
thread_kept s threads script items blocks next body few e =
    subst IsPlace (same_Ok (placed stage.Inside threads script [] []) next e) (body, few, opens_none script.globals)

order_kept : (threads : ℕ) (script : Script) (items : List Item) (blocks : List Bool) (ns : List ℕ) (next : Place)
    → IsAt stage.Orders threads script items blocks
    → AreWithin (ranges_of (placed stage.Orders threads script items blocks) word.Order) ns
    → after_order (placed stage.Orders threads script items blocks) ns ≡ Ok next → IsPlace next
order_kept threads script items blocks [] next h range e = absurd cc
order_kept threads script items blocks (t ∷ []) next h range e = absurd cc
order_kept threads script items blocks (t ∷ n ∷ []) next h range e =
    let body = h.0 in
    let ordered : Script = record {
      globals = script.globals;
      orders = script.orders ++ (t, n) ∷ [];
      programs = script.programs;
    } in
    let result = placed stage.Orders threads ordered items blocks in
    let found = guard_ok (ltb (length script.orders) 65536) (Ok result) 10 next e in
    let few : length script.orders < 65536 = ltb-true _ _ found.0 in
    let is_order : IsOrder threads (t, n) =
    record { thread = omega (arith, range.1, body.some); some = omega (arith, range.2.0); few = range.2.1 } in
    let is_body : IsBody threads ordered = record {
      some = body.some;
      most = body.most;
      globals = body.globals;
      few_orders = omega (arith, length_push script.orders (t, n), few);
      orders = all_push (IsOrder threads) script.orders (t, n) body.orders is_order;
      programs = body.programs;
      count = body.count;
    }
    in
    subst IsPlace (same_Ok result next found.1) (is_body, h.1)
order_kept threads script items blocks (t ∷ n ∷ m ∷ ns) next h range e = absurd cc

-- ---- lines with a word

-- what a line leads to, where its numbers are in range
numbered : (place : Place) (w : Word) (fields : List (List ℕ)) (next : Place)
    → and_then (numbers (ranges_of place w) fields) (after_line place w) ≡ Ok next
    → (ns : List ℕ) × AreWithin (ranges_of place w) ns × (after_line place w ns ≡ Ok next)
numbered place w fields next e =
    let found = then_ok (numbers (ranges_of place w) fields) (after_line place w) next e in
    (found.0, numbers_range (ranges_of place w) fields found.0 found.1, found.2)

-- the same of a line that may stand here
standing : (place : Place) (w : Word) (fields : List (List ℕ)) (next : Place)
    → after_word place (Some w) fields ≡ Ok next → (fits place.stage place.blocks w ≡ true)
    × ((ns : List ℕ) × AreWithin (ranges_of place w) ns × (after_line place w ns ≡ Ok next))
standing place w fields next e =
    let found = guard_ok (fits place.stage place.blocks w)
    (and_then (numbers (ranges_of place w) fields) (after_line place w)) 6 next e in
    (found.0, numbered place w fields next found.1)

orders_kept : (w : Word) (threads : ℕ) (script : Script) (items : List Item) (blocks : List Bool)
    (fields : List (List ℕ)) {next : Place} → IsAt stage.Orders threads script items blocks
    → after_word (placed stage.Orders threads script items blocks) (Some w) fields ≡ Ok next → IsPlace next
orders_kept word.Thread threads script items blocks fields {next} h e =
    let line = standing (placed stage.Orders threads script items blocks) word.Thread fields next e in
    thread_kept stage.Orders threads script items blocks next h.0 h.1 line.1.2
orders_kept word.Order threads script items blocks fields {next} h e =
    let line = standing (placed stage.Orders threads script items blocks) word.Order fields next e in
    order_kept threads script items blocks line.1.0 next h line.1.1 line.1.2
orders_kept w threads script items blocks fields {next} h e = absurd cc

between_kept : (w : Word) (threads : ℕ) (script : Script) (items : List Item) (blocks : List Bool)
    (fields : List (List ℕ)) {next : Place} → IsAt stage.Between threads script items blocks
    → after_word (placed stage.Between threads script items blocks) (Some w) fields ≡ Ok next → IsPlace next
between_kept word.Thread threads script items blocks fields {next} h e =
    let line = standing (placed stage.Between threads script items blocks) word.Thread fields next e in
    thread_kept stage.Between threads script items blocks next h.0 h.1 line.1.2
between_kept w threads script items blocks fields {next} h e = absurd cc

inside_kept : (w : Word) (threads : ℕ) (script : Script) (items : List Item) (blocks : List Bool)
    (fields : List (List ℕ)) {next : Place} → IsAt stage.Inside threads script items blocks
    → after_word (placed stage.Inside threads script items blocks) (Some w) fields ≡ Ok next → IsPlace next
inside_kept word.Repeat threads script items blocks fields {next} h e =
    let line = standing (placed stage.Inside threads script items blocks) word.Repeat fields next e in
    repeat_kept threads script items blocks line.1.0 next h line.1.1 line.1.2
inside_kept word.End threads script items blocks fields {next} h e =
    let line = standing (placed stage.Inside threads script items blocks) word.End fields next e in
    end_kept threads script items blocks next h line.1.2
inside_kept word.Done threads script items [] fields {next} h e =
    let line = standing (placed stage.Inside threads script items []) word.Done fields next e in
    done_kept threads script items next h line.1.2
inside_kept word.Done threads script items (b ∷ blocks) fields {next} h e = absurd cc
inside_kept word.Thread threads script items blocks fields {next} h e = absurd cc
inside_kept word.Order threads script items blocks fields {next} h e = absurd cc
inside_kept w threads script items blocks fields {next} h e =
    let place = placed stage.Inside threads script items blocks in
    let line = standing place w fields next e in
    operation_kept threads script items blocks (operation_of w line.1.0) next h
    (λ o is. operation_range place w line.1.0 o line.1.1 is) line.1.2

-- ---- any line

-- one that begins with a word, where all words lead to a place
word_kept : (place : Place) (w : Option Word) (fields : List (List ℕ)) {next : Place}
    → ((x : Word) → after_word place (Some x) fields ≡ Ok next → IsPlace next) → after_word place w fields ≡ Ok next
    → IsPlace next
word_kept place None fields kept e = absurd cc
word_kept place (Some w) fields kept e = kept w e

fields_kept : (s : Expected) (threads : ℕ) (script : Script) (items : List Item) (blocks : List Bool)
    (fields : List (List ℕ)) {next : Place} → IsAt s threads script items blocks
    → after_fields (placed s threads script items blocks) s fields ≡ Ok next → IsPlace next
fields_kept stage.Version threads script items blocks fields {next} h e =
    let found = then_ok (heading (codes "melt") 1 1 3 fields) (λ n. Ok (placed stage.Threads 0 script [] [])) next e in
    subst IsPlace (same_Ok (placed stage.Threads 0 script [] []) next found.2) tt
fields_kept stage.Threads threads script items blocks fields {next} h e =
    let found = then_ok (heading (codes "threads") 1 8 4 fields) (λ n. Ok (placed stage.Globals n script [] [])) next
    e in
    let range = heading_range (codes "threads") 1 8 4 fields found.0 found.1 in
    subst IsPlace (same_Ok (placed stage.Globals found.0 script [] []) next found.2) (omega (arith, range.0), range.1)
fields_kept stage.Globals threads script items blocks fields {next} h e =
    let opened : ℕ → Script = λ n. record { globals = n; orders = []; programs = [] } in
    let found = then_ok (heading (codes "globals") 0 64 5 fields)
    (λ n. Ok (placed stage.Orders threads (opened n) [] [])) next e in
    let range = heading_range (codes "globals") 0 64 5 fields found.0 found.1 in
    let body : IsBody threads (opened found.0) =
    record {
      some = h.0;
      most = h.1;
      globals = range.1;
      few_orders = omega arith;
      orders = tt;
      programs = tt;
      count = omega arith;
    } in
    subst IsPlace (same_Ok (placed stage.Orders threads (opened found.0) [] []) next found.2) (body, h.0)
fields_kept stage.Orders threads script items blocks [] {next} h e = absurd cc
fields_kept stage.Orders threads script items blocks (first ∷ fields) {next} h e =
    word_kept (placed stage.Orders threads script items blocks) (word_of first) fields
    (λ w. orders_kept w threads script items blocks fields h) e
fields_kept stage.Inside threads script items blocks [] {next} h e = absurd cc
fields_kept stage.Inside threads script items blocks (first ∷ fields) {next} h e =
    word_kept (placed stage.Inside threads script items blocks) (word_of first) fields
    (λ w. inside_kept w threads script items blocks fields h) e
fields_kept stage.Between threads script items blocks [] {next} h e = absurd cc
fields_kept stage.Between threads script items blocks (first ∷ fields) {next} h e =
    word_kept (placed stage.Between threads script items blocks) (word_of first) fields
    (λ w. between_kept w threads script items blocks fields h) e
fields_kept stage.Over threads script items blocks [] {next} h e = absurd cc
fields_kept stage.Over threads script items blocks (first ∷ fields) {next} h e =
    word_kept (placed stage.Over threads script items blocks) (word_of first) fields (λ w is. absurd (cc)) e

line_kept : (place : Place) (bytes : List ℕ) (next : Place) → IsPlace place → after place bytes ≡ Ok next → IsPlace next
line_kept place bytes next h e =
    let fields = fields_of bytes in
    let printed = guard_ok (list_all is_printable bytes)
    (cond (is_skipped fields) (Ok place) (after_fields place place.stage fields)) 2 next e in
    elim (either_ok (is_skipped fields) (Ok place) (after_fields place place.stage fields) next printed.1) [
      | inl skipped ↦ subst IsPlace (same_Ok place next skipped) h
      | inr taken ↦ fields_kept place.stage place.threads place.script place.items place.blocks fields h taken
    ]

-- ---- a whole trace

ended_kept : (n : ℕ) (s : Expected) (threads : ℕ) (script : Script) (items : List Item) (blocks : List Bool)
    {whole : Script} → IsAt s threads script items blocks
    → ◌≡◌ {A = Result Script (ℕ × ℕ)} (script_at_end n s script) (Ok whole) → IsScript whole
ended_kept n stage.Over threads script items blocks {whole} h e =
    let body = h.0 in
    let count : length script.programs ≡ threads = h.1 in
    let is_script : IsScript script = record {
      some = omega (arith, body.some);
      few = omega (arith, body.most);
      globals = body.globals;
      few_orders = body.few_orders;
      orders = subst (λ (n : ℕ). AllByRecursion (IsOrder n) script.orders) (sym count) body.orders;
      programs = body.programs;
      count = body.count;
    }
    in
    let same : script ≡ whole = cc in
    subst IsScript same is_script
ended_kept n s threads script items blocks {whole} h e = absurd cc

next_kept : (n : ℕ) (lines : List (List ℕ)) (whole : Script) (r : Result Place ℕ)
    → ((next : Place) → r ≡ Ok next → IsPlace next) → ((next : Place) → IsPlace next
    → ◌≡◌ {A = Result Script (ℕ × ℕ)} (script_from (n + 1) next lines) (Ok whole) → IsScript whole)
    → ◌≡◌ {A = Result Script (ℕ × ℕ)} (elim r [
      | Ok next ↦ script_from (n + 1) next lines
      | Err reason ↦
          Err (n, reason)
    ]) (Ok whole) → IsScript whole
next_kept n lines whole (Ok next) kept rest e = rest next (kept next refl) e
next_kept n lines whole (Err reason) kept rest e = absurd cc

from_kept : (n : ℕ) (place : Place) (lines : List (List ℕ)) (whole : Script) → IsPlace place
    → ◌≡◌ {A = Result Script (ℕ × ℕ)} (script_from n place lines) (Ok whole) → IsScript whole
from_kept n place [] whole h e = ended_kept n place.stage place.threads place.script place.items place.blocks h e
from_kept n place (bytes ∷ lines) whole h e =
    next_kept n lines whole (after place bytes) (λ next is. line_kept place bytes next h is)
    (λ next k f. from_kept (n + 1) next lines whole k f) e

not_long : (b : Bool) (r : Result Script (ℕ × ℕ)) (script : Script) → cond b r (Err (0, 1)) ≡ Ok script → r ≡ Ok script
not_long true r script e = e
not_long false r script e = absurd cc

-- what is read is in range
pub is_script : (bytes : List ℕ) (script : Script) → script_of bytes ≡ Ok script → IsScript script
is_script bytes script e =
    from_kept 1 first_place (lines_of bytes) script tt (not_long (leb (length bytes) max_bytes)
    (script_from 1 first_place (lines_of bytes)) script e)
