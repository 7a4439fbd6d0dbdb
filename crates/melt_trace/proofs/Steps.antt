-- What one line does to a place.
use Rattle.std.proofs.Common.{◌≡◌, ℕ, ◌+◌, ◌<◌, ◌≤◌, Bool, false, not, cond, eqb, List, [], ◌∷◌, ◌++◌, length, map, Ok}
use Rattle.std.proofs.Common.{Err, Result, refl, sym, ap, ◌∙◌, arith}
use Rattle.std.proofs.lemmas.Bool.{ne_eqb, lt-ltb, le-ltb, le-leb, lt-leb}
use Rattle.std.proofs.lemmas.List.{map_push}
use Rattle.std.proofs.lemmas.List.Sums.{sum_by_push}
use Rattle.melt_trace.specs.declared.script.Item.{Item}
use Rattle.melt_trace.specs.declared.script.Item.TheVariants as item
use Rattle.melt_trace.specs.declared.language.Expected.{Expected}
use Rattle.melt_trace.specs.declared.language.Expected.TheVariants as stage
use Rattle.melt_trace.specs.declared.parser.draft.Block.{Block}
use Rattle.melt_trace.specs.Script.{Script, expand}
use Rattle.melt_trace.specs.Language.{Place, operation_count, with_operation, with_program, after_done, after_end}
use Rattle.melt_trace.specs.Language.{after_repeat, has_open}
use Rattle.melt_trace.specs.Drafts.{blocks_of, capped, IsTallied}
use Rattle.melt_trace.proofs.Tally.{tallied_done}

abbrev pub at_place : Expected → ℕ → Script → List Item → List Bool → Place
at_place s threads script items blocks =
    record { stage = s; threads = threads; script = script; items = items; blocks = blocks }

pub same_place : (s : Expected) (threads : ℕ) (script : Script) {items others : List Item} {blocks around : List Bool}
    → items ≡ others → blocks ≡ around
    → ◌≡◌ {A = Result Place ℕ} (Ok (at_place s threads script items blocks))
    (Ok (at_place s threads script others around))
same_place s threads script {others} {blocks} e f =
    ap (λ (i : List Item). Ok (at_place s threads script i blocks)) e
    ∙ ap (λ (b : List Bool). Ok (at_place s threads script others b)) f

pub length-blocks : (count : ℕ) (blocks : List Block) → length (blocks_of count blocks) ≡ length blocks
length-blocks count [] = refl
length-blocks count (block ∷ around) = omega (arith, length-blocks block.before around)

pub no_blocks : (count : ℕ) (blocks : List Block) → blocks_of count blocks ≡ [] → blocks ≡ []
no_blocks count [] e = refl
no_blocks count (block ∷ around) e = absurd cc

-- ---- repeat

pub too_deep : (place : Place) (n : ℕ) → 4 ≤ length place.blocks → after_repeat place (n ∷ []) ≡ Err 11
too_deep place n le = rw (le-ltb _ _ le) refl

pub opens : (place : Place) (n : ℕ) → length place.blocks < 4
    → after_repeat place (n ∷ []) ≡ Ok (at_place place.stage place.threads place.script
    (place.items ++ item.Repeat n ∷ []) (false ∷ place.blocks))
opens place n lt = rw (lt-ltb _ _ lt) refl

-- ---- end

pub ends : (place : Place) (count : ℕ) (block : Block) (blocks around : List Block) → blocks ≡ block ∷ around
    → 0 < count → after_end place (blocks_of count blocks)
    ≡ Ok (at_place place.stage place.threads place.script (place.items ++ item.End ∷ [])
    (with_operation (blocks_of block.before around)))
ends place count block blocks around is some =
    ap (λ (b : List Block). after_end place (blocks_of count b)) is
    ∙ ap (λ (t : Bool). after_end place (t ∷ blocks_of block.before around)) (lt-ltb 0 count some)

-- ---- done

count_done : (globals : ℕ) (orders : List (ℕ × ℕ)) (programs : List (List Item)) (items : List Item) (total count : ℕ)
    → total ≡ operation_count programs → IsTallied items count []
    → (operation_count (programs ++ items ∷ []) ≡ total + length (expand items))
    × (count ≡ capped (length (expand items)))
count_done globals orders programs items total count is h = (
  sum_by_push (λ (i : List Item). length (expand i)) programs items
      ∙ ap (λ (n : ℕ). n + length (expand items)) (sym is),
  tallied_done items count h,
)

pub too_many : (place : Place) (total count : ℕ) → total ≡ operation_count place.script.programs → total ≤ 1048576
    → IsTallied place.items count [] → 1048576 < capped (total + count) → after_done place ≡ Err 13
too_many place total count is few h more =
    let counts = count_done place.script.globals place.script.orders place.script.programs place.items total count is
    h in
    rw (lt-leb (operation_count (place.script.programs ++ place.items ∷ [])) 1048576
    (omega (arith, counts.0, counts.1))) refl

pub few_enough : (place : Place) (total count : ℕ) → total ≡ operation_count place.script.programs → total ≤ 1048576
    → IsTallied place.items count [] → capped (total + count) ≤ 1048576
    → (capped (total + count) ≡ operation_count (place.script.programs ++ place.items ∷ []))
    × (after_done place ≡ Ok (at_place (cond (eqb (length (place.script.programs ++ place.items ∷ [])) place.threads)
    stage.Over stage.Between) place.threads (with_program place.script place.items) [] []))
few_enough place total count is few h less =
    let counts = count_done place.script.globals place.script.orders place.script.programs place.items total count is
    h in
    let same : capped (total + count) ≡ operation_count (place.script.programs ++ place.items ∷ []) =
    omega (arith, counts.0, counts.1) in
    (same, rw (le-leb (operation_count (place.script.programs ++ place.items ∷ [])) 1048576 (omega (arith, same))) refl)

pub programs_pushed : {V : Type 0} (f : V → List Item) (new old : List V) (p : V) (items : List Item)
    → new ≡ old ++ p ∷ [] → f p ≡ items → map f new ≡ map f old ++ items ∷ []
programs_pushed f new old p items is same =
    ap (map f) is ∙ map_push f old p ∙ ap (λ (i : List Item). map f old ++ i ∷ []) same

pub place_after_done : {s other : Expected} (threads globals : ℕ) (orders : List (ℕ
    × ℕ)) {programs others : List (List Item)}
    {items : List Item} {blocks : List Bool} → other ≡ s → others ≡ programs → items ≡ [] → blocks ≡ []
    → ◌≡◌ {A = Result Place ℕ}
    (Ok (at_place s threads (record { globals = globals; orders = orders; programs = programs }) [] []))
    (Ok (at_place other threads (record { globals = globals; orders = orders; programs = others }) items blocks))
place_after_done {s} threads globals orders {programs} {others} {items} {blocks} e f g h =
    sym (ap (λ (k : Expected). Ok (at_place k threads (record { globals = globals; orders = orders; programs = others })
    items blocks)) e
    ∙ ap (λ (k : List (List Item)). Ok (at_place s threads (record { globals = globals; orders = orders; programs = k })
    items blocks)) f
    ∙ ap (λ (k : List Item). Ok (at_place s threads (record { globals = globals; orders = orders; programs = programs })
    k blocks)) g
    ∙ ap (λ (k : List Bool). Ok (at_place s threads (record { globals = globals; orders = orders; programs = programs })
    [] k)) h)

pub some_open : (count : ℕ) (blocks : List Block) → not (eqb (length blocks) 0) ≡ has_open (blocks_of count blocks)
some_open count [] = refl
some_open count (block ∷ around) =
    let some : length (block ∷ around) ≡ 0 → ⊥ = omega arith in
    ap not (ne_eqb (length (block ∷ around)) 0 some)
