-- What changes once everything that is to be kept was copied: what registers hold, and the names of objects.
use Rattle.std.proofs.Common.{◌≡◌, ◌≢◌, ℕ, suc, ◌+◌, ◌<◌, ◌≤◌, eqb, List, [], ◌∷◌, ◌++◌, length, take, get_or, map}
use Rattle.std.proofs.Common.{slice_index, slice_set, refl, sym, ◌∙◌, ap, subst, arith, inl, inr}
use Rattle.std.specs.Prelude.{slice_get, Option, Some, None}
use Rattle.std.proofs.lemmas.Option.{slice_get_read, slice_get_within, get_or_from_slice_get}
use Rattle.std.proofs.lemmas.Bool.{cases_eq, eq-eqb, ne_eqb, cond-true, cond-false}
use Rattle.std.proofs.lemmas.List.{get_or-map, get_or-set_same, get_or-set_other, length-set, map-set, take_more}
use Rattle.melt_scion.specs.Heaps.{register_in}
use Rattle.melt_scion.specs.declared.registers.Registers.{Registers}
use Rattle.melt_copy.specs.declared.forwarding.Relocation.{Relocation}
use Rattle.melt_copy.specs.Moving.{name_after}
use Rattle.melt_copy.proofs.Counting.{slice_get-take}

-- what the registers of a thread hold
pub register_in-at : (held : List Registers) (t r : ℕ) (d : Registers) → t < length held
    → register_in held t r ≡ slice_index (get_or held t d).regs r
register_in-at held t r d within = ap (λ (regs : List ℕ). slice_index regs r)
    (get_or-map (λ (x : Registers). x.regs) held t d [] within)

-- a write to the registers of one thread
pub register_in-set_same : (held : List Registers) (t r : ℕ) (x : Registers) → t < length held
    → register_in (slice_set held t x) t r ≡ slice_index x.regs r
register_in-set_same held t r x within =
    let there : t < length (slice_set held t x) = omega (arith, length-set held t x) in
    register_in-at (slice_set held t x) t r x there
    ∙ ap (λ (y : Registers). slice_index y.regs r) (get_or-set_same held t x x within)

-- it leaves those of the others
pub register_in-set_other : (held : List Registers) (i t r : ℕ) (x : Registers) → t ≢ i
    → register_in (slice_set held i x) t r ≡ register_in held t r
register_in-set_other held i t r x other =
    ap (λ (all : List (List ℕ)). slice_index (get_or all t []) r) (map-set (λ (y : Registers). y.regs) held i x)
    ∙ ap (λ (regs : List ℕ). slice_index regs r)
    (get_or-set_other (map (λ (y : Registers). y.regs) held) i t x.regs [] other)

-- The registers of the first threads, so many of them, went through `f`, and the others are as they were.
pub record Forwards (f : ℕ → ℕ) (old new : List Registers) (count : ℕ) : Type 0 where
  pub done : (t r : ℕ) → t < count → register_in new t r ≡ f (register_in old t r)
  pub rest : (t r : ℕ) → count ≤ t → register_in new t r ≡ register_in old t r

-- the registers of one thread more
pub forwards_more : (f : ℕ → ℕ) (old new : List Registers) (i : ℕ) (d x : Registers) → Forwards f old new i
    → i < length new → ((r : ℕ) → slice_index x.regs r ≡ f (slice_index (get_or new i d).regs r))
    → Forwards f old (slice_set new i x) (i + 1)
forwards_more f old new i d x before within here = record {
  done = λ t r below. elim (cases_eq t i) [
    | inl same ↦
        let at_i : register_in (slice_set new i x) i r ≡ f (register_in old i r) =
        register_in-set_same new i r x within
        ∙ (here r ∙ ap f (sym (register_in-at new i r d within) ∙ before.rest i r (omega arith))) in
        subst (λ (u : ℕ). register_in (slice_set new i x) u r ≡ f (register_in old u r)) (sym same) at_i
    | inr other ↦ register_in-set_other new i t r x other ∙ before.done t r (omega arith)
  ];
  rest = λ t r after.
      let other : t ≢ i = omega arith in
      register_in-set_other new i t r x other ∙ before.rest t r (omega arith);
}

-- an address to which no object moves has no number
pub name_after-none : (name : ℕ → Option ℕ) (moves : List Relocation) (address : ℕ)
    → ((j : ℕ) (x : Relocation) → slice_get moves j ≡ Some x → x.to ≢ address) → name_after name moves address ≡ None
name_after-none name [] address free = refl
name_after-none name (x ∷ moves) address free =
    cond-false (eqb x.to address) (name x.from) (name_after name moves address) (ne_eqb x.to address (free 0 x refl))
    ∙ name_after-none name moves address (λ j y there. free (suc j) y there)

-- a further move gives its address a number, if no earlier one goes there
pub name_after-here : (name : ℕ → Option ℕ) (moves : List Relocation) (m : Relocation)
    → ((j : ℕ) (x : Relocation) → slice_get moves j ≡ Some x → x.to ≢ m.to)
    → name_after name (moves ++ m ∷ []) m.to ≡ name m.from
name_after-here name [] m free = cond-true (eqb m.to m.to) (name m.from) None (eq-eqb m.to m.to refl)
name_after-here name (x ∷ moves) m free =
    cond-false (eqb x.to m.to) (name x.from) (name_after name (moves ++ m ∷ []) m.to) (ne_eqb x.to m.to (free 0 x refl))
    ∙ name_after-here name moves m (λ j y there. free (suc j) y there)

-- it changes no other number
pub name_after-other : (name : ℕ → Option ℕ) (moves : List Relocation) (m : Relocation) (address : ℕ) → address ≢ m.to
    → name_after name (moves ++ m ∷ []) address ≡ name_after name moves address
name_after-other name [] m address other =
    cond-false (eqb m.to address) (name m.from) None (ne_eqb m.to address (λ e. other (sym e)))
name_after-other name (x ∷ moves) m address other =
    elim (cases_eq x.to address) [
      | inl same ↦ cond-true (eqb x.to address) (name x.from) (name_after name (moves ++ m ∷ []) address)
          (eq-eqb x.to address same) ∙ sym
          (cond-true (eqb x.to address) (name x.from) (name_after name moves address) (eq-eqb x.to address same))
      | inr apart ↦
          cond-false (eqb x.to address) (name x.from) (name_after name (moves ++ m ∷ []) address)
          (ne_eqb x.to address apart) ∙ (name_after-other name moves m address other
          ∙ sym (cond-false (eqb x.to address) (name x.from) (name_after name moves address)
          (ne_eqb x.to address apart)))
    ]

-- The move at an index, whose place is that of no other move.
pub record IsMoveAt (moves : List Relocation) (i : ℕ) (m : Relocation) : Type 0 where
  pub at : slice_get moves i ≡ Some m
  pub alone : (j : ℕ) (x : Relocation) → slice_get moves j ≡ Some x → x.to ≡ m.to → j ≡ i

pub move_at : (moves : List Relocation) (i : ℕ) (m : Relocation) → i < length moves → m ≡ get_or moves i m
    → ((i j : ℕ) (m n : Relocation) → slice_get moves i ≡ Some m → slice_get moves j ≡ Some n → m.to ≡ n.to → i ≡ j)
    → IsMoveAt moves i m
move_at moves i m within is apart =
    let at : slice_get moves i ≡ Some m = slice_get_read moves (length moves) i m refl within is in
    record { at = at; alone = λ j x there same. apart j i x m there at same }

-- no earlier move goes to the place of this one
free_before : (moves : List Relocation) (i : ℕ) (m : Relocation) → IsMoveAt moves i m → (j : ℕ) (x : Relocation)
    → slice_get (take i moves) j ≡ Some x → x.to ≢ m.to
free_before moves i m move j x there same =
    let old = slice_get-take moves i j x there in
    omega (arith, old.0, move.alone j x old.1 same)

-- the place of a move has no number before it
pub unnamed_before : (name : ℕ → Option ℕ) (moves : List Relocation) (i : ℕ) (m : Relocation) → IsMoveAt moves i m
    → name_after name (take i moves) m.to ≡ None
unnamed_before name moves i m move = name_after-none name (take i moves) m.to (free_before moves i m move)

-- one move more
pub name_after_more : (name now new : ℕ → Option ℕ) {moves : List Relocation} {i n : ℕ} {m : Relocation}
    → IsMoveAt moves i m → n ≡ i + 1 → ((k : ℕ) → now k ≡ name_after name (take i moves) k) → new m.to ≡ name m.from
    → ((k : ℕ) → k ≢ m.to → new k ≡ now k) → (k : ℕ) → new k ≡ name_after name (take n moves) k
name_after_more name now new {moves} {i} {n} {m} move next before here others k =
    let front : take n moves ≡ take i moves ++ m ∷ [] =
    ap (λ (count : ℕ). take count moves) next
    ∙ (take_more moves i m (slice_get_within moves i m move.at)
    ∙ ap (λ (x : Relocation). take i moves ++ x ∷ []) (get_or_from_slice_get moves i m m move.at)) in
    let on : new k ≡ name_after name (take i moves ++ m ∷ []) k = elim (cases_eq k m.to) [
      | inl same ↦ subst (λ (a : ℕ). new a ≡ name_after name (take i moves ++ m ∷ []) a) (sym same)
          (here ∙ sym (name_after-here name (take i moves) m (free_before moves i m move)))
      | inr other ↦ others k other ∙ (before k ∙ sym (name_after-other name (take i moves) m k other))
    ] in
    on ∙ ap (λ (ms : List Relocation). name_after name ms k) (sym front)

-- the number that was found for the object of a move
pub number_of : (name : ℕ → Option ℕ) (moves : List Relocation) (numbers : List (Option ℕ)) (i : ℕ) (m : Relocation)
    (number : Option ℕ) → numbers ≡ map (λ (x : Relocation). name x.from) moves → IsMoveAt moves i m
    → number ≡ get_or numbers i None → number ≡ name m.from
number_of name moves numbers i m number all move is =
    is ∙ (ap (λ (ns : List (Option ℕ)). get_or ns i None) all
    ∙ (get_or-map (λ (x : Relocation). name x.from) moves i m None (slice_get_within moves i m move.at)
    ∙ ap (λ (x : Relocation). name x.from) (get_or_from_slice_get moves i m m move.at)))
