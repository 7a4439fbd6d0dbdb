-- What the names of addresses are, from the two lists that they are kept in.
use Rattle.std.proofs.Common.{◌≡◌, ◌≢◌, ℕ, ◌-◌, ◌<◌, ◌≤◌, suc, zero, Bool, true, false, if◌then◌else◌, List, [], ◌∷◌}
use Rattle.std.proofs.Common.{◌++◌, drop, length, Option, None, Some, refl, sym, ◌∙◌, ap, subst, arith, replicate}
use Rattle.std.proofs.Common.{slice_index, slice_index_or, slice_set, get_or-set_same, get_or-set_other}
use Rattle.std.proofs.lemmas.List.{length-set}
use Rattle.std.proofs.lemmas.Grind.{common_steps}
use Rattle.melt_scion.specs.Names.{names_of, name_at, SetsName, Clears}

pub names_of-length : (named : List Bool) (numbers : List ℕ) → length named ≡ length numbers
    → length (names_of named numbers) ≡ length named
names_of-length [] [] same = refl
names_of-length [] (n ∷ ns) same = grind arith
names_of-length (b ∷ bs) [] same = grind arith
names_of-length (b ∷ bs) (n ∷ ns) same = let more = names_of-length bs ns (grind arith) in grind arith

pub names_of-at : (named : List Bool) (numbers : List ℕ) (k : ℕ) → length named ≡ length numbers
    → slice_index_or (names_of named numbers) k None
    ≡ (if slice_index_or named k false then Some (slice_index numbers k) else None)
names_of-at [] [] k same = grind arith
names_of-at [] (n ∷ ns) k same = grind arith
names_of-at (b ∷ bs) [] k same = grind arith
names_of-at (b ∷ bs) (n ∷ ns) zero same = refl
names_of-at (b ∷ bs) (n ∷ ns) (suc k) same = names_of-at bs ns k (grind arith)

pub names_of-none : (count : ℕ) (numbers : List ℕ) → length numbers ≡ count
    → names_of (replicate count false) numbers ≡ replicate count None
names_of-none zero [] same = refl
names_of-none zero (n ∷ ns) same = grind arith
names_of-none (suc count) [] same = grind arith
names_of-none (suc count) (n ∷ ns) same =
    ap (λ (rest : List (Option ℕ)). None ∷ rest) (names_of-none count ns (grind arith))

-- the name of the address after an index
name-named : (named : List Bool) (numbers : List ℕ) (k : ℕ) → length named ≡ length numbers
    → slice_index_or named k false ≡ true
    → slice_index_or (names_of named numbers) k None ≡ Some (slice_index numbers k)
name-named named numbers k same is = names_of-at named numbers k same
    ∙ ap (λ (b : Bool). if b then Some (slice_index numbers k) else None) is

name-none : (named : List Bool) (numbers : List ℕ) (k : ℕ) → length named ≡ length numbers
    → slice_index_or named k false ≡ false → slice_index_or (names_of named numbers) k None ≡ None
name-none named numbers k same is = names_of-at named numbers k same
    ∙ ap (λ (b : Bool). if b then Some (slice_index numbers k) else None) is

-- names that differ in neither list
name-same : (named named' : List Bool) (numbers numbers' : List ℕ) (k : ℕ) → length named ≡ length numbers
    → length named' ≡ length numbers' → slice_index_or named' k false ≡ slice_index_or named k false
    → slice_index numbers' k ≡ slice_index numbers k
    → slice_index_or (names_of named' numbers') k None ≡ slice_index_or (names_of named numbers) k None
name-same named named' numbers numbers' k same same' bs ns =
    names_of-at named' numbers' k same'
    ∙ (ap (λ (b : Bool). if b then Some (slice_index numbers' k) else None) bs
    ∙ (ap (λ (n : ℕ). if slice_index_or named k false then Some n else None) ns
    ∙ sym (names_of-at named numbers k same)))

set_others : (named : List Bool) (numbers : List ℕ) (k number j : ℕ) → length named ≡ length numbers → j ≢ suc k
    → name_at (names_of (slice_set named k true) (slice_set numbers k number)) j ≡ name_at (names_of named numbers) j
set_others named numbers k number zero same other = refl
set_others named numbers k number (suc i) same other =
    let apart : i ≢ k = grind arith in
    name-same named (slice_set named k true) numbers (slice_set numbers k number) i same
    (length-set named k true ∙ (same ∙ sym (length-set numbers k number)))
    (get_or-set_other named k i true false apart)
    (get_or-set_other numbers k i number 0 apart)

set_at : (named : List Bool) (numbers : List ℕ) (k number : ℕ) → length named ≡ length numbers → k < length named
    → SetsName (names_of named numbers) (names_of (slice_set named k true) (slice_set numbers k number)) (suc k) number
set_at named numbers k number same below =
    let lengths : length (slice_set named k true) ≡ length (slice_set numbers k number) =
    length-set named k true ∙ (same ∙ sym (length-set numbers k number)) in
    let within : k < length numbers = omega (arith, below, same) in
    record {
      here = name-named (slice_set named k true) (slice_set numbers k number) k lengths
          (get_or-set_same named k true false below) ∙ ap Some (get_or-set_same numbers k number 0 within);
      others = λ j other. set_others named numbers k number j same other;
      size = names_of-length (slice_set named k true) (slice_set numbers k number) lengths
          ∙ (length-set named k true ∙ sym (names_of-length named numbers same));
    }

-- there is a name for each address
pub long : (names : List (Option ℕ)) (named : List Bool) (numbers : List ℕ) → names_of named numbers ≡ names
    → length named ≡ length numbers → length names ≡ length named
long names named numbers view same = ap length (sym view) ∙ names_of-length named numbers same

-- a number is put at an address
pub sets : (names : List (Option ℕ)) (named : List Bool) (numbers : List ℕ) (address number : ℕ)
    → names_of named numbers ≡ names → length named ≡ length numbers → 1 ≤ address → address ≤ length names
    → SetsName names (names_of (slice_set named (address - 1) true) (slice_set numbers (address - 1) number)) address
    number
sets names named numbers address number view same first last =
    let size = long names named numbers view same in
    let k : ℕ = address - 1 in
    let new : List (Option ℕ) = names_of (slice_set named k true) (slice_set numbers k number) in
    let at : suc k ≡ address = omega (arith, first) in
    let P : ℕ → Type 0 = λ a. SetsName names new a number in
    let Q : List (Option ℕ) → Type 0 = λ old. SetsName old new (suc k) number in
    subst P at (subst Q view (set_at named numbers k number same (omega (arith, first, last, size))))

kept_length : (named : List Bool) (last : ℕ) → last ≤ length named
    → length (replicate last false ++ drop last named) ≡ length named
kept_length named last within = grind (arith, common_steps)

cleared_at : (named : List Bool) (numbers : List ℕ) (last k : ℕ) → length named ≡ length numbers → last ≤ length named
    → k ≤ last → name_at (names_of (replicate last false ++ drop last named) numbers) k ≡ None
cleared_at named numbers last zero same within low = refl
cleared_at named numbers last (suc i) same within low =
    name-none (replicate last false ++ drop last named) numbers i (kept_length named last within ∙ same)
    (grind (arith, common_steps))

kept_at : (named : List Bool) (numbers : List ℕ) (last k : ℕ) → length named ≡ length numbers → last ≤ length named
    → last < k → name_at (names_of (replicate last false ++ drop last named) numbers) k ≡ name_at
    (names_of named numbers) k
kept_at named numbers last zero same within high = refl
kept_at named numbers last (suc i) same within high =
    name-same named (replicate last false ++ drop last named) numbers numbers i same
    (kept_length named last within ∙ same) (grind (arith, common_steps)) refl

-- the first numbers are taken away
pub clears : (names : List (Option ℕ)) (named : List Bool) (numbers : List ℕ) (last : ℕ)
    → names_of named numbers ≡ names → length named ≡ length numbers → last ≤ length names
    → Clears names (names_of (replicate last false ++ drop last named) numbers) last
clears names named numbers last view same within =
    let size = long names named numbers view same in
    let inside : last ≤ length named = omega (arith, within, size) in
    let kept = kept_length named last inside in
    let Q : List (Option ℕ) → Type 0 = λ old.
    Clears old (names_of (replicate last false ++ drop last named) numbers) last in
    subst Q view (record {
      cleared = λ k low. cleared_at named numbers last k same inside low;
      others = λ k high. kept_at named numbers last k same inside high;
      size = names_of-length (replicate last false ++ drop last named) numbers (kept ∙ same)
          ∙ (kept ∙ sym (names_of-length named numbers same));
    })

within : (named : List Bool) (index : ℕ) → slice_index_or named index false ≡ true → index < length named
within [] index is = absurd (cc)
within (b ∷ bs) zero is = omega arith
within (b ∷ bs) (suc i) is = let below = within bs i is in omega (arith, below)

defaults : (numbers : List ℕ) (index value : ℕ) → index < length numbers
    → slice_index numbers index ≡ slice_index_or numbers index value
defaults [] index value below = absurd (omega (arith, below))
defaults (n ∷ ns) zero value below = refl
defaults (n ∷ ns) (suc i) value below = defaults ns i value (omega (arith, below))

-- the number is there, so what stands for it past the end is all one
known : (named : List Bool) (numbers : List ℕ) (index : ℕ) → length named ≡ length numbers
    → slice_index_or named index false ≡ true → (value : ℕ) → value ≡ slice_index_or numbers index value
    → slice_index numbers index ≡ value
known named numbers index same is value value_is =
    let below = within named index is in
    defaults numbers index value (omega (arith, below, same)) ∙ sym value_is

-- what is read at an address
pub found : (names : List (Option ℕ)) (named : List Bool) (numbers : List ℕ) (address index : ℕ)
    → names_of named numbers ≡ names → length named ≡ length numbers → address ≡ suc index
    → slice_index_or named index false ≡ true → (value : ℕ) → value ≡ slice_index_or numbers index value
    → Some value ≡ name_at names address
found names named numbers address index view same at is value value_is =
    sym (ap (name_at names) at ∙ (ap (λ (ns : List (Option ℕ)). name_at ns (suc index)) (sym view)
    ∙ (name-named named numbers index same is ∙ ap Some (known named numbers index same is value value_is))))

pub missed : (names : List (Option ℕ)) (named : List Bool) (numbers : List ℕ) (address index : ℕ)
    → names_of named numbers ≡ names → length named ≡ length numbers → address ≡ suc index
    → slice_index_or named index false ≡ false → None ≡ name_at names address
missed names named numbers address index view same at is =
    sym (ap (name_at names) at ∙ (ap (λ (ns : List (Option ℕ)). name_at ns (suc index)) (sym view)
    ∙ name-none named numbers index same is))
