-- Readers that are lent by one disk after the other, and given back from the last on.
use Rattle.std.proofs.Common.{◌≡◌, ℕ, ◌+◌, ◌<◌, List, [], ◌∷◌, ◌++◌, length, map, take, get_or, sum, refl, sym, ◌∙◌, ap}
use Rattle.std.proofs.Common.{arith, length-append}
use Rattle.std.proofs.lemmas.List.{get_or-map, get_or-take, get_or_at, length-map, length-take, map_push, take-take}
use Rattle.std.proofs.lemmas.List.{take_at, take_more}
use Rattle.std.proofs.lemmas.List.Sums.{sum-map, sum_by_push}

-- one more reader, of the next disk
pub lent_on : {X Y Z : Type 0} (shown : X → Z) (lent : Y → Z) (disks first : List X) (i : ℕ) (past : X)
    (readers new : List Y) (reader : Y) → i < length disks → map shown disks ≡ map shown first
    → new ≡ readers ++ reader ∷ [] → lent reader ≡ shown (get_or disks i past)
    → map lent readers ≡ take i (map shown first) → map lent new ≡ take (i + 1) (map shown first)
lent_on {X} {Y} {Z} shown lent disks first i past readers new reader below kept is same before =
    let none : Z = shown past in
    let low : i < length (map shown first) =
    omega (arith, length-map disks shown, ap (λ (zs : List Z). length zs) kept) in
    let here : get_or (map shown first) i none ≡ lent reader =
    ap (λ (zs : List Z). get_or zs i none) (sym kept) ∙ get_or-map shown disks i past none below ∙ sym same in
    ap (λ (ys : List Y). map lent ys) is ∙ map_push lent readers reader
    ∙ ap (λ (zs : List Z). zs ++ lent reader ∷ []) before
    ∙ ap (λ (z : Z). take i (map shown first) ++ z ∷ []) (sym here) ∙ sym (take_more (map shown first) i none low)

pub faultless_on : {Y : Type 0} (faults : Y → ℕ) (readers new : List Y) (reader : Y) → new ≡ readers ++ reader ∷ []
    → faults reader ≡ 0 → sum (map faults readers) ≡ 0 → sum (map faults new) ≡ 0
faultless_on {Y} faults readers new reader is none before =
    let more = ap (λ (ys : List Y). sum (map faults ys)) is in
    let one = sum-map faults (readers ++ reader ∷ []) in
    let two = sum_by_push faults readers reader in
    let three = sum-map faults readers in
    omega arith

-- what is left in front of the last
pub front_on : {Y : Type 0} (front first all : List Y) (last : Y) → first ≡ front ++ last ∷ []
    → first ≡ take (length first) all → front ≡ take (length front) all
front_on {Y} front first all last is begins =
    let size : length first ≡ length front + 1 =
    ap (λ (ys : List Y). length ys) is ∙ length-append front (last ∷ []) in
    sym (take_at front (last ∷ []) (length front) refl) ∙ ap (λ (ys : List Y). take (length front) ys) (sym is ∙ begins)
    ∙ take-take (length front) (length first) all (omega arith)

-- and what the last counts
pub last_is : {Y : Type 0} (faults : Y → ℕ) (front first all : List Y) (last : Y) → first ≡ front ++ last ∷ []
    → first ≡ take (length first) all → get_or (map faults all) (length front) 0 ≡ faults last
last_is {Y} faults front first all last is begins =
    let n : ℕ = length front in
    let size : length first ≡ n + 1 = ap (λ (ys : List Y). length ys) is ∙ length-append front (last ∷ []) in
    let within : n < length all =
    omega (arith, ap (λ (ys : List Y). length ys) begins, length-take (length first) all) in
    let below : n < length first = omega arith in
    let here : get_or all n last ≡ last =
    sym (get_or-take (length first) all n last below) ∙ ap (λ (ys : List Y). get_or ys n last) (sym begins ∙ is)
    ∙ get_or_at front last [] last n refl in
    get_or-map faults all n last 0 within ∙ ap faults here
