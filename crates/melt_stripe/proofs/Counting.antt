-- Counts of several disks: sums that none of them lowers, and who is named.
use Rattle.std.proofs.Common.{◌≡◌, ℕ, zero, suc, ◌+◌, ◌-◌, ◌^◌, ◌<◌, ◌≤◌, List, [], ◌∷◌, ◌++◌, length, map, min}
use Rattle.std.proofs.Common.{get_or, slice_set}
use Rattle.std.proofs.Common.{Option, None, Some, IsSome, sum, refl, sym, ◌∙◌, ap, arith}
use Rattle.std.specs.List.{sum_by}
use Rattle.std.specs.Option.{option_map}
use Rattle.std.proofs.Common.{inl, inr, get_or-set_same, get_or-set_other}
use Rattle.std.proofs.lemmas.Bool.{cases_eq, cases_lt}
use Rattle.std.proofs.lemmas.List.{get_or-map, length-map, length-set, map-set}
use Rattle.std.proofs.lemmas.List.Sums.{sum_by-cons, sum_by-set, sum_by_push, sum-map, get_or-le-sum_by}
use Rattle.melt_io.specs.Outside.{Rose, counted}
use Rattle.melt_stripe.specs.Counts.{IsAtFault, Names, NoneFell, NoneLost, RoseOf, count_of, lower_of}

-- the sum of counts of which none is lower
pub sum_le : (old new : List ℕ) → length new ≡ length old → ((d : ℕ) → get_or old d 0 ≤ get_or new d 0)
    → sum old ≤ sum new
sum_le [] [] size each = omega arith
sum_le [] (y ∷ new) size each = absurd (omega arith)
sum_le (x ∷ old) [] size each = absurd (omega arith)
sum_le (x ∷ old) (y ∷ new) size each =
    let here : x ≤ y = each 0 in
    let rest = sum_le old new (omega arith) (λ d. each (suc d)) in
    omega (arith, sum_by-cons (λ (n : ℕ). n) x old, sum_by-cons (λ (n : ℕ). n) y new)

sum_lt : (old new : List ℕ) (d : ℕ) → length new ≡ length old → ((e : ℕ) → get_or old e 0 ≤ get_or new e 0)
    → d < length old → get_or old d 0 < get_or new d 0 → sum old < sum new
sum_lt [] new d size each below more = absurd (omega arith)
sum_lt (x ∷ old) [] d size each below more = absurd (omega arith)
sum_lt (x ∷ old) (y ∷ new) zero size each below more =
    let rest = sum_le old new (omega arith) (λ e. each (suc e)) in
    omega (arith, sum_by-cons (λ (n : ℕ). n) x old, sum_by-cons (λ (n : ℕ). n) y new)
sum_lt (x ∷ old) (y ∷ new) (suc d) size each below more =
    let here : x ≤ y = each 0 in
    let rest = sum_lt old new d (omega arith) (λ e. each (suc e)) (omega arith) more in
    omega (arith, sum_by-cons (λ (n : ℕ). n) x old, sum_by-cons (λ (n : ℕ). n) y new)

pub at_le_sum : (counts : List ℕ) (d : ℕ) → get_or counts d 0 ≤ sum counts
at_le_sum [] d = omega arith
at_le_sum (x ∷ counts) zero = omega (arith, sum_by-cons (λ (n : ℕ). n) x counts)
at_le_sum (x ∷ counts) (suc d) = omega (arith, sum_by-cons (λ (n : ℕ). n) x counts, at_le_sum counts d)

pub count_le : {old new : List ℕ} → NoneFell old new → count_of old ≤ count_of new
count_le {old} {new} fell = let sums = sum_le old new fell.size fell.each in omega arith

pub count_rose : (old new : List ℕ) (d : ℕ) → NoneFell old new → RoseOf old new d → Rose (count_of old) (count_of new)
count_rose old new d fell rose below =
    let here : get_or old d 0 < 2 ^ 64 - 1 = omega (arith, at_le_sum old d, below) in
    let more : get_or old d 0 < get_or new d 0 = rose.1 here in
    let sums = sum_lt old new d fell.size fell.each rose.0 more in
    omega arith

pub none_fell : (counts : List ℕ) → NoneFell counts counts
none_fell counts = record { size = refl; each = λ d. omega arith }

pub fell_on : {old mid new : List ℕ} → NoneFell old mid → NoneFell mid new → NoneFell old new
fell_on one two = record { size = two.size ∙ one.size; each = λ d. omega (arith, one.each d, two.each d) }

pub rose_on : {old mid new : List ℕ} (d : ℕ) → NoneFell old mid → NoneFell mid new → RoseOf mid new d → RoseOf old new d
rose_on {old} {mid} {new} d one two rose = (
  omega (arith, one.size, rose.0),
  λ below. grind (arith, one.each d, two.each d, rose.1),
)

-- The sum of what two disks show, and what is given back to one of them.
pub counted_back : {X Y : Type 0} (count : X → ℕ) (faults : Y → ℕ) (disks : List X) (d : ℕ) (past new : X)
    (readers all : List Y) (reader : Y) → d < length disks
    → count new ≡ counted (count (get_or disks d past)) (faults reader)
    → all ≡ readers ++ reader ∷ []
    → counted (count_of (map count (slice_set disks d new))) (count_of (map faults readers))
    ≡ counted (count_of (map count disks)) (count_of (map faults all))
counted_back count faults disks d past new readers all reader below is whole =
    let set = sum_by-set count disks d new past below in
    let part = get_or-le-sum_by count disks d past below in
    let more : sum_by faults all ≡ sum_by faults readers + faults reader =
    ap (λ items. sum_by faults items) whole ∙ sum_by_push faults readers reader in
    let one = sum-map count (slice_set disks d new) in
    let two = sum-map count disks in
    let three = sum-map faults readers in
    let four = sum-map faults all in
    omega arith

-- where nothing of the one's counts is lost
pub kept_on : {X : Type 0} (count : X → ℕ) (first : List ℕ) (disks : List X) (d : ℕ) (past new : X) → d < length disks
    → min (count (get_or disks d past)) (2 ^ 64 - 1) ≤ count new → NoneLost first (map count disks)
    → NoneLost first (map count (slice_set disks d new))
kept_on count first disks d past new below keep before = λ e.
    let set : map count (slice_set disks d new) ≡ slice_set (map count disks) d (count new) =
    map-set count disks d new in
    let low : d < length (map count disks) = omega (arith, length-map disks count) in
    rw set (elim (cases_eq e d) [
      | inl same ↦
          let was : get_or (map count disks) e 0 ≡ count (get_or disks d past) =
          ap (λ i. get_or (map count disks) i 0) same ∙ get_or-map count disks d past 0 below in
          let now : get_or (slice_set (map count disks) d (count new)) e 0 ≡ count new =
          ap (λ i. get_or (slice_set (map count disks) d (count new)) i 0) same
          ∙ get_or-set_same (map count disks) d (count new) 0 low in
          omega (arith, before e)
      | inr other ↦
          let now = get_or-set_other (map count disks) d e (count new) 0 other in
          omega (arith, before e)
    ])

pub none_lost_on : {X : Type 0} (count : X → ℕ) (disks : List X) (d : ℕ) (past new : X) → d < length disks
    → min (count (get_or disks d past)) (2 ^ 64 - 1) ≤ count new
    → NoneLost (map count disks) (map count (slice_set disks d new))
none_lost_on count disks d past new below keep =
    kept_on count (map count disks) disks d past new below keep (λ e. omega arith)

-- A count that rose has risen still.
pub rose_kept : (old mid new : List ℕ) (d : ℕ) → RoseOf old mid d → min (get_or mid d 0) (2 ^ 64 - 1) ≤ get_or new d 0
    → RoseOf old new d
rose_kept old mid new d rose kept =
    (rose.0, λ low. let more : get_or old d 0 < get_or mid d 0 = rose.1 low in omega arith)

-- What one of them counts now.
pub now_on : {X : Type 0} (count : X → ℕ) (disks : List X) (d : ℕ) (new : X) → d < length disks
    → get_or (map count (slice_set disks d new)) d 0 ≡ count new
now_on count disks d new below =
    let low : d < length (map count disks) = omega (arith, length-map disks count) in
    ap (λ counts. get_or counts d 0) (map-set count disks d new)
    ∙ get_or-set_same (map count disks) d (count new) 0 low

pub rose_at : {X : Type 0} (count : X → ℕ) (disks : List X) (d : ℕ) (past new : X) → d < length disks
    → Rose (count (get_or disks d past)) (count new) → RoseOf (map count disks) (map count (slice_set disks d new)) d
rose_at count disks d past new below rose =
    let was : get_or (map count disks) d 0 ≡ count (get_or disks d past) = get_or-map count disks d past 0 below in
    let now = now_on count disks d new below in (
      omega (arith, length-map disks count),
      λ low. let more : count (get_or disks d past) < count new = rose (omega arith) in
          omega arith,
    )

-- What was given back to one of them made its count rise.
pub rose_taken : {X : Type 0} (count : X → ℕ) (first : List ℕ) (disks : List X) (d : ℕ) (past new : X) (more : ℕ)
    → d < length disks → d < length first → NoneLost first (map count disks)
    → count new ≡ counted (count (get_or disks d past)) more → 0 < more
    → RoseOf first (map count (slice_set disks d new)) d
rose_taken count first disks d past new more below within kept is some =
    let was : get_or (map count disks) d 0 ≡ count (get_or disks d past) = get_or-map count disks d past 0 below in
    let now = now_on count disks d new below in
    (within, λ low. omega (arith, kept d))

-- One that rose, or stands at its end, is not 0.
pub rose_some : (old new : List ℕ) (d : ℕ) → NoneFell old new → RoseOf old new d → 0 < get_or new d 0
rose_some old new d fell rose = grind (arith, fell.each d, rose.1)

pub kept_some : (old new : List ℕ) (d : ℕ) → min (get_or old d 0) (2 ^ 64 - 1) ≤ get_or new d 0 → RoseOf old new d
    → 0 < get_or new d 0
kept_some old new d kept rose = grind (arith, kept, rose.1)

pub at_fault_on : (named : Option ℕ) (old new : List ℕ) → length new ≡ length old
    → ((d : ℕ) → 0 < get_or old d 0 → 0 < get_or new d 0) → IsAtFault named old → IsAtFault named new
at_fault_on named old new size keep at = λ d is. let was = at d is in (omega (arith, was.0), keep d was.1)

pub at_fault_one : (d : ℕ) (counts : List ℕ) → d < length counts → 0 < get_or counts d 0 → IsAtFault (Some d) counts
at_fault_one d counts below some = λ e is. let same : e ≡ d = cc in rw same (below, some)

pub at_fault_lower : (first second : Option ℕ) (counts : List ℕ) → IsAtFault first counts → IsAtFault second counts
    → IsAtFault (lower_of first second) counts
at_fault_lower None second counts one two = two
at_fault_lower (Some first) None counts one two = one
at_fault_lower (Some first) (Some second) counts one two = elim (cases_lt first second) [
  | inl less ↦ let is : min first second ≡ first = omega arith in rw is one
  | inr more ↦ let is : min first second ≡ second = omega arith in rw is two
]

-- Of two counts of each, what is counted together.
pub both_at : {X : Type 0} (one two : X → ℕ) (disks : List X) (d : ℕ)
    → get_or (map (λ disk. one disk + two disk) disks) d 0 ≡ get_or (map one disks) d 0 + get_or (map two disks) d 0
both_at one two [] d = omega arith
both_at one two (disk ∷ disks) zero = refl
both_at one two (disk ∷ disks) (suc d) = both_at one two disks d

pub at_fault_kept : (named : Option ℕ) (old new : List ℕ) → NoneFell old new → IsAtFault named old → IsAtFault named new
at_fault_kept named old new fell at =
    at_fault_on named old new fell.size (λ d some. omega (arith, fell.each d)) at

pub at_fault_more : (named : Option ℕ) (old new : List ℕ) (d : ℕ) → NoneFell old new → d < length new
    → 0 < get_or new d 0 → IsAtFault named old → IsAtFault (lower_of named (Some d)) new
at_fault_more named old new d fell below some at =
    at_fault_lower named (Some d) new (at_fault_kept named old new fell at) (at_fault_one d new below some)

-- Of two counts of each, one did not fall and the other is as before.
pub both_fell : {X : Type 0} (one two : X → ℕ) (old new : List X) → NoneFell (map one old) (map one new)
    → map two new ≡ map two old
    → NoneFell (map (λ disk. one disk + two disk) old) (map (λ disk. one disk + two disk) new)
both_fell one two old new fell same =
    let sizes : length new ≡ length old =
    omega (arith, fell.size, length-map new one, length-map old one) in
    record {
      size = omega (arith, length-map new (λ disk. one disk + two disk), length-map old (λ disk. one disk + two disk));
      each = λ d.
          let was = both_at one two old d in
          let now = both_at one two new d in
          let rest : get_or (map two new) d 0 ≡ get_or (map two old) d 0 = ap (λ counts. get_or counts d 0) same in
          omega (arith, fell.each d);
    }

-- Of the two, one is not 0.
pub both_some : {X : Type 0} (one two : X → ℕ) (disks : List X) (d : ℕ)
    → 0 < get_or (map one disks) d 0 + get_or (map two disks) d 0
    → 0 < get_or (map (λ disk. one disk + two disk) disks) d 0
both_some one two disks d some = let is = both_at one two disks d in omega arith

-- Of the two, one is as before, and the other still counts something where it did.
pub both_kept : {X : Type 0} (one two : X → ℕ) (old new : List X) → map one new ≡ map one old
    → ((d : ℕ) → 0 < get_or (map two old) d 0 → 0 < get_or (map two new) d 0)
    → (d : ℕ) → 0 < get_or (map (λ disk. one disk + two disk) old) d 0
    → 0 < get_or (map (λ disk. one disk + two disk) new) d 0
both_kept one two old new same keep d some =
    let was = both_at one two old d in
    let now = both_at one two new d in
    let rest : get_or (map one new) d 0 ≡ get_or (map one old) d 0 = ap (λ counts. get_or counts d 0) same in
    elim (cases_lt 0 (get_or (map two old) d 0)) [
      | inl more ↦ let kept = keep d more in omega arith
      | inr none ↦ omega arith
    ]

-- One that was named among readers is named among disks, of which the last took over what was past them.
pub at_fault_taken : (named : Option ℕ) (faults counts : List ℕ) (last : ℕ) → last < length counts
    → ((r : ℕ) → 0 < get_or faults r 0 → 0 < get_or counts (min r last) 0) → IsAtFault named faults
    → IsAtFault (option_map (λ r. min r last) named) counts
at_fault_taken None faults counts last below taken at = λ d is. cc
at_fault_taken (Some r) faults counts last below taken at =
    let here = at r refl in
    at_fault_one (min r last) counts (omega arith) (taken r here.1)

-- Readers were given back, and one of them may be named.
pub given_back : {X Y : Type 0} (one two : X → ℕ) (faults : Y → ℕ) (first now : List X) (readers : List Y)
    (before named : Option ℕ) → 0 < length first → map one now ≡ map one first → NoneLost (map two first) (map two now)
    → ((r : ℕ) → 0 < get_or (map faults readers) r 0 → RoseOf (map two first) (map two now) (min r (length first - 1)))
    → IsAtFault before (map (λ disk. one disk + two disk) now) → IsAtFault named (map faults readers)
    → IsAtFault (lower_of before (option_map (λ r. min r (length first - 1)) named))
    (map (λ disk. one disk + two disk) now)
given_back one two faults first now readers before named some same kept taken at at_readers =
    let size : length now ≡ length first = sym (length-map now one) ∙ ap length same ∙ length-map first one in
    let below : length first - 1 < length (map (λ disk. one disk + two disk) now) =
    omega (arith, length-map now (λ disk. one disk + two disk)) in
    at_fault_lower before (option_map (λ r. min r (length first - 1)) named) _ at
    (at_fault_taken named (map faults readers) _ (length first - 1) below
    (λ r more. both_some one two now (min r (length first - 1))
    (let some_now = kept_some (map two first) (map two now) (min r (length first - 1)) (kept (min r (length first - 1)))
    (taken r more) in omega arith)) at_readers)

-- It is named where its own disk's count rose.
pub named_back : (before named : Option ℕ) (faults old new : List ℕ) (last : ℕ) → IsAtFault named faults
    → ((r : ℕ) → 0 < get_or faults r 0 → RoseOf old new (min r last)) → IsSome named
    → Names before old (lower_of before (option_map (λ r. min r last) named)) new
named_back before None faults old new last at taken some = cc
named_back before (Some r) faults old new last at taken some =
    record { disk = min r last; rose = taken r (at r refl).1; lower = refl }

-- One disk was called, and its count of the one kind rose.
pub at_fault_once : {X : Type 0} (one two : X → ℕ) (disks : List X) (d : ℕ) (past new : X) (named : Option ℕ)
    → d < length disks → NoneFell (map one disks) (map one (slice_set disks d new))
    → RoseOf (map one disks) (map one (slice_set disks d new)) d
    → map two (slice_set disks d new) ≡ map two disks
    → IsAtFault named (map (λ disk. one disk + two disk) disks)
    → IsAtFault (lower_of named (Some d)) (map (λ disk. one disk + two disk) (slice_set disks d new))
at_fault_once one two disks d past new named below fell rose same at =
    let low : d < length (map (λ disk. one disk + two disk) (slice_set disks d new)) =
    omega (arith, length-map (slice_set disks d new) (λ disk. one disk + two disk), length-set disks d new) in
    let more = rose_some _ _ d fell rose in
    at_fault_more named _ _ d (both_fell one two disks (slice_set disks d new) fell same) low
    (both_some one two (slice_set disks d new) d (omega arith)) at

-- Readers that count nothing are given back.
pub counted_nothing : (old mid faults : List ℕ) (count : ℕ) → mid ≡ old → sum faults ≡ 0
    → count ≡ counted (count_of mid) (count_of faults) → count ≡ count_of old
counted_nothing old mid faults count same none is =
    let sums : sum mid ≡ sum old = ap sum same in
    omega arith
