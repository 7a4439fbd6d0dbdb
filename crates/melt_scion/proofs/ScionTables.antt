-- A table of scions stays one, whatever is added, freed or moved.
use Rattle.std.proofs.Common.{◌≡◌, ◌≢◌, inl, inr, ℕ, zero, suc, ◌+◌, ◌-◌, ◌<◌, ◌≤◌, List, [], ◌∷◌, length}
use Rattle.std.proofs.Common.{replicate, Option, None, Some, refl, sym, ◌∙◌, ap, subst, arith, slice_index_or, slice_set}
use Rattle.std.proofs.Common.{get_or-set_same, get_or-set_other}
use Rattle.std.specs.Prelude.{IsSome, is_some}
use Rattle.std.specs.Option.{option_map}
use Rattle.std.specs.List.{Contains, range_with_len}
use Rattle.std.proofs.lemmas.List.{length-set, length-replicate}
use Rattle.std.proofs.lemmas.List.FromFn.{length-range_with_len, get_or-range_with_len}
use Rattle.std.proofs.lemmas.Bool.{cases_eq}
use Rattle.melt_links.specs.Links.{without}
use Rattle.melt_links.proofs.Numbers.{without_has, without_only, without_once, without_split}
use Rattle.melt_scion.specs.Scions.{Scions, EachOnce, IsPutIn, IsTable, IsUnused, IsLive, Adds, Frees, SetsAddress}
use Rattle.melt_scion.specs.Scions.{empty_table, scion_at}
use Rattle.melt_scion.proofs.Numbers.{contains_here, contains_more, contains_cases, once_none, once_more, once_rest}
use Rattle.melt_scion.proofs.Numbers.{once_first, put_first, put_length, split_at}

abbrev pub Pairs : Type 0
Pairs = List (Option (ℕ × ℕ))

-- a table with one pair changed
abbrev pub with_pair : Scions → ℕ → Option (ℕ × ℕ) → List ℕ → List ℕ → Scions
with_pair table index pair unused live =
    record { pairs = slice_set table.pairs index pair; unused = unused; live = live }

-- the other pairs are as they were
set_others : (table : Scions) (unused live : List ℕ) (index : ℕ) (pair : Option (ℕ × ℕ)) (k : ℕ) → k ≢ suc index
    → scion_at (with_pair table index pair unused live) k ≡ scion_at table k
set_others table unused live index pair zero other = refl
set_others table unused live index pair (suc j) other =
    let apart : j ≢ index = omega arith in get_or-set_other table.pairs index j pair None apart

-- the index of a live scion is one of a pair
pub live_index : (pairs : Pairs) (index : ℕ) → IsSome (slice_index_or pairs index None) → index < length pairs
live_index [] index some = absurd (cc)
live_index (p ∷ ps) zero some = omega arith
live_index (p ∷ ps) (suc i) some = let below = live_index ps i some in omega arith

-- no number is both live and unused
pub not_both : (table : Scions) (number : ℕ) (pair : ℕ × ℕ) → scion_at table number ≡ Some pair → IsUnused table number → ⊥
not_both table number pair live unused = let none = unused.not_live in cc

-- what is known of a number does not change with the table, where its pair does not
keeps_unused : (old new : Scions) (number : ℕ) → scion_at new number ≡ scion_at old number
    → length new.pairs ≡ length old.pairs → IsUnused old number → IsUnused new number
keeps_unused old new number same size unused =
    record {
      from_1 = unused.from_1;
      in_range = (let low = unused.in_range in omega arith);
      not_live = same ∙ unused.not_live;
    }

-- no number is both in the list of the live ones and in the other
pub live_or_unused : (table : Scions) (number : ℕ) → IsTable table → Contains table.live number
    → Contains table.unused number → ⊥
live_or_unused table number kept live unused =
    let none = ((kept.unused number).0 unused).not_live in
    let some = (kept.live number).0 live in
    let there = ap is_some (sym none) ∙ some in
    absurd (cc)

pub adds : (table : Scions) {rest : List ℕ} (index home address : ℕ) → table.unused ≡ suc index ∷ rest
    → IsTable table
    → Adds table (with_pair table index (Some (home, address)) rest (suc index ∷ table.live)) home address (suc index)
    × IsTable (with_pair table index (Some (home, address)) rest (suc index ∷ table.live))
adds table {rest} index home address unused_is kept =
    let scion : ℕ = suc index in
    let pair : Option (ℕ × ℕ) = Some (home, address) in
    let new : Scions = with_pair table index pair rest (scion ∷ table.live) in
    let first : IsUnused table scion =
    (kept.unused scion).0 (subst (λ (xs : List ℕ). Contains xs scion) (sym unused_is) (contains_here scion rest)) in
    let last = first.in_range in
    let below : index < length table.pairs = omega (arith, last) in
    let size : length new.pairs ≡ length table.pairs = length-set table.pairs index pair in
    let here : scion_at new scion ≡ pair = get_or-set_same table.pairs index pair None below in
    let others : ((k : ℕ) → k ≢ scion → scion_at new k ≡ scion_at table k) =
    set_others table rest (scion ∷ table.live) index pair in
    let once = subst EachOnce unused_is kept.unused_once in
    let absent : Contains table.live scion → ⊥ = λ live. live_or_unused table scion kept live
    (subst (λ (xs : List ℕ). Contains xs scion) (sym unused_is) (contains_here scion rest)) in (
      record {
        was_unused = first.not_live;
        given = unused_is;
        here = here;
        others = others;
        order = put_first scion table.live;
        size = size;
      },
      record {
        live = λ number. (
          (λ there. elim (contains_cases scion number table.live there) [
            | inl same ↦ subst (IsLive new) same (ap is_some here)
            | inr more ↦
                let differ : number ≢ scion = λ e. absent (subst (Contains table.live) e more) in
                ap is_some (others number differ) ∙ (kept.live number).0 more
          ]),
          (λ live. elim (cases_eq number scion) [
            | inl same ↦ subst (Contains (scion ∷ table.live)) (sym same) (contains_here scion table.live)
            | inr differ ↦ contains_more scion number table.live
                ((kept.live number).1 (ap is_some (sym (others number differ)) ∙ live))
          ]),
        );
        live_once = once_more scion table.live absent kept.live_once;
        unused = λ number. (
          (λ there.
              let differ : number ≢ scion = λ e. once_first scion rest once (subst (Contains rest) e there) in
              let before = (kept.unused number).0
              (subst (λ (xs : List ℕ). Contains xs number) (sym unused_is) (contains_more scion number rest there)) in
              keeps_unused table new number (others number differ) size before),
          (λ free.
              let differ : number ≢ scion =
              λ e. not_both new scion (home, address) here (subst (IsUnused new) e free) in
              let before = keeps_unused new table number (sym (others number differ)) (sym size) free in
              let there = subst (λ (xs : List ℕ). Contains xs number) unused_is ((kept.unused number).1 before) in
              elim (contains_cases scion number rest there)
              [ inl same ↦ absurd (differ (sym same)) | inr more ↦ more ]),
        );
        unused_once = once_rest scion rest once;
        all = (let count = ap length unused_is in let all = kept.all in omega (arith, count, all, size));
      },
    )

pub frees : (table : Scions) (index : ℕ) → IsLive table (suc index) → IsTable table
    → Frees table (with_pair table index None (suc index ∷ table.unused) (without (suc index) table.live)) (suc index)
    × IsTable (with_pair table index None (suc index ∷ table.unused) (without (suc index) table.live))
frees table index live kept =
    let scion : ℕ = suc index in
    let rest : List ℕ = scion ∷ table.unused in
    let left : List ℕ = without scion table.live in
    let new : Scions = with_pair table index None rest left in
    let below : index < length table.pairs = live_index table.pairs index live in
    let size : length new.pairs ≡ length table.pairs = length-set table.pairs index None in
    let gone : scion_at new scion ≡ None = get_or-set_same table.pairs index None None below in
    let others : ((k : ℕ) → k ≢ scion → scion_at new k ≡ scion_at table k) =
    set_others table rest left index None in
    let split = split_at scion table.live ((kept.live scion).1 live) in
    let put : IsPutIn scion left table.live =
    record {
      front = split.front;
      back = split.back;
      less_is = ap (without scion) split.is
          ∙ without_split scion split.front split.back (subst EachOnce split.is kept.live_once);
      more_is = split.is;
    } in
    let was_live : (IsUnused table scion → ⊥) =
    λ free. (let none = free.not_live in let there = ap is_some (sym none) ∙ live in absurd (cc)) in
    let free : IsUnused new scion =
    record { from_1 = omega arith; in_range = omega (arith, below, size); not_live = gone } in (
      record { taken = refl; gone = gone; others = others; order = put; size = size },
      record {
        live = λ number. (
          (λ there.
              let only = without_only scion number table.live there in
              ap is_some (others number only.0) ∙ (kept.live number).0 only.1),
          (λ now.
              let differ : number ≢ scion =
              λ e. (let some = subst (IsLive new) e now in let there = ap is_some (sym gone) ∙ some in absurd (cc)) in
              without_has scion number table.live differ
              ((kept.live number).1 (ap is_some (sym (others number differ)) ∙ now))),
        );
        live_once = without_once scion table.live kept.live_once;
        unused = λ number. (
          (λ there. elim (contains_cases scion number table.unused there) [
            | inl same ↦ subst (IsUnused new) same free
            | inr more ↦
                let differ : number ≢ scion =
                λ e. was_live ((kept.unused scion).0 (subst (Contains table.unused) e more)) in
                keeps_unused table new number (others number differ) size ((kept.unused number).0 more)
          ]),
          (λ none. elim (cases_eq number scion) [
            | inl same ↦ subst (Contains rest) (sym same) (contains_here scion table.unused)
            | inr differ ↦ contains_more scion number table.unused
                ((kept.unused number).1 (keeps_unused new table number (sym (others number differ)) (sym size) none))
          ]),
        );
        unused_once = once_more scion table.unused (λ there. was_live ((kept.unused scion).0 there)) kept.unused_once;
        all = (let more = put_length scion left table.live put in let all = kept.all in
            omega (arith, more, all, size));
      },
    )

pub moves : (table : Scions) (index : ℕ) {home : ℕ} (address : ℕ) {was : ℕ}
    → slice_index_or table.pairs index None ≡ Some (home, was) → IsTable table
    → SetsAddress table (with_pair table index (Some (home, address)) table.unused table.live) (suc index) address
    × IsTable (with_pair table index (Some (home, address)) table.unused table.live)
moves table index {home} address {was} is kept =
    let scion : ℕ = suc index in
    let pair : Option (ℕ × ℕ) = Some (home, address) in
    let new : Scions = with_pair table index pair table.unused table.live in
    let some : IsSome (slice_index_or table.pairs index None) = ap is_some is in
    let below : index < length table.pairs = live_index table.pairs index some in
    let size : length new.pairs ≡ length table.pairs = length-set table.pairs index pair in
    let others : ((k : ℕ) → k ≢ scion → scion_at new k ≡ scion_at table k) =
    set_others table table.unused table.live index pair in
    let now : scion_at new scion ≡ pair = get_or-set_same table.pairs index pair None below in
    let neither : ((number : ℕ) → IsUnused table number → number ≢ scion) =
    λ number free e. not_both table scion (home, was) is (subst (IsUnused table) e free) in
    let neither_now : ((number : ℕ) → IsUnused new number → number ≢ scion) =
    λ number free e. not_both new scion (home, address) now (subst (IsUnused new) e free) in (
      record {
        here = now ∙ sym (ap (option_map (λ (p : ℕ × ℕ). (p.0, address))) is);
        others = others;
        unused = refl;
        live = refl;
        size = size;
      },
      record {
        live = λ number. elim (cases_eq number scion) [
          | inl same ↦ (
            (λ there. subst (IsLive new) (sym same) (ap is_some now)),
            (λ live. subst (Contains table.live) (sym same) ((kept.live scion).1 some)),
          )
          | inr differ ↦ (
            (λ there. ap is_some (others number differ) ∙ (kept.live number).0 there),
            (λ live. (kept.live number).1 (ap is_some (sym (others number differ)) ∙ live)),
          )
        ];
        live_once = kept.live_once;
        unused = λ number. (
          (λ there. let free = (kept.unused number).0 there in
              keeps_unused table new number (others number (neither number free)) size free),
          (λ free. (kept.unused number).1
              (keeps_unused new table number (sym (others number (neither_now number free))) (sym size) free)),
        );
        unused_once = kept.unused_once;
        all = kept.all ∙ sym size;
      },
    )

abbrev no_pair : Option (ℕ × ℕ)
no_pair = None

range_has : (n count j : ℕ) → j < count → Contains (range_with_len n count) (n + j)
range_has n count j below = (j, rw (length-range_with_len n count) below, get_or-range_with_len n count j (n + j) below)

pub range_only : (n count k : ℕ) → Contains (range_with_len n count) k → (n ≤ k) × (k < n + count)
range_only n count k (j, below, is) =
    let within : j < count = omega (arith, below, length-range_with_len n count) in
    let at : n + j ≡ k = sym (get_or-range_with_len n count j k within) ∙ is in
    (omega arith, omega arith)

range_once : (n count : ℕ) → EachOnce (range_with_len n count)
range_once n count i j d before below same =
    let within : j < count = omega (arith, below, length-range_with_len n count) in
    let a = get_or-range_with_len n count i d (omega arith) in
    let b = get_or-range_with_len n count j d within in
    omega arith

nothing : (count k : ℕ) → slice_index_or (replicate count no_pair) k None ≡ None
nothing zero k = refl
nothing (suc count) zero = refl
nothing (suc count) (suc k) = nothing count k

none_at : (n number : ℕ) → scion_at (empty_table n) number ≡ None
none_at n zero = refl
none_at n (suc k) = nothing n k

pub empty_is_table : (n : ℕ) → IsTable (empty_table n)
empty_is_table n =
    record {
      live = λ number. (
        (λ there. let below = there.1 in absurd (omega arith)),
        (λ live. absurd (let none = none_at n number in let e = ap is_some (sym none) ∙ live in cc)),
      );
      live_once = once_none;
      unused = λ number. (
        (λ there.
            let at = range_only 1 n number there in
            record {
              from_1 = (omega (arith, at.0));
              in_range =
                  rw (length-replicate n no_pair) (omega (arith, at.1));
              not_live = none_at n number;
            }),
        (λ free.
            let low = free.from_1 in
            let high = free.in_range in
            let last : number ≤ n = omega (arith, high, length-replicate n no_pair) in
            let at : 1 + (number - 1) ≡ number = omega arith in
            subst (Contains (range_with_len 1 n)) at (range_has 1 n (number - 1) (omega arith))),
      );
      unused_once = range_once 1 n;
      all = (let a = length-range_with_len 1 n in let b = length-replicate n no_pair in omega (arith, a, b));
    }
