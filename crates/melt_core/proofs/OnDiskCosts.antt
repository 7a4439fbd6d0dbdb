-- What is alive takes no more words than what is in use and what homes on disk take together.
use Rattle.std.proofs.Common.{◌≡◌, ◌⊎◌, ℕ, ◌+◌, ◌<◌, ◌≤◌, zero, suc, List, [], ◌∷◌, refl, sym, ◌∙◌, ap, subst, arith}
use Rattle.std.proofs.Common.{inl, inr}
use Rattle.std.proofs.lemmas.Bool.{cases_eq}
use Rattle.std.proofs.lemmas.Option.{same_Some}
use Rattle.std.specs.Prelude.{true, Contains, Option, None, Some, slice_get}
use Rattle.std.specs.Option.{option_map_or}
use Rattle.melt_model.specs.History.{Shape as ModelShape}
use Rattle.melt_model.specs.Alive.{Alive, words_of, CostsSum}
use Rattle.melt_model.proofs.Sums.{CostsSum-same, CostsSum-more, CostsSum-part}
use Rattle.melt_word.specs.Words.{cost_of}
use Rattle.melt_word.specs.declared.header.Shape.{Shape}
use Rattle.melt_scion.specs.State.{Home, Follow, IsReserved}
use Rattle.melt_scion.specs.Placed.{Maps, Tells, HomeStands}
use Rattle.melt_scion.specs.Heaps.{OnDisk}
use Rattle.melt_scion.proofs.HomesApart.{reserved_once}
use Rattle.melt_core.specs.Views.{View, Standing, InUse, value, maps, state}
use Rattle.melt_core.proofs.Alive.{placed, alive_place}

-- one of these homes is that of the object
record IsHomeOf (maps : Maps) (homes : List Home) (n : ℕ) : Type 0 where
  home : ℕ
  reserved_for : Shape
  reserved : IsReserved homes home reserved_for
  of_object : maps.home home ≡ Some n

-- an element stands in a list or does not
contains_or_not : (xs : List ℕ) (n : ℕ) → Contains xs n ⊎ (Contains xs n → ⊥)
contains_or_not [] n = inr (λ has. absurd (let below : has.0 < 0 = has.1 in omega arith))
contains_or_not (x ∷ xs) n = elim (cases_eq x n) [
  | inl same ↦ inl (0, omega arith, same)
  | inr differs ↦ elim (contains_or_not xs n) [
    | inl has ↦ inl (suc has.0, omega (arith, has.1), has.2)
    | inr none ↦ inr (not_first x xs n differs none)
  ]
]
  where
    not_first : (x : ℕ) (xs : List ℕ) (n : ℕ) → (x ≡ n → ⊥) → (Contains xs n → ⊥) → Contains (x ∷ xs) n → ⊥
    not_first x xs n differs none (zero, below, is) = differs is
    not_first x xs n differs none (suc k, below, is) = none (k, omega arith, is)

-- the first home is that of the object, or one after it is
first_or_after : (maps : Maps) (first : Home) (homes : List Home) (n : ℕ) → IsHomeOf maps (first ∷ homes) n
    → (maps.home first.at ≡ Some n) ⊎ IsHomeOf maps homes n
first_or_after maps first homes n of = at_index of.reserved.index of.reserved.is
  where
    at_index : (index : ℕ) → slice_get (first ∷ homes) index ≡ Some (record { at = of.home; shape = of.reserved_for })
        → (maps.home first.at ≡ Some n) ⊎ IsHomeOf maps homes n
    at_index zero is =
        let same : first ≡ record { at = of.home; shape = of.reserved_for } = same_Some first _ is in
        inl (ap (λ (x : Home). maps.home x.at) same ∙ of.of_object)
    at_index (suc index) is = inr (record {
      home = of.home;
      reserved_for = of.reserved_for;
      reserved = record { index = index; is = is };
      of_object = of.of_object;
    })

here : (maps : Maps) (first : Home) (homes : List Home) (n : ℕ) → maps.home first.at ≡ Some n
    → IsHomeOf maps (first ∷ homes) n
here maps first homes n is = record {
  home = first.at;
  reserved_for = first.shape;
  reserved = record { index = 0; is = refl };
  of_object = is;
}

home_of_rest : (maps : Maps) (first : Home) (homes : List Home) (n : ℕ) → IsHomeOf maps homes n
    → IsHomeOf maps (first ∷ homes) n
home_of_rest maps first homes n of = record {
  home = of.home;
  reserved_for = of.reserved_for;
  reserved = record { index = suc of.reserved.index; is = of.reserved.is };
  of_object = of.of_object;
}

-- the object has this property, or one of these homes
abbrev OrHome : Maps → (ℕ → Type 0) → List Home → ℕ → Type 0
OrHome maps Is homes n = Is n ⊎ IsHomeOf maps homes n

-- Objects with a property and those with homes among these have a sum: it is greater than that of the first by no more
-- words than lie between here and the end.
record Covers (cost : ℕ → ℕ) (maps : Maps) (Is : ℕ → Type 0) (total from end : ℕ) (homes : List Home) : Type 0 where
  all : ℕ
  adds_up : CostsSum cost (OrHome maps Is homes) all
  within : all + from ≤ total + end

module _ (cost : ℕ → ℕ) (maps : Maps) (Is : ℕ → Type 0) (total : ℕ) (sum : CostsSum cost Is total) where
  -- one home more, of no object or of one that is counted
  counted : (from end : ℕ) (first : Home) (homes : List Home)
      → ((n : ℕ) → maps.home first.at ≡ Some n → OrHome maps Is homes n)
      → Covers cost maps Is total (from + cost_of first.shape) end homes
      → Covers cost maps Is total from end (first ∷ homes)
  counted from end first homes has rest = record {
    all = rest.all;
    adds_up =
        CostsSum-same cost (OrHome maps Is homes) (OrHome maps Is (first ∷ homes)) rest.all (λ n. (
          λ is. elim is [ inl x ↦ inl x | inr of ↦ inr (home_of_rest maps first homes n of) ],
          λ is. elim is [
            | inl x ↦ inl x
            | inr of ↦ elim (first_or_after maps first homes n of) [ inl at ↦ has n at | inr x ↦ inr x ]
          ],
        )) rest.adds_up;
    within = omega (arith, rest.within);
  }

  -- and one of an object that is not
  counts_first : (from end n : ℕ) (first : Home) (homes : List Home) → maps.home first.at ≡ Some n
      → cost n ≡ cost_of first.shape → (OrHome maps Is homes n → ⊥)
      → Covers cost maps Is total (from + cost_of first.shape) end homes
      → Covers cost maps Is total from end (first ∷ homes)
  counts_first from end n first homes at costs new rest = record {
    all = rest.all + cost n;
    adds_up =
        CostsSum-same cost (λ m. OrHome maps Is homes m ⊎ (m ≡ n)) (OrHome maps Is (first ∷ homes))
        (rest.all + cost n) (λ m. (
          λ is. elim is [
            | inl old ↦ elim old [ inl x ↦ inl x | inr of ↦ inr (home_of_rest maps first homes m of) ]
            | inr same ↦ inr (here maps first homes m (at ∙ ap Some (sym same)))
          ],
          λ is. elim is [
            | inl x ↦ inl (inl x)
            | inr of ↦ elim (first_or_after maps first homes m of) [
              | inl of_first ↦ inr (same_Some m n (sym of_first ∙ at))
              | inr x ↦ inl (inr x)
            ]
          ],
        )) (CostsSum-more cost (OrHome maps Is homes) n rest.all new rest.adds_up);
    within = omega (arith, rest.within, costs);
  }

  -- homes that follow one another have room for all objects that have them
  covers : (from end : ℕ) (homes : List Home) → Follow from homes end
      → ((home n : ℕ) (z : Shape) → IsReserved homes home z → maps.home home ≡ Some n → cost n ≡ cost_of z)
      → Covers cost maps Is total from end homes
  covers from end [] follows costs = record {
    all = total;
    adds_up =
        CostsSum-same cost Is (OrHome maps Is []) total (λ n. (
          λ is. inl is,
          λ is. elim is [ inl x ↦ x | inr of ↦ absurd (let none = of.reserved.is in cc) ],
        )) sum;
    within = omega (arith, follows);
  }
  covers from end (first ∷ homes) follows costs =
      let rest : Covers cost maps Is total (from + cost_of first.shape) end homes =
      covers (from + cost_of first.shape) end homes follows.1
      (λ home n z reserved. costs home n z (record { index = suc reserved.index; is = reserved.is })) in
      with_first (maps.home first.at) refl rest
    where
      with_first : (name : Option ℕ) → maps.home first.at ≡ name
          → Covers cost maps Is total (from + cost_of first.shape) end homes
          → Covers cost maps Is total from end (first ∷ homes)
      with_first None none rest = counted from end first homes (λ n is. absurd (cc)) rest
      with_first (Some n) at rest = elim (contains_or_not rest.adds_up.members n) [
        | inl has ↦ counted from end first homes
            (λ m is. subst (OrHome maps Is homes) (same_Some n m (sym at ∙ is)) ((rest.adds_up.all n).1 has)) rest
        | inr new ↦ counts_first from end n first homes at
            (costs first.at n first.shape (record { index = 0; is = refl }) at)
            (λ is. new ((rest.adds_up.all n).0 is)) rest
      ]

-- an object takes as many words as its home
home_cost : (disk : OnDisk) (v : View) → Standing true disk v → (home n : ℕ) (z : Shape)
    → IsReserved disk.homes home z → (maps v).home home ≡ Some n → words_of v.log n ≡ cost_of z
home_cost disk v s home n z reserved of =
    let tells : Tells v.log (maps v) (state disk v) = s.holds.tells refl in
    let stands : HomeStands v.log (maps v) (state disk v) home n = tells.homes home n of in
    let same : stands.reserved_for ≡ z =
    reserved_once disk.homes disk.end tells.homes_follow home stands.reserved_for z stands.reserved reserved in
    ap (λ (x : Option ModelShape). option_map_or (λ (y : ModelShape). 2 + y.refs + y.nums) x 0) stands.shape_is
    ∙ ap cost_of same

-- what is alive is in use or has one of the homes
alive_covered : (disk : OnDisk) (v : View) → Standing true disk v → (n : ℕ) → Alive v.log (value v) n
    → OrHome (maps v) (InUse (maps v)) disk.homes n
alive_covered disk v s n alive =
    let tells : Tells v.log (maps v) (state disk v) = s.holds.tells refl in
    elim (alive_place v.log (value v) (maps v) (state disk v) (s.legal refl) (placed disk v s) n alive) [
      | inl named ↦ inl named
      | inr of ↦ inr (record {
        home = of.0;
        reserved_for = (tells.homes of.0 n of.1).reserved_for;
        reserved = (tells.homes of.0 n of.1).reserved;
        of_object = of.1;
      })
    ]

-- the words of what is alive are no more than those of what is in use and those on disk before the end
pub alive_within : (disk : OnDisk) (v : View) → Standing true disk v → (in_use alive : ℕ)
    → CostsSum (words_of v.log) (InUse (maps v)) in_use → CostsSum (words_of v.log) (Alive v.log (value v)) alive
    → alive + 1 ≤ in_use + disk.end
alive_within disk v s in_use alive used lives =
    let tells : Tells v.log (maps v) (state disk v) = s.holds.tells refl in
    let covered = covers (words_of v.log) (maps v) (InUse (maps v)) in_use used 1 disk.end disk.homes
    tells.homes_follow (home_cost disk v s) in
    let part : alive ≤ covered.all =
    CostsSum-part (words_of v.log) (Alive v.log (value v)) (OrHome (maps v) (InUse (maps v)) disk.homes) alive
    covered.all (alive_covered disk v s) lives covered.adds_up in
    omega (arith, part, covered.within)
