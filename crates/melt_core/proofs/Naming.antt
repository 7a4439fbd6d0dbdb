-- An object gets a number by the maps of a heap that keeps no names. These are for as many addresses as it has words,
-- so that no other change of the heap touches them.
use Rattle.std.proofs.Common.{◌≡◌, ◌≢◌, ℕ, zero, suc, ◌+◌, ◌<◌, ◌≤◌, List, length, refl, sym, ◌∙◌, ap, subst, arith, inl, inr}
use Rattle.std.proofs.lemmas.Bool.{cases_lt}
use Rattle.std.proofs.lemmas.Bool.Decides.{nat_tests}
use Rattle.std.specs.Prelude.{◌^◌, Bool, true, false, nat_lt, vec_capacity, Option, None, Some, unwrap_or}
use Rattle.std.specs.Option.{is_some}
use Rattle.melt_scion.specs.Changes.{NameAppears}
use Rattle.melt_scion.specs.GhostMaps.{NamePairs, numbered}
use Rattle.melt_scion.specs.Placed.{Maps}
use Rattle.melt_scion.specs.declared.heap.Names as heap
use Rattle.melt_space.specs.Space.{SpaceWords, SetsWord}
use Rattle.melt_core.specs.Changed.{HasNamed, HasSetWord}
use Rattle.melt_core.specs.Epochs.{core_of}
use Rattle.melt_core.specs.Views.{maps_of, names_for, names_in, numbers_of, room_in, stores, unbounded, view}
use Rattle.melt_core.specs.declared.machine.Core.{Core}
use Rattle.melt_core.specs.declared.machine.Rest.{Rest}
use Rattle.melt_core.proofs.Nameless.{along_length, names_inside, names_outside, pair_here, pair_unlike, within_pairs}
use Rattle.melt_core.proofs.Nameless.{within_same}

-- one address more has a name
pairs_appear : (words : ℕ) (pairs : NamePairs) (address number : ℕ) → 1 ≤ address → address ≤ words
    → NameAppears (maps_of (Some (names_for words pairs))) (maps_of (Some (names_for words (numbered pairs address number))))
    address number
pairs_appear words pairs address number first last = record {
  here = names_inside (numbered pairs address number).addresses words address first last
      ∙ pair_here address number address pairs.addresses refl;
  others = others;
  home = λ k. refl;
}
  where
    before : Maps
    before = maps_of (Some (names_for words pairs))

    after : Maps
    after = maps_of (Some (names_for words (numbered pairs address number)))

    others : (k : ℕ) → k ≢ address → after.address k ≡ before.address k
    others zero other = refl
    others (suc k) other = elim (cases_lt words (suc k)) [
      | inl past ↦ names_outside (numbered pairs address number).addresses words (suc k) past
          ∙ sym (names_outside pairs.addresses words (suc k) past)
      | inr within ↦
          let last : suc k ≤ words = omega (arith, within) in
          names_inside (numbered pairs address number).addresses words (suc k) (omega arith) last
          ∙ (pair_unlike address number (suc k) pairs.addresses other
          ∙ sym (names_inside pairs.addresses words (suc k) (omega arith) last))
    ]

pub told_named : (core : Core) (pairs : NamePairs) (address number : ℕ) → core.heap.names ≡ None
    → pairs ≡ numbered core.heap.maps address number → 1 ≤ address
    → address ≤ length (numbers_of (Some (names_in core.heap)))
    → HasNamed (view core) (view (record core { heap = record core.heap { maps = pairs } })) address number
told_named core pairs address number none is first last =
    let words : ℕ = length core.heap.space.list in
    let size : (p : NamePairs) → length (unwrap_or core.heap.names (names_for words p)).addresses ≡ words =
    λ p. subst (λ (o : Option heap.Names). length (unwrap_or o (names_for words p)).addresses ≡ words) (sym none)
    (along_length p.addresses words 1) in
    let within : address ≤ words = subst (λ (n : ℕ). address ≤ n) (size core.heap.maps) last in
    record {
      named = refl;
      size = size pairs ∙ sym (size core.heap.maps);
      appears = subst (λ (o : Option heap.Names). NameAppears
          (maps_of (Some (unwrap_or o (names_for words core.heap.maps))))
          (maps_of (Some (unwrap_or o (names_for words pairs)))) address number) (sym none)
          (subst (λ (p : NamePairs). NameAppears (maps_of (Some (names_for words core.heap.maps)))
          (maps_of (Some (names_for words p))) address number) (sym is)
          (pairs_appear words core.heap.maps address number first within));
      only = refl;
    }

-- a word is replaced, and the names stay
pub word_replaced : (core : Core) (space : SpaceWords) (at word : ℕ) → SetsWord core.heap.space space at word
    → HasSetWord (view core) (view (record core { heap = record core.heap { space = space } })) at word
word_replaced core space at word sets = record {
  sets = sets;
  only = ap (λ (n : ℕ). record (view core) {
    space = space;
    names = Some (unwrap_or core.heap.names (names_for n core.heap.maps));
  }) sets.size;
}

-- The words in use may be others, where all words are the same; and where the maps name the addresses of these words as
-- before and no others, the names stay.
pub left_view : (core : Core) (space : SpaceWords) (pairs : NamePairs) → space.list ≡ core.heap.space.list
    → pairs ≡ within_pairs (length space.list) core.heap.maps
    → view (core_of (record core.heap { space = space; maps = pairs }) core.rest)
    ≡ record (view core) { space = space; free = space.used + 1; stop = false }
left_view core space pairs list is =
    ap (λ (x : heap.Names). record (view core) {
      space = space;
      names = Some (unwrap_or core.heap.names x);
      free = space.used + 1;
      stop = false;
    })
    (ap (names_for (length space.list)) is
    ∙ (within_same (length space.list) core.heap.maps
    ∙ ap (λ (words : List ℕ). names_for (length words) core.heap.maps) list))

-- the history is stored where the heap keeps names: no vector has so much room as one that is not
room_stores : (stored : Bool) (rest : Rest) → nat_lt (room_in stored rest) unbounded ≡ stored
room_stores true rest = let small : vec_capacity rest.log < 2 ^ 63 = rest.log.small in grind (arith, nat_tests, small)
room_stores false rest = refl

pub stores_is : (core : Core) → stores (view core) ≡ is_some core.heap.names
stores_is core = room_stores (is_some core.heap.names) core.rest
