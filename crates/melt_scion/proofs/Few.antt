-- Live scions are fewer than half of the words while an object has none, so that there is one for it.
use Rattle.std.proofs.Common.{◌≡◌, ◌≢◌, ◌⊎◌, ℕ, zero, suc, ◌+◌, ◌-◌, ◌*◌, ◌<◌, ◌≤◌, inl, inr, List, length, sym, ◌∙◌}
use Rattle.std.proofs.Common.{ap, arith, cond, eqb, refl}
use Rattle.std.specs.Prelude.{◌/◌, Option, None, Some, IsSome, slice_index}
use Rattle.std.specs.List.{Contains}
use Rattle.std.specs.Option.{option_map}
use Rattle.std.proofs.lemmas.Option.{same_Some}
use Rattle.std.proofs.lemmas.Bool.{cases_eq, cases_order}
use Rattle.std.proofs.lemmas.Bool.Decides.{nat_tests}
use Rattle.std.proofs.lemmas.List.{get_or_default}
use Rattle.melt_word.specs.Words.{cost_of, home_word}
use Rattle.melt_word.specs.declared.header.Header.{Header}
use Rattle.melt_scion.specs.State.{Scion, State, ObjectAt}
use Rattle.melt_scion.specs.Placed.{Maps, IsNamed, ScionStands, FormedWords}
use Rattle.melt_scion.specs.Scions.{Scions, EachOnce, scion_at}
use Rattle.melt_scion.specs.Heaps.{OnDisk, AreScionsFor, scion_in, state_of}
use Rattle.melt_scion.specs.declared.registers.Registers.{Registers}
use Rattle.melt_scion.specs.declared.heap.Heap.{Heap}

-- a number other than the greatest, in the place of the greatest
lowered : ℕ → ℕ → ℕ → ℕ
lowered greatest other k = cond (eqb k greatest) other k

lowered_is : (greatest other k : ℕ)
    → ((k ≡ greatest) × (lowered greatest other k ≡ other)) ⊎ ((k ≢ greatest) × (lowered greatest other k ≡ k))
unfolding lowered
lowered_is greatest other k = elim (cases_eq k greatest) [
  | inl same ↦ inl (same, grind (arith, nat_tests))
  | inr differ ↦ inr (differ, grind (arith, nat_tests))
]

-- numbers below n, no two of which are the same, are at most n
few_below : (n count : ℕ) (f : ℕ → ℕ) → ((i : ℕ) → i < count → f i < n)
    → ((i j : ℕ) → i < j → j < count → f i ≢ f j) → count ≤ n
few_below zero zero f below differ = omega arith
few_below zero (suc count) f below differ = absurd (let first = below 0 (omega arith) in omega (arith, first))
few_below (suc n) zero f below differ = omega arith
few_below (suc n) (suc count) f below differ =
    let last_below : f count < suc n = below count (omega arith) in
    let rest : count ≤ n = few_below n count (λ i. lowered n (f count) (f i))
    (λ i within.
    let small : f i < suc n = below i (omega (arith, within)) in
    let other : f i ≢ f count = differ i count within (omega arith) in
    elim (lowered_is n (f count) (f i)) [
      | inl is ↦ let top : f i ≡ n = is.0 in let e = is.1 in omega (arith, top, e, other, last_below)
      | inr is ↦ let less : f i ≢ n = is.0 in let e = is.1 in omega (arith, less, e, small)
    ])
    (λ i j less within.
    let two : f i ≢ f j = differ i j less (omega (arith, within)) in
    let first : f i ≢ f count = differ i count (omega (arith, less, within)) (omega arith) in
    let second : f j ≢ f count = differ j count within (omega arith) in
    elim (lowered_is n (f count) (f i)) [
      | inl is ↦ elim (lowered_is n (f count) (f j)) [
        | inl also ↦ absurd (two (is.0 ∙ sym also.0))
        | inr also ↦ λ same. second (sym also.1 ∙ (sym same ∙ is.1))
      ]
      | inr is ↦ elim (lowered_is n (f count) (f j)) [
        | inl also ↦ λ same. first (sym is.1 ∙ (same ∙ also.1))
        | inr also ↦ λ same. two (sym is.1 ∙ (same ∙ also.1))
      ]
    ]) in
    omega (arith, rest)

-- Things of two words or more, apart from each other among the words from 1 to the size: at most half as many as words.
pub few_apart : (size count : ℕ) (place : ℕ → ℕ)
    → ((i : ℕ) → i < count → (1 ≤ place i) × (place i + 1 ≤ size))
    → ((i j : ℕ) → i < j → j < count → (place i + 2 ≤ place j) ⊎ (place j + 2 ≤ place i)) → count ≤ size / 2
few_apart size count place inside apart =
    few_below (size / 2) count (λ i. (place i - 1) / 2)
    (λ i within. let is = inside i within in let first = is.0 in let last = is.1 in omega (arith, first, last))
    (λ i j less within same. elim (apart i j less within) [
      | inl before ↦ omega (arith, before, same)
      | inr after ↦ omega (arith, after, same)
    ])

-- the address of the object of a scion, if it is live
owner : Option Scion → ℕ
owner None = 0
owner (Some x) = x.address

owner_some : (o : Option Scion) (x : Scion) → o ≡ Some x → owner o ≡ x.address
unfolding owner
owner_some None x is = absurd (cc)
owner_some (Some y) x is = ap (λ (z : Scion). z.address) (same_Some y x is)

module _ (maps : Maps) (s : State) (live : List ℕ) (address n : ℕ) (formed : FormedWords maps s)
    (named : maps.address address ≡ Some n) (none : (k : ℕ) (x : Scion) → s.base.scion k ≡ Some x → x.address ≢ address)
    (are : (i : ℕ) → i < length live → (x : Scion) × (s.base.scion (slice_index live i) ≡ Some x))
    (once : EachOnce live) where
  -- the object without a scion, and after it those of the live scions
  place : ℕ → ℕ
  place zero = address
  place (suc i) = owner (s.base.scion (slice_index live i))

  -- a scion of the list, with the address of its object
  record OwnerAt (i : ℕ) : Type 0 where
    pub scion : Scion
    pub there : s.base.scion (slice_index live i) ≡ Some scion
    pub is : place (suc i) ≡ scion.address
    pub stands : ScionStands maps s (slice_index live i) scion

  owner_at : (i : ℕ) → i < length live → OwnerAt i
  unfolding place
  owner_at i below =
      let x = are i below in record {
        scion = x.0;
        there = x.1;
        is = owner_some (s.base.scion (slice_index live i)) x.0 x.1;
        stands = formed.scions (slice_index live i) x.0 x.1;
      }

  place_named : (i : ℕ) → i < suc (length live) → IsNamed maps (place i)
  unfolding place
  place_named zero below = (n, named)
  place_named (suc i) below =
      let at = owner_at i (omega (arith, below)) in
      (at.stands.named.0, ap maps.address at.is ∙ at.stands.named.1)

  -- two scions of one object are one
  differ : (i j : ℕ) → i < j → j < suc (length live) → place i ≢ place j
  unfolding place
  differ i zero less below same = omega (arith, less)
  differ zero (suc j) less below same =
      let at = owner_at j (omega (arith, below)) in
      none (slice_index live j) at.scion at.there (sym at.is ∙ sym same)
  differ (suc i) (suc j) less below same =
      let first = owner_at i (omega (arith, less, below)) in
      let second = owner_at j (omega (arith, below)) in
      let one : first.scion.address ≡ second.scion.address = sym first.is ∙ (same ∙ second.is) in
      let word : s.word (first.scion.address + 1) ≡ 4294967296 * first.scion.home + 4 * slice_index live i =
      first.stands.home_word in
      let also : s.word (first.scion.address + 1) ≡ 4294967296 * second.scion.home + 4 * slice_index live j =
      ap (λ (k : ℕ). s.word (k + 1)) one ∙ second.stands.home_word in
      let small : slice_index live i < 1073741824 = first.stands.small in
      let small_too : slice_index live j < 1073741824 = second.stands.small in
      let k : slice_index live i ≡ slice_index live j = omega (arith, word, also, small, small_too) in
      once i j 0 (omega (arith, less)) (omega (arith, below)) k

  place_object : (i : ℕ) → i < suc (length live) → (header : Header) × ObjectAt s (place i) header
  place_object i below = let is = place_named i below in formed.objects (place i) is.0 is.1

  -- the live scions, and one more, are at most half as many as there are words
  pub scions_few : suc (length live) ≤ s.base.size / 2
  scions_few = few_apart s.base.size (suc (length live)) place
      (λ i below.
      let object = place_object i below in
      let first : 1 ≤ place i = object.1.first in
      let within : place i + cost_of object.0.shape ≤ s.base.size + 1 = object.1.within in
      (first, omega (arith, within)))
      (λ i j less below.
      let a = place_named i (omega (arith, less, below)) in
      let b = place_named j below in
      let first = place_object i (omega (arith, less, below)) in
      let second = place_object j below in
      elim (cases_order (place i) (place j)) [
        | inl same ↦ absurd (differ i j less below same)
        | inr (inl before) ↦
            let far : place i + cost_of first.0.shape ≤ place j =
            formed.apart (place i) (place j) a.0 b.0 first.0 a.1 b.1 first.1.starts before in
            inl (omega (arith, far))
        | inr (inr after) ↦
            let far : place j + cost_of second.0.shape ≤ place i =
            formed.apart (place j) (place i) b.0 a.0 second.0 b.1 a.1 second.1.starts after in
            inr (omega (arith, far))
      ])

-- the home word names no live scion: it is 0, or its scion is
abbrev pub HasNoScion : State → ℕ → Type 0
HasNoScion s address = (s.word (address + 1) ≡ 0)
    ⊎ ((home : ℕ) × (s.word (address + 1) ≡ home_word (Some (record { home = home; scion = 0 }))))

-- then no live scion names the object
pub no_scion_names : (maps : Maps) (s : State) (address : ℕ) → FormedWords maps s → HasNoScion s address → (k : ℕ)
    (x : Scion) → s.base.scion k ≡ Some x → x.address ≢ address
no_scion_names maps s address formed without k x live same =
    let stands = formed.scions k x live in
    let first : 1 ≤ k = stands.first in
    let small : k < 1073741824 = stands.small in
    let word : s.word (address + 1) ≡ 4294967296 * x.home + 4 * k =
    ap (λ (a : ℕ). s.word (a + 1)) (sym same) ∙ stands.home_word in
    elim without [
      | inl none ↦ omega (arith, none, word, first)
      | inr has ↦
          let also : s.word (address + 1) ≡ 4294967296 * has.0 + 4 * 0 = has.1 in
          omega (arith, word, also, first, small)
    ]

pair_scion : (table : Scions) (k : ℕ) (o : Option (ℕ × ℕ)) → o ≡ scion_at table k → IsSome o
    → (x : Scion) × (scion_in table k ≡ Some x)
pair_scion table k None is some = absurd (cc)
pair_scion table k (Some pair) is some = (
  record { home = pair.0; address = pair.1 },
  ap (option_map (λ (p : ℕ × ℕ). record { home = p.0; address = p.1 })) (sym is),
)

-- While an object of the map has no live scion, the table has a number for it.
pub room_for_scion : (maps : Maps) (heap : Heap) (held : List Registers) (disk : OnDisk) (address n : ℕ)
    → AreScionsFor (length heap.space.list) heap.scions → FormedWords maps (state_of heap held disk)
    → maps.address address ≡ Some n → HasNoScion (state_of heap held disk) address
    → length heap.scions.live < length heap.scions.pairs
room_for_scion maps heap held disk address n table formed named without =
    let s : State = state_of heap held disk in
    let live : List ℕ = heap.scions.live in
    let few : suc (length live) ≤ length heap.space.list / 2 =
    scions_few maps s live address n formed named (no_scion_names maps s address formed without)
    (λ i below.
    let k : ℕ = slice_index live i in
    let there : Contains live k = (i, below, get_or_default live i k 0 below) in
    pair_scion heap.scions k (scion_at heap.scions k) refl ((table.is_table.live k).0 there))
    table.is_table.live_once in
    let size : length heap.scions.pairs ≡ length heap.space.list / 2 = table.size in
    omega (arith, few, size)
