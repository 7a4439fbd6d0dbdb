-- The words of what registers and globals reach have a sum: the objects are found one by one, until no step leads on.
use Rattle.std.proofs.Common.{◌≡◌, ℕ, ◌+◌, ◌<◌, ◌≤◌, zero, suc, List, [], ◌∷◌, ◌++◌, length, refl, sym, ◌∙◌, ap, subst}
use Rattle.std.proofs.Common.{arith, length-append, ◌⊎◌, inl, inr}
use Rattle.std.specs.Prelude.{◌↔◌, Contains, Option, None, Some, map, slice_get, sum}
use Rattle.std.proofs.lemmas.Bool.{cases_eq}
use Rattle.std.proofs.lemmas.List.Elements.{Contains-append_left, Contains-append_right, Contains-append_cases}
use Rattle.std.proofs.lemmas.Option.{none-some, same_Some}
use Rattle.melt_model.specs.History.{write_of, last}
use Rattle.melt_model.specs.Thread.{value_in}
use Rattle.melt_model.specs.Alive.{Held, Alive, words_of, CostsSum}
use Rattle.melt_model.specs.Plain.{of_one_thread, ListsAlive, IsSlotOf, InSlotOf, Wrote, IsNext}
use Rattle.melt_model.specs.declared.history.Act.{Act}
use Rattle.melt_model.specs.declared.history.Entry.{Entry}
use Rattle.melt_model.specs.declared.history.Slot.{Slot}
use Rattle.melt_model.specs.declared.history.Slot.TheVariants.{Field, Cell, Global}
use Rattle.melt_model.specs.declared.history.Value.{Value}
use Rattle.melt_model.specs.declared.history.Value.TheVariants.{Nil, Ref, Num}
use Rattle.melt_model.proofs.AliveObjects.{Found, found_none, found_more, found_few, found_all, held_listed}
use Rattle.melt_model.proofs.AliveObjects.{listed_held, in_slot_from_wrote, slots_closed}
use Rattle.melt_model.proofs.Sums.{CostsSum-same}

-- some number of a kind is none of the list, or all are among it
abbrev OneMore : List ℕ → (ℕ → Type 0) → Type 0
OneMore objects Is = ((n : ℕ) × Is n × (Contains objects n → ⊥)) ⊎ ((n : ℕ) → Is n → Contains objects n)

-- an element that is neither the first nor after it
not_first : (x : ℕ) (xs : List ℕ) (n : ℕ) → (x ≡ n → ⊥) → (Contains xs n → ⊥) → Contains (x ∷ xs) n → ⊥
not_first x xs n differs none (zero, below, is) = differs is
not_first x xs n differs none (suc k, below, is) = none (k, omega arith, is)

-- an element stands in a list or does not
contains_cases : (xs : List ℕ) (n : ℕ) → Contains xs n ⊎ (Contains xs n → ⊥)
contains_cases [] n = inr (λ has. absurd (let below : has.0 < 0 = has.1 in omega arith))
contains_cases (x ∷ xs) n = elim (cases_eq x n) [
  | inl same ↦ inl (0, omega arith, same)
  | inr differs ↦ elim (contains_cases xs n) [
    | inl has ↦ inl (suc has.0, omega (arith, has.1), has.2)
    | inr none ↦ inr (not_first x xs n differs none)
  ]
]

-- one number is none of the list, or it is
one_or_none : (objects : List ℕ) (m : ℕ) → OneMore objects (λ n. m ≡ n)
one_or_none objects m = elim (contains_cases objects m) [
  | inl has ↦ inr (λ n is. subst (Contains objects) is has)
  | inr new ↦ inl (m, refl, new)
]

-- of two kinds
one_of_both : (objects : List ℕ) (P Q : ℕ → Type 0) → OneMore objects P → OneMore objects Q
    → OneMore objects (λ n. P n ⊎ Q n)
one_of_both objects P Q (inl one) other = inl (one.0, inl one.1, one.2)
one_of_both objects P Q (inr all) (inl one) = inl (one.0, inr one.1, one.2)
one_of_both objects P Q (inr all) (inr both) = inr (λ n is. elim is [ inl p ↦ all n p | inr q ↦ both n q ])

-- of a kind that is the same
one_same : (objects : List ℕ) (P Q : ℕ → Type 0) → ((n : ℕ) → P n ↔ Q n) → OneMore objects P → OneMore objects Q
one_same objects P Q same (inl one) = inl (one.0, (same one.0).0 one.1, one.2)
one_same objects P Q same (inr all) = inr (λ n is. all n ((same n).1 is))

-- of a kind that has no number
one_of_none : (objects : List ℕ) (P : ℕ → Type 0) → ((n : ℕ) → P n → ⊥) → OneMore objects P
one_of_none objects P none = inr (λ n is. absurd (none n is))

-- the object that a value refers to
one_value : (objects : List ℕ) (v : Value) → OneMore objects (λ n. v ≡ Ref n)
one_value objects Nil = one_of_none objects (λ n. Nil ≡ Ref n) (λ n is. cc)
one_value objects (Num x) = one_of_none objects (λ n. Num x ≡ Ref n) (λ n is. cc)
one_value objects (Ref m) = one_same objects (λ n. m ≡ n) (λ n. Ref m ≡ Ref n) (λ n. (λ is. ap Ref is, λ is. cc))
    (one_or_none objects m)

-- a value stands first or later
first_held : (v : Value) (registers : List Value) (n : ℕ) → Contains (v ∷ registers) (Ref n)
    → (v ≡ Ref n) ⊎ Contains registers (Ref n)
first_held v registers n (zero, below, is) = inl is
first_held v registers n (suc k, below, is) = inr (k, omega arith, is)

-- an object in a register
one_held : (objects : List ℕ) (registers : List Value) → OneMore objects (λ n. Contains registers (Ref n))
one_held objects [] = one_of_none objects (λ n. Contains [] (Ref n)) (λ n has. let below : has.0 < 0 = has.1 in
    omega arith)
one_held objects (v ∷ registers) =
    one_same objects (λ n. (v ≡ Ref n) ⊎ Contains registers (Ref n)) (λ n. Contains (v ∷ registers) (Ref n))
    (λ n. (
      λ is. elim is [
        | inl first ↦ (0, omega arith, first)
        | inr after ↦
            (suc after.0, omega (arith, after.1), after.2)
      ],
      first_held v registers n,
    ))
    (one_of_both objects (λ n. v ≡ Ref n) (λ n. Contains registers (Ref n)) (one_value objects v)
    (one_held objects registers))

-- the object that a slot of these objects refers to
one_slot : (h : List Entry) (objects : List ℕ) (slot : Slot)
    → OneMore objects (λ n. IsSlotOf objects slot × (last h slot ≡ Ref n))
one_slot h objects (Global g) =
    one_same objects (λ n. last h (Global g) ≡ Ref n) (λ n. IsSlotOf objects (Global g)
    × (last h (Global g) ≡ Ref n)) (λ n. (λ is. (tt, is), λ is. is.1))
    (one_value objects (last h (Global g)))
one_slot h objects (Cell m j) =
    one_of_none objects (λ n. IsSlotOf objects (Cell m j) × (last h (Cell m j) ≡ Ref n)) (λ n is. is.0)
one_slot h objects (Field m i) = elim (contains_cases objects m) [
  | inl has ↦
      one_same objects (λ n. last h (Field m i) ≡ Ref n) (λ n. IsSlotOf objects (Field m i)
      × (last h (Field m i) ≡ Ref n)) (λ n. (λ is. (has, is), λ is. is.1))
      (one_value objects (last h (Field m i)))
  | inr not ↦ one_of_none objects (λ n. IsSlotOf objects (Field m i) × (last h (Field m i) ≡ Ref n)) (λ n is. not is.0)
]

-- an object that the slot refers to that an act wrote
one_wrote : (h : List Entry) (objects : List ℕ) (act : Act) (w : Option (Slot × Value)) → write_of act ≡ w
    → OneMore objects (Wrote h objects act)
one_wrote h objects act None is =
    one_of_none objects (Wrote h objects act) (λ n wrote. none-some (wrote.slot, wrote.value) (sym is ∙ wrote.writes))
one_wrote h objects act (Some w) is =
    one_same objects (λ n. IsSlotOf objects w.0 × (last h w.0 ≡ Ref n)) (Wrote h objects act)
    (λ n. (
      λ has. record { slot = w.0; value = w.1; writes = is; of_one = has.0; refers = has.1 },
      λ wrote.
          let same : wrote.slot ≡ w.0 = ap (λ (x : Slot × Value). x.0)
          (same_Some (wrote.slot, wrote.value) w (sym wrote.writes ∙ is)) in
          (subst (IsSlotOf objects) same wrote.of_one, ap (last h) (sym same) ∙ wrote.refers),
    ))
    (one_slot h objects w.0)

-- an object that a slot refers to which one of these entries wrote
abbrev WroteIn : List Entry → List ℕ → List Entry → ℕ → Type 0
WroteIn h objects entries n = (p : ℕ) × ((e : Entry) × (slice_get entries p ≡ Some e) × Wrote h objects e.act n)

first_wrote : (h : List Entry) (objects : List ℕ) (e : Entry) (entries : List Entry) (n : ℕ)
    → WroteIn h objects (e ∷ entries) n → Wrote h objects e.act n ⊎ WroteIn h objects entries n
first_wrote h objects e entries n (zero, (x, at, wrote)) =
    inl (subst (λ (y : Entry). Wrote h objects y.act n) (sym (same_Some e x at)) wrote)
first_wrote h objects e entries n (suc p, (x, at, wrote)) = inr (p, (x, at, wrote))

one_entry : (h : List Entry) (objects : List ℕ) (entries : List Entry) → OneMore objects (WroteIn h objects entries)
one_entry h objects [] = one_of_none objects (WroteIn h objects []) (λ n is. let none : None ≡ Some is.1.0 = is.1.1 in
    cc)
one_entry h objects (e ∷ entries) =
    one_same objects (λ n. Wrote h objects e.act n ⊎ WroteIn h objects entries n) (WroteIn h objects (e ∷ entries))
    (λ n. (
      λ is. elim is [
        | inl first ↦ (0, (e, refl, first))
        | inr after ↦
            (suc after.0, (after.1.0, after.1.1, after.1.2))
      ],
      first_wrote h objects e entries n,
    ))
    (one_of_both objects (Wrote h objects e.act) (WroteIn h objects entries)
    (one_wrote h objects e.act (write_of e.act) refl) (one_entry h objects entries))

-- an object that a slot refers to
one_in_slots : (h : List Entry) (objects : List ℕ) → OneMore objects (WroteIn h objects h)
    → OneMore objects (InSlotOf h objects)
one_in_slots h objects (inl one) = inl (one.0, in_slot_from_wrote h objects one.1.1.0.act one.0 one.1.1.2, one.2)
one_in_slots h objects (inr all) = inr (slots_closed h objects (λ p below e at n wrote. all n (p, (e, at, wrote))))

-- an object that is one step further
one_next : (h : List Entry) (registers : List Value) (objects : List ℕ) → OneMore objects (IsNext h registers objects)
one_next h registers objects =
    one_same objects (λ n. Contains registers (Ref n) ⊎ InSlotOf h objects n) (IsNext h registers objects)
    (λ n. (
      λ is. elim is [ inl held ↦ inl (listed_held registers n held) | inr slot ↦ inr slot ],
      λ is. elim is [ inl held ↦ inl (held_listed registers n held) | inr slot ↦ inr slot ],
    ))
    (one_of_both objects (λ n. Contains registers (Ref n)) (InSlotOf h objects) (one_held objects registers)
    (one_in_slots h objects (one_entry h objects h)))

-- so all are found, in so many steps at most
find_all : (left : ℕ) (h : List Entry) (registers : List Value) (objects : List ℕ) → Found h registers objects
    → length registers + length h < length objects + left → (all : List ℕ) × ListsAlive h registers all
find_all zero h registers objects found few = absurd (omega (arith, few, found_few h registers objects found))
find_all (suc left) h registers objects found few = elim (one_next h registers objects) [
  | inl one ↦ find_all left h registers (objects ++ one.0 ∷ []) (found_more h registers objects one.0 found one.1 one.2)
      (omega (arith, few, length-append objects (one.0 ∷ [])))
  | inr closed ↦ (objects, found_all h registers objects found closed)
]

-- what stands in a register of these stands in the list
held_value : (registers : List Value) (n : ℕ) → Contains registers (Ref n) → (r : ℕ) × (value_in registers r ≡ Ref n)
held_value [] n has = absurd (let below : has.0 < 0 = has.1 in omega arith)
held_value (v ∷ registers) n has = elim (first_held v registers n has) [
  | inl first ↦ (0, first)
  | inr after ↦ let rest = held_value registers n after in (suc rest.0, rest.1)
]

-- the registers of the first threads, one after the other
abbrev all_of : (ℕ → List Value) → ℕ → List Value
all_of registers zero = []
all_of registers (suc n) = registers n ++ all_of registers n

in_all : (registers : ℕ → List Value) (threads t : ℕ) (v : Value) → t < threads → Contains (registers t) v
    → Contains (all_of registers threads) v
in_all registers zero t v below has = absurd (omega arith)
in_all registers (suc threads) t v below has = elim (cases_eq t threads) [
  | inl same ↦ Contains-append_left (registers threads) (all_of registers threads) v
      (subst (λ (u : ℕ). Contains (registers u) v) same has)
  | inr other ↦ Contains-append_right (registers threads) (all_of registers threads) v
      (in_all registers threads t v (omega (arith, other, below)) has)
]

of_all : (registers : ℕ → List Value) (threads : ℕ) (v : Value) → Contains (all_of registers threads) v
    → (t : ℕ) × Contains (registers t) v
of_all registers zero v has = absurd (let below : has.0 < 0 = has.1 in omega arith)
of_all registers (suc threads) v has =
    elim (Contains-append_cases (registers threads) (all_of registers threads) v has) [
      | inl here ↦ (threads, here)
      | inr rest ↦ of_all registers threads v rest
    ]

-- objects that are alive, where the same objects stand in registers
alive_held : (h : List Entry) (a b : ℕ → ℕ → Value) (n : ℕ) → ((m : ℕ) → Held a m → Held b m) → Alive h a n
    → Alive h b n
alive_held h a b n same (Alive.in_register m held) = Alive.in_register m (same m held)
alive_held h a b n same (Alive.in_global g m at) = Alive.in_global g m at
alive_held h a b n same (Alive.in_slot from i m found at) = Alive.in_slot from i m (alive_held h a b from same found) at

-- the words of what these threads' registers and the globals reach have a sum
pub alive_sum : (h : List Entry) (registers : ℕ → List Value) (threads : ℕ)
    → ((t r n : ℕ) → value_in (registers t) r ≡ Ref n → t < threads)
    → (total : ℕ) × CostsSum (words_of h) (Alive h (λ t r. value_in (registers t) r)) total
alive_sum h registers threads within =
    let all : List Value = all_of registers threads in
    let value : ℕ → ℕ → Value = λ t r. value_in (registers t) r in
    let found = find_all (length all + length h + 1) h all [] (found_none h all) (omega arith) in
    let to_all : (m : ℕ) → Held value m → Held (of_one_thread all) m = λ m held.
    listed_held all m (in_all registers threads held.thread (Ref m) (within held.thread held.register m held.holds)
    (held_listed (registers held.thread) m (record { thread = 0; register = held.register; holds = held.holds }))) in
    let from_all : (m : ℕ) → Held (of_one_thread all) m → Held value m = λ m held.
    let at = of_all registers threads (Ref m) (held_listed all m held) in
    let here = held_value (registers at.0) m at.1 in
    record { thread = at.0; register = here.0; holds = here.1 } in
    let one : CostsSum (words_of h) (Alive h (of_one_thread all)) (sum (map (words_of h) found.0)) =
    record { members = found.0; once = found.1.once; all = found.1.all; adds_up = refl } in (
      sum (map (words_of h) found.0),
      CostsSum-same (words_of h) (Alive h (of_one_thread all)) (Alive h value) (sum (map (words_of h) found.0))
          (λ n. (alive_held h (of_one_thread all) value n from_all, alive_held h value (of_one_thread all) n to_all))
          one,
    )
