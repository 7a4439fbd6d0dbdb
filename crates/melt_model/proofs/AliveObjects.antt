-- How the objects that are alive are found one by one.
use Rattle.std.proofs.Common.{◌≡◌, ℕ, ◌+◌, ◌<◌, ◌≤◌, zero, suc, eqb, nat_eq, List, [], ◌∷◌, ◌++◌, length, map, refl}
use Rattle.std.proofs.Common.{sym, ◌∙◌, ap, subst, arith, length-append, ◌⊎◌, inl, inr}
use Rattle.std.specs.Prelude.{Contains, Option, None, Some, slice_get, slice_index_or}
use Rattle.std.specs.Cmp.{unsigned_Decides}
use Rattle.std.specs.List.{IsDistinct, fold}
use Rattle.std.proofs.lemmas.Bool.{cond_both, ne_eqb}
use Rattle.std.proofs.lemmas.Cmp.{nat_eq_equiv}
use Rattle.std.proofs.lemmas.List.{length-map}
use Rattle.std.proofs.lemmas.List.Elements.{Contains-get_or, Contains-append_left, Contains-append_right}
use Rattle.std.proofs.lemmas.List.Elements.{Contains-push_cases}
use Rattle.std.proofs.lemmas.List.Folds.{list_any_none}
use Rattle.std.proofs.lemmas.Map.Keys.{IsDistinct-push}
use Rattle.std.proofs.lemmas.Map.Made.{length-le_from_is_member, is_member-Decides}
use Rattle.std.proofs.lemmas.Option.{slice_get_within}
use Rattle.melt_model.specs.History.{write_of, after_write, first_value, last, slot_eq}
use Rattle.melt_model.specs.Thread.{value_in}
use Rattle.melt_model.specs.Alive.{Held, Alive}
use Rattle.melt_model.specs.Plain.{of_one_thread, ListsAlive, IsSlotOf, InSlotOf, Wrote, IsNext, IsOneMore}
use Rattle.melt_model.specs.declared.history.Value.{Value}
use Rattle.melt_model.specs.declared.history.Value.TheVariants.{Nil, Ref, Num}
use Rattle.melt_model.specs.declared.history.Slot.{Slot}
use Rattle.melt_model.specs.declared.history.Slot.TheVariants.{Field, Cell, Global}
use Rattle.melt_model.specs.declared.history.Act.{Act}
use Rattle.melt_model.specs.declared.history.Entry.{Entry}
use Rattle.melt_model.proofs.Histories.{same_slot}

-- some entry wrote the value to the slot
pub record IsWritten (h : List Entry) (slot : Slot) (value : Value) : Type 0 where
  pub place : ℕ
  pub entry : Entry
  pub stands : slice_get h place ≡ Some entry
  pub writes : write_of entry.act ≡ Some (slot, value)

-- a value after a write stood there before, or is the one written
after_written : (slot : Slot) (write : Option (Slot × Value)) (before after : Value)
    → after_write slot write before ≡ after → (before ≡ after) ⊎ (write ≡ Some (slot, after))
after_written slot None before after is = inl is
after_written slot (Some w) before after is =
    (cond_both (slot_eq w.0 slot) w.1 before (λ (v : Value). v ≡ after
    → (before ≡ after) ⊎ (Some w ≡ Some (slot, after)))
    (λ same is. inr (ap (λ (s : Slot). Some (s, w.1)) (same_slot w.0 slot same)
    ∙ ap (λ (v : Value). Some (slot, v)) is))
    (λ differs is. inl is)) is

written_from : (h : List Entry) (slot : Slot) (first value : Value)
    → fold (λ v e. after_write slot (write_of e.act) v) first h ≡ value → (first ≡ value) ⊎ IsWritten h slot value
written_from [] slot first value is = inl is
written_from (e ∷ h) slot first value is =
    elim (written_from h slot (after_write slot (write_of e.act) first) value is) [
      | inl here ↦ elim (after_written slot (write_of e.act) first value here) [
        | inl before ↦ inl before
        | inr writes ↦ inr (record { place = 0; entry = e; stands = refl; writes = writes })
      ]
      | inr later ↦ inr (record {
        place = suc later.place;
        entry = later.entry;
        stands = later.stands;
        writes = later.writes;
      })
    ]

first_no_ref : (slot : Slot) (n : ℕ) → first_value slot ≡ Ref n → ⊥
first_no_ref (Field m i) n is = cc
first_no_ref (Cell m j) n is = cc
first_no_ref (Global g) n is = cc

-- an object that a slot refers to was written to it
pub ref_written : (h : List Entry) (slot : Slot) (n : ℕ) → last h slot ≡ Ref n → IsWritten h slot (Ref n)
ref_written h slot n is = elim (written_from h slot (first_value slot) (Ref n) is) [
  | inl first ↦
      absurd (first_no_ref slot n first)
  | inr written ↦ written
]

-- where each entry has nothing new, no slot has
pub slots_closed : (h : List Entry) (objects : List ℕ)
    → ((p : ℕ) → p < length h → (e : Entry) → slice_get h p ≡ Some e → (n : ℕ) → Wrote h objects e.act n
    → Contains objects n) → (n : ℕ) → InSlotOf h objects n → Contains objects n
slots_closed h objects none n is =
    let w = ref_written h is.slot n is.refers in
    none w.place (slice_get_within h w.place w.entry w.stands) w.entry w.stands n
    (record { slot = is.slot; value = Ref n; writes = w.writes; of_one = is.of_one; refers = is.refers })

pub in_slot_from_wrote : (h : List Entry) (objects : List ℕ) (act : Act) (n : ℕ) → Wrote h objects act n
    → InSlotOf h objects n
in_slot_from_wrote h objects act n wrote = record { slot = wrote.slot; of_one = wrote.of_one; refers = wrote.refers }

-- a register that holds an object is one of the list
value_listed : (registers : List Value) (r n : ℕ) → value_in registers r ≡ Ref n → Contains registers (Ref n)
value_listed [] r n is = absurd (cc)
value_listed (v ∷ registers) zero n is = (0, omega arith, is)
value_listed (v ∷ registers) (suc r) n is = let rest =
    value_listed registers r n is in (suc rest.0, omega (arith, rest.1), rest.2)

thread_listed : (registers : List Value) (t r n : ℕ) → of_one_thread registers t r ≡ Ref n → Contains registers (Ref n)
thread_listed registers t r n is =
    (cond_both (eqb t 0) (value_in registers r) Nil (λ (v : Value). v ≡ Ref n → Contains registers (Ref n))
    (λ first is. value_listed registers r n is)
    (λ other is. absurd (cc))) is

pub held_listed : (registers : List Value) (n : ℕ) → Held (of_one_thread registers) n → Contains registers (Ref n)
held_listed registers n held = thread_listed registers held.thread held.register n held.holds

value_at : (registers : List Value) (k : ℕ) (v : Value) → k < length registers
    → slice_index_or registers k v ≡ value_in registers k
value_at [] k v below = absurd (omega arith)
value_at (x ∷ registers) zero v below = refl
value_at (x ∷ registers) (suc k) v below = value_at registers k v (omega arith)

pub listed_held : (registers : List Value) (n : ℕ) → Contains registers (Ref n) → Held (of_one_thread registers) n
listed_held registers n (k, below, is) =
    record { thread = 0; register = k; holds = sym (value_at registers k (Ref n) below) ∙ is }

-- an object more than these in a register or else in a slot
pub one_more_next : (h : List Entry) (registers : List Value) (objects : List ℕ) (r : Option ℕ)
    → ((n : ℕ) → Contains registers (Ref n) → Contains objects n) → IsOneMore objects (InSlotOf h objects) r
    → IsOneMore objects (IsNext h registers objects) r
one_more_next h registers objects None none_held none =
    λ n is. elim is [ inl held ↦ none_held n (held_listed registers n held) | inr slot ↦ none n slot ]
one_more_next h registers objects (Some n) none_held more = (inr more.0, more.1)

-- objects that are alive, each once
pub record Found (h : List Entry) (registers : List Value) (objects : List ℕ) : Type 0 where
  pub once : IsDistinct nat_eq objects
  pub alive : (n : ℕ) → Contains objects n → Alive h (of_one_thread registers) n

pub found_none : (h : List Entry) (registers : List Value) → Found h registers []
unfolding IsDistinct
found_none h registers = record { once = tt; alive = λ n has. absurd (let below : has.0 < 0 = has.1 in omega arith) }

slot_alive : (h : List Entry) (registers : List Value) (objects : List ℕ) (n : ℕ) (slot : Slot)
    → Found h registers objects → IsSlotOf objects slot → last h slot ≡ Ref n → Alive h (of_one_thread registers) n
slot_alive h registers objects n (Field m i) found of_one refers = Alive.in_slot m i n (found.alive m of_one) refers
slot_alive h registers objects n (Cell m j) found of_one refers = absurd of_one
slot_alive h registers objects n (Global g) found of_one refers = Alive.in_global g n refers

-- what is one step from objects that are alive is alive
next_alive : (h : List Entry) (registers : List Value) (objects : List ℕ) (n : ℕ) → Found h registers objects
    → IsNext h registers objects n → Alive h (of_one_thread registers) n
next_alive h registers objects n found (inl held) = Alive.in_register n held
next_alive h registers objects n found (inr slot) =
    slot_alive h registers objects n slot.slot found slot.of_one slot.refers

pub found_more : (h : List Entry) (registers : List Value) (objects : List ℕ) (n : ℕ) → Found h registers objects
    → IsNext h registers objects n → (Contains objects n → ⊥) → Found h registers (objects ++ n ∷ [])
found_more h registers objects n found is new = record {
  once = IsDistinct-push nat_eq_equiv objects n found.once
      (list_any_none (nat_eq n) objects (λ k d below. ne_eqb n _
      (λ same. new (subst (Contains objects) (sym same) (Contains-get_or objects k d below)))));
  alive = λ m has. elim (Contains-push_cases objects n m has) [
    | inl old ↦ found.alive m old
    | inr same ↦ subst (Alive h (of_one_thread registers)) same (next_alive h registers objects n found is)
  ];
}

alive_found : (h : List Entry) (registers : List Value) (objects : List ℕ) (n : ℕ)
    → ((m : ℕ) → IsNext h registers objects m → Contains objects m) → Alive h (of_one_thread registers) n
    → Contains objects n
alive_found h registers objects n closed (Alive.in_register m held) = closed m (inl held)
alive_found h registers objects n closed (Alive.in_global g m is) =
    closed m (inr (record { slot = Global g; of_one = tt; refers = is }))
alive_found h registers objects n closed (Alive.in_slot k i m lives is) =
    closed m (inr (record { slot = Field k i; of_one = alive_found h registers objects k closed lives; refers = is }))

-- objects that are alive, and from which no step leads to another, are all that are
pub found_all : (h : List Entry) (registers : List Value) (objects : List ℕ) → Found h registers objects
    → ((n : ℕ) → IsNext h registers objects n → Contains objects n) → ListsAlive h registers objects
found_all h registers objects found closed = record {
  once = found.once;
  all = λ n. (alive_found h registers objects n closed, found.alive n);
}

-- The objects that stand in registers or were written somewhere, with some number where there is none. They are no
-- more than registers and entries together.
object_in : Value → ℕ
object_in Nil = 0
object_in (Ref n) = n
object_in (Num v) = 0

object_written : Option (Slot × Value) → ℕ
object_written None = 0
object_written (Some w) = object_in w.1

named : List Entry → List Value → List ℕ
named h registers = map object_in registers ++ map (λ (e : Entry). object_written (write_of e.act)) h

Contains-map : {X : Type 0} (f : X → ℕ) (xs : List X) (k : ℕ) (x : X) → slice_get xs k ≡ Some x
    → Contains (map f xs) (f x)
Contains-map f [] k x is = absurd (cc)
Contains-map f (y ∷ xs) zero x is = (0, omega arith, ap f (let e : y ≡ x = cc in e))
Contains-map f (y ∷ xs) (suc k) x is = let rest = Contains-map f xs k x is in
    (suc rest.0, omega (arith, rest.1), rest.2)

slice_get-from_Contains : {X : Type 0} (xs : List X) (x : X) → Contains xs x → (k : ℕ) × (slice_get xs k ≡ Some x)
slice_get-from_Contains [] x (k, below, is) = absurd (omega arith)
slice_get-from_Contains (y ∷ xs) x (zero, below, is) = (0, ap Some is)
slice_get-from_Contains (y ∷ xs) x (suc k, below, is) = let rest =
    slice_get-from_Contains xs x (k, omega arith, is) in (suc rest.0, rest.1)

named_listed : (h : List Entry) (registers : List Value) (n : ℕ) → Contains registers (Ref n)
    → Contains (named h registers) n
unfolding named object_in
named_listed h registers n has =
    let at = slice_get-from_Contains registers (Ref n) has in
    Contains-append_left (map object_in registers) _ n (Contains-map object_in registers at.0 (Ref n) at.1)

named_written : (h : List Entry) (registers : List Value) (slot : Slot) (n : ℕ) → IsWritten h slot (Ref n)
    → Contains (named h registers) n
unfolding named object_in object_written
named_written h registers slot n w =
    Contains-append_right (map object_in registers) _ n (subst
    (Contains (map (λ (e : Entry). object_written (write_of e.act)) h)) (ap object_written w.writes)
    (Contains-map (λ (e : Entry). object_written (write_of e.act)) h w.place w.entry w.stands))

alive_named : (h : List Entry) (registers : List Value) (n : ℕ) → Alive h (of_one_thread registers) n
    → Contains (named h registers) n
alive_named h registers n (Alive.in_register m held) = named_listed h registers m (held_listed registers m held)
alive_named h registers n (Alive.in_global g m is) =
    named_written h registers (Global g) m (ref_written h (Global g) m is)
alive_named h registers n (Alive.in_slot k i m lives is) =
    named_written h registers (Field k i) m (ref_written h (Field k i) m is)

length-named : (h : List Entry) (registers : List Value) → length (named h registers) ≡ length registers + length h
unfolding named
length-named h registers = length-append (map object_in registers) _ ∙ simp length-map

pub found_few : (h : List Entry) (registers : List Value) (objects : List ℕ) → Found h registers objects
    → length objects ≤ length registers + length h
found_few h registers objects found =
    let few : length objects ≤ length (named h registers) =
    length-le_from_is_member nat_eq_equiv objects (named h registers) found.once
    (λ q has. (is_member-Decides unsigned_Decides (named h registers) q).1
    (alive_named h registers q (found.alive q ((is_member-Decides unsigned_Decides objects q).0 has)))) in
    omega (arith, few, length-named h registers)
