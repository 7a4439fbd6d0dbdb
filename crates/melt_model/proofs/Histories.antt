-- Laws of histories that grow at their end.
use Rattle.std.proofs.Common.{◌≡◌, ◌≢◌, ℕ, ◌+◌, ◌<◌, ◌≤◌, zero, suc, Bool, true, false, cond, eqb, ◌&&◌, get_or, List}
use Rattle.std.proofs.Common.{[], ◌∷◌, ◌++◌, length, take, refl, sym, ◌∙◌, ap, subst, arith, length-append, ◌⊎◌, inl}
use Rattle.std.proofs.Common.{inr}
use Rattle.std.proofs.lemmas.List.{append-nil}
use Rattle.std.proofs.lemmas.List.Elements.{filter_map-append}
use Rattle.std.proofs.lemmas.List.Sums.{fold-append}
use Rattle.std.proofs.lemmas.List.{take-append-le, take_more}
use Rattle.std.proofs.lemmas.Option.{slice_get-get_or}
use Rattle.std.proofs.Math.Seq.{take-append_seam, take-length}
use Rattle.std.proofs.lemmas.Bool.{eqb-true, cond_both}
use Rattle.std.specs.Prelude.{slice_get, Option, None, Some, IfSome, IsSomeAnd}
use Rattle.melt_model.specs.History.{Shape, shape_made, write_of, shapes, made, shape, after_write, first_value, last}
use Rattle.melt_model.specs.History.{slot_eq, IsSlot, IsReference, CanHold, MayFollow, Legal}
use Rattle.melt_model.specs.Thread.{own_from, own, act_at, given_at}
use Rattle.melt_model.specs.declared.history.Value.{Value}
use Rattle.melt_model.specs.declared.history.Value.TheVariants.{Nil, Ref, Num}
use Rattle.melt_model.specs.declared.history.Slot.{Slot}
use Rattle.melt_model.specs.declared.history.Slot.TheVariants.{Field, Cell, Global}
use Rattle.melt_model.specs.declared.history.Act.TheVariants.{Make}
use Rattle.melt_model.specs.declared.history.Entry.{Entry}

-- an element of the front, and the first after it
pub slice_get-append_left : {A : Type 0} (xs ys : List A) (k : ℕ) → k < length xs
    → slice_get (xs ++ ys) k ≡ slice_get xs k
slice_get-append_left [] ys k h = absurd (omega arith)
slice_get-append_left (x ∷ xs) ys zero h = refl
slice_get-append_left (x ∷ xs) ys (suc k) h = slice_get-append_left xs ys k (omega arith)

pub slice_get-append_seam : {A : Type 0} (xs : List A) (y : A) (ys : List A)
    → slice_get (xs ++ y ∷ ys) (length xs) ≡ Some y
slice_get-append_seam [] y ys = refl
slice_get-append_seam (x ∷ xs) y ys = slice_get-append_seam xs y ys

pub shapes-append : (h k : List Entry) → shapes (h ++ k) ≡ shapes h ++ shapes k
shapes-append h k = filter_map-append (λ (e : Entry). shape_made e.act) h k

pub made-append : (h k : List Entry) → made (h ++ k) ≡ made h + made k
made-append h k = ap length (shapes-append h k) ∙ length-append (shapes h) (shapes k)

-- what was made keeps its shape
pub shape-append : (h k : List Entry) (n : ℕ) → n < made h → shape (h ++ k) n ≡ shape h n
shape-append h k n below = ap (λ (zs : List Shape). slice_get zs n) (shapes-append h k)
    ∙ slice_get-append_left (shapes h) (shapes k) n below

-- the last value after one more entry
pub last-push : (h : List Entry) (e : Entry) (slot : Slot)
    → last (h ++ e ∷ []) slot ≡ after_write slot (write_of e.act) (last h slot)
last-push h e slot = fold-append (λ (value : Value) (x : Entry). after_write slot (write_of x.act) value)
    (first_value slot) h (e ∷ [])

pub IsReference-append : (h k : List Entry) (v : Value) → IsReference h v → IsReference (h ++ k) v
IsReference-append h k Nil r = tt
IsReference-append h k (Ref n) r = omega (arith, made-append h k)
IsReference-append h k (Num v) r = r

-- a place in a list with one more element is one of the list's, or the new one
pub last_place : {A : Type 0} (xs : List A) (x : A) (p : ℕ) (y : A) → slice_get (xs ++ x ∷ []) p ≡ Some y
    → ((p < length xs) × (slice_get xs p ≡ Some y)) ⊎ ((p ≡ length xs) × (x ≡ y))
last_place [] x zero y e = inr (refl, cc)
last_place [] x (suc p) y e = absurd (cc)
last_place (z ∷ xs) x zero y e = inl (omega arith, e)
last_place (z ∷ xs) x (suc p) y e =
    elim (last_place xs x p y e) [ inl a ↦ inl (omega (arith, a.0), a.1) | inr b ↦ inr (omega (arith, b.0), b.1) ]

-- a legal history with one more entry that may follow
pub Legal-push : (h : List Entry) (e : Entry) (globals : ℕ) → Legal h globals → MayFollow h globals e.act
    → Legal (h ++ e ∷ []) globals
Legal-push h e globals legal follows p x at =
    elim (last_place h e p x at) [
      | inl old ↦ subst (λ (before : List Entry). MayFollow before globals x.act)
          (sym (take-append-le p h (e ∷ []) (omega (arith, old.0)))) (legal p x old.1)
      | inr new ↦ subst (λ (before : List Entry). MayFollow before globals x.act)
          (sym (ap (λ (n : ℕ). take n (h ++ e ∷ [])) new.0 ∙ take-append_seam h (e ∷ [])))
          (subst (λ (y : Entry). MayFollow h globals y.act) new.1 follows)
    ]

pub own_from-append : (p : ℕ) (h k : List Entry) (t : ℕ)
    → own_from p (h ++ k) t ≡ own_from p h t ++ own_from (p + length h) k t
own_from-append p [] k t = ap (λ (q : ℕ). own_from q k t) (omega arith)
own_from-append p (e ∷ h) k t =
    let more : own_from (p + 1 + length h) k t ≡ own_from (p + suc (length h)) k t =
    ap (λ (q : ℕ). own_from q k t) (omega arith) in
    elim (eqb e.thread t) as (λ b. cond b (p ∷ own_from (p + 1) (h ++ k) t) (own_from (p + 1) (h ++ k) t)
    ≡ cond b (p ∷ own_from (p + 1) h t) (own_from (p + 1) h t) ++ own_from (p + suc (length h)) k t) [
      | true ↦ ap (λ (ps : List ℕ). p ∷ ps) (own_from-append (p + 1) h k t
          ∙ ap (λ (ps : List ℕ). own_from (p + 1) h t ++ ps) more)
      | false ↦ own_from-append (p + 1) h k t ∙ ap (λ (ps : List ℕ). own_from (p + 1) h t ++ ps) more
    ]

-- the places of a thread, after an entry of its own and after one of another
pub own-push_own : (h : List Entry) (e : Entry) (t : ℕ) → e.thread ≡ t → own (h ++ e ∷ []) t ≡ own h t ++ length h ∷ []
own-push_own h e t is = own_from-append 0 h (e ∷ []) t ∙ ap (λ (ps : List ℕ). own h t ++ ps) (grind (arith, is))

pub own-push_other : (h : List Entry) (e : Entry) (t : ℕ) → e.thread ≢ t → own (h ++ e ∷ []) t ≡ own h t
own-push_other h e t differs = own_from-append 0 h (e ∷ []) t
    ∙ (ap (λ (ps : List ℕ). own h t ++ ps) (grind (arith, differs)) ∙ append-nil (own h t))

-- an entry that stands keeps what it is and what it gives
pub act_at-append : (h k : List Entry) (p : ℕ) → p < length h → act_at (h ++ k) p ≡ act_at h p
act_at-append h k p below = rw slice_get-append_left

pub given_at-append : (h k : List Entry) (p : ℕ) → p < length h → given_at (h ++ k) p ≡ given_at h p
given_at-append h k p below = let short : p ≤ length h = omega arith in rw (slice_get-append_left, take-append-le)

no_entry : Entry
no_entry = record { thread = 0; act = Make 0 0 }

holds_at : (h : List Entry) (globals : ℕ) (P : List Entry → Type 0) → Legal h globals → P []
    → ((before : List Entry) (e : Entry) → MayFollow before globals e.act → P before → P (before ++ e ∷ [])) → (k : ℕ)
    → k ≤ length h → P (take k h)
holds_at h globals P legal base step zero within = base
holds_at h globals P legal base step (suc k) within =
    let below : k < length h = omega arith in
    let e : Entry = get_or h k no_entry in
    let front : take (suc k) h ≡ take k h ++ e ∷ [] =
    ap (λ (n : ℕ). take n h) (let one : suc k ≡ k + 1 = omega arith in one) ∙ take_more h k no_entry below in
    subst P (sym front) (step (take k h) e (legal k e (slice_get-get_or h k no_entry below))
    (holds_at h globals P legal base step k (omega arith)))

-- What holds of the empty history, and is kept by each entry that may follow, holds of a legal history.
pub Legal-induction : (h : List Entry) (globals : ℕ) (P : List Entry → Type 0) → Legal h globals → P []
    → ((before : List Entry) (e : Entry) → MayFollow before globals e.act → P before → P (before ++ e ∷ [])) → P h
Legal-induction h globals P legal base step =
    subst P (take-length h) (holds_at h globals P legal base step (length h) (omega arith))

and_true : (a b : Bool) → (a && b) ≡ true → (a ≡ true) × (b ≡ true)
and_true true b e = (refl, e)
and_true false b e = absurd (cc)

-- the slot that an equal slot is
pub same_slot : (s t : Slot) → slot_eq s t ≡ true → s ≡ t
same_slot (Field n i) (Field m j) e = let p = and_true (eqb n m) (eqb i j) e in let a : n ≡ m =
    eqb-true n m p.0 in let b : i ≡ j = eqb-true i j p.1 in cc
same_slot (Cell n i) (Cell m j) e = let p = and_true (eqb n m) (eqb i j) e in let a : n ≡ m =
    eqb-true n m p.0 in let b : i ≡ j = eqb-true i j p.1 in cc
same_slot (Global g) (Global k) e = ap Global (eqb-true g k e)
same_slot (Field n i) (Cell m j) e = absurd (cc)
same_slot (Field n i) (Global k) e = absurd (cc)
same_slot (Cell n i) (Field m j) e = absurd (cc)
same_slot (Cell n i) (Global k) e = absurd (cc)
same_slot (Global g) (Field m j) e = absurd (cc)
same_slot (Global g) (Cell m j) e = absurd (cc)

CanHold-append : (h k : List Entry) (slot : Slot) (v : Value) → CanHold h slot v → CanHold (h ++ k) slot v
CanHold-append h k (Field n i) v holds = IsReference-append h k v holds
CanHold-append h k (Cell n j) v holds = holds
CanHold-append h k (Global g) v holds = IsReference-append h k v holds

first_value_holds : (slot : Slot) → CanHold [] slot (first_value slot)
first_value_holds (Field n i) = tt
first_value_holds (Cell n j) = tt
first_value_holds (Global g) = tt

-- after a write that may follow, each slot holds what it can hold
written_holds : (before : List Entry) (write : Option (Slot × Value)) (slot : Slot) (v : Value)
    → IfSome write (λ w. CanHold before w.0 w.1) → CanHold before slot v
    → CanHold before slot (after_write slot write v)
written_holds before None slot v can holds = holds
written_holds before (Some w) slot v can holds =
    cond_both (slot_eq w.0 slot) w.1 v (CanHold before slot)
    (λ e. subst (λ (s : Slot). CanHold before s w.1) (same_slot w.0 slot e) can) (λ e. holds)

-- In a legal history reference slots and globals hold Nil or an object that was made, and number words numbers.
pub last_holds : (h : List Entry) (globals : ℕ) → Legal h globals → (slot : Slot) → CanHold h slot (last h slot)
last_holds h globals legal =
    Legal-induction h globals (λ k. (slot : Slot) → CanHold k slot (last k slot)) legal first_value_holds
    (λ before e follows holds slot. subst (CanHold (before ++ e ∷ []) slot) (sym (last-push before e slot))
    (CanHold-append before (e ∷ []) slot (after_write slot (write_of e.act) (last before slot))
    (written_holds before (write_of e.act) slot (last before slot) follows.write_value (holds slot))))

slice_get_some_within : {A : Type 0} (xs : List A) (n : ℕ) (P : A → Type 0) → IsSomeAnd (slice_get xs n) P
    → n < length xs
slice_get_some_within [] n P is = absurd is
slice_get_some_within (x ∷ xs) zero P is = omega arith
slice_get_some_within (x ∷ xs) (suc n) P is = let below : n < length xs = slice_get_some_within xs n P is in omega arith

-- an object with a part was made
pub made_field : (before : List Entry) (globals n i : ℕ) → IsSlot before globals (Field n i) → n < made before
made_field before globals n i is = slice_get_some_within (shapes before) n _ is

pub made_cell : (before : List Entry) (globals n j : ℕ) → IsSlot before globals (Cell n j) → n < made before
made_cell before globals n j is = slice_get_some_within (shapes before) n _ is

-- a slot stays one
pub IsSlot-append : (h k : List Entry) (globals : ℕ) (slot : Slot) → IsSlot h globals slot
    → IsSlot (h ++ k) globals slot
IsSlot-append h k globals (Field n i) is =
    subst (λ (z : Option Shape). IsSomeAnd z (λ y. i < y.refs)) (sym (shape-append h k n (made_field h globals n i is)))
    is
IsSlot-append h k globals (Cell n j) is =
    subst (λ (z : Option Shape). IsSomeAnd z (λ y. j < y.nums)) (sym (shape-append h k n (made_cell h globals n j is)))
    is
IsSlot-append h k globals (Global g) is = is

-- a write that may follow is not to a slot that there is not
write_elsewhere : (before : List Entry) (globals : ℕ) (slot : Slot) (write : Option (Slot × Value))
    → IfSome write (λ w. IsSlot before globals w.0) → (IsSlot before globals slot → ⊥)
    → after_write slot write (first_value slot) ≡ first_value slot
write_elsewhere before globals slot None slots none = refl
write_elsewhere before globals slot (Some w) slots none =
    cond_both (slot_eq w.0 slot) w.1 (first_value slot) (λ v. v ≡ first_value slot)
    (λ e. absurd (none (subst (IsSlot before globals) (same_slot w.0 slot e) slots)))
    (λ e. refl)

-- In a legal history nothing was written to a slot that there is not.
pub last_no_slot : (h : List Entry) (globals : ℕ) (slot : Slot) → Legal h globals → (IsSlot h globals slot → ⊥)
    → last h slot ≡ first_value slot
last_no_slot h globals slot legal =
    Legal-induction h globals (λ k. (IsSlot k globals slot → ⊥) → last k slot ≡ first_value slot) legal (λ none. refl)
    (λ before e follows holds none.
    let earlier : IsSlot before globals slot → ⊥ = λ is. none (IsSlot-append before (e ∷ []) globals slot is) in
    last-push before e slot ∙ (ap (after_write slot (write_of e.act)) (holds earlier)
    ∙ write_elsewhere before globals slot (write_of e.act) follows.write_slot earlier))

-- nothing was written to an object that was not made
pub last_unmade : (h : List Entry) (globals n i : ℕ) → Legal h globals → made h ≤ n → last h (Field n i) ≡ Nil
last_unmade h globals n i legal above =
    last_no_slot h globals (Field n i) legal (λ is. let below : n < made h = made_field h globals n i is in omega arith)

pub last_unmade_cell : (h : List Entry) (globals n j : ℕ) → Legal h globals → made h ≤ n → last h (Cell n j) ≡ Num 0
last_unmade_cell h globals n j legal above =
    last_no_slot h globals (Cell n j) legal (λ is. let below : n < made h = made_cell h globals n j is in omega arith)

-- nor to a reference slot past those of an object
pub last_no_field : (h : List Entry) (globals n i : ℕ) (z : Shape) → Legal h globals → shape h n ≡ Some z → z.refs ≤ i
    → last h (Field n i) ≡ Nil
last_no_field h globals n i z legal is above =
    last_no_slot h globals (Field n i) legal (λ has. let below : i
    < z.refs = subst (λ (y : Option Shape). IsSomeAnd y (λ x. i < x.refs)) is has in omega arith)

-- nor to a global past the last
pub last_no_global : (h : List Entry) (globals g : ℕ) → Legal h globals → globals ≤ g → last h (Global g) ≡ Nil
last_no_global h globals g legal above = last_no_slot h globals (Global g) legal (λ is. omega arith)
