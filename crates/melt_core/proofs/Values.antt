-- What the registers of threads hold, and the names of addresses.
use Rattle.std.proofs.Common.{◌≡◌, ℕ, ◌<◌, zero, suc, List, [], ◌∷◌}
use Rattle.std.proofs.Common.{length, get_or, refl, sym, ◌∙◌, ap, subst, inl, inr}
use Rattle.std.proofs.Math.ListN.{set, get_or-map, length-map}
use Rattle.std.proofs.lemmas.List.{map-set, ext_get_or}
use Rattle.std.specs.Prelude.{Option, None, Some, unwrap_or, replicate}
use Rattle.std.specs.Option.{option_map}
use Rattle.melt_model.specs.History.{made}
use Rattle.melt_model.specs.Thread.{value_in}
use Rattle.melt_model.specs.declared.history.Value.{Value}
use Rattle.melt_model.specs.declared.history.Value.TheVariants.{Nil, Ref}
use Rattle.melt_model.specs.declared.history.Entry.{Entry}
use Rattle.melt_scion.specs.State.{State}
use Rattle.melt_scion.specs.Placed.{Maps, MayHold, FormedWords, Tells, value_at}
use Rattle.melt_scion.specs.Names.{name_at}
use Rattle.melt_scion.specs.declared.heap.Names as heap
use Rattle.melt_scion.proofs.Entries.{was_made}
use Rattle.melt_core.specs.Views.{maps_of, numbers_of, held_value, held_values}

-- what holds of a value and of all elements holds of all elements after the value was set
pub get_or_set_keeps : {A : Type 0} (P : A → Type 0) (xs : List A) (i : ℕ) (v : A) (k : ℕ) (d : A) → P v
    → P (get_or xs k d) → P (get_or (set xs i v) k d)
get_or_set_keeps P [] i v k d new old = old
get_or_set_keeps P (x ∷ xs) zero v zero d new old = new
get_or_set_keeps P (x ∷ xs) zero v (suc k) d new old = old
get_or_set_keeps P (x ∷ xs) (suc i) v zero d new old = old
get_or_set_keeps P (x ∷ xs) (suc i) v (suc k) d new old = get_or_set_keeps P xs i v k d new old

pub get_or_replicate : {A : Type 0} (n k : ℕ) (d : A) → get_or (replicate n d) k d ≡ d
get_or_replicate zero k d = refl
get_or_replicate (suc n) zero d = refl
get_or_replicate (suc n) (suc k) d = get_or_replicate n k d

-- the value in a register
pub value_held : (names : Option heap.Names) (regs : List ℕ) (r : ℕ)
    → value_in (held_values names regs) r ≡ held_value names (get_or regs r 0)
value_held names regs r = get_or-map (held_value names) regs r 0

pub held_values-set : (names : Option heap.Names) (regs : List ℕ) (r address : ℕ)
    → held_values names (set regs r address) ≡ set (held_values names regs) r (held_value names address)
held_values-set names regs r address = map-set (held_value names) regs r address

some_stays : (o : Option Value) (v : Value) → o ≡ Some v → o ≡ Some (unwrap_or o Nil)
some_stays None v is = absurd (cc)
some_stays (Some w) v is = refl

unwrap_same : (o : Option Value) (v : Value) → o ≡ Some v → unwrap_or o Nil ≡ v
unwrap_same o v is = ap (λ (x : Option Value). unwrap_or x Nil) is

-- an address that stands for a value
pub held_is : (names : Option heap.Names) (address : ℕ) (v : Value) → value_at (maps_of names) address ≡ Some v
    → held_value names address ≡ v
held_is names address v is = unwrap_same (value_at (maps_of names) address) v is

pub named_value : (names : Option heap.Names) (address n : ℕ) → name_at (numbers_of names) address ≡ Some n
    → value_at (maps_of names) address ≡ Some (Ref n)
named_value names zero n named = absurd (cc)
named_value names (suc address) n named = ap (option_map Ref) named

-- what may stand in a register stands for a value
pub may_value : (names : Option heap.Names) (s : State) (address : ℕ) → MayHold (maps_of names) s address
    → value_at (maps_of names) address ≡ Some (held_value names address)
may_value names s address (inl nothing) =
    let at_zero : value_at (maps_of names) 0 ≡ Some (held_value names 0) = refl in
    subst (λ (a : ℕ). value_at (maps_of names) a ≡ Some (held_value names a)) (sym nothing) at_zero
may_value names s address (inr holds) =
    some_stays (value_at (maps_of names) address) (Ref holds.0.0) (named_value names address holds.0.0 holds.0.1)

-- nothing stands at address 0
pub no_name_at : (names : Option heap.Names) (n : ℕ) → name_at (numbers_of names) 0 ≡ Some n → ⊥
no_name_at names n named = cc

-- an object of the map was made
pub named_made : (h : List Entry) (maps : Maps) (s : State) (address n : ℕ) → FormedWords maps s → Tells h maps s
    → maps.address address ≡ Some n → n < made h
named_made h maps s address n formed tells named =
    let object = formed.objects address n named in
    was_made h n _ (tells.shapes address n object.0 named object.1.starts)

-- the values of registers that stand for the same
pub same_values : (old new : Option heap.Names) (regs after : List ℕ) → length after ≡ length regs
    → ((r : ℕ) → value_at (maps_of new) (get_or after r 0) ≡ Some (value_in (held_values old regs) r))
    → held_values new after ≡ held_values old regs
same_values old new regs after size each =
    ext_get_or Nil (held_values new after) (held_values old regs)
    (length-map after (held_value new) ∙ (size ∙ sym (length-map regs (held_value old))))
    (λ r below. value_held new after r ∙ held_is new (get_or after r 0) (value_in (held_values old regs) r) (each r))
