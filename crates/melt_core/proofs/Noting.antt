-- What an event notes by addresses, where these stand for objects.
use Rattle.std.proofs.Common.{◌≡◌, ◌≢◌, ℕ, zero, suc, refl, sym, ◌∙◌, ap, subst, inl, inr}
use Rattle.std.specs.Prelude.{Option, None, Some, IsSome, unwrap_or}
use Rattle.std.specs.Option.{option_map}
use Rattle.melt_model.specs.Thread.{found}
use Rattle.melt_model.specs.declared.history.Value.TheVariants.{Nil, Ref}
use Rattle.melt_model.specs.declared.operations.Op.{Op}
use Rattle.melt_scion.specs.Heaps.{OnDisk}
use Rattle.melt_scion.specs.Placed.{Maps, MayHold}
use Rattle.melt_scion.specs.State.{State}
use Rattle.melt_scion.specs.declared.heap.Names as heap
use Rattle.melt_core.specs.Advances.{Asks}
use Rattle.melt_core.specs.Known.{IsPlace, SlotAt}
use Rattle.melt_core.specs.Noted.{found_at, slot_named}
use Rattle.melt_core.specs.Views.{View, held_value, maps, maps_of, stage_of}
use Rattle.melt_core.specs.declared.call.Access.{Access}
use Rattle.melt_core.specs.declared.call.Place.{Place}
use Rattle.melt_core.specs.declared.call.Place.TheVariants.{Field, Global}
use Rattle.melt_core.specs.declared.call.Stage.TheVariants.{Headed}
use Rattle.melt_word.specs.declared.header.Shape.{Shape}
use Rattle.melt_core.proofs.Asked.{known_at}

-- the number that is there
unwrapped : (o : Option ℕ) (n : ℕ) → o ≡ Some n → o ≡ Some (unwrap_or o 0)
unwrapped o n is = is ∙ sym (ap (λ (x : Option ℕ). Some (unwrap_or x 0)) is)

-- the slot that a place is
pub place_slot : (m : Maps) (s : State) (place : Place) → IsPlace m s place → SlotAt m place (slot_named m place)
place_slot m s (Field object i) there =
    (unwrap_or (m.address object) 0, unwrapped (m.address object) there.1.number there.1.named, refl)
place_slot m s (Global g) there = refl

-- the object whose header a call has read has a number
pub headed_named : {disk : OnDisk} {v : View} {t : ℕ} {o : Op} {address : ℕ} {shape : Shape} {access : Access}
    → Asks disk v t o → stage_of v t ≡ Some (Headed address shape access)
    → (maps v).address address ≡ Some (unwrap_or ((maps v).address address) 0)
headed_named {disk} {v} {t} {o} {address} {shape} {access} asks at =
    let known = known_at disk v t o (Headed address shape access) asks at in
    unwrapped ((maps v).address address) known.number known.named

-- what has a name has one
pub named_some : (o : Option ℕ) → (n : ℕ) × (o ≡ Some n) → IsSome o
named_some o named = subst (λ (x : Option ℕ). IsSome x) (sym named.1) refl

-- an address in a register or a word is that of an object, or 0
pub held_named : (m : Maps) (s : State) (address : ℕ) → MayHold m s address → address ≢ 0 → IsSome (m.address address)
held_named m s address (inl none) some = absurd (some none)
held_named m s address (inr object) some = named_some (m.address address) object.0

-- a load that found it replies whether there is an object
pub found_named : (names : Option heap.Names) (address : ℕ)
    → (address ≢ 0 → IsSome ((maps_of names).address address)) → found_at address ≡ found (held_value names address)
found_named names zero named = refl
found_named names (suc k) named = some_found ((maps_of names).address (suc k)) (named (λ e. cc))
  where
    some_found : (o : Option ℕ) → IsSome o → found_at (suc k) ≡ found (unwrap_or (option_map Ref o) Nil)
    some_found None some = absurd (cc)
    some_found (Some n) some = refl
