-- States over a disk on which no home was reserved.
use Rattle.std.proofs.Common.{◌≡◌, ℕ, List, [], ◌∷◌, Option, refl}
use Rattle.std.specs.Prelude.{None, Some, slice_get}
use Rattle.melt_model.specs.declared.history.Entry.{Entry}
use Rattle.melt_scion.specs.State.{Home, Scion, State}
use Rattle.melt_scion.specs.Placed.{Maps, Tells}

not_empty : (homes : List Home) (k : ℕ) (x : Home) → homes ≡ [] → slice_get homes k ≡ Some x → ⊥
not_empty [] k x none at = cc
not_empty (y ∷ homes) k x none at = cc

none_is : (o : Option Scion) → ((x : Scion) → o ≡ Some x → ⊥) → o ≡ None
none_is None none = refl
none_is (Some x) none = absurd (none x refl)

module _ (h : List Entry) (maps : Maps) (s : State) (tells : Tells h maps s) (none : s.base.homes ≡ []) where
  -- no object has a home
  pub no_homes : (home n : ℕ) → maps.home home ≡ Some n → ⊥
  no_homes home n is =
      let reserved = ((tells.taken home).0 (n, is)).reserved in
      not_empty s.base.homes reserved.index _ none reserved.is

  -- and no scion is live, since it would be that of a Stub
  pub no_scions : (k : ℕ) → s.base.scion k ≡ None
  no_scions k = none_is (s.base.scion k) (λ x live. let stub = tells.stubs k x live in no_homes x.home stub.0 stub.2)
