-- Which operation has a task.
use Rattle.std.proofs.Common.{◌≡◌, ◌∙◌, ℕ, ap, subst}
use Rattle.std.specs.Prelude.{Option, None, Some}
use Rattle.melt_model.specs.declared.operations.Op.{Op}
use Rattle.melt_model.specs.declared.operations.Op.TheVariants as op
use Rattle.melt_word.specs.declared.header.Shape.{Shape}
use Rattle.melt_core.specs.declared.call.Access.TheVariants.{Load, Store, Get, Put}
use Rattle.melt_core.specs.declared.call.Place.{Place}
use Rattle.melt_core.specs.declared.call.Place.TheVariants.{Field, Global}
use Rattle.melt_core.specs.declared.call.Task.{Task}
use Rattle.melt_core.specs.declared.call.Task.TheVariants.{Make, Use, LoadGlobal, StoreGlobal}
use Rattle.melt_core.specs.Stages.{task_of, LoadsAt}

-- the shape of an object that is made
shape_made_by : Option Task → Shape → Shape
shape_made_by (Some (Make dst shape)) other = shape
shape_made_by task other = other

pub new_is : (o : Op) (dst : ℕ) (shape : Shape) → task_of o ≡ Some (Make dst shape)
    → o ≡ op.New dst shape.refs shape.nums
unfolding shape_made_by
new_is (op.New dst refs nums) d shape is =
    let made : Shape = record { refs = refs; nums = nums } in
    let same : made ≡ shape = ap (λ (x : Option Task). shape_made_by x made) is in
    let into : dst ≡ d = cc in
    ap (λ (x : ℕ). op.New x refs nums) into ∙ ap (λ (z : Shape). op.New d z.refs z.nums) same
new_is (op.Load dst src i) d shape is = absurd (cc)
new_is (op.Store obj i src) d shape is = absurd (cc)
new_is (op.Get src j) d shape is = absurd (cc)
new_is (op.Put obj j v) d shape is = absurd (cc)
new_is (op.GLoad dst g) d shape is = absurd (cc)
new_is (op.GStore g src) d shape is = absurd (cc)
new_is o d shape is = absurd (cc)

pub load_is : (o : Op) (r dst i : ℕ) → task_of o ≡ Some (Use r (Load dst i)) → o ≡ op.Load dst r i
load_is (op.New dst refs nums) r d k is = absurd (cc)
load_is (op.Load dst src i) r d k is = cc
load_is (op.Store obj i src) r d k is = absurd (cc)
load_is (op.Get src j) r d k is = absurd (cc)
load_is (op.Put obj j v) r d k is = absurd (cc)
load_is (op.GLoad dst g) r d k is = absurd (cc)
load_is (op.GStore g src) r d k is = absurd (cc)
load_is o r d k is = absurd (cc)

pub store_is : (o : Op) (r i src : ℕ) → task_of o ≡ Some (Use r (Store i src)) → o ≡ op.Store r i src
store_is (op.New dst refs nums) r i s is = absurd (cc)
store_is (op.Load dst src i) r k s is = absurd (cc)
store_is (op.Store obj i src) r k s is = cc
store_is (op.Get src j) r i s is = absurd (cc)
store_is (op.Put obj j v) r i s is = absurd (cc)
store_is (op.GLoad dst g) r i s is = absurd (cc)
store_is (op.GStore g src) r i s is = absurd (cc)
store_is o r i s is = absurd (cc)

pub get_is : (o : Op) (r j : ℕ) → task_of o ≡ Some (Use r (Get j)) → o ≡ op.Get r j
get_is (op.New dst refs nums) r j is = absurd (cc)
get_is (op.Load dst src i) r j is = absurd (cc)
get_is (op.Store obj i src) r j is = absurd (cc)
get_is (op.Get src k) r j is = cc
get_is (op.Put obj k v) r j is = absurd (cc)
get_is (op.GLoad dst g) r j is = absurd (cc)
get_is (op.GStore g src) r j is = absurd (cc)
get_is o r j is = absurd (cc)

pub put_is : (o : Op) (r j v : ℕ) → task_of o ≡ Some (Use r (Put j v)) → o ≡ op.Put r j v
put_is (op.New dst refs nums) r j v is = absurd (cc)
put_is (op.Load dst src i) r j v is = absurd (cc)
put_is (op.Store obj i src) r j v is = absurd (cc)
put_is (op.Get src k) r j v is = absurd (cc)
put_is (op.Put obj k x) r j v is = cc
put_is (op.GLoad dst g) r j v is = absurd (cc)
put_is (op.GStore g src) r j v is = absurd (cc)
put_is o r j v is = absurd (cc)

pub gload_is : (o : Op) (dst g : ℕ) → task_of o ≡ Some (LoadGlobal dst g) → o ≡ op.GLoad dst g
gload_is (op.New dst refs nums) d k is = absurd (cc)
gload_is (op.Load dst src i) d k is = absurd (cc)
gload_is (op.Store obj i src) d k is = absurd (cc)
gload_is (op.Get src j) d k is = absurd (cc)
gload_is (op.Put obj j v) d k is = absurd (cc)
gload_is (op.GLoad dst g) d k is = cc
gload_is (op.GStore g src) d k is = absurd (cc)
gload_is o d k is = absurd (cc)

pub gstore_is : (o : Op) (g src : ℕ) → task_of o ≡ Some (StoreGlobal g src) → o ≡ op.GStore g src
gstore_is (op.New dst refs nums) k s is = absurd (cc)
gstore_is (op.Load dst src i) k s is = absurd (cc)
gstore_is (op.Store obj i src) k s is = absurd (cc)
gstore_is (op.Get src j) k s is = absurd (cc)
gstore_is (op.Put obj j v) k s is = absurd (cc)
gstore_is (op.GLoad dst g) k s is = absurd (cc)
gstore_is (op.GStore g src) k s is = cc
gstore_is o k s is = absurd (cc)

-- a task that loads no reference
abbrev pub LoadsNothing : Option Task → Type 0
LoadsNothing None = Unit {0}
LoadsNothing (Some (Make dst shape)) = Unit {0}
LoadsNothing (Some (Use r (Load dst i))) = ⊥
LoadsNothing (Some (Use r access)) = Unit {0}
LoadsNothing (Some (LoadGlobal dst g)) = ⊥
LoadsNothing (Some (StoreGlobal g src)) = Unit {0}

pub no_load : (register : ℕ → ℕ) (o : Op) (place : Place) (dst : ℕ) → LoadsNothing (task_of o)
    → LoadsAt register o place dst → ⊥
no_load register o (Field object i) dst none loads = subst LoadsNothing loads.1 none
no_load register o (Global g) dst none loads = subst LoadsNothing loads none
