-- Which operations look at the stop word, by what their calls have to do.
use Rattle.std.proofs.Common.{◌≡◌, ◌≢◌, ℕ, refl, sym, ◌∙◌, subst}
use Rattle.std.specs.Prelude.{Option, Some}
use Rattle.melt_model.specs.declared.history.Value.{Value}
use Rattle.melt_model.specs.declared.history.Value.TheVariants.{Nil, Ref}
use Rattle.melt_model.specs.declared.operations.Op.{Op}
use Rattle.melt_model.specs.declared.operations.Op.TheVariants as op
use Rattle.melt_scion.specs.Heaps.{OnDisk, register_in}
use Rattle.melt_core.specs.declared.call.Access.TheVariants.{Load, Store, Get, Put}
use Rattle.melt_core.specs.declared.call.Place.{Place}
use Rattle.melt_core.specs.declared.call.Place.TheVariants.{Field, Global}
use Rattle.melt_core.specs.declared.call.Search.{Search}
use Rattle.melt_core.specs.declared.call.Stage.{Stage}
use Rattle.melt_core.specs.declared.call.Stage.TheVariants as stage
use Rattle.melt_core.specs.declared.call.Task.{Task}
use Rattle.melt_core.specs.declared.call.Task.TheVariants.{LoadGlobal, Make, Use}
use Rattle.melt_core.specs.Advances.{Asks}
use Rattle.melt_core.specs.Known.{IsPlace}
use Rattle.melt_core.specs.Stages.{Lacks, LoadsAt, LooksAtStop, SearchesOn, task_of}
use Rattle.melt_core.specs.Views.{View, maps, stage_of, state, value}
use Rattle.melt_core.proofs.Asked.{fits_at, known_at}
use Rattle.melt_core.proofs.Objects.{value_named}

-- the register that a task uses stands for something
abbrev UsesSome : (ℕ → Value) → Task → Type 0
UsesSome holds (Use r access) = holds r ≢ Nil
UsesSome holds task = Unit {0}

-- an operation with a task looks at the stop word, where there is something to use
task_looks : (holds : ℕ → Value) (o : Op) (task : Task) → task_of o ≡ Some task → UsesSome holds task
    → LooksAtStop holds o
task_looks holds (op.New dst refs nums) task is some = tt
task_looks holds (op.Load dst src i) task is some =
    subst (UsesSome holds) (let same : task ≡ Use src (Load dst i) = cc in same) some
task_looks holds (op.Store obj i src) task is some =
    subst (UsesSome holds) (let same : task ≡ Use obj (Store i src) = cc in same) some
task_looks holds (op.Get src j) task is some =
    subst (UsesSome holds) (let same : task ≡ Use src (Get j) = cc in same) some
task_looks holds (op.Put obj j v) task is some =
    subst (UsesSome holds) (let same : task ≡ Use obj (Put j v) = cc in same) some
task_looks holds (op.GLoad dst g) task is some = tt
task_looks holds (op.GStore g src) task is some = tt
task_looks holds (op.Same a b) task is some = absurd (cc)
task_looks holds (op.Copy dst src) task is some = absurd (cc)
task_looks holds (op.Drop r) task is some = absurd (cc)
task_looks holds op.Collect task is some = absurd (cc)

-- a register that holds the address of an object stands for it
stands_for_some : (v : View) (t r address n : ℕ) → register_in v.held t r ≡ address
    → (maps v).address address ≡ Some n → value v t r ≢ Nil
stands_for_some v t r address n holds named nothing =
    let wrong : Ref n ≡ Nil = sym (value_named v t r address n holds named) ∙ nothing in absurd (cc)

-- and so does one that loads
loads_looks : (disk : OnDisk) (v : View) (t : ℕ) (o : Op) (place : Place) (dst : ℕ)
    → IsPlace (maps v) (state disk v) place → LoadsAt (register_in v.held t) o place dst → LooksAtStop (value v t) o
loads_looks disk v t o (Field object i) dst there loads =
    task_looks (value v t) o (Use loads.0 (Load dst i)) loads.1
    (stands_for_some v t loads.0 object there.1.number loads.2 there.1.named)
loads_looks disk v t o (Global g) dst there loads = task_looks (value v t) o (LoadGlobal dst g) loads tt

-- a call that lacks words looked at it
lacks_look : (disk : OnDisk) (v : View) (t : ℕ) (o : Op) (at : Option Stage) (need : ℕ) → Asks disk v t o
    → stage_of v t ≡ at → Lacks at need → LooksAtStop (value v t) o
lacks_look disk v t o (Some (stage.Lacking words)) need asks is lacks =
    let fits = fits_at disk v t o (stage.Lacking words) asks is in
    task_looks (value v t) o (Make fits.0 fits.1) fits.2 tt
lacks_look disk v t o (Some (stage.LackingCopy search shape)) need asks is lacks =
    let at = stage.LackingCopy search shape in
    loads_looks disk v t o search.place search.dst (known_at disk v t o at asks is).1.searches.looked.at
    (fits_at disk v t o at asks is)
lacks_look disk v t o at need asks is lacks = absurd lacks

pub lacking_looks : (disk : OnDisk) (v : View) (t : ℕ) (o : Op) (need : ℕ) → Asks disk v t o → Lacks (stage_of v t) need
    → LooksAtStop (value v t) o
lacking_looks disk v t o need asks lacks = lacks_look disk v t o (stage_of v t) need asks refl lacks

-- and so did one that searches for a home
search_looks : (disk : OnDisk) (v : View) (t : ℕ) (o : Op) (at : Option Stage) (search : Search) → Asks disk v t o
    → stage_of v t ≡ at → SearchesOn at search → LooksAtStop (value v t) o
search_looks disk v t o (Some (stage.Searching s)) search asks is on =
    loads_looks disk v t o s.place s.dst (known_at disk v t o (stage.Searching s) asks is).looked.at
    (fits_at disk v t o (stage.Searching s) asks is)
search_looks disk v t o (Some (stage.Retrying a)) search asks is on =
    loads_looks disk v t o a.search.place a.search.dst
    (known_at disk v t o (stage.Retrying a) asks is).searches.looked.at (fits_at disk v t o (stage.Retrying a) asks is)
search_looks disk v t o at search asks is on = absurd on

pub searching_looks : (disk : OnDisk) (v : View) (t : ℕ) (o : Op) (search : Search) → Asks disk v t o
    → SearchesOn (stage_of v t) search → LooksAtStop (value v t) o
searching_looks disk v t o search asks on = search_looks disk v t o (stage_of v t) search asks refl on
