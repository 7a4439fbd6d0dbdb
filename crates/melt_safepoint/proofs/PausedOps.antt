-- Which operations a call that paused can be of: it looks at the stop word, and one that found no room makes an object,
-- or loads one.
use Rattle.std.proofs.Common.{◌≡◌, ◌≢◌, ℕ, refl, sym, ◌∙◌, ap, subst}
use Rattle.std.specs.Prelude.{Option, None, Some, IfSome, IsSome}
use Rattle.melt_model.specs.declared.operations.Op.{Op}
use Rattle.melt_model.specs.declared.operations.Op.TheVariants as op
use Rattle.melt_word.specs.declared.header.Shape.{Shape}
use Rattle.melt_core.specs.declared.answer.Pause.{Pause}
use Rattle.melt_core.specs.declared.answer.Pause.TheVariants as pause
use Rattle.melt_core.specs.declared.answer.Refusal.TheVariants as refusal
use Rattle.melt_core.specs.declared.call.Access.TheVariants.{Load}
use Rattle.melt_core.specs.declared.call.Call.{Call}
use Rattle.melt_core.specs.declared.call.Place.{Place}
use Rattle.melt_core.specs.declared.call.Place.TheVariants.{Field, Global}
use Rattle.melt_core.specs.declared.call.Search.{Search}
use Rattle.melt_core.specs.declared.call.Stage.{Stage}
use Rattle.melt_core.specs.declared.call.Stage.TheVariants as stage
use Rattle.melt_core.specs.declared.call.Task.{Task}
use Rattle.melt_core.specs.declared.call.Task.TheVariants.{LoadGlobal, Make, Use}
use Rattle.melt_core.specs.Advances.{Pauses}
use Rattle.melt_core.specs.Stages.{Fits, Lacks, LoadsAt, LooksAtStop, SearchesOn, task_of}
use Rattle.melt_core.specs.Views.{View, call_of, stage_in, value}
use Rattle.melt_scion.specs.Heaps.{register_in}
use Rattle.melt_safepoint.specs.Modes.{FitsMode, mode_for}
use Rattle.melt_safepoint.specs.Needs.{CanLackRoom}

-- an operation that makes an object can lack room
make_lacks : (o : Op) (dst : ℕ) (shape : Shape) → task_of o ≡ Some (Make dst shape) → CanLackRoom o
make_lacks (op.New dst refs nums) r shape is = tt
make_lacks (op.Load dst src i) r shape is = tt
make_lacks (op.Store obj i src) r shape is = absurd (cc)
make_lacks (op.Get src j) r shape is = absurd (cc)
make_lacks (op.Put obj j v) r shape is = absurd (cc)
make_lacks (op.GLoad dst g) r shape is = tt
make_lacks (op.GStore g src) r shape is = absurd (cc)
make_lacks (op.Same a b) r shape is = absurd (cc)
make_lacks (op.Copy dst src) r shape is = absurd (cc)
make_lacks (op.Drop d) r shape is = absurd (cc)
make_lacks op.Collect r shape is = absurd (cc)

-- and one that loads
use_lacks : (o : Op) (r dst i : ℕ) → task_of o ≡ Some (Use r (Load dst i)) → CanLackRoom o
use_lacks (op.New dst refs nums) r d j is = tt
use_lacks (op.Load dst src i) r d j is = tt
use_lacks (op.Store obj i src) r d j is = absurd (cc)
use_lacks (op.Get src k) r d j is = absurd (cc)
use_lacks (op.Put obj k v) r d j is = absurd (cc)
use_lacks (op.GLoad dst g) r d j is = tt
use_lacks (op.GStore g src) r d j is = absurd (cc)
use_lacks (op.Same a b) r d j is = absurd (cc)
use_lacks (op.Copy dst src) r d j is = absurd (cc)
use_lacks (op.Drop x) r d j is = absurd (cc)
use_lacks op.Collect r d j is = absurd (cc)

global_lacks : (o : Op) (dst g : ℕ) → task_of o ≡ Some (LoadGlobal dst g) → CanLackRoom o
global_lacks (op.New dst refs nums) d j is = tt
global_lacks (op.Load dst src i) d j is = tt
global_lacks (op.Store obj i src) d j is = absurd (cc)
global_lacks (op.Get src k) d j is = absurd (cc)
global_lacks (op.Put obj k v) d j is = absurd (cc)
global_lacks (op.GLoad dst g) d j is = tt
global_lacks (op.GStore g src) d j is = absurd (cc)
global_lacks (op.Same a b) d j is = absurd (cc)
global_lacks (op.Copy dst src) d j is = absurd (cc)
global_lacks (op.Drop x) d j is = absurd (cc)
global_lacks op.Collect d j is = absurd (cc)

loads_lacks : (register : ℕ → ℕ) (o : Op) (place : Place) (dst : ℕ) → LoadsAt register o place dst → CanLackRoom o
loads_lacks register o (Field object i) dst loads = use_lacks o loads.0 dst i loads.1
loads_lacks register o (Global g) dst loads = global_lacks o dst g loads

-- a call that lacks words is of such a one
space_lacks : (register : ℕ → ℕ) (o : Op) (at : Stage) (need : ℕ) → Lacks (Some at) need → Fits register o at
    → CanLackRoom o
space_lacks register o (stage.Polled task) need lacks fits = absurd lacks
space_lacks register o (stage.Headed address shape access) need lacks fits = absurd lacks
space_lacks register o (stage.Looked place found target dst) need lacks fits = absurd lacks
space_lacks register o (stage.Cleared place found target dst) need lacks fits = absurd lacks
space_lacks register o (stage.Claimed address shape stored dst) need lacks fits = absurd lacks
space_lacks register o (stage.Lacking words) need lacks fits = make_lacks o fits.0 fits.1 fits.2
space_lacks register o (stage.Searching search) need lacks fits = absurd lacks
space_lacks register o (stage.Missed search) need lacks fits = absurd lacks
space_lacks register o (stage.HeadRead search shape) need lacks fits = absurd lacks
space_lacks register o (stage.BodyRead search shape) need lacks fits = absurd lacks
space_lacks register o (stage.Copying a stored) need lacks fits = absurd lacks
space_lacks register o (stage.Copied a) need lacks fits = absurd lacks
space_lacks register o (stage.Retrying a) need lacks fits = absurd lacks
space_lacks register o (stage.LackingCopy search shape) need lacks fits =
    loads_lacks register o search.place search.dst fits

-- and so is one that searches
search_lacks : (register : ℕ → ℕ) (o : Op) (at : Stage) (search : Search) → SearchesOn (Some at) search
    → Fits register o at → CanLackRoom o
search_lacks register o (stage.Polled task) search on fits = absurd on
search_lacks register o (stage.Headed address shape access) search on fits = absurd on
search_lacks register o (stage.Looked place found target dst) search on fits = absurd on
search_lacks register o (stage.Cleared place found target dst) search on fits = absurd on
search_lacks register o (stage.Claimed address shape stored dst) search on fits = absurd on
search_lacks register o (stage.Lacking words) search on fits = absurd on
search_lacks register o (stage.Searching of) search on fits = loads_lacks register o of.place of.dst fits
search_lacks register o (stage.Missed of) search on fits = absurd on
search_lacks register o (stage.HeadRead of shape) search on fits = absurd on
search_lacks register o (stage.BodyRead of shape) search on fits = absurd on
search_lacks register o (stage.Copying a stored) search on fits = absurd on
search_lacks register o (stage.Copied a) search on fits = absurd on
search_lacks register o (stage.Retrying a) search on fits = loads_lacks register o a.search.place a.search.dst fits
search_lacks register o (stage.LackingCopy of shape) search on fits = absurd on

-- the call in flight, if there is one, is of the operation and fits it
abbrev IsOf : (ℕ → ℕ) → Op → Option Call → Type 0
IsOf register o None = Unit {0}
IsOf register o (Some c) = Fits register o c.stage

space_by : (register : ℕ → ℕ) (o : Op) (call : Option Call) (need : ℕ) → IsOf register o call
    → Lacks (stage_in call) need → CanLackRoom o
space_by register o None need of lacks = absurd lacks
space_by register o (Some c) need of lacks = space_lacks register o c.stage need lacks of

search_by : (register : ℕ → ℕ) (o : Op) (call : Option Call) (search : Search) → IsOf register o call
    → SearchesOn (stage_in call) search → CanLackRoom o
search_by register o None search of on = absurd on
search_by register o (Some c) search of on = search_lacks register o c.stage search on of

is_of : (register : ℕ → ℕ) (o : Op) (call : Option Call)
    → ((c : Call) → call ≡ Some c → Fits register c.op c.stage × (c.op ≡ o)) → IsOf register o call
is_of register o None fits = tt
is_of register o (Some c) fits =
    let it = fits c refl in
    subst (λ (p : Op). Fits register p c.stage) it.1 it.0

-- what a call that paused says of its operation
pub paused_fits : (v w : View) (t : ℕ) (o : Op) (cause : Pause) → o ≢ op.Collect
    → ((c : Call) → call_of v t ≡ Some c → Fits (register_in v.held t) c.op c.stage × (c.op ≡ o))
    → Pauses v w t o cause → FitsMode (mode_for (refusal.Pause cause)) (Some o)
paused_fits v w t o pause.Asked other fits pauses = (
  refl,
  λ is. other (let same : Some o ≡ Some op.Collect = is in cc),
)
paused_fits v w t o (pause.Space need) other fits pauses = (
  refl,
  λ is. other (let same : Some o ≡ Some op.Collect = is in cc),
  space_by (register_in v.held t) o (call_of v t) need (is_of (register_in v.held t) o (call_of v t) fits) pauses.lacks,
)
paused_fits v w t o pause.Forward other fits pauses = (
  refl,
  λ is. other (let same : Some o ≡ Some op.Collect = is in cc),
  search_by (register_in v.held t) o (call_of v t) pauses.search (is_of (register_in v.held t) o (call_of v t) fits)
      pauses.searches,
)

-- whatever the cause, it looked at the stop word
pub paused_looks : (v w : View) (t : ℕ) (o : Op) (cause : Pause) → Pauses v w t o cause → LooksAtStop (value v t) o
paused_looks v w t o pause.Asked pauses = pauses.looks
paused_looks v w t o (pause.Space need) pauses = pauses.looks
paused_looks v w t o pause.Forward pauses = pauses.looks
