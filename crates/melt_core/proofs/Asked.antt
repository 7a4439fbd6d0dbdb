-- What an event may use of what stands: its call, what that knows, and what its registers hold.
use Rattle.std.proofs.Common.{◌≡◌, ℕ, zero, suc, ◌+◌, ◌<◌, inl, inr, List, []}
use Rattle.std.proofs.Common.{◌∷◌, length, get_or, refl, sym, ◌∙◌, ap, subst, arith}
use Rattle.std.proofs.Math.ListN.{set}
use Rattle.std.proofs.lemmas.Bool.{cases_lt}
use Rattle.std.specs.Prelude.{Bool, true, false, ◌==◌, Option, None, Some, if◌then◌else◌}
use Rattle.melt_model.specs.declared.operations.Op.{Op}
use Rattle.melt_word.specs.Words.{cost_of}
use Rattle.melt_word.specs.declared.reference.Ref.TheVariants.{Disk}
use Rattle.melt_scion.specs.State.{State}
use Rattle.melt_scion.specs.Placed.{Maps}
use Rattle.melt_scion.specs.Heaps.{OnDisk, register_in}
use Rattle.melt_core.specs.declared.call.Access.TheVariants.{Load, Store, Get, Put}
use Rattle.melt_core.specs.declared.call.Task.TheVariants.{Make, Use, LoadGlobal, StoreGlobal}
use Rattle.melt_core.specs.declared.call.Stage.{Stage}
use Rattle.melt_core.specs.declared.call.Stage.TheVariants.{Polled, Headed, Looked, Cleared, Claimed, Lacking}
use Rattle.melt_core.specs.declared.call.Stage.TheVariants.{Searching, Missed, HeadRead, BodyRead, Copying, Copied}
use Rattle.melt_core.specs.declared.call.Stage.TheVariants.{Retrying, LackingCopy}
use Rattle.melt_core.specs.declared.call.Call.{Call}
use Rattle.melt_core.specs.Known.{Known}
use Rattle.melt_record.specs.declared.head.Kind.{Kind}
use Rattle.melt_record.specs.declared.head.Kind.TheVariants.{Body, Stub}
use Rattle.melt_word.specs.declared.header.Shape.{Shape}
use Rattle.melt_core.specs.declared.call.Place.{Place}
use Rattle.melt_core.specs.declared.call.Place.TheVariants.{Field, Global}
use Rattle.melt_core.specs.declared.call.Search.{Search}
use Rattle.melt_core.specs.Stages.{Fits, LoadsAt, FindsTag, Probes, ReadAs, Next, Nothing, change_of, cleared_by}
use Rattle.melt_core.specs.Stages.{further, retried, reached}
use Rattle.melt_core.specs.Advances.{Asks, Continues, MayMakeEvent}
use Rattle.melt_core.specs.Views.{View, Standing, maps, state, call_of, stage_in, stage_of, rest_of}

-- the call at a stage is of the operation
at_stage : (c : Option Call) (o : Op) (stage : Stage) → Continues c o → stage_in c ≡ Some stage
    → c ≡ Some (record { op = o; stage = stage })
at_stage None o stage continued is = absurd (cc)
at_stage (Some c) o stage continued is =
    let same : c.stage ≡ stage = cc in ap (λ (p : Op). Some (record { op = p; stage = c.stage })) (sym continued)
    ∙ ap (λ (g : Stage). Some (record { op = o; stage = g })) same

pub call_at : (disk : OnDisk) (v : View) (t : ℕ) (o : Op) (stage : Stage) → Asks disk v t o → stage_of v t ≡ Some stage
    → call_of v t ≡ Some (record { op = o; stage = stage })
call_at disk v t o stage asks is = at_stage (call_of v t) o stage asks.continued is

pub inside : (disk : OnDisk) (v : View) (t : ℕ) (o : Op) → Asks disk v t o → t < length v.calls
inside disk v t o asks = let each : length v.calls ≡ length v.held = asks.stands.each in let within : t < length
    v.held =
    asks.thread in omega arith

pub known_at : (disk : OnDisk) (v : View) (t : ℕ) (o : Op) (stage : Stage) → Asks disk v t o → stage_of v t ≡ Some stage
    → Known false (maps v) (state disk v) (rest_of v t) stage
known_at disk v t o stage asks is = asks.stands.known t (record { op = o; stage = stage })
    (call_at disk v t o stage asks is)

-- told or not
pub known_so : (told : Bool) (disk : OnDisk) (v : View) (t : ℕ) (o : Op) (stage : Stage) → Asks disk v t o
    → stage_of v t ≡ Some stage → Standing told disk v → Known told (maps v) (state disk v) (rest_of v t) stage
known_so told disk v t o stage asks is s =
    s.known t (record { op = o; stage = stage }) (call_at disk v t o stage asks is)

pub fits_at : (disk : OnDisk) (v : View) (t : ℕ) (o : Op) (stage : Stage) → Asks disk v t o → stage_of v t ≡ Some stage
    → Fits (register_in v.held t) o stage
fits_at disk v t o stage asks is = asks.stands.fits t (record { op = o; stage = stage })
    (call_at disk v t o stage asks is)

-- a call that is over already
pub set_none : (calls : List (Option Call)) (t : ℕ) → get_or calls t None ≡ None → calls ≡ set calls t None
set_none [] t none = refl
set_none (c ∷ calls) zero none = ap (λ (x : Option Call). x ∷ calls) none
set_none (c ∷ calls) (suc t) none = ap (λ (cs : List (Option Call)). c ∷ cs) (set_none calls t none)

-- a load that found a word with a tag fits its operation
finds_fits : (register : ℕ → ℕ) (o : Op) (word : ℕ) (place : Place) (dst : ℕ) (next : Stage)
    → LoadsAt register o place dst → FindsTag word place dst next → Fits register o next
finds_fits register o word place dst next loads (inl stale) = subst (Fits register o) (sym stale.2) loads
finds_fits register o word place dst next loads (inr home) = subst (Fits register o) (sym home.2) loads

-- after a forwarding word the stages at which it may leave a call are so, and so is the next
probes_fits : (P : Stage → Type 0) (s : State) (search : Search) (empty another next : Stage)
    → ((address : ℕ) → P (reached search address)) → P empty → P another → Probes s search empty another next → P next
probes_fits P s search empty another next at_found at_empty at_another is = elim is.1 [
  | inl here ↦ subst P (sym here.2) (at_found here.0)
  | inr other ↦ elim other [
    | inl none ↦ subst P (sym none.1) at_empty
    | inr sent ↦ subst P (sym sent.1) at_another
  ]
]

body_fits : (register : ℕ → ℕ) (o : Op) (search : Search) (shape : Shape) (whole : Bool)
    → LoadsAt register o search.place search.dst
    → Fits register o (if whole then BodyRead search shape else HeadRead search shape)
body_fits register o search shape true loads = loads
body_fits register o search shape false loads = loads

-- and after a head
read_fits : (P : Stage → Type 0) (s : State) (search : Search) (shape : Shape) (kind : Kind) (next : Stage)
    → ((whole : Bool) → P (if whole then BodyRead search shape else HeadRead search shape))
    → ((target : ℕ) → P (Looked search.place (Disk search.home) target search.dst)) → ReadAs s search shape kind next
    → P next
read_fits P s search shape Body next at_body at_stub is =
    subst P (sym is) (at_body (shape.refs + shape.nums == 0))
read_fits P s search shape (Stub scion) next at_body at_stub is = subst P (sym is.2) (at_stub is.0)

-- after an event that goes on the call is one of its operation
pub next_fits : (maps : Maps) (s : State) (register : ℕ → ℕ) (stop : Bool) (o : Op) {c : Option Call} (next : Stage)
    → Continues c o → ((d : Call) → c ≡ Some d → Fits register d.op d.stage)
    → Next maps s register stop o (stage_in c) next → Fits register o next
next_fits maps s register stop o {c = None} next continued fits is = subst (Fits register o) (sym is.3) is.1
next_fits maps s register stop o {c = Some c} next continued fits is =
    next_fits_at maps s register stop o c.stage next
    (subst (λ (p : Op). Fits register p c.stage) (sym continued) (fits c refl)) is
  where
    next_fits_at : (maps : Maps) (s : State) (register : ℕ → ℕ) (stop : Bool) (o : Op) (stage next : Stage)
        → Fits register o stage → Next maps s register stop o (Some stage) next → Fits register o next
    next_fits_at maps s register stop o (Polled (Make dst shape)) next fits is =
        elim (cases_lt (s.base.size + 1) (s.free + cost_of shape)) [
          | inl above ↦ subst (Fits register o) (sym (is.1 above)) (dst, shape, fits.0, refl)
          | inr below ↦ subst (Fits register o) (sym (is.0 below)) fits.0
        ]
    next_fits_at maps s register stop o (Polled (Use r access)) next fits is =
        subst (Fits register o) (sym is.3) (r, fits.0, refl, is.2)
    next_fits_at maps s register stop o (Polled (LoadGlobal dst g)) next fits is =
        finds_fits register o (s.global g) (Global g) dst next fits.0 is
    next_fits_at maps s register stop o (Polled (StoreGlobal g src)) next fits is = absurd is
    next_fits_at maps s register stop o (Headed address shape (Load dst i)) next fits is =
        finds_fits register o (s.word (address + 2 + i)) (Field address i) dst next (fits.0, fits.1, fits.2) is
    next_fits_at maps s register stop o (Headed address shape (Store i src)) next fits is = absurd is
    next_fits_at maps s register stop o (Headed address shape (Get j)) next fits is = absurd is
    next_fits_at maps s register stop o (Headed address shape (Put j v)) next fits is = absurd is
    next_fits_at maps s register stop o (Looked place found target dst) next fits is =
        subst (Fits register o) (sym is) fits
    next_fits_at maps s register stop o (Cleared place found target dst) next fits is = absurd is
    next_fits_at maps s register stop o (Claimed address shape stored dst) next fits is =
        subst (Fits register o) (sym is.1) fits
    next_fits_at maps s register stop o (Lacking need) next fits is = absurd is
    next_fits_at maps s register stop o (Searching search) next fits is =
        probes_fits (Fits register o) s search (Missed search) (Searching (further search)) next (λ address. fits) fits
        fits is
    next_fits_at maps s register stop o (Missed search) next fits is =
        read_fits (Fits register o) s search is.0 is.1 next
        (λ whole. body_fits register o search is.0 whole fits) (λ target. fits) is.2
    next_fits_at maps s register stop o (HeadRead search shape) next fits is = subst (Fits register o) (sym is) fits
    next_fits_at maps s register stop o (BodyRead search shape) next fits is =
        elim (cases_lt (s.base.size + 1) (s.free + cost_of shape)) [
          | inl above ↦ subst (Fits register o) (sym (is.1 above)) fits
          | inr below ↦ subst (Fits register o) (sym (is.0 below)) fits
        ]
    next_fits_at maps s register stop o (Copying a stored) next fits is =
        elim (cases_lt (stored + 1) (cost_of a.shape)) [
          | inl more ↦ subst (Fits register o) (sym (is.0 more)) fits
          | inr all ↦ subst (Fits register o) (sym (is.1 all)) fits
        ]
    next_fits_at maps s register stop o (Copied a) next fits is =
        probes_fits (Fits register o) s a.search (reached a.search a.address) (Retrying (retried a)) next
        (λ address. fits) fits fits is
    next_fits_at maps s register stop o (Retrying a) next fits is =
        probes_fits (Fits register o) s a.search (Copied a) (Retrying (retried a)) next (λ address. fits) fits fits is
    next_fits_at maps s register stop o (LackingCopy search shape) next fits is = absurd is

-- an event that clears a stale bit changes a word
pub still_clears : (s : State) (register : ℕ → ℕ) (rest : List ℕ) (stage : Option Stage)
    → change_of s register rest stage ≡ Nothing
    → cleared_by stage ≡ 0
still_clears s register rest None still = refl
still_clears s register rest (Some (Polled task)) still = refl
still_clears s register rest (Some (Headed address shape access)) still = refl
still_clears s register rest (Some (Looked place found target dst)) still = absurd (cc)
still_clears s register rest (Some (Cleared place found target dst)) still = refl
still_clears s register rest (Some (Claimed address shape stored dst)) still = refl
still_clears s register rest (Some (Lacking need)) still = refl
still_clears s register rest (Some (Searching search)) still = refl
still_clears s register rest (Some (Missed search)) still = refl
still_clears s register rest (Some (HeadRead search shape)) still = refl
still_clears s register rest (Some (BodyRead search shape)) still = refl
still_clears s register rest (Some (Copying a stored)) still = refl
still_clears s register rest (Some (Copied a)) still = refl
still_clears s register rest (Some (Retrying a)) still = refl
still_clears s register rest (Some (LackingCopy search shape)) still = refl

-- what an event asks over some disk, it asks over each over which the words are well formed
pub asks_over : (v : View) (t : ℕ) (o : Op) → MayMakeEvent v t o → (disk : OnDisk) → Standing false disk v
    → Asks disk v t o
asks_over v t o may disk stands = record {
  stands = stands;
  thread = may.asks.thread;
  bounds = may.asks.bounds;
  no_collect = may.asks.no_collect;
  continued = may.asks.continued;
  room = may.asks.room;
  few = may.asks.few;
}
