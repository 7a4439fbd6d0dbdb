-- How far the first free place may lie past the last word, as calls come and go.
use Rattle.std.proofs.Common.{◌≡◌, ◌⊎◌, ℕ, ◌+◌, ◌*◌, ◌<◌, ◌≤◌, inl, inr}
use Rattle.std.proofs.Common.{List, [], ◌∷◌, length, refl, sym, ap, subst, arith}
use Rattle.std.proofs.lemmas.Bool.{cases_lt}
use Rattle.std.proofs.lemmas.List.Sums.{sum-map, sum_by-cons, sum_by-set, sum_by-le-sum_by}
use Rattle.std.specs.List.{sum_by}
use Rattle.std.proofs.Math.ListN.{length-set}
use Rattle.std.specs.Prelude.{Bool, true, false, map, sum, slice_set, Option, None, Some}
use Rattle.melt_model.specs.declared.operations.Op.{Op}
use Rattle.melt_scion.specs.State.{State}
use Rattle.melt_scion.specs.Heaps.{OnDisk, register_in}
use Rattle.melt_word.specs.Words.{cost_of}
use Rattle.melt_core.specs.Stages.{Next, Lacks, Probes, reached, retried}
use Rattle.melt_core.specs.declared.call.Stage.{Stage}
use Rattle.melt_core.specs.declared.call.Search.{Search}
use Rattle.melt_core.specs.declared.call.Stage.TheVariants.{Polled, Headed, Looked, Cleared, Claimed, Lacking}
use Rattle.melt_core.specs.declared.call.Stage.TheVariants.{Searching, Missed, HeadRead, BodyRead, Copying, Copied}
use Rattle.melt_core.specs.declared.call.Stage.TheVariants.{Retrying, LackingCopy}
use Rattle.melt_core.specs.declared.call.Call.{Call}
use Rattle.melt_core.specs.Views.{View, maps, state, call_in, stage_in, claims_left, Bounded}

-- how many claims past the last word these calls may still make
abbrev pub claims_in : Bool → Option Call → ℕ
claims_in stop call = claims_left stop (stage_in call)

abbrev pub claims : Bool → List (Option Call) → ℕ
claims stop calls = sum (map (claims_in stop) calls)

-- `Bounded` by its parts
abbrev pub BoundedBy : ℕ → ℕ → Bool → List (Option Call) → Type 0
BoundedBy words free stop calls = (free ≤ words + 1) ⊎ (free + 126 * claims stop calls ≤ words + 1 + 126 * length calls)

pub bounded_is : (w : View) (words free : ℕ) (stop : Bool) (calls : List (Option Call)) → length w.space.list ≡ words →
    w.free ≡ free → w.stop ≡ stop → w.calls ≡ calls → BoundedBy words free stop calls → Bounded w
bounded_is w words free stop calls same_words same_free same_stop same_calls bounded =
    subst (λ (n : ℕ). BoundedBy n w.free w.stop w.calls) (sym same_words)
    (subst (λ (n : ℕ). BoundedBy words n w.stop w.calls) (sym same_free)
    (subst (λ (b : Bool). BoundedBy words free b w.calls) (sym same_stop)
    (subst (λ (cs : List (Option Call)). BoundedBy words free stop cs) (sym same_calls) bounded)))

-- one for each thread
claims_one : (stop : Bool) (stage : Option Stage) → claims_left stop stage ≤ 1
claims_one true None = omega arith
claims_one false None = omega arith
claims_one true (Some (Looked place found target dst)) = omega arith
claims_one false (Some (Looked place found target dst)) = omega arith
claims_one true (Some (Cleared place found target dst)) = omega arith
claims_one false (Some (Cleared place found target dst)) = omega arith
claims_one true (Some (Claimed address shape stored dst)) = omega arith
claims_one false (Some (Claimed address shape stored dst)) = omega arith
claims_one true (Some (Copying a stored)) = omega arith
claims_one false (Some (Copying a stored)) = omega arith
claims_one true (Some (Copied a)) = omega arith
claims_one false (Some (Copied a)) = omega arith
claims_one true (Some (Retrying a)) = omega arith
claims_one false (Some (Retrying a)) = omega arith
claims_one stop (Some (Polled task)) = omega arith
claims_one stop (Some (Headed address shape access)) = omega arith
claims_one stop (Some (Lacking need)) = omega arith
claims_one stop (Some (Searching search)) = omega arith
claims_one stop (Some (Missed search)) = omega arith
claims_one stop (Some (HeadRead search shape)) = omega arith
claims_one stop (Some (BodyRead search shape)) = omega arith
claims_one stop (Some (LackingCopy search shape)) = omega arith

-- none more where the stop word is set
claims_true : (stop : Bool) (stage : Option Stage) → claims_left true stage ≤ claims_left stop stage
claims_true true stage = omega arith
claims_true false None = omega arith
claims_true false (Some (Polled task)) = omega arith
claims_true false (Some (Headed address shape access)) = omega arith
claims_true false (Some (Looked place found target dst)) = omega arith
claims_true false (Some (Cleared place found target dst)) = omega arith
claims_true false (Some (Claimed address shape stored dst)) = omega arith
claims_true false (Some (Lacking need)) = omega arith
claims_true false (Some (Searching search)) = omega arith
claims_true false (Some (Missed search)) = omega arith
claims_true false (Some (HeadRead search shape)) = omega arith
claims_true false (Some (BodyRead search shape)) = omega arith
claims_true false (Some (Copying a stored)) = omega arith
claims_true false (Some (Copied a)) = omega arith
claims_true false (Some (Retrying a)) = omega arith
claims_true false (Some (LackingCopy search shape)) = omega arith

claims_each : (stop : Bool) (calls : List (Option Call)) → sum_by (claims_in stop) calls ≤ length calls
claims_each stop [] = omega arith
claims_each stop (c ∷ cs) =
    omega (arith, sum_by-cons (claims_in stop) c cs, claims_one stop (stage_in c), claims_each stop cs)

claims_few : (stop : Bool) (calls : List (Option Call)) → claims stop calls ≤ length calls
claims_few stop calls = omega (arith, sum-map (claims_in stop) calls, claims_each stop calls)

claims_stop : (stop : Bool) (calls : List (Option Call)) → claims true calls ≤ claims stop calls
claims_stop stop calls =
    omega (
      arith,
      sum-map (claims_in true) calls,
      sum-map (claims_in stop) calls,
      sum_by-le-sum_by (claims_in true) (claims_in stop) calls (λ c. claims_true stop (stage_in c)),
    )

claims-set : (stop : Bool) (calls : List (Option Call)) (t : ℕ) (call : Option Call) → t < length calls →
    claims stop (slice_set calls t call) + claims_in stop (call_in calls t) ≡ claims stop calls + claims_in stop call
claims-set stop calls t call within =
    omega (
      arith,
      sum_by-set (claims_in stop) calls t call None within,
      sum-map (claims_in stop) calls,
      sum-map (claims_in stop) (slice_set calls t call),
    )

-- the call of one thread is another now, that may make no more claims
pub bounded_call : (words free : ℕ) (stop : Bool) (calls : List (Option Call)) (t : ℕ) (call : Option Call) →
    t < length calls → claims_in stop call ≤ claims_in stop (call_in calls t) → BoundedBy words free stop calls →
    BoundedBy words free stop (slice_set calls t call)
bounded_call words free stop calls t call within fewer (inl below) = inl below
bounded_call words free stop calls t call within fewer (inr above) =
    let after = claims-set stop calls t call within in
    let same : length (slice_set calls t call) ≡ length calls = length-set calls t call in
    inr (omega arith)

-- a claim ended past the last word
pub bounded_lacking : (words free : ℕ) {need : ℕ} (stop : Bool) (calls : List (Option Call)) (t : ℕ)
    (call : Option Call) → t < length calls → claims_in stop (call_in calls t) ≡ 1 → claims_in stop call ≡ 0
    → need ≤ 126 → BoundedBy words free stop calls → BoundedBy words (free + need) stop (slice_set calls t call)
bounded_lacking words free stop calls t call within was is small bounded =
    let after = claims-set stop calls t call within in
    let same : length (slice_set calls t call) ≡ length calls = length-set calls t call in
    let few : claims stop calls ≤ length calls = claims_few stop calls in
    elim bounded [
      | inl below ↦ inr (omega arith)
      | inr above ↦ inr (omega arith)
    ]

-- the stop word is set
pub bounded_stop : (words free : ℕ) (stop : Bool) (calls : List (Option Call)) → BoundedBy words free stop calls →
    BoundedBy words free true calls
bounded_stop words free stop calls (inl below) = inl below
bounded_stop words free stop calls (inr above) =
    let fewer : claims true calls ≤ claims stop calls = claims_stop stop calls in
    inr (omega arith)

-- a call is refused, and the stop word is set
pub bounded_refused : (words free : ℕ) (stop : Bool) (calls : List (Option Call)) (t : ℕ) → t < length calls →
    BoundedBy words free stop calls → BoundedBy words free true (slice_set calls t None)
bounded_refused words free stop calls t within bounded =
    bounded_call words free true calls t None within (omega arith) (bounded_stop words free stop calls bounded)

claims_as : (stop : Bool) (next stage : Stage) (left : ℕ) → next ≡ stage → claims_left stop (Some stage) ≤ left →
    claims_left stop (Some next) ≤ left
claims_as stop next stage left is below =
    subst (λ (x : Stage). claims_left stop (Some x) ≤ left) (sym is) below

-- after a forwarding word, where the stages at which it may leave the call make no more
claims_probes : (stop : Bool) (s : State) (search : Search) (empty another next : Stage) {left : ℕ}
    → claims_left stop None ≤ left → claims_left stop (Some empty) ≤ left → claims_left stop (Some another) ≤ left
    → Probes s search empty another next → claims_left stop (Some next) ≤ left
claims_probes stop s search empty another next {left} at_found at_empty at_another is = elim is.1 [
  | inl here ↦ claims_as stop next (reached search here.0) left here.2 at_found
  | inr other ↦ elim other [
    | inl none ↦ claims_as stop next empty left none.1 at_empty
    | inr sent ↦ claims_as stop next another left sent.1 at_another
  ]
]

-- the next stage may make no more claims
pub claims_next : (disk : OnDisk) (v : View) (t : ℕ) (o : Op) (stage : Option Stage) (next : Stage)
    → Next (maps v) (state disk v) (register_in v.held t) v.stop o stage next
    → claims_left v.stop (Some next) ≤ claims_left v.stop stage
claims_next disk v t o None next is =
    let left : claims_left v.stop (Some next) ≡ 1 = ap (λ (x : Stage). claims_left v.stop (Some x)) is.3 in
    let before : claims_left v.stop None ≡ 1 = ap (λ (b : Bool). claims_left b None) is.2 in
    omega arith
claims_next disk v t o (Some (Polled task)) next is = claims_one v.stop (Some next)
claims_next disk v t o (Some (Headed address shape access)) next is = claims_one v.stop (Some next)
claims_next disk v t o (Some (Looked place found target dst)) next is =
    claims_as v.stop next (Cleared place found target dst) (claims_left v.stop None) is (omega arith)
claims_next disk v t o (Some (Cleared place found target dst)) next is = absurd is
claims_next disk v t o (Some (Claimed address shape stored dst)) next is =
    claims_as v.stop next (Claimed address shape (stored + 1) dst) (claims_left v.stop None) is.1 (omega arith)
claims_next disk v t o (Some (Lacking need)) next is = absurd is
claims_next disk v t o (Some (Searching search)) next is = claims_one v.stop (Some next)
claims_next disk v t o (Some (Missed search)) next is = claims_one v.stop (Some next)
claims_next disk v t o (Some (HeadRead search shape)) next is = claims_one v.stop (Some next)
claims_next disk v t o (Some (BodyRead search shape)) next is = claims_one v.stop (Some next)
claims_next disk v t o (Some (Copying a stored)) next is =
    elim (cases_lt (stored + 1) (cost_of a.shape)) [
      | inl more ↦ claims_as v.stop next (Copying a (stored + 1)) (claims_left v.stop None) (is.0 more) (omega arith)
      | inr all ↦ claims_as v.stop next (Copied a) (claims_left v.stop None) (is.1 all) (omega arith)
    ]
claims_next disk v t o (Some (Copied a)) next is =
    claims_probes v.stop (state disk v) a.search (reached a.search a.address) (Retrying (retried a)) next (omega arith)
    (omega arith)
    (omega arith) is
claims_next disk v t o (Some (Retrying a)) next is =
    claims_probes v.stop (state disk v) a.search (Copied a) (Retrying (retried a)) next (omega arith) (omega arith)
    (omega arith) is
claims_next disk v t o (Some (LackingCopy search shape)) next is = absurd is

-- the call is over, which did not lack words
pub claims_ends : (stop : Bool) (stage : Option Stage) → ((need : ℕ) → Lacks stage need → ⊥) →
    claims_left stop None ≤ claims_left stop stage
claims_ends stop None enough = omega arith
claims_ends stop (Some (Polled task)) enough = claims_one stop None
claims_ends stop (Some (Lacking need)) enough = absurd (enough need refl)
claims_ends stop (Some (Headed address shape access)) enough = claims_one stop None
claims_ends stop (Some (Looked place found target dst)) enough = omega arith
claims_ends stop (Some (Cleared place found target dst)) enough = omega arith
claims_ends stop (Some (Claimed address shape stored dst)) enough = omega arith
claims_ends stop (Some (Searching search)) enough = claims_one stop None
claims_ends stop (Some (Missed search)) enough = claims_one stop None
claims_ends stop (Some (HeadRead search shape)) enough = claims_one stop None
claims_ends stop (Some (BodyRead search shape)) enough = claims_one stop None
claims_ends stop (Some (Copying a stored)) enough = omega arith
claims_ends stop (Some (Copied a)) enough = omega arith
claims_ends stop (Some (Retrying a)) enough = omega arith
claims_ends stop (Some (LackingCopy search shape)) enough = absurd (enough (cost_of shape) refl)
