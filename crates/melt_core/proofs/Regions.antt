-- Regions apart, what is claimed, and how a call comes nearer to its end.
use Rattle.std.proofs.Common.{◌≡◌, ℕ, ◌+◌, ◌*◌, ◌<◌, ◌≤◌, refl, sym, ap, subst, arith, ◌-◌, inl, inr}
use Rattle.std.proofs.lemmas.Bool.{cases_lt}
use Rattle.std.specs.Prelude.{true, false, Bool, ◌==◌, if◌then◌else◌, List, Option, None, Some, length}
use Rattle.melt_model.specs.declared.operations.Op.{Op}
use Rattle.melt_model.specs.declared.operations.Op.TheVariants as op
use Rattle.melt_word.specs.Words.{IsShape, cost_of}
use Rattle.melt_word.specs.declared.header.Shape.{Shape}
use Rattle.melt_word.specs.declared.header.Header.{Header}
use Rattle.melt_scion.specs.State.{Base, State, HeaderAt}
use Rattle.melt_scion.specs.Placed.{Maps, FormedWords}
use Rattle.melt_scion.specs.Regions.{Region, no_region, Apart, Owns}
use Rattle.melt_scion.specs.Changes.{FreeMoves}
use Rattle.melt_scion.specs.Heaps.{OnDisk, register_in}
use Rattle.melt_scion.proofs.Geometry.{one_header, header_moves}
use Rattle.melt_core.specs.declared.call.Access.TheVariants.{Load}
use Rattle.melt_core.specs.declared.call.Task.TheVariants.{Make, Use, LoadGlobal, StoreGlobal}
use Rattle.melt_core.specs.declared.call.Stage.{Stage}
use Rattle.melt_core.specs.declared.call.Stage.TheVariants.{Polled, Headed, Looked, Cleared, Claimed, Lacking}
use Rattle.melt_core.specs.declared.call.Stage.TheVariants.{Searching, Missed, HeadRead, BodyRead, Copying, Copied}
use Rattle.melt_core.specs.declared.call.Stage.TheVariants.{Retrying, LackingCopy}
use Rattle.melt_core.specs.declared.call.Call.{Call}
use Rattle.melt_core.specs.Known.{Known}
use Rattle.melt_core.specs.declared.call.Search.{Search}
use Rattle.melt_record.specs.declared.head.Kind.{Kind}
use Rattle.melt_record.specs.declared.head.Kind.TheVariants.{Body, Stub}
use Rattle.melt_word.specs.declared.reference.Ref.TheVariants.{Stale, Disk}
use Rattle.melt_core.specs.declared.call.Place.{Place}
use Rattle.melt_core.specs.declared.call.Place.TheVariants.{Field, Global}
use Rattle.melt_core.specs.Stages.{task_of, Fits, Next, FindsTag, Probes, ReadAs, body_stage, events_left, probes_left}
use Rattle.melt_core.specs.Stages.{further, retried, reached}
use Rattle.melt_core.specs.Views.{View, maps, state, call_of, stage_in, stage_of, rest_of}
use Rattle.melt_core.specs.Advances.{InBounds, Continues, Asks}

pub apart_sym : (a b : Region) → Apart a b → Apart b a
apart_sym a b apart = record {
  before = apart.after;
  after = apart.before;
  differ = λ some_b some_a same. apart.differ some_a some_b (sym same);
}

-- the region of no words is apart from every region
pub no_region_apart : (r : Region) → Apart no_region r
no_region_apart r = record {
  before = λ less. omega arith;
  after = λ less. absurd (omega arith);
  differ = λ none. absurd (omega arith);
}

-- what is claimed at the first free place is owned
pub claimed_owned : (maps : Maps) (s t : State) (words : ℕ) → FormedWords maps s → 1 ≤ s.free →
    s.free + words ≤ s.base.size + 1 → FreeMoves s t (s.free + words) →
    Owns maps t (record { at = s.free; words = words })
claimed_owned maps s t words formed first within moves = record {
  first = first;
  below = let e : t.free ≡ s.free + words = moves.is in omega arith;
  within = subst (λ (b : Base). s.free + words ≤ b.size + 1) (sym moves.base) within;
  outside = λ b n header named starts.
      let object = formed.objects b n named in
      let was : HeaderAt s b header = header_moves s t b header (sym (moves.word b)) starts in
      let same : cost_of object.0.shape ≡ cost_of header.shape =
      ap (λ (x : Header). cost_of x.shape) (one_header s b object.0 header object.1.starts was) in
      let below : b + cost_of object.0.shape ≤ s.free = object.1.below in
      record {
        before = λ less. omega arith;
        after = λ less. absurd (omega arith);
        differ = λ some_b some. omega arith;
      };
}

-- and apart from what was owned before
pub claimed_apart : (maps : Maps) (s : State) (words : ℕ) (r : Region) → Owns maps s r →
    Apart r (record { at = s.free; words = words })
claimed_apart maps s words r owns =
    let below : r.at + r.words ≤ s.free = owns.below in
    record {
      before = λ less. omega arith;
      after = λ less. absurd (omega arith);
      differ = λ some_r some. omega arith;
    }

-- what is known where a call is at this stage, if it is at one
abbrev pub AtStage : Maps → State → List ℕ → (ℕ → ℕ) → Op → Option Stage → Type 0
AtStage maps s rest register o None = Unit {0}
AtStage maps s rest register o (Some stage) = Known false maps s rest stage × Fits register o stage

-- an object that an operation in bounds makes is small
made_small : (globals : ℕ) (o : Op) (dst : ℕ) (shape : Shape) → InBounds globals o → task_of o ≡ Some (Make dst shape) →
    IsShape shape
made_small globals (op.New d refs nums) dst shape bounds makes =
    let made : Shape = record { refs = refs; nums = nums } in
    let is : made ≡ shape = cc in
    subst IsShape is (record { refs = bounds.1; nums = bounds.2 })
made_small globals o dst shape bounds makes = absurd (cc)

left_is : (forwards left : ℕ) (next stage : Stage) → next ≡ stage → events_left forwards (Some stage) < left
    → events_left forwards (Some next) < left
left_is forwards left next stage is below =
    subst (λ (x : Stage). events_left forwards (Some x) < left) (sym is) below

-- a load that found a word with a tag
finds_nearer : (forwards left word : ℕ) (place : Place) (dst : ℕ) (next : Stage) → 133 + 2 * forwards < left
    → FindsTag word place dst next → events_left forwards (Some next) < left
finds_nearer forwards left word place dst next below (inl stale) =
    left_is forwards left next (Looked place (Stale stale.0) stale.0 dst) stale.2 (omega arith)
finds_nearer forwards left word place dst next below (inr home) =
    left_is forwards left next (Searching (record { place = place; home = home.0; tried = 0; dst = dst })) home.2
    (omega arith)

-- a search that has not read all forwarding words
probes_nearer : (s : State) {most : ℕ} (search : Search) (empty another next : Stage) (left : ℕ)
    → s.base.forwards ≤ most → Probes s search empty another next → 2 < left
    → (search.tried < most → events_left most (Some empty) < left)
    → (search.tried < most → events_left most (Some another) < left) → events_left most (Some next) < left
probes_nearer s {most} search empty another next left few is some first second =
    let within : search.tried < s.base.forwards = is.0 in
    let below : search.tried < most = omega arith in
    elim is.1 [
      | inl here ↦ left_is most left next (reached search here.0) here.2 some
      | inr other ↦ elim other [
        | inl none ↦ left_is most left next empty none.1 (first below)
        | inr sent ↦ left_is most left next another sent.1 (second below)
      ]
    ]

body_nearer : (forwards left : ℕ) (search : Search) (shape : Shape) (whole : Bool)
    → 131 + probes_left forwards search < left
    → events_left forwards (Some (if whole then BodyRead search shape else HeadRead search shape)) < left
body_nearer forwards left search shape true below = omega arith
body_nearer forwards left search shape false below = below

read_nearer : (s : State) (most : ℕ) (search : Search) (shape : Shape) (kind : Kind) (next : Stage)
    → ReadAs s search shape kind next → events_left most (Some next) < 132 + probes_left most search
read_nearer s most search shape Body next is =
    left_is most (132 + probes_left most search) next (body_stage search shape) is
    (body_nearer most (132 + probes_left most search) search shape (shape.refs + shape.nums == 0) (omega arith))
read_nearer s most search shape (Stub scion) next is =
    left_is most (132 + probes_left most search) next (Looked search.place (Disk search.home) is.0 search.dst) is.2
    (omega arith)

-- an event that is not the last of its call brings it nearer to its end
pub Next_nearer : (disk : OnDisk) (v : View) (t : ℕ) (o : Op) (stage : Option Stage) (next : Stage)
    {most : ℕ} → length v.forward ≤ most → InBounds (length v.globals) o
    → AtStage (maps v) (state disk v) (rest_of v t) (register_in v.held t) o stage
    → Next (maps v) (state disk v) (register_in v.held t) v.stop o stage next
    → events_left most (Some next) < events_left most stage
Next_nearer disk v t o None next {most} few bounds at is =
    left_is most (136 + 2 * most) next (Polled is.0) is.3 (omega arith)
Next_nearer disk v t o (Some (Polled (Make dst shape))) next {most} few bounds at is =
    let small : IsShape shape = made_small (length v.globals) o dst shape bounds at.1.0 in
    let refs : shape.refs ≤ 62 = small.refs in
    let nums : shape.nums ≤ 62 = small.nums in
    elim (cases_lt ((state disk v).base.size + 1) (v.free + cost_of shape)) [
      | inl past ↦ left_is most (135 + 2 * most) next (Lacking (cost_of shape)) (is.1 past)
          (omega arith)
      | inr fits ↦ left_is most (135 + 2 * most) next (Claimed v.free shape 0 dst) (is.0 fits)
          (omega arith)
    ]
Next_nearer disk v t o (Some (Polled (Use r access))) next {most} few bounds at is =
    left_is most (135 + 2 * most) next (Headed (register_in v.held t r) is.0 access) is.3 (omega arith)
Next_nearer disk v t o (Some (Polled (LoadGlobal dst g))) next {most} few bounds at is =
    finds_nearer most (135 + 2 * most) ((state disk v).global g) (Global g) dst next (omega arith) is
Next_nearer disk v t o (Some (Polled (StoreGlobal g src))) next {most} few bounds at is =
    absurd is
Next_nearer disk v t o (Some (Headed address shape (Load dst i))) next {most} few bounds at is
    =
    finds_nearer most (134 + 2 * most) ((state disk v).word (address + 2 + i)) (Field address i) dst next
    (omega arith) is
Next_nearer disk v t o (Some (Headed address shape access)) next {most} few bounds at is =
    absurd is
Next_nearer disk v t o (Some (Looked place found target dst)) next {most} few bounds at is =
    left_is most 3 next (Cleared place found target dst) is (omega arith)
Next_nearer disk v t o (Some (Cleared place found target dst)) next {most} few bounds at is =
    absurd is
Next_nearer disk v t o (Some (Claimed address shape stored dst)) next {most} few bounds at is =
    let below : stored + 1 < cost_of shape = is.0 in
    left_is most (cost_of shape - stored) next (Claimed address shape (stored + 1) dst) is.1 (omega arith)
Next_nearer disk v t o (Some (Lacking need)) next {most} few bounds at is = absurd is
Next_nearer disk v t o (Some (Searching search)) next {most} few bounds at is =
    probes_nearer (state disk v) search (Missed search) (Searching (further search)) next
    (133 + probes_left most search) few is
    (omega arith) (λ less. omega arith) (λ less. omega arith)
Next_nearer disk v t o (Some (Missed search)) next {most} few bounds at is =
    read_nearer (state disk v) most search is.0 is.1 next is.2
Next_nearer disk v t o (Some (HeadRead search shape)) next {most} few bounds at is =
    left_is most (131 + probes_left most search) next (BodyRead search shape) is (omega arith)
Next_nearer disk v t o (Some (BodyRead search shape)) next {most} few bounds at is =
    let small : IsShape shape = at.0.body.head.small in
    let refs : shape.refs ≤ 62 = small.refs in
    let nums : shape.nums ≤ 62 = small.nums in
    elim (cases_lt ((state disk v).base.size + 1) (v.free + cost_of shape)) [
      | inl past ↦ left_is most (130 + probes_left most search) next (LackingCopy search shape)
          (is.1 past) (omega arith)
      | inr fits ↦ left_is most (130 + probes_left most search) next
          (Copying (record { search = search; address = v.free; shape = shape }) 0) (is.0 fits) (omega arith)
    ]
Next_nearer disk v t o (Some (Copying a stored)) next {most} few bounds at is =
    let some : stored < cost_of a.shape = at.0.1.few in
    elim (cases_lt (stored + 1) (cost_of a.shape)) [
      | inl more ↦ left_is most (cost_of a.shape - stored + 2 + probes_left most a.search) next
          (Copying a (stored + 1)) (is.0 more) (omega arith)
      | inr all ↦ left_is most (cost_of a.shape - stored + 2 + probes_left most a.search) next
          (Copied a) (is.1 (omega arith)) (omega arith)
    ]
Next_nearer disk v t o (Some (Copied a)) next {most} few bounds at is =
    let within : a.search.tried < length v.forward = at.0.1 in
    probes_nearer (state disk v) a.search (reached a.search a.address) (Retrying (retried a)) next
    (2 + probes_left most a.search)
    few is (omega arith) (λ less. omega arith) (λ less. omega arith)
Next_nearer disk v t o (Some (Retrying a)) next {most} few bounds at is =
    probes_nearer (state disk v) a.search (Copied a) (Retrying (retried a)) next (3 + probes_left most a.search) few is
    (omega arith)
    (λ less. omega arith) (λ less. omega arith)
Next_nearer disk v t o (Some (LackingCopy search shape)) next {most} few bounds at is
    = absurd is

-- what stands of a view is known of the call of a thread
at_stage_in : (disk : OnDisk) (v : View) (t : ℕ) (o : Op) (call : Option Call) → Asks disk v t o → call_of v t ≡ call →
    AtStage (maps v) (state disk v) (rest_of v t) (register_in v.held t) o (stage_in call)
at_stage_in disk v t o None may is = tt
at_stage_in disk v t o (Some c) may is =
    let continued : o ≡ c.op = subst (λ (x : Option Call). Continues x o) is may.continued in (
      may.stands.known t c is,
      subst (λ (x : Op). Fits (register_in v.held t) x c.stage) (sym continued)
          (may.stands.fits t c is),
    )

pub at_stage : (disk : OnDisk) (v : View) (t : ℕ) (o : Op) → Asks disk v t o →
    AtStage (maps v) (state disk v) (rest_of v t) (register_in v.held t) o (stage_of v t)
at_stage disk v t o may = at_stage_in disk v t o (call_of v t) may refl

-- and so the next event of a thread does
pub nearer_in : (disk : OnDisk) (v : View) (t : ℕ) (o : Op) (next : Stage) → Asks disk v t o →
    Next (maps v) (state disk v) (register_in v.held t) v.stop o (stage_of v t) next → (most : ℕ) →
    length v.forward ≤ most → events_left most (Some next) < events_left most (stage_of v t)
nearer_in disk v t o next may is most few =
    Next_nearer disk v t o (stage_of v t) next few
    may.bounds (at_stage disk v t o may) is
