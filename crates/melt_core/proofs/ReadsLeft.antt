-- How often a call still reads the disk, and that an event which reads nothing is none of those that may fail.
use Rattle.std.proofs.Common.{◌≡◌, ℕ, ◌+◌, ◌≤◌, inl, inr, get_or, refl, sym, ◌∙◌, ap, subst, arith}
use Rattle.std.proofs.lemmas.Bool.{cases_lt}
use Rattle.std.proofs.lemmas.List.{get_or_default}
use Rattle.std.specs.Prelude.{Bool, true, false, ◌==◌, if◌then◌else◌, Option, None, Some}
use Rattle.melt_model.specs.declared.operations.Op.{Op}
use Rattle.melt_word.specs.Words.{cost_of}
use Rattle.melt_word.specs.declared.header.Shape.{Shape}
use Rattle.melt_word.specs.declared.reference.Ref.TheVariants.{Disk}
use Rattle.melt_record.specs.declared.damage.Damaged.{Damaged}
use Rattle.melt_record.specs.declared.head.Kind.{Kind}
use Rattle.melt_record.specs.declared.head.Kind.TheVariants.{Body, Stub}
use Rattle.melt_scion.specs.State.{State}
use Rattle.melt_scion.specs.Heaps.{OnDisk, register_in}
use Rattle.melt_core.specs.declared.answer.Refusal.TheVariants as refusal
use Rattle.melt_core.specs.declared.answer.StepResult.{StepResult}
use Rattle.melt_core.specs.declared.answer.StepResult.TheVariants.{Going, Answered, Refused}
use Rattle.melt_core.specs.declared.call.Search.{Search}
use Rattle.melt_core.specs.declared.call.Call.{Call}
use Rattle.melt_core.specs.declared.call.Stage.{Stage}
use Rattle.melt_core.specs.declared.call.Stage.TheVariants.{Polled, Headed, Looked, Cleared, Claimed, Lacking}
use Rattle.melt_core.specs.declared.call.Stage.TheVariants.{Searching, Missed, HeadRead, BodyRead, Copying, Copied}
use Rattle.melt_core.specs.declared.call.Stage.TheVariants.{Retrying, LackingCopy}
use Rattle.melt_core.specs.Stages.{Next, Probes, ReadAs, ReadsAt, NeedsNoRead, reads_left, body_stage}
use Rattle.melt_core.specs.Stages.{retried, reached}
use Rattle.melt_core.specs.Advances.{Asks, AdvancesOver, MayAdvance, MakesEvent, Uses, StepOutcome, reads_after}
use Rattle.melt_core.specs.Views.{View, maps, state, call_of, stage_in, stage_of}
use Rattle.melt_core.proofs.Asked.{inside}

-- the most of all stages
reads_most : (stage : Option Stage) → reads_left stage ≤ 2
reads_most None = omega arith
reads_most (Some (Polled task)) = omega arith
reads_most (Some (Headed address shape access)) = omega arith
reads_most (Some (Looked place found target dst)) = omega arith
reads_most (Some (Cleared place found target dst)) = omega arith
reads_most (Some (Claimed address shape stored dst)) = omega arith
reads_most (Some (Lacking need)) = omega arith
reads_most (Some (Searching search)) = omega arith
reads_most (Some (Missed search)) = omega arith
reads_most (Some (HeadRead search shape)) = omega arith
reads_most (Some (BodyRead search shape)) = omega arith
reads_most (Some (Copying a stored)) = omega arith
reads_most (Some (Copied a)) = omega arith
reads_most (Some (Retrying a)) = omega arith
reads_most (Some (LackingCopy search shape)) = omega arith

reads_as : (left : ℕ) (next stage : Stage) → next ≡ stage → reads_left (Some stage) ≤ left
    → reads_left (Some next) ≤ left
reads_as left next stage is few = subst (λ (x : Stage). reads_left (Some x) ≤ left) (sym is) few

reads_probes : (s : State) (search : Search) (empty another next : Stage) → reads_left (Some empty) ≤ 0
    → reads_left (Some another) ≤ 0 → Probes s search empty another next → reads_left (Some next) ≤ 0
reads_probes s search empty another next at_empty at_another is = elim is.1 [
  | inl here ↦ reads_as 0 next (reached search here.0) here.2 (omega arith)
  | inr other ↦ elim other [
    | inl none ↦ reads_as 0 next empty none.1 at_empty
    | inr sent ↦ reads_as 0 next another sent.1 at_another
  ]
]

body_reads : (search : Search) (shape : Shape) (whole : Bool)
    → reads_left (Some (if whole then BodyRead search shape else HeadRead search shape)) ≤ 1
body_reads search shape true = omega arith
body_reads search shape false = omega arith

-- after a head at most one read is left
pub head_reads : (s : State) (search : Search) (shape : Shape) (kind : Kind) (next : Stage)
    → ReadAs s search shape kind next → reads_left (Some next) ≤ 1
head_reads s search shape Body next is =
    reads_as 1 next (body_stage search shape) is (body_reads search shape (shape.refs + shape.nums == 0))
head_reads s search shape (Stub scion) next is =
    reads_as 1 next (Looked search.place (Disk search.home) is.0 search.dst) is.2 (omega arith)

-- an event after which the call goes on leaves it no more reads
reads_next : (disk : OnDisk) (v : View) (t : ℕ) (o : Op) (stage : Option Stage) (next : Stage)
    → Next (maps v) (state disk v) (register_in v.held t) v.stop o stage next
    → reads_left (Some next) ≤ reads_left stage
reads_next disk v t o None next is = reads_most (Some next)
reads_next disk v t o (Some (Polled task)) next is = reads_most (Some next)
reads_next disk v t o (Some (Headed address shape access)) next is = reads_most (Some next)
reads_next disk v t o (Some (Looked place found target dst)) next is =
    reads_as 0 next (Cleared place found target dst) is (omega arith)
reads_next disk v t o (Some (Cleared place found target dst)) next is = absurd is
reads_next disk v t o (Some (Claimed address shape stored dst)) next is =
    reads_as 0 next (Claimed address shape (stored + 1) dst) is.1 (omega arith)
reads_next disk v t o (Some (Lacking need)) next is = absurd is
reads_next disk v t o (Some (Searching search)) next is = reads_most (Some next)
reads_next disk v t o (Some (Missed search)) next is = reads_most (Some next)
reads_next disk v t o (Some (HeadRead search shape)) next is =
    reads_as 1 next (BodyRead search shape) is (omega arith)
reads_next disk v t o (Some (BodyRead search shape)) next is =
    elim (cases_lt ((state disk v).base.size + 1) (v.free + cost_of shape)) [
      | inl past ↦ reads_as 0 next (LackingCopy search shape) (is.1 past) (omega arith)
      | inr fits ↦ reads_as 0 next (Copying (record { search = search; address = v.free; shape = shape }) 0) (is.0 fits)
          (omega arith)
    ]
reads_next disk v t o (Some (Copying a stored)) next is =
    elim (cases_lt (stored + 1) (cost_of a.shape)) [
      | inl more ↦ reads_as 0 next (Copying a (stored + 1)) (is.0 more) (omega arith)
      | inr all ↦ reads_as 0 next (Copied a) (is.1 all) (omega arith)
    ]
reads_next disk v t o (Some (Copied a)) next is =
    reads_probes (state disk v) a.search (reached a.search a.address) (Retrying (retried a)) next (omega arith)
    (omega arith) is
reads_next disk v t o (Some (Retrying a)) next is =
    reads_probes (state disk v) a.search (Copied a) (Retrying (retried a)) next (omega arith) (omega arith) is
reads_next disk v t o (Some (LackingCopy search shape)) next is = absurd is

-- the two stages from which the disk is read
needs_none : (stage : Stage) → ((search : Search) → stage ≡ Missed search → ⊥)
    → ((search : Search) (shape : Shape) → stage ≡ HeadRead search shape → ⊥) → NeedsNoRead (Some stage)
needs_none (Polled task) no_head no_rest = tt
needs_none (Headed address shape access) no_head no_rest = tt
needs_none (Looked place found target dst) no_head no_rest = tt
needs_none (Cleared place found target dst) no_head no_rest = tt
needs_none (Claimed address shape stored dst) no_head no_rest = tt
needs_none (Lacking need) no_head no_rest = tt
needs_none (Searching search) no_head no_rest = tt
needs_none (Missed search) no_head no_rest = no_head search refl
needs_none (HeadRead search shape) no_head no_rest = no_rest search shape refl
needs_none (BodyRead search shape) no_head no_rest = tt
needs_none (Copying a stored) no_head no_rest = tt
needs_none (Copied a) no_head no_rest = tt
needs_none (Retrying a) no_head no_rest = tt
needs_none (LackingCopy search shape) no_head no_rest = tt

-- a call that was found in flight is that of the thread
pub in_flight : (disk : OnDisk) (v : View) (t : ℕ) (o : Op) (found : Option Call) (call : Call) → Asks disk v t o
    → found ≡ get_or v.calls t found → found ≡ Some call → ((search : Search) → call.stage ≡ Missed search → ⊥)
    → ((search : Search) (shape : Shape) → call.stage ≡ HeadRead search shape → ⊥) → NeedsNoRead (stage_of v t)
in_flight disk v t o found call asks there is no_head no_rest =
    let at : call_of v t ≡ Some call =
    get_or_default v.calls t None found (inside disk v t o asks) ∙ (sym there ∙ is) in
    subst NeedsNoRead (sym (ap stage_in at)) (needs_none call.stage no_head no_rest)

-- nor does an event that begins a call
pub none_in_flight : (disk : OnDisk) (v : View) (t : ℕ) (o : Op) (found : Option Call) → Asks disk v t o
    → found ≡ get_or v.calls t found → found ≡ None → NeedsNoRead (stage_of v t)
none_in_flight disk v t o found asks there is =
    let at : call_of v t ≡ None = get_or_default v.calls t None found (inside disk v t o asks) ∙ (sym there ∙ is) in
    subst NeedsNoRead (sym (ap stage_in at)) tt

-- an event from a stage that reads the disk is none of the others
reads_nothing : (stage : Option Stage) (home : ℕ) → NeedsNoRead stage → ReadsAt stage home → ⊥
reads_nothing None home none reads = reads
reads_nothing (Some (Polled task)) home none reads = reads
reads_nothing (Some (Headed address shape access)) home none reads = reads
reads_nothing (Some (Looked place found target dst)) home none reads = reads
reads_nothing (Some (Cleared place found target dst)) home none reads = reads
reads_nothing (Some (Claimed address shape stored dst)) home none reads = reads
reads_nothing (Some (Lacking need)) home none reads = reads
reads_nothing (Some (Searching search)) home none reads = reads
reads_nothing (Some (Missed search)) home none reads = none
reads_nothing (Some (HeadRead search shape)) home none reads = none
reads_nothing (Some (BodyRead search shape)) home none reads = reads
reads_nothing (Some (Copying a stored)) home none reads = reads
reads_nothing (Some (Copied a)) home none reads = reads
reads_nothing (Some (Retrying a)) home none reads = reads
reads_nothing (Some (LackingCopy search shape)) home none reads = reads

reads_past : (disk : OnDisk) (v w : View) (t : ℕ) (o : Op) (result : StepResult) → Asks disk v t o
    → StepOutcome (Unit {0}) disk v w t o result → reads_after result (stage_of w t) ≤ reads_left (stage_of v t)
reads_past disk v w t o Going asks is =
    let at : reads_left (stage_of w t) ≡ reads_left (Some is.stage) =
    ap (λ (c : Option Call). reads_left (stage_in c)) is.call in
    omega (
      arith,
      at,
      reads_next disk v t o (stage_of v t) is.stage is.next,
    )
reads_past disk v w t o (Answered reply) asks is = omega arith
reads_past disk v w t o (Refused why) asks is = omega arith

module _ (end : ℕ) (v w : View) (t : ℕ) (o : Op) (result : StepResult) (may : MayAdvance end v t o)
    (moves : MakesEvent v w t o result) (none : NeedsNoRead (stage_of v t)) where
  over_here : AdvancesOver may.disk v w t o result
  over_here = moves.over may.disk may.asks.stands

  no_fault : result ≡ Refused refusal.DiskFault → ⊥
  no_fault is =
      let lost : StepOutcome (Unit {0}) may.disk v w t o (Refused refusal.DiskFault) =
      subst (StepOutcome (Unit {0}) may.disk v w t o) is over_here.outcome in
      reads_nothing (stage_of v t) lost.0 none lost.1.reads

  -- the record that it finds damaged is none
  pub no_damage : (damaged : Damaged) → result ≡ Refused (refusal.Damaged damaged) → ⊥
  no_damage damaged is =
      let lost : StepOutcome (Unit {0}) may.disk v w t o (Refused (refusal.Damaged damaged)) =
      subst (StepOutcome (Unit {0}) may.disk v w t o) is over_here.outcome in
      reads_nothing (stage_of v t) damaged.home none lost.lost.reads

  -- the reader stays as it was
  pub uses_nothing : (faults reads : ℕ) → Uses v w t result faults faults reads reads
  uses_nothing faults reads = record {
    one = omega arith;
    few = omega (arith, reads_past may.disk v w t o result may.asks over_here.outcome);
    fault = λ is. absurd (no_fault is);
    count = omega arith;
  }
