-- Events that answer a call, and neither make an object nor own words.
use Rattle.std.proofs.Common.{◌≡◌, ◌≢◌, ℕ, ◌<◌, List, length, get_or, refl, sym, ◌∙◌, ap, subst, inl}
use Rattle.std.proofs.Math.ListN.{set}
use Rattle.std.specs.Prelude.{Bool, true, false, Option, None, Some}
use Rattle.melt_model.specs.declared.history.Act.{Act}
use Rattle.melt_model.specs.declared.operations.Op.{Op}
use Rattle.melt_model.specs.declared.operations.Op.TheVariants as op
use Rattle.melt_model.specs.declared.operations.Reply.{Reply}
use Rattle.melt_model.specs.declared.operations.Reply.TheVariants as reply
use Rattle.melt_scion.specs.Placed.{MayHold}
use Rattle.melt_scion.specs.Regions.{no_region}
use Rattle.melt_scion.specs.declared.heap.Names as heap
use Rattle.melt_scion.specs.declared.registers.Registers.{Registers}
use Rattle.melt_scion.specs.Heaps.{OnDisk, register_in}
use Rattle.melt_core.specs.declared.answer.StepResult.TheVariants.{Answered}
use Rattle.melt_core.specs.declared.call.Access.{Access}
use Rattle.melt_core.specs.declared.call.Call.{Call}
use Rattle.melt_core.specs.declared.call.Place.TheVariants.{Field, Global}
use Rattle.melt_core.specs.declared.call.Task.{Task}
use Rattle.melt_core.specs.declared.call.Task.TheVariants.{Use}
use Rattle.melt_core.specs.declared.call.Stage.{Stage}
use Rattle.melt_core.specs.declared.call.Stage.TheVariants.{Polled, Headed, Looked, Cleared, Claimed, Lacking}
use Rattle.melt_core.specs.declared.call.Stage.TheVariants.{Searching, Missed, HeadRead, BodyRead, Copying, Copied}
use Rattle.melt_core.specs.declared.call.Stage.TheVariants.{Retrying, LackingCopy}
use Rattle.melt_core.specs.Answering.{Answers}
use Rattle.melt_core.specs.Events.{Event, quiet}
use Rattle.melt_core.specs.Stages.{Next, MustPause, Applies, Shares, change_of, cleared_by, task_of, HasTarget, Lacks}
use Rattle.melt_core.specs.Changed.{with_register}
use Rattle.melt_core.specs.Advances.{Asks, AdvancesOver, LeavesClean, HasRoomFor, Sets}
use Rattle.melt_core.specs.Views.{View, Standing, maps, state, call_of, stage_in, stage_of, claimed_in, rest_of}
use Rattle.melt_core.specs.Views.{values_of, held_value, held_values, registers_in}
use Rattle.melt_core.proofs.Claims.{claims_ends}
use Rattle.melt_core.proofs.Asked.{call_at, inside, set_none}
use Rattle.melt_core.proofs.Words.{same_after}
use Rattle.melt_core.proofs.Standing.{advances_where, call_here, same_rests}
use Rattle.melt_core.proofs.Plain.{Plain, OnlyMoves, MakesNothing, plain}
use Rattle.melt_core.proofs.Registers.{register_keeps, register_other, registers_other, threads_set, values_set}
use Rattle.melt_core.proofs.Values.{value_held, no_name_at}
use Rattle.melt_core.proofs.Answers.{nil_answers, HoldsNil, differ_answers, copy_answers, drop_answers}
use Rattle.melt_core.proofs.Tasks.{no_load}

-- A call has no further event, and pauses in none.
pub record Ends (disk : OnDisk) (v : View) (t : ℕ) (o : Op) (stage : Stage) : Type 0 where
  pub at : stage_of v t ≡ Some stage
  pub last : (next : Stage) → Next (maps v) (state disk v) (register_in v.held t) v.stop o (Some stage) next → ⊥
  pub no_pause : MustPause (length v.forward) (register_in v.held t) v.stop o (Some stage) → ⊥
  pub clears : cleared_by (Some stage) ≡ 0
  pub unclaimed : claimed_in (Some (record { op = o; stage = stage })) ≡ 0
  pub no_lack : (need : ℕ) → Lacks (Some stage) need → ⊥

-- the stages of which an event can be the last of a call that is answered and makes no object
abbrev pub MayEnd : Stage → Type 0
MayEnd (Polled task) = Unit {0}
MayEnd (Headed address shape access) = Unit {0}
MayEnd (Cleared place found target dst) = Unit {0}
MayEnd stage = ⊥

may_end : (v : View) (t : ℕ) (o : Op) (stage : Stage) → MayEnd stage
    → (MustPause (length v.forward) (register_in v.held t) v.stop o (Some stage) → ⊥) × (cleared_by (Some stage) ≡ 0)
    × (claimed_in (Some (record { op = o; stage = stage })) ≡ 0) × ((need : ℕ) → Lacks (Some stage) need → ⊥)
may_end v t o (Polled task) may = (λ pause. pause, refl, refl, λ need is. is)
may_end v t o (Headed address shape access) may = (λ pause. pause, refl, refl, λ need is. is)
may_end v t o (Looked place found target dst) may = absurd may
may_end v t o (Cleared place found target dst) may = (λ pause. pause, refl, refl, λ need is. is)
may_end v t o (Claimed address shape stored dst) may = absurd may
may_end v t o (Lacking need) may = absurd may
may_end v t o (Searching search) may = absurd may
may_end v t o (Missed search) may = absurd may
may_end v t o (HeadRead search shape) may = absurd may
may_end v t o (BodyRead search shape) may = absurd may
may_end v t o (Copying a stored) may = absurd may
may_end v t o (Copied a) may = absurd may
may_end v t o (Retrying a) may = absurd may
may_end v t o (LackingCopy search shape) may = absurd may

pub ends_at : (disk : OnDisk) (v : View) (t : ℕ) (o : Op) (stage : Stage) → stage_of v t ≡ Some stage → MayEnd stage
    → ((next : Stage) → Next (maps v) (state disk v) (register_in v.held t) v.stop o (Some stage) next → ⊥)
    → Ends disk v t o stage
ends_at disk v t o stage at may last =
    let is = may_end v t o stage may in
    record { at = at; last = last; no_pause = is.0; clears = is.1; unclaimed = is.2; no_lack = is.3 }

-- What the answer to a call says beside what the event does.
pub record Replies (disk : OnDisk) (v w : View) (t : ℕ) (o : Op) (reply : Reply) : Type 0 where
  pub last : (next : Stage) → Next (maps v) (state disk v) (register_in v.held t) v.stop o (stage_of v t) next → ⊥
  pub no_pause : MustPause (length v.forward) (register_in v.held t) v.stop o (stage_of v t) → ⊥
  pub answers : Standing true disk v → Answers t v.log (values_of v t) o reply w.log (values_of w t)
  pub registers : (r : ℕ) → (Sets o r → ⊥) → register_in w.held t r ≡ register_in v.held t r
  pub room : Standing true disk v → HasRoomFor disk.end v o
  pub clean : LeavesClean disk v w t o (Answered reply)

answered : {disk : OnDisk} {v w : View} {t : ℕ} {o : Op} {reply : Reply} {act : Option Act} → Asks disk v t o
    → Plain (Unit {0}) disk v w t (cleared_by (stage_of v t)) act None
    → Applies (maps v) (maps w) (state disk v) (state disk w)
    (change_of (state disk v) (register_in v.held t) (rest_of v t) (stage_of v t)) → Replies disk v w t o reply
    → AdvancesOver disk v w t o (Answered reply)
answered {disk} {v} {w} {t} {o} {reply} {act} asks p applies replies =
    advances_where (Answered reply) asks (plain asks.thread p) (ap (λ (x : View). x.capacity) p.moves) applies (record {
      last = replies.last;
      no_pause = replies.no_pause;
      call = call_here v w t None (ap (λ (x : View). x.calls) p.moves) (inside disk v t o asks);
      answers = replies.answers;
      history = (act, ap (λ (x : View). x.log) p.moves);
      registers = replies.registers;
      stop = ap (λ (x : View). x.stop) p.moves;
      room = replies.room;
    }) replies.clean

-- What an event shows of registers: those of its thread may hold what they hold, and those of the others stay.
pub record Local (disk : OnDisk) (v : View) (held : List Registers) (t : ℕ) : Type 0 where
  pub threads : length held ≡ length v.held
  pub others : (u : ℕ) → u ≢ t → registers_in held u ≡ registers_in v.held u
  pub may_hold : (r : ℕ) → MayHold (maps v) (state disk v) (register_in held t r)

-- a register was set
pub local_set : (disk : OnDisk) (v : View) (t r address : ℕ) → Standing false disk v → t < length v.held
    → MayHold (maps v) (state disk v) address
    → Local disk v (with_register v t r address).held t
local_set disk v t r address s within may = record {
  threads = threads_set v t r address;
  others = λ u differ. registers_other v.held t u (set (registers_in v.held t) r address) differ;
  may_hold = register_keeps (MayHold (maps v) (state disk v)) v t r address within may (s.registers t);
}

-- nothing changes at all
pub local_still : (disk : OnDisk) (v : View) (t : ℕ) → Standing false disk v → Local disk v v.held t
local_still disk v t s = record { threads = refl; others = λ u differ. refl; may_hold = s.registers t }

-- an event after which the call is over, by what it shows of words and registers
over_plain : (disk : OnDisk) (v w : View) (t cleared : ℕ) (act : Option Act)
    → ((told : Bool) → Standing told disk v → Event told v.log (maps v) (maps w) (state disk v) (state disk w) no_region
    cleared act)
    → MakesNothing act → OnlyMoves v w t act None → length w.space.list ≡ length v.space.list → Local disk v w.held t
    → claimed_in (call_of v t) ≡ 0 → ((need : ℕ) → Lacks (stage_of v t) need → ⊥)
    → Plain (Unit {0}) disk v w t cleared act None
over_plain disk v w t cleared act event nothing moves words local unclaimed no_lack = record {
  event = event;
  nothing = nothing;
  moves = subst (λ (records : List (List ℕ)). OnlyMoves (record v { records = records }) w t act None)
      (sym (ap (λ (x : View). x.records) moves)) moves;
  rests = same_rests v w t (ap (λ (x : View). x.records) moves);
  words = words;
  threads = local.threads;
  others = local.others;
  may_hold = local.may_hold;
  known = λ told tell s c none. absurd (cc);
  fits = λ c none. absurd (cc);
  unclaimed = refl;
  claims = claims_ends v.stop (stage_of v t) no_lack;
}

-- What the last event of a call shows that began before it.
pub record Over (disk : OnDisk) (v w : View) (t : ℕ) (o : Op) (stage : Stage) (act : Option Act) (reply : Reply) : Type
    0 where
  pub ends : Ends disk v t o stage
  pub event : (told : Bool) → Standing told disk v → Event told v.log (maps v) (maps w) (state disk v) (state disk w)
      no_region 0 act
  pub applies : Applies (maps v) (maps w) (state disk v) (state disk w)
      (change_of (state disk v) (register_in v.held t) (rest_of v t) (Some stage))
  pub nothing : MakesNothing act
  pub moves : OnlyMoves v w t act None
  pub words : length w.space.list ≡ length v.space.list
  pub local : Local disk v w.held t
  pub answers : Standing true disk v → Answers t v.log (values_of v t) o reply w.log (values_of w t)
  pub registers : (r : ℕ) → (Sets o r → ⊥) → register_in w.held t r ≡ register_in v.held t r
  pub room : HasRoomFor disk.end v o
  pub clean : LeavesClean disk v w t o (Answered reply)

pub over_advances : {disk : OnDisk} {v w : View} {t : ℕ} {o : Op} {stage : Stage} {act : Option Act} {reply : Reply}
    → Asks disk v t o → Over disk v w t o stage act reply → AdvancesOver disk v w t o (Answered reply)
over_advances {disk} {v} {w} {t} {o} {stage} {act} asks is =
    let ends : Ends disk v t o stage = is.ends in
    answered asks (over_plain disk v w t (cleared_by (stage_of v t)) act
    (λ told s. subst (λ (k : ℕ). Event told v.log (maps v) (maps w) (state disk v) (state disk w) no_region k act)
    (sym (ap cleared_by ends.at ∙ ends.clears)) (is.event told s))
    is.nothing is.moves is.words is.local (ap claimed_in (call_at disk v t o stage asks ends.at) ∙ ends.unclaimed)
    (λ need lacks. ends.no_lack need (subst (λ (g : Option Stage). Lacks g need) ends.at lacks)))
    (subst (λ (g : Option Stage). Applies (maps v) (maps w) (state disk v) (state disk w)
    (change_of (state disk v) (register_in v.held t) (rest_of v t) g)) (sym ends.at) is.applies) (record {
      last = λ next goes. ends.last next
          (subst (λ (g : Option Stage). Next (maps v) (state disk v) (register_in v.held t) v.stop o g next) ends.at
          goes);
      no_pause = λ pause. ends.no_pause (subst (MustPause (length v.forward) (register_in v.held t) v.stop o) ends.at
          pause);
      answers = is.answers;
      registers = is.registers;
      room = λ told. is.room;
      clean = is.clean;
    })

-- an operation on registers alone
local_plain : (disk : OnDisk) (v : View) (held : List Registers) (t : ℕ) → call_of v t ≡ None → Local disk v held t
    → Plain (Unit {0}) disk v (record v { held = held }) t 0 None None
local_plain disk v held t first local =
    over_plain disk v (record v { held = held }) t 0 None (λ told stands. quiet refl (same_after disk v held)) tt
    (ap (λ (calls : List (Option Call)). record v { held = held; calls = calls }) (set_none v.calls t first)) refl local
    (ap claimed_in first)
    (λ need is. subst (λ (g : Option Stage). Lacks g need) (ap stage_in first) is)

-- an answer in the first event of a call: nothing of its words is shared
first_answered : (disk : OnDisk) (v : View) (held : List Registers) (t : ℕ) (o : Op) (reply : Reply) → Asks disk v t o
    → call_of v t ≡ None → Local disk v held t → Replies disk v (record v { held = held }) t o reply
    → AdvancesOver disk v (record v { held = held }) t o (Answered reply)
first_answered disk v held t o reply asks first is replies =
    let w : View = record v { held = held } in
    let none : stage_of v t ≡ None = ap stage_in first in
    answered asks (subst (λ (g : Option Stage). Plain (Unit {0}) disk v w t (cleared_by g) None None) (sym none)
    (local_plain disk v held t first is))
    (subst (λ (g : Option Stage). Applies (maps v) (maps w) (state disk v) (state disk w)
    (change_of (state disk v) (register_in v.held t) (rest_of v t) g)) (sym none) (refl, same_after disk v held))
    replies

-- where the operation has no task, its first event is its last, and it never pauses
first_last : (disk : OnDisk) (v : View) (t : ℕ) (o : Op) (next : Stage) → task_of o ≡ None → call_of v t ≡ None
    → Next (maps v) (state disk v) (register_in v.held t) v.stop o (stage_of v t) next → ⊥
first_last disk v t o next none first is =
    let at : Next (maps v) (state disk v) (register_in v.held t) v.stop o None next =
    subst (λ (g : Option Stage). Next (maps v) (state disk v) (register_in v.held t) v.stop o g next)
    (ap stage_in first) is in
    let some : task_of o ≡ Some at.0 = at.1.0 in
    cc

first_no_pause : (v : View) (t : ℕ) (o : Op) → task_of o ≡ None → call_of v t ≡ None
    → MustPause (length v.forward) (register_in v.held t) v.stop o (stage_of v t) → ⊥
first_no_pause v t o none first is =
    let at : MustPause (length v.forward) (register_in v.held t) v.stop o None =
    subst (MustPause (length v.forward) (register_in v.held t) v.stop o) (ap stage_in first) is in
    let some : task_of o ≡ Some at.0.0 = at.0.1.0 in
    cc

-- a register took the address of another
pub copy_advances : (disk : OnDisk) (v : View) (t dst src address : ℕ) → Asks disk v t (op.Copy dst src)
    → call_of v t ≡ None
    → address ≡ register_in v.held t src
    → AdvancesOver disk v (with_register v t dst address) t (op.Copy dst src) (Answered reply.Done)
copy_advances disk v t dst src address asks first is =
    let s : Standing false disk v = asks.stands in
    let w : View = with_register v t dst address in
    first_answered disk v w.held t (op.Copy dst src) reply.Done asks first
    (local_set disk v t dst address s asks.thread (subst (MayHold (maps v) (state disk v)) (sym is)
    (s.registers t src)))
    (record {
      last = λ next. first_last disk v t (op.Copy dst src) next refl first;
      no_pause = first_no_pause v t (op.Copy dst src) refl first;
      answers = λ told. copy_answers t (values_of v t) dst src
          (value_held v.names (registers_in v.held t) src ∙ ap (held_value v.names) (sym is)) refl
          (values_set v t dst address asks.thread) refl;
      registers = λ r other. register_other v t dst address r asks.thread other;
      room = λ told. tt;
      clean = λ place d loads there tagged. no_load (register_in v.held t) (op.Copy dst src) place d tt loads;
    })

pub drop_advances : (disk : OnDisk) (v : View) (t r : ℕ) → Asks disk v t (op.Drop r) → call_of v t ≡ None
    → AdvancesOver disk v (with_register v t r 0) t (op.Drop r) (Answered reply.Done)
drop_advances disk v t r asks first =
    let w : View = with_register v t r 0 in
    first_answered disk v w.held t (op.Drop r) reply.Done asks first
    (local_set disk v t r 0 asks.stands asks.thread (inl refl)) (record {
      last = λ next. first_last disk v t (op.Drop r) next refl first;
      no_pause = first_no_pause v t (op.Drop r) refl first;
      answers = λ told. drop_answers t (values_of v t) r refl (values_set v t r 0 asks.thread) refl;
      registers = λ k other. register_other v t r 0 k asks.thread other;
      room = λ told. tt;
      clean = λ place d loads there tagged. no_load (register_in v.held t) (op.Drop r) place d tt loads;
    })

-- two registers hold different addresses
pub differ_advances : (disk : OnDisk) (v : View) (t a b : ℕ) → Asks disk v t (op.Same a b) → call_of v t ≡ None
    → register_in v.held t a ≢ register_in v.held t b → AdvancesOver disk v v t (op.Same a b) (Answered reply.No)
differ_advances disk v t a b asks first differ =
    let s : Standing false disk v = asks.stands in
    first_answered disk v v.held t (op.Same a b) reply.No asks first (local_still disk v t s) (record {
      last = λ next. first_last disk v t (op.Same a b) next refl first;
      no_pause = first_no_pause v t (op.Same a b) refl first;
      answers = λ told. differ_answers t v.names (registers_in v.held t) (state disk v) a b
          ((told.holds.tells refl).one_address) (s.registers t a) (s.registers t b) differ refl refl refl;
      registers = λ k other. refl;
      room = λ told. tt;
      clean = λ place d loads there tagged. no_load (register_in v.held t) (op.Same a b) place d tt loads;
    })

-- an operation on a part of an object, where its register holds none
holds_nil : (names : Option heap.Names) (regs : List ℕ) (o : Op) (r : ℕ) (access : Access)
    → task_of o ≡ Some (Use r access) → get_or regs r 0 ≡ 0 → HoldsNil (held_values names regs) o
holds_nil names regs (op.New dst refs nums) r access is none = absurd (cc)
holds_nil names regs (op.Load dst src i) r access is none = let same : src ≡ r = cc in value_held names regs src
    ∙ ap (held_value names) (ap (λ (k : ℕ). get_or regs k 0) same ∙ none)
holds_nil names regs (op.Store obj i src) r access is none = let same : obj ≡ r = cc in value_held names regs obj
    ∙ ap (held_value names) (ap (λ (k : ℕ). get_or regs k 0) same ∙ none)
holds_nil names regs (op.Get src j) r access is none = let same : src ≡ r = cc in value_held names regs src
    ∙ ap (held_value names) (ap (λ (k : ℕ). get_or regs k 0) same ∙ none)
holds_nil names regs (op.Put obj j v) r access is none = let same : obj ≡ r = cc in value_held names regs obj
    ∙ ap (held_value names) (ap (λ (k : ℕ). get_or regs k 0) same ∙ none)
holds_nil names regs (op.GLoad dst g) r access is none = absurd (cc)
holds_nil names regs (op.GStore g src) r access is none = absurd (cc)
holds_nil names regs o r access is none = absurd (cc)

pub use_room : (end : ℕ) (v : View) (o : Op) (r : ℕ) (access : Access) → task_of o ≡ Some (Use r access)
    → HasRoomFor end v o
use_room end v (op.New dst refs nums) r access is = absurd (cc)
use_room end v o r access is = tt

-- where the register is empty, no reference is loaded
nil_clean : (disk : OnDisk) (v : View) (t : ℕ) (o : Op) (r : ℕ) (access : Access) → Standing false disk v
    → task_of o ≡ Some (Use r access)
    → register_in v.held t r ≡ 0 → LeavesClean disk v v t o (Answered reply.Nil)
nil_clean disk v t o r access s is none (Field object i) dst loads there tagged =
    let same : loads.0 ≡ r = cc in
    let at : object ≡ 0 = sym loads.2 ∙ (ap (register_in v.held t) same ∙ none) in
    absurd (let named = there.1.named in
    no_name_at v.names there.1.number (subst (λ (a : ℕ). (maps v).address a ≡ Some there.1.number) at named))
nil_clean disk v t o r access s is none (Global g) dst loads there tagged = absurd (cc)

pub nil_advances : (disk : OnDisk) (v : View) (t : ℕ) (o : Op) (r : ℕ) (access : Access) → Asks disk v t o
    → call_of v t ≡ None
    → task_of o ≡ Some (Use r access) → register_in v.held t r ≡ 0 → AdvancesOver disk v v t o (Answered reply.Nil)
nil_advances disk v t o r access asks first task none =
    let s : Standing false disk v = asks.stands in
    let has : (x : Task) → Shares (register_in v.held t) o x → ⊥ = λ x shares.
    let same : x ≡ Use r access = cc in
    let some : HasTarget (register_in v.held t) (Use r access) =
    subst (HasTarget (register_in v.held t)) same shares.1 in
    some none in
    first_answered disk v v.held t o reply.Nil asks first (local_still disk v t s) (record {
      last = λ next is.
          let at : Next (maps v) (state disk v) (register_in v.held t) v.stop o None next =
          subst (λ (g : Option Stage). Next (maps v) (state disk v) (register_in v.held t) v.stop o g next)
          (ap stage_in first) is in
          has at.0 at.1;
      no_pause = λ is.
          let at : MustPause (length v.forward) (register_in v.held t) v.stop o None =
          subst (MustPause (length v.forward) (register_in v.held t) v.stop o) (ap stage_in first) is in
          has at.0.0 at.0.1;
      answers = λ told. nil_answers t o (holds_nil v.names (registers_in v.held t) o r access task none) refl refl refl;
      registers = λ k other. refl;
      room = λ told. use_room disk.end v o r access task;
      clean = nil_clean disk v t o r access s task none;
    })
