-- Events of one call, each right after the one before.
use Rattle.std.proofs.Common.{◌≡◌, ℕ, zero, suc, ◌+◌, ◌<◌, ◌^◌, List, length, inl, inr, refl, sym, ◌∙◌, ap, subst, arith}
use Rattle.std.proofs.lemmas.Bool.{cases_lt}
use Rattle.std.proofs.lemmas.List.{get_or-set_same, get_or_past}
use Rattle.std.proofs.lemmas.Option.{same_Some}
use Rattle.std.specs.Prelude.{false, Option, None, Some, slice_set}
use Rattle.melt_model.specs.declared.operations.Op.{Op}
use Rattle.melt_model.specs.declared.operations.Reply.TheVariants as reply
use Rattle.melt_word.specs.declared.header.Header.{Header}
use Rattle.melt_word.specs.declared.header.Shape.{Shape}
use Rattle.melt_core.specs.declared.answer.Pause.TheVariants.{Asked, Space, Forward}
use Rattle.melt_core.specs.declared.answer.Refusal.{Refusal}
use Rattle.melt_core.specs.declared.answer.Refusal.TheVariants as refusal
use Rattle.melt_core.specs.declared.answer.StepResult.{StepResult}
use Rattle.melt_core.specs.declared.answer.StepResult.TheVariants.{Answered, Going, Refused}
use Rattle.melt_core.specs.declared.call.Access.{Access}
use Rattle.melt_core.specs.declared.call.Call.{Call}
use Rattle.melt_core.specs.declared.call.Search.{Search}
use Rattle.melt_core.specs.declared.call.Stage.{Stage}
use Rattle.melt_core.specs.declared.call.Stage.TheVariants.{Claimed, Headed, Polled}
use Rattle.melt_core.specs.declared.call.Task.{Task}
use Rattle.melt_core.specs.declared.call.Task.TheVariants.{Use}
use Rattle.melt_word.specs.Words.{IsHeader, cost_of, header_word}
use Rattle.melt_space.specs.Space.{IsWord, SetsWord, SpaceWords, word_at}
use Rattle.melt_scion.specs.Heaps.{register_in}
use Rattle.melt_core.specs.Changed.{with_stage, with_call}
use Rattle.melt_core.specs.Known.{IsObjectAt}
use Rattle.melt_core.proofs.Asked.{asks_over, call_at, set_none}
use Rattle.melt_core.proofs.Making.{claimed_known, store_zero_advances}
use Rattle.melt_core.proofs.Going.{poll_advances}
use Rattle.melt_core.proofs.Reading.{head_advances, head_object, range_advances}
use Rattle.melt_core.proofs.Staged.{call_again, set_found, set_twice, staged_stage}
use Rattle.melt_core.specs.Advances.{AdvancesOver, Asks, Continues, CallGoesOn, InBounds, MayMakeEvent}
use Rattle.melt_core.specs.Advances.{MayMakeEventFrom, MakesEvent, MakesEventsBy}
use Rattle.melt_core.specs.Advances.{MakesEventFrom, MakesEvents, Refuses}
use Rattle.melt_core.specs.Stages.{HasPart, Lacks, Next, ReadsAt, SearchesOn, Shares, task_of}
use Rattle.melt_core.specs.Views.{View, call_of, maps, stage_in, stage_of, state}

-- an event over the disk for which a thread asks
over : (v w : View) (t : ℕ) (o : Op) (result : StepResult) → (may : MayMakeEvent v t o) → MakesEvent v w t o result
    → AdvancesOver may.disk v w t o result
over v w t o result may moves = moves.over may.disk may.asks.stands

-- after an event that goes on the thread may make the next one
pub may_on : (v w : View) (t : ℕ) (o : Op) → MayMakeEvent v t o → MakesEvent v w t o Going → MayMakeEvent w t o
may_on v w t o may moves =
    let event : AdvancesOver may.disk v w t o Going = over v w t o Going may moves in
    let goes : CallGoesOn may.disk v w t o = event.outcome in
    let had : Asks may.disk v t o = may.asks in
    let threads : length w.held ≡ length v.held = event.others.threads in
    let log : length w.log ≡ length v.log = ap length goes.own.history in
    let within : t < length v.held = had.thread in
    let few : length v.log < 2 ^ 32 = had.few in
    let room : length v.log < v.capacity = had.room in
    let capacity : w.capacity ≡ v.capacity = event.others.capacity in
    record {
      disk = may.disk;
      asks = record {
        stands = event.keeps false (λ is. tt) had.stands;
        thread = omega (arith, threads, within);
        bounds = subst (λ (n : ℕ). InBounds n o) (sym event.others.globals) had.bounds;
        no_collect = had.no_collect;
        continued = subst (λ (c : Option Call). Continues c o) (sym goes.call) refl;
        room = omega (arith, room, log, capacity);
        few = omega (arith, few, log);
      };
    }

-- the first event of a call that goes on has read the stop word
pub polled : (v w : View) (t : ℕ) (o : Op) (task : Task) → MayMakeEvent v t o → call_of v t ≡ None
    → task_of o ≡ Some task
    → MakesEvent v w t o Going → stage_of w t ≡ Some (Polled task)
polled v w t o task may none is moves =
    let goes : CallGoesOn may.disk v w t o = (over v w t o Going may moves).outcome in
    let next = subst (λ (c : Option Call). Next (maps v) (state may.disk v) (register_in v.held t) v.stop o (stage_in c)
    goes.stage) none goes.next in
    let same : next.0 ≡ task = same_Some next.0 task (sym next.1.0 ∙ is) in
    ap stage_in goes.call ∙ ap Some (next.3 ∙ ap Polled same)

-- No call is refused in the event after such a stage: it lacks no words, searches for no home and reads no record.
pub record GoesWell (stage : Stage) : Type 0 where
  pub lacks : (need : ℕ) → Lacks (Some stage) need → ⊥
  pub searches : (search : Search) → SearchesOn (Some stage) search → ⊥
  pub reads : (home : ℕ) → ReadsAt (Some stage) home → ⊥

pub polled_well : (task : Task) → GoesWell (Polled task)
polled_well task = record { lacks = λ need is. is; searches = λ search is. is; reads = λ home is. is }

pub headed_well : (address : ℕ) (shape : Shape) (access : Access) → GoesWell (Headed address shape access)
headed_well address shape access =
    record { lacks = λ need is. is; searches = λ search is. is; reads = λ home is. is }

pub claimed_well : (address : ℕ) (shape : Shape) (stored dst : ℕ) → GoesWell (Claimed address shape stored dst)
claimed_well address shape stored dst =
    record { lacks = λ need is. is; searches = λ search is. is; reads = λ home is. is }

not_refused : (v w : View) (t : ℕ) (o : Op) (why : Refusal) (stage : Stage) → MayMakeEvent v t o
    → stage_of v t ≡ Some stage → GoesWell stage → MakesEvent v w t o (Refused why) → ⊥
not_refused v w t o why stage may is well moves = by why (over v w t o (Refused why) may moves).outcome
  where
    reads : (home : ℕ) → ReadsAt (stage_of v t) home → ⊥
    reads home at = well.reads home (subst (λ (g : Option Stage). ReadsAt g home) is at)

    by : (x : Refusal) → Refuses (Unit {0}) may.disk v w t o x → ⊥
    by (refusal.Pause Asked) refuses = let none : stage_of v t ≡ None = ap stage_in refuses.first in cc
    by (refusal.Pause (Space need)) refuses =
        well.lacks need (subst (λ (g : Option Stage). Lacks g need) is refuses.lacks)
    by (refusal.Pause Forward) refuses =
        well.searches refuses.search (subst (λ (g : Option Stage). SearchesOn g refuses.search) is refuses.searches)
    by refusal.DiskFault refuses = reads refuses.0 refuses.1.reads
    by (refusal.Damaged damaged) refuses = reads damaged.home refuses.lost.reads

-- a call of one event
pub one_event : (v w : View) (t : ℕ) (o : Op) (result : StepResult) → MakesEvent v w t o result
    → MakesEvents v w t o result
one_event v w t o result moves = record { more = 0; moves = moves; refused = λ why is. refl }

-- A call goes on, and may make its next event.
pub record MayMakeNextEvent (v w : View) (t : ℕ) (o : Op) : Type 0 where
  pub on : MakesEvents v w t o Going
  pub may : MayMakeEvent w t o

-- after its first event
pub first_on : (v w : View) (t : ℕ) (o : Op) → MayMakeEvent v t o → MakesEvent v w t o Going → MayMakeNextEvent v w t o
first_on v w t o may moves = record { on = one_event v w t o Going moves; may = may_on v w t o may moves }

append : (more : ℕ) (v : View) {u w : View} {t : ℕ} {o : Op} {result : StepResult} → MakesEventsBy more v u t o Going
    → MakesEvent u w t o result → MakesEventsBy (suc more) v w t o result
append zero v {u} before moves = (u, before, moves)
append (suc more) v {u} before moves =
    (before.0, before.1, append more before.0 before.2 moves)

-- and after one more
pub next_on : (v u w : View) (t : ℕ) (o : Op) → MayMakeNextEvent v u t o → MakesEvent u w t o Going
    → MayMakeNextEvent v w t o
next_on v u w t o goes moves = record {
  on = record {
    more = suc goes.on.more;
    moves = append goes.on.more v goes.on.moves moves;
    refused = λ why is. absurd (let wrong : Going ≡ Refused why = is in cc);
  };
  may = may_on u w t o goes.may moves;
}

-- Its last event, of those that are made in one go.
pub last_on : {v u w : View} {t : ℕ} {o : Op} {result : StepResult} {stage : Stage} → MayMakeNextEvent v u t o
    → stage_of u t ≡ Some stage → GoesWell stage → MakesEvent u w t o result → MakesEvents v w t o result
last_on {v} {u} {w} {t} {o} {stage} goes is well moves = record {
  more = suc goes.on.more;
  moves = append goes.on.more v goes.on.moves moves;
  refused = λ why refused. absurd (not_refused u w t o why stage goes.may is well
      (subst (λ (r : StepResult). MakesEvent u w t o r) refused moves));
}

-- a call that has read the stop word, which nobody set
pub polls : {v : View} {t : ℕ} {o : Op} (task : Task) → MayMakeEvent v t o → call_of v t ≡ None
    → Shares (register_in v.held t) o task → v.stop ≡ false → MayMakeNextEvent v (with_stage v t o (Polled task)) t o
polls {v} {t} {o} task may none shares runs =
    first_on v (with_stage v t o (Polled task)) t o may
    (record { over = λ disk stands. poll_advances disk v t o task (asks_over v t o may disk stands) none shares runs })

-- and then the header of the object in its register
pub heads : {v : View} {t : ℕ} {o : Op} (r : ℕ) {address : ℕ} (access : Access) (shape : Shape)
    → MayMakeNextEvent v (with_stage v t o (Polled (Use r access))) t o → address ≡ register_in v.held t r
    → ((h : Header) → IsHeader h → word_at v.space address ≡ header_word h → shape ≡ h.shape) → HasPart access shape
    → MayMakeNextEvent v (with_stage v t o (Headed address shape access)) t o
heads {v} {t} {o} r {address} access shape goes is shaped part =
    let u : View = with_stage v t o (Polled (Use r access)) in
    next_on v u (with_stage v t o (Headed address shape access)) t o goes (record {
      over = λ disk stands.
          let asks = asks_over u t o goes.may disk stands in
          let at = staged_stage v t o (Polled (Use r access)) asks in
          subst (λ (w : View). AdvancesOver disk u w t o Going) (call_again v t o (Polled (Use r access)) _)
          (head_advances asks at is (head_object shape asks at is shaped) part);
    })

-- which has no such part
pub ranges : {v : View} {t : ℕ} {o : Op} (r : ℕ) {address : ℕ} (access : Access) (shape : Shape)
    → MayMakeNextEvent v (with_stage v t o (Polled (Use r access))) t o → call_of v t ≡ None
    → address ≡ register_in v.held t r
    → ((h : Header) → IsHeader h → word_at v.space address ≡ header_word h → shape ≡ h.shape)
    → (HasPart access shape → ⊥) → MakesEvents v v t o (Answered reply.Range)
ranges {v} {t} {o} r access shape goes none is shaped lacks =
    let stage : Stage = Polled (Use r access) in
    let u : View = with_stage v t o stage in
    let over : View = with_call u t None in
    let same : over ≡ v = call_again v t o stage None
    ∙ ap (λ (calls : List (Option Call)). record v { calls = calls }) (sym (set_none v.calls t none)) in
    last_on goes (staged_stage v t o stage goes.may.asks) (polled_well (Use r access)) (record {
      over = λ disk stands.
          let asks = asks_over u t o goes.may disk stands in
          let at = staged_stage v t o stage asks in
          subst (λ (w : View). AdvancesOver disk u w t o (Answered reply.Range)) same
          (range_advances asks at (subst (λ (a : ℕ). IsObjectAt (maps v) (state disk v) a shape) is
          (head_object shape asks at is shaped)) lacks);
    })

-- the last event, of a call whose stage was not written
pub last_from : {v w : View} {t : ℕ} {o : Op} {result : StepResult} {stage : Stage}
    → MayMakeNextEvent v (with_stage v t o stage) t o → GoesWell stage → MakesEventFrom v w t o stage result
    → MakesEvents v w t o result
last_from {v} {t} {o} {stage} goes well moves =
    last_on goes (staged_stage v t o stage goes.may.asks) well moves

-- Words are stored in a region one after the other, and the stages between are written nowhere.

-- the call of a thread that makes an object, of whose words after the header so many were stored
abbrev pub making : Op → ℕ → Shape → ℕ → ℕ → Call
making o address shape stored dst = record { op = o; stage = Claimed address shape stored dst }

-- the call is as it is
pub made_none : {v w : View} {t : ℕ} {o : Op} {address dst : ℕ} {shape : Shape} → MayMakeNextEvent v w t o
    → stage_of w t ≡ Some (Claimed address shape 0 dst)
    → MayMakeNextEvent v (with_call w t (Some (making o address shape 0 dst))) t o
made_none {v} {w} {t} {o} {address} {dst} {shape} goes at =
    let call : call_of w t ≡ Some (making o address shape 0 dst) =
    call_at goes.may.disk w t o (Claimed address shape 0 dst) goes.may.asks at in
    subst (λ (calls : List (Option Call)). MayMakeNextEvent v (record w { calls = calls }) t o)
    (sym (ap (λ (c : Option Call). slice_set w.calls t c) (sym call) ∙ set_found w.calls t None)) goes

-- the next word is one of the space
pub zero_word : {v : View} {t : ℕ} {o : Op} (m : View) (address stored dst : ℕ) (shape : Shape)
    → MayMakeNextEvent v (with_call m t (Some (making o address shape stored dst))) t o → t < length m.calls
    → stored + 1 < cost_of shape → IsWord m.space (address + 1 + stored)
zero_word {v} {t} {o} m address stored dst shape goes within few =
    let call : Option Call = Some (making o address shape stored dst) in
    let known = claimed_known {dst = dst} goes.may.asks (ap stage_in (get_or-set_same m.calls t call None within)) in
    let owns = known.1.owns in
    record { first = omega (arith, owns.first); last = omega (arith, owns.within, few) }

-- and once 0 stands there, the call has gone on
pub zero_on : {v : View} {t : ℕ} {o : Op} (m : View) (space : SpaceWords) (address stored dst : ℕ) (shape : Shape)
    → MayMakeNextEvent v (with_call m t (Some (making o address shape stored dst))) t o → t < length m.calls
    → stored + 1 < cost_of shape → SetsWord m.space space (address + 1 + stored) 0
    → MayMakeNextEvent v (with_call (record m { space = space }) t (Some (making o address shape (stored + 1) dst))) t o
zero_on {v} {t} {o} m space address stored dst shape goes within few sets =
    let before : Option Call = Some (making o address shape stored dst) in
    let after : Option Call = Some (making o address shape (stored + 1) dst) in
    let u : View = with_call m t before in
    let at : stage_of u t ≡ Some (Claimed address shape stored dst) =
    ap stage_in (get_or-set_same m.calls t before None within) in
    let moves : MakesEvent u (with_call (record u { space = space }) t after) t o Going = record {
      over = λ disk stands. store_zero_advances (asks_over u t o goes.may disk stands) at few sets;
    } in
    subst (λ (calls : List (Option Call)). MayMakeNextEvent v (record m { space = space; calls = calls }) t o)
    (set_twice m.calls t before after)
    (next_on v u (with_call (record u { space = space }) t after) t o goes moves)

-- a thread that has a call is one of the threads
pub call_within : (v : View) (t : ℕ) (call : Call) → call_of v t ≡ Some call → t < length v.calls
call_within v t call is = elim (cases_lt t (length v.calls)) [
  | inl below ↦ below
  | inr past ↦ absurd (let none : None ≡ Some call = sym (get_or_past v.calls t None past) ∙ is in cc)
]

-- the last event, of a call that found the object in its register
pub uses : {v w : View} {t : ℕ} {o : Op} {result : StepResult} (found : ℕ × Shape) (access : Access)
    → MakesEvents v (with_stage v t o (Headed found.0 found.1 access)) t o Going
    → MayMakeEventFrom v t o (Headed found.0 found.1 access)
    → MakesEventFrom v w t o (Headed found.0 found.1 access) result → MakesEvents v w t o result
uses found access on may moves =
    last_from (record { on = on; may = may }) (headed_well found.0 found.1 access) moves
