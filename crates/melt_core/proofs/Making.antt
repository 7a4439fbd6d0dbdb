-- How an object is made: the events of a claim, of private stores, of the publication, and of the want of room.
use Rattle.std.proofs.Common.{◌≡◌, ℕ, ◌+◌, ◌<◌, ◌≤◌, inl, inr, List, []}
use Rattle.std.proofs.Common.{◌∷◌, ◌++◌, length, refl, sym, ◌∙◌, ap, subst, arith}
use Rattle.std.proofs.Math.ListN.{set}
use Rattle.std.proofs.lemmas.Bool.{cases_lt, eq-eqb, ne_eqb}
use Rattle.std.specs.Prelude.{Bool, false, Option, None, Some, IsSome, if◌then◌else◌}
use Rattle.std.specs.List.{filter_map, cons_option}
use Rattle.melt_model.specs.History.{made as makes, shape_made}
use Rattle.melt_model.proofs.Histories.{made-append}
use Rattle.melt_model.specs.declared.history.Entry.{Entry}
use Rattle.melt_model.specs.declared.history.Act.TheVariants.{Make}
use Rattle.melt_model.specs.declared.history.Value.{Value}
use Rattle.melt_model.specs.declared.history.Value.TheVariants.{Ref}
use Rattle.melt_model.specs.declared.operations.Op.{Op}
use Rattle.melt_model.specs.declared.operations.Op.TheVariants as op
use Rattle.melt_model.specs.declared.operations.Reply.TheVariants as reply
use Rattle.melt_word.specs.Words.{IsShape, header_word, cost_of}
use Rattle.melt_word.specs.declared.header.Shape.{Shape}
use Rattle.melt_word.specs.declared.header.Header.{Header}
use Rattle.melt_space.specs.Space.{SpaceWords, SetsWord}
use Rattle.melt_scion.specs.State.{State, IsFresh}
use Rattle.melt_scion.proofs.Geometry.{one_header}
use Rattle.melt_scion.specs.declared.heap.Names as heap
use Rattle.melt_scion.specs.Placed.{Maps, MayHold}
use Rattle.melt_scion.specs.Regions.{Region, no_region, Apart, Owns, HasStored}
use Rattle.melt_scion.specs.Changes.{FreeMoves, WordChanges, NameAppears}
use Rattle.melt_scion.specs.Heaps.{OnDisk, register_in}
use Rattle.melt_scion.specs.declared.registers.Registers.{Registers}
use Rattle.melt_core.specs.declared.answer.StepResult.TheVariants.{Going, Answered, Refused}
use Rattle.melt_core.specs.declared.answer.Refusal.TheVariants.{Pause}
use Rattle.melt_core.specs.declared.answer.Pause.TheVariants.{Space}
use Rattle.melt_core.specs.declared.call.Call.{Call}
use Rattle.melt_core.specs.declared.call.Stage.{Stage}
use Rattle.melt_core.specs.declared.call.Stage.TheVariants.{Polled, Headed, Looked, Cleared, Claimed, Lacking}
use Rattle.melt_core.specs.declared.call.Stage.TheVariants.{Searching, Missed, HeadRead, BodyRead, Copying, Copied}
use Rattle.melt_core.specs.declared.call.Stage.TheVariants.{Retrying, LackingCopy}
use Rattle.melt_core.specs.declared.call.Task.TheVariants.{Make as Making}
use Rattle.melt_core.specs.Answering.{Answers, entry}
use Rattle.melt_core.specs.Known.{Known, Evolves, region, region_of}
use Rattle.melt_core.specs.Events.{Event, claims as claims_words, publishes}
use Rattle.melt_core.specs.Stages.{Next, Fits, MustPause, Applies, Nothing, Word, Free, Publish}
use Rattle.melt_core.specs.Stages.{change_of, cleared_by, task_of, Lacks}
use Rattle.melt_core.specs.Changed.{stopped, with_call, with_register, noted}
use Rattle.melt_core.specs.Advances.{Asks, AdvancesOver, InBounds, HasRoomFor, Sets}
use Rattle.melt_core.specs.Views.{View, Standing, maps, state, shown, rest_of}
use Rattle.melt_core.specs.Views.{call_of, stage_of, claimed_in, claims_left, maps_of, numbers_of}
use Rattle.melt_core.specs.Views.{registers_in, held_value, held_values, values_of}
use Rattle.melt_core.proofs.Asked.{call_at, fits_at, known_at, inside, next_fits}
use Rattle.melt_core.proofs.Claims.{bounded_is, bounded_lacking, bounded_call}
use Rattle.melt_core.proofs.Claims.{claims_ends}
use Rattle.melt_core.proofs.Counting.{Counts_same, Counts_published, room_for}
use Rattle.melt_core.proofs.Words.{word_set}
use Rattle.melt_core.proofs.Answers.{new_answers}
use Rattle.melt_core.proofs.Evolving.{evolves_event}
use Rattle.melt_core.proofs.Staying.{hold_stays}
use Rattle.melt_core.proofs.Registers.{register_keeps, register_other, registers_other, threads_set, values_set}
use Rattle.melt_core.proofs.Values.{held_is, named_value}
use Rattle.melt_core.proofs.Going.{goes}
use Rattle.melt_core.proofs.Looks.{lacking_looks}
use Rattle.melt_core.proofs.Retaining.{others_apart}
use Rattle.melt_core.proofs.Storing.{Storing, none_stored, store_advances, stored_more}
use Rattle.melt_core.proofs.Plain.{as_told}
use Rattle.melt_core.proofs.Refusing.{pause_advances}
use Rattle.melt_core.proofs.Regions.{apart_sym, no_region_apart, claimed_owned, claimed_apart}
use Rattle.melt_core.proofs.Standing.{Happens, Made, advances, call_here, kept_own, same_rests, values_stay}
use Rattle.melt_core.proofs.Tasks.{LoadsNothing, new_is, no_load}

-- the view after a claim of so many words
abbrev pub claiming : View → ℕ → ℕ → Call → View
claiming v need t call = with_call (record v { free = v.free + need }) t (Some call)

-- the object that an operation makes is small
pub small_shape : (disk : OnDisk) (v : View) (t : ℕ) (o : Op) (dst : ℕ) (shape : Shape) → Asks disk v t o
    → task_of o ≡ Some (Making dst shape) → IsShape shape
small_shape disk v t o dst shape asks task =
    let bounds : InBounds (length v.globals) (op.New dst shape.refs shape.nums) =
    subst (InBounds (length v.globals)) (new_is o dst shape task) asks.bounds in
    record { refs = bounds.1; nums = bounds.2 }

-- one object more was made
made_one : (h : List Entry) (t : ℕ) (shape : Shape)
    → makes h + 1 ≡ makes (h ++ entry t (Make shape.refs shape.nums) ∷ [])
made_one h t shape = omega (arith, made-append h (entry t (Make shape.refs shape.nums) ∷ []))

-- what may stand in a register, where words stay
pub hold_words : (m : Maps) (s t : State) (address : ℕ) → ((k : ℕ) → t.word k ≡ s.word k) → MayHold m s address
    → MayHold m t address
hold_words m s t address same (inl nothing) = inl nothing
hold_words m s t address same (inr holds) =
    inr (
      holds.0,
      λ header starts. holds.1 header
          (record { in_range = starts.in_range; word = sym (same address) ∙ starts.word }),
    )

-- new words are apart from what a call owns
claimed_from : (told : Bool) (disk : OnDisk) (v : View) (words : ℕ) (rest : List ℕ) (stage : Stage)
    → Known told (maps v) (state disk v) rest stage
    → Apart (record { at = v.free; words = words }) (region_of stage)
claimed_from told disk v words rest (Polled task) known =
    apart_sym no_region (record { at = v.free; words = words })
    (no_region_apart (record { at = v.free; words = words }))
claimed_from told disk v words rest (Headed address shape access) known =
    apart_sym no_region (record { at = v.free; words = words })
    (no_region_apart (record { at = v.free; words = words }))
claimed_from told disk v words rest (Looked place found target dst) known =
    apart_sym no_region (record { at = v.free; words = words })
    (no_region_apart (record { at = v.free; words = words }))
claimed_from told disk v words rest (Cleared place found target dst) known =
    apart_sym no_region (record { at = v.free; words = words })
    (no_region_apart (record { at = v.free; words = words }))
claimed_from told disk v words rest (Claimed address shape stored dst) known =
    apart_sym (region address shape) (record { at = v.free; words = words })
    (claimed_apart (maps v) (state disk v) words (region address shape) known.1.owns)
claimed_from told disk v words rest (Lacking need) known =
    apart_sym no_region (record { at = v.free; words = words })
    (no_region_apart (record { at = v.free; words = words }))
claimed_from told disk v words rest (Searching search) known =
    apart_sym no_region (record { at = v.free; words = words })
    (no_region_apart (record { at = v.free; words = words }))
claimed_from told disk v words rest (Missed search) known =
    apart_sym no_region (record { at = v.free; words = words })
    (no_region_apart (record { at = v.free; words = words }))
claimed_from told disk v words rest (HeadRead search shape) known =
    apart_sym no_region (record { at = v.free; words = words })
    (no_region_apart (record { at = v.free; words = words }))
claimed_from told disk v words rest (BodyRead search shape) known =
    apart_sym no_region (record { at = v.free; words = words })
    (no_region_apart (record { at = v.free; words = words }))
claimed_from told disk v words rest (Copying a stored) known =
    apart_sym (region a.address a.shape) (record { at = v.free; words = words })
    (claimed_apart (maps v) (state disk v) words (region a.address a.shape) known.1.owns)
claimed_from told disk v words rest (Copied a) known =
    apart_sym (region a.address a.shape) (record { at = v.free; words = words })
    (claimed_apart (maps v) (state disk v) words (region a.address a.shape) known.0.copy.owns)
claimed_from told disk v words rest (Retrying a) known =
    apart_sym (region a.address a.shape) (record { at = v.free; words = words })
    (claimed_apart (maps v) (state disk v) words (region a.address a.shape) known.copy.owns)
claimed_from told disk v words rest (LackingCopy search shape) known =
    apart_sym no_region (record { at = v.free; words = words })
    (no_region_apart (record { at = v.free; words = words }))

-- The stages around a claim for an object of the shape: the one before it, that where there is room for the object, and
-- that where there is none. And what the claim asks of each.
pub record AroundClaim (disk : OnDisk) (v : View) (t : ℕ) (o : Op) (shape : Shape) (before room none : Stage) : Type 0
  where
    pub asks : Asks disk v t o
    pub at : stage_of v t ≡ Some before
    pub small : IsShape shape
    pub no_clear : cleared_by (Some before) ≡ 0
    pub unclaimed : (region_of before).words ≡ 0
    pub may_claim : claims_left v.stop (Some before) ≡ 1
    pub no_claim : claims_left v.stop (Some none) ≡ 0
    pub owns : region_of room ≡ region v.free shape
    pub owns_none : region_of none ≡ no_region
    pub change : change_of (state disk v) (register_in v.held t) (rest_of v t) (Some before)
        ≡ Free (v.free + cost_of shape)
    pub next : (stage : Stage) → (v.free + cost_of shape ≤ length v.space.list + 1 → stage ≡ room)
        → (length v.space.list + 1 < v.free + cost_of shape → stage ≡ none)
        → Next (maps v) (state disk v) (register_in v.held t) v.stop o (Some before) stage
    pub known : (told : Bool) → Standing told disk v → (s : State) → Evolves (maps v) (maps v) (state disk v) s 0
        → Owns (maps v) s (region v.free shape) → Known told (maps v) s (rest_of v t) room
    pub known_none : (told : Bool) → Standing told disk v → (s : State) → Evolves (maps v) (maps v) (state disk v) s 0
        → s.base.size + 1 < s.free → Known told (maps v) s (rest_of v t) none

-- those of a claim for a new object
pub around_make : (disk : OnDisk) (v : View) (t : ℕ) (o : Op) (dst : ℕ) (shape : Shape) → Asks disk v t o
    → stage_of v t ≡ Some (Polled (Making dst shape))
    → AroundClaim disk v t o shape (Polled (Making dst shape)) (Claimed v.free shape 0 dst) (Lacking (cost_of shape))
around_make disk v t o dst shape asks at =
    let small : IsShape shape =
    small_shape disk v t o dst shape asks (fits_at disk v t o (Polled (Making dst shape)) asks at).0 in
    record {
      asks = asks;
      at = at;
      small = small;
      no_clear = refl;
      unclaimed = refl;
      may_claim = refl;
      no_claim = refl;
      owns = refl;
      owns_none = refl;
      change = refl;
      next = λ stage fits lacks. (fits, lacks);
      known = λ told stands s evolves owns. (small, none_stored (maps v) s v.free shape (λ k. 0) owns);
      known_none = λ told stands s evolves above. above;
    }

-- What a claim shows: its words, and that the call knows whether they end past the last one.
pub record Claiming (disk : OnDisk) (v : View) (t need : ℕ) (o : Op) (shape : Shape) (before room none stage : Stage)
    : Type 0 where
  pub around : AroundClaim disk v t o shape before room none
  pub needed : need ≡ cost_of shape
  pub fits : v.free + need ≤ length v.space.list + 1 → stage ≡ room
  pub lacks : length v.space.list + 1 < v.free + need → stage ≡ none

claim_next : (disk : OnDisk) {v : View} {t need : ℕ} {o : Op} {shape : Shape} {before room none stage : Stage}
    → Claiming disk v t need o shape before room none stage
    → Next (maps v) (state disk v) (register_in v.held t) v.stop o (stage_of v t) stage
claim_next disk {v} {t} {need} {o} {shape} {before} {room} {none} {stage} is =
    subst (λ (g : Option Stage). Next (maps v) (state disk v) (register_in v.held t) v.stop o g stage)
    (sym is.around.at)
    (is.around.next stage (λ below. is.fits (omega (arith, is.needed))) (λ above. is.lacks (omega (arith, is.needed))))

claim_moves : (disk : OnDisk) {v : View} {t need : ℕ} {o : Op} {shape : Shape} {before room none stage : Stage}
    → Claiming disk v t need o shape before room none stage
    → FreeMoves (state disk v) (state disk (claiming v need t (record { op = o; stage = stage })))
    (v.free + cost_of shape)
claim_moves disk is = record {
  base = refl;
  is = omega (arith, is.needed);
  word = λ k. refl;
  global = λ g. refl;
  forward = λ p. refl;
}

-- how it happens
claim_happens : (disk : OnDisk) {v : View} {t need : ℕ} {o : Op} {shape : Shape} {before room none stage : Stage}
    (told : Bool)
    → Claiming disk v t need o shape before room none stage → Standing told disk v →
    Happens disk told v (claiming v need t (record { op = o; stage = stage })) t no_region (cleared_by (stage_of v t))
    None
    (Some (record { op = o; stage = stage }))
claim_happens disk {v} {t} {need} {o} {shape} {before} {room} {none} {stage} told claim s =
    let around : AroundClaim disk v t o shape before room none = claim.around in
    let asks : Asks disk v t o = around.asks in
    let after : Call = record { op = o; stage = stage } in
    let w : View = claiming v need t after in
    let needed : need ≡ cost_of shape = claim.needed in
    let moves : FreeMoves (state disk v) (state disk w) (v.free + cost_of shape) = claim_moves disk claim in
    let unclaimed : claimed_in (call_of v t) ≡ 0 =
    ap claimed_in (call_at disk v t o before asks around.at) ∙ around.unclaimed in
    let first : 1 ≤ v.free = s.first in
    let clears : cleared_by (stage_of v t) ≡ 0 = ap cleared_by around.at ∙ around.no_clear in
    let event : (now : Bool) → Event now v.log (maps v) (maps w) (state disk v) (state disk w) no_region 0 None =
    λ now. claims_words (cost_of shape) refl moves in
    let evolves : Evolves (maps v) (maps w) (state disk v) (state disk w) 0 =
    evolves_event told v.log (maps v) (maps w) (state disk v) (state disk w) no_region 0 None s.holds.formed
    (event told) in
    let no_words : length v.space.list + 1 < v.free + need → region_of stage ≡ no_region =
    λ above. ap region_of (claim.lacks above) ∙ around.owns_none in
    let words : v.free + need ≤ length v.space.list + 1 → region_of stage ≡ region v.free shape =
    λ below. ap region_of (claim.fits below) ∙ around.owns in
    record {
      event = subst (λ (k : ℕ). Event told v.log (maps v) (maps w) (state disk v) (state disk w) no_region k None)
          (sym clears) (event told);
      kept = kept_own disk told v w t (Some after) s refl;
      first = omega arith;
      bounded = elim (cases_lt (length v.space.list + 1) (v.free + need)) [
        | inl above ↦
            let few : need ≤ 126 = let refs : shape.refs ≤ 62 = around.small.refs in let nums : shape.nums ≤ 62 =
            around.small.nums in omega arith in
            bounded_is w (length v.space.list) (v.free + need) v.stop (set v.calls t (Some after)) refl
            refl refl refl
            (bounded_lacking (length v.space.list) v.free v.stop v.calls t (Some after) (inside disk v t o asks)
            (ap (claims_left v.stop) around.at ∙ around.may_claim)
            (ap (λ (g : Stage). claims_left v.stop (Some g)) (claim.lacks above) ∙ around.no_claim) few s.bounded)
        | inr below ↦ inl below
      ];
      may_hold = λ r. hold_words (maps v) (state disk v) (state disk w) (register_in v.held t r) (λ k. refl)
          (s.registers t r);
      known = λ c is. subst (λ (d : Call). Known told (maps w) (state disk w) (rest_of v t) d.stage)
          (let e : after ≡ c = cc in e) (elim (cases_lt (length v.space.list + 1) (v.free + need)) [
            | inl above ↦ subst (Known told (maps w) (state disk w) (rest_of v t)) (sym (claim.lacks above))
                (around.known_none told s (state disk w) evolves above)
            | inr below ↦ subst (Known told (maps w) (state disk w) (rest_of v t)) (sym (claim.fits below))
                (around.known told s (state disk w) evolves
                (claimed_owned (maps v) (state disk v) (state disk w) (cost_of shape) s.holds.formed first
                (omega arith)
                moves))
          ]);
      fits = λ c is. subst (λ (d : Call). Fits (register_in v.held t) d.op d.stage) (let e : after ≡ c = cc in e)
          (next_fits (maps v) (state disk v) (register_in v.held t) v.stop o stage asks.continued
          (λ d is_d. s.fits t d is_d) (claim_next disk claim));
      mine_is = λ u d differ is. no_region_apart (region_of d.stage);
      apart = λ c is u d differ other. subst (λ (x : Call). Apart (region_of x.stage) (region_of d.stage))
          (let e : after ≡ c = cc in e) (elim (cases_lt (length v.space.list + 1) (v.free + need)) [
            | inl above ↦ subst (λ (r : Region). Apart r (region_of d.stage)) (sym (no_words above))
                (no_region_apart (region_of d.stage))
            | inr below ↦ subst (λ (r : Region). Apart r (region_of d.stage)) (sym (words below))
                (claimed_from told disk v (cost_of shape) (rest_of v u) d.stage (s.known u d other))
          ]);
      counts = λ is. elim (cases_lt (length v.space.list + 1) (v.free + need)) [
        | inl above ↦
            let none : claimed_in (Some after) ≡ 0 = ap (λ (r : Region). r.words) (no_words above) in
            Counts_same disk v w t (Some after) (as_told disk told v is s) asks.thread refl (record {
              names = refl;
              words = refl;
              calls = refl;
              below = omega arith;
              within = inl (omega arith);
            })
        | inr below ↦
            let cost : claimed_in (Some after) ≡ cost_of shape = ap (λ (r : Region). r.words) (words below) in
            Counts_same disk v w t (Some after) (as_told disk told v is s) asks.thread refl
            (record { names = refl; words = refl; calls = refl; below = omega arith; within = inr (omega arith) })
      ];
    }

-- Words were claimed.
pub claim_advances : (disk : OnDisk) {v : View} {t need : ℕ} {o : Op} {shape : Shape} {before room none stage : Stage}
    → Claiming disk v t need o shape before room none stage
    → AdvancesOver disk v (claiming v need t (record { op = o; stage = stage })) t o Going
claim_advances disk {v} {t} {need} {o} {shape} {before} {room} {none} {stage} claim =
    let around : AroundClaim disk v t o shape before room none = claim.around in
    let after : Call = record { op = o; stage = stage } in
    let w : View = claiming v need t after in
    let made : Made disk v w t (cleared_by (stage_of v t)) = record {
      mine = no_region;
      act = None;
      after = Some after;
      happens = λ told stands. claim_happens disk told claim stands;
    } in
    advances Going around.asks made refl
    (subst (λ (g : Option Stage). Applies (maps v) (maps w) (state disk v) (state disk w)
    (change_of (state disk v) (register_in v.held t) (rest_of v t) g)) (sym around.at)
    (subst (Applies (maps v) (maps w) (state disk v) (state disk w)) (sym around.change) (
      refl,
      claim_moves disk claim,
    ))) (goes disk v w t o stage around.asks (claim_next disk claim) refl
    (record { history = refl; registers = refl; values = refl }) refl) tt

-- a call whose region is at a place
pub claimed_known : {disk : OnDisk} {v : View} {t : ℕ} {o : Op} {address stored dst : ℕ} {shape : Shape} → Asks disk v t o
    → stage_of v t ≡ Some (Claimed address shape stored dst)
    → IsShape shape × HasStored (maps v) (state disk v) (region address shape) (λ k. 0) stored
claimed_known {disk} {v} {t} {o} {address} {stored} {dst} {shape} asks at =
    known_at disk v t o (Claimed address shape stored dst) asks
    at

-- A word after the header was stored.
pub store_zero_advances : {disk : OnDisk} {v : View} {space : SpaceWords} {t : ℕ} {o : Op} {address stored dst : ℕ}
    {shape : Shape} → Asks disk v t o → stage_of v t ≡ Some (Claimed address shape stored dst)
    → stored + 1 < cost_of shape → SetsWord v.space space (address + 1 + stored) 0
    → AdvancesOver disk v (with_call (record v { space = space }) t (Some (record {
      op = o;
      stage = Claimed address
          shape (stored + 1) dst;
    }))) t o Going
store_zero_advances {disk} {v} {space} {t} {o} {address} {stored} {dst} {shape} asks at few sets =
    let known = claimed_known asks at in
    let storing : Storing disk v space t (address + 1 + stored) 0 o (Claimed address shape stored dst)
    (Claimed address shape (stored + 1) dst) =
    record {
      asks = asks;
      at = at;
      sets = sets;
      owns = known.1.owns;
      from = omega arith;
      to = omega arith;
      keeps = refl;
      no_clear = refl;
      change = ap (λ (b : Bool). if b then Publish address shape else Word (address + 1 + stored) 0)
          (ne_eqb (stored + 1) (cost_of shape) (λ e. omega arith));
      next = (few, refl);
      known = λ told stands s evolves owns changes. (
        known.0,
        stored_more known.1 owns (omega arith) refl few changes,
      );
    } in
    store_advances disk storing

-- a call that lacks words changes none
lacks_still : (s : State) (register : ℕ → ℕ) (rest : List ℕ) (stage : Option Stage) (need : ℕ) → Lacks stage need
    → change_of s register rest stage ≡ Nothing
lacks_still s register rest (Some (Lacking words)) need lacks = refl
lacks_still s register rest (Some (LackingCopy search shape)) need lacks = refl
lacks_still s register rest stage need lacks = absurd lacks

-- The call is refused for want of room, and the stop word is set.
pub lack_advances : (disk : OnDisk) (v : View) (t need : ℕ) (o : Op) → Asks disk v t o → Lacks (stage_of v t) need
    → AdvancesOver disk v (with_call (stopped v) t None) t o (Refused (Pause (Space need)))
lack_advances disk v t need o asks lacks =
    pause_advances disk v t o (Space need) asks
    (lacks_still (state disk v) (register_in v.held t) (rest_of v t) (stage_of v t) need lacks) (record {
      lacks = lacks;
      call = call_here v (with_call (stopped v) t None) t None refl (inside disk v t o asks);
      own = record { history = refl; registers = refl; values = refl };
      stop = refl;
      looks = lacking_looks disk v t o need asks lacks;
    })

-- the view after the publication of an object
abbrev pub published : View → SpaceWords → Option heap.Names → ℕ → Shape → ℕ → ℕ → View
published v space names t shape dst address =
    with_call (with_register (noted (record v { space = space; names = names; made = v.made + 1 })
    (entry t (Make shape.refs shape.nums))) t dst address) t None

-- What the publication of an object shows: its header was stored, and its address has a name.
pub record Publishing (disk : OnDisk) (v : View) (space : SpaceWords) (names : Option heap.Names) (t word : ℕ) (o : Op)
    (address stored dst : ℕ) (shape : Shape) : Type 0 where
  pub asks : Asks disk v t o
  pub at : stage_of v t ≡ Some (Claimed address shape stored dst)
  pub all : stored + 1 ≡ cost_of shape
  pub header : word ≡ header_word (record { shape = shape; stale = false })
  pub sets : SetsWord v.space space address word
  pub named : IsSome names
  pub size : length (numbers_of names) ≡ length (numbers_of v.names)
  pub appears : NameAppears (maps_of v.names) (maps_of names) address v.made

-- An object was made.
pub publish_advances : (disk : OnDisk) {v : View} {space : SpaceWords} {names : Option heap.Names} {t word : ℕ} {o : Op}
    {address stored dst : ℕ} {shape : Shape} → Publishing disk v space names t word o address stored dst shape
    → AdvancesOver disk v (published v space names t shape dst address) t o (Answered reply.Done)
publish_advances disk {v} {space} {names} {t} {word} {o} {address} {stored} {dst} {shape} made_it =
    let asks : Asks disk v t o = made_it.asks in
    let at : stage_of v t ≡ Some (Claimed address shape stored dst) = made_it.at in
    let all : stored + 1 ≡ cost_of shape = made_it.all in
    let appears : NameAppears (maps_of v.names) (maps_of names) address v.made = made_it.appears in
    let s : Standing false disk v = asks.stands in
    let stage : Stage = Claimed address shape stored dst in
    let before : Call = record { op = o; stage = stage } in
    let w : View = published v space names t shape dst address in
    let within : t < length v.calls = inside disk v t o asks in
    let known = claimed_known asks at in
    let call : call_of v t ≡ Some before = call_at disk v t o stage asks at in
    let header : Header = record { shape = shape; stale = false } in
    let task : task_of o ≡ Some (Making dst shape) = fits_at disk v t o stage asks at in
    let same : o ≡ op.New dst shape.refs shape.nums = new_is o dst shape task in
    let changed : (held : List Registers)
    → WordChanges (state disk v) (shown disk v space held v.free) address (header_word header) =
    λ held. subst (WordChanges (state disk v) (shown disk v space held v.free) address) made_it.header
    (word_set disk v space held address word made_it.sets) in
    let changes : WordChanges (state disk v) (state disk w) address (header_word header) = changed w.held in
    let named : NameAppears (maps v) (maps w) address (makes v.log) =
    subst (NameAppears (maps v) (maps w) address) s.counted appears in
    let event : (told : Bool) → Event told v.log (maps v) (maps w) (state disk v) (state disk w) (region address shape)
    0
    (Some (Make shape.refs shape.nums)) =
    λ told. publishes address stored shape known.0 known.1 all changes named in
    let evolves : Evolves (maps v) (maps w) (state disk v) (state disk w) 0 =
    evolves_event false v.log (maps v) (maps w) (state disk v) (state disk w) (region address shape) 0
    (Some (Make shape.refs shape.nums)) s.holds.formed (event false) in
    let fresh : IsFresh (state disk w) address =
    λ h starts. ap (λ (x : Header). x.stale)
    (one_header (state disk w) address h header starts (record { in_range = known.0; word = changes.here })) in
    let object : held_value names address ≡ Ref (makes v.log) =
    held_is names address (Ref v.made) (named_value names address v.made appears.here) ∙ ap Ref s.counted in
    let made : Made disk v w t (cleared_by (stage_of v t)) = record {
      mine = region address shape;
      act = Some (Make shape.refs shape.nums);
      after = None;
      happens = λ told stands. record {
        event = subst (λ (k : ℕ). Event told v.log (maps v) (maps w) (state disk v) (state disk w)
            (region address shape) k
            (Some (Make shape.refs shape.nums))) (sym (ap cleared_by at)) (event told);
        kept = record {
          log = refl;
          calls = refl;
          threads = threads_set (record v { names = names }) t dst address;
          others = λ u differ. registers_other v.held t u (set (registers_in v.held t) dst address) differ;
          named = made_it.named;
          room = made_it.size;
          scions = refl;
          rests = same_rests v w t refl;
          made = ap (λ (n : ℕ). n + 1) stands.counted ∙ made_one v.log t shape;
        };
        first = stands.first;
        bounded = bounded_is w (length v.space.list) v.free v.stop (set v.calls t None) made_it.sets.size refl refl refl
            (bounded_call (length v.space.list) v.free v.stop v.calls t None within
            (claims_ends v.stop (stage_of v t) (λ need lacks. subst (λ (g : Option Stage). Lacks g need) at lacks))
            stands.bounded);
        may_hold = register_keeps (MayHold (maps w) (state disk w)) v t dst address asks.thread
            (inr ((makes v.log, named.here), fresh))
            (λ k. hold_stays (maps v) (maps w) (state disk v) (state disk w) 0 s.holds.formed evolves
            (register_in v.held t k)
            (s.registers t k));
        known = λ c none. absurd (cc);
        fits = λ c none. absurd (cc);
        mine_is = others_apart asks at;
        apart = λ c none. absurd (cc);
        counts = λ x. Counts_published w t (entry t (Make shape.refs shape.nums)) (as_told disk told v x stands)
            asks.thread call refl named refl refl refl made_it.sets.size refl;
      };
    } in
    let stay : (u : ℕ) → held_values names (registers_in v.held u) ≡ values_of v u =
    λ u. values_stay disk v (record w { held = v.held }) u 0 s
    (evolves_event false v.log (maps v) (maps w) (state disk v) (state disk (record w { held = v.held }))
    (region address shape) 0
    (Some (Make shape.refs shape.nums)) s.holds.formed
    (publishes address stored shape known.0 known.1 all (changed v.held) named)) refl in
    advances (Answered reply.Done) asks made refl
    (subst (λ (g : Option Stage). Applies (maps v) (maps w) (state disk v) (state disk w)
    (change_of (state disk v) (register_in v.held t) (rest_of v t) g)) (sym at)
    (subst (λ (b : Bool). Applies (maps v) (maps w) (state disk v) (state disk w)
    (if b then Publish address shape else Word (address + 1 + stored) 0))
    (sym (eq-eqb (stored + 1) (cost_of shape) all)) (changes, (v.made, appears)))) (record {
      last = λ next goes. let more : (stored + 1 < cost_of shape) × (next ≡ Claimed address shape (stored + 1) dst) =
          subst (λ (g : Option Stage). Next (maps v) (state disk v) (register_in v.held t) v.stop o g next) at goes in
          let few : stored + 1 < cost_of shape = more.0 in omega arith;
      no_pause = λ pause. subst (MustPause (length v.forward) (register_in v.held t) v.stop o) at pause;
      call = call_here v w t None refl within;
      answers = λ told. subst (λ (p : Op). Answers t v.log (values_of v t) p reply.Done w.log (values_of w t))
          (sym same)
          (new_answers t v.log (values_of v t) dst shape.refs shape.nums refl
          (values_set (record v { names = names }) t dst address asks.thread
          ∙ (ap (λ (vs : List Value). set vs dst (held_value names address)) (stay t)
          ∙ ap (set (values_of v t) dst) object)) refl);
      history = (Some (Make shape.refs shape.nums), refl);
      registers = λ r other. register_other v t dst address r asks.thread
          (λ e. other (subst (λ (p : Op). Sets p r) (sym same) e));
      stop = refl;
      room = λ told. subst (HasRoomFor disk.end v) (sym same)
          (room_for t told asks.thread call refl);
    }) (λ place d loads there tagged. no_load (register_in v.held t) o place d (subst LoadsNothing (sym task) tt) loads)

-- no more objects were made than the history has entries
cons_fewer : {Y : Type 0} (o : Option Y) (ys : List Y) → length (cons_option o ys) ≤ length ys + 1
cons_fewer None ys = omega arith
cons_fewer (Some y) ys = omega arith

filter_map_fewer : {X Y : Type 0} (h : X → Option Y) (xs : List X) → length (filter_map h xs) ≤ length xs
filter_map_fewer h [] = omega arith
filter_map_fewer h (x ∷ xs) = omega (arith, cons_fewer (h x) (filter_map h xs), filter_map_fewer h xs)

pub made_few : (disk : OnDisk) (v : View) (t : ℕ) (o : Op) → Asks disk v t o → v.made < 4294967296
made_few disk v t o asks =
    let counted : v.made ≡ makes v.log = asks.stands.counted in
    let few : length v.log < 4294967296 = asks.few in
    let fewer : makes v.log ≤ length v.log = filter_map_fewer (λ (e : Entry). shape_made e.act) v.log in
    omega arith
