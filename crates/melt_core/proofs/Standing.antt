-- What an event of one thread has to show, so that all stands after it as before.
use Rattle.std.proofs.Common.{◌≡◌, ◌≢◌, ℕ, ◌<◌, ◌≤◌, ◌⊎◌, inl, inr, List, length, get_or, refl, sym, ◌∙◌, ap, subst}
use Rattle.std.proofs.Common.{arith}
use Rattle.std.proofs.Math.ListN.{set, length-set}
use Rattle.std.proofs.lemmas.Bool.{cases_eq, cases_lt}
use Rattle.std.proofs.lemmas.List.{get_or-set_same, get_or-set_other, get_or_past}
use Rattle.std.specs.Prelude.{Bool, true, false, [], Option, None, Some, IsSome, slice_index}
use Rattle.melt_model.specs.History.{made as makes, Legal}
use Rattle.melt_model.specs.declared.history.Entry.{Entry}
use Rattle.melt_model.specs.Thread.{value_in}
use Rattle.melt_model.specs.declared.history.Act.{Act}
use Rattle.melt_model.specs.declared.history.Value.{Value}
use Rattle.melt_model.specs.declared.operations.Op.{Op}
use Rattle.melt_scion.specs.State.{Base}
use Rattle.melt_scion.specs.Placed.{MayHold, Holds, value_at}
use Rattle.melt_scion.specs.Regions.{Region, Apart}
use Rattle.melt_scion.specs.Heaps.{AreScionsFor, OnDisk, register_in}
use Rattle.melt_core.specs.declared.call.Call.{Call}
use Rattle.melt_core.specs.declared.answer.StepResult.{StepResult}
use Rattle.melt_core.specs.Answering.{with_entry}
use Rattle.melt_core.specs.Advances.{AdvancesWhere, AdvancesOver, Asks, StepOutcome, LeavesClean}
use Rattle.melt_core.specs.Known.{Known, Evolves, region_of}
use Rattle.melt_core.specs.Stages.{Fits, Applies, change_of, cleared_by}
use Rattle.melt_core.specs.Events.{Event, Keeps}
use Rattle.melt_core.specs.Views.{View, Standing, Counts, Bounded, maps, state, maps_of, numbers_of}
use Rattle.melt_core.specs.Views.{registers_in, call_of, stage_of, rest_of, values_of, held_value, held_values}
use Rattle.melt_core.proofs.Keeping.{event_keeps}
use Rattle.melt_core.proofs.Staying.{known_stays, hold_stays, held_value_stays}
use Rattle.melt_core.proofs.Values.{same_values, value_held, may_value}
use Rattle.melt_core.proofs.Regions.{apart_sym}
use Rattle.melt_core.proofs.WordsMade.{keeps_made}

-- the buffers are as long as before, and those of the other threads stay
pub record KeepsRests (v w : View) (t : ℕ) : Type 0 where
  pub buffers : length w.records ≡ length v.records
  pub size : (u : ℕ) → length (rest_of w u) ≡ length (rest_of v u)
  pub others : (u : ℕ) → u ≢ t → rest_of w u ≡ rest_of v u

pub same_rests : (v w : View) (t : ℕ) → w.records ≡ v.records → KeepsRests v w t
same_rests v w t same = record {
  buffers = ap length same;
  size = λ u. ap (λ (rs : List (List ℕ)). length (get_or rs u [])) same;
  others = λ u differ. ap (λ (rs : List (List ℕ)). get_or rs u []) same;
}

-- What an event keeps: calls and registers of the others, the count of objects, and a table of names as long as before.
pub record Kept (v w : View) (t : ℕ) (act : Option Act) (after : Option Call) : Type 0 where
  pub log : w.log ≡ with_entry t v.log act
  pub calls : w.calls ≡ set v.calls t after
  pub threads : length w.held ≡ length v.held
  pub others : (u : ℕ) → u ≢ t → registers_in w.held u ≡ registers_in v.held u
  pub named : IsSome w.names
  pub room : length (numbers_of w.names) ≡ length (numbers_of v.names)
  pub scions : w.scions ≡ v.scions
  pub rests : KeepsRests v w t
  pub made : w.made ≡ makes w.log

-- an event that leaves registers, names and history
pub kept_own : (disk : OnDisk) (told : Bool) (v w : View) (t : ℕ) (after : Option Call) → Standing told disk v
    → w ≡ record v { space = w.space; calls = set v.calls t after; free = w.free; stop = w.stop }
    → Kept v w t None after
kept_own disk told v w t after s moves = record {
  log = ap (λ (x : View). x.log) moves;
  calls = ap (λ (x : View). x.calls) moves;
  threads = ap (λ (x : View). length x.held) moves;
  others = λ u differ. ap (λ (x : View). registers_in x.held u) moves;
  named = subst (λ (x : View). IsSome x.names) (sym moves) s.named;
  room = ap (λ (x : View). length (numbers_of x.names)) moves;
  scions = ap (λ (x : View). x.scions) moves;
  rests = same_rests v w t (ap (λ (x : View). x.records) moves);
  made = subst (λ (x : View). x.made ≡ makes x.log) (sym moves) s.counted;
}

-- One event of a thread, whose call is this after it.
pub record Happens (disk : OnDisk) (told : Bool) (v w : View) (t : ℕ) (mine : Region) (cleared : ℕ) (act : Option Act)
    (after : Option Call) : Type 0 where
  pub event : Event told v.log (maps v) (maps w) (state disk v) (state disk w) mine cleared act
  pub kept : Kept v w t act after
  pub first : 1 ≤ w.free
  pub bounded : Bounded w
  pub may_hold : (r : ℕ) → MayHold (maps w) (state disk w) (register_in w.held t r)
  pub known : (c : Call) → after ≡ Some c → Known told (maps w) (state disk w) (rest_of w t) c.stage
  pub fits : (c : Call) → after ≡ Some c → Fits (register_in w.held t) c.op c.stage
  pub mine_is : (u : ℕ) (d : Call) → u ≢ t → call_of v u ≡ Some d → Apart mine (region_of d.stage)
  pub apart : (c : Call) → after ≡ Some c → (u : ℕ) (d : Call) → u ≢ t → call_of v u ≡ Some d
      → Apart (region_of c.stage) (region_of d.stage)
  pub counts : told ≡ true → Counts w

-- a call in flight where one thread's call was set is that one, or was there before
set_call : (calls : List (Option Call)) (t u : ℕ) (call : Option Call) (c : Call)
    → get_or (set calls t call) u None ≡ Some c → ((u ≡ t) × (call ≡ Some c))
    ⊎ ((u ≢ t) × (get_or calls u None ≡ Some c))
set_call calls t u call c is =
    let size : length (set calls t call) ≡ length calls = length-set calls t call in
    elim (cases_eq u t) [
      | inl same ↦ elim (cases_lt u (length calls)) [
        | inl below ↦ inl (
          same,
          sym (get_or-set_same calls t call None (omega arith))
              ∙ (ap (λ (k : ℕ). get_or (set calls t call) k None) (sym same) ∙ is),
        )
        | inr past ↦ absurd (let none : get_or (set calls t call) u None ≡ None =
            get_or_past (set calls t call) u None (omega arith) in cc)
      ]
      | inr differ ↦ inr (differ, sym (get_or-set_other calls t u call None differ) ∙ is)
    ]

-- a call in flight after the event
call_after : (v w : View) (t u : ℕ) (call : Option Call) (c : Call) → w.calls ≡ set v.calls t call
    → call_of w u ≡ Some c → ((u ≡ t) × (call ≡ Some c)) ⊎ ((u ≢ t) × (call_of v u ≡ Some c))
call_after v w t u call c sets is =
    set_call v.calls t u call c (ap (λ (cs : List (Option Call)). get_or cs u None) (sym sets) ∙ is)

-- the call of the thread is the one that was set
pub call_here : (v w : View) (t : ℕ) (call : Option Call) → w.calls ≡ set v.calls t call → t < length v.calls
    → call_of w t ≡ call
call_here v w t call sets within = ap (λ (cs : List (Option Call)). get_or cs t None) sets
    ∙ get_or-set_same v.calls t call None within

-- and those of the others stay
pub call_there : (v w : View) (t u : ℕ) (call : Option Call) → w.calls ≡ set v.calls t call → u ≢ t
    → call_of w u ≡ call_of v u
call_there v w t u call sets differ = ap (λ (cs : List (Option Call)). get_or cs u None) sets
    ∙ get_or-set_other v.calls t u call None differ

-- after such an event all stands
pub stands_after : {disk : OnDisk} {told : Bool} {v w : View} {t : ℕ} {mine : Region} {cleared : ℕ} {act : Option Act}
    {after : Option Call} → Standing told disk v → Happens disk told v w t mine cleared act after → Standing told disk w
stands_after {disk} {told} {v} {w} {t} {mine} {cleared} {act} {after} s e =
    let keeps : Keeps told v.log (with_entry t v.log act) (maps v) (maps w) (state disk v) (state disk w) mine cleared =
    event_keeps told t v.log (maps v) (maps w) (state disk v) (state disk w) mine cleared act s.legal s.holds e.event in
    let evolves : Evolves (maps v) (maps w) (state disk v) (state disk w) cleared = keeps.evolves in
    let size : length w.space.list ≡ length v.space.list = ap (λ (b : Base). b.size) evolves.base in
    record {
      named = e.kept.named;
      room = e.kept.room ∙ (s.room ∙ sym size);
      scions_made = subst (AreScionsFor (length w.space.list)) (sym e.kept.scions)
          (subst (λ (n : ℕ). AreScionsFor n v.scions) (sym size) s.scions_made);
      few = omega (arith, s.few, e.kept.threads);
      each = ap length e.kept.calls ∙ (length-set v.calls t after ∙ (s.each ∙ sym e.kept.threads));
      buffers = e.kept.rests.buffers ∙ (s.buffers ∙ sym e.kept.threads);
      rests = λ u below. e.kept.rests.size u ∙ s.rests u (subst (λ (n : ℕ). u < n) e.kept.threads below);
      counted = e.kept.made;
      first = e.first;
      bounded = e.bounded;
      holds = subst (λ (h : List Entry). Holds told h (maps w) (state disk w)) (sym e.kept.log) keeps.holds;
      legal = λ is. subst (λ (h : List Entry). Legal h (length w.globals)) (sym e.kept.log) (keeps.legal is);
      registers = λ u r. elim (cases_eq u t) [
        | inl same ↦ subst (λ (k : ℕ). MayHold (maps w) (state disk w) (register_in w.held k r)) (sym same)
            (e.may_hold r)
        | inr differ ↦
            subst (λ (regs : List ℕ). MayHold (maps w) (state disk w) (slice_index regs r))
            (sym (e.kept.others u differ))
            (hold_stays (maps v) (maps w) (state disk v) (state disk w) cleared s.holds.formed evolves
            (register_in v.held u r)
            (s.registers u r))
      ];
      known = λ u c is. elim (call_after v w t u after c e.kept.calls is) [
        | inl here ↦ subst (λ (k : ℕ). Known told (maps w) (state disk w) (rest_of w k) c.stage) (sym here.0)
            (e.known c here.1)
        | inr there ↦ subst (λ (rest : List ℕ). Known told (maps w) (state disk w) rest c.stage)
            (sym (e.kept.rests.others u there.0))
            (known_stays (maps v) (maps w) (state disk v) (state disk w) cleared s.holds.formed evolves told
            (rest_of v u)
            c.stage
            (λ owns. keeps.regions (region_of c.stage) owns (e.mine_is u c there.0 there.1)) (s.known u c there.1))
      ];
      fits = λ u c is. elim (call_after v w t u after c e.kept.calls is) [
        | inl here ↦ subst (λ (k : ℕ). Fits (register_in w.held k) c.op c.stage) (sym here.0) (e.fits c here.1)
        | inr there ↦ subst (λ (regs : List ℕ). Fits (slice_index regs) c.op c.stage) (sym (e.kept.others u there.0))
            (s.fits u c there.1)
      ];
      apart = λ a b c d differ first second. elim (call_after v w t a after c e.kept.calls first) [
        | inl here ↦ elim (call_after v w t b after d e.kept.calls second) [
          | inl also ↦ absurd (differ (here.0 ∙ sym also.0))
          | inr there ↦ e.apart c here.1 b d there.0 there.1
        ]
        | inr there ↦ elim (call_after v w t b after d e.kept.calls second) [
          | inl here ↦ apart_sym (region_of d.stage) (region_of c.stage) (e.apart d here.1 a c there.0 there.1)
          | inr also ↦ s.apart a b c d differ there.1 also.1
        ]
      ];
      counts = e.counts;
    }

-- What an event does, by what it has to show: each form of it, told or not. It may be told only where so much is.
pub record MadeWhere (tells : Type 0) (disk : OnDisk) (v w : View) (t : ℕ) (cleared : ℕ) : Type 0 where
  pub mine : Region
  pub act : Option Act
  pub after : Option Call
  pub happens : (told : Bool) → (told ≡ true → tells) → Standing told disk v
      → Happens disk told v w t mine cleared act after

-- and without the disk
pub record Made (disk : OnDisk) (v w : View) (t : ℕ) (cleared : ℕ) : Type 0 where
  pub mine : Region
  pub act : Option Act
  pub after : Option Call
  pub happens : (told : Bool) → Standing told disk v → Happens disk told v w t mine cleared act after

-- the values of the others stay
pub values_stay : (disk : OnDisk) (v w : View) (u cleared : ℕ) → Standing false disk v
    → Evolves (maps v) (maps w) (state disk v) (state disk w) cleared → registers_in w.held u ≡ registers_in v.held u
    → values_of w u ≡ values_of v u
values_stay disk v w u cleared s evolves same =
    let may : (r : ℕ) → MayHold (maps v) (state disk v) (register_in v.held u r) = s.registers u in
    same_values v.names w.names (registers_in v.held u) (registers_in w.held u) (ap length same)
    (λ r. subst (λ (regs : List ℕ). value_at (maps_of w.names) (get_or regs r 0) ≡ Some
    (value_in (held_values v.names (registers_in v.held u)) r)) (sym same)
    (subst (λ (x : Value). value_at (maps_of w.names) (get_or (registers_in v.held u) r 0) ≡ Some x)
    (sym (value_held v.names (registers_in v.held u) r))
    (held_value_stays (maps v) (maps w) (state disk v) (state disk w) cleared s.holds.formed evolves
    (register_in v.held u r)
    (held_value v.names (register_in v.held u r)) (may_value v.names (state disk v) (register_in v.held u r) (may r)))))

-- One event was made.
pub advances_where : {tells : Type 0} {disk : OnDisk} {v w : View} {t : ℕ} {o : Op} (result : StepResult)
    → (asks : Asks disk v t o) → (made : MadeWhere tells disk v w t (cleared_by (stage_of v t)))
    → w.capacity ≡ v.capacity
    → Applies (maps v) (maps w) (state disk v) (state disk w)
    (change_of (state disk v) (register_in v.held t) (rest_of v t) (stage_of v t))
    → StepOutcome tells disk v w t o result → LeavesClean disk v w t o result → AdvancesWhere tells disk v w t o result
advances_where {disk} {v} {w} {t} result asks made capacity applies outcome clean =
    let s : Standing false disk v = asks.stands in
    let cleared : ℕ = cleared_by (stage_of v t) in
    let h : Happens disk false v w t made.mine cleared made.act made.after =
    made.happens false (λ (told : false ≡ true). absurd (cc)) s in
    let evolves : Evolves (maps v) (maps w) (state disk v) (state disk w) cleared =
    (event_keeps false t v.log (maps v) (maps w) (state disk v) (state disk w) made.mine cleared made.act s.legal
    s.holds
    h.event).evolves in
    record {
      keeps = λ told tell stands. stands_after stands (made.happens told tell stands);
      changes = applies;
      evolves = evolves;
      others = record {
        globals = ap (λ (b : Base). b.globals) evolves.base;
        words = ap (λ (b : Base). b.size) evolves.base;
        forwards = ap (λ (b : Base). b.forwards) evolves.base;
        threads = h.kept.threads;
        capacity = capacity;
        calls = λ u differ. call_there v w t u made.after h.kept.calls differ;
        records = h.kept.rests.others;
        registers = h.kept.others;
        values = λ u differ. values_stay disk v w u cleared s evolves (h.kept.others u differ);
      };
      outcome = outcome;
      clean = clean;
      makes = λ tell stands.
          let e : Happens disk true v w t made.mine cleared made.act made.after =
          made.happens true (λ is. tell) stands in
          keeps_made t stands (e.counts refl) evolves.names e.kept.log e.event;
    }

pub advances : {disk : OnDisk} {v w : View} {t : ℕ} {o : Op} (result : StepResult) → (asks : Asks disk v t o)
    → (made : Made disk v w t (cleared_by (stage_of v t))) → w.capacity ≡ v.capacity
    → Applies (maps v) (maps w) (state disk v) (state disk w)
    (change_of (state disk v) (register_in v.held t) (rest_of v t) (stage_of v t))
    → StepOutcome (Unit {0}) disk v w t o result → LeavesClean disk v w t o result → AdvancesOver disk v w t o result
advances result asks made capacity applies outcome clean =
    advances_where result asks (record {
      mine = made.mine;
      act = made.act;
      after = made.after;
      happens = λ told tell stands. made.happens told stands;
    }) capacity applies outcome clean
