-- A call that lacked room is made again after a Move that is forced, and after a second one.
use Rattle.std.proofs.Common.{◌≡◌, ℕ, ◌+◌, ◌<◌, ◌≤◌, zero, suc, true, false, List, refl, sym, ap}
use Rattle.std.proofs.Common.{subst, arith, inl, inr, ◌⊎◌}
use Rattle.std.specs.Prelude.{Bool, Result, Ok, Err, IfOk, IfErr}
use Rattle.melt_model.specs.Alive.{Held, words_of, CostsSum}
use Rattle.melt_model.specs.Thread.{value_in}
use Rattle.melt_model.specs.declared.history.Value.{Value}
use Rattle.melt_model.specs.declared.config.Config.{Config}
use Rattle.melt_model.specs.declared.history.Entry.{Entry}
use Rattle.melt_model.specs.declared.reports.Journal.{Journal}
use Rattle.melt_model.specs.declared.reports.Phase.TheVariants.{Move}
use Rattle.melt_trace.specs.Script.{Script}
use Rattle.melt_scion.specs.Heaps.{OnDisk}
use Rattle.melt_core.specs.Views.{View, value, Standing}
use Rattle.melt_safepoint.specs.declared.thread.ThreadState.{ThreadState}
use Rattle.melt_safepoint.specs.Passing.{WaitsForRoom, NoneOwn}
use Rattle.melt_safepoint.specs.Shown.{Shown}
use Rattle.melt_safepoint.specs.Threads.{OweAfterCollects}
use Rattle.melt_safepoint.proofs.Cuts.{held_words_same}
use Rattle.melt_safepoint.proofs.Lacking.{room_goes, room_owes}
use Rattle.melt_safepoint.specs.Collections.{CollectedOver, Gathers}
use Rattle.melt_safepoint.specs.Rows.{AwaitsCall, LacksBy, LacksWords, LeftBy, Row}
use Rattle.melt_safepoint.specs.Makes.{MovesAfter, MovesOnce}
use Rattle.std.specs.Prelude.{Some}
use Rattle.melt_safepoint.specs.Rows.{MakesCollection, NoRoom, StandsBut}
use Rattle.melt_safepoint.specs.Rows.{StopsBut, StopsFrom}
use Rattle.melt_safepoint.specs.declared.ending.Stop.{Stop}
use Rattle.melt_safepoint.proofs.Collected.{just_collected, just_made, stands_collected}

-- what one more forced Move leaves, by what its collection did
left_again : {spare : List ℕ} {told : Bool} (config : Config) (forced : ℕ) {later : Shown} {v w : View}
    {entry : Journal} (need : ℕ) → told ≡ true → forced < 2 → LacksBy config forced v need → w.free ≡ entry.live + 1
    → CollectedOver told Move later spare v w entry → LeftBy (suc forced) w
left_again {spare} config zero {v} {w} {entry} need tells few left free over = over.marked tells refl
left_again {spare} config (suc zero) {v} {w} {entry} need tells few left free over =
    let gathers : Gathers v entry = over.gathers tells in
    let same : (u r : ℕ) → value v u r ≡ value w u r =
    λ u r. sym (ap (λ (xs : List Value). value_in xs r) (over.renewed.values u)) in
    record {
      words = entry.held;
      holds = subst (λ (h : List Entry). CostsSum (words_of h) (Held (value w)) entry.held) (sym over.renewed.history)
          (held_words_same v.log (value v) (value w) entry.held same gathers.holds);
      free = let all : entry.live ≡ entry.held = over.tight tells refl left in omega (arith, free, all);
    }
left_again {spare} config (suc (suc k)) {v} {w} {entry} need tells few left free over = absurd (omega (arith, few))

-- after it the thread may make its call once more
pub awaits_again : {told : Bool} {script : Script} {config : Config} {shown later : Shown} {forced : ℕ} {old new : Row}
    {t need : ℕ} → forced < 2 → LacksWords told script config shown forced old t need
    → MakesCollection true shown later old new → AwaitsCall told script config later (suc forced) new t
awaits_again {told} {script} {config} {shown} {later} {forced} {old} {new} {t} {need} few lacks made =
    let stands : StandsBut (suc forced) told script config shown old = lacks.stands in
    let over : CollectedOver told Move later stands.disk.free_homes old.view new.view made.collects.entry =
    made.collects.each told stands.disk stands.under stands.table.stands in
    record {
      stands = stands_collected stands lacks.safe made (λ is. lacks.tight)
          (room_owes old.states t lacks.waits (omega (arith, few)));
      safe = λ tells. (just_made stands lacks.safe made tells).rest;
      few = omega (arith, few);
      owed = subst (OweAfterCollects script) (sym made.states) lacks.owed;
      collected = just_collected true shown later old new made;
      own = subst NoneOwn (sym made.states) lacks.own;
      waits = subst (λ (xs : List ThreadState). WaitsForRoom xs t) (sym made.states) lacks.waits;
      left = λ tells. left_again config forced need tells few (lacks.left tells) made.collects.live over;
    }

-- what holds of a value, where more did
pub if_ok_from : {A E : Type 0} (r : Result A E) (P Q : A → Type 0) → ((x : A) → P x → Q x) → IfOk r P → IfOk r Q
if_ok_from (Ok x) P Q from is = from x is
if_ok_from (Err e) P Q from is = tt

-- and of an error
pub if_err_from : {A E : Type 0} (r : Result A E) (P Q : E → Type 0) → ((e : E) → P e → Q e) → IfErr r P → IfErr r Q
if_err_from (Ok x) P Q from is = tt
if_err_from (Err e) P Q from is = from e is

-- what is so where the run is told, told or not
if_told : (told : Bool) (Holds : Bool → Type 0) (P : Type 0) → (Holds true → P) → Holds told → told ≡ true → P
if_told true Holds P from holds is = from holds
if_told false Holds P from holds is = absurd (let wrong : false ≡ true = is in cc)

-- what does not fit has no room
unfit : {shown : Shown} {run : Row} {t forced need : ℕ}
    → ((disk : OnDisk) → Standing true disk run.view → (held : ℕ)
    → CostsSum (words_of run.view.log) (Held (value run.view)) held → run.words < held + need)
    → (script : Script) (config : Config) → LacksWords true script config shown forced run t need
    → NoRoom config run.view need
unfit {shown} {run} {t} {forced} {need} tells script config lacks held holds =
    let above : run.words < held + need = tells lacks.stands.disk lacks.stands.table.stands held holds in
    omega (arith, above, lacks.stands.words)

-- after two forced Moves there is no room for what a call lacked
unfit_twice : {shown : Shown} {run : Row} {t need forced : ℕ} (script : Script) (config : Config) → 2 ≤ forced
    → LacksWords true script config shown forced run t need → NoRoom config run.view need
unfit_twice {shown} {run} {t} {need} {forced} script config twice lacks =
    let again : LacksWords true script config shown 2 run t need =
    subst (λ (n : ℕ). LacksWords true script config shown n run t need)
    (let few : forced ≤ 2 = lacks.few in omega (arith, few, twice)) lacks in
    again.left refl

-- where a call lacked words that do not fit, or lacked them after the last Move, they have no room
pub no_room_left : {shown : Shown} {run : Row} {t forced need : ℕ}
    → (2 ≤ forced) ⊎ ((disk : OnDisk) → Standing true disk run.view → (held : ℕ)
    → CostsSum (words_of run.view.log) (Held (value run.view)) held → run.words < held + need)
    → (told : Bool) (script : Script) (config : Config)
    → LacksWords told script config shown forced run t need → told ≡ true → NoRoom config run.view need
no_room_left {shown} {run} {t} {forced} {need} why told script config lacks =
    if_told told (λ (b : Bool). LacksWords b script config shown forced run t need) (NoRoom config run.view need)
    (λ is. elim why [
      | inl twice ↦ unfit_twice script config twice is
      | inr not ↦ unfit not script config is
    ]) lacks

-- a run that was stopped after a forced Move
pub forced_stops : {shown mid : Shown} (later : Shown) {old run : Row} (t need forced : ℕ) (stop : Stop)
    → MakesCollection true shown mid old run → forced < 2 → StopsBut mid later run stop
    → StopsFrom (λ told script config. LacksWords told script config shown forced old t need) later stop
forced_stops later t need forced stop made few stops told script config lacks =
    let awaits = awaits_again few lacks made in
    stops told script config ((suc (suc forced), awaits.stands), room_goes _ t awaits.waits)

-- a run that was stopped before the call was made
pub stops_first : (shown later : Shown) (run : Row) (t : ℕ) (stop : Stop) → StopsBut shown later run stop
    → StopsFrom (λ told script config. AwaitsCall told script config shown 0 run t) later stop
stops_first shown later run t stop stops told script config awaits =
    stops told script config ((1, awaits.stands), room_goes run.states t awaits.waits)

-- What a run came to after so many Moves is told as what the one before them came to.
abbrev pub Moved : Bool → Script → Config → (forced : ℕ) → (first run : Row) → (t need more : ℕ) → Type 0
Moved told script config forced first run t need more = (n : ℕ) (new : Row)
    → MovesAfter told script config forced n run new t more
    → MovesAfter told script config 0 (forced + n) first new t need

-- after no Move yet
pub moved_none : (told : Bool) (script : Script) (config : Config) (run : Row) (t need : ℕ)
    → Moved told script config 0 run run t need need
moved_none told script config run t need n new after =
    subst (λ (k : ℕ). MovesAfter told script config 0 k run new t need) (omega arith) after

-- and after one more, where the call lacked words again
pub moved_again : {told : Bool} {script : Script} {config : Config} {forced : ℕ} (first : Row) {run again : Row}
    {t : ℕ} (need : ℕ) {more next : ℕ} → Moved told script config forced first run t need more
    → MovesOnce told script config (suc forced) run again t (Some next)
    → Moved told script config (suc forced) first again t need next
moved_again {told} {script} {config} {forced} first {run} {again} {t} need {more} {next} moved once n new after =
    subst (λ (k : ℕ). MovesAfter told script config 0 k first new t need) (omega arith)
    (moved (suc n) new (inr (next, (again, once, after))))
