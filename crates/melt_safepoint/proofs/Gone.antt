-- The end of a thread for which the heap has no room, even without what may leave it.
use Rattle.std.proofs.Common.{◌≡◌, ℕ, ◌*◌, suc, true, false, List, [], ◌∷◌, ◌++◌, length, refl, sym, ◌∙◌, ap, subst, arith, ◌<◌}
use Rattle.std.proofs.Math.ListN.{set}
use Rattle.std.proofs.lemmas.Bool.{cases_eq}
use Rattle.std.proofs.Common.{inl, inr}
use Rattle.std.proofs.lemmas.Option.{same_Some}
use Rattle.std.specs.Prelude.{Bool, slice_get, Some}
use Rattle.melt_model.specs.Alive.{Held, words_of, CostsSum}
use Rattle.melt_model.specs.declared.config.Config.{Config}
use Rattle.melt_model.specs.declared.history.Entry.{Entry}
use Rattle.melt_model.specs.declared.reports.ThreadEnd.TheVariants as end
use Rattle.melt_trace.specs.Script.{Script}
use Rattle.melt_scion.specs.Heaps.{OnDisk}
use Rattle.melt_core.specs.Epochs.{HasDropped}
use Rattle.melt_core.specs.StaleBits.{Sight, sight}
use Rattle.melt_core.specs.Views.{View, call_of, value, IsQuiet}
use Rattle.melt_core.specs.Views.{Standing}
use Rattle.melt_safepoint.specs.declared.thread.Mode.{Mode}
use Rattle.melt_safepoint.specs.declared.thread.Mode.TheVariants.{Ended, Lacking}
use Rattle.melt_safepoint.specs.declared.thread.ThreadState.{ThreadState}
use Rattle.melt_safepoint.specs.Shown.{Shown}
use Rattle.melt_safepoint.specs.Collections.{NoneForwarded}
use Rattle.melt_safepoint.specs.Counts.{over}
use Rattle.melt_safepoint.specs.Epochs.{to_do}
use Rattle.melt_safepoint.specs.Makes.{EndsForRoom}
use Rattle.melt_safepoint.specs.Threads.{jobs_of, left, replies_of}
use Rattle.melt_safepoint.proofs.ToDo.{to_do_set}
use Rattle.melt_safepoint.proofs.Threads.{get_set_same, get_set_other}
use Rattle.melt_safepoint.specs.Cuts.{LacksRoom}
use Rattle.melt_safepoint.specs.Cuts.{IsSafepoint, Moment, Occasion}
use Rattle.melt_safepoint.specs.Endings.{TiedMoments, now}
use Rattle.melt_safepoint.proofs.AtSafepoint.{safe_now}
use Rattle.melt_safepoint.specs.Losses.{losses}
use Rattle.melt_safepoint.specs.Modes.{lost, owes, ForCollection, jobs}
use Rattle.melt_safepoint.specs.Passing.{IsLacking, NoneOwn}
use Rattle.melt_safepoint.proofs.Counting.{Adds, adds_mode, counts_paid}
use Rattle.melt_safepoint.proofs.Losses.{losses_same}
use Rattle.melt_safepoint.proofs.Lacking.{lacking_open}
use Rattle.melt_safepoint.proofs.InOrder.{moments_gone}
use Rattle.melt_safepoint.proofs.Staying.{keeps_more}
use Rattle.melt_safepoint.specs.Rows.{CollectorStands, LacksWords, NoRoom, RunStands, Row}
use Rattle.melt_safepoint.specs.Rows.{StandsBut}
use Rattle.melt_safepoint.specs.Collections.{MadeSoFar}
use Rattle.melt_safepoint.specs.Tables.{TableStands}
use Rattle.melt_safepoint.specs.declared.collector.Collector.{Collector}
use Rattle.melt_safepoint.proofs.TableCounts.{counts_of}
use Rattle.melt_safepoint.proofs.Moments.{counts_now, lacks_room}
use Rattle.melt_safepoint.proofs.TableModes.{Table_gone}
use Rattle.melt_safepoint.proofs.WordsMade.{made_dropped}

-- A thread that lacked so many words beside those that are held ended, and dropped its registers.
pub record EndsCall (old new : Row) (t held need : ℕ) : Type 0 where
  pub s : ThreadState
  pub was : IsLacking old.states t s
  pub holds : (disk : OnDisk) → Standing true disk old.view
      → CostsSum (words_of old.view.log) (Held (value old.view)) held
  pub drops : HasDropped old.view new.view t
  pub states : new.states ≡ set old.states t (record s { mode = Ended (end.OutOfHeap held need) })
  pub collector : new.collector ≡ old.collector
  pub words : new.words ≡ old.words
  pub every : new.every ≡ old.every
  pub told : new.told ≡ old.told

-- no call is in flight where registers were dropped
pub dropped_quiet : (v w : View) (t : ℕ) → HasDropped v w t → IsQuiet v → IsQuiet w
dropped_quiet v w t drops quiet u = ap (λ (x : View). call_of x u) drops.only ∙ quiet u

-- why the thread ends
gone_lacks : (told : Bool) {script : Script} {config : Config} {shown : Shown} {forced : ℕ} {old : Row} {t : ℕ}
    (held : ℕ) {need : ℕ} {s : ThreadState} → IsLacking old.states t s
    → LacksWords told script config shown forced old t need → (told ≡ true → NoRoom config old.view need)
    → ((disk : OnDisk) → Standing true disk old.view → CostsSum (words_of old.view.log) (Held (value old.view)) held)
    → told ≡ true
    → LacksRoom script old.view.log (replies_of old.states) config (now old.view.log old.states) t held need
gone_lacks true {old} {t} held {need} {s} was lacks no_room holds is =
    let disk : OnDisk = lacks.stands.disk in
    let all : CostsSum (words_of old.view.log) (Held (value old.view)) held =
    holds disk lacks.stands.table.stands in
    lacks_room t need lacks.stands.table was.at (lacking_open was) lacks.owed (lacks.next s was.at) (lacks.needs refl)
    all (no_room refl held all)
gone_lacks false {old} {t} held {need} {s} was lacks no_room holds is =
    absurd (let wrong : false ≡ true = is in cc)

-- and at which moment
gone_safe : (told : Bool) {script : Script} {config : Config} {shown : Shown} {forced : ℕ} {old : Row} {t need : ℕ}
    → (lacks : LacksWords told script config shown forced old t need) → (tells : told ≡ true)
    → IsSafepoint script old.view.log config (lacks.safe tells).tied.moments (now old.view.log old.states)
gone_safe true lacks tells = safe_now lacks.stands.table (lacks.safe tells)
gone_safe false lacks tells = absurd (let wrong : false ≡ true = tells in cc)

-- this is one moment more, at which all stale bits stay
gone_tied : (told : Bool) {script : Script} {config : Config} {shown : Shown} {forced : ℕ} {old new : Row} {t : ℕ}
    (held : ℕ) {need : ℕ} (e : EndsCall old new t held need)
    → LacksWords told script config shown forced old t need → (told ≡ true → NoRoom config old.view need)
    → told ≡ true
    → TiedMoments script (sight old.view) (set old.states t (record e.s { mode = Ended (end.OutOfHeap held need) })) config
    old.collector.journal.items
gone_tied told {script} {config} {forced = forced} {old = old} {t = t} held {need} e lacks no_room tells =
    let tied : TiedMoments script (sight old.view) old.states config old.collector.journal.items =
    (lacks.safe tells).tied in
    let m : Moment = record { cut = now old.view.log old.states; of = Occasion.no_room t held need } in
    record {
      moments = tied.moments ++ m ∷ [];
      have = moments_gone old.collector.journal.items t held need e.was.at (lacking_open e.was) tied.have
          (gone_lacks told held e.was lacks no_room e.holds tells) (gone_safe told lacks tells)
          (counts_now script config (suc forced) old.view.log old.states (length old.collector.journal.items)
          lacks.stands.table.count lacks.stands.table.due lacks.stands.counts);
      bits = keeps_more script tied.moments m (sight old.view) (λ marks. marks) tied.bits;
    }

-- so the run stands after it
pub gone_stands : {told : Bool} {script : Script} {config : Config} {shown : Shown} {forced : ℕ} {old new : Row}
    {t held need : ℕ} → LacksWords told script config shown forced old t need
    → (told ≡ true → NoRoom config old.view need) → EndsCall old new t held need
    → RunStands told script config shown new
gone_stands {told} {script} {config} {shown} {forced} {old} {new} {t} {held} {need} lacks no_room e =
    let stands : StandsBut (suc forced) told script config shown old = lacks.stands in
    let disk : OnDisk = stands.disk in
    let mode : Mode = Ended (end.OutOfHeap held need) in
    let states : List ThreadState = old.states in
    let after : List ThreadState = set states t (record e.s { mode = mode }) in
    let seen : sight new.view ≡ sight old.view = ap sight e.drops.only in
    let adds : Adds script config states after 0 1 =
    adds_mode script config states t 1 mode e.was.at stands.table.count (ap owes e.was.lacking)
    (omega (arith, ap over e.was.lacking)) in
    record {
      disk = disk;
      under = stands.under;
      none_free = stands.none_free;
      table = subst (TableStands told script config disk new.view) (sym e.states)
          (Table_gone (end.OutOfHeap held need) stands.table e.was.at (lacking_open e.was) e.drops (stands.quiet t) tt);
      quiet = dropped_quiet old.view new.view t e.drops stands.quiet;
      words = e.words ∙ stands.words;
      every = e.every ∙ stands.every;
      told_is = e.told ∙ stands.told_is;
      collector = subst (CollectorStands config shown) (sym e.collector) stands.collector;
      moments = λ tells.
          subst (λ (c : Collector). TiedMoments script (sight new.view) new.states config c.journal.items)
          (sym e.collector)
          (subst (λ (xs : List ThreadState). TiedMoments script (sight new.view) xs config old.collector.journal.items)
          (sym e.states)
          (subst (λ (s : Sight). TiedMoments script s after config old.collector.journal.items) (sym seen)
          (gone_tied told held e lacks no_room tells)));
      made = λ is.
          subst (λ (c : Collector). MadeSoFar config new.view c.journal.items) (sym e.collector)
          (made_dropped old.view new.view t e.drops (config.heap * length old.collector.journal.items)
          (stands.made is));
      counts = counts_of script config new after old.collector e.states e.collector
          (counts_paid script config (suc forced) states after (length old.collector.journal.items)
          (omega (arith, lacks.few)) stands.counts adds);
    }

-- it was not lost
pub gone_lost : {old new : Row} {t held need : ℕ} → EndsCall old new t held need → losses new.states ≡ losses old.states
gone_lost {old} {new} {t} {held} {need} e =
    ap losses e.states
    ∙ losses_same old.states t e.s (record e.s { mode = Ended (end.OutOfHeap held need) }) e.was.at
    (sym (ap lost e.was.lacking))

-- no forwarding word is filled after it, where none was
pub gone_settled : {old new : Row} {t need : ℕ} → EndsForRoom old new t need → NoneForwarded old.view
    → NoneForwarded new.view
gone_settled {old} {new} {t} {need} gone none =
    subst (λ (v : View). NoneForwarded v) (sym gone.drops.only) none

-- no thread waits for a collection after it, where none did
pub gone_own : {old new : Row} {t need : ℕ} → EndsForRoom old new t need → NoneOwn old.states → NoneOwn new.states
gone_own {old} {new} {t} {need} gone own = λ u x at for.
    let after : ThreadState = record gone.s { mode = Ended (end.OutOfHeap gone.held need) } in
    let there : slice_get (set old.states t after) u ≡ Some x =
    subst (λ (xs : List ThreadState). slice_get xs u ≡ Some x) gone.states at in
    elim (cases_eq u t) [
      | inl same ↦
          let is : after ≡ x = same_Some after x (sym (get_set_same old.states t gone.s after gone.was.at)
          ∙ (ap (slice_get (set old.states t after)) (sym same) ∙ there)) in
          subst (λ (y : ThreadState). ForCollection y.mode) (sym is) for
      | inr other ↦ own u x (sym (get_set_other old.states t u after other) ∙ there) for
    ]

-- there is less to do
pub gone_less : {old new : Row} {t need : ℕ} → EndsForRoom old new t need → to_do new.states < to_do old.states
gone_less {old} {new} {t} {need} gone =
    let after : ThreadState = record gone.s { mode = Ended (end.OutOfHeap gone.held need) } in
    let some : jobs_of after < jobs_of gone.s =
    let was : jobs_of gone.s ≡ jobs Lacking (length (left gone.s)) =
    ap (λ (m : Mode). jobs m (length (left gone.s))) gone.was.lacking in
    omega (arith, was) in
    omega (arith, to_do_set old.states t gone.s after gone.was.at some, ap to_do gone.states)
