-- A journal grows by collections that were planned or forced, and a run stands after each of them.
use Rattle.std.proofs.Common.{◌≡◌, ℕ, ◌+◌, ◌<◌, ◌≤◌, suc, true, false, List, [], ◌∷◌, ◌++◌, length}
use Rattle.std.proofs.Common.{refl, sym, ◌∙◌, ap, subst, arith, length-append, inl, inr}
use Rattle.std.specs.Prelude.{Bool, Option, None, Some}
use Rattle.melt_model.specs.declared.config.Config.{Config}
use Rattle.melt_model.specs.declared.history.Entry.{Entry}
use Rattle.melt_model.specs.declared.reports.Halt.{Halt}
use Rattle.melt_model.specs.declared.reports.Halt.TheVariants as halt
use Rattle.melt_model.specs.declared.reports.Journal.{Journal}
use Rattle.melt_model.specs.declared.reports.Phase.{Phase}
use Rattle.melt_model.specs.declared.reports.Phase.TheVariants.{Move}
use Rattle.melt_policy.specs.Policy.{planned}
use Rattle.melt_trace.specs.Script.{Script}
use Rattle.melt_disk.specs.declared.space.DiskFull.{DiskFull}
use Rattle.melt_scion.specs.Heaps.{OnDisk}
use Rattle.melt_scion.specs.declared.heap.Heap.{Heap}
use Rattle.melt_move.specs.Planned.{phase_done, plan_after}
use Rattle.melt_move.specs.declared.planned.Plan.{Plan}
use Rattle.melt_core.specs.StaleBits.{Sight, sight}
use Rattle.melt_core.specs.Views.{View}
use Rattle.melt_core.proofs.Disks.{stands_untold}
use Rattle.melt_safepoint.specs.declared.thread.ThreadState.{ThreadState}
use Rattle.melt_safepoint.specs.declared.thread.Mode.{Mode}
use Rattle.melt_safepoint.specs.declared.thread.Mode.TheVariants.{Asked, Collecting, Due, Lacking, Running, Silent}
use Rattle.melt_safepoint.specs.declared.thread.Mode.TheVariants as mode
use Rattle.melt_safepoint.specs.Modes.{IsEnded, Waits}
use Rattle.melt_safepoint.specs.Passing.{OneWaits}
use Rattle.melt_safepoint.specs.Threads.{AreHalted, SomeGoesOn}
use Rattle.melt_safepoint.specs.Journals.{next_of, before, end_of, IsTight, MayMove, IsJournalOf, OneMore, Planned}
use Rattle.melt_safepoint.specs.Counts.{CountsCollections}
use Rattle.melt_safepoint.specs.Made.{MakesWithin}
use Rattle.melt_safepoint.specs.Shown.{Shown}
use Rattle.melt_safepoint.specs.Endings.{RestMoments, SomeMoments}
use Rattle.melt_safepoint.proofs.AtSafepoint.{JustMade, made_now}
use Rattle.melt_safepoint.proofs.Counting.{Spare, counts_made_more, counts_spare}
use Rattle.melt_safepoint.proofs.Journals.{before_end, MayBe, journal_push, may_be, may_move, phase_cases, plan_for}
use Rattle.melt_safepoint.proofs.Journals.{MayOwe}
use Rattle.melt_safepoint.specs.Collections.{CollectsCore, CollectedOver, FullOver, IsFullCore, IsRefusedCore}
use Rattle.melt_safepoint.specs.Collections.{MayCollect}
use Rattle.melt_safepoint.specs.Ended.{EndsBy, EndsFull, EndedStands}
use Rattle.melt_safepoint.specs.Collections.{NoneForwarded}
use Rattle.melt_safepoint.specs.Rows.{CollectorStands, JustCollected, MakesCollection, RunStands, StandsBut, last_of}
use Rattle.melt_safepoint.specs.Rows.{RestsSo, Row, journal_of}
use Rattle.melt_safepoint.specs.Collections.{MadeSoFar}
use Rattle.melt_safepoint.specs.Tables.{TableStands}
use Rattle.melt_safepoint.specs.declared.collector.Collector.{Collector}
use Rattle.melt_safepoint.specs.declared.collector.CollectRefusal.{CollectRefusal}
use Rattle.melt_safepoint.specs.declared.collector.CollectRefusal.TheVariants as refused
use Rattle.melt_safepoint.specs.declared.ending.Ended.{Ended}
use Rattle.melt_safepoint.specs.declared.ending.Left.{Left}
use Rattle.melt_safepoint.proofs.InOrder.{some_of}
use Rattle.melt_safepoint.proofs.Moments.{counts_now}
use Rattle.melt_safepoint.proofs.Tables.{Table_renewed}
use Rattle.melt_safepoint.proofs.WordsMade.{made_collected, run_within}

-- the disk ends within its limit after a collection
ends_within : {phase : Phase} {shown later : Shown} {v w : View} {old new : Collector}
    → CollectsCore phase shown later v w old new → shown.end ≤ shown.limit → later.end ≤ shown.limit
ends_within {phase} {shown} collects within = elim (phase_cases phase) [
  | inl move ↦ collects.fits move
  | inr other ↦ subst (λ (n : ℕ). n ≤ shown.limit) (sym (collects.stays other)) within
]

-- after a collection the next one is planned by it
plan_more : (config : Config) {phase : Phase} {shown later : Shown} {v w : View} {old new : Collector} (was : Phase)
    → old.plan ≡ plan_for config was → CollectsCore phase shown later v w old new → length v.space.list ≡ config.heap
    → {last : Option Journal} → {entry : Journal} → last ≡ Some entry → entry.phase ≡ phase
    → new.plan ≡ plan_after old.plan phase entry.live (length v.space.list)
    → new.plan ≡ plan_for config (next_of config last)
plan_more config {phase} {v} was plan collects words {entry} is of_phase after =
    let by : ℕ → Phase → Phase = λ n p. planned entry.live n p config.mark config.move_ in
    after ∙ (ap (λ (p : Plan). plan_after p phase entry.live (length v.space.list)) plan
    ∙ (ap (λ (n : ℕ). plan_for config (by n phase)) words
    ∙ (ap (λ (p : Phase). plan_for config (by config.heap p)) (sym of_phase)
    ∙ ap (λ (o : Option Journal). plan_for config (next_of config o)) (sym is))))

-- what a collector knows after one collection more
pub collector_more : {config : Config} (force : Bool) {shown later : Shown} {v w : View} {old new : Collector}
    → CollectorStands config shown old → CollectsCore (phase_done force old.plan.next) shown later v w old new
    → length v.space.list ≡ config.heap → (force ≡ true → IsTight config (last_of old))
    → CollectorStands config later new
collector_more {config} force {shown} {later} {old} {new} stands collects words tight =
    let js : List Journal = old.journal.items in
    let entry : Journal = collects.entry in
    let phase : Phase = phase_done force old.plan.next in
    let next : old.plan.next ≡ next_of config (last_of old) = ap (λ (p : Plan). p.next) stands.plan in
    let may : MayBe config (last_of old) entry.phase =
    subst (MayBe config (last_of old)) (sym collects.of_phase) (may_be config (last_of old) force old.plan.next tight
    next) in
    let limit : shown.limit ≡ config.disk = stands.limit in
    let within : later.end ≤ shown.limit =
    ends_within collects (subst (λ (n : ℕ). shown.end ≤ n) (sym limit) stands.within) in
    let grows : end_of (last_of old) ≤ entry.end =
    subst (λ (n : ℕ). end_of (last_of old) ≤ n) (sym collects.end)
    (subst (λ (n : ℕ). n ≤ later.end) stands.end collects.grows) in
    let last : last_of new ≡ Some entry =
    ap (λ (xs : List Journal). before xs (length xs)) collects.journal ∙ before_end js entry in
    record {
      plan = plan_more config (next_of config (last_of old)) stands.plan collects words last collects.of_phase
          collects.plan;
      journal = subst (IsJournalOf config) (sym collects.journal)
          (journal_push config js entry stands.journal may
          (collects.held_within, subst (λ (n : ℕ). entry.live ≤ n) words collects.within) grows
          (subst (λ (n : ℕ). n ≤ config.disk) (sym collects.end)
          (subst (λ (n : ℕ). later.end ≤ n) limit within)));
      end = sym collects.end ∙ ap end_of (sym last);
      within = subst (λ (n : ℕ). later.end ≤ n) limit within;
      limit = collects.limit ∙ limit;
    }

-- there is one entry more
journal_count : {phase : Phase} {shown later : Shown} {v w : View} {old new : Collector}
    → CollectsCore phase shown later v w old new → length new.journal.items ≡ length old.journal.items + 1
journal_count {old} collects =
    ap length collects.journal ∙ length-append old.journal.items (collects.entry ∷ [])

-- each collection has its moment, and now is that of one more
moments_more : {script : Script} {config : Config} {phase : Phase} {later : Shown} {free : List ℕ} {v w : View}
    {disk : OnDisk} {states : List ThreadState} (js : List Journal) {entry : Journal} {unpaid : ℕ}
    → TableStands true script config disk v states → CollectedOver true phase later free v w entry
    → entry.phase ≡ phase → CountsCollections script config unpaid states (length js)
    → RestMoments script (sight v) states config js → JustMade script (sight w) states config (js ++ entry ∷ [])
moments_more {script} {config} {v = v} {w = w} {states = states} js {entry} {unpaid} table over of_phase counts rest =
    made_now w js entry table rest
    (counts_now script config unpaid v.log states (length js) table.count table.due counts) (over.gathers refl) of_phase
    over.renewed.history (over.bits refl) (over.takes refl)

-- what a collection left, over the disk under a run
abbrev pub Over : ℕ → Bool → Script → Config → Bool → (shown later : Shown) → (old new : Row) → Type 0
Over unpaid told script config force shown later old new =
    (stands : StandsBut unpaid told script config shown old) × (made : MakesCollection force shown later old new)
    × CollectedOver told (phase_done force old.collector.plan.next) later stands.disk.free_homes old.view
    new.view made.collects.entry

-- it is left over some disk
pub collected_over : {unpaid : ℕ} {told : Bool} {script : Script} {config : Config} {force : Bool} {shown later : Shown}
    {old new : Row} → StandsBut unpaid told script config shown old → MakesCollection force shown later old new
    → Over unpaid told script config force shown later old new
collected_over {unpaid} {told} stands made =
    (stands, made, made.collects.each told stands.disk stands.under stands.table.stands)

-- all threads stand after a collection
pub collected_table : {unpaid : ℕ} {told : Bool} {script : Script} {config : Config} {force : Bool}
    {shown later : Shown} {old new : Row} → (over : Over unpaid told script config force shown later old new)
    → TableStands told script config over.2.disk new.view new.states
collected_table {unpaid} {told} {script} {config} {new} over =
    subst (TableStands told script config over.2.disk new.view) (sym over.1.states)
    (Table_renewed over.0.table over.2.renewed)

-- and so do the moments of the run, told as the view before it tells
pub collected_moments : {unpaid : ℕ} (told : Bool) {script : Script} {config : Config} {force : Bool}
    {shown later : Shown} {old new : Row} → told ≡ true → Over unpaid told script config force shown later old new
    → RestsSo told script config old → JustMade script (sight new.view) new.states config new.collector.journal.items
collected_moments {unpaid} true {script} {config} {old = old} {new = new} is over rests =
    let s : Sight = sight new.view in
    let entry : Journal = over.1.collects.entry in
    let more : JustMade script s old.states config (old.collector.journal.items ++ entry ∷ []) =
    moments_more old.collector.journal.items over.0.table over.2 over.1.collects.of_phase over.0.counts (rests refl) in
    subst (λ (xs : List ThreadState). JustMade script s xs config new.collector.journal.items) (sym over.1.states)
    (subst (JustMade script s old.states config) (sym over.1.collects.journal) more)
collected_moments false is over rests =
    absurd (let wrong : false ≡ true = is in cc)

-- one entry more
pub journal_more : {force : Bool} {shown later : Shown} {old new : Row} → MakesCollection force shown later old new
    → length new.collector.journal.items ≡ length old.collector.journal.items + 1
journal_more {force} {shown} {later} {old} {new} made =
    omega (
      arith,
      journal_count made.collects,
    )

-- a collection that is planned is of the phase that was planned after the one before
pub planned_one : {unpaid : ℕ} {told : Bool} {script : Script} {config : Config} {shown later : Shown} {old new : Row}
    → StandsBut unpaid told script config shown old → MakesCollection false shown later old new
    → Planned config 1 (journal_of old) (journal_of new)
planned_one {unpaid} {old} stands made = (
  journal_of old,
  refl,
  record {
    entry = made.collects.entry;
    journal = made.collects.journal;
    of_phase = made.collects.of_phase ∙ ap (λ (p : Plan). p.next) stands.collector.plan;
  },
)

-- and one that is forced is a Move
pub moved_one : (shown later : Shown) (old new : Row) → MakesCollection true shown later old new
    → OneMore Move (journal_of old) (journal_of new)
moved_one shown later old new made = record {
  entry = made.collects.entry;
  journal = made.collects.journal;
  of_phase = made.collects.of_phase;
}

-- a collection was made that no reply was told of yet
pub spare_collected : {told : Bool} {script : Script} {config : Config} {force : Bool} {shown later : Shown}
    {old new : Row} → RunStands told script config shown old → MakesCollection force shown later old new
    → Spare script config new.states (length new.collector.journal.items)
spare_collected {script} {config} {old} {new} stands made =
    subst (λ (xs : List ThreadState). Spare script config xs (length new.collector.journal.items)) (sym made.states)
    (counts_spare script config old.states (length old.collector.journal.items)
    (length new.collector.journal.items) (journal_more made) stands.counts)

-- a run stands after a collection, which is still to be paid for
pub stands_collected : {unpaid : ℕ} {told : Bool} {script : Script} {config : Config} {force : Bool}
    {shown later : Shown} {old new : Row} → StandsBut unpaid told script config shown old
    → RestsSo told script config old → MakesCollection force shown later old new
    → (force ≡ true → IsTight config (last_of old.collector)) → MayOwe unpaid old.states
    → StandsBut (suc unpaid) told script config later new
unfolding collected_over
stands_collected {unpaid} {told} {script} {config} {force} {shown} {later} {old} {new} stands rests made tight owes =
    let over : Over unpaid told script config force shown later old new =
    collected_over stands made in
    let n : ℕ = length new.collector.journal.items in
    record {
      disk = over.2.disk;
      under = over.2.under;
      none_free = over.2.same_free ∙ stands.none_free;
      table = collected_table over;
      quiet = made.collects.quiet;
      words = made.words ∙ stands.words;
      every = made.every ∙ stands.every;
      told_is = made.told ∙ stands.told_is;
      collector = collector_more force stands.collector made.collects stands.table.words tight;
      moments = λ is. (collected_moments told is over rests).rest.tied;
      made = λ is.
          subst (MadeSoFar config new.view) (sym over.1.collects.journal)
          (made_collected config old.view new.view old.collector.journal.items over.1.collects.entry
          (over.0.table.stands.counts is) (over.2.renewed.stands.counts is) over.0.table.words
          over.2.renewed.history (over.0.made is));
      counts = subst (λ (xs : List ThreadState). CountsCollections script config (suc unpaid) xs n) (sym made.states)
          (counts_made_more script config unpaid old.states (length old.collector.journal.items) n
          (journal_more made) owes.few owes.open_ stands.counts);
    }

-- and it is at a safepoint, of which this was the last moment
pub just_made : {unpaid : ℕ} {told : Bool} {script : Script} {config : Config} {force : Bool} {shown later : Shown}
    {old new : Row} → StandsBut unpaid told script config shown old → RestsSo told script config old
    → MakesCollection force shown later old new → told ≡ true
    → JustMade script (sight new.view) new.states config new.collector.journal.items
just_made {told} stands rests made tells = collected_moments told tells (collected_over stands made) rests

-- it was just made, also after a thread that dropped its registers
pub just_after : (force : Bool) (shown later : Shown) (old mid new : Row) → MakesCollection force shown later old mid
    → new.collector ≡ mid.collector → new.view.free ≡ mid.view.free → new.view.forward ≡ mid.view.forward
    → JustCollected new
just_after force shown later old mid new made collector free forward = record {
  none_forwarded = subst (λ (xs : List ℕ). NoneForwarded (record new.view { forward = xs })) (sym forward)
      made.collects.none_forwarded;
  prefix = old.collector.journal.items;
  last = made.collects.entry;
  journal = ap (λ (c : Collector). c.journal.items) collector ∙ made.collects.journal;
  free = free ∙ made.collects.live;
}

-- it was just made
pub just_collected : (force : Bool) (shown later : Shown) (old new : Row) → MakesCollection force shown later old new
    → JustCollected new
just_collected force shown later old new made = just_after force shown later old new new made refl refl refl

-- a run between two epochs may be collected
pub may_collect : {unpaid : ℕ} (told : Bool) (script : Script) (config : Config) (shown : Shown) (run : Row)
    → StandsBut unpaid told script config shown run → MayCollect shown.end run.view
may_collect {unpaid} told script config shown run stands = record {
  disk = stands.disk;
  ends = stands.under.ends;
  stands = stands_untold told stands.disk run.view stands.table.stands;
  quiet = stands.quiet;
}

-- what is said of a refusal is said of a full disk
pub refused_full : (phase : Phase) (shown later : Shown) (v : View) {r : CollectRefusal} (left : Left) (full : DiskFull)
    → r ≡ refused.DiskFull left full → IsRefusedCore phase shown later v r → IsFullCore phase shown later v left full
refused_full phase shown later v left full is said = subst (IsRefusedCore phase shown later v) is said

-- and of one that failed
pub refused_failed : (phase : Phase) (shown later : Shown) (v : View) (r : CollectRefusal) (left : Left)
    → r ≡ refused.DiskFault left → IsRefusedCore phase shown later v r → (left.heap ≡ None) × (left.history ≡ v.log)
refused_failed phase shown later v r left is said = subst (IsRefusedCore phase shown later v) is said

-- What is left of a run that was halted for this cause.
pub record Halts (run : Row) (left : Left) (cause : Halt) (ended : Ended) : Type 0 where
  pub left_is : ended.left ≡ left
  pub states : AreHalted run.states ended.states.items
  pub journal : ended.journal.items ≡ run.collector.journal.items
  pub halt_is : ended.halt ≡ Some cause

-- why it has ended, told by its parts
ends_by : (told : Bool) (config : Config) (shown : Shown) (disk : OnDisk) (v : View) {run : Row} {left : Left}
    {heap : Option Heap} {cause : Halt} {ended : Ended} → Halts run left cause ended → left.heap ≡ heap
    → EndsBy told config shown disk v run.states ended (Some cause) heap
    → EndsBy told config shown disk v run.states ended ended.halt ended.left.heap
ends_by told config shown disk v {run} {left} {heap} {cause} {ended} halts there by =
    let By : Option Halt → Option Heap → Type 0 = λ h x. EndsBy told config shown disk v run.states ended h x in
    subst (λ (h : Option Halt). By h ended.left.heap) (sym halts.halt_is)
    (subst (λ (x : Option Heap). By (Some cause) x) (sym (ap (λ (l : Left). l.heap) halts.left_is ∙ there)) by)

-- the disk was full for a Move of what is left
full_ends : {told : Bool} {config : Config} (force : Bool) {shown later : Shown} (run : Row) {left : Left}
    {full : DiskFull} (ended : Ended) → CollectorStands config shown run.collector
    → (force ≡ true → IsTight config (last_of run.collector))
    → (is : IsFullCore (phase_done force run.collector.plan.next) shown later run.view left full)
    → (over : FullOver told later run.view is.w is.heap full.need) → ended.journal.items ≡ run.collector.journal.items
    → EndsFull told config later over.disk is.w ended full.end full.need full.limit
full_ends {config} force {shown} run {full} ended stands tight is over journal =
    let last : (js : List Journal) → Option Journal = λ js. before js (length js) in
    let next : run.collector.plan.next ≡ next_of config (last_of run.collector) =
    ap (λ (p : Plan). p.next) stands.plan in
    record {
      end_is = is.end_is ∙ sym is.end_stays;
      end_last = is.end_is ∙ (stands.end ∙ ap (λ (js : List Journal). end_of (last js)) (sym journal));
      limit_is = is.limit_is ∙ stands.limit;
      above = let above : shown.limit < shown.end + full.need = is.above in
          omega (arith, above, is.limit_is, is.end_is);
      may_move = subst (λ (js : List Journal). MayMove config (last js)) (sym journal)
          (may_move config (last_of run.collector) force run.collector.plan.next tight next is.of_phase);
      needs = λ tells. over.needs;
    }

-- a thread that waits has not ended
pub waits_open : (mode : Mode) → Waits mode → IsEnded mode → ⊥
waits_open Running waits over = over
waits_open Due waits over = over
waits_open Silent waits over = over
waits_open Collecting waits over = over
waits_open Asked waits over = over
waits_open Lacking waits over = over
waits_open (mode.Ended e) waits over = waits

pub waits_goes : (states : List ThreadState) → OneWaits states → SomeGoesOn states
waits_goes states waits = (waits.0, (waits.1.0, waits.1.1, waits_open waits.1.0.mode waits.1.2))

-- what is left where the disk was full for a collection
pub stands_full : {unpaid : ℕ} {told : Bool} {script : Script} {config : Config} (force : Bool) {shown later : Shown}
    {run : Row} {left : Left} {full : DiskFull} {ended : Ended} → StandsBut unpaid told script config shown run
    → OneWaits run.states → (force ≡ true → IsTight config (last_of run.collector))
    → IsFullCore (phase_done force run.collector.plan.next) shown later run.view left full
    → Halts run left (halt.DiskFull full.end full.need full.limit) ended → EndedStands told script config later ended
stands_full {unpaid} {told} {script} {config} force {later} {run} {full} {ended} stands waits tight is halts =
    let v : View = run.view in
    let w : View = is.w in
    let states : List ThreadState = run.states in
    let over : FullOver told later v w is.heap full.need = is.each told stands.disk stands.under stands.table.stands in
    let ends : EndsFull told config later over.disk w ended full.end full.need full.limit =
    full_ends force run ended stands.collector tight is over halts.journal in
    record {
      disk = over.disk;
      v = w;
      states = states;
      table = Table_renewed stands.table over.renewed;
      moments = λ tells. subst (λ (h : List Entry). SomeMoments script h states config ended.journal.items)
          (sym over.renewed.history)
          (subst (SomeMoments script v.log states config) (sym halts.journal) (some_of (stands.moments tells)));
      journal = subst (IsJournalOf config) (sym halts.journal) stands.collector.journal;
      made = λ is_told. subst (λ (h : List Entry). MakesWithin config h ended.journal.items) (sym over.renewed.history)
          (subst (MakesWithin config v.log) (sym halts.journal) (run_within is_told stands));
      unpaid = unpaid;
      counts = subst (λ (js : List Journal). CountsCollections script config unpaid states (length js))
          (sym halts.journal) stands.counts;
      log = ap (λ (l : Left). l.history) halts.left_is ∙ is.log;
      halts = λ cause. waits_goes run.states waits;
      cause = ends_by told config later over.disk w halts is.there (halts.states, over.shows, over.under, ends, waits);
    }

-- what is left where the disk failed
pub stands_failed : {unpaid : ℕ} {told : Bool} {script : Script} {config : Config} {shown : Shown} (later : Shown)
    {run : Row} {left : Left} {ended : Ended} → StandsBut unpaid told script config shown run
    → SomeGoesOn run.states → (left.heap ≡ None) × (left.history ≡ run.view.log) → Halts run left halt.DiskFault ended
    → EndedStands told script config later ended
stands_failed {unpaid} {told} {script} {config} later {run} stands some is halts =
    let v : View = run.view in
    let states : List ThreadState = run.states in
    record {
      disk = stands.disk;
      v = v;
      states = states;
      table = stands.table;
      moments = λ tells.
          subst (SomeMoments script v.log states config) (sym halts.journal) (some_of (stands.moments tells));
      journal = subst (IsJournalOf config) (sym halts.journal) stands.collector.journal;
      made = λ is_told. subst (MakesWithin config v.log) (sym halts.journal) (run_within is_told stands);
      unpaid = unpaid;
      counts = subst (λ (js : List Journal). CountsCollections script config unpaid states (length js))
          (sym halts.journal) stands.counts;
      log = ap (λ (l : Left). l.history) halts.left_is ∙ is.1;
      halts = λ cause. some;
      cause = ends_by told config later stands.disk v halts is.0 halts.states;
    }
