-- A run begins with the threads of its script, and ends when they have ended.
use Rattle.std.proofs.Common.{◌≡◌, ℕ, ◌≤◌, List, [], length, sym, ◌∙◌, ap, subst, arith}
use Rattle.std.proofs.lemmas.List.Elements.{All-nil}
use Rattle.std.specs.Prelude.{Bool, true, Option, None, Some, IsSome, slice_get}
use Rattle.melt_model.specs.Config.{InRanges}
use Rattle.melt_model.specs.declared.config.Config.{Config}
use Rattle.melt_model.specs.declared.history.Entry.{Entry}
use Rattle.melt_model.specs.declared.reports.Journal.{Journal}
use Rattle.melt_model.specs.declared.reports.Phase.TheVariants.{Inactive}
use Rattle.melt_trace.specs.Script.{Script}
use Rattle.melt_scion.specs.declared.heap.Heap.{Heap}
use Rattle.melt_core.specs.Views.{IsQuiet, View}
use Rattle.melt_safepoint.specs.declared.thread.ThreadState.{ThreadState}
use Rattle.melt_safepoint.specs.Counts.{CountsCollections, over}
use Rattle.melt_safepoint.specs.Threads.{AllEnded, AreNewThreads}
use Rattle.melt_safepoint.specs.Journals.{before, next_of, end_of, IsJournalOf}
use Rattle.melt_safepoint.specs.Made.{MakesWithin}
use Rattle.melt_safepoint.specs.Shown.{Shown}
use Rattle.melt_safepoint.specs.Endings.{HaveMoments, SomeMoments}
use Rattle.melt_safepoint.proofs.Collecting.{placed_told}
use Rattle.melt_safepoint.proofs.InOrder.{no_moments, some_of}
use Rattle.melt_safepoint.proofs.Staying.{keeps_begin}
use Rattle.melt_safepoint.proofs.Shown.{bare, bare_none_free, bare_shown}
use Rattle.melt_safepoint.proofs.Starting.{counts_new, none_new}
use Rattle.melt_safepoint.specs.declared.collector.Collector.{Collector}
use Rattle.melt_safepoint.specs.declared.ending.Ended.{Ended as RunEnded}
use Rattle.melt_safepoint.specs.Collections.{LeavesAll}
use Rattle.melt_safepoint.specs.Ended.{EndedStands, EndsBy}
use Rattle.melt_model.specs.declared.reports.Halt.{Halt}
use Rattle.melt_safepoint.specs.Rows.{CollectorStands, Row, RunStands, last_of}
use Rattle.melt_safepoint.specs.Tables.{TableStands, Renewed}
use Rattle.melt_safepoint.proofs.Tables.{Table_renewed}
use Rattle.melt_safepoint.proofs.WordsMade.{made_nothing, run_within}

-- a collector before the first collection
pub Collector_new : (config : Config) (shown : Shown) (c : Collector) → InRanges config → shown.end ≡ 1
    → shown.limit ≡ config.disk → c.journal.items ≡ []
    → c.plan ≡ record { next = Inactive; mark = config.mark; move_ = config.move_ } → CollectorStands config shown c
Collector_new config shown c ranges ends limits none plan =
    let last : last_of c ≡ None = ap (λ (js : List Journal). before js (length js)) none in
    record {
      plan = plan ∙ ap (λ (j : Option Journal). record
          { next = next_of config j; mark = config.mark; move_ = config.move_ }) (sym last);
      journal = subst (IsJournalOf config) (sym none)
          (record {
            phases = λ k j at. absurd (let wrong : slice_get [] k ≡ Some j = at in cc);
            words = All-nil (λ (j : Journal). (j.held ≤ j.live) × (j.live ≤ config.heap));
            ends = λ k j at. absurd (let wrong : slice_get [] k ≡ Some j = at in cc);
            limit = All-nil (λ (j : Journal). j.end ≤ config.disk);
          });
      end = ends ∙ ap end_of (sym last);
      within = omega (arith, ends, ranges.disk_least);
      limit = limits;
    }

-- a run before its first event
pub Run_new : (told : Bool) (script : Script) (config : Config) (shown : Shown) (entries : ℕ) (run : Row)
    → InRanges config → shown.end ≡ 1 → shown.limit ≡ config.disk → (told ≡ true → IsSome shown.image)
    → TableStands told script config (bare shown.image) run.view run.states → IsQuiet run.view → run.view.log ≡ []
    → AreNewThreads script run.states entries → run.words ≡ config.heap → run.every ≡ config.every
    → run.told ≡ told → run.collector.journal.items ≡ []
    → run.collector.plan ≡ record { next = Inactive; mark = config.mark; move_ = config.move_ }
    → RunStands told script config shown run
Run_new told script config shown entries run ranges ends limits some table quiet history new_states words every
    told_is none plan =
    let states : List ThreadState = run.states in
    record {
      disk = bare shown.image;
      under = bare_shown told shown.image shown.end ends some;
      none_free = bare_none_free shown.image;
      table = table;
      quiet = quiet;
      words = words;
      every = every;
      told_is = told_is;
      collector = Collector_new config shown run.collector ranges ends limits none plan;
      moments = λ is. record {
        moments = [];
        have = subst (λ (js : List Journal). HaveMoments script run.view.log states config js []) (sym none)
            (no_moments script run.view.log states config (none_new new_states));
        bits = keeps_begin script (bare shown.image) run.view (placed_told told (bare shown.image) run.view table.stands is)
            history;
      };
      made = λ is. made_nothing config run.view run.collector.journal.items (table.stands.counts is) history;
      counts = subst (λ (js : List Journal). CountsCollections script config 0 states (length js)) (sym none)
          (counts_new script config entries states new_states);
    }

-- what is left of a run that ends by itself
pub record Ends (run : Row) (ended : RunEnded) : Type 0 where
  pub left : LeavesAll run.view ended.left
  pub states : ended.states.items ≡ run.states
  pub journal : ended.journal.items ≡ run.collector.journal.items
  pub halt_is : ended.halt ≡ None

-- it stands so, where all its threads have ended
pub ended_all : (told : Bool) (script : Script) (config : Config) (shown : Shown) (run : Row) (ended : RunEnded)
    → RunStands told script config shown run → AllEnded run.states → Ends run ended
    → EndedStands told script config shown ended
ended_all told script config shown run ended stands over ends =
    let v : View = run.view in
    let w : View = ends.left.w in
    let states : List ThreadState = run.states in
    let left = ends.left.stands told stands.disk stands.table.stands in
    let renewed : Renewed told stands.disk v w = left.0 in
    let By : Option Halt → Option Heap → Type 0 = λ h x. EndsBy told config shown stands.disk w states ended h x in
    record {
      disk = stands.disk;
      v = w;
      states = states;
      table = Table_renewed stands.table renewed;
      moments = λ is. subst (λ (h : List Entry). SomeMoments script h states config ended.journal.items)
          (sym renewed.history)
          (subst (SomeMoments script v.log states config) (sym ends.journal) (some_of (stands.moments is)));
      journal = subst (IsJournalOf config) (sym ends.journal) stands.collector.journal;
      made = λ is. subst (λ (h : List Entry). MakesWithin config h ended.journal.items) (sym renewed.history)
          (subst (MakesWithin config v.log) (sym ends.journal) (run_within is stands));
      unpaid = 0;
      counts = subst (λ (js : List Journal). CountsCollections script config 0 states (length js)) (sym ends.journal)
          stands.counts;
      log = ends.left.log;
      halts = λ some. absurd (let none : IsSome {T = Halt} None = subst IsSome ends.halt_is some in cc);
      cause = subst (λ (h : Option Halt). By h ended.left.heap) (sym ends.halt_is)
          (subst (By None) (sym ends.left.there) (over, ends.states, left.1, stands.under));
    }
