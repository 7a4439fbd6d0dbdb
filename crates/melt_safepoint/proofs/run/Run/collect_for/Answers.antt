-- The collection of a thread that waits for one.
use Rattle.std.proofs.Common.{◌≡◌, ◌<◌, List, length, refl, sym, ◌∙◌, ap, subst, arith, ◌⊎◌, inl, inr}
use Rattle.std.proofs.Math.ListN.{set}
use Rattle.std.proofs.lemmas.Option.{same_Some, slice_get_read}
use Rattle.std.proofs.lemmas.Result.{err_from_is_err_and}
use Rattle.std.specs.Prelude.{Some, slice_get, vec_capacity}
use Rattle.melt_safepoint.specs.declared.thread.Mode.{Mode}
use Rattle.melt_safepoint.specs.declared.thread.Mode.TheVariants.{Collecting, Silent}
use Rattle.melt_safepoint.specs.declared.thread.ThreadState.{ThreadState}
use Rattle.melt_safepoint.specs.Passing.{CollectedFor}
use Rattle.melt_safepoint.specs.Modes.{ForCollection, Waits}
use Rattle.melt_safepoint.specs.Rows.{MakesFor, Row, row_of}
use Rattle.melt_safepoint.proofs.Collected.{may_collect}
use Rattle.melt_safepoint.proofs.Collections.{other_stays, taken_fewer, taken_losses, waits_none}
use Rattle.melt_safepoint.proofs.Composing.{stops_planned}
use Rattle.melt_safepoint.proofs.TakingCollections.{SameEpoch, WasCollected, collected_thread, collecting_op}
use Rattle.melt_safepoint.proofs.TakingCollections.{collecting_room, drops_same, keeps_taken, made_for}
use Rattle.melt_safepoint.proofs.TakingCollections.{made_none, state_read, was_collected}
use Rattle.melt_safepoint.proofs.Threads.{set_got}
use Rattle.melt_safepoint.proofs.Writes.{wrote_none}
use Rattle.melt_safepoint.proofs.run.Run.collect_for.Given.{Over}
use Rattle.melt_safepoint.proofs.run.Run.collect_for.Goals as goal
use Rattle.melt_safepoint.proofs.run.Run.collect_for.Goals.{After-index, After-drop_if_ended, In_ok-run}

-- the run before
old : (g : Over) → After-index g → Row
old g c = row_of g.E.Machine.view c.args.self

-- the thread whose mode was read
read : (g : Over) (c : After-index g) → slice_get c.args.self.states.items c.args.thread ≡ Some c.index.result.now
read g c = slice_get_read c.args.self.states.items
    (length c.args.self.states.items) c.args.thread c.index.result.now refl c.requires.thread c.index.ensures

-- a thread waits for a collection of its own
waits_for : (mode : Mode) → (mode ≡ Collecting) ⊎ (mode ≡ Silent) → Waits mode
waits_for mode (inl own) = subst Waits (sym own) tt
waits_for mode (inr silent) = subst Waits (sym silent) tt

pub returns-in_default : goal.returns-in_default
returns-in_default g c =
    let s : ThreadState = c.index.result.now in
    let run : Row = row_of g.E.Machine.view c.args.self in
    let at = read g (goal.at.returns-in_default g c).After-index in
    let never = waits_none s.mode c.in_default.not-Silent c.in_default.not-Collecting in
    record {
      keeps = λ told script config rests. rests;
      only = λ x there. (
        s,
        sym (set_got c.args.self.states.items c.args.thread s at),
        subst (λ (y : ThreadState). CollectedFor y s) (same_Some s x (sym at ∙ there)) (other_stays s never),
      );
      made = λ x there.
          subst (λ (y : ThreadState). MakesFor y (g.S.DiskSpace.sees.shown c.args.space.now) run run)
          (same_Some s x (sym at ∙ there)) (made_none _ run s never);
      lost = refl;
      stopped = tt;
      same_disk = refl;
      count = omega arith;
      read_faults = refl;
      stop_counts = tt;
      stores = tt;
      lends = refl;
      stop_keeps = tt;
      wrote = wrote_none _ _ _ _ refl refl;
      stop_wrote = tt;
    }

pub collect-requires : goal.collect-requires
collect-requires g c κs = (
  (refl, tt),
  (
    c.requires.engine,
    may_collect c.requires.stands.0 c.requires.stands.1 c.requires.stands.2 _ (row_of g.E.Machine.view c.args.self)
        c.requires.stands.3,
  ),
)

pub returns-in_err-run-clause-stopped : goal.returns-in_err-run-clause-stopped
returns-in_err-run-clause-stopped g c =
    let exit = err_from_is_err_and c.from_residual.result c.from_residual.ensures.1 in
    rw (exit.1, exit.2)
    (stops_planned _ _ (row_of g.E.Machine.view c.args.self) _ (
      c.args.thread,
      (
        c.index.result.now,
        read g (goal.at.returns-in_err-run-clause-stopped g c).After-index,
        waits_for c.index.result.now.mode
            c.in-Collecting.is,
      ),
    ) c.in_err-run.ensures.stopped)

pub take_collection-requires : goal.take_collection-requires
take_collection-requires g c =
    let s : ThreadState = c.index.result.now in
    let at = read g (goal.at.take_collection-requires g c).After-index in
    let same : c.index_mut-state.result.now ≡ s =
    state_read c.args.self.states.items c.in_ok-run.run'.states.items c.args.thread s c.index_mut-state.result.now _ at
    c.in_ok-run.ensures.made.states c.index_mut-state.ensures.value in
    subst (λ (x : ThreadState). x.mode ≡ Collecting → length x.replies.items < vec_capacity x.replies) (sym same)
    (collecting_room c.args.thread c.requires.stands.3 at)

pub drop_if_ended-requires-clause-thread : goal.drop_if_ended-requires-clause-thread
drop_if_ended-requires-clause-thread g c =
    collected_thread c.args.thread c.requires.stands.3 c.in_ok-run.ensures.made c.requires.thread

pub drop_if_ended-requires-clause-quiet : goal.drop_if_ended-requires-clause-quiet
drop_if_ended-requires-clause-quiet g c = c.in_ok-run.ensures.made.collects.quiet

-- the thread waited, and goes on
was : (g : Over) (c : After-drop_if_ended g)
    → WasCollected (row_of g.E.Machine.view c.args.self) (row_of g.E.Machine.view c.in_ok-run.run') c.args.thread
    c.index.result.now c.take_collection.new.self
was g c =
    was_collected (row_of g.E.Machine.view c.args.self) (row_of g.E.Machine.view c.in_ok-run.run') c.args.thread _
    (read g (goal.at.returns-clause-keeps g c).After-index) c.in_ok-run.ensures.made.states
    c.index_mut-state.ensures.value c.in-Collecting.is (record {
      takes = c.take_collection.ensures.takes;
      due = c.take_collection.ensures.due;
      silent = c.take_collection.ensures.silent;
    })

-- what the engine shows is as it was, but for what registers hold
epoch : (g : Over) (c : After-drop_if_ended g)
    → SameEpoch (g.E.Machine.view c.in_ok-run.run'.machine) (g.E.Machine.view c.drop_if_ended.new.self.machine)
epoch g c =
    drops_same (g.E.Machine.view c.in_ok-run.run'.machine) (g.E.Machine.view c.drop_if_ended.new.self.machine)
    c.args.thread c.take_collection.new.self.mode c.drop_if_ended.ensures.drops

pub returns-clause-keeps : goal.returns-clause-keeps
returns-clause-keeps g c =
    keeps_taken c.in_ok-run.ensures.made (was g c) c.drop_if_ended.ensures.drops (rw c.drop_if_ended.ensures.only
    (record { states = refl; collector = refl; words = refl; every = refl; told = refl; epoch = epoch g c }))

pub returns-clause-only : goal.returns-clause-only
returns-clause-only g c =
    let s : ThreadState = c.index.result.now in
    let after : ThreadState = c.take_collection.new.self in
    let by = was g c in
    λ x there. (
      after,
      rw c.drop_if_ended.ensures.only
          (ap (λ (xs : List ThreadState). set xs c.args.thread after) c.in_ok-run.ensures.made.states),
      subst (λ (y : ThreadState). CollectedFor y after) (same_Some s x (sym by.at ∙ there))
          (taken_fewer c.in_ok-run.run'.every s after by.waits by.takes
          (collecting_op c.args.thread c.requires.stands.3 by.at)),
    )

pub returns-clause-made : goal.returns-clause-made
returns-clause-made g c =
    let s : ThreadState = c.index.result.now in
    let by = was g c in
    λ x there.
    let same : s ≡ x = same_Some s x (sym by.at ∙ there) in
    made_for _ _ (row_of g.E.Machine.view c.args.self) (row_of g.E.Machine.view c.in_ok-run.run') _ x
    c.in_ok-run.ensures.made (subst (λ (y : ThreadState). ForCollection y.mode) same by.waits)
    (rw c.drop_if_ended.ensures.only refl) (epoch g c)

pub returns-clause-lost : goal.returns-clause-lost
returns-clause-lost g c =
    let by = was g c in
    rw c.drop_if_ended.ensures.only
    (taken_losses c.in_ok-run.run'.every c.args.self.states.items c.in_ok-run.run'.states.items c.args.thread
    c.index.result.now c.take_collection.new.self c.in_ok-run.ensures.made.states by.at by.waits by.takes)

pub returns-clause-wrote : goal.returns-clause-wrote
returns-clause-wrote g c = rw c.drop_if_ended.ensures.only c.in_ok-run.ensures.wrote
