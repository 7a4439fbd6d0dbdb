-- The threads of a run that stands between two epochs, as their mutators bring them into the next one.
use Rattle.std.proofs.Common.{◌≡◌, ℕ, List, length, take, sym, ◌∙◌, subst, arith, inl, inr}
use Rattle.std.proofs.lemmas.Option.{slice_get_cases, slice_get_within}
use Rattle.std.specs.Prelude.{Bool, Option, Some, IfSome, slice_get}
use Rattle.melt_model.specs.Standing.{Stands}
use Rattle.melt_model.specs.Thread.{value_in}
use Rattle.melt_model.specs.declared.config.Config.{Config}
use Rattle.melt_model.specs.declared.history.Entry.{Entry}
use Rattle.melt_model.specs.declared.history.Value.{Value}
use Rattle.melt_trace.specs.Script.{Script, operations}
use Rattle.melt_scion.specs.Heaps.{OnDisk}
use Rattle.melt_scion.specs.declared.registers.Registers.{Registers}
use Rattle.melt_core.specs.Stages.{LooksAtStop}
use Rattle.melt_core.specs.Views.{View}
use Rattle.melt_rule.specs.declared.began.Began.{Began}
use Rattle.melt_epoch.specs.declared.mutator.Mutator.{Mutator}
use Rattle.melt_safepoint.specs.Tables.{RepliesStand, TableStands, ThreadStands}
use Rattle.melt_safepoint.specs.declared.thread.ThreadState.{ThreadState}
use Rattle.melt_pool.specs.Epochs.{AllRest, Rests}
use Rattle.melt_pool.specs.Machines.{AreArmed, IsArmed}
use Rattle.melt_pool.specs.Programs.{RepliesStandIn, ProgramStands}
use Rattle.melt_pool.specs.declared.worker.Worker.{Worker}

-- the program of a thread that stands
pub program_of : (told : Bool) (script : Script) (v : View) (t : ℕ) (s : ThreadState) → ThreadStands told script v t s
    → ProgramStands script t s
program_of told script v t s st = record {
  to_come = st.to_come;
  within = st.within;
  none_left = st.none_left;
  fits = st.fits;
  in_range = st.in_range;
  globals = st.globals;
  room = st.room;
}

module _ {R : Type 0} (told : Bool) (script : Script) (config : Config) (disk : OnDisk) (v : View)
    (states : List ThreadState) (image : R → Option (List ℕ)) (faults : R → ℕ) (words : Option (List ℕ))
    (registers : List Registers) (ms : List (Mutator (Worker R))) (b : Began) (is_told : b.told ≡ told)
    (history : b.history ≡ v.log) (table : TableStands told script config disk v states)
    (armed : AreArmed image faults words v states registers ms) where
  -- the mutator of a thread is ready for the epoch
  pub armed_at : (t : ℕ) (s : ThreadState) (m : Mutator (Worker R)) → slice_get states t ≡ Some s
      → slice_get ms t ≡ Some m → (r : Registers) × IsArmed image faults words v t s r m
  armed_at t s m at is = elim (slice_get_cases registers t).1 [
    | inl w ↦ (w.0, armed.each t s w.0 m at w.2 is)
    | inr w ↦ absurd (
        let below : _ = slice_get_within states t s at in
        omega (arith, w.0, below, armed.as_many))
  ]

  -- the thread rests before the epoch
  pub rests_at : (t : ℕ) (s : ThreadState) (m : Mutator (Worker R)) → slice_get states t ≡ Some s
      → slice_get ms t ≡ Some m → Rests b.told script b.history s m
  rests_at t s m at is =
      let x : IsArmed image faults words v t s (armed_at t s m at is).0 m = (armed_at t s m at is).1 in
      let st : ThreadStands told script v t s = table.each t s at in
      record {
        brings = x.brings;
        program = subst (λ (u : ℕ). ProgramStands script u s) (sym x.thread) (program_of told script v t s st);
        replies_stand = λ tells.
            let i : RepliesStand script v t s = st.replies_stand (sym is_told ∙ tells) in
            subst (λ (u : ℕ). RepliesStandIn script b.history u s m.values) (sym x.thread) (record {
              registers = i.registers;
              stands = subst (λ (h : List Entry). Stands h t (take (length s.replies.items) (operations script t))
                  s.replies.items i.registers) (sym history) i.stands;
              in_registers = elim i.in_registers [
                | inl over ↦ inl over
                | inr same ↦ inr (same ∙ sym x.values)
              ];
            });
        dropped = λ over. x.values ∙ st.dropped over;
        looks = λ again. subst (λ (rs : List Value). IfSome s.op (LooksAtStop (value_in rs))) (sym x.values)
            (st.looks again);
      }

  -- and so do all
  pub threads_rest : b.globals ≡ script.globals → AllRest script b ms
  threads_rest globals = record {
    globals = globals;
    each = λ t m is. elim (slice_get_cases states t).1 [
      | inl w ↦ (w.0, rests_at t w.0 m w.2 is)
      | inr w ↦ absurd (
          let below : _ = slice_get_within ms t m is in
          omega (arith, w.0, below, armed.count))
    ];
  }
