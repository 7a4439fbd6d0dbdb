-- A thread before its first operation was told nothing, and stands so in the empty history.
use Rattle.std.proofs.Common.{◌≡◌, ℕ, ◌≤◌, true, List, [], ◌∷◌, length, replicate, refl, sym, ◌∙◌, ap, subst}
use Rattle.std.proofs.Common.{arith, inl, inr}
use Rattle.std.specs.Prelude.{zero, suc, Option, None, Some, IfSome, take, drop, vec_capacity}
use Rattle.melt_model.proofs.Transcripts.{Stands_start}
use Rattle.melt_model.specs.Standing.{Stands}
use Rattle.melt_model.specs.Thread.{value_in}
use Rattle.melt_model.specs.declared.history.Value.TheVariants.{Nil}
use Rattle.melt_model.specs.declared.operations.Op.{Op}
use Rattle.melt_model.specs.declared.operations.Reply.{Reply}
use Rattle.melt_trace.specs.Script.{Script, operations}
use Rattle.melt_core.specs.Stages.{LooksAtStop}
use Rattle.melt_epoch.specs.Ends.{MutatorBegins}
use Rattle.melt_epoch.specs.Tests.{MayStart}
use Rattle.melt_epoch.specs.declared.mutator.Mutator.{Mutator}
use Rattle.melt_safepoint.specs.Modes.{CallsAgain, FitsMode, IsEnded}
use Rattle.melt_safepoint.specs.Threads.{IsNewThread, left}
use Rattle.melt_safepoint.specs.declared.thread.Mode.{Mode}
use Rattle.melt_safepoint.specs.declared.thread.Mode.TheVariants.{Running, Lacking}
use Rattle.melt_safepoint.specs.declared.thread.ThreadState.{ThreadState}
use Rattle.melt_pool.specs.Epochs.{Rests}
use Rattle.melt_pool.specs.Firsts.{ThreadLacksRoom}
use Rattle.melt_pool.specs.Programs.{RepliesStandIn, ProgramStands}
use Rattle.melt_pool.specs.declared.worker.Worker.{Worker}
use Rattle.melt_pool.proofs.Running.{brings_one}
use Rattle.melt_pool.proofs.Working.{program_stays}
use Rattle.melt_pool_tests.specs.Tests.{AllNew, IsNew}

-- all its operations are to come
new_program : (script : Script) (t : ℕ) (s : ThreadState) → IsNewThread (operations script t) script.globals s
    → ProgramStands script t s
new_program script t s new =
    let ops : List Op = operations script t in
    let none : length s.replies.items ≡ 0 = ap length new.replies in
    let all : length (left s) ≡ length ops = ap length new.to_come in
    let fits : length ops ≤ vec_capacity s.replies = new.capacity in
    record {
      to_come = new.to_come ∙ sym (ap (λ (n : ℕ). drop n ops) none);
      within = omega (arith, none, all);
      none_left = new.none_left;
      fits = elim new.mode [
        | inl runs ↦ subst (λ (m : Mode). FitsMode m s.op) (sym runs.0) runs.1
        | inr ended ↦ subst (λ (m : Mode). FitsMode m s.op) (sym ended.0) tt
      ];
      in_range = new.in_range;
      globals = new.knows;
      room = omega (arith, none, all, fits);
    }

-- and its registers hold nothing
pub new_rests : {R : Type 0} (script : Script) (s : ThreadState) (m : Mutator (Worker R)) (worker : Worker R)
    → IsNewThread (operations script m.thread) script.globals s → m.reader ≡ Some worker → worker.state ≡ Some s
    → m.values ≡ replicate 16 Nil → Rests true script [] s m
new_rests script s m worker new there state values = record {
  brings = record { worker = worker; there = there; state = state };
  program = new_program script m.thread s new;
  replies_stand = λ tells. record {
    registers = replicate 16 Nil;
    stands = subst
        (λ (rs : List Reply). Stands [] m.thread (take (length rs) (operations script m.thread)) rs (replicate 16 Nil))
        (sym new.replies) (Stands_start m.thread);
    in_registers = inr (sym values);
  };
  dropped = λ over. values;
  looks = λ again. absurd (elim new.mode [
    | inl runs ↦ subst CallsAgain runs.0 again
    | inr ended ↦ subst CallsAgain ended.0 again
  ]);
}

-- two such threads
pub two_new : {R : Type 0} (script : Script) (m n : Mutator (Worker R)) → IsNew script m → IsNew script n
    → AllNew script (m ∷ n ∷ [])
two_new script m n new also zero x at =
    let both : Some m ≡ Some x = at in
    let same : m ≡ x = cc in
    subst (IsNew script) same new
two_new script m n new also (suc zero) x at =
    let both : Some n ≡ Some x = at in
    let same : n ≡ x = cc in
    subst (IsNew script) same also
two_new script m n new also (suc (suc k)) x at = let none : None ≡ Some x = at in absurd (cc)

-- A thread whose next call was refused for want of room, before any other.
module _ {R : Type 0} (m n : Mutator (Worker R)) (worker : Worker R) (state : ThreadState)
    (there : m.reader ≡ Some worker) (had : worker.state ≡ Some state)
    (is : n ≡ record m { reader = Some (record worker { state = Some (record state { mode = Lacking }) }) }) where
  abbrev refused : ThreadState
  refused = record state { mode = Lacking }

  abbrev full : Mutator (Worker R)
  full = record m { reader = Some (record worker { state = Some refused }) }

  abbrev none : Worker R → Option (List ℕ)
  none w = Some []

  pub refused_starts : MayStart none m → MayStart none n
  refused_starts may start empty =
      let was = may start empty in
      let here : MutatorBegins none start full = record {
        unseated_yet = was.unseated_yet;
        reader = record worker { state = Some refused };
        there = refl;
        tells = λ told. ap (λ (words : List ℕ). Some words) (sym empty);
        size = was.size;
        registers = was.registers;
      } in
      subst (MutatorBegins none start) (sym is) here

  pub refused_new : (script : Script) → state.mode ≡ Running → FitsMode Lacking state.op
      → IfSome state.op (LooksAtStop (value_in m.values)) → IsNew script m → IsNew script n
  refused_new script runs fits looks new =
      let was = new.1 in
      let same : new.0 ≡ state = brings_one m new.0 state worker was.brings there had in
      let program : ProgramStands script m.thread state =
      subst (ProgramStands script m.thread) same was.program in
      let told : RepliesStandIn script [] m.thread state m.values =
      subst (λ (s : ThreadState). RepliesStandIn script [] m.thread s m.values) same (was.replies_stand refl) in
      let here : Rests true script [] refused full = record {
        brings = record { worker = record worker { state = Some refused }; there = refl; state = refl };
        program = program_stays script m.thread state Lacking program fits;
        replies_stand = λ tells. record {
          registers = told.registers;
          stands = told.stands;
          in_registers = elim told.in_registers [
            | inl over ↦ absurd (subst IsEnded runs over)
            | inr held ↦ inr held
          ];
        };
        dropped = λ over. absurd over;
        looks = λ again. looks;
      } in
      (refused, subst (Rests true script [] refused) (sym is) here)

  pub refused_lacks : ThreadLacksRoom n
  refused_lacks = record {
    state = refused;
    brings = record {
      worker = record worker { state = Some refused };
      there = ap (λ (x : Mutator (Worker R)). x.reader) is;
      state = refl;
    };
    lacks = refl;
  }
