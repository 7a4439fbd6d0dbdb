-- Which silent collections a thread has still to come.
use Rattle.std.proofs.Common.{[], ◌≡◌, ℕ, ◌+◌, ◌∷◌, length, refl, sym, ◌∙◌, ap, subst, arith, length-append, true}
use Rattle.std.proofs.Common.{false}
use Rattle.std.specs.Prelude.{Option, None, IsSome}
use Rattle.melt_model.specs.declared.config.Config.{Config}
use Rattle.melt_model.specs.declared.operations.Op.{Op}
use Rattle.melt_model.specs.declared.operations.Reply.{Reply}
use Rattle.melt_core.specs.declared.answer.Pause.TheVariants as pause
use Rattle.melt_core.specs.declared.answer.Refusal.{Refusal}
use Rattle.melt_core.specs.declared.answer.Refusal.TheVariants as refusal
use Rattle.melt_core.specs.declared.answer.Refusal.TheVariants.{Pause}
use Rattle.melt_safepoint.specs.Modes.{FitsMode, MayGo, mode_for, owes}
use Rattle.melt_safepoint.specs.Asked.{silent_in}
use Rattle.melt_safepoint.specs.Threads.{DueBy, TakesReply}
use Rattle.melt_safepoint.specs.declared.thread.Mode.{Mode}
use Rattle.melt_safepoint.specs.declared.thread.Mode.TheVariants.{Running, Due, Silent, Collecting, Asked}
use Rattle.melt_safepoint.specs.declared.thread.Mode.TheVariants.{Lacking, Ended}
use Rattle.melt_safepoint.specs.declared.thread.ThreadState.{ThreadState}
use Rattle.melt_safepoint.proofs.Counting.{silent_told}
use Rattle.melt_pool.specs.Programs.{OwesSilent, mode_again}

-- a configuration with this number, in which nothing else matters
abbrev config_of : ℕ → Config
config_of every = record { heap = 0; forward = 0; disk = 0; mark = 0; move_ = 0; every = every }

-- a reply brings a silent collection where one is due after it
pub reply_owes : (every : ℕ) (s after : ThreadState) (reply : Reply) → s.mode ≡ Running → DueBy every s after
    → TakesReply s after reply → OwesSilent every s after
reply_owes every s after reply runs due takes =
    let none : owes s.mode ≡ 0 = ap owes runs in
    let k : ℕ = length s.replies.items in
    let told : silent_in every (k + 1) ≡ silent_in every k + owes after.mode =
    silent_told (config_of every) s after reply due takes in
    let count : length after.replies.items ≡ k + 1 =
    ap length takes.replies ∙ length-append s.replies.items (reply ∷ []) in
    let same : silent_in every (length after.replies.items) ≡ silent_in every (k + 1) =
    ap (λ (n : ℕ). silent_in every n) count in
    omega (arith, told, none, same)

-- none is to come where a call was refused
pub refused_owes : (why : Refusal) → owes (mode_for why) ≡ 0
refused_owes (Pause pause.Asked) = refl
refused_owes (Pause (pause.Space need)) = refl
refused_owes (Pause pause.Forward) = refl
refused_owes refusal.DiskFault = refl
refused_owes (refusal.Damaged damaged) = refl

-- another mode alone, which owes as many
pub mode_owes : (every : ℕ) (s after : ThreadState) (mode : Mode) → after ≡ record s { mode = mode }
    → owes mode ≡ owes s.mode → OwesSilent every s after
mode_owes every s after mode is same =
    let has : silent_in every (length after.replies.items) ≡ silent_in every (length s.replies.items) =
    ap (λ (x : ThreadState). silent_in every (length x.replies.items)) is in
    let owed : owes after.mode ≡ owes mode = ap (λ (x : ThreadState). owes x.mode) is in
    omega (arith, has, owed, same)

pub refusal_owes : (every : ℕ) (s after : ThreadState) (why : Refusal) (mode : Mode) → s.mode ≡ Running
    → mode ≡ mode_for why → after ≡ record s { mode = mode } → OwesSilent every s after
refusal_owes every s after why mode runs is same =
    mode_owes every s after mode same (ap owes is ∙ (refused_owes why ∙ sym (ap owes runs)))

-- a thread that goes on and does not run has one to come, and waits for that
pub due_owes : (mode : Mode) → MayGo mode → (mode ≡ Running → ⊥) → owes Silent ≡ owes mode
due_owes Running may other = absurd (other refl)
due_owes Due may other = refl
due_owes Silent may other = absurd may
due_owes Collecting may other = absurd may
due_owes Asked may other = absurd may
due_owes Lacking may other = absurd may
due_owes (Ended e) may other = absurd may

-- and one that runs has a next operation
pub runs_some : (mode : Mode) (op : Option Op) → mode ≡ Running → op ≡ None → FitsMode mode op → ⊥
runs_some mode op runs none fits =
    let some_ : IsSome op = subst (λ (m : Mode). FitsMode m op) runs fits in
    let no : false ≡ true = subst IsSome none some_ in
    absurd (cc)

-- one part after another
pub owes_on : (every : ℕ) (s mid after : ThreadState) → OwesSilent every s mid → OwesSilent every mid after
    → OwesSilent every s after
owes_on every s mid after first second = omega (arith, first, second)

-- a call that is made again owes what it owed
pub again_owes : (mode : Mode) → owes (mode_again mode) ≡ owes mode
again_owes Running = refl
again_owes Due = refl
again_owes Silent = refl
again_owes Collecting = refl
again_owes Asked = refl
again_owes Lacking = refl
again_owes (Ended e) = refl
