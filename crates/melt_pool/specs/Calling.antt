-- What the call of an operation comes to in an epoch, whichever operation it is.
use Rattle.std.specs.Prelude.{◌≡◌, ℕ, ◌+◌, ◌<◌, ◌≤◌, Bool, true, List, Option, Some, Result, Ok, Err}
use Rattle.atomic_table.specs.declared.shared.Seat.{Seat}
use Rattle.melt_model.specs.Thread.{value_in}
use Rattle.melt_model.specs.declared.history.Slot.{Slot}
use Rattle.melt_model.specs.declared.history.Slot.TheVariants.{Field, Global}
use Rattle.melt_model.specs.declared.history.Value.{Value}
use Rattle.melt_model.specs.declared.history.Value.TheVariants.{Ref}
use Rattle.melt_model.specs.declared.operations.Op.{Op}
use Rattle.melt_model.specs.declared.operations.Op.TheVariants as op
use Rattle.melt_model.specs.declared.operations.Reply.{Reply}
use Rattle.melt_word.specs.Words.{cost_of}
use Rattle.melt_word.specs.declared.header.Shape.{Shape}
use Rattle.melt_io.specs.Outside.{Rose}
use Rattle.melt_scion.specs.Scions.{Scions}
use Rattle.melt_core.specs.Stages.{LooksAtStop}
use Rattle.melt_core.specs.declared.answer.Pause.TheVariants.{Asked, Space, Forward}
use Rattle.melt_core.specs.declared.answer.Refusal.{Refusal}
use Rattle.melt_core.specs.declared.answer.Refusal.TheVariants as refusal
use Rattle.melt_core.specs.declared.answer.Refusal.TheVariants.{Pause}
use Rattle.melt_rule.specs.Seats.{knows_of}
use Rattle.melt_rule.specs.Tells.{Sees}
use Rattle.melt_rule.specs.declared.view.View.{View}
use Rattle.melt_epoch.specs.Calls.{Replies}
use Rattle.melt_epoch.specs.Fetching.{IsDamage}
use Rattle.melt_epoch.specs.Loading.{HeldHas}
use Rattle.melt_epoch.specs.declared.mutator.Mutator.{Mutator}
use Rattle.melt_safepoint.specs.Needs.{IsLoad}

-- A seat of the same thread, with the causes to stop that it had, and as many commits that it won.
pub record SameCauses (v w : View) : Type 0 where
  pub thread : w.thread ≡ v.thread
  pub began : w.began ≡ v.began
  pub asked : w.asked ≡ v.asked
  pub spaced : w.spaced ≡ v.spaced
  pub forwarded : w.forwarded ≡ v.forwarded

-- The call claimed so many words, which end past the last one: no more than an object may have. It won no commit.
pub record WasSpaced (v w : View) (need : ℕ) : Type 0 where
  pub thread : w.thread ≡ v.thread
  pub began : w.began ≡ v.began
  pub spaced : w.spaced ≡ true
  pub claimed : w.claimed ≡ v.claimed + need
  pub won : w.won ≡ v.won
  pub small : need ≤ 126

-- Or it found each forwarding word to send another home. It won no commit either.
pub record WasForwarded (v w : View) : Type 0 where
  pub thread : w.thread ≡ v.thread
  pub began : w.began ≡ v.began
  pub forwarded : w.forwarded ≡ true
  pub won : w.won ≡ v.won

-- at some time in the call the slot referred to an object that takes so many words, where the epoch is told
abbrev pub NeedsAt : View → View → Slot → ℕ → Type 0
NeedsAt v w s need = (z : Shape) × (need ≡ cost_of z) × HeldHas v w s z

-- for what a call wanted so many words: the object that it makes, or one to which the slot that it loads referred
abbrev pub NeedsIn : View → View → List Value → Op → ℕ → Type 0
NeedsIn v w values (op.New dst refs nums) need = need ≡ 2 + refs + nums
NeedsIn v w values (op.Load dst src i) need = (n : ℕ) × (value_in values src ≡ Ref n) × NeedsAt v w (Field n i) need
NeedsIn v w values (op.GLoad dst g) need = NeedsAt v w (Global g) need
NeedsIn v w values o need = ⊥

-- why a call was refused
abbrev pub RefusedFor : Bool → Option (List ℕ) → Scions → ℕ → ℕ → ℕ → View → View → List Value → Op → Refusal → Type 0
RefusedFor told image scions end before after v w values o (Pause Asked) =
    SameCauses v w × (w.stopped ≡ true) × LooksAtStop (value_in values) o
RefusedFor told image scions end before after v w values o (Pause (Space need)) =
    WasSpaced v w need × NeedsIn v w values o need
RefusedFor told image scions end before after v w values o (Pause Forward) =
    WasForwarded v w × IsLoad o × LooksAtStop (value_in values) o
RefusedFor told image scions end before after v w values o refusal.DiskFault =
    SameCauses v w × IsLoad o × Rose before after
RefusedFor told image scions end before after v w values o (refusal.Damaged damaged) =
    SameCauses v w × IsLoad o × (told ≡ true → ⊥) × ((home : ℕ) × (home < end) × IsDamage image scions end home damaged)

-- A call was answered, or refused, which leaves the values in registers and has no entry.
abbrev pub Calls : Bool → Option (List ℕ) → Scions → ℕ → ℕ → ℕ → View → View → List Value → List Value → Op
    → Result Reply Refusal → Type 0
Calls told image scions end before after v w old new o (Ok reply) = Replies v w old new o reply × SameCauses v w
Calls told image scions end before after v w old new o (Err refusal) =
    Sees v w.seen × (new ≡ old) × RefusedFor told image scions end before after v w old o refusal

-- the same of a mutator before and after, by its seats and its readers
abbrev pub IsCalled : {R : Type 0} → (R → Option (List ℕ)) → (R → ℕ) → Bool → Scions → ℕ → Mutator R → Mutator R → Op
    → Result Reply Refusal → Type 0
IsCalled {R} image faults told scions end m n o result = (s t : Seat ℕ View) (p q : R) → m.seat ≡ Some s
    → n.seat ≡ Some t → m.reader ≡ Some p → n.reader ≡ Some q
    → Calls told (image p) scions end (faults p) (faults q) (knows_of s) (knows_of t) m.values n.values o result

-- a call that was refused leaves its mutator as it was, but for the seat and the reader
abbrev pub RefusedKeeps : {R : Type 0} → Mutator R → Mutator R → Result Reply Refusal → Type 0
RefusedKeeps m n (Ok reply) = Unit {0}
RefusedKeeps m n (Err refusal) = n ≡ record m { seat = n.seat; reader = n.reader }
