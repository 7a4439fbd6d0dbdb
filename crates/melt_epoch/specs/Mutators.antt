-- What a thread holds within an epoch, and what its registers stand for.
use Rattle.std.specs.Prelude.{◌≡◌, ℕ, ◌-◌, true, List, [], length, replicate, slice_index, slice_set, Option, None}
use Rattle.std.specs.Prelude.{Some, unwrap_or}
use Rattle.atomic_table.specs.declared.shared.Seat.{Seat}
use Rattle.melt_model.specs.Thread.{given_at, value_in}
use Rattle.melt_model.specs.declared.history.Entry.{Entry}
use Rattle.melt_model.specs.declared.history.Value.{Value}
use Rattle.melt_model.specs.declared.history.Value.TheVariants.{Nil}
use Rattle.melt_rule.specs.Seats.{EpochWords, IsSeat, MayGoOn, knows_of}
use Rattle.melt_rule.specs.Tells.{Names, Sees}
use Rattle.melt_rule.specs.declared.began.Pair.{Pair}
use Rattle.melt_rule.specs.declared.view.View.{View}
use Rattle.melt_epoch.specs.declared.mutator.Mutator.{Mutator}

-- A seat between two calls: it has claimed no words past the last one, or has set the stop word; and what it has seen
-- is sound, and what its own thread has seen.
pub record IsIdle (words : EpochWords) (seat : Seat ℕ View) : Type 0 where
  pub is_seat : IsSeat words seat
  pub goes_on : MayGoOn (knows_of seat)
  pub sound : Sees (knows_of seat) (knows_of seat).seen
  pub own : (knows_of seat).mine ≡ (knows_of seat).seen

-- each register stands for its value, by what is known
abbrev pub StandFor : List Pair → List ℕ → List Value → Type 0
StandFor known regs values = (r : ℕ) → Names known (slice_index regs r) (value_in values r)

-- The mutator has a seat at the words, which speaks for its own thread alone. Each register stands for its value, by
-- what the seat knows.
pub record IsSeated {R : Type 0} (words : EpochWords) (m : Mutator R) : Type 0 where
  pub seat : Seat ℕ View
  pub there : m.seat ≡ Some seat
  pub idle : IsIdle words seat
  pub thread : (knows_of seat).thread ≡ m.thread
  pub one : (knows_of seat).parts ≡ 1
  pub alone : (knows_of seat).away ≡ []
  pub size : length m.values ≡ 16
  pub registers : StandFor (knows_of seat).known m.registers.regs m.values

-- what the last entry of a history gives to its thread
abbrev pub last_given : List Entry → Value
last_given h = unwrap_or (given_at h (length h - 1)) Nil

-- of what a seat has seen
abbrev pub given_to : Option (Seat ℕ View) → Value
given_to None = Nil
given_to (Some seat) = last_given (knows_of seat).seen

-- a register holds an address from then on, and stands for a value
abbrev pub with_reference : {R : Type 0} → Mutator R → ℕ → ℕ → Value → Mutator R
with_reference m r address value = record m {
  registers = record { regs = slice_set m.registers.regs r address };
  values = slice_set m.values r value;
}

-- no register holds anything
abbrev pub with_none : {R : Type 0} → Mutator R → Mutator R
with_none m = record m { registers = record { regs = replicate 16 0 }; values = replicate 16 Nil }

-- It has a reader, which reads the words with which the epoch began, where these are told.
pub record HasReader {R : Type 0} (image : R → Option (List ℕ)) (words : EpochWords) (m : Mutator R) : Type 0 where
  pub reader : R
  pub there : m.reader ≡ Some reader
  pub tells : words.start.began.told ≡ true → image reader ≡ Some words.start.began.image
