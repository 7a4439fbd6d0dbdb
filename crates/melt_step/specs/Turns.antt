-- Which thread has the next event.
use Rattle.std.specs.Prelude.{◌≡◌, ◌≢◌, ℕ, ◌+◌, ◌<◌, ◌≤◌, ◌⊎◌, List, length, slice_get, Some}
use Rattle.melt_safepoint.specs.declared.thread.ThreadState.{ThreadState}
use Rattle.melt_safepoint.specs.Modes.{MayGo}
use Rattle.melt_step.specs.declared.turns.Turns.{Turns}

-- a thread can go on
abbrev pub GoesAt : List ThreadState → ℕ → Type 0
GoesAt states t = (s : ThreadState) × (slice_get states t ≡ Some s) × MayGo s.mode

-- no thread can go on, of those from one number on and below another
abbrev pub NoneGoes : List ThreadState → ℕ → ℕ → Type 0
NoneGoes states from to = (t : ℕ) → from ≤ t → t < to → GoesAt states t → ⊥

-- no line of the trace, of those from one place on and before another, is of a thread that can go on
abbrev pub NoLine : List (ℕ × ℕ) → List ThreadState → ℕ → ℕ → Type 0
NoLine orders states from to = (k : ℕ) (line : ℕ × ℕ) → from ≤ k → k < to → slice_get orders k ≡ Some line
    → GoesAt states line.0 → ⊥

-- how many events a line gives that is begun, or that is to be begun
abbrev pub GivesEvents : Turns → ℕ → ℕ → ℕ → Type 0
GivesEvents turns k events count = ((k ≡ turns.line) × (turns.left ≢ 0) × (count ≡ turns.left))
    ⊎ (((k ≢ turns.line) ⊎ (turns.left ≡ 0)) × (count ≡ events))

-- The next event is one of a line: the first, from where the turns stand, whose thread can go on. Lines before it are
-- dropped, and so is the line itself with its last event.
pub record OfLine (orders : List (ℕ × ℕ)) (states : List ThreadState) (old new : Turns) (t : ℕ) : Type 0 where
  pub k : ℕ
  pub events : ℕ
  pub count : ℕ
  pub from : old.line ≤ k
  pub line : slice_get orders k ≡ Some (t, events)
  pub goes : GoesAt states t
  pub dropped : NoLine orders states old.line k
  pub gives : GivesEvents old k events count
  pub one : new.left + 1 ≡ count
  pub stays : new.left ≢ 0 → new.line ≡ k
  pub over : new.left ≡ 0 → new.line ≡ k + 1
  pub turn : new.turn ≡ old.turn

-- The next event is one in turn, as no line is left: the first thread that can go on, from the one after the last that
-- had a turn, and again from thread 0.
pub record InTurn (orders : List (ℕ × ℕ)) (states : List ThreadState) (old new : Turns) (t : ℕ) : Type 0 where
  pub no_line : NoLine orders states old.line (length orders)
  pub goes : GoesAt states t
  pub first : ((old.turn ≤ t) × NoneGoes states old.turn t)
      ⊎ (NoneGoes states old.turn (length states) × NoneGoes states 0 t)
  pub turn : new.turn ≡ t + 1
  pub line : old.line ≤ length orders → new.line ≡ length orders
  pub none_left : old.line < length orders → new.left ≡ 0

-- No thread can go on. A line that was begun is not taken up again.
pub record NoTurn (states : List ThreadState) (old new : Turns) : Type 0 where
  pub none : NoneGoes states 0 (length states)
  pub whole : old.left ≡ 0 → new ≡ old
  pub begun : old.left ≢ 0 → old.line < 4294967295 → new ≡ record old { line = old.line + 1; left = 0 }

-- A thread takes all further events: no line of the trace is left, and no other thread can go on. After them it is the
-- turn of the next one.
pub record GivesAll (orders : List (ℕ × ℕ)) (states : List ThreadState) (old new : Turns) (t : ℕ) : Type 0 where
  pub no_line : length orders ≤ old.line
  pub alone : (u : ℕ) → GoesAt states u → u ≡ t
  pub turn : new ≡ record old { turn = t + 1 }
