-- What changes from one state to the next. Registers are spoken of by themselves.
use Rattle.std.specs.Prelude.{◌≡◌, ◌≢◌, ℕ, ◌==◌, ◌&&◌, if◌then◌else◌, Some}
use Rattle.melt_model.specs.declared.history.Value.{Value}
use Rattle.melt_scion.specs.State.{State}
use Rattle.melt_scion.specs.Placed.{Maps}

-- registers aside, all is as it was
pub record SameWords (s t : State) : Type 0 where
  pub base : t.base ≡ s.base
  pub free : t.free ≡ s.free
  pub word : (k : ℕ) → t.word k ≡ s.word k
  pub global : (g : ℕ) → t.global g ≡ s.global g
  pub forward : (p : ℕ) → t.forward p ≡ s.forward p

-- one word is replaced
pub record WordChanges (s t : State) (at word : ℕ) : Type 0 where
  pub base : t.base ≡ s.base
  pub free : t.free ≡ s.free
  pub here : t.word at ≡ word
  pub others : (k : ℕ) → k ≢ at → t.word k ≡ s.word k
  pub global : (g : ℕ) → t.global g ≡ s.global g
  pub forward : (p : ℕ) → t.forward p ≡ s.forward p

-- one global is replaced
pub record GlobalChanges (s t : State) (at word : ℕ) : Type 0 where
  pub base : t.base ≡ s.base
  pub free : t.free ≡ s.free
  pub word_stays : (k : ℕ) → t.word k ≡ s.word k
  pub here : t.global at ≡ word
  pub others : (g : ℕ) → g ≢ at → t.global g ≡ s.global g
  pub forward : (p : ℕ) → t.forward p ≡ s.forward p

-- one forwarding word is replaced
pub record ForwardChanges (s t : State) (at word : ℕ) : Type 0 where
  pub base : t.base ≡ s.base
  pub free : t.free ≡ s.free
  pub word_stays : (k : ℕ) → t.word k ≡ s.word k
  pub global : (g : ℕ) → t.global g ≡ s.global g
  pub here : t.forward at ≡ word
  pub others : (p : ℕ) → p ≢ at → t.forward p ≡ s.forward p

-- the first free place moves on
pub record FreeMoves (s t : State) (free : ℕ) : Type 0 where
  pub base : t.base ≡ s.base
  pub is : t.free ≡ free
  pub word : (k : ℕ) → t.word k ≡ s.word k
  pub global : (g : ℕ) → t.global g ≡ s.global g
  pub forward : (p : ℕ) → t.forward p ≡ s.forward p

-- one register of a thread is replaced
pub record RegisterChanges (s t : State) (thread at address : ℕ) : Type 0 where
  pub words : SameWords s t
  pub register : (u r : ℕ) → t.register u r ≡ (if (u == thread) && (r == at) then address else s.register u r)

-- one address more has a name
pub record NameAppears (old new : Maps) (at n : ℕ) : Type 0 where
  pub here : new.address at ≡ Some n
  pub others : (k : ℕ) → k ≢ at → new.address k ≡ old.address k
  pub home : (k : ℕ) → new.home k ≡ old.home k

-- the value of one register of a thread is replaced
abbrev pub with_value : (ℕ → ℕ → Value) → ℕ → ℕ → Value → ℕ → ℕ → Value
with_value value thread at v u r = if (u == thread) && (r == at) then v else value u r
