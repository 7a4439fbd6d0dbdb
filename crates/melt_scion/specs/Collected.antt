-- What a collection does, by addresses, so that it says the same where two objects have one number.
use Rattle.std.specs.Prelude.{◌≡◌, ◌≢◌, ◌↔◌, ℕ, ◌+◌, ◌<◌, ◌≤◌, ◌==◌, List, Contains, map, sum}
use Rattle.std.specs.List.{IsDistinct}
use Rattle.melt_model.specs.declared.history.Entry.{Entry}
use Rattle.melt_model.specs.declared.history.Value.{Value}
use Rattle.melt_model.specs.declared.reports.Phase.{Phase}
use Rattle.melt_word.specs.Words.{cost_of}
use Rattle.melt_word.specs.declared.header.Header.{Header}
use Rattle.melt_scion.specs.State.{State, HeaderAt, HoldsAt}
use Rattle.melt_scion.specs.Placed.{Maps, IsNamed, Formed, Tells, Placed}
use Rattle.melt_scion.specs.Moves.{MovesWords, MovesNames, NamesHomes, MovesDisk}

-- an object takes the word
pub record Taken (maps : Maps) (s : State) (at : ℕ) : Type 0 where
  pub address : ℕ
  pub header : Header
  pub named : IsNamed maps address
  pub starts : HeaderAt s address header
  pub from : address ≤ at
  pub to : at < address + cost_of header.shape

-- What a collection of the phase does with a state, for maps with which it was well formed: who stays and where, who
-- has a home then, and what words become. Those that stay lie from word 1 on without gaps. What is told of histories,
-- of the names of homes and of the disk is said of a state that stands for one: elsewhere two objects may have one
-- home.
pub record Collected (phase : Phase) (maps new : Maps) (s t : State) (to home scion : ℕ → ℕ) : Type 0 where
  pub formed : Formed new t
  pub placed : (h : List Entry) (value : ℕ → ℕ → Value) → Placed h value maps s → Placed h value new t
  pub words : MovesWords phase s t to home scion
  pub names : MovesNames maps new to
  pub homes : (h : List Entry) → Tells h maps s → NamesHomes maps new s home
  pub disk : (h : List Entry) → Tells h maps s → MovesDisk phase s t to home scion
  pub no_gaps : (at : ℕ) → 1 ≤ at → at < t.free → Taken new t at

-- how many words an object takes, by its header
pub record WordsAt (s : State) (cost : ℕ → ℕ) : Type 0 where
  pub is : (a : ℕ) (header : Header) → HeaderAt s a header → cost a ≡ cost_of header.shape

-- Total is the sum of the words of the objects at these addresses, each counted once.
pub record CountsWords (s : State) (Is : ℕ → Type 0) (total : ℕ) : Type 0 where
  pub members : List ℕ
  pub cost : ℕ → ℕ
  pub costs : WordsAt s cost
  pub once : IsDistinct (λ a b. a == b) members
  pub all : (a : ℕ) → Is a ↔ Contains members a
  pub adds_up : total ≡ sum (map cost members)

-- the objects that a register holds
abbrev pub HeldAt : State → ℕ → Type 0
HeldAt s a = HoldsAt s a × (a ≢ 0)
