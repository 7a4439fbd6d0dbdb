-- A state after a Move collection, beside the one before it: what was decided was done.
use Rattle.std.specs.Prelude.{◌≡◌, ◌≢◌, ◌^◌, ℕ, ◌+◌, ◌<◌, ◌≤◌, nat_lt, Bool, List, [], ◌∷◌, ◌++◌, slice_get}
use Rattle.std.specs.Prelude.{Some}
use Rattle.melt_model.specs.declared.reports.Phase.TheVariants.{Move}
use Rattle.melt_word.specs.Words.{header_word, cost_of}
use Rattle.melt_word.specs.declared.header.Header.{Header}
use Rattle.melt_record.specs.Records.{IsHead}
use Rattle.melt_record.specs.declared.head.Kind.TheVariants.{Stub}
use Rattle.melt_scion.specs.State.{Scion, Home, State, HeaderAt, Reached}
use Rattle.melt_copy.specs.declared.live.LiveSet.{LiveSet}
use Rattle.melt_copy.specs.declared.forwarding.Relocation.{Relocation}
use Rattle.melt_copy.specs.Moving.{IsWhole, header_after}
use Rattle.melt_copy.specs.Tracking.{goes}
use Rattle.melt_move.specs.declared.choice.Departure.{Departure}
use Rattle.melt_move.specs.declared.homes.Given.{Given}
use Rattle.melt_move.specs.declared.decision.Decision.{Decision}
use Rattle.melt_move.specs.Plans.{IsChoice, GivesNew, HasOldHome, OldHome, home_by, need_for}
use Rattle.melt_move.specs.Staying.{StaysAs}
use Rattle.melt_move.specs.Bodies.{HasBody, HomesApart, IsOutside}
use Rattle.melt_move.specs.GivenScions.{NamesScion, given_home}

-- homes of these objects, one after the other from a word on
abbrev pub homes_from : ℕ → List Given → List Home
homes_from from [] = []
homes_from from (g ∷ given) = record { at = from; shape = g.shape } ∷ homes_from (from + cost_of g.shape) given

-- an object that stays, at its new place, but for its home word
pub record StandsAt (s t : State) (decision : Decision) (held : Bool) (m : Relocation) : Type 0 where
  pub header : (header : Header) → HeaderAt s m.from header → t.word m.to ≡ header_word (header_after Move held header)
  pub slots : (i : ℕ) → i < m.shape.refs → StaysAs s decision (s.word (m.from + 2 + i)) (t.word (m.to + 2 + i))
  pub numbers : (j : ℕ) → j < m.shape.nums
      → t.word (m.to + 2 + m.shape.refs + j) ≡ s.word (m.from + 2 + m.shape.refs + j)

-- one of the objects that stay names the scion, and the scion names it
pub record NamedByStaying (t : State) (moves : List Relocation) (scion : ℕ) (x : Scion) : Type 0 where
  pub index : ℕ
  pub move : Relocation
  pub is : slice_get moves index ≡ Some move
  pub at : x.address ≡ move.to
  pub names : NamesScion t.word move.to x.home scion

-- the object has its new home with a live scion
pub record HasNewScion (t : State) (m : Relocation) (home : ℕ) : Type 0 where
  pub scion : ℕ
  pub names : NamesScion t.word m.to home scion
  pub live : t.base.scion scion ≡ Some (record { home = home; address = m.to })

pub record IsMove (s t : State) (live : LiveSet) (decision : Decision) : Type 0 where
  pub whole : IsWhole s
  pub choice : IsChoice s live decision.choice
  pub held_count : decision.held_count ≡ live.held_count
  pub gives : GivesNew s decision.homes
  pub first : decision.homes.first ≡ s.base.end
  pub first_end : 1 ≤ s.base.end
  pub old_homes : (a : ℕ) → Reached s a → HasOldHome s a
  pub size : t.base.size ≡ s.base.size
  pub globals : t.base.globals ≡ s.base.globals
  pub free : t.free ≡ decision.choice.stay.next
  pub objects : (k : ℕ) (m : Relocation) → slice_get decision.choice.stay.moves.items k ≡ Some m
      → StandsAt s t decision (nat_lt k decision.held_count) m
  pub kept_home : (k : ℕ) (m : Relocation) → slice_get decision.choice.stay.moves.items k ≡ Some m
      → given_home decision.homes m ≡ 0 → t.word (m.to + 1) ≡ s.word (m.from + 1)
  pub new_home : (k : ℕ) (m : Relocation) → slice_get decision.choice.stay.moves.items k ≡ Some m
      → given_home decision.homes m ≢ 0 → HasNewScion t m (given_home decision.homes m)
  pub old_scion : (k : ℕ) (m : Relocation) (home scion : ℕ) → slice_get decision.choice.stay.moves.items k ≡ Some m
      → OldHome s m.from home scion → t.base.scion scion ≡ Some (record { home = home; address = m.to })
  pub only_scions : (scion : ℕ) (x : Scion) → t.base.scion scion ≡ Some x
      → NamedByStaying t decision.choice.stay.moves.items scion x
  pub global : (g : ℕ) → g < s.base.globals → StaysAs s decision (s.global g) (t.global g)
  pub register : (u r : ℕ) → t.register u r ≡ goes decision.choice.stay (s.register u r)
  pub settled : (p : ℕ) → s.forward p ≡ 0
  pub forward : (p : ℕ) → t.forward p ≡ 0
  pub end : t.base.end ≡ s.base.end + need_for decision.homes.given.items
  pub small_end : t.base.end ≤ 2 ^ 32
  pub homes : t.base.homes ≡ s.base.homes ++ homes_from s.base.end decision.homes.given.items
  pub free_homes : t.base.free_homes ≡ s.base.free_homes
  pub bodies : HomesApart (home_by s.word decision) decision.choice.leaving.items → (k : ℕ) (d : Departure)
      → slice_get decision.choice.leaving.items k ≡ Some d
      → HasBody s (home_by s.word decision) t.base.end t.base.image d
  pub stubs : (k : ℕ) (m : Relocation) (scion : ℕ) → slice_get decision.choice.stay.moves.items k ≡ Some m
      → given_home decision.homes m ≢ 0 → NamesScion t.word m.to (given_home decision.homes m) scion
      → IsHead (given_home decision.homes m) t.base.end (t.base.image (given_home decision.homes m))
      (t.base.image (given_home decision.homes m + 1)) (record { shape = m.shape; kind = Stub scion })
  pub image : (at : ℕ) → at < s.base.end → ((k : ℕ) (d : Departure) → slice_get decision.choice.leaving.items k ≡ Some d
      → IsOutside (home_by s.word decision) at d) → t.base.image at ≡ s.base.image at
