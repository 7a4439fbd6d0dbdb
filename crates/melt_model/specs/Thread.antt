-- What one thread is told, by a history.
use Rattle.std.specs.Prelude.{◌≡◌, ℕ, ◌+◌, Bool, true, false, ◌==◌, if◌then◌else◌, nat_lt, List, [], ◌∷◌, take, drop}
use Rattle.std.specs.Prelude.{fold, replicate, slice_set, slice_index_or, slice_get, Option, None, Some, unwrap_or}
use Rattle.std.specs.Prelude.{option_and_then}
use Rattle.std.specs.Option.{option_map, option_map_or}
use Rattle.melt_model.specs.History.{Shape, shape, given}
use Rattle.melt_model.specs.declared.history.Value.{Value}
use Rattle.melt_model.specs.declared.history.Value.TheVariants.{Nil, Ref, Num}
use Rattle.melt_model.specs.declared.history.Slot.TheVariants.{Field, Cell, Global}
use Rattle.melt_model.specs.declared.history.Act.{Act}
use Rattle.melt_model.specs.declared.history.Act.TheVariants.{Make, Read, Write}
use Rattle.melt_model.specs.declared.history.Entry.{Entry}
use Rattle.melt_model.specs.declared.operations.Op.{Op}
use Rattle.melt_model.specs.declared.operations.Op.TheVariants as op
use Rattle.melt_model.specs.declared.operations.Reply.{Reply}
use Rattle.melt_model.specs.declared.operations.Reply.TheVariants as reply

-- the places of the thread's entries, from place p on
abbrev pub own_from : ℕ → List Entry → ℕ → List ℕ
own_from p [] t = []
own_from p (e ∷ h) t = if e.thread == t then p ∷ own_from (p + 1) h t else own_from (p + 1) h t

-- the places of the thread's entries, in ascending order
abbrev pub own : List Entry → ℕ → List ℕ
own h t = own_from 0 h t

-- the act that stands at a place
abbrev pub act_at : List Entry → ℕ → Option Act
act_at h p = option_map (λ e. e.act) (slice_get h p)

-- what the entry at a place gives
abbrev pub given_at : List Entry → ℕ → Option Value
given_at h p = option_and_then (given (take p h)) (act_at h p)

-- What one operation does: the act of its entry, if it has one, the reply, and the registers after it.
pub record Deed : Type 0 where
  pub act : Option Act
  pub reply : Reply
  pub registers : List Value

-- no entry, and registers as before
abbrev pub unchanged : List Value → Reply → Deed
unchanged registers r = record { act = None; reply = r; registers = registers }

abbrev pub value_eq : Value → Value → Bool
value_eq Nil Nil = true
value_eq (Ref n) (Ref m) = n == m
value_eq (Num v) (Num w) = v == w
value_eq Nil (Ref m) = false
value_eq Nil (Num w) = false
value_eq (Ref n) Nil = false
value_eq (Ref n) (Num w) = false
value_eq (Num v) Nil = false
value_eq (Num v) (Ref m) = false

-- the value in a register
abbrev pub value_in : List Value → ℕ → Value
value_in registers r = slice_index_or registers r Nil

-- the reply to a load that found this value
abbrev pub found : Value → Reply
found Nil = reply.Null
found (Ref n) = reply.Ref
found (Num v) = reply.Ref

-- the number that a number word holds
abbrev pub number : Value → ℕ
number Nil = 0
number (Ref n) = 0
number (Num v) = v

-- An operation on part k of the object in a register, of which the object has as many as its shape says:
-- `nil` where the register holds none, `range` where it has fewer parts.
abbrev pub on_part : (Shape → ℕ) → List Entry → List Value → Value → ℕ → (ℕ → Deed) → Deed
on_part parts h registers Nil k deed = unchanged registers reply.Nil
on_part parts h registers (Num v) k deed = unchanged registers reply.Nil
on_part parts h registers (Ref n) k deed =
    if nat_lt k (option_map_or parts (shape h n) 0) then deed n else unchanged registers reply.Range

-- What one operation does, by the registers before it, where `x` is what its entry gives.
abbrev pub does : List Entry → List Value → Op → Value → Deed
does h regs (op.New dst refs nums) x =
    record { act = Some (Make refs nums); reply = reply.Done; registers = slice_set regs dst x }
does h regs (op.Load dst src i) x = on_part (λ z. z.refs) h regs (value_in regs src) i (λ n.
    record { act = Some (Read (Field n i) x); reply = found x; registers = slice_set regs dst x })
does h regs (op.Store obj i src) x = on_part (λ z. z.refs) h regs (value_in regs obj) i (λ n.
    record { act = Some (Write (Field n i) (value_in regs src)); reply = reply.Done; registers = regs })
does h regs (op.Get src j) x = on_part (λ z. z.nums) h regs (value_in regs src) j (λ n.
    record { act = Some (Read (Cell n j) (Num (number x))); reply = reply.Num (number x); registers = regs })
does h regs (op.Put obj j v) x = on_part (λ z. z.nums) h regs (value_in regs obj) j (λ n.
    record { act = Some (Write (Cell n j) (Num v)); reply = reply.Done; registers = regs })
does h regs (op.GLoad dst g) x =
    record { act = Some (Read (Global g) x); reply = found x; registers = slice_set regs dst x }
does h regs (op.GStore g src) x =
    record { act = Some (Write (Global g) (value_in regs src)); reply = reply.Done; registers = regs }
does h regs (op.Same a b) x = unchanged regs (if value_eq (value_in regs a) (value_in regs b) then reply.Yes else
    reply.No)
does h regs (op.Copy dst src) x =
    record { act = None; reply = reply.Done; registers = slice_set regs dst (value_in regs src) }
does h regs (op.Drop r) x = record { act = None; reply = reply.Done; registers = slice_set regs r Nil }
does h regs op.Collect x = unchanged regs reply.Done

-- A thread between two operations: its registers, and the places of its entries that are still to come.
pub record Thread : Type 0 where
  pub registers : List Value
  pub places : List ℕ

-- all 16 registers are Nil, and no entry is taken
abbrev pub beginning : List Entry → ℕ → Thread
beginning h t = record { registers = replicate 16 Nil; places = own h t }

-- what the entry at the next place gives
abbrev pub next_given : List Entry → List ℕ → Value
next_given h [] = Nil
next_given h (p ∷ places) = unwrap_or (given_at h p) Nil

-- the next operation of the thread
abbrev pub deed : List Entry → Thread → Op → Deed
deed h thread o = does h thread.registers o (next_given h thread.places)

-- the places that are left by an operation with this act
abbrev pub places_left : Option Act → List ℕ → List ℕ
places_left None places = places
places_left (Some act) places = drop 1 places

-- the thread after its next operation
abbrev pub thread_after : List Entry → Thread → Op → Thread
thread_after h thread o = let d =
    deed h thread o in record { registers = d.registers; places = places_left d.act thread.places }

-- the registers after the first k operations
abbrev pub registers_after : List Entry → ℕ → List Op → ℕ → List Value
registers_after h t ops k = (fold (thread_after h) (beginning h t) (take k ops)).registers

-- an operation with an entry has it at the next place
abbrev pub Takes : List Entry → Option Act → List ℕ → Type 0
Takes h None places = Unit {0}
Takes h (Some act) [] = ⊥
Takes h (Some act) (p ∷ places) = act_at h p ≡ Some act

-- From here on the operations get these replies, and all places are taken by those that were answered.
abbrev pub Answered : List Entry → Thread → List Op → List Reply → Type 0
Answered h thread ops [] = thread.places ≡ []
Answered h thread [] (r ∷ replies) = ⊥
Answered h thread (o ∷ ops) (r ∷ replies) =
    ((deed h thread o).reply ≡ r) × Takes h (deed h thread o).act thread.places
    × Answered h (thread_after h thread o) ops replies

-- the history gives the thread these replies to the first of its operations
abbrev pub Transcript : List Entry → ℕ → List Op → List Reply → Type 0
Transcript h t ops replies = Answered h (beginning h t) ops replies
