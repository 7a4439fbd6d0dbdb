-- One operation of a thread that was answered, as the history tells it.
use Rattle.std.specs.Prelude.{◌≡◌, ℕ, List, [], ◌∷◌, ◌++◌, Option, None, Some, unwrap_or}
use Rattle.melt_model.specs.History.{given}
use Rattle.melt_model.specs.Thread.{does}
use Rattle.melt_model.specs.declared.history.Value.{Value}
use Rattle.melt_model.specs.declared.history.Value.TheVariants.{Nil}
use Rattle.melt_model.specs.declared.history.Act.{Act}
use Rattle.melt_model.specs.declared.history.Entry.{Entry}
use Rattle.melt_model.specs.declared.operations.Op.{Op}
use Rattle.melt_model.specs.declared.operations.Reply.{Reply}

-- an entry of a thread
abbrev pub entry : ℕ → Act → Entry
entry t act = record { thread = t; act = act }

-- the history with the entry of an operation, if it has one
abbrev pub with_entry : ℕ → List Entry → Option Act → List Entry
with_entry t log None = log
with_entry t log (Some act) = log ++ entry t act ∷ []

-- what the entry of an operation gives, and Nil for an operation without one
abbrev pub gives : List Entry → Option Act → Value
gives log None = Nil
gives log (Some act) = unwrap_or (given log act) Nil

-- An operation of a thread was answered: the reply, its registers and the history after it are those that the
-- operation has by its meaning.
pub record Answers (t : ℕ) (log : List Entry) (rs : List Value) (o : Op) (reply : Reply) (log_after : List Entry)
    (rs_after : List Value) : Type 0 where
  pub value : Value
  pub given : gives log (does log rs o value).act ≡ value
  pub reply_is : (does log rs o value).reply ≡ reply
  pub registers : rs_after ≡ (does log rs o value).registers
  pub history : log_after ≡ with_entry t log (does log rs o value).act
