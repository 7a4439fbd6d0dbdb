-- How many collections the replies of threads bring: those that they asked for, and the silent ones.
use Rattle.std.specs.Prelude.{ℕ, zero, suc, ◌+◌, ◌/◌, Bool, true, false, List, length, take}
use Rattle.std.specs.List.{count_by}
use Rattle.melt_model.specs.declared.config.Config.{Config}
use Rattle.melt_model.specs.declared.operations.Op.{Op}
use Rattle.melt_model.specs.declared.operations.Op.TheVariants.{Collect}
use Rattle.melt_model.specs.declared.operations.Reply.{Reply}
use Rattle.melt_trace.specs.Script.{Script, operations}

-- whether an operation asks for a collection
abbrev pub is_collect : Op → Bool
is_collect Collect = true
is_collect o = false

-- how many silent collections come with so many replies of a thread: one after each that is a multiple of the number
abbrev pub silent_in : (every count : ℕ) → ℕ
silent_in zero count = 0
silent_in (suc every) count = count / suc every

-- the sum of what the first n threads have
abbrev pub total : (ℕ → ℕ) → ℕ → ℕ
total f zero = 0
total f (suc n) = total f n + f n

-- how many `collect`s of a thread were answered, and of the first n threads together
abbrev pub collects_of : Script → (ℕ → List Reply) → ℕ → ℕ
collects_of script replies t = count_by is_collect (take (length (replies t)) (operations script t))

abbrev pub collects : Script → (ℕ → List Reply) → ℕ → ℕ
collects script replies n = total (collects_of script replies) n

-- how many collections the replies of a thread brought, its `collect`s and the silent ones, and those of the first n
-- threads together
abbrev pub collections_of : Script → Config → (ℕ → List Reply) → ℕ → ℕ
collections_of script config replies t = collects_of script replies t + silent_in config.every (length (replies t))

abbrev pub collections : Script → Config → (ℕ → List Reply) → ℕ → ℕ
collections script config replies n = total (collections_of script config replies) n
