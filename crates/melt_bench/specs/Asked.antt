-- What the words after the command `run` ask for.
use Rattle.std.specs.Prelude.{ℕ, ◌==◌, true, if◌then◌else◌, List, [], ◌∷◌, Option, None, Some, codes}
use Rattle.std.specs.Prelude.{option_and_then}
use Rattle.std.specs.List.{after_first, before_first}
use Rattle.std.specs.Option.{option_map}
use Rattle.std.specs.Str.{bytes_eq}
use Rattle.melt_model.specs.declared.config.Config.{Config}
use Rattle.melt_text.specs.Numbers.{number_of}
use Rattle.melt_bench.specs.Words.{within_word}
use Rattle.melt_bench.specs.declared.run.asked.Asked.{Asked}

-- the same numbers, with this one under this name, if it is one
abbrev pub with_setting : Config → (name : List ℕ) → (number : ℕ) → Option Config
with_setting config name number =
    if bytes_eq name (codes "heap") then Some (record config { heap = number })
    else if bytes_eq name (codes "forward") then Some (record config { forward = number })
    else if bytes_eq name (codes "disk") then Some (record config { disk = number })
    else if bytes_eq name (codes "mark") then Some (record config { mark = number })
    else if bytes_eq name (codes "move") then Some (record config { move_ = number })
    else if bytes_eq name (codes "every") then Some (record config { every = number })
    else None

-- the same, and how many runs are timed, or a number of the run
abbrev pub with_named : Asked → (name : List ℕ) → (number : ℕ) → Option Asked
with_named asked name number =
    if bytes_eq name (codes "time") then Some (record asked { timed = number })
    else option_map (λ config. record asked { config = config }) (with_setting asked.config name number)

-- the same, and what one more word asks for, if it asks for something: a number stands after the first `=` of a word
abbrev pub with_word : Asked → (word : List ℕ) → Option Asked
with_word asked word =
    if bytes_eq word (codes "file") then Some (record asked { is_on_file = true })
    else option_and_then (with_named asked (before_first (λ b. b == 61) word))
    (within_word (number_of (after_first (λ b. b == 61) word)))

-- what these words ask for together, beside what was asked for before, if each of them asks for something
abbrev pub with_settings : Asked → (words : List (List ℕ)) → Option Asked
with_settings asked [] = Some asked
with_settings asked (word ∷ words) = option_and_then (λ next. with_settings next words) (with_word asked word)
