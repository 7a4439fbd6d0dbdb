-- How a line is written.
use Rattle.std.specs.Prelude.{ℕ, List, [], ◌∷◌, ◌++◌}
use Rattle.std.specs.List.{flat_map}
use Rattle.std.specs.Fmt.{decimal}

-- a word, and numbers after it: one space before each, and a newline at the end
abbrev pub line : List ℕ → List ℕ → List ℕ
line word numbers = word ++ flat_map (λ n. 32 ∷ decimal n) numbers ++ 10 ∷ []
