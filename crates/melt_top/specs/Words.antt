-- How the words after a command are read: options in any order, each once at most. An option has a value, or is a
-- flag.
use Rattle.std.specs.Prelude.{ℕ, Bool, not, ◌||◌, if◌then◌else◌, List, [], ◌∷◌, ◌++◌, find, Option, None}
use Rattle.std.specs.Prelude.{Some, option_and_then, option_map, codes}
use Rattle.std.specs.List.{list_any}
use Rattle.std.specs.Str.{bytes_eq}
use Rattle.clap.specs.Lexer.{long_of, is_long_word, is_short_word}

-- the names that a command knows: of the options that take a value, and of the flags, which take none
pub record Names : Type 0 where
  pub options : List (List ℕ)
  pub flags : List (List ℕ)

abbrev pub is_among : List (List ℕ) → (name : List ℕ) → Bool
is_among names name = list_any (λ n. bytes_eq n name) names

-- the options so far, without their two hyphens, each with its value, which is empty for a flag
abbrev pub Given : Type 0
Given = List (List ℕ × List ℕ)

abbrev pub value_given : Given → (name : List ℕ) → Option (List ℕ)
value_given given name = option_map (λ g. g.1) (find (λ g. bytes_eq g.0 name) given)

abbrev pub is_given : Given → (name : List ℕ) → Bool
is_given given name = list_any (λ g. bytes_eq g.0 name) given

-- what was given, and the option whose value is to be the next word
pub record Reading : Type 0 where
  pub given : Given
  pub waits : Option (List ℕ)

-- the option has its value, and may not have had one before
abbrev pub with_given : Given → (name : List ℕ) → (value : List ℕ) → Option Reading
with_given given name value =
    if is_given given name then None else Some (record { given = given ++ (name, value) ∷ []; waits = None })

-- the option's word has the value too, after `=`, or the next word is the value
abbrev pub with_name : Given → (name : List ℕ) → (value : Option (List ℕ)) → Option Reading
with_name given name (Some value) = with_given given name value
with_name given name None = Some (record { given = given; waits = Some name })

-- a flag is a word by itself
abbrev pub with_flag : Given → (name : List ℕ) → (value : Option (List ℕ)) → Option Reading
with_flag given name (Some value) = None
with_flag given name None = with_given given name []

-- a word that is to be an option of these names
abbrev pub with_option : Names → Given → (parts : Option (List ℕ × Option (List ℕ))) → Option Reading
with_option names given None = None
with_option names given (Some parts) =
    if is_among names.options parts.0 then with_name given parts.0 parts.1
    else if is_among names.flags parts.0 then with_flag given parts.0 parts.1
    else None

-- A word that begins with a hyphen is no value, unless it is the hyphen alone.
abbrev pub is_value : List ℕ → Bool
is_value word = not (is_long_word word || is_short_word word)

abbrev pub with_next_word : Names → Given → (waits : Option (List ℕ)) → List ℕ → Option Reading
with_next_word names given None word = with_option names given (long_of word)
with_next_word names given (Some name) word = if is_value word then with_given given name word else None

abbrev pub ended : Given → (waits : Option (List ℕ)) → Option Given
ended given None = Some given
ended given (Some name) = None

abbrev pub read_from : Names → Reading → List (List ℕ) → Option Given
read_from names reading [] = ended reading.given reading.waits
read_from names reading (word ∷ words) =
    option_and_then (λ next. read_from names next words) (with_next_word names reading.given reading.waits word)

-- nothing may stand after the options, so no word parts them from others
abbrev pub parts_options : List ℕ → Bool
parts_options word = bytes_eq word (codes "--")

-- what the words give to the options of these names, or none
abbrev pub given_of : (names : Names) → List (List ℕ) → Option Given
given_of names words =
    if list_any parts_options words then None else read_from names (record { given = []; waits = None }) words
