-- What the parser of command lines is asked for, and what reading words by it answers.
use Rattle.std.specs.Prelude.{◌≡◌, ℕ, false, true, List, [], ◌∷◌, ◌++◌, codes, map, Some, None, IsSomeAnd, Result}
use Rattle.std.specs.Prelude.{Ok, Err}
use Rattle.std.specs.Str.{IsUtf8}
use Rattle.clap.specs.Matches.{first_value, found_of, one_text}
use Rattle.clap.specs.Simple.{App, new_rule, new_shape}
use Rattle.clap.specs.Values.{bool_text}
use Rattle.clap.specs.Walk.{Rule}
use Rattle.clap.specs.declared.builder.action.ArgAction.TheVariants.{Set, SetTrue}
use Rattle.clap.specs.declared.error.kind.ErrorKind.{ErrorKind}
use Rattle.clap.specs.declared.error.kind.ErrorKind.TheVariants as kind
use Rattle.clap.specs.declared.parser.matches.ArgMatches.{ArgMatches}
use Rattle.melt_top.specs.Words.{Given, Names, given_of, is_among, is_given, parts_options, value_given}
use Rattle.melt_top.specs.declared.options.Verb.{Verb}
use Rattle.melt_top.specs.declared.options.Verb.TheVariants as verb
use Rattle.melt_top.specs.declared.options.WordsRefusal.{WordsRefusal}
use Rattle.melt_top.specs.declared.options.WordsRefusal.TheVariants as refusal

-- ---- the options of each command

abbrev pub run_names : Names
run_names = record {
  options =
      codes "heap" ∷ codes "forward" ∷ codes "disk" ∷ codes "mark" ∷ codes "move" ∷ codes "every" ∷ [];
  flags = codes "quiet" ∷ codes "table" ∷ [];
}

-- a run by the written order has its history at hand, and may write it
abbrev pub step_names : Names
step_names = record run_names { flags = codes "quiet" ∷ codes "table" ∷ codes "log" ∷ [] }

abbrev pub gen_names : Names
gen_names = record { options = codes "kind" ∷ codes "seed" ∷ codes "size" ∷ codes "threads" ∷ []; flags = [] }

abbrev pub names_of_verb : Verb → Names
names_of_verb verb.Step = step_names
names_of_verb verb.Run = run_names
names_of_verb verb.Gen = gen_names

abbrev pub title_of : Verb → List ℕ
title_of verb.Step = codes "step"
title_of verb.Run = codes "run"
title_of verb.Gen = codes "gen"

-- ---- the parser

-- an option with one value
abbrev pub option_rule : List ℕ → Rule
option_rule name = record (new_rule name) { long = Some name; action = Some Set }

-- a flag, which stands or does not
abbrev pub flag_rule : List ℕ → Rule
flag_rule name = record (new_rule name) { long = Some name; action = Some SetTrue }

-- a command of this name with these options, and without help
abbrev pub asked_for : List ℕ → Names → App
asked_for title names = record {
  top = record (new_shape title) {
    rules = map option_rule names.options ++ map flag_rule names.flags;
    disable_help_flag = true;
  };
  subs = [];
}

-- a text that is not `--`
abbrev pub IsWord : List ℕ → Type 0
IsWord word = (parts_options word ≡ false) × IsUtf8 word

-- the option takes a value
abbrev pub TakesValue : Names → (name : List ℕ) → Type 0
TakesValue names name = (is_among names.options name ≡ true) × (is_among names.flags name ≡ false)

abbrev pub IsFlag : Names → (name : List ℕ) → Type 0
IsFlag names name = (is_among names.options name ≡ false) × (is_among names.flags name ≡ true)

-- the matches have what was given: each value, and of each flag whether it stands
pub record Has (names : Names) (matches : ArgMatches) (given : Given) : Type 0 where
  pub values : (name : List ℕ) → TakesValue names name → first_value (found_of matches) name ≡ value_given given name
  pub flags : (name : List ℕ) → IsFlag names name
      → one_text (found_of matches) name ≡ Some (bool_text (is_given given name))

-- want of memory, or words that mean nothing
abbrev pub refusal_for : ErrorKind → WordsRefusal
refusal_for kind.OutOfMemory = refusal.NoMemory
refusal_for other = refusal.Usage

-- What the words give is found, or they give nothing. Want of memory says nothing.
abbrev pub Parses : Names → List (List ℕ) → Result ArgMatches WordsRefusal → Type 0
Parses names words (Ok matches) = IsSomeAnd (given_of names words) (Has names matches)
Parses names words (Err refusal.Usage) = given_of names words ≡ None
Parses names words (Err refusal.NoMemory) = Unit {0}
