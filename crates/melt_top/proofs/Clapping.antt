-- What the parser of command lines makes of the words, for options that take one value each, and flags.
use Rattle.std.proofs.Common.{◌≡◌, ◌<◌, ◌==◌, ℕ, Bool, true, false, cond, ◌&&◌, ◌||◌}
use Rattle.std.proofs.Common.{List, [], ◌∷◌, ◌++◌, map, length, Option, None, Some, refl, sym, ap, ◌∙◌, subst, arith}
use Rattle.std.proofs.Common.{append-nil, true≢false}
use Rattle.std.proofs.lemmas.Slice.Eq.{bytes_eq-Decides}
use Rattle.std.proofs.lemmas.Str.{encodes-chars, chars_past_char}
use Rattle.std.specs.Prelude.{encode_utf8_all}
use Rattle.std.specs.Char.{encode_utf8}
use Rattle.std.specs.Prelude.{codes, not, find, fold, option_and_then, is_some, slice_get, unwrap_or}
use Rattle.std.specs.List.{list_any, AllByRecursion}
use Rattle.std.specs.Option.{option_map_or}
use Rattle.std.specs.Str.{bytes_eq, chars, IsUtf8}
use Rattle.std.proofs.lemmas.Bool.{eqb-true}
use Rattle.std.proofs.Math.Bool.{or-false}
use Rattle.clap.specs.Lexer.{long_of, short_of, short_of_rest}
use Rattle.clap.specs.Kinds.{Kinds, or_else}
use Rattle.clap.specs.Walk.{Held, Row, Rule, Text, Waiting, Walk, idle, option, arg_by_id, arg_by_index, arg_by_long}
use Rattle.clap.specs.Walk.{arg_by_short}
use Rattle.clap.specs.Walk.{at_row, has_row, settled, settled_rows, used, walked, after_step, more_values, long_word}
use Rattle.clap.specs.Walk.{has_long, has_short, with_values, without}
use Rattle.clap.specs.Walk.{subcommand_met}
use Rattle.clap.specs.Takes.{is_given as is_given_row}
use Rattle.clap.specs.Walk.{next as goes, walk, finished, nothing_held, with_default, rows_after}
use Rattle.clap.specs.Simple.{App, argument_words, built, entered, matches_of, names_of, Shape, new_rule, new_shape}
use Rattle.clap.specs.Simple.{filled}
use Rattle.clap.specs.Faults.{built_fault, given_default_fault, fault_of, entered_fault, use_fault}
use Rattle.clap.specs.Faults.{long_fault, bundle_fault, step_fault, settle_fault, turn_fault, walk_fault, flags_fault}
use Rattle.clap.specs.Faults.{level_fault, default_fault, defaults_fault}
use Rattle.clap.specs.declared.builder.action.ArgAction.TheVariants.{Set, SetTrue}
use Rattle.clap.specs.declared.builder.value_parser.Reading.TheVariants as how
use Rattle.clap.specs.declared.parser.matches.ValueSource.TheVariants.{CommandLine}
use Rattle.melt_top.specs.Words.{Given, Names, Reading, is_among, is_given, read_from, with_next_word}

-- an option with one value, and a flag, as the parser has them when it is built
abbrev pub rule_for : Text → Rule
rule_for name = filled (record (new_rule name) { long = Some name; action = Some Set })

abbrev pub flag_for : Text → Rule
flag_for name = filled (record (new_rule name) { long = Some name; action = Some SetTrue })

abbrev pub rules_for : Names → List Rule
rules_for names = map rule_for names.options ++ map flag_for names.flags

abbrev pub shape_for : Text → Names → Shape
shape_for title names = record (new_shape title) {
  rules = rules_for names;
  disable_help_flag = true;
  disable_help_subcommand = true;
  is_built = true;
}

-- the rule of a name, an option before a flag
abbrev pub flag_named : List Text → Text → Option Rule
flag_named flags name = cond (is_among flags name) (Some (flag_for name)) None

abbrev pub rule_named : List Text → List Text → Text → Option Rule
rule_named options flags name = cond (is_among options name) (Some (rule_for name)) (flag_named flags name)

-- a search for a name
module _ (p : Rule → Bool) (name : Text) (on_rule : (n : Text) → p (rule_for n) ≡ bytes_eq n name)
    (on_flag : (n : Text) → p (flag_for n) ≡ bytes_eq n name) where
  flag_found : (flags : List Text) → find p (map flag_for flags) ≡ flag_named flags name
  flag_found [] = refl
  flag_found (n ∷ flags) = go (bytes_eq n name) refl (on_flag n) (flag_found flags)
    where
      go : (b : Bool) → bytes_eq n name ≡ b → p (flag_for n) ≡ b → find p (map flag_for flags) ≡ flag_named flags name
          → cond (p (flag_for n)) (Some (flag_for n)) (find p (map flag_for flags))
          ≡ cond (b || is_among flags name) (Some (flag_for name)) None
      go true is at rest = rw at (ap (λ (t : Text). Some (flag_for t)) ((bytes_eq-Decides n name).0 is))
      go false is at rest = rw at rest

  rule_found : (options flags : List Text)
      → find p (map rule_for options ++ map flag_for flags) ≡ rule_named options flags name
  rule_found [] flags = flag_found flags
  rule_found (n ∷ options) flags = go (bytes_eq n name) refl (on_rule n) (rule_found options flags)
    where
      go : (b : Bool) → bytes_eq n name ≡ b → p (rule_for n) ≡ b
          → find p (map rule_for options ++ map flag_for flags) ≡ rule_named options flags name
          → cond (p (rule_for n)) (Some (rule_for n)) (find p (map rule_for options ++ map flag_for flags))
          ≡ cond (b || is_among options name) (Some (rule_for name)) (flag_named flags name)
      go true is at rest = rw at (ap (λ (t : Text). Some (rule_for t)) ((bytes_eq-Decides n name).0 is))
      go false is at rest = rw at rest

by_long : (names : Names) (name : Text)
    → arg_by_long (rules_for names) name ≡ rule_named names.options names.flags name
by_long names name = rule_found (λ a. not (is_some a.index) && has_long a name) name (λ n. or-false (bytes_eq n name))
    (λ n. or-false (bytes_eq n name)) names.options names.flags

by_id : (names : Names) (id : Text) → arg_by_id (rules_for names) id ≡ rule_named names.options names.flags id
by_id names id = rule_found (λ a. bytes_eq a.id id) id (λ n. refl) (λ n. refl) names.options names.flags

-- a search that no rule meets
module _ (p : Rule → Bool) (on_rule : (n : Text) → p (rule_for n) ≡ false)
    (on_flag : (n : Text) → p (flag_for n) ≡ false) where
  no_flag : (flags : List Text) → find p (map flag_for flags) ≡ None
  no_flag [] = refl
  no_flag (n ∷ flags) = rw (on_flag n) (no_flag flags)

  no_rule : (options flags : List Text) → find p (map rule_for options ++ map flag_for flags) ≡ None
  no_rule [] flags = no_flag flags
  no_rule (n ∷ options) flags = rw (on_rule n) (no_rule options flags)

by_short : (names : Names) (x : ℕ) → arg_by_short (rules_for names) x ≡ None
by_short names x = no_rule (λ a. not (is_some a.index) && has_short a x) (λ n. refl) (λ n. refl)
    names.options names.flags

by_index : (names : Names) (i : ℕ) → arg_by_index (rules_for names) i ≡ None
by_index names i = no_rule (λ a. option_map_or (λ k. k == i) a.index false) (λ n. refl) (λ n. refl)
    names.options names.flags

-- ---- rows

-- a row of what the words gave
abbrev pub row_with : (name value : Text) → Row
row_with name value =
    record { id = name; values = value ∷ []; count = None; source = Some CommandLine; reading = how.AsWritten }

-- the text of a flag that is given
abbrev pub standing : Text
standing = codes "true"

abbrev pub text_for : Names → Text × Text → Text
text_for names g = cond (is_among names.options g.0) g.1 standing

abbrev pub row_for : Names → Text × Text → Row
row_for names g = row_with g.0 (text_for names g)

abbrev pub rows_for : Names → Given → List Row
rows_for names = map (row_for names)

pub has_row-for : (names : Names) (given : Given) (id : Text) → has_row id (rows_for names given) ≡ is_given given id
has_row-for names [] id = refl
has_row-for names (g ∷ given) id = ap (λ (b : Bool). bytes_eq g.0 id || b) (has_row-for names given id)

pub at_row-missing : (id : Text) (change : Row → List Row) (missing rows : List Row) → has_row id rows ≡ false
    → at_row id change missing rows ≡ rows ++ missing
at_row-missing id change missing [] none = refl
at_row-missing id change missing (r ∷ rows) none = go (bytes_eq r.id id) none (at_row-missing id change missing rows)
  where
    go : (b : Bool) → (b || has_row id rows) ≡ false →
        (has_row id rows ≡ false → at_row id change missing rows ≡ rows ++ missing)
        → cond b (change r ++ rows) (r ∷ at_row id change missing rows) ≡ r ∷ (rows ++ missing)
    go true e rest = absurd (true≢false e)
    go false e rest = ap (λ (rs : List Row). r ∷ rs) (rest e)

rows_for-more : (names : Names) (given : Given) (name value : Text)
    → rows_for names (given ++ (name, value) ∷ []) ≡ rows_for names given ++ row_for names (name, value) ∷ []
rows_for-more names [] name value = refl
rows_for-more names (g ∷ given) name value =
    ap (λ (rs : List Row). row_for names g ∷ rs) (rows_for-more names given name value)

more_rows : (name value : Text) (rows : List Row) → has_row name rows ≡ false
    → with_values name how.AsWritten CommandLine (value ∷ []) (without name rows) ≡ rows ++ row_with name value ∷ []
more_rows name value rows none =
    let alone : at_row name (λ _. []) [] rows ≡ rows = at_row-missing name (λ _. []) [] rows none ∙ append-nil rows in
    rw alone (at_row-missing name (more_values CommandLine (value ∷ [])) (row_with name value ∷ []) rows none)

-- one more option or flag that was not given before
one_more : (names : Names) (name value : Text) (rows : List Row) → is_among names.options name ≡ true
    → has_row name rows ≡ false → used (rule_for name) (value ∷ []) rows ≡ rows ++ row_for names (name, value) ∷ []
one_more names name value rows is none = rw is (more_rows name value rows none)

one_more_flag : (names : Names) (name value : Text) (rows : List Row) → is_among names.options name ≡ false
    → has_row name rows ≡ false → used (flag_for name) [] rows ≡ rows ++ row_for names (name, value) ∷ []
one_more_flag names name value rows is none = rw is (more_rows name standing rows none)

-- ---- faults

abbrev pub Fails : Kinds → Type 0
Fails [] = ⊥
Fails (k ∷ kinds) = Unit {0}

fails_first : (first next : Kinds) → Fails first → Fails (or_else first next)
fails_first [] next fails = absurd fails
fails_first (k ∷ kinds) next fails = tt

fails_next : (first next : Kinds) → first ≡ [] → Fails next → Fails (or_else first next)
fails_next first next none fails = rw none fails

-- ---- characters of a short flag

some_is : (a b : Text) → Some a ≡ Some b → a ≡ b
some_is a b e = ap (λ o. unwrap_or o a) e

none_is_some : {X : Type 0} (x : X) → None ≡ Some x → ⊥
none_is_some x e = true≢false (ap is_some (sym e))

-- text after an ASCII character has a character
char_after : (x : ℕ) (xs : Text) → IsUtf8 (45 ∷ x ∷ xs) → (y : ℕ) × (slice_get (chars (x ∷ xs)) 0 ≡ Some y)
unfolding encode_utf8
char_after x xs utf8 = go (chars (x ∷ xs)) (chars_past_char (45 ∷ x ∷ xs) (x ∷ xs) 45 utf8 refl)
  where
    go : (cs : List ℕ) → chars (45 ∷ x ∷ xs) ≡ 45 ∷ cs → (y : ℕ) × (slice_get cs 0 ≡ Some y)
    go [] e =
        let bytes : encode_utf8_all (45 ∷ []) ≡ 45 ∷ x ∷ xs = ap encode_utf8_all (sym e)
        ∙ encodes-chars (45 ∷ x ∷ xs) utf8 in
        absurd (omega (arith, ap length bytes))
    go (y ∷ cs) e = (y, refl)

-- a word that begins with one hyphen, and not with two, has a character after it
short_parts : (word flags : Text) → IsUtf8 word → short_of word ≡ Some flags
    → (0 < length flags) × ((y : ℕ) × (slice_get (chars flags) 0 ≡ Some y))
short_parts [] flags utf8 e = absurd (none_is_some flags e)
short_parts (b ∷ []) flags utf8 e = go (b == 45) e
  where
    go : (c : Bool) → option_and_then short_of_rest (cond c (Some []) None) ≡ Some flags → (0 < length flags) ×
        ((y : ℕ) × (slice_get (chars flags) 0 ≡ Some y))
    go true h = absurd (none_is_some flags h)
    go false h = absurd (none_is_some flags h)
short_parts (b ∷ x ∷ xs) flags utf8 e = go (b == 45) refl e
  where
    later : (d : Bool) → b ≡ 45 → cond d None (Some (x ∷ xs)) ≡ Some flags → (0 < length flags) ×
        ((y : ℕ) × (slice_get (chars flags) 0 ≡ Some y))
    later true hyphen h = absurd (none_is_some flags h)
    later false hyphen h =
        let Utf8 : ℕ → Type 0 = λ a. IsUtf8 (a ∷ x ∷ xs) in
        let found = char_after x xs (subst Utf8 hyphen utf8) in
        let flags_are : flags ≡ x ∷ xs = sym (some_is (x ∷ xs) flags h) in
        let Has : Text → Type 0 = λ f. (0 < length f) × ((y : ℕ) × (slice_get (chars f) 0 ≡ Some y)) in
        subst Has (sym flags_are) (omega arith, found)

    go : (c : Bool) → (b == 45) ≡ c → option_and_then short_of_rest (cond c (Some (x ∷ xs)) None) ≡ Some flags
        → (0 < length flags) × ((y : ℕ) × (slice_get (chars flags) 0 ≡ Some y))
    go false is h = absurd (none_is_some flags h)
    go true is h = later (x == 45) (eqb-true b 45 is) h

-- What the parser and the reading of words come to is the same.
abbrev pub Agrees : Names → Kinds → List Row → Option Given → Type 0
Agrees names faults rows None = Fails faults
Agrees names faults rows (Some given) = (faults ≡ []) × (rows ≡ rows_for names given)

abbrev pub held_at : List Row → Option (Text × List Text) → Held
held_at rows pending = record { rows = rows; pending = pending; skip = 0 }

abbrev pub walk_at : Waiting → List Row → Option (Text × List Text) → Walk
walk_at waiting rows pending =
    record { held = held_at rows pending; waiting = waiting; position = 1; is_trailing = false; stopped = None }

abbrev is_dashes : Text → Bool
is_dashes word = bytes_eq word (45 ∷ 45 ∷ [])

module _ (title : Text) (names : Names) where
  abbrev rules : List Rule
  rules = rules_for names

  abbrev shape : Shape
  shape = shape_for title names

  abbrev faults_from : Walk → List Text → Kinds
  faults_from w words = or_else (walk_fault shape [] w words)
      (settle_fault rules false (fold (walked rules []) w words).held)

  abbrev rows_from : Walk → List Text → List Row
  rows_from w words = (settled rules (fold (walked rules []) w words).held).rows

  -- a word's own fault is a fault of all words
  first_word_fails : (w : Walk) (word : Text) (words : List Text) → Fails (turn_fault shape [] w word) → Fails
      (faults_from w (word ∷ words))
  unfolding walk_fault
  first_word_fails w word words fails =
      fails_first (or_else (turn_fault shape [] w word) (walk_fault shape [] (walked rules [] w word) words)) _
      (fails_first (turn_fault shape [] w word) _ fails)

  -- after a word without a fault
  next_words : (w : Walk) (word : Text) (words : List Text) (next : Walk) (read : Option Given)
      → turn_fault shape [] w word ≡ [] → walked rules [] w word ≡ next
      → Agrees names (faults_from next words) (rows_from next words) read
      → Agrees names (faults_from w (word ∷ words)) (rows_from w (word ∷ words)) read
  unfolding walk_fault
  next_words w word words next read none same agrees =
      let From : Walk → Type 0 =
      λ n. Agrees names (or_else (walk_fault shape [] n words)
      (settle_fault rules false (fold (walked rules []) n words).held)) (rows_from n words) read in
      let After : Kinds → Type 0 =
      λ f. Agrees names (or_else (or_else f (walk_fault shape [] (walked rules [] w word) words))
      (settle_fault rules false (fold (walked rules []) (walked rules [] w word) words).held))
      (rows_from (walked rules [] w word) words) read in
      subst After (sym none) (subst From (sym same) agrees)

  -- no option has a short form
  bundle_fails : (f : ℕ) (fs : Text) (x : ℕ) (rows : List Row) (pending : Option (Text × List Text)) → slice_get
      (chars (f ∷ fs)) 0 ≡ Some x
      → Fails (bundle_fault rules false (f ∷ fs) (held_at rows pending))
  unfolding flags_fault
  bundle_fails f fs x rows pending first = rw (first, by_short names x) tt

  module _ (waiting : Waiting) (rows : List Row) (pending : Option (Text × List Text)) (word : Text)
      (no_dashes : is_dashes word ≡ false) (no_command : subcommand_met [] waiting word ≡ None) where
    abbrev before : Held
    before = held_at rows pending

    turn_long : (p : Text × Option Text) → long_of word ≡ Some p
        → turn_fault shape [] (walk_at waiting rows pending) word
        ≡ or_else (long_fault rules false (arg_by_long rules p.0) p.1 before)
        (step_fault shape 1 (long_word rules waiting word p.0 p.1 before).0
        (long_word rules waiting word p.0 p.1 before).1)
    turn_long p long = rw (no_command, no_dashes, long) refl

    walked_long : (p : Text × Option Text) → long_of word ≡ Some p
        → walked rules [] (walk_at waiting rows pending) word
        ≡ after_step rules word (walk_at waiting rows pending) (long_word rules waiting word p.0 p.1 before).0
        (long_word rules waiting word p.0 p.1 before).1
    unfolding walked
    walked_long p long = rw (no_command, no_dashes, long) refl

    long_fails : (p : Text × Option Text) → long_of word ≡ Some p → Fails
        (long_fault rules false (arg_by_long rules p.0) p.1 before)
        → Fails (turn_fault shape [] (walk_at waiting rows pending) word)
    long_fails p long fails =
        let after = step_fault shape 1 (long_word rules waiting word p.0 p.1 before).0
        (long_word rules waiting word p.0 p.1 before).1 in
        subst Fails (sym (turn_long p long))
        (fails_first (long_fault rules false (arg_by_long rules p.0) p.1 before) after fails)

    -- a long option without a fault
    take_long : (p : Text × Option Text) (after : Held) (waits : Waiting) → long_of word ≡ Some p
        → long_fault rules false (arg_by_long rules p.0) p.1 before ≡ []
        → long_word rules waiting word p.0 p.1 before ≡ (after, goes waits)
        → (turn_fault shape [] (walk_at waiting rows pending) word ≡ [])
        × (walked rules [] (walk_at waiting rows pending) word ≡ record
        (walk_at waiting rows pending) { held = after; waiting = waits })
    take_long p after waits long fault met = (turn_long p long ∙ rw (fault, met) refl, walked_long p long ∙ rw met refl)

    unknown_fails : (p : Text × Option Text) → long_of word ≡ Some p → is_among names.options p.0 ≡ false
        → is_among names.flags p.0 ≡ false → Fails (turn_fault shape [] (walk_at waiting rows pending) word)
    unknown_fails p long no_option no_flag =
        let none : arg_by_long rules p.0 ≡ None = by_long names p.0 ∙ rw (no_option, no_flag) refl in
        long_fails p long (rw none tt)

    -- an option ends what is pending, whose fault comes first
    settle_fails : (p : Text × Option Text) → long_of word ≡ Some p → Fails (settle_fault rules false before)
        → Fails (turn_fault shape [] (walk_at waiting rows pending) word)
    settle_fails p long fails = by_name (is_among names.options p.0) (is_among names.flags p.0) refl refl
      where
        option_fails : (v : Option Text) → arg_by_long rules p.0 ≡ Some (rule_for p.0) → Fails
            (long_fault rules false (arg_by_long rules p.0) v before)
        option_fails None e = rw e fails
        option_fails (Some v) e = rw e (fails_first (settle_fault rules false before)
            (use_fault false (rule_for p.0) (v ∷ []) (settled rules before).rows) fails)

        flag_fails : (v : Option Text) → arg_by_long rules p.0 ≡ Some (flag_for p.0) → Fails
            (long_fault rules false (arg_by_long rules p.0) v before)
        flag_fails None e = rw e (fails_first (settle_fault rules false before)
            (use_fault false (flag_for p.0) [] (settled rules before).rows) fails)
        flag_fails (Some v) e = rw e tt

        by_name : (o f : Bool) → is_among names.options p.0 ≡ o → is_among names.flags p.0 ≡ f → Fails
            (turn_fault shape [] (walk_at waiting rows pending) word)
        by_name true f is also = long_fails p long (option_fails p.1 (by_long names p.0 ∙ rw is refl))
        by_name false true is also = long_fails p long (flag_fails p.1 (by_long names p.0 ∙ rw (is, also) refl))
        by_name false false is also = unknown_fails p long is also

    short_fails : (flags : Text) (x : ℕ) → long_of word ≡ None → short_of word ≡ Some flags → 0 < length flags
        → slice_get (chars flags) 0 ≡ Some x
        → Fails (turn_fault shape [] (walk_at waiting rows pending) word)
    short_fails [] x no_long short some first = absurd (omega (arith, some))
    short_fails (f ∷ fs) x no_long short some first =
        rw (no_command, no_dashes, no_long, short)
        (fails_first (bundle_fault rules false (f ∷ fs) before) _
        (bundle_fails f fs x before.rows before.pending first))

  -- ---- a word where none is waited for

  stray_fails : (rows : List Row) (pending : Option (Text × List Text)) (word : Text) → is_dashes word ≡ false
      → long_of word ≡ None → short_of word ≡ None
      → Fails (turn_fault shape [] (walk_at idle rows pending) word)
  stray_fails rows pending word no_dashes no_long no_short = rw (no_dashes, no_long, no_short, by_index names 1) tt

  -- ---- uses

  use_again : (name value : Text) (rows : List Row) → has_row name rows ≡ true → Fails
      (use_fault false (rule_for name) (value ∷ []) rows)
  use_again name value rows is = rw is tt

  use_once : (name value : Text) (rows : List Row) → has_row name rows ≡ false → use_fault false (rule_for name)
      (value ∷ []) rows ≡ []
  use_once name value rows none = rw none refl

  flag_again : (name : Text) (rows : List Row) → has_row name rows ≡ true → Fails
      (use_fault false (flag_for name) [] rows)
  flag_again name rows is = rw is tt

  flag_once : (name : Text) (rows : List Row) → has_row name rows ≡ false
      → use_fault false (flag_for name) [] rows ≡ []
  flag_once name rows none = rw none refl

  pending_fault : (rows : List Row) (name : Text) (values : List Text) → is_among names.options name ≡ true
      → settle_fault rules false (held_at rows (Some (name, values))) ≡ use_fault false (rule_for name) values rows
  pending_fault rows name values is =
      let found : arg_by_id rules name ≡ Some (rule_for name) = by_id names name ∙ rw is refl in
      rw found refl

  pending_used : (rows : List Row) (name : Text) (values : List Text) → is_among names.options name ≡ true
      → settled_rows rules (Some (name, values)) rows ≡ used (rule_for name) values rows
  pending_used rows name values is =
      let found : arg_by_id rules name ≡ Some (rule_for name) = by_id names name ∙ rw is refl in
      rw found refl

  waits_fault : (rows : List Row) (name : Text) → is_among names.options name ≡ true → Fails
      (settle_fault rules false (held_at rows (Some (name, []))))
  waits_fault rows name is = subst Fails (sym (pending_fault rows name [] is)) tt

  -- ---- all words

  abbrev pub IsWord : Text → Type 0
  IsWord word = (is_dashes word ≡ false) × IsUtf8 word

  -- The first word is refused by both.
  both_refuse : (w : Walk) (word : Text) (words : List Text) (reading : Reading)
      → with_next_word names reading.given reading.waits word ≡ None
      → Fails (turn_fault shape [] w word) → Agrees names (faults_from w (word ∷ words)) (rows_from w (word ∷ words))
      (read_from names reading (word ∷ words))
  both_refuse w word words reading none fails = rw none (first_word_fails w word words fails)

  -- The first word is taken by both.
  both_take : (w : Walk) (word : Text) (words : List Text) (reading : Reading) (next_walk : Walk) (next : Reading)
      → with_next_word names reading.given reading.waits word ≡ Some next → turn_fault shape [] w word ≡ []
      → walked rules [] w word ≡ next_walk
      → Agrees names (faults_from next_walk words) (rows_from next_walk words) (read_from names next words)
      → Agrees names (faults_from w (word ∷ words)) (rows_from w (word ∷ words))
      (read_from names reading (word ∷ words))
  both_take w word words reading next_walk next read none same agrees =
      rw read (next_words w word words next_walk (read_from names next words) none same agrees)

  -- a pending option that was used before is refused at the next word, whatever that is
  bad_fails : (rows : List Row) (pending : Option (Text × List Text)) (words : List Text) → AllByRecursion IsWord words
      → Fails (settle_fault rules false (held_at rows pending)) → Fails (faults_from (walk_at idle rows pending) words)
  unfolding walk_fault
  bad_fails rows pending [] all fails = fails
  bad_fails rows pending (word ∷ words) all fails =
      first_word_fails (walk_at idle rows pending) word words (go (long_of word) refl)
    where
      short : (o : Option Text) → long_of word ≡ None → short_of word ≡ o → Fails
          (turn_fault shape [] (walk_at idle rows pending) word)
      short None no_long e = stray_fails rows pending word all.0.0 no_long e
      short (Some flags) no_long e =
          let parts = short_parts word flags all.0.1 e in
          short_fails idle rows pending word all.0.0 refl flags parts.1.0 no_long e parts.0 parts.1.1

      go : (o : Option (Text × Option Text)) → long_of word ≡ o → Fails
          (turn_fault shape [] (walk_at idle rows pending) word)
      go None e = short (short_of word) e refl
      go (Some p) e = settle_fails idle rows pending word all.0.0 refl p e fails

  abbrev reading_at : Given → Option Text → Reading
  reading_at given waits = record { given = given; waits = waits }

  abbrev AgreesAt : Walk → Reading → List Text → Type 0
  AgreesAt w reading words = Agrees names (faults_from w words) (rows_from w words) (read_from names reading words)

  -- no value is waited for, and what is pending is one more of what was given
  abbrev Idle : List Text → Type 0
  Idle words = (rows : List Row) (pending : Option (Text × List Text)) (given : Given) → settle_fault rules false
      (held_at rows pending) ≡ []
      → settled_rows rules pending rows ≡ rows_for names given → AgreesAt (walk_at idle rows pending)
      (reading_at given None) words

  abbrev Waits : List Text → Type 0
  Waits words = (given : Given) (name : Text) → is_among names.options name ≡ true
      → AgreesAt (walk_at (option name) (rows_for names given) (Some (name, []))) (reading_at given (Some name)) words

  idle_end : Idle []
  unfolding walk_fault
  idle_end rows pending given settle same = (settle, same)

  waits_end : Waits []
  unfolding walk_fault
  waits_end given name is = waits_fault (rows_for names given) name is

  -- a word that names an option or a flag, where no value is waited for
  module _ (word : Text) (words : List Text) (rows : List Row) (pending : Option (Text × List Text)) (given : Given)
      (is : IsWord word) (settle : settle_fault rules false (held_at rows pending) ≡ [])
      (same : settled_rows rules pending rows ≡ rows_for names given) where
    abbrev before_it : Walk
    before_it = walk_at idle rows pending

    abbrev after_them : List Row
    after_them = settled_rows rules pending rows

    there : (name : Text) (b : Bool) → is_given given name ≡ b → has_row name after_them ≡ b
    there name b e = ap (has_row name) same ∙ has_row-for names given name ∙ e

    -- an option that was not given before has its value in its word
    attached : (name value : Text) → long_of word ≡ Some (name, Some value) → is_among names.options name ≡ true
        → Idle words → AgreesAt before_it (reading_at given None) (word ∷ words)
    attached name value long known rest = go (is_given given name) refl
      where
        by_name : arg_by_long rules name ≡ Some (rule_for name)
        by_name = by_long names name ∙ rw known refl

        fault : long_fault rules false (arg_by_long rules name) (Some value) (held_at rows pending)
            ≡ use_fault false (rule_for name) (value ∷ []) after_them
        fault = rw (by_name, settle) refl

        go : (b : Bool) → is_given given name ≡ b → AgreesAt before_it (reading_at given None) (word ∷ words)
        go true e =
            both_refuse before_it word words (reading_at given None) (rw (long, known, e) refl)
            (long_fails idle rows pending word is.0 refl (name, Some value) long
            (subst Fails (sym fault) (use_again name value after_them (there name true e))))
        go false e =
            let after = used (rule_for name) (value ∷ []) after_them in
            let taken = take_long idle rows pending word is.0 refl (name, Some value) (held_at after None) idle long
            (fault ∙ use_once name value after_them (there name false e)) (rw by_name refl) in
            let rows_are = ap (used (rule_for name) (value ∷ [])) same
            ∙ one_more names name value (rows_for names given) known (has_row-for names given name ∙ e)
            ∙ sym (rows_for-more names given name value) in
            both_take before_it word words (reading_at given None) (walk_at idle after None)
            (reading_at (given ++ (name, value) ∷ []) None)
            (rw (long, known, e) refl) taken.0 taken.1 (rest after None (given ++ (name, value) ∷ []) refl rows_are)

    -- the next word is to be the value
    begun : (name : Text) → long_of word ≡ Some (name, None) → is_among names.options name ≡ true → Waits words
        → AgreesAt before_it (reading_at given None) (word ∷ words)
    begun name long known rest =
        let by_name : arg_by_long rules name ≡ Some (rule_for name) = by_long names name ∙ rw known refl in
        let fault : long_fault rules false (arg_by_long rules name) None (held_at rows pending) ≡ [] =
        rw by_name settle in
        let taken = take_long idle rows pending word is.0 refl (name, None) (held_at after_them (Some (name, [])))
        (option name) long fault (rw by_name refl) in
        both_take before_it word words (reading_at given None)
        (walk_at (option name) (rows_for names given) (Some (name, []))) (reading_at given (Some name))
        (rw (long, known) refl) taken.0
        (taken.1 ∙ ap (λ (r : List Row). walk_at (option name) r (Some (name, []))) same) (rest given name known)

    -- a flag that was not given before is a word by itself
    flagged : (name : Text) → long_of word ≡ Some (name, None) → is_among names.options name ≡ false
        → is_among names.flags name ≡ true → Idle words → AgreesAt before_it (reading_at given None) (word ∷ words)
    flagged name long no_option known rest = go (is_given given name) refl
      where
        by_name : arg_by_long rules name ≡ Some (flag_for name)
        by_name = by_long names name ∙ rw (no_option, known) refl

        fault : long_fault rules false (arg_by_long rules name) None (held_at rows pending)
            ≡ use_fault false (flag_for name) [] after_them
        fault = rw (by_name, settle) refl

        go : (b : Bool) → is_given given name ≡ b → AgreesAt before_it (reading_at given None) (word ∷ words)
        go true e =
            both_refuse before_it word words (reading_at given None) (rw (long, no_option, known, e) refl)
            (long_fails idle rows pending word is.0 refl (name, None) long
            (subst Fails (sym fault) (flag_again name after_them (there name true e))))
        go false e =
            let after = used (flag_for name) [] after_them in
            let taken = take_long idle rows pending word is.0 refl (name, None) (held_at after None) idle long
            (fault ∙ flag_once name after_them (there name false e)) (rw by_name refl) in
            let rows_are = ap (used (flag_for name) []) same
            ∙ one_more_flag names name [] (rows_for names given) no_option (has_row-for names given name ∙ e)
            ∙ sym (rows_for-more names given name []) in
            both_take before_it word words (reading_at given None) (walk_at idle after None)
            (reading_at (given ++ (name, []) ∷ []) None)
            (rw (long, no_option, known, e) refl) taken.0 taken.1
            (rest after None (given ++ (name, []) ∷ []) refl rows_are)

    -- a flag takes no value
    flag_with_value : (name value : Text) → long_of word ≡ Some (name, Some value)
        → is_among names.options name ≡ false → is_among names.flags name ≡ true
        → AgreesAt before_it (reading_at given None) (word ∷ words)
    flag_with_value name value long no_option known =
        let by_name : arg_by_long rules name ≡ Some (flag_for name) = by_long names name
        ∙ rw (no_option, known) refl in
        both_refuse before_it word words (reading_at given None) (rw (long, no_option, known) refl)
        (long_fails idle rows pending word is.0 refl (name, Some value) long (rw by_name tt))

  idle_step : (word : Text) (words : List Text) → IsWord word → Idle words → Waits words → Idle (word ∷ words)
  idle_step word words is rest waits rows pending given settle same = go (long_of word) refl
    where
      short : (o : Option Text) → long_of word ≡ None → short_of word ≡ o
          → Fails (turn_fault shape [] (walk_at idle rows pending) word)
      short None no_long e = stray_fails rows pending word is.0 no_long e
      short (Some flags) no_long e =
          let parts = short_parts word flags is.1 e in
          short_fails idle rows pending word is.0 refl flags parts.1.0 no_long e parts.0 parts.1.1

      known : (name : Text) (v : Option Text) → long_of word ≡ Some (name, v) → (o f : Bool)
          → is_among names.options name ≡ o → is_among names.flags name ≡ f
          → AgreesAt (walk_at idle rows pending) (reading_at given None) (word ∷ words)
      known name (Some value) long true f o_is f_is =
          attached word words rows pending given is settle same name value long o_is rest
      known name None long true f o_is f_is =
          begun word words rows pending given is settle same name long o_is waits
      known name (Some value) long false true o_is f_is =
          flag_with_value word words rows pending given is settle same name value long o_is f_is
      known name None long false true o_is f_is =
          flagged word words rows pending given is settle same name long o_is f_is rest
      known name v long false false o_is f_is =
          both_refuse (walk_at idle rows pending) word words (reading_at given None) (rw (long, o_is, f_is) refl)
          (unknown_fails idle rows pending word is.0 refl (name, v) long o_is f_is)

      go : (o : Option (Text × Option Text)) → long_of word ≡ o
          → AgreesAt (walk_at idle rows pending) (reading_at given None) (word ∷ words)
      go None e = both_refuse (walk_at idle rows pending) word words (reading_at given None) (rw e refl)
          (short (short_of word) e refl)
      go (Some p) e = known p.0 p.1 e (is_among names.options p.0) (is_among names.flags p.0) refl refl

  -- a word that is no flag is the value that is waited for
  taken_value : (word : Text) (given : Given) (name : Text) → is_dashes word ≡ false
      → is_among names.options name ≡ true → long_of word ≡ None → short_of word ≡ None
      → (turn_fault shape [] (walk_at (option name) (rows_for names given) (Some (name, []))) word ≡ [])
      × (walked rules [] (walk_at (option name) (rows_for names given) (Some (name, []))) word ≡ walk_at idle
      (rows_for names given) (Some (name, word ∷ [])))
  unfolding walked
  taken_value word given name no_dashes known no_long no_short =
      let by_name : arg_by_id rules name ≡ Some (rule_for name) = by_id names name ∙ rw known refl in
      let itself : bytes_eq name name ≡ true = (bytes_eq-Decides name name).1 refl in
      (rw (no_dashes, no_long, no_short) refl, rw (no_dashes, no_long, no_short, by_name, itself) refl)

  waits_step : (word : Text) (words : List Text) → IsWord word → AllByRecursion IsWord words → Idle words → Waits
      (word ∷ words)
  waits_step word words is all rest = λ given name known. go given name known (long_of word) refl
    where
      value : (given : Given) (name : Text) → is_among names.options name ≡ true → long_of word ≡ None
          → short_of word ≡ None → (b : Bool) → is_given given name ≡ b
          → (turn_fault shape [] (walk_at (option name) (rows_for names given) (Some (name, []))) word ≡ [])
          × (walked rules [] (walk_at (option name) (rows_for names given) (Some (name, []))) word ≡ walk_at idle
          (rows_for names given) (Some (name, word ∷ [])))
          → AgreesAt (walk_at (option name) (rows_for names given) (Some (name, []))) (reading_at given (Some name))
          (word ∷ words)
      value given name known no_long no_short true e taken =
          let twice = has_row-for names given name ∙ e in
          let bad = subst Fails (sym (pending_fault (rows_for names given) name (word ∷ []) known))
          (use_again name word (rows_for names given) twice) in
          rw (no_long, no_short, e) (next_words (walk_at (option name) (rows_for names given) (Some (name, []))) word
          words (walk_at idle (rows_for names given) (Some (name, word ∷ []))) None taken.0 taken.1
          (bad_fails (rows_for names given) (Some (name, word ∷ [])) words all bad))
      value given name known no_long no_short false e taken =
          let once = has_row-for names given name ∙ e in
          both_take (walk_at (option name) (rows_for names given) (Some (name, []))) word words
          (reading_at given (Some name)) (walk_at idle (rows_for names given) (Some (name, word ∷ [])))
          (reading_at (given ++ (name, word) ∷ []) None)
          (rw (no_long, no_short, e) refl) taken.0 taken.1
          (rest (rows_for names given) (Some (name, word ∷ [])) (given ++ (name, word) ∷ [])
          (pending_fault (rows_for names given) name (word ∷ []) known ∙ use_once name word (rows_for names given) once)
          (pending_used (rows_for names given) name (word ∷ []) known
          ∙ one_more names name word (rows_for names given) known once ∙ sym (rows_for-more names given name word)))

      short : (given : Given) (name : Text) → is_among names.options name ≡ true → long_of word ≡ None →
          (o : Option Text) → short_of word ≡ o
          → AgreesAt (walk_at (option name) (rows_for names given) (Some (name, []))) (reading_at given (Some name))
          (word ∷ words)
      short given name known no_long None e =
          value given name known no_long e (is_given given name) refl (taken_value word given name is.0 known no_long e)
      short given name known no_long (Some flags) e =
          let parts = short_parts word flags is.1 e in
          both_refuse (walk_at (option name) (rows_for names given) (Some (name, []))) word words
          (reading_at given (Some name)) (rw (no_long, e) refl)
          (short_fails (option name) (rows_for names given)
          (Some (name, [])) word is.0 refl flags parts.1.0 no_long e parts.0 parts.1.1)

      go : (given : Given) (name : Text) → is_among names.options name ≡ true → (o : Option (Text × Option Text))
          → long_of word ≡ o
          → AgreesAt (walk_at (option name) (rows_for names given) (Some (name, []))) (reading_at given (Some name))
          (word ∷ words)
      go given name known None e = short given name known e (short_of word) refl
      go given name known (Some p) e =
          both_refuse (walk_at (option name) (rows_for names given) (Some (name, []))) word words
          (reading_at given (Some name)) (rw e refl)
          (settle_fails (option name) (rows_for names given) (Some (name, [])) word is.0 refl p e
          (waits_fault (rows_for names given) name known))

  all_words : (words : List Text) → AllByRecursion IsWord words → Idle words × Waits words
  all_words [] all = (idle_end, waits_end)
  all_words (word ∷ words) all =
      let rest = all_words words all.1 in
      (idle_step word words all.0 rest.0 rest.1, waits_step word words all.0 all.1 rest.0)

-- ---- the whole parse

-- an option that is not given has no value, and a flag that is not given has the text `false`
pub option_default : (rows : List Row) (name : Text) → with_default rows (rule_for name) ≡ rows
option_default rows name = elim (has_row name rows) as (λ b. cond b rows rows ≡ rows) [ true ↦ refl | false ↦ refl ]

option_default_fault : (rows : List Row) (name : Text) → default_fault rows (rule_for name) ≡ []
option_default_fault rows name =
    elim (has_row name rows) as
    (λ b. cond (b || true) [] (given_default_fault (rule_for name) []) ≡ []) [ true ↦ refl | false ↦ refl ]

flag_default_fault : (rows : List Row) (name : Text) → default_fault rows (flag_for name) ≡ []
flag_default_fault rows name =
    elim (has_row name rows) as
    (λ b. cond (b || false) [] (given_default_fault (flag_for name) (codes "false" ∷ [])) ≡ []) [
      | true ↦ refl
      | false ↦ refl
    ]

flags_default_fault : (flags : List Text) (rows : List Row) → defaults_fault rows (map flag_for flags) ≡ []
unfolding defaults_fault
flags_default_fault [] rows = refl
flags_default_fault (name ∷ flags) rows =
    rw (flag_default_fault rows name) (flags_default_fault flags (with_default rows (flag_for name)))

no_default_fault : (options flags : List Text) (rows : List Row)
    → defaults_fault rows (map rule_for options ++ map flag_for flags) ≡ []
unfolding defaults_fault
no_default_fault [] flags rows = flags_default_fault flags rows
no_default_fault (name ∷ options) flags rows =
    rw (option_default_fault rows name, option_default rows name) (no_default_fault options flags rows)

no_flag_required : (flags : List Text) (rows : List Row)
    → list_any (λ a. a.required && not (is_given_row a.id rows)) (map flag_for flags) ≡ false
no_flag_required [] rows = refl
no_flag_required (name ∷ flags) rows = no_flag_required flags rows

none_required : (options flags : List Text) (rows : List Row)
    → list_any (λ a. a.required && not (is_given_row a.id rows)) (map rule_for options ++ map flag_for flags) ≡ false
none_required [] flags rows = no_flag_required flags rows
none_required (name ∷ options) flags rows = none_required options flags rows

or_else-nil : (kinds : Kinds) → or_else kinds [] ≡ kinds
or_else-nil [] = refl
or_else-nil (k ∷ kinds) = refl

abbrev pub app_for : Text → Names → App
app_for title names = record { top = shape_for title names; subs = [] }

no_command_fault : (title : Text) (names : Names) (words : List Text) (stop : Option (Text × List Text))
    → level_fault (shape_for title names) [] nothing_held words (is_some (entered (app_for title names) stop))
    (entered_fault (app_for title names) stop)
    ≡ level_fault (shape_for title names) [] nothing_held words false []
no_command_fault title names words None = refl
no_command_fault title names words (Some p) = refl

level_is : (title : Text) (names : Names) (words : List Text)
    → level_fault (shape_for title names) [] nothing_held words false [] ≡ faults_from title names
    (walk_at idle [] None) words
level_is title names words =
    let end = (fold (walked (rules_for names) []) (walk_at idle [] None) words).held in
    let settle = settle_fault (rules_for names) false end in
    rw (
      no_default_fault names.options names.flags (settled (rules_for names) end).rows,
      none_required names.options names.flags (finished (rules_for names) end),
      or_else-nil settle,
    ) refl

-- the rows of what was given, and of the flags that were not
abbrev pub filled_rows : Names → Given → List Row
filled_rows names given = fold with_default (rows_for names given) (rules_for names)

abbrev pub Comes : Names → Kinds → List Row → Option Given → Type 0
Comes names faults rows None = Fails faults
Comes names faults rows (Some given) = (faults ≡ []) × (rows ≡ filled_rows names given)

comes : (names : Names) (faults : Kinds) (rows : List Row) (read : Option Given) → Agrees names faults rows read
    → Comes names faults (fold with_default rows (rules_for names)) read
comes names faults rows None a = a
comes names faults rows (Some given) a = (a.0, ap (λ (r : List Row). fold with_default r (rules_for names)) a.1)

-- Where the parser is asked for options and flags of these names, it comes to what reading the words gives.
pub parser_agrees : (title : Text) (names : Names) (words all : List Text) (app : App)
    → built app ≡ app_for title names → argument_words app all ≡ words
    → AllByRecursion (IsWord title names) words → Comes names (fault_of app all) (matches_of app all)
    (read_from names (record { given = []; waits = None }) words)
parser_agrees title names words all app is words_are each =
    let idle_agrees = (all_words title names words each).0 [] None [] refl refl in
    let stop = (walk (rules_for names) [] nothing_held words).stopped in
    let faults : fault_of app all ≡ faults_from title names (walk_at idle [] None) words =
    ap (λ (a : App). built_fault a nothing_held (argument_words app all)) is
    ∙ ap (λ (ws : List Text). built_fault (app_for title names) nothing_held ws) words_are
    ∙ no_command_fault title names words stop ∙ level_is title names words in
    let end = rows_from title names (walk_at idle [] None) words in
    let rows : matches_of app all ≡ fold with_default end (rules_for names) =
    ap (λ (a : App). rows_after a.top.rules (names_of a) (argument_words app all)) is
    ∙ ap (λ (ws : List Text). rows_after (rules_for names) [] ws) words_are in
    rw (faults, rows) (comes names (faults_from title names (walk_at idle [] None) words) end
    (read_from names (record { given = []; waits = None }) words) idle_agrees)
