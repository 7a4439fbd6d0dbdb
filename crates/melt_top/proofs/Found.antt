-- What the getters of the matches read, of what was given and of the flags that were not.
use Rattle.std.proofs.Common.{◌≡◌, Bool, true, false, cond, ◌||◌, List, [], ◌∷◌, ◌++◌, map, Option, None, Some}
use Rattle.std.proofs.Common.{refl, sym, ap, ◌∙◌, subst}
use Rattle.std.proofs.Math.Bool.{or-false}
use Rattle.std.proofs.lemmas.Slice.Eq.{bytes_eq-Decides}
use Rattle.std.specs.Prelude.{codes, find, fold, option_map, option_and_then, slice_get}
use Rattle.std.specs.Str.{bytes_eq}
use Rattle.clap.specs.Matches.{found_of}
use Rattle.clap.specs.Values.{bool_text}
use Rattle.clap.specs.Walk.{Row, Text, default_rows, has_row, more_values, row_text, rows_of, with_default}
use Rattle.clap.proofs.WalkLemmas.{first_value-rows, one_text-rows}
use Rattle.clap.specs.declared.builder.value_parser.Reading.TheVariants as how
use Rattle.clap.specs.declared.parser.matches.ArgMatches.{ArgMatches}
use Rattle.clap.specs.declared.parser.matches.ValueSource.TheVariants.{DefaultValue}
use Rattle.melt_top.specs.Parses.{Has}
use Rattle.melt_top.specs.Words.{Given, Names, is_among, is_given, value_given}
use Rattle.melt_top.proofs.Clapping.{at_row-missing, filled_rows, flag_for, has_row-for, option_default, row_for}
use Rattle.melt_top.proofs.Clapping.{row_with, rows_for, rule_for, text_for}

-- the text of a flag that is not given
abbrev missing : Text
missing = codes "false"

abbrev default_row : Text → Row
default_row name =
    record { id = name; values = missing ∷ []; count = None; source = Some DefaultValue; reading = how.AsWritten }

flag_default : (rows : List Row) (name : Text)
    → with_default rows (flag_for name) ≡ cond (has_row name rows) rows (rows ++ default_row name ∷ [])
flag_default rows name = go (has_row name rows) refl
  where
    go : (b : Bool) → has_row name rows ≡ b
        → cond b rows (default_rows name how.AsWritten (missing ∷ []) rows)
        ≡ cond b rows (rows ++ default_row name ∷ [])
    go true e = refl
    go false e = at_row-missing name (more_values DefaultValue (missing ∷ [])) (default_row name ∷ []) rows e

-- a getter that reads the text of a row
module _ (get : Row → Option Text) (on_given : (name value : Text) → get (row_with name value) ≡ Some value)
    (on_default : (name : Text) → get (default_row name) ≡ Some missing) where
  abbrev got : Text → List Row → Option Text
  got id rows = option_and_then get (find (λ r. bytes_eq r.id id) rows)

  got_given : (names : Names) (given : Given) (id : Text)
      → got id (rows_for names given) ≡ option_map (text_for names) (find (λ g. bytes_eq g.0 id) given)
  got_given names [] id = refl
  got_given names (g ∷ given) id = go (bytes_eq g.0 id) (got_given names given id)
    where
      go : (b : Bool) → got id (rows_for names given) ≡ option_map (text_for names) (find (λ h. bytes_eq h.0 id) given)
          → option_and_then get (cond b (Some (row_for names g)) (find (λ r. bytes_eq r.id id) (rows_for names given)))
          ≡ option_map (text_for names) (cond b (Some g) (find (λ h. bytes_eq h.0 id) given))
      go true rest = on_given g.0 (text_for names g)
      go false rest = rest

  abbrev if_named : (name id : Text) → Option Text
  if_named name id = cond (bytes_eq name id) (Some missing) None

  -- after all rows stands one more
  got_more : (name id : Text) (rows : List Row)
      → got id (rows ++ default_row name ∷ [])
      ≡ cond (has_row id rows) (got id rows) (if_named name id)
  got_more name id [] = go (bytes_eq name id)
    where
      go : (b : Bool) → option_and_then get (cond b (Some (default_row name)) None) ≡ cond b (Some missing) None
      go true = on_default name
      go false = refl
  got_more name id (r ∷ rows) = go (bytes_eq r.id id) (got_more name id rows)
    where
      go : (b : Bool) → got id (rows ++ default_row name ∷ []) ≡ cond (has_row id rows) (got id rows) (if_named name id)
          → option_and_then get (cond b (Some r) (find (λ q. bytes_eq q.id id) (rows ++ default_row name ∷ [])))
          ≡ cond (b || has_row id rows) (option_and_then get (cond b (Some r) (find (λ q. bytes_eq q.id id) rows)))
          (if_named name id)
      go true rest = refl
      go false rest = rest

  has_row-more : (name id : Text) (rows : List Row)
      → has_row id (rows ++ default_row name ∷ []) ≡ (has_row id rows || bytes_eq name id)
  has_row-more name id [] = or-false (bytes_eq name id)
  has_row-more name id (r ∷ rows) = go (bytes_eq r.id id) (has_row-more name id rows)
    where
      go : (b : Bool) → has_row id (rows ++ default_row name ∷ []) ≡ (has_row id rows || bytes_eq name id)
          → (b || has_row id (rows ++ default_row name ∷ [])) ≡ ((b || has_row id rows) || bytes_eq name id)
      go true rest = refl
      go false rest = rest

  alone : (id : Text) (rows : List Row) → got id rows ≡ cond (has_row id rows) (got id rows) None
  alone id [] = refl
  alone id (r ∷ rows) =
      elim (bytes_eq r.id id) as
      (λ b. option_and_then get (cond b (Some r) (find (λ q. bytes_eq q.id id) rows)) ≡ cond (b || has_row id rows)
      (option_and_then get (cond b (Some r) (find (λ q. bytes_eq q.id id) rows))) None) [
        | true ↦ refl
        | false ↦ alone id rows
      ]

  either : (there named known : Bool) (text : Option Text)
      → cond (there || named) (cond there text (cond named (Some missing) None)) (cond known (Some missing) None)
      ≡ cond there text (cond (named || known) (Some missing) None)
  either true named known text = refl
  either false true known text = refl
  either false false known text = refl

  -- what is read once the flags that are not given have their text
  abbrev Reads : List Text → List Row → Text → Option Text → Type 0
  Reads flags rows id text =
      text ≡ cond (has_row id rows) (got id rows) (cond (is_among flags id) (Some missing) None)

  abbrev text_after : List Text → List Row → Text → Option Text
  text_after flags rows id = got id (fold with_default rows (map flag_for flags))

  after_flags : (flags : List Text) (rows : List Row) (id : Text)
      → Reads flags rows id (text_after flags rows id)
  after_flags [] rows id = alone id rows
  after_flags (n ∷ flags) rows id = go (has_row n rows) refl (after_flags flags (with_default rows (flag_for n)) id)
    where
      same : (b : Bool) → bytes_eq n id ≡ b → has_row n rows ≡ true
          → Reads flags rows id (text_after (n ∷ flags) rows id) → text_after (n ∷ flags) rows id
          ≡ cond (has_row id rows) (got id rows) (cond (b || is_among flags id) (Some missing) None)
      same false e there rest = rest
      same true e there rest =
          let here : has_row id rows ≡ true = ap (λ (t : Text). has_row t rows) (sym ((bytes_eq-Decides n id).0 e))
          ∙ there in
          rest ∙ rw here refl

      go : (b : Bool) → has_row n rows ≡ b
          → Reads flags (with_default rows (flag_for n)) id (text_after (n ∷ flags) rows id)
          → Reads (n ∷ flags) rows id (text_after (n ∷ flags) rows id)
      go true there rest =
          let now : with_default rows (flag_for n) ≡ rows = flag_default rows n ∙ rw there refl in
          same (bytes_eq n id) refl there
          (subst (λ (r : List Row). Reads flags r id (text_after (n ∷ flags) rows id)) now rest)
      go false there rest =
          let now : with_default rows (flag_for n) ≡ rows ++ default_row n ∷ [] = flag_default rows n
          ∙ rw there refl in
          subst (λ (r : List Row). Reads flags r id (text_after (n ∷ flags) rows id)) now rest
          ∙ rw (has_row-more n id rows, got_more n id rows)
          (either (has_row id rows) (bytes_eq n id) (is_among flags id) (got id rows))

  after_options : (options flags : List Text) (rows : List Row) (id : Text)
      → Reads flags rows id (got id (fold with_default rows (map rule_for options ++ map flag_for flags)))
  after_options [] flags rows id = after_flags flags rows id
  after_options (n ∷ options) flags rows id =
      subst (λ (r : List Row). Reads flags rows id
      (got id (fold with_default r (map rule_for options ++ map flag_for flags))))
      (sym (option_default rows n)) (after_options options flags rows id)

  -- what is read of a name
  reads : (names : Names) (given : Given) (id : Text)
      → got id (filled_rows names given)
      ≡ cond (is_given given id) (option_map (text_for names) (find (λ g. bytes_eq g.0 id) given))
      (cond (is_among names.flags id) (Some missing) None)
  reads names given id =
      after_options names.options names.flags (rows_for names given) id
      ∙ rw (has_row-for names given id, got_given names given id) refl

-- ---- options and flags

value_read : (names : Names) (given : Given) (name : Text) → is_among names.options name ≡ true
    → cond (is_given given name) (option_map (text_for names) (find (λ g. bytes_eq g.0 name) given)) None
    ≡ value_given given name
value_read names [] name is = refl
value_read names (g ∷ given) name is = go (bytes_eq g.0 name) refl (value_read names given name is)
  where
    go : (b : Bool) → bytes_eq g.0 name ≡ b
        → cond (is_given given name) (option_map (text_for names) (find (λ h. bytes_eq h.0 name) given)) None
        ≡ value_given given name
        → cond (b || is_given given name)
        (option_map (text_for names) (cond b (Some g) (find (λ h. bytes_eq h.0 name) given))) None
        ≡ option_map (λ (h : Text × Text). h.1) (cond b (Some g) (find (λ h. bytes_eq h.0 name) given))
    go true e rest =
        let known : is_among names.options g.0 ≡ true = ap (is_among names.options) ((bytes_eq-Decides g.0 name).0 e)
        ∙ is in
        rw known refl
    go false e rest = rest

flag_read : (names : Names) (given : Given) (name : Text) → is_among names.options name ≡ false
    → cond (is_given given name) (option_map (text_for names) (find (λ g. bytes_eq g.0 name) given)) (Some missing)
    ≡ Some (bool_text (is_given given name))
flag_read names [] name is = refl
flag_read names (g ∷ given) name is = go (bytes_eq g.0 name) refl (flag_read names given name is)
  where
    go : (b : Bool) → bytes_eq g.0 name ≡ b
        → cond (is_given given name) (option_map (text_for names) (find (λ h. bytes_eq h.0 name) given)) (Some missing)
        ≡ Some (bool_text (is_given given name))
        → cond (b || is_given given name)
        (option_map (text_for names) (cond b (Some g) (find (λ h. bytes_eq h.0 name) given))) (Some missing)
        ≡ Some (bool_text (b || is_given given name))
    go true e rest =
        let known : is_among names.options g.0 ≡ false = ap (is_among names.options) ((bytes_eq-Decides g.0 name).0 e)
        ∙ is in
        rw known refl
    go false e rest = rest

-- the matches have what was given
pub has : (names : Names) (matches : ArgMatches) (given : Given)
    → rows_of (found_of matches) ≡ filled_rows names given → Has names matches given
has names matches given rows = record {
  values = λ name is. first_value-rows (found_of matches) name
      ∙ ap (λ (rs : List Row). option_and_then (λ (r : Row). slice_get r.values 0) (find (λ r. bytes_eq r.id name) rs))
      rows
      ∙ reads (λ (r : Row). slice_get r.values 0) (λ n v. refl) (λ n. refl) names given name
      ∙ rw (is.1) (value_read names given name is.0);
  flags = λ name is. one_text-rows (found_of matches) name
      ∙ ap (λ (rs : List Row). option_and_then row_text (find (λ r. bytes_eq r.id name) rs)) rows
      ∙ reads row_text (λ n v. refl) (λ n. refl) names given name
      ∙ rw (is.1) (flag_read names given name is.0);
}
