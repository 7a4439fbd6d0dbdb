-- What a parse answers is what the words give.
use Rattle.std.proofs.Common.{◌≡◌, ℕ, inl, inr, true, false, List, [], ◌∷◌, ◌<◌, ◌+◌, ◌-◌, suc, arith}
use Rattle.std.proofs.Common.{length, get_or, take, drop, drop-cons, map, Option, None, Some, Err, refl}
use Rattle.std.proofs.Common.{sym, ap, ◌∙◌, subst}
use Rattle.std.specs.Prelude.{IsSomeAnd}
use Rattle.std.specs.List.{list_any, AllByRecursion}
use Rattle.clap.specs.Faults.{fault_of}
use Rattle.clap.specs.Kinds.{Kinds, HasKind, IsAmong}
use Rattle.clap.specs.Matches.{found_of}
use Rattle.clap.specs.Simple.{App, argument_words, built, is_simple, matches_of}
use Rattle.clap.specs.Faults.{is_simple_and_free}
use Rattle.clap.specs.Values.{kind_of}
use Rattle.clap.specs.Walk.{Row, rows_of}
use Rattle.clap.proofs.OnLiterals.{clap_on_literals}
use Rattle.clap.specs.declared.error.Error.{Error}
use Rattle.clap.specs.declared.error.kind.ErrorKind.{ErrorKind}
use Rattle.clap.specs.declared.parser.matches.ArgMatches.{ArgMatches}
use Rattle.melt_top.specs.Words.{Given, Names, given_of, read_from, parts_options}
use Rattle.melt_top.specs.Parses.{Has, IsWord, Parses, asked_for, names_of_verb, refusal_for, title_of}
use Rattle.melt_top.specs.declared.options.Verb.{Verb}
use Rattle.melt_top.specs.declared.options.Verb.TheVariants as verb
use Rattle.melt_top.specs.declared.options.WordsRefusal.{WordsRefusal}
use Rattle.melt_top.specs.declared.options.WordsRefusal.TheVariants as refusal
use Rattle.melt_top.proofs.Clapping.{Comes, Fails, app_for, parser_agrees}
use Rattle.melt_top.proofs.Found.{has}

-- ---- the parsers that are asked for

pub asked_simple : (v : Verb) → is_simple (asked_for (title_of v) (names_of_verb v)) ≡ true
unfolding clap_on_literals
asked_simple verb.Step = refl
asked_simple verb.Run = refl
asked_simple verb.Gen = refl

pub asked_free : (v : Verb) → is_simple_and_free (asked_for (title_of v) (names_of_verb v)) ≡ true
unfolding clap_on_literals
asked_free verb.Step = refl
asked_free verb.Run = refl
asked_free verb.Gen = refl

asked_built : (v : Verb) → built (asked_for (title_of v) (names_of_verb v)) ≡ app_for (title_of v) (names_of_verb v)
unfolding clap_on_literals
asked_built verb.Step = refl
asked_built verb.Run = refl
asked_built verb.Gen = refl

words_after_the_first : (v : Verb) (all : List (List ℕ))
    → argument_words (asked_for (title_of v) (names_of_verb v)) all ≡ drop 1 all
words_after_the_first verb.Step all = refl
words_after_the_first verb.Run all = refl
words_after_the_first verb.Gen all = refl

given_without_dashes : (names : Names) (words : List (List ℕ)) → list_any parts_options words ≡ false
    → given_of names words ≡ read_from names (record { given = []; waits = None }) words
given_without_dashes names words none = rw none refl

pub options_agree : (v : Verb) (app : App) (all : List (List ℕ)) → app ≡ asked_for (title_of v) (names_of_verb v)
    → list_any parts_options (drop 1 all) ≡ false
    → AllByRecursion IsWord (drop 1 all) → Comes (names_of_verb v) (fault_of app all) (matches_of app all)
    (given_of (names_of_verb v) (drop 1 all))
options_agree v app all is none each =
    subst (Comes (names_of_verb v) (fault_of app all) (matches_of app all))
    (sym (given_without_dashes (names_of_verb v) (drop 1 all) none))
    (parser_agrees (title_of v) (names_of_verb v) (drop 1 all) all app (ap built is ∙ asked_built v)
    (ap (λ (a : App). argument_words a all) is ∙ words_after_the_first v all) each)

-- ---- what is answered

pub parsed : (names : Names) (words : List (List ℕ)) (faults : Kinds) (rows : List Row) (matches : ArgMatches)
    → Comes names faults rows (given_of names words)
    → faults ≡ [] → rows_of (found_of matches) ≡ rows → IsSomeAnd (given_of names words) (Has names matches)
parsed names words faults rows matches comes none found = go (given_of names words) comes
  where
    go : (read : Option Given) → Comes names faults rows read → IsSomeAnd read (Has names matches)
    go None c = absurd (subst Fails none c)
    go (Some given) c = has names matches given (found ∙ c.1)

nothing_given : (names : Names) (read : Option Given) (faults : Kinds) (rows : List Row) (k : ErrorKind)
    → Comes names faults rows read → IsAmong k faults → read ≡ None
nothing_given names None faults rows k comes among = refl
nothing_given names (Some given) faults rows k comes among = absurd (subst (IsAmong k) comes.0 among)

refused_so : (names : Names) (words : List (List ℕ)) (r : WordsRefusal) → given_of names words ≡ None
    → Parses names words (Err r)
refused_so names words refusal.Usage none = none
refused_so names words refusal.NoMemory none = tt

pub refused : (names : Names) (words : List (List ℕ)) (faults : Kinds) (rows : List Row) (e : Error) (r : WordsRefusal)
    → Comes names faults rows (given_of names words)
    → HasKind faults e → r ≡ refusal_for (kind_of e) → Parses names words (Err r)
refused names words faults rows e r comes (inl memory) is =
    let So : WordsRefusal → Type 0 = λ x. Parses names words (Err x) in
    subst So (sym (is ∙ ap refusal_for memory)) tt
refused names words faults rows e r comes (inr among) is =
    refused_so names words r (nothing_given names (given_of names words) faults rows (kind_of e) comes among)

-- ---- words in a loop, and those after the first

pub here_and_after : {A : Type 0} (xs : List A) (i : ℕ) (x : A) → i < length xs → x ≡ get_or xs i x
    → drop i xs ≡ x ∷ drop (i + 1) xs
here_and_after xs i x within is =
    let on : suc i ≡ i + 1 = omega arith in
    drop-cons xs i x within ∙ ap (λ y. y ∷ drop (suc i) xs) (sym is) ∙ ap (λ (j : ℕ). x ∷ drop j xs) on

pub words_from : {A : Type 0} (f : A → List ℕ) (xs : List A) (i : ℕ) (x : A) → drop i xs ≡ x ∷ drop (i + 1) xs
    → IsWord (f x)
    → AllByRecursion IsWord (map f (drop (i + 1) xs)) → AllByRecursion IsWord (map f (drop i xs))
words_from {A} f xs i x here is rest =
    let All : List A → Type 0 = λ ys. AllByRecursion IsWord (map f ys) in
    subst All (sym here) (is, rest)

take_all : {A : Type 0} (xs : List A) → take (length xs) xs ≡ xs
take_all [] = refl
take_all (x ∷ xs) = ap (λ ys. x ∷ ys) (take_all xs)

pub after_first : {A : Type 0} (f : A → List ℕ) (xs : List A)
    → map f (take (length xs - 1) (drop 1 xs)) ≡ drop 1 (map f xs)
after_first f [] = refl
after_first f (x ∷ xs) =
    let fewer : suc (length xs) - 1 ≡ length xs = omega arith in
    ap (λ (n : ℕ). map f (take n xs)) fewer ∙ ap (map f) (take_all xs)
