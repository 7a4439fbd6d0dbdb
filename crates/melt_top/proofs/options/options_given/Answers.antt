use Rattle.std.proofs.Common.{drop, map, string_bytes, sym, ap, ◌∙◌, subst}
use Rattle.std.specs.List.{list_any, AllByRecursion}
use Rattle.clap.specs.Faults.{fault_of, is_simple_and_free}
use Rattle.clap.specs.Simple.{app_of, is_simple, matches_of}
use Rattle.melt_top.specs.Parses.{names_of_verb}
use Rattle.melt_top.specs.Words.{parts_options}
use Rattle.melt_top.specs.Parses.{IsWord}
use Rattle.melt_top.proofs.Parsing.{after_first, options_agree, asked_simple, asked_free, parsed, refused}
use Rattle.melt_top.proofs.options.options_given.Goals as goal

pub returns-in-Ok : goal.returns-in-Ok
returns-in-Ok c =
    let all = map string_bytes c.args.words.now in
    let rest = after_first string_bytes c.args.words.now in
    let none = sym (c.if-has_dashes.ensures.value ∙ ap (list_any parts_options) rest) in
    let each = subst (AllByRecursion IsWord) rest c.if-has_dashes.ensures.words in
    let app = app_of c.in_ok-parser.parser in
    parsed (names_of_verb c.args.verb) (drop 1 all) (fault_of app all) (matches_of app all) c.in-Ok.options
    (options_agree c.args.verb app all c.in_ok-parser.ensures none each)
    (c.in-Ok.ensures.kinds (ap is_simple_and_free c.in_ok-parser.ensures ∙ asked_free c.args.verb))
    (c.in-Ok.ensures.matches (ap is_simple c.in_ok-parser.ensures ∙ asked_simple c.args.verb)).0

pub returns-in-Err : goal.returns-in-Err
returns-in-Err c =
    let all = map string_bytes c.args.words.now in
    let rest = after_first string_bytes c.args.words.now in
    let none = sym (c.if-has_dashes.ensures.value ∙ ap (list_any parts_options) rest) in
    let each = subst (AllByRecursion IsWord) rest c.if-has_dashes.ensures.words in
    let app = app_of c.in_ok-parser.parser in
    refused (names_of_verb c.args.verb) (drop 1 all) (fault_of app all) (matches_of app all) c.in-Err.error
    c.refusal_of.result (options_agree c.args.verb app all c.in_ok-parser.ensures none each)
    (c.in-Err.ensures.kinds (ap is_simple_and_free c.in_ok-parser.ensures ∙ asked_free c.args.verb))
    c.refusal_of.ensures
