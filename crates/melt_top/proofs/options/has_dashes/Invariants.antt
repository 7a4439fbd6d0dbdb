use Rattle.std.proofs.Common.{◌≡◌, drop, map, string_bytes}
use Rattle.std.specs.List.{list_any, AllByRecursion}
use Rattle.melt_top.specs.Words.{parts_options}
use Rattle.melt_top.specs.Parses.{IsWord}
use Rattle.melt_top.proofs.options.has_dashes.Given as goal

-- what is said of all words is said of those that are left
abbrev pub invariant-loop-word : goal.invariant-loop-word
invariant-loop-word l = record {
  same : list_any parts_options (map string_bytes l.words) ≡ list_any parts_options
      (map string_bytes (drop l.word-index l.words));
  words : AllByRecursion IsWord (map string_bytes (drop l.word-index l.words)) → AllByRecursion IsWord
      (map string_bytes l.words);
}
