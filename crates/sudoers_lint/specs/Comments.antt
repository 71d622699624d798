-- Comments that allow rules of lint to be broken: `# lint: allow RULE...`.
use Rattle.std.specs.Prelude.{ℕ, ◌&&◌, List, [], ◌∷◌, drop, codes, Option, Some, None, if◌then◌else◌}
use Rattle.std.specs.List.{flat_map}
use Rattle.std.specs.Str.{bytes_eq}
use Rattle.sudoers_text.specs.Found.{tokens_of_line}
use Rattle.sudoers_text.specs.LineMode.{line_mode}
use Rattle.sudoers_grammar.specs.Piece.{TokenWithBytes, is_comment, tokens_with_bytes, value_of_matching_row}
use Rattle.sudoers_lint.specs.declared.lint_rule.LintRule.{LintRule}
use Rattle.sudoers_lint.specs.Names.{words_of_comment}
use Rattle.sudoers_lint.specs.Rules.{named_rules}

-- the rule of a word, and those of the words behind it; none if the word names no rule
abbrev pub rules_of_word_and_more : Option LintRule → List LintRule → List LintRule
rules_of_word_and_more None more = []
rules_of_word_and_more (Some r) more = r ∷ more

-- the rules that these words name, up to the first word that names none
abbrev pub rules_of_first_words : List (List ℕ) → List LintRule
rules_of_first_words [] = []
rules_of_first_words (word ∷ words) = rules_of_word_and_more (value_of_matching_row named_rules word) (rules_of_first_words words)

-- the rules that a comment of these words allows to break: those behind `lint:` and `allow`
abbrev pub rules_allowed_by_words : List (List ℕ) → List LintRule
rules_allowed_by_words [] = []
rules_allowed_by_words (first ∷ []) = []
rules_allowed_by_words (first ∷ second ∷ words) =
    if bytes_eq first (codes "lint:") && bytes_eq second (codes "allow") then rules_of_first_words words else []

-- A token that is a comment begins with `#`.
abbrev pub rules_allowed_by_token : TokenWithBytes → List LintRule
rules_allowed_by_token t = if is_comment t.kind then rules_allowed_by_words (words_of_comment (drop 1 t.text)) else []

-- the rules that a line of this text allows to break
abbrev pub rules_allowed_by_text : List ℕ → List LintRule
rules_allowed_by_text text = flat_map rules_allowed_by_token (tokens_with_bytes text (tokens_of_line (line_mode text) text))
