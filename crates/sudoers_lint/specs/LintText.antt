-- What is printed of what lint finds.
use Rattle.std.specs.Prelude.{ℕ, List, ◌++◌, codes}
use Rattle.std.specs.List.{flat_map}
use Rattle.sudoers_tree.specs.Load.{LoadedPolicy}
use Rattle.sudoers_list.specs.Reason.{place_text_on_walk_line}
use Rattle.sudoers_lint.specs.Findings.{Finding, lint_findings}
use Rattle.sudoers_lint.specs.Rules.{rule_name, words_of_rule}

-- FILE:LINE:COL: warning: RULE: SUBJECT: WORDS
abbrev pub lint_line : LoadedPolicy → Finding → List ℕ
lint_line policy f =
    place_text_on_walk_line policy f.line f.start ++ codes ": warning: " ++ rule_name f.rule ++ codes ": " ++ f.subject
    ++ codes ": " ++ words_of_rule f.rule ++ codes "\n"

-- what is printed of a policy
abbrev pub lint_text : LoadedPolicy → List ℕ
lint_text policy = flat_map (lint_line policy) (lint_findings policy)
