-- The policy whose aliases are replaced by their members (cvtsudoers(1), -e).
use Rattle.std.specs.Prelude.{false, true, List, None}
use Rattle.sudoers_tree.specs.Line.{Line}
use Rattle.sudoers_cvt_rewrite.specs.Rewrite.{rewritten_lines_of_policy}

-- the lines, each with its aliases replaced
abbrev pub lines_with_aliases_replaced : List Line → List Line
lines_with_aliases_replaced lines = rewritten_lines_of_policy (record { filter = None; prune = false; expand = true }) lines
