use Rattle.std.proofs.Common.{◌≡◌, List, length, map}
use Rattle.sudoers_grammar.specs.declared.node.Kind.{Kind}
use Rattle.sudoers_line_rows.specs.declared.rows.Tables.{Tables}
use Rattle.sudoers_line_rows.specs.Tables.{member_in_tables}
use Rattle.sudoers_tree.specs.Line.{Line}
use Rattle.sudoers_match_list.specs.Flattened.{list_with_aliases_expanded_once}
use Rattle.sudoers_compare.proofs.counted_lists.has_no_alias.Given as goal

-- All members stay as they are, if those do that are left.
abbrev pub invariant-loop-row : goal.invariant-loop-row
invariant-loop-row l =
    (t : Tables) (k : Kind) (lines : List Line) → list_with_aliases_expanded_once k lines (map (member_in_tables t) l.rest) ≡ map (member_in_tables t) l.rest
    → list_with_aliases_expanded_once k lines (map (member_in_tables t) l.rows) ≡ map (member_in_tables t) l.rows

abbrev pub decreases-loop-row : goal.decreases-loop-row
decreases-loop-row l = length l.rest
