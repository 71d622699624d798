use Rattle.sudoers_cvt_rewrite.proofs.Common.{AreTablesAlikeButLists, IfSome, IsTableExtension, IsValidFilterMatcher, LineRow, List, Node, Tables, changes_of_view, drop, line_node_expanded_if, line_of_row}
use Rattle.sudoers_cvt_rewrite.proofs.Common.{specs_and_defaults_member_count, textless_lines_with_nodes_mapped, map, node_filtered_if_any, true, ◌++◌, ◌+◌, ◌≡◌}
use Rattle.sudoers_cvt_rewrite.proofs.rewriting.write_lines_with_matcher.Given as goal

abbrev pub invariant-loop-row : goal.invariant-loop-row
invariant-loop-row l =
    let base = l.source.lines.tables.now in
    let rows = l.source.lines.rows.now in
    let lines = l.source.policy.now in
    let written = λ (n : Node). line_node_expanded_if l.source.expand lines (node_filtered_if_any lines (changes_of_view l.changes).filter l.changes.prune n) in
    let behind = λ (rs : List LineRow). textless_lines_with_nodes_mapped written (map (line_of_row base) rs) in
    record {
      kept : IfSome l.changes.filter (λ filter. IsValidFilterMatcher lines filter.now l.matcher);
      like : AreTablesAlikeButLists base l.tables;
      appended : (u : Tables) → IsTableExtension l.tables u → map (line_of_row u) l.rows.items ++ behind (drop l.row-index rows) ≡ behind rows;
      counted : l.source.expand ≡ true → l.tally.count + specs_and_defaults_member_count (behind (drop l.row-index rows)) ≡ specs_and_defaults_member_count (behind rows);
    }
