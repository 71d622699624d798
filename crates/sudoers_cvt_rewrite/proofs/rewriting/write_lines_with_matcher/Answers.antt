use Rattle.sudoers_cvt_rewrite.proofs.Common.{CvtFault, Err, IfErr, IsTooManyMembersOrNoMemoryFault, Node, ap, at_drop_all, changes_of_view, drop, line_node_expanded_if, line_of_row, specs_and_defaults_member_count, textless_lines_with_nodes_mapped}
use Rattle.sudoers_cvt_rewrite.proofs.Common.{node_filtered_if_any, spec_or_defaults_member_count, refl, rules, subst, sym, ◌+◌, ◌∙◌, ◌≡◌}
use Rattle.sudoers_cvt_rewrite.proofs.Extending.{table_extension_is_transitive, table_is_extension_of_itself, table_likeness_is_transitive}
use Rattle.sudoers_match_list.proofs.Appended.{empty_rest_leaves_written_items, pushed_row_takes_next_value}
use Rattle.sudoers_cvt_rewrite.proofs.Straights.{filter_lists_of_acyclic_row_are_acyclic}
use Rattle.sudoers_cvt_rewrite.proofs.Whole.{counted_whole, line_counted, line_next, lines_left, refused_whole}
use Rattle.sudoers_cvt_rewrite.proofs.rewriting.write_lines_with_matcher.Goals as goal

pub select_line_by_optional_filter-requires-clause-straight : goal.select_line_by_optional_filter-requires-clause-straight
select_line_by_optional_filter-requires-clause-straight c =
    let source = c.args.source.now in
    filter_lists_of_acyclic_row_are_acyclic source.lines.tables.now source.lines.rows.now source.policy.now c.loop-row.row-index _ c.loop-row-test.true
    source.same c.is_acyclic.ensures.straight

pub returns-in_err-node-clause-fault : goal.returns-in_err-node-clause-fault
returns-in_err-node-clause-fault c =
    let source = c.args.source.now in
    let base = source.lines.tables.now in
    let rows = source.lines.rows.now in
    let lines = source.policy.now in
    let written = λ (n : Node). line_node_expanded_if source.expand lines (node_filtered_if_any lines (changes_of_view c.args.changes.now).filter c.args.changes.now.prune n) in
    let fault : CvtFault = c.in_err-node.field-0.0 in
    let same : c.from_residual-in_err-node.result ≡ Err fault = search rules in
    let chosen = c.in_ok-choice.ensures.left in
    subst (λ r. IfErr r (IsTooManyMembersOrNoMemoryFault source.expand (specs_and_defaults_member_count (textless_lines_with_nodes_mapped written lines)))) (sym same)
    (refused_whole base written rows source.expand c.loop-row.row-index _ c.loop-row.tally.count lines fault source.same c.loop-row-test.true
    (subst (λ n. IsTooManyMembersOrNoMemoryFault source.expand (c.loop-row.tally.count + spec_or_defaults_member_count (line_node_expanded_if source.expand lines n)) fault) chosen c.in_err-node.ensures.fault) c.loop-row.invariant.counted)

pub loop-row-preserved : goal.loop-row-preserved
loop-row-preserved c =
    let source = c.args.source.now in
    let base = source.lines.tables.now in
    let rows = source.lines.rows.now in
    let lines = source.policy.now in
    let written = λ (n : Node). line_node_expanded_if source.expand lines (node_filtered_if_any lines (changes_of_view c.args.changes.now).filter c.args.changes.now.prune n) in
    let i = c.loop-row.row-index in
    let behind = lines_left base written rows in
    let grown = c.in_ok-node.ensures.extended in
    let so_far = c.loop-row.invariant in
    let chosen = c.in_ok-choice.ensures.left in
    record {
      kept = c.in_ok-choice.ensures.kept;
      like = table_likeness_is_transitive _ _ _ so_far.like grown.like;
      appended = λ u ext. pushed_row_takes_next_value (line_of_row u) c.loop-row.rows.items c.push.new.self.items _ (behind (drop i rows)) (behind (drop (i + 1) rows)) _ c.in_ok-push.ensures.items
          (line_next base written rows u i _ (record { text = record { from = 0; to = 0 }; node = c.in_ok-node.node; bits = 18446744073709551615; lfs = 0 }) c.loop-row-test.true refl
          (c.in_ok-node.ensures.stays u ext ∙ ap (line_node_expanded_if source.expand lines) chosen))
          (so_far.appended u (table_extension_is_transitive _ _ _ grown ext));
      counted = λ is. line_counted base written rows i _ c.loop-row.tally.count _ _ c.loop-row-test.true
          (c.in_ok-node.ensures.counted is ∙ ap (λ n. c.loop-row.tally.count + spec_or_defaults_member_count (line_node_expanded_if source.expand lines n)) chosen) (so_far.counted is);
    }

pub returns-clause-lines : goal.returns-clause-lines
returns-clause-lines c =
    let source = c.args.source.now in
    let base = source.lines.tables.now in
    let rows = source.lines.rows.now in
    let lines = source.policy.now in
    let written = λ (n : Node). line_node_expanded_if source.expand lines (node_filtered_if_any lines (changes_of_view c.args.changes.now).filter c.args.changes.now.prune n) in
    let behind = lines_left base written rows in
    empty_rest_leaves_written_items _ (behind (drop c.loop-row.row-index rows)) _ (at_drop_all behind rows c.loop-row.row-index c.loop-row-test.false)
    (c.loop-row.invariant.appended c.loop-row.tables (table_is_extension_of_itself c.loop-row.tables))
    ∙ ap (textless_lines_with_nodes_mapped written) source.same

pub returns-clause-counted : goal.returns-clause-counted
returns-clause-counted c is =
    let source = c.args.source.now in
    let base = source.lines.tables.now in
    let rows = source.lines.rows.now in
    let lines = source.policy.now in
    let written = λ (n : Node). line_node_expanded_if source.expand lines (node_filtered_if_any lines (changes_of_view c.args.changes.now).filter c.args.changes.now.prune n) in
    let behind = lines_left base written rows in
    counted_whole base written rows c.loop-row.row-index c.loop-row.tally.count _ c.loop-row-test.false
    (empty_rest_leaves_written_items _ (behind (drop c.loop-row.row-index rows)) _ (at_drop_all behind rows c.loop-row.row-index c.loop-row-test.false)
    (c.loop-row.invariant.appended c.loop-row.tables (table_is_extension_of_itself c.loop-row.tables)))
    (c.loop-row.invariant.counted is)
