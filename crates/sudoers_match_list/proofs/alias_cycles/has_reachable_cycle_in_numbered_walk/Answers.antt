use Rattle.sudoers_match_list.proofs.Common.{DecidesConditionAndKeepsCaches, Has_at, Line, List, ListHasElement, SomeAliasLeadsToCycle, aliases_in_spec_or_defaults, arith, below_more, false, false≢true, get_or}
use Rattle.sudoers_match_list.proofs.Common.{line_of_row, lines_of_rows, node_of_view, refl, subst, sym, true}
use Rattle.sudoers_match_list.proofs.Places.{mapped_row_is_at_its_index, mapped_list_keeps_length}
use Rattle.sudoers_match_list.proofs.Roots.{is_reachable, reachable_is, property_false_at_all_indices_has_none, property_false_at_index_stays_false}
use Rattle.sudoers_match_list.proofs.alias_cycles.has_reachable_cycle_in_numbered_walk.Goals as goal

pub returns-then-cycle : goal.returns-then-cycle
returns-then-cycle c =
    let lines : List Line = c.args.numbers.now.walk in
    let held = c.lines-lines.result in
    let i = c.loop-row.row-index in
    let line : Line = line_of_row held.tables.now (get_or held.rows.now i _) in
    let at = mapped_row_is_at_its_index (line_of_row held.tables.now) held.rows.now i _ c.loop-row-test.true line refl in
    let told = subst (λ n. DecidesConditionAndKeepsCaches lines (SomeAliasLeadsToCycle lines (aliases_in_spec_or_defaults n)) c.is_cycle_reached_from_spec_or_defaults.new.self true) c.node_of_row-node.ensures
    (subst (DecidesConditionAndKeepsCaches lines (SomeAliasLeadsToCycle lines (aliases_in_spec_or_defaults (node_of_view c.node_of_row-node.result))) c.is_cycle_reached_from_spec_or_defaults.new.self) c.if-cycle.true c.in_ok-cycle.ensures) in
    let stands = subst (λ xs. ListHasElement xs line) c.lines-lines.ensures (Has_at (lines_of_rows held) i line at) in
    (λ _. is_reachable lines line stands told, λ _. refl)

pub loop-row-preserved : goal.loop-row-preserved
loop-row-preserved c =
    let lines : List Line = c.args.numbers.now.walk in
    let held = c.lines-lines.result in
    let i = c.loop-row.row-index in
    let line : Line = line_of_row held.tables.now (get_or held.rows.now i _) in
    let at = mapped_row_is_at_its_index (line_of_row held.tables.now) held.rows.now i _ c.loop-row-test.true line refl in
    let told = subst (λ n. DecidesConditionAndKeepsCaches lines (SomeAliasLeadsToCycle lines (aliases_in_spec_or_defaults n)) c.is_cycle_reached_from_spec_or_defaults.new.self false) c.node_of_row-node.ensures
    (subst (DecidesConditionAndKeepsCaches lines (SomeAliasLeadsToCycle lines (aliases_in_spec_or_defaults (node_of_view c.node_of_row-node.result))) c.is_cycle_reached_from_spec_or_defaults.new.self) c.if-cycle.false c.in_ok-cycle.ensures) in
    record {
      known = told.0;
      none = below_more _ _ c.loop-row.invariant.none (λ x at_x p. property_false_at_index_stays_false (λ (y : Line). SomeAliasLeadsToCycle lines (aliases_in_spec_or_defaults y.node)) (lines_of_rows held) i line x at told.1 at_x p);
    }

pub returns : goal.returns
returns c =
    let lines : List Line = c.args.numbers.now.walk in
    let held = c.lines-lines.result in (
      λ e. absurd (false≢true e),
      λ h. absurd
          (let found = reachable_is lines h in
          property_false_at_all_indices_has_none (λ (y : Line). SomeAliasLeadsToCycle lines (aliases_in_spec_or_defaults y.node)) (lines_of_rows held) c.loop-row.row-index (omega (arith, c.loop-row-test.false, mapped_list_keeps_length (line_of_row held.tables.now) held.rows.now))
          c.loop-row.invariant.none found.0 (subst (λ xs. ListHasElement xs found.0) (sym c.lines-lines.ensures) found.1)
          found.2),
    )
