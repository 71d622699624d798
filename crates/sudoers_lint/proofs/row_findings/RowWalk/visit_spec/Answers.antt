use Rattle.std.proofs.Common.{◌≡◌, ℕ, ◌∷◌, ◌+◌, List, sym, ap, ◌∙◌, drop, subst}
use Rattle.std.proofs.lemmas.List.{drop_more}
use Rattle.std.specs.List.{flat_map}
use Rattle.sudoers_line_rows.specs.declared.rows.MemberRow.{MemberRow}
use Rattle.sudoers_compare.specs.declared.flat_specs.FlatHostGroup.{FlatHostGroup}
use Rattle.sudoers_compare.specs.FlatSpecs.{PlacedRow, placed_rows_of_flat_host_group, signed_atoms_in_tables}
use Rattle.sudoers_lint.specs.Walked.{AreFactsOfUsers, AreRowsVisited, AreRowsVisitedBut}
use Rattle.sudoers_lint.proofs.Visits.{more_rows_are_visited}
use Rattle.sudoers_lint.proofs.row_findings.RowWalk.visit_spec.Goals as goal

pub loop-group-preserved : goal.loop-group-preserved
loop-group-preserved c =
    let t = c.args.tables.now in
    let us = signed_atoms_in_tables t c.args.spec.now.users.items in
    let flat : FlatHostGroup → List PlacedRow = placed_rows_of_flat_host_group t c.args.spec.now.line us in
    let groups = c.as_slice-group-items.result.now in
    let number = c.loop-group.group-index in
    let left : drop number groups ≡ c.group-item.result ∷ drop (number + 1) groups =
    drop_more groups number c.group-item.result c.loop-group-test.true ∙ ap (λ (group : FlatHostGroup). group ∷ drop (number + 1) groups) (sym c.group-item.is) in
    let facts = subst (λ (rows : List MemberRow). AreFactsOfUsers c.find_user_facts-facts.result (signed_atoms_in_tables t rows)) c.as_slice.ensures.value c.find_user_facts-facts.ensures.facts in
    more_rows_are_visited c.args.self.now c.loop-group.self c.visit_host_group.new.self (flat_map flat groups) (flat c.group-item.result) (flat_map flat (drop (number + 1) groups))
    (subst (λ (rest : List FlatHostGroup). AreRowsVisitedBut c.args.self.now c.loop-group.self (flat_map flat groups) (flat_map flat rest)) left c.loop-group.invariant)
    (subst (λ (line : ℕ). AreRowsVisited c.loop-group.self c.visit_host_group.new.self (placed_rows_of_flat_host_group t line us c.group-item.result)) c.find_user_facts-facts.ensures.line
    (c.in_ok-visit_host_group.ensures.visited us facts))
