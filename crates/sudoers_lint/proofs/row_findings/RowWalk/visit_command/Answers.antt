use Rattle.std.proofs.Common.{◌≡◌, ◌∷◌, ◌+◌, [], List, refl, sym, ap, ◌∙◌, drop, subst}
use Rattle.std.proofs.lemmas.List.{drop_more}
use Rattle.sudoers_grammar.specs.Node.{Member}
use Rattle.sudoers_line_rows.specs.declared.rows.MemberRow.{MemberRow}
use Rattle.sudoers_line_rows.specs.View.{member_of_view}
use Rattle.sudoers_match_list.specs.Flat.{signed_atom_of_member}
use Rattle.sudoers_compare.specs.FlatRow.{signed_atoms_of_view}
use Rattle.sudoers_compare.specs.FlatSpecs.{PlacedRow, row_at_place, row_of_flat_command}
use Rattle.sudoers_lint.specs.Walked.{AreRowsVisitedBut}
use Rattle.sudoers_lint.proofs.Visits.{more_rows_are_visited, rows_of_members}
use Rattle.sudoers_lint.proofs.row_findings.RowWalk.visit_command.Goals as goal

pub loop-row-preserved : goal.loop-row-preserved
loop-row-preserved c = λ us facts behind.
    let t = c.args.hosts.tables.now in
    let hosts = signed_atoms_of_view c.args.hosts in
    let command = c.args.command.now in
    let rows : List MemberRow → List PlacedRow = rows_of_members t c.args.users.now.line us hosts command in
    let row : Member → PlacedRow = λ member. row_at_place c.args.users.now.line command.start (row_of_flat_command t us hosts command (signed_atom_of_member member)) in
    let items = c.as_slice-row-items.result.now in
    let n = c.loop-row.row-index in
    let so_far = c.loop-row.invariant us facts behind in
    let member = member_of_view c.member_of_row.result in
    let one = c.in_ok-visit_member.ensures.visited (row member) (c.find_command_facts-facts.ensures us hosts (signed_atom_of_member member) facts) refl refl so_far.1 in
    let left : rows (drop n items) ≡ row member ∷ rows (drop (n + 1) items) =
    ap rows (drop_more items n _ c.loop-row-test.true) ∙ ap (λ (m : Member). row m ∷ rows (drop (n + 1) items)) (sym c.member_of_row.ensures) in (
      more_rows_are_visited c.args.self.now c.loop-row.self c.visit_member.new.self (rows items) (row member ∷ []) (rows (drop (n + 1) items))
          (subst (λ (rest : List PlacedRow). AreRowsVisitedBut c.args.self.now c.loop-row.self (rows items) rest) left so_far.0) one.0,
      one.1,
    )
