use Rattle.std.proofs.Common.{◌≡◌, ◌∷◌, ◌+◌, List, sym, ap, ◌∙◌, drop, subst}
use Rattle.std.proofs.lemmas.List.{drop_more}
use Rattle.std.specs.List.{flat_map}
use Rattle.sudoers_compare.specs.declared.flat_specs.FlatCommand.{FlatCommand}
use Rattle.sudoers_compare.specs.FlatRow.{signed_atoms_of_view}
use Rattle.sudoers_compare.specs.FlatSpecs.{PlacedRow, placed_rows_of_flat_command}
use Rattle.sudoers_lint.specs.Walked.{AreRowsVisitedBut}
use Rattle.sudoers_lint.proofs.Visits.{more_rows_are_visited}
use Rattle.sudoers_lint.proofs.row_findings.RowWalk.visit_host_group.Goals as goal

pub loop-command-preserved : goal.loop-command-preserved
loop-command-preserved c = λ us facts.
    let hosts = signed_atoms_of_view (record { tables = c.args.tables; rows = c.as_slice.result }) in
    let flat : FlatCommand → List PlacedRow = placed_rows_of_flat_command c.args.tables.now c.args.users.now.line us hosts in
    let commands = c.as_slice-command-items.result.now in
    let number = c.loop-command.command-index in
    let left : drop number commands ≡ c.command-item.result ∷ drop (number + 1) commands =
    drop_more commands number c.command-item.result c.loop-command-test.true ∙ ap (λ (command : FlatCommand). command ∷ drop (number + 1) commands) (sym c.command-item.is) in
    let so_far = c.loop-command.invariant us facts in
    let one = c.in_ok-visit_command.ensures.visited us facts so_far.1 in (
      more_rows_are_visited c.args.self.now c.loop-command.self c.visit_command.new.self (flat_map flat commands) (flat c.command-item.result) (flat_map flat (drop (number + 1) commands))
          (subst (λ (rest : List FlatCommand). AreRowsVisitedBut c.args.self.now c.loop-command.self (flat_map flat commands) (flat_map flat rest)) left so_far.0) one.0,
      one.1,
    )
