use Rattle.std.proofs.Common.{◌++◌, ◌+◌, ◌∙◌, ◌∷◌, [], List, append_assoc, ap, drop, map, sym}
use Rattle.std.specs.List.{flat_map}
use Rattle.std.proofs.lemmas.List.{drop_more}
use Rattle.sudoers_compare.specs.declared.flat_specs.FlatCommand.{FlatCommand}
use Rattle.sudoers_compare.specs.FlatSpecs.{PlacedRow, placed_row_of_view, placed_rows_of_flat_command}
use Rattle.sudoers_review_users.proofs.user_rows.append_own_rows_of_host_group.Goals as goal

pub loop-command-preserved : goal.loop-command-preserved
loop-command-preserved c =
    let flat : FlatCommand → List PlacedRow = placed_rows_of_flat_command c.args.tables.now c.args.line [] [] in
    let commands = c.as_slice-command-items.result.now in
    let number = c.loop-command.command-index in
    let so_far = map placed_row_of_view c.loop-command.out.items in
    let rest = flat_map flat (drop (number + 1) commands) in
    ap (λ (rows : List PlacedRow). rows ++ rest) c.in_ok-append_rows_of_command.ensures
    ∙ append_assoc so_far (flat c.command-item.result) rest
    ∙ ap (λ (left : List FlatCommand). so_far ++ flat_map flat left) (sym (drop_more commands number c.command-item.result c.loop-command-test.true ∙ ap (λ (command : FlatCommand). command ∷ drop (number + 1) commands) (sym c.command-item.is)))
    ∙ c.loop-command.invariant
