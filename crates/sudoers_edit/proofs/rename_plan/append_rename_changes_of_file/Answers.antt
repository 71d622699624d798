use Rattle.sudoers_edit.proofs.Common.{Line, LineChange, LineRow, List, ap, get_or, length, line_of_row, lines_of_numbered_file, name_offsets_in_line, rename_change_in_line, ℕ, ◌++◌, ◌∙◌, ◌≡◌}
use Rattle.sudoers_line_rows.specs.declared.rows.NodeRow.TheVariants as node_row
use Rattle.sudoers_line_rows.specs.declared.rows.Tables.{Tables}
use Rattle.sudoers_edit.proofs.AbsentNames.{rename_change_of_next_line_is_added, line_without_name_adds_no_rename_change}
use Rattle.sudoers_tree.proofs.ListedMembers.{members_of_kind_are_listed_members}
use Rattle.sudoers_edit.proofs.rename_plan.append_rename_changes_of_file.Goals.{then-may_have_alias_with_bits_in_line+in_ok-swap+in_ok-append_optional_change, else-may_have_alias_with_bits_in_line}
use Rattle.sudoers_edit.proofs.rename_plan.append_rename_changes_of_file.Goals as goal

pub loop-at-preserved : goal.loop-at-preserved
loop-at-preserved c =
    let name : List ℕ = c.args.name.now in
    let t : Tables = c.lines_of_file-lines.result.tables.now in
    let rows : List LineRow = c.lines_of_file-lines.result.rows.now in
    let n : ℕ = c.loop-at.at in
    let none : LineRow = record { text = record { from = 0; to = 0 }; node = node_row.Blank; bits = 0; lfs = 0 } in
    let here : Line = line_of_row t (get_or rows n none) in
    let before : List LineChange = c.loop-at.changes.items in
    let adds : c.if-may_have_alias_with_bits_in_line.changes.items ≡ before ++ rename_change_in_line c.args.file n (length name) c.args.fresh.now (name_offsets_in_line c.args.kind name here.node) here.text =
    elim c.if-may_have_alias_with_bits_in_line.branch [
      | then-may_have_alias_with_bits_in_line+in_ok-swap+in_ok-append_optional_change w ↦
          ap (λ changes. changes.items) w.changes-is
          ∙ w.in_ok-append_optional_change.ensures
          ∙ ap (λ swap. before ++ swap)
          (w.in_ok-swap.ensures
          ∙ ap (λ (line : Line). rename_change_in_line c.args.file n (length name) c.args.fresh.now (name_offsets_in_line c.args.kind name line.node) line.text) w.from_line_row-line.ensures)
      | else-may_have_alias_with_bits_in_line w ↦
          ap (λ changes. changes.items) w.changes-is
          ∙ line_without_name_adds_no_rename_change members_of_kind_are_listed_members c.args.file n c.args.kind name c.args.fresh.now t rows none (lines_of_numbered_file c.args.policy.now.files c.args.file) before
          c.loop-at-test.true c.lines_of_file-lines.ensures
          (λ says there. c.may_have_alias_with_bits_in_line.ensures name says c.from_alias_name-bits.ensures w.if-may_have_alias_with_bits_in_line.false there)
    ] in
    rename_change_of_next_line_is_added c.args.file n c.args.kind name c.args.fresh.now t rows none before c.if-may_have_alias_with_bits_in_line.changes.items _ c.loop-at-test.true adds c.loop-at.invariant
