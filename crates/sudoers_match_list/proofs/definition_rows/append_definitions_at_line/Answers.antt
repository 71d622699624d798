use Rattle.sudoers_match_list.proofs.Common.{OnOk, Some, ap, append-nil, kind_and_members_of_row, kinds_and_members_in_line, length, line_of_row, ltb-true, map, option_map, refl, rules, slice_get, slice_get-map}
use Rattle.sudoers_match_list.proofs.Common.{slice_get_past, slice_get_read, subst, sym, ◌++◌, ◌∙◌, ◌≡◌, ◌≤◌}
use Rattle.sudoers_match_list.proofs.definition_rows.append_definitions_at_line.Goals as goal

pub returns-in-Some : goal.returns-in-Some
returns-in-Some c =
    let t = c.args.lines.now.tables.now in
    let rows = c.args.lines.now.rows.now in
    let row = c.in-Some.row.now in
    let look = c.in-Some.ensures.lookup in
    let at : slice_get rows c.args.line ≡ Some row = slice_get_read rows (length rows) c.args.line row refl (ltb-true c.args.line (length rows) (sym look.0)) look.1 in
    subst (λ more. OnOk c.append_definitions_of_line.result (map (kind_and_members_of_row t) c.append_definitions_of_line.new.out.items ≡ map (kind_and_members_of_row t) c.args.out.now.items ++ more))
    (sym (ap kinds_and_members_in_line (slice_get-map (line_of_row t) rows c.args.line ∙ ap (option_map (line_of_row t)) at))) c.append_definitions_of_line.ensures

pub returns-in-None : goal.returns-in-None
returns-in-None c =
    let t = c.args.lines.now.tables.now in
    let rows = c.args.lines.now.rows.now in
    let past : length rows ≤ c.args.line = search rules in
    sym (ap (λ more. map (kind_and_members_of_row t) c.args.out.now.items ++ more)
    (ap kinds_and_members_in_line (slice_get-map (line_of_row t) rows c.args.line ∙ ap (option_map (line_of_row t)) (slice_get_past rows c.args.line past)))
    ∙ append-nil (map (kind_and_members_of_row t) c.args.out.now.items))
