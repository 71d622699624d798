use Rattle.sudoers_tree.proofs.Common.{HasSameLeadAndLineEnds, Some, Tables, WalkLineSpot, line_of_row, lines_of_numbered_file, map, parsed_files_of_view, refl, slice_get, subst, sym, ◌∙◌, ◌≡◌}
use Rattle.sudoers_tree.proofs.TreeLines.{numbered_row_holds_numbered_line}
use Rattle.sudoers_tree.proofs.in_place_update.find_matching_row_at.Goals as goal

pub returns-then-has_same_lead_and_line_ends-clause-stays : goal.returns-then-has_same_lead_and_line_ends-clause-stays
returns-then-has_same_lead_and_line_ends-clause-stays c = λ at old there was.
    let t : Tables = c.args.files.now.tables.now in
    let spot : c.in_ok-at.at ≡ at =
    let both : Some c.in_ok-at.at ≡ Some at = sym c.in_ok-at.was ∙ c.item_at.ensures ∙ there in
    cc in
    let same : line_of_row t c.in_ok-old.old ≡ old =
    numbered_row_holds_numbered_line t c.args.lines.now c.args.number c.in_ok-old.old (map (line_of_row t) c.args.lines.now) old refl (sym c.item_at-2.ensures ∙ c.in_ok-old.was) was in (
      subst (λ (s : WalkLineSpot). slice_get (lines_of_numbered_file (parsed_files_of_view c.args.files.now) s.file) s.line ≡ Some (line_of_row t c.in_ok-new.new.now)) spot (sym c.in_ok-new.ensures.line),
      λ name. subst (λ l. HasSameLeadAndLineEnds name l (line_of_row t c.in_ok-new.new.now)) same (c.has_same_lead_and_line_ends.ensures c.if-has_same_lead_and_line_ends.true name),
    )
