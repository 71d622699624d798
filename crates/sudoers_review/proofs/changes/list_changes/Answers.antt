use Rattle.std.proofs.Common.{◌≡◌, ◌++◌, ℕ, List, length, map, sym, ap, ap₂, subst, ◌∙◌}
use Rattle.std.proofs.Math.Path.{subst₂}
use Rattle.laws_compare.specs.Computed.{content_of_lines}
use Rattle.laws_compare.specs.Content.{FlatRunasDefault}
use Rattle.sudoers_compare.specs.declared.flat_rows.PlacedFlatRow.{PlacedFlatRow}
use Rattle.sudoers_compare.specs.FlatDefaults.{flat_runas_default_in_tables}
use Rattle.sudoers_compare.specs.FlatSpecs.{placed_row_of_view, row_of_placed_view}
use Rattle.sudoers_compare.specs.Marked.{unmarked_items, AreUnchangedRows}
use Rattle.sudoers_review.specs.ChangedText.{changed_row_lines, rows_with_marks, IsSettingsText}
use Rattle.sudoers_review.proofs.ChangesTexts.{changes_text_has_its_parts, AreMarksOfViews}
use Rattle.sudoers_review.proofs.changes.list_changes.Goals as goal

pub returns-clause-text : goal.returns-clause-text
returns-clause-text c =
    let old = c.args.old.now in
    let new = c.args.new.now in
    let olds = c.in_ok-old_rows.old_rows.items in
    let news = c.in_ok-new_rows.new_rows.items in
    let gone = c.in_ok-marks.marks.gone.items in
    let came = c.in_ok-marks.marks.came.items in
    let marks = c.in_ok-marks.ensures in
    let value = c.as_slice-2.ensures.value in
    let value_too = c.as_slice-4.ensures.value in
    let are : AreMarksOfViews c.args.counted olds news gone came = record {
      each_old = marks.each.0 ∙ ap length value;
      each_new = marks.each.1 ∙ ap length value_too;
      same = subst₂ (AreUnchangedRows c.args.counted) (ap (λ (held : List PlacedFlatRow). unmarked_items gone (map row_of_placed_view held)) value)
          (ap (λ (held : List PlacedFlatRow). unmarked_items came (map row_of_placed_view held)) value_too) marks.same;
      quiet = λ equal. marks.silent (ap (map row_of_placed_view) value ∙ equal ∙ sym (ap (map row_of_placed_view) value_too));
    } in
    let lines : List PlacedFlatRow → List PlacedFlatRow → List ℕ = λ (held other : List PlacedFlatRow). changed_row_lines c.args.counted old new
    (rows_with_marks gone (map placed_row_of_view held)) (rows_with_marks came (map placed_row_of_view other)) in
    let first : c.append_rows_with_marks.new.out.text.items ≡ lines olds news =
    c.in_ok-append_rows_with_marks.ensures.lines ∙ ap₂ (λ (o text : List ℕ). o ++ text) c.new-answers.ensures (ap₂ lines c.as_slice-5.ensures.value c.as_slice-6.ensures.value) in
    let settings = c.in_ok-append_changed_settings.ensures.text in
    let is : IsSettingsText (content_of_lines old.walk.lines).runas_defaults (content_of_lines new.walk.lines).runas_defaults settings.0 =
    subst (λ (list : List FlatRunasDefault). IsSettingsText (content_of_lines old.walk.lines).runas_defaults list settings.0) c.in_ok-new_flat.ensures.settings
    (subst (λ (list : List FlatRunasDefault). IsSettingsText list (map (flat_runas_default_in_tables c.in_ok-new_flat.new_flat.tables.now) c.in_ok-new_flat.new_flat.settings.items) settings.0) c.in_ok-old_flat.ensures.settings settings.2) in
    changes_text_has_its_parts c.args.counted old new olds news gone came c.append_rows_with_marks.new.out.text.items c.append_changed_settings.new.out.text.items settings.0
    (c.in_ok-old_rows.ensures ∙ c.in_ok-old_flat.ensures.rows) (c.in_ok-new_rows.ensures ∙ c.in_ok-new_flat.ensures.rows) are first settings.1 is
