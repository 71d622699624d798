-- The text on two policies, from its parts.
use Rattle.std.proofs.Common.{◌≡◌, ℕ, Bool, false, List, ◌++◌, length, map, sym, ap, ap₂, ◌∙◌}
use Rattle.std.proofs.Math.Path.{subst₂}
use Rattle.std.specs.List.{list_any}
use Rattle.std.proofs.lemmas.List.{length-map}
use Rattle.sudoers_tree.specs.Load.{LoadedPolicy}
use Rattle.laws_compare.specs.Computed.{content_of_lines}
use Rattle.sudoers_compare.specs.declared.flat_rows.PlacedFlatRow.{PlacedFlatRow}
use Rattle.sudoers_compare.specs.FlatSpecs.{PlacedRow, placed_row_of_view, placed_rows_of_policy, row_of_placed_view}
use Rattle.sudoers_compare.specs.Marked.{unmarked_items, AreUnchangedRows}
use Rattle.sudoers_compare.specs.declared.same_row.CountedChanges.{CountedChanges}
use Rattle.sudoers_review.specs.ChangedText.{changed_row_lines, row_of_placed, rows_with_marks, AreChangeMarks, IsChangesText, IsSettingsText}
use Rattle.sudoers_review.proofs.OverruledRows.{rows_of_placed_are_rows_of_views}

-- what is found of the marks of two lists that the code holds
pub record AreMarksOfViews (which : CountedChanges) (olds news : List PlacedFlatRow) (gone came : List Bool) : Type 0 where
  pub each_old : length gone ≡ length olds
  pub each_new : length came ≡ length news
  pub same : AreUnchangedRows which (unmarked_items gone (map row_of_placed_view olds)) (unmarked_items came (map row_of_placed_view news))
  pub quiet : map row_of_placed_view olds ≡ map row_of_placed_view news → (list_any (λ m. m) gone ≡ false) × (list_any (λ m. m) came ≡ false)

rows_of_views_are_rows : (held : List PlacedFlatRow) (placed : List PlacedRow) → map placed_row_of_view held ≡ placed → map row_of_placed_view held ≡ map row_of_placed placed
rows_of_views_are_rows held placed e = sym (rows_of_placed_are_rows_of_views held) ∙ ap (map row_of_placed) e

pub marks_of_views_are_marks : (which : CountedChanges) (olds news : List PlacedFlatRow) (placed placed_too : List PlacedRow) (gone came : List Bool) → map placed_row_of_view olds ≡ placed → map placed_row_of_view news ≡ placed_too
    → AreMarksOfViews which olds news gone came → AreChangeMarks which (map row_of_placed placed) (map row_of_placed placed_too) gone came
marks_of_views_are_marks which olds news placed placed_too gone came e e_too are =
    let left : map row_of_placed_view olds ≡ map row_of_placed placed = rows_of_views_are_rows olds placed e in
    let right : map row_of_placed_view news ≡ map row_of_placed placed_too = rows_of_views_are_rows news placed_too e_too in
    record {
      each_old = are.each_old ∙ sym (length-map olds row_of_placed_view) ∙ ap length left;
      each_new = are.each_new ∙ sym (length-map news row_of_placed_view) ∙ ap length right;
      same = subst₂ (AreUnchangedRows which) (ap (unmarked_items gone) left) (ap (unmarked_items came) right) are.same;
      quiet = λ (equal : map row_of_placed placed ≡ map row_of_placed placed_too). are.quiet (left ∙ equal ∙ sym right);
    }

pub changes_text_has_its_parts : (which : CountedChanges) (old new : LoadedPolicy) (olds news : List PlacedFlatRow) (gone came : List Bool) (first text settings : List ℕ)
    → map placed_row_of_view olds ≡ placed_rows_of_policy old.walk.lines → map placed_row_of_view news ≡ placed_rows_of_policy new.walk.lines → AreMarksOfViews which olds news gone came
    → first ≡ changed_row_lines which old new (rows_with_marks gone (map placed_row_of_view olds)) (rows_with_marks came (map placed_row_of_view news))
    → text ≡ first ++ settings → IsSettingsText (content_of_lines old.walk.lines).runas_defaults (content_of_lines new.walk.lines).runas_defaults settings
    → IsChangesText which old new text
changes_text_has_its_parts which old new olds news gone came first text settings e e_too are lines behind is =
    let printed : List PlacedRow → List PlacedRow → List ℕ = λ (placed placed_too : List PlacedRow). changed_row_lines which old new (rows_with_marks gone placed) (rows_with_marks came placed_too) in
    record {
      gone = gone;
      came = came;
      are_marks = marks_of_views_are_marks which olds news (placed_rows_of_policy old.walk.lines) (placed_rows_of_policy new.walk.lines) gone came e e_too are;
      settings = settings;
      are_settings = is;
      text_is = behind ∙ ap (λ (t : List ℕ). t ++ settings) (lines ∙ ap₂ printed e e_too);
    }
