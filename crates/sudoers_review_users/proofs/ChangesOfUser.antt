-- What is printed of a user, from its parts.
use Rattle.std.proofs.Common.{◌≡◌, ℕ, Bool, List, ◌++◌, codes, map, refl, ap, subst, ◌∙◌, append_assoc}
use Rattle.sudoers_tree.specs.Load.{LoadedPolicy}
use Rattle.sudoers_match_member.specs.declared.people_and_commands.Who.{Who}
use Rattle.sudoers_match.specs.Default.{IsRunasDefault}
use Rattle.sudoers_compare.specs.declared.flat_rows.PlacedFlatRow.{PlacedFlatRow}
use Rattle.sudoers_compare.specs.declared.same_row.CountedChanges.TheVariants as counted
use Rattle.sudoers_compare.specs.FlatSpecs.{PlacedRow, placed_row_of_view, placed_rows_of_policy}
use Rattle.sudoers_review.specs.ChangedText.{marked_rows, rows_with_marks}
use Rattle.sudoers_review.proofs.ChangesTexts.{marks_of_views_are_marks, AreMarksOfViews}
use Rattle.sudoers_review_users.specs.UserChanges.{default_lines, AreLinesOfItems, IsExampleText, IsUserChangesText, IsUserRowLine}
use Rattle.sudoers_review_users.specs.UserRows.{deciding_rows_of_user}

pub changes_of_user_have_their_parts : (old new : LoadedPolicy) (now : ℕ) (name : List ℕ) (who : Who) (olds news : List PlacedFlatRow) (gone came : List Bool) (old_default new_default went brought : List ℕ)
    → IsRunasDefault old.walk.lines who old_default → IsRunasDefault new.walk.lines who new_default
    → map placed_row_of_view olds ≡ deciding_rows_of_user who (placed_rows_of_policy old.walk.lines) → map placed_row_of_view news ≡ deciding_rows_of_user who (placed_rows_of_policy new.walk.lines)
    → AreMarksOfViews counted.All olds news gone came
    → AreLinesOfItems (IsUserRowLine (IsExampleText old new now who old_default new_default) (codes "- ") name old) (marked_rows (rows_with_marks gone (map placed_row_of_view olds))) went
    → AreLinesOfItems (IsUserRowLine (IsExampleText old new now who old_default new_default) (codes "+ ") name new) (marked_rows (rows_with_marks came (map placed_row_of_view news))) brought
    → IsUserChangesText old new now name who (default_lines name old_default new_default ++ went ++ brought)
changes_of_user_have_their_parts old new now name who olds news gone came old_default new_default went brought is_old is_new e e_too are first second = record {
  gone = gone;
  came = came;
  are_marks = marks_of_views_are_marks counted.All olds news (deciding_rows_of_user who (placed_rows_of_policy old.walk.lines)) (deciding_rows_of_user who (placed_rows_of_policy new.walk.lines)) gone came e e_too are;
  old_default = old_default;
  is_old_default = is_old;
  new_default = new_default;
  is_new_default = is_new;
  went = went;
  are_old_lines = subst (λ (rows : List PlacedRow). AreLinesOfItems (IsUserRowLine (IsExampleText old new now who old_default new_default) (codes "- ") name old) (marked_rows (rows_with_marks gone rows)) went) e first;
  brought = brought;
  are_new_lines = subst (λ (rows : List PlacedRow). AreLinesOfItems (IsUserRowLine (IsExampleText old new now who old_default new_default) (codes "+ ") name new) (marked_rows (rows_with_marks came rows)) brought) e_too second;
  text_is = refl;
}

pub three_texts_are_appended : (o a b c first second new : List ℕ) → first ≡ o ++ a → second ≡ first ++ b → new ≡ second ++ c → new ≡ o ++ (a ++ b ++ c)
three_texts_are_appended o a b c first second new e f g =
    g ∙ ap (λ (x : List ℕ). x ++ c) (f ∙ ap (λ (x : List ℕ). x ++ b) e) ∙ ap (λ (x : List ℕ). x ++ c) (append_assoc o a b) ∙ append_assoc o (a ++ b) c
