-- A content of a policy is an effect of it: no row is left out.
use Rattle.std.proofs.Common.{◌≡◌, List, [], ◌∷◌, subst}
use Rattle.sudoers_tree.specs.Line.{Line}
use Rattle.sudoers_match_list.specs.Alike.{IsPointwiseRelated}
use Rattle.sudoers_match.specs.Default.{runas_defaults_of_lines}
use Rattle.sudoers_match.specs.Rows.{PrivilegeRow}
use Rattle.laws_compare.specs.Content.{FlatPrivilegeRow, FlatRunasDefault, IsContentOfPolicy, IsFlatRowOf, IsFlatRunasDefaultOf, PolicyContent}
use Rattle.laws_compare.specs.Covers.{AreRowsWithoutSomeOverruled, IsEffectOfPolicy, item_kept, nothing_left}

all_rows_are_kept : (lines : List Line) (rows : List PrivilegeRow) → AreRowsWithoutSomeOverruled lines rows rows
all_rows_are_kept lines [] = nothing_left
all_rows_are_kept lines (row ∷ rows) = item_kept row rows rows (all_rows_are_kept lines rows)

pub content_is_effect : (lines : List Line) (content : PolicyContent) → IsContentOfPolicy lines content → IsEffectOfPolicy lines content
content_is_effect lines content is =
    record { rows = is.rows; are_rows = is.are_rows; deciding = is.rows; are_deciding = all_rows_are_kept lines is.rows; are_flat = is.are_flat; runas_defaults = is.runas_defaults }

pub equal_content_is_effect : (lines : List Line) (content other : PolicyContent) → content.rows ≡ other.rows → content.runas_defaults ≡ other.runas_defaults
    → IsContentOfPolicy lines content → IsEffectOfPolicy lines other
equal_content_is_effect lines content other same_rows same_settings is =
    record {
      rows = is.rows;
      are_rows = is.are_rows;
      deciding = is.rows;
      are_deciding = all_rows_are_kept lines is.rows;
      are_flat = subst (λ (rows : List FlatPrivilegeRow). IsPointwiseRelated (IsFlatRowOf lines) is.rows rows) same_rows is.are_flat;
      runas_defaults = subst (λ (settings : List FlatRunasDefault). IsPointwiseRelated (IsFlatRunasDefaultOf lines) (runas_defaults_of_lines lines) settings) same_settings is.runas_defaults;
    }
