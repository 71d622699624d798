-- Where nothing is printed of two policies, they have the same rows and the same settings.
use Rattle.std.proofs.Common.{◌≡◌, ℕ, Bool, true, false, List, [], ◌∷◌, ◌++◌, codes, map, refl, sym, ap, ◌∙◌}
use Rattle.std.specs.List.{flat_map}
use Rattle.sudoers_tree.specs.Load.{LoadedPolicy}
use Rattle.laws_compare.specs.Computed.{content_of_lines}
use Rattle.laws_compare.specs.Content.{FlatPrivilegeRow, FlatRunasDefault}
use Rattle.sudoers_compare.specs.FlatSpecs.{PlacedRow, placed_rows_of_policy}
use Rattle.sudoers_compare.specs.Marked.{unmarked_items}
use Rattle.sudoers_compare.specs.declared.same_row.CountedChanges.TheVariants as counted
use Rattle.sudoers_review.specs.ChangedText.{changed_row_lines, line_of_new_row, marked_rows, marked_rows_in_front, printed_setting, row_of_placed, rows_behind_first_unmarked, rows_with_marks, AreSettingLines, no_setting_line, next_setting_line, IsChangesText, IsSettingsText, same_settings, other_settings}

pub parts_of_nothing_are_nothing : {X : Type 0} → (xs ys : List X) → xs ++ ys ≡ [] → (xs ≡ []) × (ys ≡ [])
parts_of_nothing_are_nothing [] ys e = (refl, e)
parts_of_nothing_are_nothing (x ∷ xs) ys e = absurd cc

pub item_is_not_nothing : {X : Type 0} → (x : X) (xs : List X) → x ∷ xs ≡ [] → ⊥
item_is_not_nothing x xs e = absurd cc

-- ---- rows

rows_without_line_are_none : (new : LoadedPolicy) (rows : List PlacedRow) → flat_map (line_of_new_row counted.All new) rows ≡ [] → rows ≡ []
rows_without_line_are_none new [] e = refl
rows_without_line_are_none new (row ∷ rows) e = absurd (item_is_not_nothing _ _ e)

no_marked_row_in_either_part : (news : List (Bool × PlacedRow)) → marked_rows_in_front news ≡ [] → marked_rows (rows_behind_first_unmarked news) ≡ [] → marked_rows news ≡ []
no_marked_row_in_either_part [] front behind = refl
no_marked_row_in_either_part ((true, row) ∷ news) front behind = absurd (item_is_not_nothing _ _ front)
no_marked_row_in_either_part ((false, row) ∷ news) front behind = behind

old_rows_without_line_are_unmarked : (old new : LoadedPolicy) (olds news : List (Bool × PlacedRow)) → changed_row_lines counted.All old new olds news ≡ [] → marked_rows olds ≡ []
old_rows_without_line_are_unmarked old new [] news e = refl
old_rows_without_line_are_unmarked old new ((true, row) ∷ olds) news e = absurd (item_is_not_nothing _ _ e)
old_rows_without_line_are_unmarked old new ((false, row) ∷ olds) news e =
    let both = parts_of_nothing_are_nothing (flat_map (line_of_new_row counted.All new) (marked_rows_in_front news)) (changed_row_lines counted.All old new olds (rows_behind_first_unmarked news)) e in
    old_rows_without_line_are_unmarked old new olds (rows_behind_first_unmarked news) both.1

new_rows_without_line_are_unmarked : (old new : LoadedPolicy) (olds news : List (Bool × PlacedRow)) → changed_row_lines counted.All old new olds news ≡ [] → marked_rows news ≡ []
new_rows_without_line_are_unmarked old new [] news e = rows_without_line_are_none new (marked_rows news) e
new_rows_without_line_are_unmarked old new ((true, row) ∷ olds) news e = absurd (item_is_not_nothing _ _ e)
new_rows_without_line_are_unmarked old new ((false, row) ∷ olds) news e =
    let both = parts_of_nothing_are_nothing (flat_map (line_of_new_row counted.All new) (marked_rows_in_front news)) (changed_row_lines counted.All old new olds (rows_behind_first_unmarked news)) e in
    no_marked_row_in_either_part news (rows_without_line_are_none new (marked_rows_in_front news) both.0)
    (new_rows_without_line_are_unmarked old new olds (rows_behind_first_unmarked news) both.1)

pub rows_without_marks_are_left : (marks : List Bool) (rows : List PlacedRow) → marked_rows (rows_with_marks marks rows) ≡ [] → unmarked_items marks (map row_of_placed rows) ≡ map row_of_placed rows
rows_without_marks_are_left marks [] e = refl
rows_without_marks_are_left [] (row ∷ rows) e = refl
rows_without_marks_are_left (true ∷ marks) (row ∷ rows) e = absurd (item_is_not_nothing _ _ e)
rows_without_marks_are_left (false ∷ marks) (row ∷ rows) e = ap (λ (left : List FlatPrivilegeRow). row.row ∷ left) (rows_without_marks_are_left marks rows e)

-- ---- settings

settings_without_line_are_none : (sign : List ℕ) (settings : List FlatRunasDefault) (lines : List ℕ) → AreSettingLines sign settings lines → lines ≡ [] → settings ≡ []
settings_without_line_are_none sign settings lines no_setting_line e = refl
settings_without_line_are_none sign settings lines (next_setting_line first rest place behind are) e =
    let ended = parts_of_nothing_are_nothing (sign ++ printed_setting first ++ codes "  " ++ place ++ codes "\n") behind e in
    absurd (item_is_not_nothing _ _ (parts_of_nothing_are_nothing (sign ++ printed_setting first ++ codes "  " ++ place) (codes "\n") ended.0).1)

pub settings_without_text_are_same : (olds news : List FlatRunasDefault) (text : List ℕ) → IsSettingsText olds news text → text ≡ [] → olds ≡ news
settings_without_text_are_same olds news text (same_settings same) e = same
settings_without_text_are_same olds news text (other_settings gone came differ left right) e =
    let both = parts_of_nothing_are_nothing gone came e in
    settings_without_line_are_none (codes "- ") olds gone left both.0 ∙ sym (settings_without_line_are_none (codes "+ ") news came right both.1)

-- ---- both

silent_parts : (old new : LoadedPolicy) (is : IsChangesText counted.All old new [])
    → (changed_row_lines counted.All old new (rows_with_marks is.gone (placed_rows_of_policy old.walk.lines)) (rows_with_marks is.came (placed_rows_of_policy new.walk.lines)) ≡ []) × (is.settings ≡ [])
silent_parts old new is =
    parts_of_nothing_are_nothing (changed_row_lines counted.All old new (rows_with_marks is.gone (placed_rows_of_policy old.walk.lines)) (rows_with_marks is.came (placed_rows_of_policy new.walk.lines))) is.settings (sym is.text_is)

pub silent_changes_have_same_rows : (old new : LoadedPolicy) → IsChangesText counted.All old new [] → map row_of_placed (placed_rows_of_policy old.walk.lines) ≡ map row_of_placed (placed_rows_of_policy new.walk.lines)
silent_changes_have_same_rows old new is =
    let olds : List PlacedRow = placed_rows_of_policy old.walk.lines in
    let news : List PlacedRow = placed_rows_of_policy new.walk.lines in
    let none = (silent_parts old new is).0 in
    sym (rows_without_marks_are_left is.gone olds (old_rows_without_line_are_unmarked old new (rows_with_marks is.gone olds) (rows_with_marks is.came news) none))
    ∙ is.are_marks.same
    ∙ rows_without_marks_are_left is.came news (new_rows_without_line_are_unmarked old new (rows_with_marks is.gone olds) (rows_with_marks is.came news) none)

pub silent_changes_have_same_settings : (old new : LoadedPolicy) → IsChangesText counted.All old new [] → (content_of_lines old.walk.lines).runas_defaults ≡ (content_of_lines new.walk.lines).runas_defaults
silent_changes_have_same_settings old new is =
    settings_without_text_are_same (content_of_lines old.walk.lines).runas_defaults (content_of_lines new.walk.lines).runas_defaults is.settings is.are_settings (silent_parts old new is).1
