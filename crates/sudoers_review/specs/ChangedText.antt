-- What is printed of the rows and settings in which two policies differ.
use Rattle.std.specs.Prelude.{◌≡◌, ℕ, Bool, true, false, if◌then◌else◌, List, [], ◌∷◌, ◌++◌, codes, map, length, Option, Some, None}
use Rattle.std.specs.List.{flat_map, list_any}
use Rattle.sudoers_grammar.specs.declared.node.Kind.{Kind}
use Rattle.sudoers_grammar.specs.declared.node.Operator.TheVariants.{Set}
use Rattle.sudoers_grammar.specs.Node.{Param}
use Rattle.sudoers_tree.specs.Load.{LoadedPolicy}
use Rattle.sudoers_match_list.specs.Flat.{SignedAtom}
use Rattle.sudoers_cvt_spell.specs.Members.{printed_member_list}
use Rattle.sudoers_cvt_spell.specs.Parameters.{defaults_scope_mark, printed_param}
use Rattle.laws_compare.specs.Computed.{content_of_lines}
use Rattle.laws_compare.specs.Content.{FlatPrivilegeRow, FlatRunasDefault}
use Rattle.sudoers_compare.specs.FlatSpecs.{PlacedRow, placed_rows_of_policy}
use Rattle.sudoers_compare.specs.Marked.{unmarked_items, AreUnchangedRows}
use Rattle.sudoers_compare.specs.declared.same_row.CountedChanges.{CountedChanges}
use Rattle.sudoers_compare.specs.declared.same_row.CountedChanges.TheVariants as counted
use Rattle.sudoers_review.specs.declared.change_lines.RuleChange.{RuleChange}
use Rattle.sudoers_review.specs.declared.change_lines.RuleChange.TheVariants as change
use Rattle.sudoers_review.specs.OverruledText.{place_text_of_row}
use Rattle.sudoers_review.specs.RowText.{members_of_signed_atoms, printed_row}

-- ---- rows

-- what stands before a line
abbrev pub sign_of_change : RuleChange → List ℕ
sign_of_change change.Went = codes "- "
sign_of_change change.Came = codes "+ "

-- the line on a row behind this sign: what it says, and where its command stands
abbrev pub changed_row_line : List ℕ → LoadedPolicy → PlacedRow → List ℕ
changed_row_line sign policy placed = sign ++ printed_row placed.row ++ codes "  " ++ place_text_of_row policy placed ++ codes "\n"

-- The line on a row that went. Of the rows that may grant something, a row has one only if it denies.
abbrev pub line_of_old_row : CountedChanges → LoadedPolicy → PlacedRow → List ℕ
line_of_old_row counted.All policy placed = changed_row_line (codes "- ") policy placed
line_of_old_row counted.Granting policy placed = if placed.row.grant.atom.allow then [] else changed_row_line (codes "- ") policy placed

-- The line on a row that came. Of the rows that may grant something, a row has one only if it allows.
abbrev pub line_of_new_row : CountedChanges → LoadedPolicy → PlacedRow → List ℕ
line_of_new_row counted.All policy placed = changed_row_line (codes "+ ") policy placed
line_of_new_row counted.Granting policy placed = if placed.row.grant.atom.allow then changed_row_line (codes "+ ") policy placed else []

-- each row with its mark; a row without one counts as not marked
abbrev pub rows_with_marks : List Bool → List PlacedRow → List (Bool × PlacedRow)
rows_with_marks marks [] = []
rows_with_marks [] (row ∷ rows) = (false, row) ∷ rows_with_marks [] rows
rows_with_marks (mark ∷ marks) (row ∷ rows) = (mark, row) ∷ rows_with_marks marks rows

abbrev pub marked_rows : List (Bool × PlacedRow) → List PlacedRow
marked_rows [] = []
marked_rows ((true, row) ∷ items) = row ∷ marked_rows items
marked_rows ((false, row) ∷ items) = marked_rows items

-- the marked rows before the first that has no mark
abbrev pub marked_rows_in_front : List (Bool × PlacedRow) → List PlacedRow
marked_rows_in_front [] = []
marked_rows_in_front ((true, row) ∷ items) = row ∷ marked_rows_in_front items
marked_rows_in_front ((false, row) ∷ items) = []

-- the rows behind the first that has no mark
abbrev pub rows_behind_first_unmarked : List (Bool × PlacedRow) → List (Bool × PlacedRow)
rows_behind_first_unmarked [] = []
rows_behind_first_unmarked ((true, row) ∷ items) = rows_behind_first_unmarked items
rows_behind_first_unmarked ((false, row) ∷ items) = items

-- The lines on the marked rows of both policies. The rows without a mark are the same in both, so they say which lines belong together:
-- first those that went, then those that came.
abbrev pub changed_row_lines : CountedChanges → LoadedPolicy → LoadedPolicy → List (Bool × PlacedRow) → List (Bool × PlacedRow) → List ℕ
changed_row_lines which old new [] news = flat_map (line_of_new_row which new) (marked_rows news)
changed_row_lines which old new ((true, row) ∷ olds) news = line_of_old_row which old row ++ changed_row_lines which old new olds news
changed_row_lines which old new ((false, row) ∷ olds) news =
    flat_map (line_of_new_row which new) (marked_rows_in_front news) ++ changed_row_lines which old new olds (rows_behind_first_unmarked news)

-- Both lists are marked. What has no mark is the same in both, in the same order, but for what does not count; and equal lists have no mark.
pub record AreChangeMarks (which : CountedChanges) (olds news : List FlatPrivilegeRow) (gone came : List Bool) : Type 0 where
  pub each_old : length gone ≡ length olds
  pub each_new : length came ≡ length news
  pub same : AreUnchangedRows which (unmarked_items gone olds) (unmarked_items came news)
  pub quiet : olds ≡ news → (list_any (λ m. m) gone ≡ false) × (list_any (λ m. m) came ≡ false)

-- ---- settings of runas_default

abbrev pub printed_scope : Option (Kind × List SignedAtom) → List ℕ
printed_scope None = []
printed_scope (Some (kind, members)) = defaults_scope_mark kind ++ printed_member_list false kind (members_of_signed_atoms members)

abbrev pub runas_default_param : List ℕ → Param
runas_default_param name = record { negated = false; name = codes "runas_default"; setting = Some (record { operator = Set; value = name }) }

abbrev pub printed_setting : FlatRunasDefault → List ℕ
printed_setting setting = codes "Defaults" ++ printed_scope setting.scope ++ codes " " ++ printed_param (runas_default_param setting.name)

-- the line on a setting behind this sign, with this place
abbrev pub setting_line : List ℕ → List ℕ → FlatRunasDefault → List ℕ
setting_line sign place setting = sign ++ printed_setting setting ++ codes "  " ++ place ++ codes "\n"

-- the lines on settings behind this sign, each with a place
pub data AreSettingLines (sign : List ℕ) : List FlatRunasDefault → List ℕ → Type 0 where
  no_setting_line : AreSettingLines sign [] []
  next_setting_line : (setting : FlatRunasDefault) (settings : List FlatRunasDefault) (place lines : List ℕ) → AreSettingLines sign settings lines
      → AreSettingLines sign (setting ∷ settings) (sign ++ printed_setting setting ++ codes "  " ++ place ++ codes "\n" ++ lines)

-- The text on the settings of both: none where they are the same, else a line for each.
pub data IsSettingsText (olds news : List FlatRunasDefault) : List ℕ → Type 0 where
  same_settings : olds ≡ news → IsSettingsText olds news []
  other_settings : (gone came : List ℕ) → (olds ≡ news → ⊥) → AreSettingLines (codes "- ") olds gone → AreSettingLines (codes "+ ") news came → IsSettingsText olds news (gone ++ came)

-- ---- both

abbrev pub row_of_placed : PlacedRow → FlatPrivilegeRow
row_of_placed placed = placed.row

-- What is printed of two policies: of their rows those that are marked and count, and their settings of runas_default.
pub record IsChangesText (which : CountedChanges) (old new : LoadedPolicy) (text : List ℕ) : Type 0 where
  pub gone : List Bool
  pub came : List Bool
  pub are_marks : AreChangeMarks which (map row_of_placed (placed_rows_of_policy old.walk.lines)) (map row_of_placed (placed_rows_of_policy new.walk.lines)) gone came
  pub settings : List ℕ
  pub are_settings : IsSettingsText (content_of_lines old.walk.lines).runas_defaults (content_of_lines new.walk.lines).runas_defaults settings
  pub text_is : text ≡ changed_row_lines which old new (rows_with_marks gone (placed_rows_of_policy old.walk.lines)) (rows_with_marks came (placed_rows_of_policy new.walk.lines))
      ++ settings
