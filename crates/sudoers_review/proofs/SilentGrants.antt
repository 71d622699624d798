-- Where nothing is printed of what a change may grant, the new rows are the old ones without some that allow, and with some more that deny.
use Rattle.std.proofs.Common.{◌≡◌, ◌⊎◌, inl, inr, ℕ, Bool, true, false, if◌then◌else◌, List, [], ◌∷◌, map, refl, sym, ap, subst, ◌∙◌, true≢false}
use Rattle.std.proofs.lemmas.Bool.{and_parts}
use Rattle.std.specs.List.{AllByRecursion, flat_map}
use Rattle.sudoers_tree.specs.Load.{LoadedPolicy}
use Rattle.laws_compare.specs.Computed.{content_of_lines}
use Rattle.laws_compare.specs.Content.{FlatPrivilegeRow}
use Rattle.laws_compare.specs.Covers.{RowCoversRow}
use Rattle.laws_compare.specs.NoMore.{GrantsNoMore, no_row_is_left, row_stays, allowing_row_is_narrowed, allowing_row_goes, denying_row_comes}
use Rattle.sudoers_compare.specs.FlatSpecs.{PlacedRow, placed_rows_of_policy}
use Rattle.sudoers_line_rows.specs.Alike.{are_lists_alike}
use Rattle.sudoers_compare.specs.Marked.{unmarked_items}
use Rattle.sudoers_compare.specs.SameRow.{is_unchanged_row}
use Rattle.sudoers_compare.specs.declared.same_row.CountedChanges.TheVariants as counted
use Rattle.sudoers_review.specs.ChangedText.{changed_row_lines, line_of_new_row, line_of_old_row, marked_rows, marked_rows_in_front, row_of_placed, rows_behind_first_unmarked, rows_with_marks, IsChangesText}
use Rattle.sudoers_review.proofs.SilentChanges.{item_is_not_nothing, parts_of_nothing_are_nothing, settings_without_text_are_same}

abbrev IsAllowing : PlacedRow → Type 0
IsAllowing placed = placed.row.grant.atom.allow ≡ true

abbrev IsDenying : PlacedRow → Type 0
IsDenying placed = placed.row.grant.atom.allow ≡ false

-- ---- marked rows without a line

no_text_but_if_true : (b : Bool) (first : ℕ) (text : List ℕ) → (if b then [] else (first ∷ text)) ≡ [] → b ≡ true
no_text_but_if_true true first text e = refl
no_text_but_if_true false first text e = absurd (item_is_not_nothing first text e)

no_text_but_if_false : (b : Bool) (first : ℕ) (text : List ℕ) → (if b then (first ∷ text) else []) ≡ [] → b ≡ false
no_text_but_if_false true first text e = absurd (item_is_not_nothing first text e)
no_text_but_if_false false first text e = refl

old_row_without_line_allows : (old : LoadedPolicy) (row : PlacedRow) → line_of_old_row counted.Granting old row ≡ [] → IsAllowing row
old_row_without_line_allows old row e = no_text_but_if_true row.row.grant.atom.allow _ _ e

new_row_without_line_denies : (new : LoadedPolicy) (row : PlacedRow) → line_of_new_row counted.Granting new row ≡ [] → IsDenying row
new_row_without_line_denies new row e = no_text_but_if_false row.row.grant.atom.allow _ _ e

new_rows_without_line_deny : (new : LoadedPolicy) (rows : List PlacedRow) → flat_map (line_of_new_row counted.Granting new) rows ≡ [] → AllByRecursion IsDenying rows
new_rows_without_line_deny new [] e = tt
new_rows_without_line_deny new (row ∷ rows) e =
    let both = parts_of_nothing_are_nothing (line_of_new_row counted.Granting new row) (flat_map (line_of_new_row counted.Granting new) rows) e in
    (new_row_without_line_denies new row both.0, new_rows_without_line_deny new rows both.1)

marked_rows_deny_in_both_parts : (news : List (Bool × PlacedRow)) → AllByRecursion IsDenying (marked_rows_in_front news) → AllByRecursion IsDenying (marked_rows (rows_behind_first_unmarked news))
    → AllByRecursion IsDenying (marked_rows news)
marked_rows_deny_in_both_parts [] front behind = tt
marked_rows_deny_in_both_parts ((true, row) ∷ news) front behind = (front.0, marked_rows_deny_in_both_parts news front.1 behind)
marked_rows_deny_in_both_parts ((false, row) ∷ news) front behind = behind

marked_old_rows_allow : (old new : LoadedPolicy) (olds news : List (Bool × PlacedRow)) → changed_row_lines counted.Granting old new olds news ≡ [] → AllByRecursion IsAllowing (marked_rows olds)
marked_old_rows_allow old new [] news e = tt
marked_old_rows_allow old new ((true, row) ∷ olds) news e =
    let both = parts_of_nothing_are_nothing (line_of_old_row counted.Granting old row) (changed_row_lines counted.Granting old new olds news) e in
    (old_row_without_line_allows old row both.0, marked_old_rows_allow old new olds news both.1)
marked_old_rows_allow old new ((false, row) ∷ olds) news e =
    let both = parts_of_nothing_are_nothing (flat_map (line_of_new_row counted.Granting new) (marked_rows_in_front news)) (changed_row_lines counted.Granting old new olds (rows_behind_first_unmarked news)) e in
    marked_old_rows_allow old new olds (rows_behind_first_unmarked news) both.1

marked_new_rows_deny : (old new : LoadedPolicy) (olds news : List (Bool × PlacedRow)) → changed_row_lines counted.Granting old new olds news ≡ [] → AllByRecursion IsDenying (marked_rows news)
marked_new_rows_deny old new [] news e = new_rows_without_line_deny new (marked_rows news) e
marked_new_rows_deny old new ((true, row) ∷ olds) news e =
    let both = parts_of_nothing_are_nothing (line_of_old_row counted.Granting old row) (changed_row_lines counted.Granting old new olds news) e in
    marked_new_rows_deny old new olds news both.1
marked_new_rows_deny old new ((false, row) ∷ olds) news e =
    let both = parts_of_nothing_are_nothing (flat_map (line_of_new_row counted.Granting new) (marked_rows_in_front news)) (changed_row_lines counted.Granting old new olds (rows_behind_first_unmarked news)) e in
    marked_rows_deny_in_both_parts news (new_rows_without_line_deny new (marked_rows_in_front news) both.0) (marked_new_rows_deny old new olds (rows_behind_first_unmarked news) both.1)

-- ---- marks of which each is on a row that allows and went, or that denies and came

-- what the law of rows says that are unchanged but for what does not count
abbrev pub UnchangedRowIsSameOrCovered : Type 0
UnchangedRowIsSameOrCovered = (old new : FlatPrivilegeRow) → is_unchanged_row counted.Granting old new ≡ true → (old ≡ new) ⊎ ((old.grant.atom.allow ≡ true) × RowCoversRow old new)

-- what is to be shown of the old rows, for all new ones
abbrev GrantNoMoreThan : List FlatPrivilegeRow → List FlatPrivilegeRow → Type 0
GrantNoMoreThan olds left = (came : List Bool) (news : List PlacedRow) → are_lists_alike (is_unchanged_row counted.Granting) left (unmarked_items came (map row_of_placed news)) ≡ true
    → AllByRecursion IsDenying (marked_rows (rows_with_marks came news)) → GrantsNoMore olds (map row_of_placed news)

no_rows_grant_no_more : GrantNoMoreThan [] []
no_rows_grant_no_more came [] e deny = no_row_is_left
no_rows_grant_no_more [] (y ∷ news) e deny = absurd (true≢false (sym e))
no_rows_grant_no_more (true ∷ came) (y ∷ news) e deny = denying_row_comes y.row [] (map row_of_placed news) deny.0 (no_rows_grant_no_more came news e deny.1)
no_rows_grant_no_more (false ∷ came) (y ∷ news) e deny = absurd (true≢false (sym e))

no_mark_leaves_all : (rows : List PlacedRow) → unmarked_items [] (map row_of_placed rows) ≡ map row_of_placed rows
no_mark_leaves_all [] = refl
no_mark_leaves_all (row ∷ rows) = refl

no_row_is_marked_without_marks : (rows : List PlacedRow) → AllByRecursion IsDenying (marked_rows (rows_with_marks [] rows))
no_row_is_marked_without_marks [] = tt
no_row_is_marked_without_marks (row ∷ rows) = no_row_is_marked_without_marks rows

module _ (law : UnchangedRowIsSameOrCovered) where
  unchanged_row_grants_no_more : (x y : FlatPrivilegeRow) (olds news : List FlatPrivilegeRow) → is_unchanged_row counted.Granting x y ≡ true → GrantsNoMore olds news
      → GrantsNoMore (x ∷ olds) (y ∷ news)
  unchanged_row_grants_no_more x y olds news e more = elim (law x y e) [
    | inl same ↦ subst (λ (row : FlatPrivilegeRow). GrantsNoMore (x ∷ olds) (row ∷ news)) same (row_stays x olds news more)
    | inr narrowed ↦ allowing_row_is_narrowed x y olds news narrowed.0 narrowed.1 more
  ]

  rows_behind_unmarked_row : (x : FlatPrivilegeRow) (olds left : List FlatPrivilegeRow) → GrantNoMoreThan olds left → GrantNoMoreThan (x ∷ olds) (x ∷ left)
  rows_behind_unmarked_row x olds left more came [] e deny = absurd (true≢false (sym e))
  rows_behind_unmarked_row x olds left more [] (y ∷ news) e deny =
      let both = and_parts (is_unchanged_row counted.Granting x y.row) (are_lists_alike (is_unchanged_row counted.Granting) left (map row_of_placed news)) e in
      unchanged_row_grants_no_more x y.row olds (map row_of_placed news) both.0
      (more [] news (ap (are_lists_alike (is_unchanged_row counted.Granting) left) (no_mark_leaves_all news) ∙ both.1) (no_row_is_marked_without_marks news))
  rows_behind_unmarked_row x olds left more (true ∷ came) (y ∷ news) e deny =
      denying_row_comes y.row (x ∷ olds) (map row_of_placed news) deny.0 (rows_behind_unmarked_row x olds left more came news e deny.1)
  rows_behind_unmarked_row x olds left more (false ∷ came) (y ∷ news) e deny =
      let both = and_parts (is_unchanged_row counted.Granting x y.row) (are_lists_alike (is_unchanged_row counted.Granting) left (unmarked_items came (map row_of_placed news))) e in
      unchanged_row_grants_no_more x y.row olds (map row_of_placed news) both.0 (more came news both.1 deny)

  rows_grant_no_more : (gone : List Bool) (olds : List PlacedRow) → AllByRecursion IsAllowing (marked_rows (rows_with_marks gone olds))
      → GrantNoMoreThan (map row_of_placed olds) (unmarked_items gone (map row_of_placed olds))
  rows_grant_no_more gone [] allow = no_rows_grant_no_more
  rows_grant_no_more [] (x ∷ olds) allow =
      rows_behind_unmarked_row x.row (map row_of_placed olds) (map row_of_placed olds)
      (subst (GrantNoMoreThan (map row_of_placed olds)) (no_mark_leaves_all olds) (rows_grant_no_more [] olds allow))
  rows_grant_no_more (true ∷ gone) (x ∷ olds) allow = λ came news e deny.
      allowing_row_goes x.row (map row_of_placed olds) (map row_of_placed news) allow.0 (rows_grant_no_more gone olds allow.1 came news e deny)
  rows_grant_no_more (false ∷ gone) (x ∷ olds) allow =
      rows_behind_unmarked_row x.row (map row_of_placed olds) (unmarked_items gone (map row_of_placed olds)) (rows_grant_no_more gone olds allow)

-- ---- both

silent_grant_parts : (old new : LoadedPolicy) (is : IsChangesText counted.Granting old new [])
    → (changed_row_lines counted.Granting old new (rows_with_marks is.gone (placed_rows_of_policy old.walk.lines)) (rows_with_marks is.came (placed_rows_of_policy new.walk.lines)) ≡ []) × (is.settings ≡ [])
silent_grant_parts old new is =
    parts_of_nothing_are_nothing (changed_row_lines counted.Granting old new (rows_with_marks is.gone (placed_rows_of_policy old.walk.lines)) (rows_with_marks is.came (placed_rows_of_policy new.walk.lines))) is.settings (sym is.text_is)

pub silent_grants_have_rows_that_grant_no_more : UnchangedRowIsSameOrCovered → (old new : LoadedPolicy) → IsChangesText counted.Granting old new []
    → GrantsNoMore (map row_of_placed (placed_rows_of_policy old.walk.lines)) (map row_of_placed (placed_rows_of_policy new.walk.lines))
silent_grants_have_rows_that_grant_no_more law old new is =
    let olds : List PlacedRow = placed_rows_of_policy old.walk.lines in
    let news : List PlacedRow = placed_rows_of_policy new.walk.lines in
    let none = (silent_grant_parts old new is).0 in
    rows_grant_no_more law is.gone olds (marked_old_rows_allow old new (rows_with_marks is.gone olds) (rows_with_marks is.came news) none) is.came news is.are_marks.same
    (marked_new_rows_deny old new (rows_with_marks is.gone olds) (rows_with_marks is.came news) none)

pub silent_grants_have_same_settings : (old new : LoadedPolicy) → IsChangesText counted.Granting old new []
    → (content_of_lines old.walk.lines).runas_defaults ≡ (content_of_lines new.walk.lines).runas_defaults
silent_grants_have_same_settings old new is =
    settings_without_text_are_same (content_of_lines old.walk.lines).runas_defaults (content_of_lines new.walk.lines).runas_defaults is.settings is.are_settings (silent_grant_parts old new is).1
