-- A user who has none of the rows in which two policies differ has the same rows in both.
use Rattle.std.proofs.Common.{◌≡◌, ℕ, zero, suc, ◌+◌, ◌<◌, ◌≤◌, min, Bool, true, false, ◌&&◌, ◌||◌, List, [], ◌∷◌, ◌++◌, codes, drop, get_or, length, map, refl, sym, ap, ap₂, subst, ◌∙◌, append-nil, true≢false, arith, if◌then◌else◌}
use Rattle.std.proofs.Math.Seq.{drop-nil}
use Rattle.std.proofs.lemmas.List.{drop_more}
use Rattle.std.specs.List.{list_any}
use Rattle.std.specs.Option.{is_some}
use Rattle.sudoers_match_member.specs.declared.people_and_commands.Who.{Who}
use Rattle.sudoers_match.specs.Default.{IsRunasDefault}
use Rattle.laws_compare.specs.Content.{FlatPrivilegeRow}
use Rattle.laws_compare.specs.Effective.{is_flat_row_for_user_on_host}
use Rattle.sudoers_compare.specs.declared.flat_rows.PlacedFlatRow.{PlacedFlatRow}
use Rattle.sudoers_compare.specs.declared.overruled.Overruling.{Overruling}
use Rattle.sudoers_compare.specs.FlatSpecs.{PlacedRow, placed_row_of_view, placed_rows_of_policy, row_at_place, row_of_placed_view}
use Rattle.sudoers_compare.specs.Marked.{unmarked_items}
use Rattle.sudoers_compare.specs.Overruled.{overrulings_of_rows}
use Rattle.sudoers_review.specs.ChangedText.{marked_rows, row_of_placed, rows_with_marks}
use Rattle.sudoers_review_users.specs.declared.changed_rules.ChangedRules.{ChangedRules}
use Rattle.sudoers_review_users.specs.declared.compared_policies.ComparedPolicies.{ComparedPolicies}
use Rattle.sudoers_review_users.specs.Ready.{new_policy, old_policy, AreChangedRules}
use Rattle.sudoers_review_users.specs.Untouched.{has_marked_row_for_user}
use Rattle.sudoers_review_users.specs.UserRows.{deciding_rows_of_user, placed_rows_for_user_on_host, row_without_users_and_hosts, rows_not_overruled, rows_that_may_decide}
use Rattle.sudoers_review_users.specs.UserChanges.{default_lines, AreLinesOfItems, no_line, IsExampleText, IsUserChangesText, IsUserRowLine}

-- ---- the rows for a user, without places

abbrev own_flat_rows : Who → List FlatPrivilegeRow → List FlatPrivilegeRow
own_flat_rows who [] = []
own_flat_rows who (row ∷ rows) = if is_flat_row_for_user_on_host who row then row_without_users_and_hosts row ∷ own_flat_rows who rows else own_flat_rows who rows

own_rows_say : (who : Who) (rows : List PlacedRow) → map row_of_placed (placed_rows_for_user_on_host who rows) ≡ own_flat_rows who (map row_of_placed rows)
own_rows_say who [] = refl
own_rows_say who (x ∷ rows) = by (own_rows_say who rows) (is_flat_row_for_user_on_host who x.row)
  where
    by : map row_of_placed (placed_rows_for_user_on_host who rows) ≡ own_flat_rows who (map row_of_placed rows) → (b : Bool)
        → map row_of_placed (if b then row_at_place x.line x.start (row_without_users_and_hosts x.row) ∷ placed_rows_for_user_on_host who rows else placed_rows_for_user_on_host who rows)
        ≡ (if b then row_without_users_and_hosts x.row ∷ own_flat_rows who (map row_of_placed rows) else own_flat_rows who (map row_of_placed rows))
    by e true = ap (λ (more : List FlatPrivilegeRow). row_without_users_and_hosts x.row ∷ more) e
    by e false = e

neither_side : (a b : Bool) → (a || b) ≡ false → (a ≡ false) × (b ≡ false)
neither_side false b e = (refl, e)
neither_side true b e = absurd (true≢false e)

unmarked_rows_have_own_rows : (who : Who) (marks : List Bool) (rows : List FlatPrivilegeRow) → has_marked_row_for_user who marks rows ≡ false
    → own_flat_rows who (unmarked_items marks rows) ≡ own_flat_rows who rows
unmarked_rows_have_own_rows who marks [] e = refl
unmarked_rows_have_own_rows who [] (row ∷ rows) e = refl
unmarked_rows_have_own_rows who (true ∷ marks) (row ∷ rows) e =
    let none = neither_side (is_flat_row_for_user_on_host who row) (has_marked_row_for_user who marks rows) e in
    unmarked_rows_have_own_rows who marks rows none.1
    ∙ ap (λ (b : Bool). if b then row_without_users_and_hosts row ∷ own_flat_rows who rows else own_flat_rows who rows) (sym none.0)
unmarked_rows_have_own_rows who (false ∷ marks) (row ∷ rows) e =
    ap (λ (more : List FlatPrivilegeRow). if is_flat_row_for_user_on_host who row then row_without_users_and_hosts row ∷ more else more)
    (unmarked_rows_have_own_rows who marks rows e)

-- ---- those that may decide

abbrev uncovered_flat_rows : List FlatPrivilegeRow → List Overruling → List FlatPrivilegeRow
uncovered_flat_rows [] found = []
uncovered_flat_rows (row ∷ rows) [] = []
uncovered_flat_rows (row ∷ rows) (one ∷ found) = if is_some one.by then uncovered_flat_rows rows found else row ∷ uncovered_flat_rows rows found

uncovered_rows_say : (rows : List PlacedRow) (found : List Overruling) → map row_of_placed (rows_not_overruled rows found) ≡ uncovered_flat_rows (map row_of_placed rows) found
uncovered_rows_say [] found = refl
uncovered_rows_say (x ∷ rows) [] = refl
uncovered_rows_say (x ∷ rows) (one ∷ found) = by (uncovered_rows_say rows found) (is_some one.by)
  where
    by : map row_of_placed (rows_not_overruled rows found) ≡ uncovered_flat_rows (map row_of_placed rows) found → (b : Bool)
        → map row_of_placed (if b then rows_not_overruled rows found else x ∷ rows_not_overruled rows found)
        ≡ (if b then uncovered_flat_rows (map row_of_placed rows) found else x.row ∷ uncovered_flat_rows (map row_of_placed rows) found)
    by e true = e
    by e false = ap (λ (more : List FlatPrivilegeRow). x.row ∷ more) e

rows_that_may_decide_say : (rows : List PlacedRow) → map row_of_placed (rows_that_may_decide rows)
    ≡ uncovered_flat_rows (map row_of_placed rows) (overrulings_of_rows 0 (map row_of_placed rows))
rows_that_may_decide_say rows = uncovered_rows_say rows (overrulings_of_rows 0 (map row_of_placed rows))

same_own_rows_decide_same : (who : Who) (olds news : List PlacedRow) → own_flat_rows who (map row_of_placed olds) ≡ own_flat_rows who (map row_of_placed news)
    → map row_of_placed (deciding_rows_of_user who olds) ≡ map row_of_placed (deciding_rows_of_user who news)
same_own_rows_decide_same who olds news e =
    let same : map row_of_placed (placed_rows_for_user_on_host who olds) ≡ map row_of_placed (placed_rows_for_user_on_host who news) =
    own_rows_say who olds ∙ e ∙ sym (own_rows_say who news) in
    rows_that_may_decide_say (placed_rows_for_user_on_host who olds)
    ∙ ap (λ (rows : List FlatPrivilegeRow). uncovered_flat_rows rows (overrulings_of_rows 0 rows)) same
    ∙ sym (rows_that_may_decide_say (placed_rows_for_user_on_host who news))

-- ---- rows of which none has a mark

abbrev no_marks : {X : Type 0} → List X → List Bool
no_marks [] = []
no_marks (x ∷ xs) = false ∷ no_marks xs

no_marks_are_as_many : {X : Type 0} → (xs : List X) → length (no_marks xs) ≡ length xs
no_marks_are_as_many [] = refl
no_marks_are_as_many (x ∷ xs) = ap suc (no_marks_are_as_many xs)

all_items_are_unmarked : {X Y : Type 0} → (f : X → Y) (xs : List X) → unmarked_items (no_marks xs) (map f xs) ≡ map f xs
all_items_are_unmarked f [] = refl
all_items_are_unmarked f (x ∷ xs) = ap (λ (more : List _). f x ∷ more) (all_items_are_unmarked f xs)

no_mark_is_set : {X : Type 0} → (xs : List X) → list_any (λ (m : Bool). m) (no_marks xs) ≡ false
no_mark_is_set [] = refl
no_mark_is_set (x ∷ xs) = no_mark_is_set xs

no_row_has_a_mark : (rows : List PlacedRow) → marked_rows (rows_with_marks (no_marks rows) rows) ≡ []
no_row_has_a_mark [] = refl
no_row_has_a_mark (row ∷ rows) = no_row_has_a_mark rows

length_of_rows : (rows : List PlacedRow) → length (no_marks rows) ≡ length (map row_of_placed rows)
length_of_rows [] = refl
length_of_rows (row ∷ rows) = ap suc (length_of_rows rows)

-- ---- both

pub views_say : (rows : List PlacedFlatRow) → map row_of_placed (map placed_row_of_view rows) ≡ map row_of_placed_view rows
views_say [] = refl
views_say (row ∷ rows) = ap (λ (more : List FlatPrivilegeRow). row_of_placed_view row ∷ more) (views_say rows)

pub found_rows_may_decide : (who : Who) (all : List PlacedRow) (held : List PlacedFlatRow) (found : List Overruling) → map placed_row_of_view held ≡ placed_rows_for_user_on_host who all
    → found ≡ overrulings_of_rows 0 (map row_of_placed_view held) → rows_not_overruled (map placed_row_of_view held) found ≡ deciding_rows_of_user who all
found_rows_may_decide who all held found is found_is =
    ap₂ rows_not_overruled is (found_is ∙ ap (overrulings_of_rows 0) (sym (views_say held) ∙ ap (map row_of_placed) is))

rules_have_own_rows : (who : Who) (marks : List Bool) (held : List PlacedFlatRow) (rows : List PlacedRow) → map placed_row_of_view held ≡ rows
    → has_marked_row_for_user who marks (map row_of_placed_view held) ≡ false
    → own_flat_rows who (unmarked_items marks (map row_of_placed_view held)) ≡ own_flat_rows who (map row_of_placed rows)
rules_have_own_rows who marks held rows is none =
    unmarked_rows_have_own_rows who marks (map row_of_placed_view held) none
    ∙ ap (own_flat_rows who) (sym (views_say held) ∙ ap (map row_of_placed) is)

no_lines_more : (lines went brought : List ℕ) → went ≡ [] → brought ≡ [] → lines ≡ lines ++ went ++ brought
no_lines_more lines went brought e f =
    sym (append-nil lines) ∙ ap (λ (rest : List ℕ). lines ++ rest) (sym e)
    ∙ sym (append-nil (lines ++ went)) ∙ ap (λ (rest : List ℕ). (lines ++ went) ++ rest) (sym f)

pub untouched_user_has_only_default_lines : (compared : ComparedPolicies) (now : ℕ) (name : List ℕ) (who : Who) (rules : ChangedRules) → AreChangedRules compared rules
    → has_marked_row_for_user who rules.marks.gone.items (map row_of_placed_view rules.old_rows.items) ≡ false
    → has_marked_row_for_user who rules.marks.came.items (map row_of_placed_view rules.new_rows.items) ≡ false
    → (old_default new_default : List ℕ) → IsRunasDefault (old_policy compared).walk.lines who old_default → IsRunasDefault (new_policy compared).walk.lines who new_default
    → IsUserChangesText (old_policy compared) (new_policy compared) now name who (default_lines name old_default new_default)
untouched_user_has_only_default_lines compared now name who rules are none none_too old_default new_default is_old is_new =
    let olds : List PlacedRow = deciding_rows_of_user who (placed_rows_of_policy (old_policy compared).walk.lines) in
    let news : List PlacedRow = deciding_rows_of_user who (placed_rows_of_policy (new_policy compared).walk.lines) in
    let same : map row_of_placed olds ≡ map row_of_placed news =
    same_own_rows_decide_same who (placed_rows_of_policy (old_policy compared).walk.lines) (placed_rows_of_policy (new_policy compared).walk.lines)
    (sym (rules_have_own_rows who rules.marks.gone.items rules.old_rows.items (placed_rows_of_policy (old_policy compared).walk.lines) are.old_rows none)
    ∙ ap (own_flat_rows who) are.same
    ∙ rules_have_own_rows who rules.marks.came.items rules.new_rows.items (placed_rows_of_policy (new_policy compared).walk.lines) are.new_rows none_too) in
    record {
      gone = no_marks olds;
      came = no_marks news;
      are_marks = record {
        each_old = length_of_rows olds;
        each_new = length_of_rows news;
        same = all_items_are_unmarked row_of_placed olds ∙ same ∙ sym (all_items_are_unmarked row_of_placed news);
        quiet = λ e. (no_mark_is_set olds, no_mark_is_set news);
      };
      old_default = old_default;
      is_old_default = is_old;
      new_default = new_default;
      is_new_default = is_new;
      went = [];
      are_old_lines = subst (λ (rows : List PlacedRow). AreLinesOfItems (IsUserRowLine (IsExampleText (old_policy compared) (new_policy compared) now who old_default new_default) (codes "- ") name (old_policy compared)) rows []) (sym (no_row_has_a_mark olds)) no_line;
      brought = [];
      are_new_lines = subst (λ (rows : List PlacedRow). AreLinesOfItems (IsUserRowLine (IsExampleText (old_policy compared) (new_policy compared) now who old_default new_default) (codes "+ ") name (new_policy compared)) rows []) (sym (no_row_has_a_mark news)) no_line;
      text_is = no_lines_more (default_lines name old_default new_default) [] [] refl refl;
    }

-- ---- the rows with a mark, one after another

marked_row_counts : (who : Who) (mark : Bool) (marks : List Bool) (row : FlatPrivilegeRow) (rows : List FlatPrivilegeRow)
    → has_marked_row_for_user who (mark ∷ marks) (row ∷ rows) ≡ ((mark && is_flat_row_for_user_on_host who row) || has_marked_row_for_user who marks rows)
marked_row_counts who true marks row rows = refl
marked_row_counts who false marks row rows = refl

module _ {X : Type 0} (who : Who) (f : X → FlatPrivilegeRow) where
  -- If a row is for the user, it is one of those behind.
  abbrev pub IsMarkedRowBehind : List Bool → List X → ℕ → Type 0
  IsMarkedRowBehind marks xs n = has_marked_row_for_user who (drop n marks) (map f (drop n xs)) ≡ has_marked_row_for_user who marks (map f xs)

  marked_row_from_place_on : (marks : List Bool) (xs : List X) (n : ℕ) (m : Bool) (d : X) → n < length xs → n < length marks
      → has_marked_row_for_user who (drop n marks) (map f (drop n xs))
      ≡ ((get_or marks n m && is_flat_row_for_user_on_host who (f (get_or xs n d))) || has_marked_row_for_user who (drop (n + 1) marks) (map f (drop (n + 1) xs)))
  marked_row_from_place_on marks xs n m d within within_too =
      ap₂ (λ (ms : List Bool) (rows : List X). has_marked_row_for_user who ms (map f rows)) (drop_more marks n m within_too) (drop_more xs n d within)
      ∙ marked_row_counts who (get_or marks n m) (drop (n + 1) marks) (f (get_or xs n d)) (map f (drop (n + 1) xs))

  pub marked_row_is_found : (marks : List Bool) (xs : List X) (n : ℕ) (m : Bool) (d : X) → n < length xs → n < length marks
      → (get_or marks n m && is_flat_row_for_user_on_host who (f (get_or xs n d))) ≡ true → IsMarkedRowBehind marks xs n
      → true ≡ has_marked_row_for_user who marks (map f xs)
  marked_row_is_found marks xs n m d within within_too found so_far =
      sym (sym so_far ∙ marked_row_from_place_on marks xs n m d within within_too
      ∙ ap (λ (b : Bool). b || has_marked_row_for_user who (drop (n + 1) marks) (map f (drop (n + 1) xs))) found)

  pub marked_row_is_further : (marks : List Bool) (xs : List X) (n : ℕ) (m : Bool) (d : X) → n < length xs → n < length marks
      → (get_or marks n m && is_flat_row_for_user_on_host who (f (get_or xs n d))) ≡ false → IsMarkedRowBehind marks xs n → IsMarkedRowBehind marks xs (n + 1)
  marked_row_is_further marks xs n m d within within_too none so_far =
      sym (marked_row_from_place_on marks xs n m d within within_too
      ∙ ap (λ (b : Bool). b || has_marked_row_for_user who (drop (n + 1) marks) (map f (drop (n + 1) xs))) none)
      ∙ so_far

  no_row_without_mark : (rows : List FlatPrivilegeRow) → has_marked_row_for_user who [] rows ≡ false
  no_row_without_mark [] = refl
  no_row_without_mark (row ∷ rows) = refl

  no_marked_row_behind_last : (marks : List Bool) (xs : List X) (n : ℕ) → min (length xs) (length marks) ≤ n
      → has_marked_row_for_user who (drop n marks) (map f (drop n xs)) ≡ false
  no_marked_row_behind_last marks [] n end = ap (λ (rows : List X). has_marked_row_for_user who (drop n marks) (map f rows)) (drop-nil n)
  no_marked_row_behind_last [] (x ∷ xs) n end =
      ap (λ (ms : List Bool). has_marked_row_for_user who ms (map f (drop n (x ∷ xs)))) (drop-nil n) ∙ no_row_without_mark (map f (drop n (x ∷ xs)))
  no_marked_row_behind_last (m ∷ marks) (x ∷ xs) zero end = absurd (omega (arith, end))
  no_marked_row_behind_last (m ∷ marks) (x ∷ xs) (suc n) end = no_marked_row_behind_last marks xs n (omega (arith, end))

  pub no_marked_row_is_found : (marks : List Bool) (xs : List X) (n : ℕ) → min (length xs) (length marks) ≤ n → IsMarkedRowBehind marks xs n
      → false ≡ has_marked_row_for_user who marks (map f xs)
  no_marked_row_is_found marks xs n end so_far = sym (no_marked_row_behind_last marks xs n end) ∙ so_far
