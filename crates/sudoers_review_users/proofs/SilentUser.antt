-- Where nothing is printed of a user, both policies grant him the same.
use Rattle.std.proofs.Common.{◌≡◌, ℕ, zero, suc, ◌+◌, ◌&&◌, Bool, true, false, inl, inr, List, [], ◌∷◌, ◌++◌, codes, map, Option, Some, None, refl, sym, ap, subst, ◌∙◌, true≢false, if◌then◌else◌}
use Rattle.std.specs.Prelude.{slice_get}
use Rattle.std.specs.Option.{is_some}
use Rattle.std.specs.Str.{bytes_eq}
use Rattle.std.proofs.lemmas.Bool.{and_parts}
use Rattle.std.proofs.lemmas.Slice.Eq.{bytes_eq-Decides}
use Rattle.sudoers_tree.specs.Line.{Line}
use Rattle.sudoers_tree.specs.Load.{LoadedPolicy}
use Rattle.sudoers_check.specs.Chain.{ListHasElement}
use Rattle.sudoers_match_member.specs.declared.people_and_commands.Who.{Who}
use Rattle.sudoers_match.proofs.OneAnswer.{FlatListIsUnique}
use Rattle.laws_compare.specs.Computed.{content_of_lines}
use Rattle.laws_compare.specs.Content.{FlatPrivilegeRow, Grant, IsContentOfPolicy}
use Rattle.laws_compare.specs.Covers.{GrantCoversGrant, IsListWithoutSome, nothing_left, item_kept, item_left_out, IsGrantOverruledByLater}
use Rattle.laws_compare.specs.Decided.{is_covering_grant, is_covering_row, is_list_wider}
use Rattle.laws_compare.specs.Effective.{grants_of_rows_for_user_on_host, is_flat_row_for_user_on_host}
use Rattle.laws_compare.specs.Granted.{AreGrantsForUserOnHost}
use Rattle.laws_compare.proofs.ComputedEffects.{rows_for_user_on_host_have_computed_grants}
use Rattle.sudoers_compare.specs.FlatSpecs.{PlacedRow, placed_rows_of_policy, row_at_place}
use Rattle.sudoers_compare.specs.Overruled.{overruling_row_number, overrulings_of_rows}
use Rattle.sudoers_compare.proofs.FoundRows.{nothing_is_no_item, one_item_is_the_other, overruling_row_covers}
use Rattle.sudoers_review.specs.ChangedText.{marked_rows, row_of_placed, rows_with_marks}
use Rattle.sudoers_review.proofs.SilentChanges.{item_is_not_nothing, parts_of_nothing_are_nothing, rows_without_marks_are_left}
use Rattle.sudoers_review_users.specs.UserRows.{deciding_rows_of_user, placed_rows_for_user_on_host, row_without_users_and_hosts, rows_not_overruled}
use Rattle.sudoers_review_users.specs.UserChanges.{default_line, default_lines, AreLinesOfItems, no_line, next_line, IsExampleText, IsUserChangesText, IsUserRowLine}

-- what the law of covering grants says
abbrev pub DecidedGrantCovers : Type 0
DecidedGrantCovers = (wide narrow : Grant) → is_covering_grant wide narrow ≡ true → GrantCoversGrant wide narrow

abbrev pub grant_of_placed : PlacedRow → Grant
grant_of_placed placed = placed.row.grant

-- ---- the rows of a user that may decide are his grants, without some that later ones cover

row_has_grant : (rows : List PlacedRow) (j : ℕ) (later : FlatPrivilegeRow) → slice_get (map row_of_placed rows) j ≡ Some later → ListHasElement (map grant_of_placed rows) later.grant
row_has_grant [] j later stands = absurd (nothing_is_no_item stands)
row_has_grant (x ∷ rows) zero later stands = inl (ap (λ (row : FlatPrivilegeRow). row.grant) (one_item_is_the_other stands))
row_has_grant (x ∷ rows) (suc j) later stands = inr (row_has_grant rows j later stands)

number_is_there : (o : Option ℕ) → is_some o ≡ true → (number : ℕ) × (o ≡ Some number)
number_is_there None e = absurd (true≢false (sym e))
number_is_there (Some number) e = (number, refl)

covering_row_has_covering_grant : (wide narrow : FlatPrivilegeRow) → is_covering_row wide narrow ≡ true → is_covering_grant wide.grant narrow.grant ≡ true
covering_row_has_covering_grant wide narrow e = (and_parts (is_list_wider wide.users narrow.users && is_list_wider wide.hosts narrow.hosts) (is_covering_grant wide.grant narrow.grant) e).1

overruled_row_has_overruled_grant : DecidedGrantCovers → (row : FlatPrivilegeRow) (n : ℕ) (rows : List PlacedRow) → is_some (overruling_row_number row n (map row_of_placed rows)) ≡ true
    → IsGrantOverruledByLater row.grant (map grant_of_placed rows)
overruled_row_has_overruled_grant law row n rows e =
    let number = number_is_there (overruling_row_number row n (map row_of_placed rows)) e in
    let covered = overruling_row_covers row n (map row_of_placed rows) number.0 number.1 in
    let later : FlatPrivilegeRow = covered.2.0 in (
      later.grant,
      row_has_grant rows covered.0 later covered.2.1,
      law later.grant row.grant (covering_row_has_covering_grant later row covered.2.2),
    )

rows_that_may_decide_lack_only_overruled : DecidedGrantCovers → (n : ℕ) (rows : List PlacedRow)
    → IsListWithoutSome IsGrantOverruledByLater (map grant_of_placed rows) (map grant_of_placed (rows_not_overruled rows (overrulings_of_rows n (map row_of_placed rows))))
rows_that_may_decide_lack_only_overruled law n [] = nothing_left
rows_that_may_decide_lack_only_overruled law n (x ∷ rows) =
    by (rows_that_may_decide_lack_only_overruled law (n + 1) rows) (is_some (overruling_row_number x.row (n + 1) (map row_of_placed rows))) refl
  where
    left : List PlacedRow
    left = rows_not_overruled rows (overrulings_of_rows (n + 1) (map row_of_placed rows))

    by : IsListWithoutSome IsGrantOverruledByLater (map grant_of_placed rows) (map grant_of_placed left) → (b : Bool)
        → is_some (overruling_row_number x.row (n + 1) (map row_of_placed rows)) ≡ b
        → IsListWithoutSome IsGrantOverruledByLater (x.row.grant ∷ map grant_of_placed rows) (map grant_of_placed (if b then left else x ∷ left))
    by more true is = item_left_out x.row.grant (map grant_of_placed rows) (map grant_of_placed left) (overruled_row_has_overruled_grant law x.row (n + 1) rows is) more
    by more false is = item_kept x.row.grant (map grant_of_placed rows) (map grant_of_placed left) more

own_rows_have_own_grants : (who : Who) (rows : List PlacedRow) → map grant_of_placed (placed_rows_for_user_on_host who rows) ≡ grants_of_rows_for_user_on_host who (map row_of_placed rows)
own_rows_have_own_grants who [] = refl
own_rows_have_own_grants who (x ∷ rows) = by (own_rows_have_own_grants who rows) (is_flat_row_for_user_on_host who x.row)
  where
    by : map grant_of_placed (placed_rows_for_user_on_host who rows) ≡ grants_of_rows_for_user_on_host who (map row_of_placed rows) → (b : Bool)
        → map grant_of_placed (if b then row_at_place x.line x.start (row_without_users_and_hosts x.row) ∷ placed_rows_for_user_on_host who rows else placed_rows_for_user_on_host who rows)
        ≡ (if b then x.row.grant ∷ grants_of_rows_for_user_on_host who (map row_of_placed rows) else grants_of_rows_for_user_on_host who (map row_of_placed rows))
    by e true = ap (λ (grants : List Grant). x.row.grant ∷ grants) e
    by e false = e

pub deciding_rows_are_grants : FlatListIsUnique → DecidedGrantCovers → (lines : List Line) (who : Who) → IsContentOfPolicy lines (content_of_lines lines)
    → map row_of_placed (placed_rows_of_policy lines) ≡ (content_of_lines lines).rows
    → AreGrantsForUserOnHost lines who (map grant_of_placed (deciding_rows_of_user who (placed_rows_of_policy lines)))
deciding_rows_are_grants law covers lines who content same =
    let found = rows_for_user_on_host_have_computed_grants law lines who content.rows (content_of_lines lines).rows content.are_flat in
    let own : List PlacedRow = placed_rows_for_user_on_host who (placed_rows_of_policy lines) in
    let grants : map grant_of_placed own ≡ grants_of_rows_for_user_on_host who (content_of_lines lines).rows =
    own_rows_have_own_grants who (placed_rows_of_policy lines) ∙ ap (grants_of_rows_for_user_on_host who) same in
    record {
      rows = content.rows;
      are_rows = content.are_rows;
      own = found.0;
      are_own = found.1;
      grants = grants_of_rows_for_user_on_host who (content_of_lines lines).rows;
      are_grants = found.2;
      deciding = subst (λ (all : List Grant). IsListWithoutSome IsGrantOverruledByLater all (map grant_of_placed (deciding_rows_of_user who (placed_rows_of_policy lines)))) grants
          (rows_that_may_decide_lack_only_overruled covers 0 own);
    }

-- ---- a text that is empty

rows_without_lines_are_none : (IsExample : List ℕ → Type 0) (c : ℕ) (cs name : List ℕ) (policy : LoadedPolicy) (rows : List PlacedRow) (text : List ℕ)
    → AreLinesOfItems (IsUserRowLine IsExample (c ∷ cs) name policy) rows text → text ≡ [] → rows ≡ []
rows_without_lines_are_none IsExample c cs name policy rows text no_line e = refl
rows_without_lines_are_none IsExample c cs name policy rows text (next_line x xs line lines is more) e =
    absurd (item_is_not_nothing _ _ (sym is.2 ∙ (parts_of_nothing_are_nothing line lines e).0))

default_without_lines_is_same : (name old_default new_default : List ℕ) → default_lines name old_default new_default ≡ [] → old_default ≡ new_default
default_without_lines_is_same name old_default new_default e = by (bytes_eq old_default new_default) refl e
  where
    by : (b : Bool) → bytes_eq old_default new_default ≡ b
        → (if b then [] else default_line (codes "- ") name old_default ++ default_line (codes "+ ") name new_default) ≡ [] → old_default ≡ new_default
    by true is none = (bytes_eq-Decides old_default new_default).0 is
    by false is none = absurd (item_is_not_nothing _ _ none)

three_parts_of_nothing_are_nothing : (xs ys zs : List ℕ) → xs ++ ys ++ zs ≡ [] → (xs ≡ []) × (ys ≡ []) × (zs ≡ [])
three_parts_of_nothing_are_nothing xs ys zs e =
    let first = parts_of_nothing_are_nothing (xs ++ ys) zs e in
    let rest = parts_of_nothing_are_nothing xs ys first.0 in
    (rest.0, rest.1, first.1)

rows_have_grants : (rows : List PlacedRow) → map (λ (row : FlatPrivilegeRow). row.grant) (map row_of_placed rows) ≡ map grant_of_placed rows
rows_have_grants [] = refl
rows_have_grants (x ∷ rows) = ap (λ (grants : List Grant). x.row.grant ∷ grants) (rows_have_grants rows)

module _ (old new : LoadedPolicy) (now : ℕ) (name : List ℕ) (who : Who) (is : IsUserChangesText old new now name who []) where
  abbrev olds : List PlacedRow
  olds = deciding_rows_of_user who (placed_rows_of_policy old.walk.lines)

  abbrev news : List PlacedRow
  news = deciding_rows_of_user who (placed_rows_of_policy new.walk.lines)

  silent_parts : (default_lines name is.old_default is.new_default ≡ []) × (is.went ≡ []) × (is.brought ≡ [])
  silent_parts = three_parts_of_nothing_are_nothing (default_lines name is.old_default is.new_default) is.went is.brought (sym is.text_is)

  pub silent_user_has_same_default : is.old_default ≡ is.new_default
  silent_user_has_same_default = default_without_lines_is_same name is.old_default is.new_default silent_parts.0

  pub silent_user_has_same_grants : map grant_of_placed olds ≡ map grant_of_placed news
  silent_user_has_same_grants =
      let gone = rows_without_lines_are_none (IsExampleText old new now who is.old_default is.new_default) 45 (32 ∷ []) name old (marked_rows (rows_with_marks is.gone olds)) is.went is.are_old_lines silent_parts.1 in
      let came = rows_without_lines_are_none (IsExampleText old new now who is.old_default is.new_default) 43 (32 ∷ []) name new (marked_rows (rows_with_marks is.came news)) is.brought is.are_new_lines silent_parts.2 in
      let same : map row_of_placed olds ≡ map row_of_placed news =
      sym (rows_without_marks_are_left is.gone olds gone) ∙ is.are_marks.same ∙ rows_without_marks_are_left is.came news came in
      sym (rows_have_grants olds) ∙ ap (map (λ (row : FlatPrivilegeRow). row.grant)) same ∙ rows_have_grants news
