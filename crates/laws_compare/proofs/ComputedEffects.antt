-- The computed effect is an effect of the policy. The computed grants are what it grants a user on a host.
use Rattle.std.proofs.Common.{◌≡◌, inl, inr, Bool, true, false, ◌&&◌, List, [], ◌∷◌, refl, sym, ap, subst, ◌∙◌, true≢false, if◌then◌else◌}
use Rattle.std.proofs.lemmas.Bool.{and_parts}
use Rattle.std.specs.List.{list_any}
use Rattle.sudoers_grammar.specs.declared.node.Kind.TheVariants.{User, Host}
use Rattle.sudoers_tree.specs.Line.{Line}
use Rattle.sudoers_check.specs.Chain.{ListHasElement}
use Rattle.sudoers_match_member.specs.declared.people_and_commands.Who.{Who}
use Rattle.sudoers_match_member.specs.Hits.{is_user_atom_match, is_host_atom_match}
use Rattle.sudoers_match_list.specs.Alike.{IsPointwiseRelated}
use Rattle.sudoers_match_list.specs.declared.verdict.Verdict.{Verdict}
use Rattle.sudoers_match_list.specs.declared.verdict.Verdict.TheVariants.{Allow}
use Rattle.sudoers_match.specs.Rows.{PrivilegeRow}
use Rattle.sudoers_match.proofs.OneAnswer.{FlatListIsUnique}
use Rattle.laws_compare.specs.Content.{Grant, FlatPrivilegeRow, IsGrantOfRow, IsFlatRowOf, IsContentOfPolicy}
use Rattle.laws_compare.specs.Computed.{content_of_lines}
use Rattle.laws_compare.specs.Covers.{IsListWithoutSome, nothing_left, item_kept, item_left_out, AreRowsWithoutSomeOverruled, IsEffectOfPolicy, IsGrantOverruledByLater}
use Rattle.laws_compare.specs.Decided.{is_covering_grant, is_covering_row}
use Rattle.laws_compare.specs.Effective.{list_without_covered_items, effect_of_lines, is_allow_verdict, is_allowed_by_flat_list, is_flat_row_for_user_on_host, grants_of_rows_for_user_on_host, grants_for_user_on_host}
use Rattle.laws_compare.specs.Granted.{IsRowForUserOnHost, AreAllItemsWith, no_item_more, item_with, item_without, AreGrantsForUserOnHost}
use Rattle.laws_compare.proofs.DecidedCovers.{true_disjunction_has_true_side, row_decided_covering_covers, grant_decided_covering_covers}
use Rattle.laws_compare.proofs.FittingRows.{flat_list_has_verdict_of_list, list_has_verdict_of_flat_list}
use Rattle.laws_compare.proofs.ListVerdicts.{verdict_of_flat_list}

list_has_element_that_passes_test : {X : Type 0} (test : X → Bool) (xs : List X) → list_any test xs ≡ true → (x : X) × ListHasElement xs x × (test x ≡ true)
list_has_element_that_passes_test test [] e = absurd (true≢false (sym e))
list_has_element_that_passes_test test (x ∷ xs) e = elim (true_disjunction_has_true_side (test x) (list_any test xs) e) [
  | inl is ↦ (x, inl refl, is)
  | inr more ↦ let found = list_has_element_that_passes_test test xs more in (found.0, inr found.1, found.2)
]

related_list_has_related_element : {X Y : Type 0} (R : X → Y → Type 0) (xs : List X) (ys : List Y) → IsPointwiseRelated R xs ys → (y : Y) → ListHasElement ys y
    → (x : X) × ListHasElement xs x × R x y
related_list_has_related_element R [] [] all y has = absurd has
related_list_has_related_element R [] (z ∷ ys) all y has = absurd all
related_list_has_related_element R (x ∷ xs) [] all y has = absurd all
related_list_has_related_element R (x ∷ xs) (z ∷ ys) all y (inl e) = (x, inl refl, subst (R x) e all.0)
related_list_has_related_element R (x ∷ xs) (z ∷ ys) all y (inr has) = let found = related_list_has_related_element R xs ys all.1 y has in (found.0, inr found.1, found.2)

-- ---- rows

module _ (lines : List Line) where
  abbrev HasRowsWithoutOverruled : List PrivilegeRow → List FlatPrivilegeRow → Type 0
  HasRowsWithoutOverruled rows flats = (deciding : List PrivilegeRow) × AreRowsWithoutSomeOverruled lines rows deciding × IsPointwiseRelated (IsFlatRowOf lines) deciding flats

  rows_without_overruled_have_uncovered_flat_rows : (rows : List PrivilegeRow) (flats : List FlatPrivilegeRow)
      → IsPointwiseRelated (IsFlatRowOf lines) rows flats → HasRowsWithoutOverruled rows (list_without_covered_items is_covering_row flats)
  rows_without_overruled_have_uncovered_flat_rows [] [] all = ([], nothing_left, tt)
  rows_without_overruled_have_uncovered_flat_rows [] (f ∷ flats) all = absurd all
  rows_without_overruled_have_uncovered_flat_rows (r ∷ rows) [] all = absurd all
  rows_without_overruled_have_uncovered_flat_rows (r ∷ rows) (f ∷ flats) all =
      by (rows_without_overruled_have_uncovered_flat_rows rows flats all.1) (list_any (λ (g : FlatPrivilegeRow). is_covering_row g f) flats) refl
    where
      by : HasRowsWithoutOverruled rows (list_without_covered_items is_covering_row flats) → (b : Bool)
          → list_any (λ (g : FlatPrivilegeRow). is_covering_row g f) flats ≡ b
          → HasRowsWithoutOverruled (r ∷ rows) (if b then list_without_covered_items is_covering_row flats else f ∷ list_without_covered_items is_covering_row flats)
      by more true is =
          let found = list_has_element_that_passes_test (λ (g : FlatPrivilegeRow). is_covering_row g f) flats is in
          let later = related_list_has_related_element (IsFlatRowOf lines) rows flats all.1 found.0 found.1 in (
            more.0,
            item_left_out r rows more.0 (record {
              later = later.0;
              stands = later.1;
              wide = found.0;
              is_wide = later.2;
              narrow = f;
              is_narrow = all.0;
              covers = row_decided_covering_covers found.0 f found.2;
            }) more.1,
            more.2,
          )
      by more false is = (r ∷ more.0, item_kept r rows more.0 more.1, (all.0, more.2))

  pub computed_effect_is_effect_of_policy : IsContentOfPolicy lines (content_of_lines lines) → IsEffectOfPolicy lines (effect_of_lines lines)
  computed_effect_is_effect_of_policy is =
      let found = rows_without_overruled_have_uncovered_flat_rows is.rows (content_of_lines lines).rows is.are_flat in
      record { rows = is.rows; are_rows = is.are_rows; deciding = found.0; are_deciding = found.1; are_flat = found.2; runas_defaults = is.runas_defaults }

-- ---- grants

uncovered_grants_lack_only_overruled_grants : (grants : List Grant) → IsListWithoutSome IsGrantOverruledByLater grants (list_without_covered_items is_covering_grant grants)
uncovered_grants_lack_only_overruled_grants [] = nothing_left
uncovered_grants_lack_only_overruled_grants (g ∷ grants) = by (uncovered_grants_lack_only_overruled_grants grants) (list_any (λ (h : Grant). is_covering_grant h g) grants) refl
  where
    by : IsListWithoutSome IsGrantOverruledByLater grants (list_without_covered_items is_covering_grant grants) → (b : Bool)
        → list_any (λ (h : Grant). is_covering_grant h g) grants ≡ b
        → IsListWithoutSome IsGrantOverruledByLater (g ∷ grants) (if b then list_without_covered_items is_covering_grant grants else g ∷ list_without_covered_items is_covering_grant grants)
    by more true is =
        let found = list_has_element_that_passes_test (λ (h : Grant). is_covering_grant h g) grants is in
        item_left_out g grants (list_without_covered_items is_covering_grant grants) (found.0, found.1, grant_decided_covering_covers found.0 g found.2) more
    by more false is = item_kept g grants (list_without_covered_items is_covering_grant grants) more

verdict_decided_allow_is_allow : (v : Verdict) → is_allow_verdict v ≡ true → v ≡ Allow
verdict_decided_allow_is_allow Allow e = refl
verdict_decided_allow_is_allow v e = absurd (true≢false (sym e))

module _ (law : FlatListIsUnique) (lines : List Line) (who : Who) where
  abbrev pub HasOwnRowsWithGrants : List PrivilegeRow → List Grant → Type 0
  HasOwnRowsWithGrants rows grants = (own : List PrivilegeRow) × AreAllItemsWith (IsRowForUserOnHost lines who) rows own × IsPointwiseRelated (IsGrantOfRow lines) own grants

  row_decided_for_user_on_host_is_for_user_on_host : (row : PrivilegeRow) (flat : FlatPrivilegeRow) → IsFlatRowOf lines row flat
      → is_flat_row_for_user_on_host who flat ≡ true → IsRowForUserOnHost lines who row
  row_decided_for_user_on_host_is_for_user_on_host row flat is e =
      let both = and_parts (is_allowed_by_flat_list (is_user_atom_match who.user) flat.users) (is_allowed_by_flat_list (is_host_atom_match who) flat.hosts) e in
      record {
        user = list_has_verdict_of_flat_list law lines User (is_user_atom_match who.user) row.users flat.users Allow is.users
            (verdict_decided_allow_is_allow (verdict_of_flat_list (is_user_atom_match who.user) flat.users) both.0);
        host = list_has_verdict_of_flat_list law lines Host (is_host_atom_match who) row.hosts flat.hosts Allow is.hosts
            (verdict_decided_allow_is_allow (verdict_of_flat_list (is_host_atom_match who) flat.hosts) both.1);
      }

  row_decided_for_others_is_not_for_user_on_host : (row : PrivilegeRow) (flat : FlatPrivilegeRow) → IsFlatRowOf lines row flat
      → is_flat_row_for_user_on_host who flat ≡ false → IsRowForUserOnHost lines who row → ⊥
  row_decided_for_others_is_not_for_user_on_host row flat is e own =
      let user = flat_list_has_verdict_of_list law lines User (is_user_atom_match who.user) row.users flat.users Allow is.users own.user in
      let host = flat_list_has_verdict_of_list law lines Host (is_host_atom_match who) row.hosts flat.hosts Allow is.hosts own.host in
      let both : is_flat_row_for_user_on_host who flat ≡ true =
      ap (λ (v : Verdict). is_allow_verdict v && is_allowed_by_flat_list (is_host_atom_match who) flat.hosts) user ∙ ap is_allow_verdict host in
      true≢false (sym both ∙ e)

  pub rows_for_user_on_host_have_computed_grants : (rows : List PrivilegeRow) (flats : List FlatPrivilegeRow) → IsPointwiseRelated (IsFlatRowOf lines) rows flats
      → HasOwnRowsWithGrants rows (grants_of_rows_for_user_on_host who flats)
  rows_for_user_on_host_have_computed_grants [] [] all = ([], no_item_more, tt)
  rows_for_user_on_host_have_computed_grants [] (f ∷ flats) all = absurd all
  rows_for_user_on_host_have_computed_grants (r ∷ rows) [] all = absurd all
  rows_for_user_on_host_have_computed_grants (r ∷ rows) (f ∷ flats) all = by (rows_for_user_on_host_have_computed_grants rows flats all.1) (is_flat_row_for_user_on_host who f) refl
    where
      by : HasOwnRowsWithGrants rows (grants_of_rows_for_user_on_host who flats) → (b : Bool) → is_flat_row_for_user_on_host who f ≡ b
          → HasOwnRowsWithGrants (r ∷ rows) (if b then f.grant ∷ grants_of_rows_for_user_on_host who flats else grants_of_rows_for_user_on_host who flats)
      by more true is = (r ∷ more.0, item_with r rows more.0 (row_decided_for_user_on_host_is_for_user_on_host r f all.0 is) more.1, (all.0.grant, more.2))
      by more false is = (more.0, item_without r rows more.0 (row_decided_for_others_is_not_for_user_on_host r f all.0 is) more.1, more.2)

  pub computed_grants_are_grants_for_user_on_host : IsContentOfPolicy lines (content_of_lines lines)
      → AreGrantsForUserOnHost lines who (grants_for_user_on_host lines who)
  computed_grants_are_grants_for_user_on_host is =
      let own = rows_for_user_on_host_have_computed_grants is.rows (content_of_lines lines).rows is.are_flat in
      record {
        rows = is.rows;
        are_rows = is.are_rows;
        own = own.0;
        are_own = own.1;
        grants = grants_of_rows_for_user_on_host who (content_of_lines lines).rows;
        are_grants = own.2;
        deciding = uncovered_grants_lack_only_overruled_grants (grants_of_rows_for_user_on_host who (content_of_lines lines).rows);
      }
