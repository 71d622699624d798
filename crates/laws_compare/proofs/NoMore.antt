-- Where rows grant no more, the last row that fits a request allows it if the last one that fits it among the new rows does.
use Rattle.std.proofs.Common.{◌≡◌, ◌↔◌, ◌⊎◌, inl, inr, ℕ, Bool, true, false, List, [], ◌∷◌, ◌++◌, Option, Some, None, refl, sym, ap, subst, ◌∙◌}
use Rattle.std.specs.List.{AllByRecursion}
use Rattle.std.specs.Option.{option_map}
use Rattle.sudoers_grammar.specs.declared.node.Kind.TheVariants.{User, Host}
use Rattle.sudoers_tree.specs.Line.{Line}
use Rattle.sudoers_match_member.specs.declared.request.Request.{Request}
use Rattle.sudoers_match_member.specs.Hits.{is_user_atom_match, is_host_atom_match}
use Rattle.sudoers_match_list.specs.Alike.{IsPointwiseRelated}
use Rattle.sudoers_match_list.specs.declared.verdict.Verdict.TheVariants.{Allow}
use Rattle.sudoers_match.specs.Answer.{Answer, RowFitsRequest, IsAnswerToRequest, answer_of_fitting_row}
use Rattle.sudoers_match.specs.Default.{IsRunasDefault}
use Rattle.sudoers_match.specs.Last.{IsLastItemWith}
use Rattle.sudoers_match.specs.Rows.{PrivilegeRow}
use Rattle.sudoers_match.proofs.Alike.{AreOptionsRelated, last_alike}
use Rattle.sudoers_match.proofs.OneAnswer.{FlatListIsUnique, rows_one}
use Rattle.laws_compare.specs.Content.{FlatPrivilegeRow, IsFlatRowOf, IsContentOfPolicy, PolicyContent}
use Rattle.laws_compare.specs.Covers.{RowCoversRow}
use Rattle.laws_compare.specs.NoMore.{GrantsNoMore, no_row_is_left, row_stays, allowing_row_is_narrowed, allowing_row_goes, denying_row_comes}
use Rattle.laws_compare.proofs.FittingRows.{GrantFitsRequest, covering_grant_fits_request, grant_of_fitting_row_fits, row_of_fitting_grant_fits, flat_list_has_verdict_of_list, list_has_verdict_of_flat_list}
use Rattle.laws_compare.proofs.ListVerdicts.{verdict_of_flat_list, wider_list_allows}
use Rattle.laws_compare.proofs.ListsWithoutSome.{Not, last_is_behind_first_or_is_first}
use Rattle.laws_compare.proofs.SameGrants.{grant_fits_with_same_default, last_has_equivalent_property}

abbrev row_allows : FlatPrivilegeRow → Bool
row_allows row = row.grant.atom.allow

nothing_is_no_list_with_item : {X : Type 0} (before after : List X) (x : X) → [] ≡ before ++ x ∷ after → ⊥
nothing_is_no_list_with_item [] after x e = absurd cc
nothing_is_no_list_with_item (b ∷ before) after x e = absurd cc

same_row_allows_same : (row other : FlatPrivilegeRow) → Some row ≡ Some other → row_allows row ≡ row_allows other
same_row_allows_same row other e =
    let same : row ≡ other = cc in
    ap row_allows same

none_is_no_row : (row : FlatPrivilegeRow) → None ≡ Some row → ⊥
none_is_no_row row e = absurd cc

true_is_not_false : true ≡ false → ⊥
true_is_not_false e = absurd cc

-- ---- lists of rows

module _ (P : FlatPrivilegeRow → Type 0) (wider : (row other : FlatPrivilegeRow) → RowCoversRow row other → P other → P row) where
  -- the row that is the last with the property, and allows
  abbrev IsAllowing : Option FlatPrivilegeRow → Type 0
  IsAllowing l = (row : FlatPrivilegeRow) × (l ≡ Some row) × (row_allows row ≡ true)

  -- If none of the new rows has the property, the last of the old ones that has it allows.
  last_old_row_allows_if_no_new_row_fits : (olds news : List FlatPrivilegeRow) (row : FlatPrivilegeRow) → GrantsNoMore olds news → AllByRecursion (Not P) news
      → IsLastItemWith P olds (Some row) → row_allows row ≡ true
  last_old_row_allows_if_no_new_row_fits olds news row no_row_is_left none l = absurd (nothing_is_no_list_with_item l.0 l.1 row l.2)
  last_old_row_allows_if_no_new_row_fits olds news row (row_stays x more rest is) none l = elim (last_is_behind_first_or_is_first P x more (Some row) l) [
    | inl s ↦ last_old_row_allows_if_no_new_row_fits more rest row is none.1 s.0
    | inr s ↦ absurd (none.0 s.1)
  ]
  last_old_row_allows_if_no_new_row_fits olds news row (allowing_row_is_narrowed x other more rest x_allows covers is) none l = elim (last_is_behind_first_or_is_first P x more (Some row) l) [
    | inl s ↦ last_old_row_allows_if_no_new_row_fits more rest row is none.1 s.0
    | inr s ↦ same_row_allows_same row x s.0 ∙ x_allows
  ]
  last_old_row_allows_if_no_new_row_fits olds news row (allowing_row_goes x more rest allows is) none l = elim (last_is_behind_first_or_is_first P x more (Some row) l) [
    | inl s ↦ last_old_row_allows_if_no_new_row_fits more rest row is none s.0
    | inr s ↦ same_row_allows_same row x s.0 ∙ allows
  ]
  last_old_row_allows_if_no_new_row_fits olds news row (denying_row_comes x more rest denies is) none l = last_old_row_allows_if_no_new_row_fits more rest row is none.1 l

  -- The old row is the first of the old ones, and no new row behind its place has the property.
  last_old_row_allows_if_first_row_does : (x : FlatPrivilegeRow) (olds news : List FlatPrivilegeRow) (l : Option FlatPrivilegeRow) → GrantsNoMore olds news
      → row_allows x ≡ true → P x → AllByRecursion (Not P) news → IsLastItemWith P (x ∷ olds) l → IsAllowing l
  last_old_row_allows_if_first_row_does x olds news None is allows fits none l = absurd (l.0 fits)
  last_old_row_allows_if_first_row_does x olds news (Some row) is allows fits none l = elim (last_is_behind_first_or_is_first P x olds (Some row) l) [
    | inl s ↦ (row, refl, last_old_row_allows_if_no_new_row_fits olds news row is none s.0)
    | inr s ↦ (row, refl, same_row_allows_same row x s.0 ∙ allows)
  ]

  pub last_old_row_allows : (olds news : List FlatPrivilegeRow) (row : FlatPrivilegeRow) (l : Option FlatPrivilegeRow) → GrantsNoMore olds news
      → IsLastItemWith P news (Some row) → row_allows row ≡ true → IsLastItemWith P olds l → IsAllowing l
  last_old_row_allows olds news row l no_row_is_left new allows old = absurd (nothing_is_no_list_with_item new.0 new.1 row new.2)
  last_old_row_allows olds news row l (row_stays x more rest is) new allows old = elim (last_is_behind_first_or_is_first P x rest (Some row) new) [
    | inl s ↦ elim (last_is_behind_first_or_is_first P x more l old) [
      | inl t ↦ last_old_row_allows more rest row l is s.0 allows t.0
      | inr t ↦ let behind = last_old_row_allows more rest row None is s.0 allows t.2 in absurd (none_is_no_row behind.0 behind.1)
    ]
    | inr s ↦ last_old_row_allows_if_first_row_does x more rest l is (sym (same_row_allows_same row x s.0) ∙ allows) s.1 s.2 old
  ]
  last_old_row_allows olds news row l (allowing_row_is_narrowed x other more rest x_allows covers is) new allows old = elim (last_is_behind_first_or_is_first P other rest (Some row) new) [
    | inl s ↦ elim (last_is_behind_first_or_is_first P x more l old) [
      | inl t ↦ last_old_row_allows more rest row l is s.0 allows t.0
      | inr t ↦ (x, t.0, x_allows)
    ]
    | inr s ↦ last_old_row_allows_if_first_row_does x more rest l is x_allows (wider x other covers s.1) s.2 old
  ]
  last_old_row_allows olds news row l (allowing_row_goes x more rest x_allows is) new allows old = elim (last_is_behind_first_or_is_first P x more l old) [
    | inl t ↦ last_old_row_allows more rest row l is new allows t.0
    | inr t ↦ (x, t.0, x_allows)
  ]
  last_old_row_allows olds news row l (denying_row_comes x more rest denies is) new allows old = elim (last_is_behind_first_or_is_first P x rest (Some row) new) [
    | inl s ↦ last_old_row_allows more rest row l is s.0 allows old
    | inr s ↦ absurd (true_is_not_false (sym allows ∙ same_row_allows_same row x s.0 ∙ denies))
  ]

-- ---- rows of a policy

-- The lists of the row allow the user and the host, and its grant fits the request.
pub record FlatRowFitsRequest (IsDefaultName : List ℕ → Type 0) (request : Request) (row : FlatPrivilegeRow) : Type 0 where
  pub user : verdict_of_flat_list (is_user_atom_match request.who.user) row.users ≡ Allow
  pub host : verdict_of_flat_list (is_host_atom_match request.who) row.hosts ≡ Allow
  pub grant : GrantFitsRequest IsDefaultName request row.grant

covering_flat_row_fits_request : (IsDefaultName : List ℕ → Type 0) (request : Request) (row other : FlatPrivilegeRow) → RowCoversRow row other
    → FlatRowFitsRequest IsDefaultName request other → FlatRowFitsRequest IsDefaultName request row
covering_flat_row_fits_request IsDefaultName request row other covers fits = record {
  user = wider_list_allows (is_user_atom_match request.who.user) refl row.users other.users covers.users fits.user;
  host = wider_list_allows (is_host_atom_match request.who) refl row.hosts other.hosts covers.hosts fits.host;
  grant = covering_grant_fits_request IsDefaultName request row.grant other.grant covers.grant fits.grant;
}

flat_row_fits_with_same_default : (IsDefaultName IsOtherName : List ℕ → Type 0) → ((name : List ℕ) → IsDefaultName name → IsOtherName name)
    → (request : Request) (row : FlatPrivilegeRow) → FlatRowFitsRequest IsDefaultName request row → FlatRowFitsRequest IsOtherName request row
flat_row_fits_with_same_default IsDefaultName IsOtherName to request row fits = record {
  user = fits.user;
  host = fits.host;
  grant = grant_fits_with_same_default IsDefaultName IsOtherName to request row.grant fits.grant;
}

module _ (law : FlatListIsUnique) (lines : List Line) (request : Request) where
  abbrev RowFitsInPolicy : FlatPrivilegeRow → Type 0
  RowFitsInPolicy = FlatRowFitsRequest (IsRunasDefault lines request.who) request

  row_and_its_flat_row_fit_same_request : (row : PrivilegeRow) (flat : FlatPrivilegeRow) → IsFlatRowOf lines row flat → RowFitsRequest lines request row ↔ RowFitsInPolicy flat
  row_and_its_flat_row_fit_same_request row flat is = (
    λ fits. record {
      user = flat_list_has_verdict_of_list law lines User (is_user_atom_match request.who.user) row.users flat.users Allow is.users fits.user;
      host = flat_list_has_verdict_of_list law lines Host (is_host_atom_match request.who) row.hosts flat.hosts Allow is.hosts fits.host;
      grant = grant_of_fitting_row_fits law lines request row flat.grant is.grant fits;
    },
    λ fits. row_of_fitting_grant_fits law lines request row flat.grant is.grant
        (list_has_verdict_of_flat_list law lines User (is_user_atom_match request.who.user) row.users flat.users Allow is.users fits.user)
        (list_has_verdict_of_flat_list law lines Host (is_host_atom_match request.who) row.hosts flat.hosts Allow is.hosts fits.host) fits.grant,
  )

  -- the last flat row that fits, where the last row is this one
  last_fitting_row_has_last_flat_row : (content : PolicyContent) (is : IsContentOfPolicy lines content) (rows : List PrivilegeRow) (l : Option PrivilegeRow) → rows ≡ is.rows
      → IsLastItemWith (RowFitsRequest lines request) rows l → (flat : Option FlatPrivilegeRow) × IsLastItemWith RowFitsInPolicy content.rows flat × AreOptionsRelated (IsFlatRowOf lines) l flat
  last_fitting_row_has_last_flat_row content is rows l same last =
      last_alike (IsFlatRowOf lines) (RowFitsRequest lines request) RowFitsInPolicy row_and_its_flat_row_fit_same_request is.rows content.rows l is.are_flat
      (subst (λ (rs : List PrivilegeRow). IsLastItemWith (RowFitsRequest lines request) rs l) same last)

-- what an answer that allows says of its row
allowing_answer_has_allowing_row : (lines : List Line) (answer : Answer) (l : Option PrivilegeRow) (flat : Option FlatPrivilegeRow) → Some answer ≡ option_map answer_of_fitting_row l
    → answer.allow ≡ true → AreOptionsRelated (IsFlatRowOf lines) l flat → (row : FlatPrivilegeRow) × (flat ≡ Some row) × (row_allows row ≡ true)
allowing_answer_has_allowing_row lines answer None flat says allows related = absurd cc
allowing_answer_has_allowing_row lines answer (Some row) None says allows related = absurd related
allowing_answer_has_allowing_row lines answer (Some row) (Some x) says allows related =
    let same : answer ≡ answer_of_fitting_row row = cc in
    (x, refl, ap (λ s. s.allow) related.grant.atom ∙ sym (ap (λ (a : Answer). a.allow) same) ∙ allows)

allowing_row_gives_allowing_answer : (lines : List Line) (answer : Option Answer) (l : Option PrivilegeRow) (flat : Option FlatPrivilegeRow) (row : FlatPrivilegeRow)
    → answer ≡ option_map answer_of_fitting_row l → AreOptionsRelated (IsFlatRowOf lines) l flat → flat ≡ Some row → row_allows row ≡ true
    → (allowed : Answer) × (answer ≡ Some allowed) × (allowed.allow ≡ true)
allowing_row_gives_allowing_answer lines answer None None row says related e allows = absurd cc
allowing_row_gives_allowing_answer lines answer None (Some x) row says related e allows = absurd related
allowing_row_gives_allowing_answer lines answer (Some r) None row says related e allows = absurd related
allowing_row_gives_allowing_answer lines answer (Some r) (Some x) row says related e allows =
    (answer_of_fitting_row r, says, sym (ap (λ s. s.allow) related.grant.atom) ∙ same_row_allows_same x row e ∙ allows)

pub policy_that_grants_no_more_allows_no_more : FlatListIsUnique → (lines others : List Line) (old new : PolicyContent) → IsContentOfPolicy lines old → IsContentOfPolicy others new
    → GrantsNoMore old.rows new.rows → (request : Request)
    → ((name : List ℕ) → IsRunasDefault lines request.who name ↔ IsRunasDefault others request.who name)
    → (answer : Answer) (other : Option Answer) → IsAnswerToRequest others request (Some answer) → answer.allow ≡ true → IsAnswerToRequest lines request other
    → (allowed : Answer) × (other ≡ Some allowed) × (allowed.allow ≡ true)
policy_that_grants_no_more_allows_no_more law lines others old new f g no_more request defaults answer other is allows is_other =
    let new_last = last_fitting_row_has_last_flat_row law others request new g is.rows is.answers.last (rows_one law others is.rows g.rows is.are_rows g.are_rows) is.answers.is_last in
    let moved = last_has_equivalent_property (RowFitsInPolicy law others request) (RowFitsInPolicy law lines request)
    (flat_row_fits_with_same_default (IsRunasDefault others request.who) (IsRunasDefault lines request.who) (λ n. (defaults n).1) request)
    (flat_row_fits_with_same_default (IsRunasDefault lines request.who) (IsRunasDefault others request.who) (λ n. (defaults n).0) request)
    new.rows new_last.0 new_last.1 in
    let old_last = last_fitting_row_has_last_flat_row law lines request old f is_other.rows is_other.answers.last (rows_one law lines is_other.rows f.rows is_other.are_rows f.are_rows) is_other.answers.is_last in
    let found = allowing_answer_has_allowing_row others answer is.answers.last new_last.0 is.answers.says allows new_last.2 in
    let last_new : IsLastItemWith (RowFitsInPolicy law lines request) new.rows (Some found.0) = subst (IsLastItemWith (RowFitsInPolicy law lines request) new.rows) found.1 moved in
    let stands = last_old_row_allows (RowFitsInPolicy law lines request) (covering_flat_row_fits_request (IsRunasDefault lines request.who) request) old.rows new.rows found.0 old_last.0 no_more last_new found.2 old_last.1 in
    allowing_row_gives_allowing_answer lines other is_other.answers.last old_last.0 stands.0 is_other.answers.says old_last.2 stands.1 stands.2
