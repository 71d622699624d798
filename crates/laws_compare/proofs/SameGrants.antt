-- Policies that grant a user the same on a host answer his requests there the same, if he has the same runas_default.
use Rattle.std.proofs.Common.{◌≡◌, ◌↔◌, ℕ, List, [], ◌∷◌, Option, Some, None, refl, sym, ap, ap₂, subst, ◌∙◌}
use Rattle.std.specs.List.{AllByRecursion}
use Rattle.std.specs.Option.{option_map}
use Rattle.sudoers_tree.specs.Line.{Line}
use Rattle.sudoers_match_member.specs.declared.people_and_commands.Group.{Group}
use Rattle.sudoers_match_member.specs.declared.people_and_commands.Person.{Person}
use Rattle.sudoers_match_member.specs.declared.people_and_commands.Who.{Who}
use Rattle.sudoers_match_member.specs.declared.request.Request.{Request}
use Rattle.sudoers_match_list.specs.Flat.{SignedAtom, is_all_atom}
use Rattle.sudoers_match_list.specs.Alike.{IsPointwiseRelated}
use Rattle.sudoers_match.specs.declared.tags.CommandTags.{CommandTags}
use Rattle.sudoers_match.specs.Alike.{AreAnswersSameButNumbers}
use Rattle.sudoers_match.specs.Answer.{Answer, RowFitsRequest, IsAnswerToRequest, tags_with_setenv_by_all, answer_of_fitting_row}
use Rattle.sudoers_match.specs.Default.{IsRunasDefault}
use Rattle.sudoers_match.specs.Last.{IsLastItemWith}
use Rattle.sudoers_match.specs.Rows.{PrivilegeRow}
use Rattle.sudoers_match.proofs.Alike.{AreOptionsRelated, last_alike, pointwise_relation_is_reversed, equivalence_is_reversed}
use Rattle.sudoers_match.proofs.OneAnswer.{FlatListIsUnique, rows_one}
use Rattle.laws_compare.specs.Content.{FlatRunasSpec, Grant, IsGrantOfRow}
use Rattle.laws_compare.specs.Covers.{IsGrantOverruledByLater}
use Rattle.laws_compare.specs.Granted.{IsRowForUserOnHost, AreGrantsForUserOnHost}
use Rattle.laws_compare.proofs.FittingRows.{FlatRunasSpecAllows, GrantFitsRequest, grant_of_fitting_row_fits, row_of_fitting_grant_fits, covering_grant_fits_request}
use Rattle.laws_compare.proofs.ListsWithoutSome.{no_element_has_property_that_none_has, last_is_last_without_some, last_without_some_is_last, items_with_property_are_list_without_others, all_items_with_property_have_it}

-- what the law of one runas_default says
abbrev RunasDefaultIsUnique : Type 0
RunasDefaultIsUnique = (lines : List Line) (who : Who) (name other : List ℕ) → IsRunasDefault lines who name → IsRunasDefault lines who other → name ≡ other

related_items_keep_property : {X Y : Type 0} (P : X → Type 0) (R : X → Y → Type 0) (xs : List X) (ys : List Y) → AllByRecursion P xs
    → IsPointwiseRelated R xs ys → IsPointwiseRelated (λ x y. P x × R x y) xs ys
related_items_keep_property P R [] [] p r = tt
related_items_keep_property P R [] (y ∷ ys) p r = absurd r
related_items_keep_property P R (x ∷ xs) [] p r = absurd r
related_items_keep_property P R (x ∷ xs) (y ∷ ys) p r = ((p.0, r.0), related_items_keep_property P R xs ys p.1 r.1)

none_has_equivalent_property : {X : Type 0} (P Q : X → Type 0) → ((x : X) → Q x → P x) → (xs : List X) → AllByRecursion (λ x. P x → ⊥) xs
    → AllByRecursion (λ x. Q x → ⊥) xs
none_has_equivalent_property P Q back [] none = tt
none_has_equivalent_property P Q back (x ∷ xs) none = (λ has. none.0 (back x has), none_has_equivalent_property P Q back xs none.1)

pub last_has_equivalent_property : {X : Type 0} (P Q : X → Type 0) → ((x : X) → P x → Q x) → ((x : X) → Q x → P x) → (xs : List X) (a : Option X)
    → IsLastItemWith P xs a → IsLastItemWith Q xs a
last_has_equivalent_property P Q to back xs None l = none_has_equivalent_property P Q back xs l
last_has_equivalent_property P Q to back xs (Some x) l = (l.0, l.1, l.2, to x l.3, none_has_equivalent_property P Q back l.1 l.4)

flat_runas_spec_allows_with_same_default : (IsDefaultName IsOtherName : List ℕ → Type 0) → ((name : List ℕ) → IsDefaultName name → IsOtherName name)
    → (user target : Person) (group : Option Group) (r : Option FlatRunasSpec)
    → FlatRunasSpecAllows IsDefaultName user target group r → FlatRunasSpecAllows IsOtherName user target group r
flat_runas_spec_allows_with_same_default IsDefaultName IsOtherName to user target group None p = (p.0, to p.0 p.1, p.2, p.3)
flat_runas_spec_allows_with_same_default IsDefaultName IsOtherName to user target group (Some r) p = p

pub grant_fits_with_same_default : (IsDefaultName IsOtherName : List ℕ → Type 0) → ((name : List ℕ) → IsDefaultName name → IsOtherName name)
    → (request : Request) (grant : Grant)
    → GrantFitsRequest IsDefaultName request grant → GrantFitsRequest IsOtherName request grant
grant_fits_with_same_default IsDefaultName IsOtherName to request grant fits = record {
  runas = flat_runas_spec_allows_with_same_default IsDefaultName IsOtherName to request.who.user request.target request.target_group grant.runas fits.runas;
  moment = fits.moment;
  command = fits.command;
}

-- The row is for the user and the host, and the grant is what it says beside that.
abbrev IsRowForUserOnHostWithGrant : List Line → Who → PrivilegeRow → Grant → Type 0
IsRowForUserOnHostWithGrant lines who row grant = IsRowForUserOnHost lines who row × IsGrantOfRow lines row grant

module _ (law : FlatListIsUnique) (lines : List Line) (request : Request) where
  abbrev GrantFitsInPolicy : Grant → Type 0
  GrantFitsInPolicy = GrantFitsRequest (IsRunasDefault lines request.who) request

  row_and_its_grant_fit_same_request : (row : PrivilegeRow) (grant : Grant) → IsRowForUserOnHostWithGrant lines request.who row grant
      → RowFitsRequest lines request row ↔ GrantFitsInPolicy grant
  row_and_its_grant_fit_same_request row grant own = (
    λ fits. grant_of_fitting_row_fits law lines request row grant own.1 fits,
    λ fits. row_of_fitting_grant_fits law lines request row grant own.1 own.0.user own.0.host fits,
  )

  row_of_others_is_not_last_that_fits : (row : PrivilegeRow) (behind : List PrivilegeRow) → (IsRowForUserOnHost lines request.who row → ⊥)
      → RowFitsRequest lines request row → AllByRecursion (λ (r : PrivilegeRow). RowFitsRequest lines request r → ⊥) behind → ⊥
  row_of_others_is_not_last_that_fits row behind not fits none = not (record { user = fits.user; host = fits.host })

  overruled_grant_is_not_last_that_fits : (grant : Grant) (behind : List Grant) → IsGrantOverruledByLater grant behind → GrantFitsInPolicy grant
      → AllByRecursion (λ (g : Grant). GrantFitsInPolicy g → ⊥) behind → ⊥
  overruled_grant_is_not_last_that_fits grant behind is fits none =
      no_element_has_property_that_none_has GrantFitsInPolicy behind none is.0 is.1 (covering_grant_fits_request (IsRunasDefault lines request.who) request is.0 grant is.2 fits)

  module _ (granted : List Grant) (is : AreGrantsForUserOnHost lines request.who granted) where
    own_rows_have_grants : IsPointwiseRelated (IsRowForUserOnHostWithGrant lines request.who) is.own is.grants
    own_rows_have_grants =
        related_items_keep_property (IsRowForUserOnHost lines request.who) (IsGrantOfRow lines) is.own is.grants
        (all_items_with_property_have_it (IsRowForUserOnHost lines request.who) is.rows is.own is.are_own) is.are_grants

    last_fitting_row_has_last_fitting_grant : (a : Option PrivilegeRow) → IsLastItemWith (RowFitsRequest lines request) is.rows a
        → (b : Option Grant) × IsLastItemWith GrantFitsInPolicy granted b × AreOptionsRelated (IsRowForUserOnHostWithGrant lines request.who) a b
    last_fitting_row_has_last_fitting_grant a l =
        let own = last_is_last_without_some (RowFitsRequest lines request) (λ row behind. IsRowForUserOnHost lines request.who row → ⊥)
        row_of_others_is_not_last_that_fits is.rows is.own a
        (items_with_property_are_list_without_others (IsRowForUserOnHost lines request.who) is.rows is.own is.are_own) l in
        let found = last_alike (IsRowForUserOnHostWithGrant lines request.who) (RowFitsRequest lines request) GrantFitsInPolicy
        row_and_its_grant_fit_same_request is.own is.grants a own_rows_have_grants own in
        (found.0, last_is_last_without_some GrantFitsInPolicy IsGrantOverruledByLater overruled_grant_is_not_last_that_fits is.grants granted found.0 is.deciding found.1, found.2)

    last_fitting_grant_has_last_fitting_row : (b : Option Grant) → IsLastItemWith GrantFitsInPolicy granted b
        → (a : Option PrivilegeRow) × IsLastItemWith (RowFitsRequest lines request) is.rows a × AreOptionsRelated (λ g r. IsRowForUserOnHostWithGrant lines request.who r g) b a
    last_fitting_grant_has_last_fitting_row b l =
        let grants = last_without_some_is_last GrantFitsInPolicy IsGrantOverruledByLater overruled_grant_is_not_last_that_fits is.grants granted b is.deciding l in
        let found = last_alike (λ g r. IsRowForUserOnHostWithGrant lines request.who r g) GrantFitsInPolicy (RowFitsRequest lines request)
        (λ g r own. equivalence_is_reversed (row_and_its_grant_fit_same_request r g own)) is.grants is.own b
        (pointwise_relation_is_reversed (IsRowForUserOnHostWithGrant lines request.who) is.own is.grants own_rows_have_grants) grants in
        let rows = last_without_some_is_last (RowFitsRequest lines request) (λ row behind. IsRowForUserOnHost lines request.who row → ⊥)
        row_of_others_is_not_last_that_fits is.rows is.own found.0
        (items_with_property_are_list_without_others (IsRowForUserOnHost lines request.who) is.rows is.own is.are_own) found.1 in
        (found.0, rows, found.2)

abbrev tags_with_setenv_by_atom : SignedAtom → CommandTags → CommandTags
tags_with_setenv_by_atom s tags = tags_with_setenv_by_all (is_all_atom s.atom) tags

module _ (lines others : List Line) (who : Who) where
  rows_of_same_grant_give_same_answer : (a : Option PrivilegeRow) (b : Option Grant) (c : Option PrivilegeRow)
      → AreOptionsRelated (IsRowForUserOnHostWithGrant lines who) a b → AreOptionsRelated (λ g r. IsRowForUserOnHostWithGrant others who r g) b c
      → AreAnswersSameButNumbers (option_map answer_of_fitting_row a) (option_map answer_of_fitting_row c)
  rows_of_same_grant_give_same_answer None None None f g = tt
  rows_of_same_grant_give_same_answer None None (Some s) f g = absurd g
  rows_of_same_grant_give_same_answer None (Some x) c f g = absurd f
  rows_of_same_grant_give_same_answer (Some r) None c f g = absurd f
  rows_of_same_grant_give_same_answer (Some r) (Some x) None f g = absurd g
  rows_of_same_grant_give_same_answer (Some r) (Some x) (Some s) f g =
      let atoms : s.atom ≡ r.atom = sym g.1.atom ∙ f.1.atom in (
        ap (λ (y : SignedAtom). y.allow) atoms,
        ap₂ tags_with_setenv_by_atom atoms (sym g.1.tags ∙ f.1.tags),
        sym g.1.options ∙ f.1.options,
      )

pub policies_of_same_grants_answer_same : FlatListIsUnique → RunasDefaultIsUnique → (lines others : List Line) (request : Request) (granted : List Grant)
    → AreGrantsForUserOnHost lines request.who granted → AreGrantsForUserOnHost others request.who granted
    → (name : List ℕ) → IsRunasDefault lines request.who name → IsRunasDefault others request.who name → (answer : Option Answer) → IsAnswerToRequest lines request answer
    → (other : Option Answer) × IsAnswerToRequest others request other × AreAnswersSameButNumbers answer other
policies_of_same_grants_answer_same law one lines others request granted f g name d e answer is =
    let rows = rows_one law lines is.rows f.rows is.are_rows f.are_rows in
    let there = last_fitting_row_has_last_fitting_grant law lines request granted f is.answers.last
    (subst (λ (rs : List PrivilegeRow). IsLastItemWith (RowFitsRequest lines request) rs is.answers.last) rows is.answers.is_last) in
    let moved = last_has_equivalent_property (GrantFitsInPolicy law lines request) (GrantFitsInPolicy law others request)
    (grant_fits_with_same_default (IsRunasDefault lines request.who) (IsRunasDefault others request.who)
    (λ n x. subst (IsRunasDefault others request.who) (one lines request.who name n d x) e) request)
    (grant_fits_with_same_default (IsRunasDefault others request.who) (IsRunasDefault lines request.who)
    (λ n x. subst (IsRunasDefault lines request.who) (one others request.who name n e x) d) request)
    granted there.0 there.1 in
    let back = last_fitting_grant_has_last_fitting_row law others request granted g there.0 moved in (
      option_map answer_of_fitting_row back.0,
      record { rows = g.rows; are_rows = g.are_rows; answers = record { last = back.0; is_last = back.1; says = refl } },
      subst (λ (x : Option Answer). AreAnswersSameButNumbers x (option_map answer_of_fitting_row back.0)) (sym is.answers.says)
          (rows_of_same_grant_give_same_answer lines others request.who is.answers.last there.0 back.0 there.2 back.2),
    )
