-- With its aliases replaced, a policy answers the same.
use Rattle.laws_program.proofs.Common.{◌≡◌, ◌↔◌, ℕ, List, Option, refl, subst, Atom, Line, AreWalkLinesWithoutNul, HasCyclicAliasReachedFromSpecOrDefaults, Who, IsPointwiseRelated, HostGroupPlace, Request}
use Rattle.laws_program.proofs.Common.{KeepsAtomMatches, AreAllRunasDefaultsAlike, AreTwoRowsAlikeButSpecNumbers, AreAnswersSameButNumbers, Answer, IsAnswerOfRows, RowFitsRequest, answer_of_fitting_row, IsAnswerToRequest, runas_defaults_of_lines}
use Rattle.laws_program.proofs.Common.{IsRunasDefault, ArePlacesOfMatchingHostGroups, IsLastItemWith, PrivilegeRow, AreRowsPerFlatAtomOfPolicy, user_specs_of_lines, pointwise_relation_is_reversed, last_alike, equivalence_is_reversed, some_rows, FlatListIsUnique}
use Rattle.laws_program.proofs.Common.{rows_one, lines_with_aliases_replaced}
use Rattle.std.specs.Option.{option_map}
use Rattle.sudoers_match_list.specs.Alike.{unchanged_atom}
use Rattle.sudoers_match.proofs.Alike.{unchanged_atoms_keep_atom_matches}
use Rattle.laws_program.proofs.PrintedAnswers.{AlikeSettingsGiveSameRunasDefault, AlikeSpecsHaveSameHostGroups}
use Rattle.laws_program.proofs.Flattened.{LawsOfFlatLists, KeepsUndefinedAliases, expansion_keeps_undefined_aliases}
use Rattle.laws_program.proofs.Rows.{AreRowsAlikeAfterExpansion}
use Rattle.laws_program.proofs.Settings.{settings_alike}
use Rattle.laws_program.proofs.Specs.{rows_alike, specs_alike}

-- what the laws of answers say
abbrev pub AlikeRowsFitSameRequests : Type 0
AlikeRowsFitSameRequests = (write : Atom → Atom) (lines others : List Line) → KeepsAtomMatches write → AreAllRunasDefaultsAlike write lines others
    → (q : Request) (row other : PrivilegeRow) → AreTwoRowsAlikeButSpecNumbers write lines others row other → RowFitsRequest lines q row ↔ RowFitsRequest others q other

abbrev pub AnswerToRequestIsUnique : Type 0
AnswerToRequestIsUnique = (lines : List Line) (q : Request) (answer other : Option Answer) → IsAnswerToRequest lines q answer → IsAnswerToRequest lines q other → answer ≡ other

abbrev pub AlikeRowsHaveAlikeAnswers : Type 0
AlikeRowsHaveAlikeAnswers = (write : Atom → Atom) (lines others : List Line) → KeepsAtomMatches write → AreAllRunasDefaultsAlike write lines others
    → (q : Request) (rows others_rows : List PrivilegeRow) (answer : Option Answer) → IsPointwiseRelated (AreTwoRowsAlikeButSpecNumbers write lines others) rows others_rows
    → IsAnswerOfRows lines q rows answer → (other : Option Answer) × IsAnswerOfRows others q others_rows other × AreAnswersSameButNumbers answer other

-- The other policy has the user specifications and the settings of the policy with its aliases replaced, and defines no more aliases.
pub record IsLikeExpandedPolicy (lines others : List Line) : Type 0 where
  pub keep : KeepsUndefinedAliases lines others
  pub specs : user_specs_of_lines others ≡ user_specs_of_lines (lines_with_aliases_replaced lines)
  pub settings : runas_defaults_of_lines others ≡ runas_defaults_of_lines (lines_with_aliases_replaced lines)

pub expanded_lines_are_like_expanded_policy : (lines : List Line) → IsLikeExpandedPolicy lines (lines_with_aliases_replaced lines)
expanded_lines_are_like_expanded_policy lines = record { keep = expansion_keeps_undefined_aliases lines; specs = refl; settings = refl }

module _ (laws : LawsOfFlatLists) (lines others : List Line) (policy : AreWalkLinesWithoutNul lines) (straight : HasCyclicAliasReachedFromSpecOrDefaults lines → ⊥) (like : IsLikeExpandedPolicy lines others) where
  pub settings_there : AreAllRunasDefaultsAlike unchanged_atom lines others
  settings_there = settings_alike laws lines others policy like.keep straight like.settings

  pub rows_there : (rows : List PrivilegeRow) → AreRowsPerFlatAtomOfPolicy lines rows → (likes : List PrivilegeRow) × AreRowsPerFlatAtomOfPolicy others likes × IsPointwiseRelated (AreRowsAlikeAfterExpansion lines others) rows likes
  rows_there = rows_alike lines straight laws others policy like.keep like.specs

  pub same_default : AlikeSettingsGiveSameRunasDefault → (who : Who) (name : List ℕ) → IsRunasDefault lines who name ↔ IsRunasDefault others who name
  same_default defaults who name = defaults unchanged_atom lines others unchanged_atoms_keep_atom_matches settings_there who name

  pub same_groups : AlikeSpecsHaveSameHostGroups → (who : Who) (places : List HostGroupPlace) → ArePlacesOfMatchingHostGroups lines who places ↔ ArePlacesOfMatchingHostGroups others who places
  same_groups groups who places = groups unchanged_atom lines others unchanged_atoms_keep_atom_matches (specs_alike lines straight laws others policy like.keep like.specs) who places

  module _ (answers : AlikeRowsHaveAlikeAnswers) (q : Request) where
    pub there : (answer : Option Answer) → IsAnswerToRequest lines q answer → (other : Option Answer) × IsAnswerToRequest others q other × AreAnswersSameButNumbers answer other
    there answer a =
        let new = rows_there a.rows a.are_rows in
        let said = answers unchanged_atom lines others unchanged_atoms_keep_atom_matches settings_there q a.rows new.0 answer new.2 a.answers in
        (said.0, record { rows = new.0; are_rows = new.1; answers = said.1 }, said.2)

    module _ (fits : AlikeRowsFitSameRequests) (one_flat : FlatListIsUnique) (one : AnswerToRequestIsUnique) where
      -- the row that gives the answer, in the policy that was read
      pub last_back : (rows likes : List PrivilegeRow) → IsPointwiseRelated (AreRowsAlikeAfterExpansion lines others) rows likes → (last : Option PrivilegeRow) → IsLastItemWith (RowFitsRequest others q) likes last
          → (was : Option PrivilegeRow) × IsLastItemWith (RowFitsRequest lines q) rows was
      last_back rows likes all last is =
          let found = last_alike (λ s r. AreRowsAlikeAfterExpansion lines others r s) (RowFitsRequest others q) (RowFitsRequest lines q)
          (λ s r same. equivalence_is_reversed (fits unchanged_atom lines others unchanged_atoms_keep_atom_matches settings_there q r s same))
          likes rows last (pointwise_relation_is_reversed (AreRowsAlikeAfterExpansion lines others) rows likes all) is in
          (found.0, found.1)

      pub back : (other : Option Answer) → IsAnswerToRequest others q other → (answer : Option Answer) × IsAnswerToRequest lines q answer × AreAnswersSameButNumbers answer other
      back other b =
          let old = some_rows laws.some lines straight in
          let new = rows_there old.0 old.1 in
          let same = rows_one one_flat others b.rows new.0 b.are_rows new.1 in
          let last = last_back old.0 new.0 new.2 b.answers.last (subst (λ rows. IsLastItemWith (RowFitsRequest others q) rows b.answers.last) same b.answers.is_last) in
          let is : IsAnswerToRequest lines q (option_map answer_of_fitting_row last.0) =
          record { rows = old.0; are_rows = old.1; answers = record { last = last.0; is_last = last.1; says = refl } } in
          let ahead = there (option_map answer_of_fitting_row last.0) is in
          (option_map answer_of_fitting_row last.0, is, subst (AreAnswersSameButNumbers (option_map answer_of_fitting_row last.0)) (one others q ahead.0 other ahead.1 b) ahead.2)
