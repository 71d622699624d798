-- Answers by two tests.
use Rattle.std.proofs.Common.{◌≡◌, ◌⊎◌, ◌↔◌, inl, inr, ℕ, List, [], ◌∷◌, Option, Some, None, sym, ap, subst, ◌∙◌}
use Rattle.std.specs.Option.{option_map}
use Rattle.sudoers_grammar.specs.declared.node.Kind.{Kind}
use Rattle.sudoers_grammar.specs.declared.node.Kind.TheVariants.{User, Host, Runas, Cmnd}
use Rattle.sudoers_grammar.specs.Node.{Member, RunasSpec, Scope}
use Rattle.sudoers_tree.specs.Line.{Line}
use Rattle.sudoers_match_member.specs.declared.people_and_commands.Group.{Group}
use Rattle.sudoers_match_member.specs.declared.request.Request.{Request}
use Rattle.sudoers_match_list.specs.Flat.{SignedAtom, IsFlatListOf}
use Rattle.sudoers_match_list.specs.Cycle.{ListLeadsToCyclicAlias}
use Rattle.sudoers_match.specs.Answer.{Answer, RowFitsRequest as FitsHeld, IsAnswerToRequest, answer_of_fitting_row}
use Rattle.sudoers_match.specs.Default.{IsRunasDefault, runas_defaults_of_lines, IsScopeForUserOnHost as IsForHeld, IsScopeListForUserOrHost as IsForListHeld}
use Rattle.sudoers_match.specs.Last.{IsLastItemWith}
use Rattle.sudoers_match.specs.Rows.{PrivilegeRow}
use Rattle.sudoers_match.specs.Runas.{RunasSpecAllows, RunasListsAllow}
use Rattle.sudoers_match.proofs.Lasts.{last_one}
use Rattle.sudoers_match.proofs.OneAnswer.{rows_one}
use Rattle.sudoers_undecided.specs.MatchTests.{MatchTests, match_tests_of_request, AgreesOnDecidedAtoms, MatchesNoUndecidedAtom}
use Rattle.sudoers_undecided.specs.RowParts.{RowPartHolds, IsRunasDefaultByTests, IsScopeForUserOnHostByTests, IsScopeListForUserOrHostByTests, RunasUserListAllowsByTests, RunasListsAllowGroupByTests, RunasSpecAllowsUserByTests, RunasSpecAllowsGroupByTests}
use Rattle.sudoers_undecided.specs.UndecidedAnswer.{RowFitsRequestByTests, IsAnswerByTests, IsUndecidedInAnswer}
use Rattle.sudoers_undecided.proofs.DefaultsByTests.{last_of_equivalent_is_same}
use Rattle.sudoers_undecided.proofs.RowPartsByTests.{unturned_row_fits_by_both_or_none}
use Rattle.sudoers_undecided.proofs.Decided.{HasFlatListOrNone, FlatListIsUnique}
use Rattle.sudoers_undecided.specs.declared.request_part.RequestPart.{RequestPart}
use Rattle.sudoers_undecided.specs.declared.request_part.RequestPart.TheVariants as part

-- ---- by the tests of a request

module _ (lines : List Line) (r : Request) where
  for_list : (k : Kind) (ms : List Member) → IsScopeListForUserOrHostByTests lines (match_tests_of_request r) k ms ↔ IsForListHeld lines r.who k ms
  for_list User ms = ((λ x. x), (λ x. x))
  for_list Host ms = ((λ x. x), (λ x. x))
  for_list Runas ms = ((λ x. x), (λ x. x))
  for_list Cmnd ms = ((λ x. x), (λ x. x))

  pub scope_by_request_tests : (scope : Option Scope) → IsScopeForUserOnHostByTests lines (match_tests_of_request r) scope ↔ IsForHeld lines r.who scope
  scope_by_request_tests None = ((λ x. x), (λ x. x))
  scope_by_request_tests (Some s) = for_list s.kind s.members

  pub runas_default_by_request_tests : (name : List ℕ) → IsRunasDefaultByTests lines (match_tests_of_request r) name ↔ IsRunasDefault lines r.who name
  runas_default_by_request_tests name = (there, back)
    where
      there : IsRunasDefaultByTests lines (match_tests_of_request r) name → IsRunasDefault lines r.who name
      there d = record {
        last = d.last;
        is_last = last_of_equivalent_is_same (λ (setting : Option Scope × List ℕ). IsScopeForUserOnHostByTests lines (match_tests_of_request r) setting.0) (λ setting. IsForHeld lines r.who setting.0) (runas_defaults_of_lines lines)
            (λ before after x e none. ((scope_by_request_tests x.0).1, (scope_by_request_tests x.0).0)) d.last d.is_last;
        says = d.says;
      }

      back : IsRunasDefault lines r.who name → IsRunasDefaultByTests lines (match_tests_of_request r) name
      back d = record {
        last = d.last;
        is_last = last_of_equivalent_is_same (λ (setting : Option Scope × List ℕ). IsForHeld lines r.who setting.0) (λ setting. IsScopeForUserOnHostByTests lines (match_tests_of_request r) setting.0) (runas_defaults_of_lines lines)
            (λ before after x e none. scope_by_request_tests x.0) d.last d.is_last;
        says = d.says;
      }

  abbrev Both : Option Group → Option RunasSpec → Type 0
  Both group o = RunasSpecAllowsUserByTests lines (match_tests_of_request r) r.who.user r.target o × RunasSpecAllowsGroupByTests lines (match_tests_of_request r) r.who.user r.target group o

  runas_lists_by_request_tests : (group : Option Group) (us gs : List Member)
      → (RunasUserListAllowsByTests lines (match_tests_of_request r) r.who.user r.target us × RunasListsAllowGroupByTests lines (match_tests_of_request r) r.who.user r.target group us gs) ↔ RunasListsAllow lines r.who.user r.target group us gs
  runas_lists_by_request_tests group [] [] = ((λ x. x), (λ x. x))
  runas_lists_by_request_tests (Some g) [] (m ∷ ms) = ((λ x. x), (λ x. x))
  runas_lists_by_request_tests None [] (m ∷ ms) = ((λ x. x), (λ x. x))
  runas_lists_by_request_tests group (u ∷ us) [] = ((λ x. x), (λ x. x))
  runas_lists_by_request_tests (Some g) (u ∷ us) (m ∷ ms) = ((λ x. x), (λ x. x))
  runas_lists_by_request_tests None (u ∷ us) (m ∷ ms) = ((λ x. x), (λ x. x))

  runas_spec_by_request_tests : (group : Option Group) (o : Option RunasSpec) → Both group o ↔ RunasSpecAllows lines r.who r.target group o
  runas_spec_by_request_tests group None = ((λ b. (b.0.0, (runas_default_by_request_tests b.0.0).0 b.0.1, b.0.2, b.1)), (λ w. ((w.0, (runas_default_by_request_tests w.0).1 w.1, w.2), w.3)))
  runas_spec_by_request_tests group (Some s) = runas_lists_by_request_tests group s.users s.groups

  pub row_fits_by_request_tests : (row : PrivilegeRow) → RowFitsRequestByTests lines (match_tests_of_request r) r row ↔ FitsHeld lines r row
  row_fits_by_request_tests row = (there, back)
    where
      there : RowFitsRequestByTests lines (match_tests_of_request r) r row → FitsHeld lines r row
      there f = record { user = f part.Users; host = f part.Hosts; runas = (runas_spec_by_request_tests r.target_group row.head.runas).0 (f part.RunasUsers, f part.RunasGroups); moment = f part.Moment; command = f part.Command }

      by : FitsHeld lines r row → (p : RequestPart) → RowPartHolds lines (match_tests_of_request r) r row p
      by f part.Users = f.user
      by f part.Hosts = f.host
      by f part.RunasUsers = ((runas_spec_by_request_tests r.target_group row.head.runas).1 f.runas).0
      by f part.RunasGroups = ((runas_spec_by_request_tests r.target_group row.head.runas).1 f.runas).1
      by f part.Moment = f.moment
      by f part.Command = f.command

      back : FitsHeld lines r row → RowFitsRequestByTests lines (match_tests_of_request r) r row
      back f = by f

  pub answer_by_request_tests : (answer : Option Answer) → IsAnswerByTests lines (match_tests_of_request r) r answer ↔ IsAnswerToRequest lines r answer
  answer_by_request_tests answer = (there, back)
    where
      there : IsAnswerByTests lines (match_tests_of_request r) r answer → IsAnswerToRequest lines r answer
      there a = record {
        rows = a.rows;
        are_rows = a.are_rows;
        answers = record {
          last = a.last;
          is_last = last_of_equivalent_is_same (RowFitsRequestByTests lines (match_tests_of_request r) r) (FitsHeld lines r) a.rows
              (λ before after x e none. ((row_fits_by_request_tests x).1, (row_fits_by_request_tests x).0)) a.last a.is_last;
          says = a.says;
        };
      }

      back : IsAnswerToRequest lines r answer → IsAnswerByTests lines (match_tests_of_request r) r answer
      back a = record {
        rows = a.rows;
        are_rows = a.are_rows;
        last = a.answers.last;
        is_last = last_of_equivalent_is_same (FitsHeld lines r) (RowFitsRequestByTests lines (match_tests_of_request r) r) a.rows
            (λ before after x e none. row_fits_by_request_tests x) a.answers.last a.answers.is_last;
        says = a.answers.says;
      }

-- ---- by others

pub has_flat_list_or_none : ((k : Kind) (lines : List Line) (ms : List Member) → ((fs : List SignedAtom) × IsFlatListOf k lines ms fs) ⊎ ListLeadsToCyclicAlias k lines ms)
    → (lines : List Line) → ((k : Kind) (ms : List Member) (fs : List SignedAtom) → IsFlatListOf k lines ms fs → ListLeadsToCyclicAlias k lines ms → ⊥)
    → (k : Kind) (ms : List Member) → ((fs : List SignedAtom) × IsFlatListOf k lines ms fs) ⊎ ((fs : List SignedAtom) → IsFlatListOf k lines ms fs → ⊥)
has_flat_list_or_none flats lines apart k ms = elim (flats k lines ms) as (λ _. ((fs : List SignedAtom) × IsFlatListOf k lines ms fs) ⊎ ((fs : List SignedAtom) → IsFlatListOf k lines ms fs → ⊥)) [
  | inl f ↦ inl f
  | inr c ↦ inr (λ fs f. apart k ms fs f c)
]

-- Where no member could have changed the answer, it is the same by all tests that agree.
pub nothing_undecided_then_same : FlatListIsUnique → (lines : List Line) → HasFlatListOrNone lines → (r : Request) (undecided other : MatchTests) → MatchesNoUndecidedAtom undecided (match_tests_of_request r) → AgreesOnDecidedAtoms undecided (match_tests_of_request r) other
    → (name : List ℕ) → IsRunasDefault lines r.who name
    → ((row : PrivilegeRow) (p : RequestPart) (s : SignedAtom) → IsUndecidedInAnswer lines undecided (match_tests_of_request r) r row p s → ⊥)
    → (answer : Option Answer) → IsAnswerToRequest lines r answer → IsAnswerByTests lines other r answer
nothing_undecided_then_same one lines flats r undecided other misses agrees name default none answer a =
    let held : IsAnswerByTests lines (match_tests_of_request r) r answer = (answer_by_request_tests lines r answer).1 a in
    record {
      rows = held.rows;
      are_rows = held.are_rows;
      last = held.last;
      is_last = last_of_equivalent_is_same (RowFitsRequestByTests lines (match_tests_of_request r) r) (RowFitsRequestByTests lines other r) held.rows
          (λ before after x e behind. unturned_row_fits_by_both_or_none one lines flats undecided (match_tests_of_request r) other misses agrees r name ((runas_default_by_request_tests lines r name).1 default) x
          (λ p s could. none x p s (record { not_passed = record { rows = held.rows; are_rows = held.are_rows; before = before; after = after; stands = e; none_behind = behind }; could = could })))
          held.last held.is_last;
      says = held.says;
    }

pub answer_by_tests_is_unique : FlatListIsUnique → (lines : List Line) (tests : MatchTests) (r : Request) (answer other : Option Answer) → IsAnswerByTests lines tests r answer → IsAnswerByTests lines tests r other → answer ≡ other
answer_by_tests_is_unique one lines tests r answer other a b =
    let same = rows_one one lines a.rows b.rows a.are_rows b.are_rows in
    let last = last_one (RowFitsRequestByTests lines tests r) b.rows a.last b.last (subst (λ (rows : List PrivilegeRow). IsLastItemWith (RowFitsRequestByTests lines tests r) rows a.last) same a.is_last) b.is_last in
    a.says ∙ ap (option_map answer_of_fitting_row) last ∙ sym b.says
