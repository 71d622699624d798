-- Policies whose expansions are printed the same answer the same.
use Rattle.std.proofs.Common.{◌≡◌, ℕ, List, [], Option, Some, None, Result, Ok, Err, sym, ap, subst, ◌∙◌}
use Rattle.std.specs.Prelude.{◌↔◌}
use Rattle.sudoers_tree.specs.Line.{Line}
use Rattle.sudoers_tree.specs.declared.named_files.NamedFile.{NamedFile}
use Rattle.sudoers_tree.specs.declared.load_fault.LoadFault.{LoadFault}
use Rattle.sudoers_tree.specs.Load.{LoadedPolicy, policy_or_load_fault}
use Rattle.sudoers_files.specs.declared.fault.GatherFault.{GatherFault}
use Rattle.sudoers_match_member.specs.declared.people_and_commands.Who.{Who}
use Rattle.sudoers_match_member.specs.declared.request.Request.{Request}
use Rattle.sudoers_match.specs.declared.matching_host_groups.HostGroupPlace.{HostGroupPlace}
use Rattle.sudoers_match.specs.Alike.{AreAnswersSameButNumbers}
use Rattle.sudoers_match.specs.Answer.{Answer, IsAnswerToRequest}
use Rattle.sudoers_match.specs.Default.{IsRunasDefault}
use Rattle.sudoers_match.specs.Groups.{ArePlacesOfMatchingHostGroups}
use Rattle.laws_program.specs.Converted.{IsExpandedTextWithSameAnswers, IsTextLoadedAloneAsLines}
use Rattle.laws_program.specs.SameText.{HaveSameAnswers}

answers_same_as_third_are_same : (a b c : Option Answer) → AreAnswersSameButNumbers a c → AreAnswersSameButNumbers b c → AreAnswersSameButNumbers a b
answers_same_as_third_are_same None None c f g = tt
answers_same_as_third_are_same None (Some b) None f g = absurd g
answers_same_as_third_are_same None (Some b) (Some c) f g = absurd f
answers_same_as_third_are_same (Some a) None None f g = absurd f
answers_same_as_third_are_same (Some a) None (Some c) f g = absurd g
answers_same_as_third_are_same (Some a) (Some b) None f g = absurd f
answers_same_as_third_are_same (Some a) (Some b) (Some c) f g = (sym g.0 ∙ f.0, sym g.1 ∙ f.1, sym g.2 ∙ f.2)

abbrev files_of_gathering : Result (List NamedFile) GatherFault → List NamedFile
files_of_gathering (Ok files) = files
files_of_gathering (Err fault) = []

abbrev walk_lines_of_loading : Result LoadedPolicy LoadFault → List Line
walk_lines_of_loading (Ok policy) = policy.walk.lines
walk_lines_of_loading (Err fault) = []

-- A text is a policy of its own lines only.
text_alone_has_one_list_of_lines : (out : List ℕ) (lines others : List Line) → IsTextLoadedAloneAsLines out lines → IsTextLoadedAloneAsLines out others → lines ≡ others
text_alone_has_one_list_of_lines out lines others is other =
    let one = is [] in
    let two = other [] in
    let files : one.files ≡ two.files = ap files_of_gathering (sym one.gathers ∙ two.gathers) in
    ap walk_lines_of_loading (sym one.loads ∙ ap policy_or_load_fault files ∙ two.loads)

module _ (root : List ℕ) (known : List NamedFile) (other_root : List ℕ) (other_known : List NamedFile) (out : List ℕ) (first : IsExpandedTextWithSameAnswers root known out)
    (second : IsExpandedTextWithSameAnswers other_root other_known out) where
  printed_lines_are_same : first.printed ≡ second.printed
  printed_lines_are_same = text_alone_has_one_list_of_lines out first.printed second.printed first.is_policy second.is_policy

  each_answer_is_there : (q : Request) (a : Option Answer) → IsAnswerToRequest first.policy.walk.lines q a
      → (b : Option Answer) × IsAnswerToRequest second.policy.walk.lines q b × AreAnswersSameButNumbers a b
  each_answer_is_there q a is =
      let printed = first.there q a is in
      let back = second.back q printed.0 (subst (λ (lines : List Line). IsAnswerToRequest lines q printed.0) printed_lines_are_same printed.1) in
      (back.0, back.1, answers_same_as_third_are_same a back.0 printed.0 printed.2 back.2)

  each_answer_was_there : (q : Request) (b : Option Answer) → IsAnswerToRequest second.policy.walk.lines q b
      → (a : Option Answer) × IsAnswerToRequest first.policy.walk.lines q a × AreAnswersSameButNumbers a b
  each_answer_was_there q b is =
      let printed = second.there q b is in
      let there = first.back q printed.0 (subst (λ (lines : List Line). IsAnswerToRequest lines q printed.0) (sym printed_lines_are_same) printed.1) in
      (there.0, there.1, answers_same_as_third_are_same there.0 b printed.0 there.2 printed.2)

  runas_default_is_same : (who : Who) (name : List ℕ) → IsRunasDefault first.policy.walk.lines who name ↔ IsRunasDefault second.policy.walk.lines who name
  runas_default_is_same who name = (
    λ is. (second.default who name).1 (subst (λ (lines : List Line). IsRunasDefault lines who name) printed_lines_are_same ((first.default who name).0 is)),
    λ is. (first.default who name).1 (subst (λ (lines : List Line). IsRunasDefault lines who name) (sym printed_lines_are_same) ((second.default who name).0 is)),
  )

  places_of_groups_are_same : (who : Who) (places : List HostGroupPlace) → ArePlacesOfMatchingHostGroups first.policy.walk.lines who places ↔ ArePlacesOfMatchingHostGroups second.policy.walk.lines who places
  places_of_groups_are_same who places = (
    λ are. (second.groups who places).1 (subst (λ (lines : List Line). ArePlacesOfMatchingHostGroups lines who places) printed_lines_are_same ((first.groups who places).0 are)),
    λ are. (first.groups who places).1 (subst (λ (lines : List Line). ArePlacesOfMatchingHostGroups lines who places) (sym printed_lines_are_same) ((second.groups who places).0 are)),
  )

  pub policies_of_same_expansion_answer_same : HaveSameAnswers root known other_root other_known
  policies_of_same_expansion_answer_same = record {
    policy = first.policy;
    other = second.policy;
    was_loaded = first.was_loaded;
    other_loaded = second.was_loaded;
    there = each_answer_is_there;
    back = each_answer_was_there;
    default = runas_default_is_same;
    groups = places_of_groups_are_same;
    straight = first.was_straight;
    other_straight = second.was_straight;
  }
