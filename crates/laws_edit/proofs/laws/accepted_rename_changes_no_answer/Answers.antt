use Rattle.std.proofs.Common.{◌↔◌, ℕ, List, Option, sym, subst}
use Rattle.sudoers_tree.specs.Line.{Line}
use Rattle.sudoers_tree.specs.Load.{named_files_of_policy}
use Rattle.sudoers_check.specs.Chains.{HasCyclicAliasReachedFromSpecOrDefaults}
use Rattle.sudoers_match_member.specs.declared.people_and_commands.Who.{Who}
use Rattle.sudoers_match_member.specs.declared.request.Request.{Request}
use Rattle.sudoers_match.specs.declared.matching_host_groups.HostGroupPlace.{HostGroupPlace}
use Rattle.sudoers_match.specs.Answer.{Answer, IsAnswerToRequest}
use Rattle.sudoers_match.specs.Default.{IsRunasDefault}
use Rattle.sudoers_match.specs.Groups.{ArePlacesOfMatchingHostGroups}
use Rattle.laws_edit.proofs.RenameMade.{accepted_rename_is_to_free_name}
use Rattle.laws_edit.proofs.laws.accepted_rename_changes_no_answer.Goals as goal

pub returns-clause-answer : goal.returns-clause-answer
returns-clause-answer c kind name fresh policy new loaded made =
    let may = accepted_rename_is_to_free_name kind name fresh policy new made in
    let lines : List Line = policy.walk.lines in
    subst (λ (ls : List Line). (request : Request) (answer : Option Answer) → IsAnswerToRequest lines request answer ↔ IsAnswerToRequest ls request answer)
    (sym (c.rename_is_taken_back.ensures.are kind name fresh policy new loaded made).lines)
    (c.rename_changes_no_answer.ensures.answer kind name fresh lines may.some may.free)

pub returns-clause-default : goal.returns-clause-default
returns-clause-default c kind name fresh policy new loaded made =
    let may = accepted_rename_is_to_free_name kind name fresh policy new made in
    let lines : List Line = policy.walk.lines in
    subst (λ (ls : List Line). (who : Who) (user : List ℕ) → IsRunasDefault lines who user ↔ IsRunasDefault ls who user)
    (sym (c.rename_is_taken_back.ensures.are kind name fresh policy new loaded made).lines)
    (c.rename_changes_no_answer.ensures.default kind name fresh lines may.some may.free)

pub returns-clause-groups : goal.returns-clause-groups
returns-clause-groups c kind name fresh policy new loaded made =
    let may = accepted_rename_is_to_free_name kind name fresh policy new made in
    let lines : List Line = policy.walk.lines in
    subst (λ (ls : List Line). (who : Who) (places : List HostGroupPlace) → ArePlacesOfMatchingHostGroups lines who places ↔ ArePlacesOfMatchingHostGroups ls who places)
    (sym (c.rename_is_taken_back.ensures.are kind name fresh policy new loaded made).lines)
    (c.rename_changes_no_answer.ensures.groups kind name fresh lines may.some may.free)

pub returns-clause-cycle : goal.returns-clause-cycle
returns-clause-cycle c kind name fresh policy new loaded made =
    let may = accepted_rename_is_to_free_name kind name fresh policy new made in
    let lines : List Line = policy.walk.lines in
    subst (λ (ls : List Line). HasCyclicAliasReachedFromSpecOrDefaults lines ↔ HasCyclicAliasReachedFromSpecOrDefaults ls)
    (sym (c.rename_is_taken_back.ensures.are kind name fresh policy new loaded made).lines)
    (c.rename_changes_no_answer.ensures.cycle kind name fresh lines may.some may.free (c.loaded_is_walk.ensures (named_files_of_policy policy) policy loaded) may.new)
