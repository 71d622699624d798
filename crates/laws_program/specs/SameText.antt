-- Two policies that answer alike.
use Rattle.std.specs.Prelude.{◌≡◌, ◌↔◌, ℕ, List, Option, Ok}
use Rattle.sudoers_tree.specs.declared.named_files.NamedFile.{NamedFile}
use Rattle.sudoers_tree.specs.Load.{LoadedPolicy}
use Rattle.sudoers_check.specs.Chains.{HasCyclicAliasReachedFromSpecOrDefaults}
use Rattle.sudoers_match_member.specs.declared.people_and_commands.Who.{Who}
use Rattle.sudoers_match_member.specs.declared.request.Request.{Request}
use Rattle.sudoers_match.specs.declared.matching_host_groups.HostGroupPlace.{HostGroupPlace}
use Rattle.sudoers_match.specs.Alike.{AreAnswersSameButNumbers}
use Rattle.sudoers_match.specs.Answer.{Answer, IsAnswerToRequest}
use Rattle.sudoers_match.specs.Default.{IsRunasDefault}
use Rattle.sudoers_match.specs.Groups.{ArePlacesOfMatchingHostGroups}
use Rattle.sudoers_run.specs.Policy.{IsPolicyFromRoot}

-- Both are policies. Each request has an answer in the second with the same sign, tags and options as in the first, and the other way
-- round. Each user has the same runas_default, and rules at the same places. No reachable alias is cyclic in either.
pub record HaveSameAnswers (root : List ℕ) (known : List NamedFile) (other_root : List ℕ) (other_known : List NamedFile) : Type 0 where
  pub policy : LoadedPolicy
  pub other : LoadedPolicy
  pub was_loaded : IsPolicyFromRoot root (Ok policy) known
  pub other_loaded : IsPolicyFromRoot other_root (Ok other) other_known
  pub there : (q : Request) (a : Option Answer) → IsAnswerToRequest policy.walk.lines q a → (b : Option Answer) × IsAnswerToRequest other.walk.lines q b × AreAnswersSameButNumbers a b
  pub back : (q : Request) (b : Option Answer) → IsAnswerToRequest other.walk.lines q b → (a : Option Answer) × IsAnswerToRequest policy.walk.lines q a × AreAnswersSameButNumbers a b
  pub default : (who : Who) (name : List ℕ) → IsRunasDefault policy.walk.lines who name ↔ IsRunasDefault other.walk.lines who name
  pub groups : (who : Who) (places : List HostGroupPlace) → ArePlacesOfMatchingHostGroups policy.walk.lines who places ↔ ArePlacesOfMatchingHostGroups other.walk.lines who places
  pub straight : HasCyclicAliasReachedFromSpecOrDefaults policy.walk.lines → ⊥
  pub other_straight : HasCyclicAliasReachedFromSpecOrDefaults other.walk.lines → ⊥
