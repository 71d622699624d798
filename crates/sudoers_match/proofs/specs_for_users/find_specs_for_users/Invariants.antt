use Rattle.sudoers_match.proofs.Common.{AllByRecursion, IsValidCacheForContext, command_test_of_context, map, take, ◌≡◌}
use Rattle.sudoers_match.specs.ForRequest.{numbered_spec_of_view}
use Rattle.sudoers_match.proofs.ForUsers.{MattersForSomeUser}
use Rattle.sudoers_match.proofs.specs_for_users.find_specs_for_users.Given as goal

abbrev pub invariant-loop-spec : goal.invariant-loop-spec
invariant-loop-spec l = record {
  question : IsValidCacheForContext l.asked l.question;
  all : map numbered_spec_of_view l.specs.items ≡ map numbered_spec_of_view (take l.spec-index l.spec-items);
  matter : AllByRecursion (MattersForSomeUser l.policy (command_test_of_context l.asked) l.of_target l.request) l.specs.items;
}
