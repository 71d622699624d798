use Rattle.sudoers_match.proofs.Common.{AreRowsPerFlatAtomOfSpec, HasNoFittingRowBehind, IsValidCacheForContext, command_test_of_context, map}
use Rattle.sudoers_match.specs.declared.specs_for_users.SpecOnLine.{SpecOnLine}
use Rattle.sudoers_match.specs.ForRequest.{numbered_spec_of_view}
use Rattle.sudoers_match.proofs.last_row.find_last_fitting_row.Given as goal

abbrev pub invariant-loop-number : goal.invariant-loop-number
invariant-loop-number l = record {
  question : IsValidCacheForContext l.asked l.question;
  behind : HasNoFittingRowBehind (AreRowsPerFlatAtomOfSpec l.asked.policy.now) l.asked.policy.now (command_test_of_context l.asked) l.asked.request.now
      (map (λ (s : SpecOnLine). (numbered_spec_of_view s).1) l.specs) l.number;
}
