use Rattle.std.proofs.Common.{drop, map}
use Rattle.sudoers_match.specs.declared.specs_for_users.SpecOnLine.{SpecOnLine}
use Rattle.sudoers_match.specs.ForRequest.{numbered_spec_of_view}
use Rattle.sudoers_match.specs.Rows.{AreRowsPerFlatAtomOfSpec}
use Rattle.sudoers_undecided.specs.internal.Counted.{CountsPartsSoFar}
use Rattle.sudoers_undecided.proofs.spec_rows.count_lists_of_policy.Given as goal

abbrev pub invariant-loop-spec : goal.invariant-loop-spec
invariant-loop-spec l = CountsPartsSoFar (AreRowsPerFlatAtomOfSpec l.asked.policy.now) l.asked.policy.now l.asked.request.now l.asked.scopes.now l.initial.counted l.counted
    (map (λ (s : SpecOnLine). (numbered_spec_of_view s).1) l.spec-items) l.spec-index (drop l.spec-index (map (λ (s : SpecOnLine). (numbered_spec_of_view s).1) l.spec-items))
