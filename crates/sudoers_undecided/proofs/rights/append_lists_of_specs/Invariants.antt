use Rattle.std.proofs.Common.{map, take}
use Rattle.sudoers_match.specs.declared.specs_for_users.SpecOnLine.{SpecOnLine}
use Rattle.sudoers_match.specs.ForRequest.{numbered_spec_of_view}
use Rattle.sudoers_match_member.specs.declared.request.Request.{Request}
use Rattle.sudoers_undecided.specs.internal.Counted.{AreHostAliases, AreUserAliases}
use Rattle.sudoers_undecided.specs.internal.Rights.{AddsListsOfSpecs}
use Rattle.sudoers_undecided.proofs.rights.append_lists_of_specs.Given as goal

abbrev pub invariant-loop-spec : goal.invariant-loop-spec
invariant-loop-spec l = (r : Request) → AreUserAliases l.fn.policy r l.fn.users → AreHostAliases l.fn.policy r l.fn.hosts
    → AddsListsOfSpecs l.fn.policy r (take l.spec-index (map (λ (s : SpecOnLine). (numbered_spec_of_view s).1) l.spec-items)) l.fn.lists l.lists
