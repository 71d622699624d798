use Rattle.std.proofs.Common.{inl, inr, sym, subst, ◌↔◌}
use Rattle.sudoers_match.specs.Default.{IsScopeForUserOnHost}
use Rattle.sudoers_undecided.specs.MatchTests.{match_tests_of_request}
use Rattle.sudoers_undecided.specs.RowParts.{IsScopeForUserOnHostByTests}
use Rattle.sudoers_undecided.specs.UndecidedListing.{CouldTurnDefaults}
use Rattle.sudoers_undecided.proofs.AnswersByTests.{has_flat_list_or_none, scope_by_request_tests}
use Rattle.sudoers_undecided.proofs.DefaultsByTests.{scope_alike_or_could_turn}
use Rattle.sudoers_undecided.proofs.laws.nothing_undecided_then_same_defaults.Goals as goal

pub returns : goal.returns
returns c lines r undecided other walk misses agrees none line stands scope params is =
    let tests = match_tests_of_request r in
    let flats = has_flat_list_or_none c.flat_or_cycle.ensures lines (λ k ms fs f l. c.flat_then_no_cycle.ensures k lines walk ms fs f l) in
    let held = scope_by_request_tests lines r scope in
    elim (scope_alike_or_could_turn c.one_flat.ensures lines flats undecided tests other misses agrees scope).same as (λ _. IsScopeForUserOnHost lines r.who scope ↔ IsScopeForUserOnHostByTests lines other scope) [
      | inl t ↦ absurd (none line t.0 (record { stands = stands; turns = subst (λ n. CouldTurnDefaults lines undecided tests n t.0) (sym is) t.1 }))
      | inr same ↦ ((λ h. same.1 (held.1 h)), (λ h. held.0 (same.0 h)))
    ]
