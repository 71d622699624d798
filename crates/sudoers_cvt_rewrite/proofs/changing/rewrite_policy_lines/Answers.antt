use Rattle.sudoers_cvt_rewrite.proofs.Common.{HasCyclicAliasReachedFromSpecOrDefaults, IfErr-weaker, IfOk-weaker, Line, List, changes_of_view, expanded_member_limit, false, has_reachable_alias_cycle, inl, inr, member_count_of_rules, refl}
use Rattle.sudoers_cvt_rewrite.proofs.Common.{rewritten_lines_of_policy, subst, ◌<◌, ◌∙◌, ◌≡◌}
use Rattle.sudoers_check.proofs.Led.{definition_found_cyclic_is_cyclic, definition_found_acyclic_is_not_cyclic, unused_definition_is_not_reachable, used_definition_is_reachable}
use Rattle.sudoers_cvt_rewrite.proofs.Uses.{a_round, no_round}
use Rattle.sudoers_cvt_rewrite.proofs.Whole.{IsPolicyRewriteFault}
use Rattle.sudoers_cvt_rewrite.proofs.changing.rewrite_policy_lines.Goals as goal

straight_of : (lines walk : List Line) → walk ≡ lines → (HasCyclicAliasReachedFromSpecOrDefaults walk → ⊥) → HasCyclicAliasReachedFromSpecOrDefaults lines → ⊥
straight_of lines walk same straight = subst (λ ls. HasCyclicAliasReachedFromSpecOrDefaults ls → ⊥) same straight

pub returns-in-Ok-clause-straight : goal.returns-in-Ok-clause-straight
returns-in-Ok-clause-straight c =
    let lines = c.args.policy.now.walk.lines in
    IfOk-weaker c.rewrite_lines_of_acyclic_policy.result _ (λ new. has_reachable_alias_cycle lines ≡ false)
    (λ new is. no_round lines (unused_definition_is_not_reachable lines) (used_definition_is_reachable lines) (definition_found_cyclic_is_cyclic lines) (definition_found_acyclic_is_not_cyclic lines) (straight_of lines c.walk.result c.walk.ensures c.in-Ok.ensures.straight)) c.rewrite_lines_of_acyclic_policy.ensures.lines

pub returns-in-Ok-clause-fault : goal.returns-in-Ok-clause-fault
returns-in-Ok-clause-fault c =
    let lines = c.args.policy.now.walk.lines in
    let changes = changes_of_view c.args.changes.now in
    let none = no_round lines (unused_definition_is_not_reachable lines) (used_definition_is_reachable lines) (definition_found_cyclic_is_cyclic lines) (definition_found_acyclic_is_not_cyclic lines) (straight_of lines c.walk.result c.walk.ensures c.in-Ok.ensures.straight) in
    IfErr-weaker c.rewrite_lines_of_acyclic_policy.result _ (IsPolicyRewriteFault changes.expand (has_reachable_alias_cycle lines) (member_count_of_rules (rewritten_lines_of_policy changes lines)))
    (λ fault why. elim why [
      | inl n ↦ inl n
      | inr t ↦ inr (inr (t.0, none, t.1, subst (λ ls. expanded_member_limit < member_count_of_rules (rewritten_lines_of_policy changes ls)) (c.in-Ok.ensures.walk ∙ c.walk.ensures) t.2))
    ])
    c.rewrite_lines_of_acyclic_policy.ensures.fault

pub returns-in-Err-Cycle-clause-fault : goal.returns-in-Err-Cycle-clause-fault
returns-in-Err-Cycle-clause-fault c =
    let lines = c.args.policy.now.walk.lines in
    elim c.in-Err-Cycle.ensures.fault [
      | inl n ↦ absurd cc
      | inr h ↦ inr (inl (refl, a_round lines (unused_definition_is_not_reachable lines) (used_definition_is_reachable lines) (definition_found_cyclic_is_cyclic lines) (definition_found_acyclic_is_not_cyclic lines) (subst HasCyclicAliasReachedFromSpecOrDefaults c.walk.ensures h.1)))
    ]
