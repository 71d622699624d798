use Rattle.sudoers_match.proofs.Common.{Bor, DecidesWhetherScopeApplies, List, ap, option_map, parameters_of_view, scope_of_view, subst, sym, ℕ, ◌∙◌}
use Rattle.sudoers_match.proofs.Settings.{no_setting, counted, not_counted}
use Rattle.sudoers_match.proofs.runas_default_user.find_line_runas_default.Goals as goal

abbrev now : Bor (List ℕ) → List ℕ
now name = name.now

pub returns-in_default-clause-latest : goal.returns-in_default-clause-latest
returns-in_default-clause-latest c =
    no_setting c.args.policy.now c.args.who.now (option_map scope_of_view c.args.scope.now) (parameters_of_view c.args.params.now)
    (sym c.find_last_runas_default_in_params.ensures ∙ ap (option_map now) c.in_default.is)

pub returns-then-branch-clause-latest : goal.returns-then-branch-clause-latest
returns-then-branch-clause-latest c =
    let lines = c.args.policy.now in
    let who = c.args.who.now in
    let scope = option_map scope_of_view c.args.scope.now in
    counted lines who scope (parameters_of_view c.args.params.now) c.in-Some.name.now (sym c.find_last_runas_default_in_params.ensures ∙ ap (option_map now) c.in-Some.is)
    (subst (DecidesWhetherScopeApplies lines who scope) c.if-branch.true c.in_ok-is_defaults_scope_for_user.ensures.counted)

pub returns-else-branch-clause-latest : goal.returns-else-branch-clause-latest
returns-else-branch-clause-latest c =
    let lines = c.args.policy.now in
    let who = c.args.who.now in
    let scope = option_map scope_of_view c.args.scope.now in
    not_counted lines who scope (parameters_of_view c.args.params.now) (subst (DecidesWhetherScopeApplies lines who scope) c.if-branch.false c.in_ok-is_defaults_scope_for_user.ensures.counted)
