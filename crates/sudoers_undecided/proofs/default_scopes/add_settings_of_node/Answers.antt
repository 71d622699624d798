use Rattle.std.proofs.Common.{◌∙◌, Some, None, map, option_map, sym, subst}
use Rattle.sudoers_line_rows.specs.declared.view.Node.{Node as NodeView}
use Rattle.sudoers_line_rows.specs.View.{node_of_view, parameters_of_view, scope_of_view}
use Rattle.sudoers_match.specs.Default.{runas_defaults_in_node, runas_defaults_in_params, setting_with_scope}
use Rattle.sudoers_undecided.specs.internal.Settings.{CountsSettings}
use Rattle.sudoers_undecided.proofs.SettingCounts.{named_settings, settings_for_all_count}
use Rattle.sudoers_undecided.proofs.default_scopes.add_settings_of_node.Goals as goal

pub returns-in_ok-add_setting-in-Some : goal.returns-in_ok-add_setting-in-Some
returns-in_ok-add_setting-in-Some c r a =
    let lines = c.args.numbers.now.walk in
    let xs = runas_defaults_in_params (parameters_of_view c.in-Defaults.params) in
    let it : CountsSettings lines r c.args.lists.now c.add_setting.new.lists (map (setting_with_scope (Some (scope_of_view c.in-Some.scope))) xs) =
    named_settings lines r c.args.lists.now c.add_setting.new.lists (Some (scope_of_view c.in-Some.scope)) xs (sym c.has_runas_default_setting-sets.ensures ∙ c.if-not-sets.false) (c.in_ok-add_setting-in-Some.ensures r a) in
    subst (λ (n : NodeView). CountsSettings lines r c.args.lists.now c.add_setting.new.lists (runas_defaults_in_node (node_of_view n))) (sym c.in-Defaults.is)
    (subst (λ o. CountsSettings lines r c.args.lists.now c.add_setting.new.lists (map (setting_with_scope (option_map scope_of_view o)) xs)) (sym c.in-Some.is) it)

pub returns-in-None : goal.returns-in-None
returns-in-None c r a =
    let lines = c.args.numbers.now.walk in
    let xs = runas_defaults_in_params (parameters_of_view c.in-Defaults.params) in
    let it : CountsSettings lines r c.args.lists.now c.clear.new.self (map (setting_with_scope None) xs) =
    named_settings lines r c.args.lists.now c.clear.new.self None xs (sym c.has_runas_default_setting-sets.ensures ∙ c.if-not-sets.false) (settings_for_all_count lines r c.args.lists.now c.clear.new.self c.clear.ensures.users c.clear.ensures.hosts) in
    subst (λ (n : NodeView). CountsSettings lines r c.args.lists.now c.clear.new.self (runas_defaults_in_node (node_of_view n))) (sym c.in-Defaults.is)
    (subst (λ o. CountsSettings lines r c.args.lists.now c.clear.new.self (map (setting_with_scope (option_map scope_of_view o)) xs)) (sym c.in-None.is) it)
