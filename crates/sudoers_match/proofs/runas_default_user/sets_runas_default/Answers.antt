use Rattle.sudoers_match.proofs.Common.{Bor, List, None, ap, option_map, sym, ℕ, ◌∙◌, ◌≡◌}
use Rattle.sudoers_match.proofs.ForUsers.{none_if_not_some}
use Rattle.sudoers_match.proofs.Passed.{defaults_view_without_setting_has_none}
use Rattle.sudoers_match.proofs.Settings.{none_last}
use Rattle.sudoers_match.proofs.runas_default_user.sets_runas_default.Goals as goal

pub returns-in-Defaults : goal.returns-in-Defaults
returns-in-Defaults c is_false =
    let found = c.find_last_runas_default_in_params.result in
    let none : found ≡ None = none_if_not_some found (sym c.is_some.ensures ∙ is_false) in
    defaults_view_without_setting_has_none c.args.node.now _ c.in-Defaults.params c.in-Defaults.is
    (none_last _ (sym c.find_last_runas_default_in_params.ensures ∙ ap (option_map (λ (name : Bor (List ℕ)). name.now)) none))
