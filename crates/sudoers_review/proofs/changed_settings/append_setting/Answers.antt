use Rattle.std.proofs.Common.{◌≡◌, ◌++◌, ℕ, List, codes, ap, ◌∙◌}
use Rattle.std.proofs.lemmas.Result.{on_ok_weaker}
use Rattle.std.specs.Option.{option_map}
use Rattle.sudoers_cvt_spell.specs.Parameters.{printed_param}
use Rattle.sudoers_compare.specs.FlatDefaults.{flat_scope_in_tables}
use Rattle.sudoers_review.specs.ChangedText.{printed_scope, runas_default_param}
use Rattle.sudoers_review.proofs.SettingLines.{setting_parts_are_grouped}
use Rattle.sudoers_review.proofs.changed_settings.append_setting.Goals as goal

pub returns : goal.returns
returns c =
    let o = c.args.out.now.items in
    let scope : List ℕ = printed_scope (option_map (flat_scope_in_tables c.args.tables.now) c.args.setting.now.scope) in
    let param : List ℕ = printed_param (runas_default_param c.args.setting.now.name.now) in
    let first : c.extend_from_slice.new.self.items ≡ o ++ codes "Defaults" = c.in_ok-extend_from_slice.ensures.items in
    let second : c.append_flat_scope.new.out.items ≡ (o ++ codes "Defaults") ++ scope = c.in_ok-append_flat_scope.ensures ∙ ap (λ (x : List ℕ). x ++ scope) first in
    let third : c.extend_from_slice-2.new.self.items ≡ ((o ++ codes "Defaults") ++ scope) ++ codes " " = c.in_ok-extend_from_slice-2.ensures.items ∙ ap (λ (x : List ℕ). x ++ codes " ") second in
    on_ok_weaker c.append_param.result (λ e. e ∙ ap (λ (x : List ℕ). x ++ param) third ∙ setting_parts_are_grouped o (codes "Defaults") scope (codes " ") param) c.append_param.ensures.appended
