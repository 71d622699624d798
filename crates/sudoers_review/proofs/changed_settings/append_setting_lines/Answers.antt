use Rattle.std.proofs.Common.{◌++◌, ℕ, List, map, ap, subst, ◌∙◌}
use Rattle.sudoers_list.specs.Reason.{place_text_on_walk_line}
use Rattle.sudoers_compare.specs.declared.flat_defaults.FlatRunasDefault.{FlatRunasDefault as FlatRunasDefaultView}
use Rattle.sudoers_compare.specs.FlatDefaults.{flat_runas_default_in_tables}
use Rattle.sudoers_review.specs.ChangedText.{setting_line, sign_of_change}
use Rattle.sudoers_review.proofs.SettingLines.{all_setting_lines, no_line_so_far, one_more_setting_line, AreLinesAppended}
use Rattle.sudoers_review.proofs.changed_settings.append_setting_lines.Goals as goal

pub loop-setting-init : goal.loop-setting-init
loop-setting-init c = no_line_so_far _ _ _

pub loop-setting-preserved : goal.loop-setting-preserved
loop-setting-preserved c =
    let says = flat_runas_default_in_tables c.args.flat.now.tables.now in
    let items = c.as_slice-setting-items.result.now in
    let index = c.loop-setting.setting-index in
    let sign : List ℕ = sign_of_change c.args.change in
    let o = c.loop-setting.out.text.items in
    let setting = c.setting-item.result in
    let place : List ℕ = place_text_on_walk_line c.args.flat.now.policy.now setting.line 0 in
    one_more_setting_line says items sign index setting c.args.out.now.text.items o c.append_setting_line.new.out.text.items place c.loop-setting-test.true
    (c.in_ok-append_setting_line.ensures ∙ ap (λ (item : FlatRunasDefaultView). o ++ setting_line sign place (says item)) c.setting-item.is) c.loop-setting.invariant

pub returns-clause-lines : goal.returns-clause-lines
returns-clause-lines c =
    let says = flat_runas_default_in_tables c.args.flat.now.tables.now in
    let items = c.as_slice-setting-items.result.now in
    let sign : List ℕ = sign_of_change c.args.change in
    subst (λ (list : List FlatRunasDefaultView). AreLinesAppended sign (map says list) c.args.out.now.text.items c.loop-setting.out.text.items) c.as_slice-setting-items.ensures.value
    (all_setting_lines says items sign c.loop-setting.setting-index c.args.out.now.text.items c.loop-setting.out.text.items c.loop-setting-test.false c.loop-setting.invariant)
