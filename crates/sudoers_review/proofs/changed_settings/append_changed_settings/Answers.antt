use Rattle.std.proofs.Common.{map, sym, true≢false, ◌∙◌}
use Rattle.std.proofs.lemmas.Result.{on_ok_weaker}
use Rattle.sudoers_compare.specs.FlatDefaults.{flat_runas_default_in_tables}
use Rattle.sudoers_review.proofs.SettingLines.{no_setting_lines, other_setting_lines}
use Rattle.sudoers_review.proofs.changed_settings.append_changed_settings.Goals as goal

pub returns-then-are_settings_same-clause-text : goal.returns-then-are_settings_same-clause-text
returns-then-are_settings_same-clause-text c =
    no_setting_lines (map (flat_runas_default_in_tables c.args.old.now.tables.now) c.args.old.now.settings.items) (map (flat_runas_default_in_tables c.args.new.now.tables.now) c.args.new.now.settings.items)
    c.args.out.now.text.items (c.are_settings_same.ensures.0 c.if-are_settings_same.true)

pub returns-clause-text : goal.returns-clause-text
returns-clause-text c =
    let olds = map (flat_runas_default_in_tables c.args.old.now.tables.now) c.args.old.now.settings.items in
    let news = map (flat_runas_default_in_tables c.args.new.now.tables.now) c.args.new.now.settings.items in
    on_ok_weaker c.append_setting_lines-2.result (λ came.
    other_setting_lines olds news c.args.out.now.text.items c.append_setting_lines.new.out.text.items c.append_setting_lines-2.new.out.text.items
    (λ same. true≢false (sym (c.are_settings_same.ensures.1 same) ∙ c.if-are_settings_same.false)) c.in_ok-append_setting_lines.ensures.lines came) c.append_setting_lines-2.ensures.lines
