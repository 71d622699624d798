use Rattle.std.proofs.Common.{◌<◌, length, map, sym, ap, ◌∙◌, true≢false, arith}
use Rattle.sudoers_compare.specs.FlatDefaults.{flat_runas_default_in_tables}
use Rattle.sudoers_review.proofs.SettingLines.{one_more_setting_is_same, same_settings_have_same_items}
use Rattle.sudoers_review.proofs.changed_settings.are_settings_same.Goals as goal

pub loop-number-init : goal.loop-number-init
loop-number-init c = λ e. e

pub loop-number-preserved : goal.loop-number-preserved
loop-number-preserved c =
    let xs = c.as_slice-settings.result.now in
    let ys = c.as_slice-others.result.now in
    let number = c.loop-number.number in
    let says = flat_runas_default_in_tables c.args.old.now.tables.now in
    let says_too = flat_runas_default_in_tables c.args.new.now.tables.now in
    let within : number < length ys = omega (arith, c.loop-number-test.true, c.if-settings-others.false) in
    one_more_setting_is_same says says_too xs ys number c.index-settings-number.result c.index-others-number.result
    c.loop-number-test.true within
    (sym (ap says c.index-settings-number.is) ∙ c.is_same_runas_default.ensures.0 c.if-not-is_same_runas_default.false ∙ ap says_too c.index-others-number.is) c.loop-number.invariant

pub returns-then-not-is_same_runas_default : goal.returns-then-not-is_same_runas_default
returns-then-not-is_same_runas_default c =
    let says = flat_runas_default_in_tables c.args.old.now.tables.now in
    let says_too = flat_runas_default_in_tables c.args.new.now.tables.now in
    let xs = c.as_slice-settings.result.now in
    let ys = c.as_slice-others.result.now in
    let number = c.loop-number.number in
    let within : number < length ys = omega (arith, c.loop-number-test.true, c.if-settings-others.false) in (
      λ e. absurd (true≢false (sym e)),
      λ same.
          absurd (true≢false (sym (c.is_same_runas_default.ensures.1 (ap says c.index-settings-number.is ∙ same_settings_have_same_items says says_too xs ys number c.index-settings-number.result c.index-others-number.result
          c.loop-number-test.true within (ap (map says) c.as_slice-settings.ensures.value ∙ same ∙ sym (ap (map says_too) c.as_slice-others.ensures.value))
          ∙ sym (ap says_too c.index-others-number.is))) ∙ c.if-not-is_same_runas_default.true)),
    )
