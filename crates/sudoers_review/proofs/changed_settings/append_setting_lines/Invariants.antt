use Rattle.std.proofs.Common.{drop, map}
use Rattle.sudoers_compare.specs.FlatDefaults.{flat_runas_default_in_tables}
use Rattle.sudoers_review.specs.ChangedText.{sign_of_change}
use Rattle.sudoers_review.proofs.SettingLines.{AreLinesSoFar}
use Rattle.sudoers_review.proofs.changed_settings.append_setting_lines.Given as goal

-- With the lines still to come, each setting has its line.
abbrev pub invariant-loop-setting : goal.invariant-loop-setting
invariant-loop-setting l =
    AreLinesSoFar (sign_of_change l.change) (map (flat_runas_default_in_tables l.flat.tables.now) l.setting-items) (map (flat_runas_default_in_tables l.flat.tables.now) (drop l.setting-index l.setting-items))
    l.fn.out.text.items l.out.text.items
