use Rattle.std.proofs.Common.{drop, map}
use Rattle.sudoers_compare.specs.FlatDefaults.{flat_runas_default_in_tables}
use Rattle.sudoers_review.proofs.SettingLines.{AreSameSoFar}
use Rattle.sudoers_review.proofs.changed_settings.are_settings_same.Given as goal

-- If the settings still to come are the same, all are.
abbrev pub invariant-loop-number : goal.invariant-loop-number
invariant-loop-number l =
    AreSameSoFar (map (flat_runas_default_in_tables l.old.tables.now) (drop l.number l.settings)) (map (flat_runas_default_in_tables l.new.tables.now) (drop l.number l.others))
    (map (flat_runas_default_in_tables l.old.tables.now) l.settings) (map (flat_runas_default_in_tables l.new.tables.now) l.others)
