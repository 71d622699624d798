use Rattle.std.proofs.Common.{Bool, ◌&&◌, sym, ap, ◌∙◌}
use Rattle.std.specs.Str.{bytes_eq}
use Rattle.sudoers_compare.specs.FlatDefaults.{flat_runas_default_in_tables}
use Rattle.sudoers_compare.proofs.SameSettings.{settings_are_same_if_decided}
use Rattle.sudoers_compare.proofs.flat_defaults.is_same_runas_default.Goals as goal

pub returns-then-is_same_flat_scope : goal.returns-then-is_same_flat_scope
returns-then-is_same_flat_scope c =
    let setting = flat_runas_default_in_tables c.args.tables.now c.args.setting.now in
    let other = flat_runas_default_in_tables c.args.others.now c.args.other.now in
    settings_are_same_if_decided setting other c.eq.result
    (c.eq.ensures ∙ ap (λ (same : Bool). same && bytes_eq setting.name other.name) (sym c.if-is_same_flat_scope.true ∙ c.is_same_flat_scope.ensures))

pub returns-else-is_same_flat_scope : goal.returns-else-is_same_flat_scope
returns-else-is_same_flat_scope c =
    let setting = flat_runas_default_in_tables c.args.tables.now c.args.setting.now in
    let other = flat_runas_default_in_tables c.args.others.now c.args.other.now in
    settings_are_same_if_decided setting other c.is_same_flat_scope.result
    (c.if-is_same_flat_scope.false ∙ ap (λ (same : Bool). same && bytes_eq setting.name other.name) (sym c.if-is_same_flat_scope.false ∙ c.is_same_flat_scope.ensures))
