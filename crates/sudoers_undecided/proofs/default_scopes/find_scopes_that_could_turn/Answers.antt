use Rattle.std.proofs.Common.{◌≡◌, ◌∙◌, ◌++◌, [], map, append-nil, refl, sym, ap, subst}
use Rattle.std.proofs.lemmas.List.{at_drop_all}
use Rattle.sudoers_line_rows.specs.View.{node_of_view}
use Rattle.sudoers_match.specs.Default.{runas_defaults_in_node, runas_defaults_of_lines}
use Rattle.sudoers_tree.specs.Line.{line_of_row}
use Rattle.sudoers_undecided.specs.internal.Counted.{AreAliasesOfRequest}
use Rattle.sudoers_undecided.specs.internal.Settings.{CountsSettings, CoversSettings}
use Rattle.sudoers_undecided.proofs.SettingCounts.{no_lists_are_turned, no_settings_count, one_line_more_counts, only_turning_atoms_are_named, setting_is_named}
use Rattle.sudoers_undecided.proofs.default_scopes.find_scopes_that_could_turn.Goals as goal

pub loop-line-init : goal.loop-line-init
loop-line-init c r a = ([], refl, no_settings_count c.args.policy.now r _)

pub loop-line-preserved : goal.loop-line-preserved
loop-line-preserved c r a =
    let lines = c.args.policy.now in
    let walk = c.lines-lines.result in
    let says = node_of_view c.node_of_row-node.result in
    let more : CountsSettings lines r c.loop-line.scopes c.add_settings_of_node.new.lists (runas_defaults_in_node says) =
    subst (λ ls. CountsSettings ls r c.loop-line.scopes c.add_settings_of_node.new.lists (runas_defaults_in_node says)) c.definition_numbers-numbers.ensures
    (c.in_ok-add_settings_of_node.ensures r (subst (λ ls. AreAliasesOfRequest ls r c.args.aliases.now) (sym c.definition_numbers-numbers.ensures) a)) in
    one_line_more_counts lines r (line_of_row walk.tables.now) walk.rows.now c.loop-line.line _ c.loop-line-test.true _ c.loop-line.scopes c.add_settings_of_node.new.lists (map (line_of_row walk.tables.now) walk.rows.now)
    (c.loop-line.invariant r a) says c.node_of_row-node.ensures more

pub returns-clause-scopes : goal.returns-clause-scopes
returns-clause-scopes c r a s t =
    let lines = c.args.policy.now in
    let walk = c.lines-lines.result in
    let w = c.loop-line.invariant r a in
    let all : runas_defaults_of_lines lines ≡ w.0 =
    ap runas_defaults_of_lines (sym c.lines-lines.ensures) ∙ w.1
    ∙ ap (λ ys. w.0 ++ ys) (at_drop_all (λ ls. runas_defaults_of_lines (map (line_of_row walk.tables.now) ls)) walk.rows.now c.loop-line.line c.loop-line-test.false) ∙ append-nil w.0 in
    setting_is_named lines r c.loop-line.scopes t.before t.after t.setting (subst (λ xs. CoversSettings lines r c.loop-line.scopes xs) (sym all ∙ t.stands) w.2.covers) t.none_behind s t.turns

pub returns-clause-only : goal.returns-clause-only
returns-clause-only c r a =
    let lines = c.args.policy.now in
    let walk = c.lines-lines.result in
    let w = c.loop-line.invariant r a in
    let all : runas_defaults_of_lines lines ≡ w.0 =
    ap runas_defaults_of_lines (sym c.lines-lines.ensures) ∙ w.1
    ∙ ap (λ ys. w.0 ++ ys) (at_drop_all (λ ls. runas_defaults_of_lines (map (line_of_row walk.tables.now) ls)) walk.rows.now c.loop-line.line c.loop-line-test.false) ∙ append-nil w.0 in
    only_turning_atoms_are_named lines r (record { users = c.new.result; hosts = c.new-2.result }) c.loop-line.scopes w.0 w.2.only c.new.ensures.items c.new-2.ensures.items all

pub returns-clause-turned : goal.returns-clause-turned
returns-clause-turned c r a = (c.loop-line.invariant r a).2.turned (no_lists_are_turned c.args.policy.now r (record { users = c.new.result; hosts = c.new-2.result }) c.new.ensures.items c.new-2.ensures.items)
