use Rattle.sudoers_match_list.proofs.Common.{slice_get-get_or}
use Rattle.sudoers_match_list.proofs.Shortened.{definition_row_is_of_numbered_definition, pushed_shortcut_extends_first_shortcuts}
use Rattle.sudoers_match_list.proofs.alias_shortcuts.find_one_step_or_self_shortcuts.Goals as goal

pub find_one_step_or_self_shortcut-requires-clause-kind : goal.find_one_step_or_self_shortcut-requires-clause-kind
find_one_step_or_self_shortcut-requires-clause-kind c =
    let n = c.loop-number.number in
    (definition_row_is_of_numbered_definition c.args.tables.now c.args.rows.now c.args.policy.now n _ c.requires (slice_get-get_or c.args.rows.now n _ c.loop-number-test.true)).0

pub find_one_step_or_self_shortcut-requires-clause-members : goal.find_one_step_or_self_shortcut-requires-clause-members
find_one_step_or_self_shortcut-requires-clause-members c =
    let n = c.loop-number.number in
    (definition_row_is_of_numbered_definition c.args.tables.now c.args.rows.now c.args.policy.now n _ c.requires (slice_get-get_or c.args.rows.now n _ c.loop-number-test.true)).1

pub loop-number-preserved : goal.loop-number-preserved
loop-number-preserved c =
    pushed_shortcut_extends_first_shortcuts c.args.policy.now c.loop-number.number c.loop-number.all.items c.push.new.self.items c.find_one_step_or_self_shortcut.result
    c.in_ok-push.ensures.items c.find_one_step_or_self_shortcut.ensures c.loop-number.invariant
