use Rattle.sudoers_edit.proofs.Common.{length, rules, ◌<◌, ◌∙◌}
use Rattle.sudoers_edit.proofs.RenameSwaps.{rename_changes_continue_with_next_file}
use Rattle.sudoers_edit.proofs.rename_plan.list_rename_changes.Goals as goal

pub loop-file-preserved : goal.loop-file-preserved
loop-file-preserved c =
    let less : c.loop-file.file < length c.args.policy.now.files = search rules in
    rename_changes_continue_with_next_file c.loop-file.changes.items c.append_rename_changes_if_on_walk.new.changes.items c.loop-file.file c.args.kind c.args.name.now c.args.fresh.now
    c.args.policy.now.walk c.args.policy.now.files less c.in_ok-append_rename_changes_if_on_walk.ensures
    ∙ c.loop-file.invariant
