use Rattle.sudoers_edit.proofs.Common.{drop, rename_changes_in_files, ◌++◌, ◌≡◌}
use Rattle.sudoers_edit.proofs.rename_plan.list_rename_changes.Given as goal

abbrev pub invariant-loop-file : goal.invariant-loop-file
invariant-loop-file l =
    l.changes.items ++ rename_changes_in_files l.file l.kind l.name l.fresh l.policy.walk (drop l.file l.policy.files)
    ≡ rename_changes_in_files 0 l.kind l.name l.fresh l.policy.walk l.policy.files
