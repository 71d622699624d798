use Rattle.sudoers_edit.proofs.RenameOutcomes.{rename_made_gives_renamed_policy, rename_made_is_undone_by_reverse_rename, rename_within_limits_is_made}
use Rattle.sudoers_edit.proofs.LawsBelow.{rename_size_laws_hold}
use Rattle.sudoers_edit.proofs.laws.rename_is_taken_back.Goals as goal

pub returns-clause-forth : goal.returns-clause-forth
returns-clause-forth c kind name fresh policy loaded some new free within =
    rename_within_limits_is_made rename_size_laws_hold kind name fresh policy (record { loaded = loaded; some = some; new = new; free = free }) within

pub returns-clause-are : goal.returns-clause-are
returns-clause-are c kind name fresh policy new loaded is = rename_made_gives_renamed_policy rename_size_laws_hold kind name fresh policy new loaded is

pub returns-clause-back : goal.returns-clause-back
returns-clause-back c kind name fresh policy new loaded is = rename_made_is_undone_by_reverse_rename rename_size_laws_hold kind name fresh policy new loaded is
