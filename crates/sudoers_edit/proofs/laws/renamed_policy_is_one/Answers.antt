use Rattle.sudoers_edit.proofs.RenameOutcomes.{renamed_files_within_limits_load}
use Rattle.sudoers_edit.proofs.RenameSizes.{LoadsRenamedFiles}
use Rattle.sudoers_edit.proofs.LawsBelow.{rename_size_laws_hold}
use Rattle.sudoers_edit.proofs.laws.renamed_policy_is_one.Goals as goal

pub returns : goal.returns
returns c kind name fresh policy loaded some new free within =
    let loads : LoadsRenamedFiles kind name fresh policy = renamed_files_within_limits_load rename_size_laws_hold kind name fresh policy loaded some new free within in
    (loads.new, loads.is, loads.renamed_is)
