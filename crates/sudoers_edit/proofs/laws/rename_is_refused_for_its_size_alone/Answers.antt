use Rattle.sudoers_edit.proofs.RenameOutcomes.{refused_rename_is_too_large}
use Rattle.sudoers_edit.proofs.LawsBelow.{rename_size_laws_hold}
use Rattle.sudoers_edit.proofs.laws.rename_is_refused_for_its_size_alone.Goals as goal

pub returns : goal.returns
returns c kind name fresh policy fault loaded some new free is =
    refused_rename_is_too_large rename_size_laws_hold kind name fresh policy fault (record { loaded = loaded; some = some; new = new; free = free }) is
