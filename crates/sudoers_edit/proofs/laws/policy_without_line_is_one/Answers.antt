use Rattle.sudoers_edit.proofs.Common.{CanRemoveLine}
use Rattle.sudoers_edit.proofs.PruneGoes.{leadless_line_can_be_removed}
use Rattle.sudoers_edit.proofs.LawsBelow.{prune_edit_laws_hold}
use Rattle.sudoers_edit.proofs.laws.policy_without_line_is_one.Goals as goal

pub returns : goal.returns
returns c = λ policy f n line loaded on here nowhere.
    let goes : CanRemoveLine f n policy = leadless_line_can_be_removed prune_edit_laws_hold policy f n line loaded on here nowhere in
    (goes.next, goes.made.forth, goes.left.here)
