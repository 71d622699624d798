use Rattle.sudoers_edit.proofs.PruneRefused.{refused_drop_among_several_is_bad_splice}
use Rattle.sudoers_edit.proofs.LawsBelow.{prune_edit_laws_hold}
use Rattle.sudoers_edit.proofs.laws.drop_is_refused_for_a_splice_alone.Goals as goal

pub returns : goal.returns
returns c = λ policy line k defs f n at fault. refused_drop_among_several_is_bad_splice prune_edit_laws_hold policy f n at line k defs fault
