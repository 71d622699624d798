use Rattle.sudoers_edit.proofs.Common.{named_files_of_policy}
use Rattle.sudoers_edit.proofs.PrunedWalk.{refused_prune_is_bad_splice}
use Rattle.sudoers_edit.proofs.FilesBelow.{loaded_walk_is_walk_of_files, parsed_lines_of_equal_texts_are_equal}
use Rattle.sudoers_edit.proofs.LawsBelow.{prune_edit_laws_hold}
use Rattle.sudoers_edit.proofs.laws.prune_is_refused_for_a_splice_alone.Goals as goal

pub returns : goal.returns
returns c = λ policy fault loaded. refused_prune_is_bad_splice prune_edit_laws_hold parsed_lines_of_equal_texts_are_equal policy fault loaded (loaded_walk_is_walk_of_files (named_files_of_policy policy) policy loaded)
