use Rattle.sudoers_edit.proofs.Common.{named_files_of_policy}
use Rattle.sudoers_edit.proofs.PrunedWalk.{accepted_prune_leaves_pruned_lines}
use Rattle.sudoers_tree.proofs.MappedWalk.{walk_found_of_mapped_files_is_mapped_walk}
use Rattle.sudoers_edit.proofs.FilesBelow.{loaded_walk_is_walk_of_files, parsed_lines_of_equal_texts_are_equal}
use Rattle.sudoers_edit.proofs.LawsBelow.{prune_edit_laws_hold}
use Rattle.sudoers_edit.proofs.laws.prune_leaves_the_used.Goals as goal

pub returns : goal.returns
returns c = λ policy new loaded is.
    accepted_prune_leaves_pruned_lines prune_edit_laws_hold parsed_lines_of_equal_texts_are_equal walk_found_of_mapped_files_is_mapped_walk policy new loaded (λ now same. loaded_walk_is_walk_of_files (named_files_of_policy now) now same) is
