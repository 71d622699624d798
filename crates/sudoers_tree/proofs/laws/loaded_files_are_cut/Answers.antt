use Rattle.sudoers_tree.proofs.CutFiles.{loaded_lines_are_cut_from_their_join}
use Rattle.sudoers_tree.proofs.laws.loaded_files_are_cut.Goals as goal

pub returns : goal.returns
returns c = loaded_lines_are_cut_from_their_join c.cut_is.ensures c.reads_is.ensures.is c.lines_of_join.ensures
