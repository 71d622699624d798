use Rattle.sudoers_tree.proofs.MappedLoad.{mapped_files_load_as_mapped_policy}
use Rattle.sudoers_tree.proofs.laws.mapped_files_load.Goals as goal

pub returns : goal.returns
returns c =
    mapped_files_load_as_mapped_policy c.cut_is.ensures c.reads_is.ensures.is c.reads_is.ensures.one c.lines_of_join.ensures c.outcome_is.ensures
