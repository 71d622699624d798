use Rattle.sudoers_tree.proofs.MappedWalk.{walk_of_mapped_files_is_mapped_walk, walk_found_of_mapped_files_is_mapped_walk}
use Rattle.sudoers_tree.proofs.laws.walk_is_mapped.Goals as goal

pub returns-clause-stands : goal.returns-clause-stands
returns-clause-stands c = walk_of_mapped_files_is_mapped_walk

pub returns-clause-agrees : goal.returns-clause-agrees
returns-clause-agrees c = walk_found_of_mapped_files_is_mapped_walk
