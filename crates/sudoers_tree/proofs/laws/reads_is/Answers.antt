use Rattle.sudoers_tree.proofs.ReadsLines.{lines_parsed_until_fault_are_unique, computed_lines_are_parsed_until_fault}
use Rattle.sudoers_tree.proofs.laws.reads_is.Goals as goal

pub returns-clause-is : goal.returns-clause-is
returns-clause-is c = computed_lines_are_parsed_until_fault c.outcome_is.ensures

pub returns-clause-one : goal.returns-clause-one
returns-clause-one c = lines_parsed_until_fault_are_unique c.outcome_is.ensures c.one_reading.ensures c.no_fault.ensures c.one_fault.ensures
