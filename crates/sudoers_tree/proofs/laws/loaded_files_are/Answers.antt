use Rattle.sudoers_tree.proofs.Known.{loaded_policy_keeps_names_and_bytes}
use Rattle.sudoers_tree.proofs.ParsedFiles.{loaded_files_are_parsed_without_fault}
use Rattle.sudoers_tree.proofs.laws.loaded_files_are.Goals as goal

pub returns-clause-bytes : goal.returns-clause-bytes
returns-clause-bytes c = loaded_policy_keeps_names_and_bytes

pub returns-clause-parse : goal.returns-clause-parse
returns-clause-parse c = loaded_files_are_parsed_without_fault
