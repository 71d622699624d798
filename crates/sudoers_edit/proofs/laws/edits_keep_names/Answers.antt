use Rattle.sudoers_edit.proofs.Common.{loaded_policy_keeps_names_and_bytes}
use Rattle.sudoers_edit.proofs.NameLemmas.{run_keeps_file_names}
use Rattle.sudoers_edit.proofs.laws.edits_keep_names.Goals as goal

pub returns : goal.returns
returns c = run_keeps_file_names loaded_policy_keeps_names_and_bytes 0
