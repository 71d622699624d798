use Rattle.sudoers_edit.proofs.LawsApplied.{loaded_file_lines_are_sound}
use Rattle.sudoers_edit.proofs.edit_plan.line_count.Goals as goal

pub returns-clause-ended : goal.returns-clause-ended
returns-clause-ended c = (loaded_file_lines_are_sound c.args.policy.now c.is_loaded.ensures c.args.file).ended
