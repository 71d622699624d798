use Rattle.sudoers_line_rows.proofs.Growth.{table_growth_is_transitive}
use Rattle.sudoers_line_reader.proofs.commands.read_command_after_digests.Goals as goal

pub returns-clause-grown : goal.returns-clause-grown
returns-clause-grown c = table_growth_is_transitive _ _ _ c.in_ok-word.ensures.grown c.read_optional_arguments_into_member.ensures.grown
