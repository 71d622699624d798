use Rattle.sudoers_line_rows.specs.Tables.{digests_of_range_in_tables}
use Rattle.sudoers_line_rows.proofs.Growth.{table_growth_is_transitive}
use Rattle.sudoers_line_reader.proofs.WordRows.{first_token_tells_presence_of_digests}
use Rattle.sudoers_line_reader.proofs.commands.CommandReaderRowReader.read.Goals as goal

pub read_command_after_digests-requires-clause-tells : goal.read_command_after_digests-requires-clause-tells
read_command_after_digests-requires-clause-tells c =
    first_token_tells_presence_of_digests c.args.cursor.now (digests_of_range_in_tables c.read_optional_digests.new.tables c.in_ok-digests.digests) c.read_optional_digests.new.cursor c.is_at_digest_kind-has_digests.result c.is_at_digest_kind-has_digests.ensures c.in_ok-digests.ensures.reads.0

pub returns-in_err-row-clause-grown : goal.returns-in_err-row-clause-grown
returns-in_err-row-clause-grown c = table_growth_is_transitive _ _ _ c.in_ok-digests.ensures.grown c.in_err-row.ensures.grown

pub returns-clause-grown : goal.returns-clause-grown
returns-clause-grown c = table_growth_is_transitive _ _ _ c.in_ok-digests.ensures.grown c.in_ok-row.ensures.grown
