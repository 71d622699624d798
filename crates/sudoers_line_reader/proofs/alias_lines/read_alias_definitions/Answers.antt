use Rattle.sudoers_line_reader.proofs.Loops.{next_definition_reader_consumes_tokens}
use Rattle.sudoers_line_reader.proofs.alias_lines.read_alias_definitions.Goals as goal

pub read_separated_rows-requires : goal.read_separated_rows-requires
read_separated_rows-requires c = next_definition_reader_consumes_tokens c.args.kind
