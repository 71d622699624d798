use Rattle.sudoers_line_reader.proofs.Loops.{next_member_reader_consumes_tokens}
use Rattle.sudoers_line_reader.proofs.members.read_member_list.Goals as goal

pub read_separated_rows-requires : goal.read_separated_rows-requires
read_separated_rows-requires c = next_member_reader_consumes_tokens c.args.kind
