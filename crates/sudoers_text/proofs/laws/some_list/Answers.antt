use Rattle.sudoers_text.proofs.Computed.{every_text_has_logical_lines}
use Rattle.sudoers_text.proofs.laws.some_list.Goals as goal

pub returns : goal.returns
returns c = every_text_has_logical_lines
