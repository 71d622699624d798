use Rattle.sudoers_explain.proofs.FaultsWithin.{line_syntax_fault_is_within_line}
use Rattle.sudoers_explain.proofs.laws.fault_is_within_line.Goals as goal

pub returns : goal.returns
returns c line at w f = line_syntax_fault_is_within_line c.tokens_ascend.ensures line at w f
