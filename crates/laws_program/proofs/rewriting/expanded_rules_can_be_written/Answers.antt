use Rattle.laws_program.proofs.Written.{expanded_rules_are_writable}
use Rattle.laws_program.proofs.rewriting.expanded_rules_can_be_written.Goals as goal

pub returns : goal.returns
returns c = expanded_rules_are_writable c.read_can_be_written.ensures c.writable_is_kept.ensures.sign
