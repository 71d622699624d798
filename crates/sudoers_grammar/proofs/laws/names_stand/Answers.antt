use Rattle.sudoers_grammar.proofs.NamesStand.{alias_name_stands_at_each_offset, alias_name_offsets_are_ordered}
use Rattle.sudoers_grammar.proofs.laws.names_stand.Goals as goal

pub returns-clause-stands : goal.returns-clause-stands
returns-clause-stands c = alias_name_stands_at_each_offset c.tokens_ascend.ensures

pub returns-clause-ascend : goal.returns-clause-ascend
returns-clause-ascend c = alias_name_offsets_are_ordered c.tokens_ascend.ensures
