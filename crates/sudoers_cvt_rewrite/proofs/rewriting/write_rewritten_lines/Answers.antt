use Rattle.sudoers_cvt_rewrite.proofs.rewriting.write_rewritten_lines.Goals as goal

pub returns-clause-lines : goal.returns-clause-lines
returns-clause-lines c = c.write_lines_with_matcher.ensures.lines

pub returns-clause-counted : goal.returns-clause-counted
returns-clause-counted c = c.write_lines_with_matcher.ensures.counted

pub returns-clause-fault : goal.returns-clause-fault
returns-clause-fault c = c.write_lines_with_matcher.ensures.fault
