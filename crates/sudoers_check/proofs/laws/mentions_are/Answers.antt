use Rattle.sudoers_check.proofs.Mentions as lemma
use Rattle.sudoers_check.proofs.laws.mentions_are.Goals as goal

pub returns : goal.returns
returns c = lemma.mentions_in_lines_are_mention_spans
