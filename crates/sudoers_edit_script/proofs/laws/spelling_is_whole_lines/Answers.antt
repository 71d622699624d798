use Rattle.sudoers_edit_script.proofs.WholeLines.{spelling_is_split_before_any_text, spelling_lines_have_no_leading_percent}
use Rattle.sudoers_edit_script.proofs.laws.spelling_is_whole_lines.Goals as goal

pub returns-clause-before : goal.returns-clause-before
returns-clause-before c = spelling_is_split_before_any_text

pub returns-clause-plain : goal.returns-clause-plain
returns-clause-plain c = spelling_lines_have_no_leading_percent
