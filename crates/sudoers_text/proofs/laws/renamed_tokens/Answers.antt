use Rattle.sudoers_text.proofs.Renamed.{renamed_line_has_moved_tokens}
use Rattle.sudoers_text.proofs.RenamedMode.{renaming_keeps_line_mode}
use Rattle.sudoers_text.proofs.RenamedLine.{renamed_line_is_logical_line, renaming_keeps_lf_end_of_line}
use Rattle.sudoers_text.proofs.laws.renamed_tokens.Goals as goal

pub returns-clause-same : goal.returns-clause-same
returns-clause-same c = renamed_line_has_moved_tokens

pub returns-clause-mode : goal.returns-clause-mode
returns-clause-mode c = renaming_keeps_line_mode

pub returns-clause-line : goal.returns-clause-line
returns-clause-line c = renamed_line_is_logical_line

pub returns-clause-ends : goal.returns-clause-ends
returns-clause-ends c = renaming_keeps_lf_end_of_line
