use Rattle.sudoers_edit_script.proofs.PhysicalLemmas.{lf_found_ends_first_line, no_lf_found_leaves_one_line}
use Rattle.sudoers_edit_script.proofs.physical_lines.first_physical_line_len.Goals as goal

pub returns-in-Some-clause-first : goal.returns-in-Some-clause-first
returns-in-Some-clause-first c = lf_found_ends_first_line c.args.text.now c.in-Some.at c.in-Some.ensures

pub returns-in-None-clause-first : goal.returns-in-None-clause-first
returns-in-None-clause-first c = no_lf_found_leaves_one_line c.args.text.now c.requires c.in-None.ensures
