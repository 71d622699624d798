use Rattle.sudoers_edit_script.proofs.WordLemmas.{space_found_ends_first_word, no_space_found_leaves_one_word}
use Rattle.sudoers_edit_script.proofs.script_line.first_word_len.Goals as goal

pub returns-in-Some-clause-first : goal.returns-in-Some-clause-first
returns-in-Some-clause-first c = space_found_ends_first_word c.args.text.now c.in-Some.at c.in-Some.ensures

pub returns-in-None-clause-first : goal.returns-in-None-clause-first
returns-in-None-clause-first c = no_space_found_leaves_one_word c.args.text.now c.in-None.ensures
