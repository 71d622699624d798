use Rattle.sudoers_edit.proofs.NamedLaw.{inverse_of_run_has_spellable_names, edits_read_from_text_have_spellable_names, script_of_named_edits_is_spelling}
use Rattle.sudoers_edit.proofs.laws.named_are_written.Goals as goal

pub returns-clause-read : goal.returns-clause-read
returns-clause-read c = edits_read_from_text_have_spellable_names c.read_is_spelling.ensures

pub returns-clause-back : goal.returns-clause-back
returns-clause-back c = inverse_of_run_has_spellable_names

pub returns-clause-written : goal.returns-clause-written
returns-clause-written c = script_of_named_edits_is_spelling
