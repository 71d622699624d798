use Rattle.std.proofs.Common.{sym, subst}
use Rattle.sudoers_edit_script.proofs.ScriptLemmas.{text_read_as_edits_is_their_spelling}
use Rattle.sudoers_edit.specs.Named.{HaveSpellableNames}
use Rattle.sudoers_edit.proofs.NamedLaw.{edits_read_from_text_have_spellable_names}
use Rattle.sudoers_run.proofs.edit.make_edit_output_of_files.Goals as goal

pub make_edit_output_after_undo_redo-requires : goal.make_edit_output_after_undo_redo-requires
make_edit_output_after_undo_redo-requires c =
    subst HaveSpellableNames (sym c.as_slice.ensures) (edits_read_from_text_have_spellable_names text_read_as_edits_is_their_spelling c.args.script.now c.in_ok-edits.edits c.in_ok-edits.ensures.reading)
