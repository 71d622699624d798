use Rattle.std.proofs.Common.{◌≡◌, ◌∙◌, true, false, sym}
use Rattle.sudoers_edit_script.specs.declared.edit.Edit.TheVariants.{Prune}
use Rattle.laws_edit.proofs.OtherLines.{accepted_prune_keeps_other_lines}
use Rattle.laws_edit.proofs.laws.prune_keeps_other_lines_of_each_file.Goals as goal

pub returns-clause-others : goal.returns-clause-others
returns-clause-others c = accepted_prune_keeps_other_lines

pub returns-clause-off : goal.returns-clause-off
returns-clause-off c policy new f loaded is off =
    c.edits_keep_other_files.ensures Prune policy new f loaded is (λ on. let both : true ≡ false = sym on ∙ off in absurd cc)
