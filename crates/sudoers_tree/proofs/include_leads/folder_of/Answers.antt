use Rattle.sudoers_tree.proofs.Common.{sym}
use Rattle.sudoers_tree.proofs.Folders.{name_up_to_last_slash_is_folder, name_without_slash_has_empty_folder}
use Rattle.sudoers_tree.proofs.include_leads.folder_of.Goals as goal

pub returns-in-Some : goal.returns-in-Some
returns-in-Some c = name_up_to_last_slash_is_folder c.args.name.now c.in-Some.at c.in-Some.ensures.0 c.in-Some.ensures.1

pub returns-in-None : goal.returns-in-None
returns-in-None c = sym (name_without_slash_has_empty_folder c.args.name.now c.in-None.ensures)
