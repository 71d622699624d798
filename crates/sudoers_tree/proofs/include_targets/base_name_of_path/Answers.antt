use Rattle.sudoers_tree.proofs.Folders.{name_up_to_last_slash_is_folder, name_without_slash_has_empty_folder}
use Rattle.sudoers_tree.proofs.Numbered.{bytes_after_last_slash_are_base_name, name_without_folder_is_base_name}
use Rattle.sudoers_tree.proofs.include_targets.base_name_of_path.Goals as goal

pub returns-in-Some : goal.returns-in-Some
returns-in-Some c =
    bytes_after_last_slash_are_base_name c.args.name.now c.in-Some.at c.in-Some.ensures.0.high (name_up_to_last_slash_is_folder c.args.name.now c.in-Some.at c.in-Some.ensures.0 c.in-Some.ensures.1)

pub returns-in-None : goal.returns-in-None
returns-in-None c = name_without_folder_is_base_name c.args.name.now (name_without_slash_has_empty_folder c.args.name.now c.in-None.ensures)
