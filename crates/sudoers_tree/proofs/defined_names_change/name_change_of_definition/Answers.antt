use Rattle.sudoers_tree.proofs.NameChanges.{definition_of_new_row_is_renamed_one}
use Rattle.sudoers_tree.proofs.defined_names_change.name_change_of_definition.Goals as goal

pub returns : goal.returns
returns c = definition_of_new_row_is_renamed_one c.args.tables.now c.args.kind c.args.place c.args.old.now c.args.new.now
