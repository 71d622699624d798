use Rattle.sudoers_tree.proofs.Common.{All, KeepsLineCountWithoutFault, parsed_files_of_view, rules, subst, take_all}
use Rattle.sudoers_tree.proofs.KeptRows.{property_of_front_extends_to_next_item}
use Rattle.sudoers_tree.proofs.in_place_update.are_line_counts_kept_without_fault.Goals as goal

pub loop-file-preserved : goal.loop-file-preserved
loop-file-preserved c =
    property_of_front_extends_to_next_item (KeepsLineCountWithoutFault (parsed_files_of_view c.args.old.now) (parsed_files_of_view c.args.new.now)) c.args.on.now c.loop-file.file-index 0 (search rules) c.loop-file.invariant (search rules)

pub returns : goal.returns
returns c = λ is.
    subst (All (KeepsLineCountWithoutFault (parsed_files_of_view c.args.old.now) (parsed_files_of_view c.args.new.now))) (take_all c.loop-file.file-index c.args.on.now (search rules)) c.loop-file.invariant
