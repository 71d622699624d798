use Rattle.sudoers_tree.proofs.Common.{drop, file_inserted_in_name_order, parsed_files_of_view, take, ◌++◌, ◌≡◌}
use Rattle.sudoers_tree.proofs.include_targets.insert_file_by_name.Given as goal

-- The file stands after the files before `at`.
abbrev pub invariant-loop-at : goal.invariant-loop-at
invariant-loop-at l =
    (l.order.items ≡ l.fn.order.items)
    × (take l.at l.order.items ++ file_inserted_in_name_order (parsed_files_of_view l.files) l.file (drop l.at l.order.items) ≡ file_inserted_in_name_order (parsed_files_of_view l.files) l.file l.fn.order.items)
