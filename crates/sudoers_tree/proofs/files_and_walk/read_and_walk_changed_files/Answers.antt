use Rattle.sudoers_tree.proofs.Common.{Tables, ap, file_names, files_before_change, table_growth_is_transitive, map, parsed_file_of_rows, sym, ◌∙◌}
use Rattle.sudoers_tree.proofs.FileRows.{grown_tables_keep_parsed_files}
use Rattle.sudoers_tree.proofs.WalksBefore.{parsed_changed_files_keep_names, grown_tables_keep_walk_before_change}
use Rattle.sudoers_tree.proofs.files_and_walk.read_and_walk_changed_files.Goals as goal

pub find_walk_after_change-requires-clause-before : goal.find_walk_after_change-requires-clause-before
find_walk_after_change-requires-clause-before c =
    grown_tables_keep_walk_before_change table_growth_is_transitive c.args.tables.now c.read_files_with_changes.new.tables c.in_ok-files.ensures.grown c.args.before.now c.requires.files c.requires.before

pub find_walk_after_change-requires-clause-names : goal.find_walk_after_change-requires-clause-names
find_walk_after_change-requires-clause-names c =
    let t : Tables = c.args.tables.now in
    let u : Tables = c.read_files_with_changes.new.tables in
    ap (λ rows. file_names (map (parsed_file_of_rows u) rows)) c.as_slice.ensures.value
    ∙ parsed_changed_files_keep_names c.args.changes.now (files_before_change t c.args.before.now) (map (parsed_file_of_rows u) c.in_ok-files.files.items) c.in_ok-files.ensures.read.0
    ∙ ap file_names (sym (grown_tables_keep_parsed_files t u c.in_ok-files.ensures.grown c.args.before.now.files.now c.requires.files))
