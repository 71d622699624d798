use Rattle.sudoers_tree.proofs.Common.{Line, List, ap, fault_of_numbered_file, first_of_two_faults, line_of_view, lines_of_numbered_file, option_map, parsed_files_of_view, sym, syntax_fault_as_read_fault, ◌∙◌}
use Rattle.sudoers_tree.proofs.OffWalk.{reserved_name_fault_is_of_line_or_rest}
use Rattle.sudoers_tree.proofs.files.FilesInTables.fault_of_unreached_file.Goals as goal

pub returns-in-Some-2 : goal.returns-in-Some-2
returns-in-Some-2 c =
    let lines : List Line = lines_of_numbered_file (parsed_files_of_view c.args.self.now) c.args.file in
    sym (ap (λ o. first_of_two_faults o (option_map syntax_fault_as_read_fault (fault_of_numbered_file (parsed_files_of_view c.args.self.now) c.args.file)))
    (sym c.loop-line.invariant ∙ reserved_name_fault_is_of_line_or_rest lines c.loop-line.line (line_of_view c.in-Some.line) _ (sym c.in-Some.ensures) (sym c.in_ok-fault.ensures ∙ c.in-Some-2.is)))

pub loop-line-preserved : goal.loop-line-preserved
loop-line-preserved c =
    let lines : List Line = lines_of_numbered_file (parsed_files_of_view c.args.self.now) c.args.file in
    sym (reserved_name_fault_is_of_line_or_rest lines c.loop-line.line (line_of_view c.in-Some.line) _ (sym c.in-Some.ensures) (sym c.in_ok-fault.ensures ∙ c.in_default-2.is)) ∙ c.loop-line.invariant
