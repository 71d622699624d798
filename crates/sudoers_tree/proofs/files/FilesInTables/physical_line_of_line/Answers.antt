use Rattle.sudoers_tree.proofs.Common.{Line, List, arith, length, lines_of_numbered_file, min, parsed_files_of_view, rules, ◌<◌, ◌∙◌, ◌≡◌}
use Rattle.sudoers_tree.proofs.Numbered.{item_below_length_exists}
use Rattle.sudoers_tree.proofs.LineRows.{physical_line_past_last_is_that_after_all}
use Rattle.sudoers_tree.proofs.files.FilesInTables.physical_line_of_line.Goals as goal

pub loop-line-preserved : goal.loop-line-preserved
loop-line-preserved c =
    let lines : List Line = lines_of_numbered_file (parsed_files_of_view c.args.self.now) c.args.file in
    let bound : c.min-line-end.result ≡ min c.args.number (length lines) = search rules in
    let less : c.loop-line.line < c.min-line-end.result = search rules in
    let at = item_below_length_exists lines c.loop-line.line (omega (arith, less, bound)) in
    c.physical_line_of_next_file_line-row.ensures at.0 at.1

pub returns : goal.returns
returns c =
    let lines : List Line = lines_of_numbered_file (parsed_files_of_view c.args.self.now) c.args.file in
    let bound : c.loop-line.line ≡ min c.args.number (length lines) = search rules in
    c.loop-line.invariant ∙ physical_line_past_last_is_that_after_all lines c.args.number c.loop-line.line bound
