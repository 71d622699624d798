use Rattle.sudoers_tree.proofs.NameChanges.{definitions_of_first_lines, names_change_goes_on_to_next_line, names_change_keeps_over_line_of_same_text}
use Rattle.sudoers_tree.proofs.defined_names_change.change_of_defined_names.Goals as goal

pub loop-line-preserved-then-shares_text_bytes_with : goal.loop-line-preserved-then-shares_text_bytes_with
loop-line-preserved-then-shares_text_bytes_with c =
    names_change_keeps_over_line_of_same_text c.args.tables.now c.args.old.now c.args.new.now c.loop-line.line _ _ c.loop-line.change c.loop-line-test.true c.requires.count
    c.requires.olds c.requires.news (c.shares_text_bytes_with.ensures c.if-shares_text_bytes_with.true) c.loop-line.invariant

pub loop-line-preserved : goal.loop-line-preserved
loop-line-preserved c =
    let t = c.args.tables.now in
    let n = c.loop-line.line in
    names_change_goes_on_to_next_line t c.args.old.now c.args.new.now n _ _ c.join_with_next_change-change.result c.loop-line-test.true c.requires.count
    (c.join_with_next_change-change.ensures t (definitions_of_first_lines t c.args.old.now n) (definitions_of_first_lines t c.args.new.now n) _ _ c.loop-line.invariant c.name_change_of_line.ensures)
