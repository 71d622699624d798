use Rattle.sudoers_tree.proofs.NameChanges.{definitions_of_first_rows_of_line, names_change_goes_on_to_next_definition}
use Rattle.sudoers_tree.proofs.defined_names_change.name_change_of_definitions.Goals as goal

pub loop-def-preserved : goal.loop-def-preserved
loop-def-preserved c =
    let t = c.args.tables.now in
    let n = c.loop-def.def in
    names_change_goes_on_to_next_definition t c.args.kind c.args.line c.args.old.now c.args.new.now n _ _ c.join_with_next_change-change.result c.loop-def-test.true c.if-old-new.false
    (c.join_with_next_change-change.ensures t (definitions_of_first_rows_of_line t c.args.kind c.args.line c.args.old.now n) (definitions_of_first_rows_of_line t c.args.kind c.args.line c.args.new.now n)
    _ _ c.loop-def.invariant c.name_change_of_definition.ensures)
