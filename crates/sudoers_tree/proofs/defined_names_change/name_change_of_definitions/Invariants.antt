use Rattle.sudoers_tree.proofs.Common.{ChangesDefinedNames}
use Rattle.sudoers_tree.proofs.NameChanges.{definitions_of_first_rows_of_line}
use Rattle.sudoers_tree.proofs.defined_names_change.name_change_of_definitions.Given as goal

-- The first definitions change so.
abbrev pub invariant-loop-def : goal.invariant-loop-def
invariant-loop-def l = ChangesDefinedNames l.tables l.change (definitions_of_first_rows_of_line l.tables l.kind l.line l.old l.def) (definitions_of_first_rows_of_line l.tables l.kind l.line l.new l.def)
