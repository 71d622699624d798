use Rattle.sudoers_tree.proofs.Common.{ChangesDefinedNames}
use Rattle.sudoers_tree.proofs.NameChanges.{definitions_of_first_lines}
use Rattle.sudoers_tree.proofs.defined_names_change.change_of_defined_names.Given as goal

-- The names of the first lines change so.
abbrev pub invariant-loop-line : goal.invariant-loop-line
invariant-loop-line l = ChangesDefinedNames l.tables l.change (definitions_of_first_lines l.tables l.old l.line) (definitions_of_first_lines l.tables l.new l.line)
