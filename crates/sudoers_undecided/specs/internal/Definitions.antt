-- A device of the proof, which no public contract cites: definitions, of which kind and members are asked.
use Rattle.std.specs.Prelude.{◌≡◌, List, map}
use Rattle.sudoers_grammar.specs.declared.node.Kind.{Kind}
use Rattle.sudoers_grammar.specs.Node.{Def, Member}
use Rattle.sudoers_line_rows.specs.View.{members_of_view}
use Rattle.sudoers_tree.specs.Line.{Line}
use Rattle.sudoers_tree.specs.Definition.{PlacedDefinition, definitions_of_lines}
use Rattle.sudoers_undecided.specs.declared.definitions.DefinitionOnLine.{DefinitionOnLine}

abbrev pub kind_and_members_of_def : Kind → Def → Kind × List Member
kind_and_members_of_def k d = (k, d.members)

abbrev pub kind_and_members_of_definition : PlacedDefinition → Kind × List Member
kind_and_members_of_definition d = kind_and_members_of_def d.kind d.def

abbrev pub kind_and_members_held : DefinitionOnLine → Kind × List Member
kind_and_members_held d = (d.kind, members_of_view d.members)

-- These are the definitions of the lines, by their numbers.
abbrev pub HoldsDefinitions : List Line → List DefinitionOnLine → Type 0
HoldsDefinitions lines ds = map kind_and_members_held ds ≡ map kind_and_members_of_definition (definitions_of_lines lines)
