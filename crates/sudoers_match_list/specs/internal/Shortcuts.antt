-- A device of the proof, which no public contract cites: shortcuts through chains of aliases that have one member each.
use Rattle.std.specs.Prelude.{◌≡◌, ◌<◌, ◌≤◌, ◌+◌, ℕ, Bool, List, [], length, map, Option, Some, None, slice_get}
use Rattle.sudoers_grammar.specs.declared.node.Kind.{Kind}
use Rattle.sudoers_grammar.specs.declared.node.Kind.TheVariants.{User}
use Rattle.sudoers_grammar.specs.declared.node.Atom.{Atom}
use Rattle.sudoers_grammar.specs.Node.{Def, Member, Node}
use Rattle.sudoers_line_rows.specs.declared.rows.Tables.{Tables}
use Rattle.sudoers_line_rows.specs.Tables.{member_in_tables}
use Rattle.sudoers_tree.specs.Line.{Line}
use Rattle.sudoers_tree.specs.Definition.{PlacedDefinition, definitions_of_lines, definitions_in_line}
use Rattle.sudoers_match_list.specs.Flat.{alias_members_of_atom}
use Rattle.sudoers_match_list.specs.Search.{members_of_definition_number}
use Rattle.sudoers_match_list.specs.Flattened.{member_under_negation, list_expanded_n_times}
use Rattle.sudoers_match_list.specs.declared.expansion_source.AliasChainEnds.{AliasChainEnds}
use Rattle.sudoers_match_list.specs.declared.definition_rows.DefinitionKindAndMembers.{DefinitionKindAndMembers}
use Rattle.sudoers_match_list.specs.declared.alias_shortcuts.AliasShortcut.{AliasShortcut}
use Rattle.sudoers_match_list.specs.internal.Parts.{expansion_steps}

-- ---- definitions, of which kind and members are asked

abbrev pub kind_and_members_of_def : Kind → Def → Kind × List Member
kind_and_members_of_def k d = (k, d.members)

abbrev pub kind_and_members_of_definition : PlacedDefinition → Kind × List Member
kind_and_members_of_definition d = kind_and_members_of_def d.kind d.def

abbrev pub kinds_and_members_in_node : Node → List (Kind × List Member)
kinds_and_members_in_node n = map kind_and_members_of_definition (definitions_in_line 0 n)

abbrev pub kinds_and_members_in_line : Option Line → List (Kind × List Member)
kinds_and_members_in_line None = []
kinds_and_members_in_line (Some line) = kinds_and_members_in_node line.node

abbrev pub kind_and_members_of_row : Tables → DefinitionKindAndMembers → Kind × List Member
kind_and_members_of_row t d = (d.kind, map (member_in_tables t) d.members.now)

abbrev pub kind_of_definition_or_user : Option PlacedDefinition → Kind
kind_of_definition_or_user None = User
kind_of_definition_or_user (Some d) = d.kind

-- the kind of the definition with this number
abbrev pub kind_of_definition_at : List Line → ℕ → Kind
kind_of_definition_at lines n = kind_of_definition_or_user (slice_get (definitions_of_lines lines) n)

-- ---- shortcuts

-- So many replacements turn the first list into the second, and it takes fewer steps to write the second.
pub record IsListReachedByExpansions (k : Kind) (lines : List Line) (times : ℕ) (negated : Bool) (ms ns : List Member) : Type 0 where
  pub same : (j : ℕ) → list_expanded_n_times (times + j) k lines ms ≡ map (member_under_negation negated) (list_expanded_n_times j k lines ns)
  pub fewer : (j : ℕ) → expansion_steps j k lines ns ≤ expansion_steps (times + j) k lines ms

-- It leads from the definition with this number to one of the same kind.
pub record IsDefinitionShortcut (lines : List Line) (n : ℕ) (s : AliasShortcut) : Type 0 where
  pub within : s.to < length (definitions_of_lines lines)
  pub of_kind : kind_of_definition_at lines s.to ≡ kind_of_definition_at lines n
  pub leads : IsListReachedByExpansions (kind_of_definition_at lines n) lines s.times s.negated (members_of_definition_number lines n) (members_of_definition_number lines s.to)

-- Each definition has the shortcut with its number.
pub record AreDefinitionShortcuts (lines : List Line) (ss : List AliasShortcut) : Type 0 where
  pub size : length ss ≡ length (definitions_of_lines lines)
  pub each : (n : ℕ) (s : AliasShortcut) → slice_get ss n ≡ Some s → IsDefinitionShortcut lines n s

-- The chain begins with the alias that the atom names.
pub record AreEndsOfAliasChainOfAtom (k : Kind) (lines : List Line) (t : Tables) (a : Atom) (c : AliasChainEnds) : Type 0 where
  pub found : alias_members_of_atom k lines a ≡ Some (map (member_in_tables t) c.first.now)
  pub leads : IsListReachedByExpansions k lines c.times c.negated (map (member_in_tables t) c.first.now) (map (member_in_tables t) c.last.now)
