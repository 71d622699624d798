-- What is shown of a policy.
use Rattle.std.specs.Prelude.{ℕ, ◌+◌, List, [], ◌∷◌, ◌++◌, length, codes}
use Rattle.std.specs.Fmt.{decimal}
use Rattle.sudoers_text.specs.Fault.{lf_count}
use Rattle.sudoers_grammar.specs.declared.node.Kind.{Kind}
use Rattle.sudoers_grammar.specs.Node.{Def, Node}
use Rattle.sudoers_grammar.specs.Node as node
use Rattle.sudoers_tree.specs.declared.line_kind.LineKind.{LineKind}
use Rattle.sudoers_tree.specs.declared.line_kind.LineKind.TheVariants as kind
use Rattle.sudoers_tree.specs.Line.{Line}
use Rattle.sudoers_grammar.specs.Kind.{alias_line_keyword}
use Rattle.sudoers_tree.specs.Files.{ParsedFile}
use Rattle.sudoers_tree.specs.Kind.{line_kind}

abbrev pub line_kind_word : LineKind → List ℕ
line_kind_word kind.Blank = codes "blank"
line_kind_word kind.Comment = codes "comment"
line_kind_word kind.Include = codes "include"
line_kind_word kind.Defaults = codes "defaults"
line_kind_word kind.Alias = codes "alias"
line_kind_word kind.Spec = codes "spec"

-- a definition, with its number and that of its line
abbrev pub shown_alias_definition : Kind → ℕ → ℕ → Def → List ℕ
shown_alias_definition k line number d =
    decimal line ++ codes "." ++ decimal number ++ codes " " ++ alias_line_keyword k ++ codes " " ++ d.name ++ codes " "
    ++ decimal (length d.members) ++ codes "\n"

-- the definitions, numbered on from this number
abbrev pub shown_alias_definitions : Kind → ℕ → ℕ → List Def → List ℕ
shown_alias_definitions k line number [] = []
shown_alias_definitions k line number (d ∷ ds) = shown_alias_definition k line number d ++ shown_alias_definitions k line (number + 1) ds

abbrev pub shown_definitions_of_node : ℕ → Node → List ℕ
shown_definitions_of_node line (node.Alias k defs) = shown_alias_definitions k line 1 defs
shown_definitions_of_node line node.Blank = []
shown_definitions_of_node line node.Comment = []
shown_definitions_of_node line (node.Include dir path) = []
shown_definitions_of_node line (node.Defaults scope params) = []
shown_definitions_of_node line (node.Spec users groups) = []

-- a line, with its number and that of its first physical line
abbrev pub shown_line : ℕ → ℕ → Node → List ℕ
shown_line number row says =
    decimal number ++ codes " " ++ line_kind_word (line_kind says) ++ codes " " ++ decimal row ++ codes "\n"
    ++ shown_definitions_of_node number says

-- lines that are numbered from these numbers on
abbrev pub shown_lines_from_number : ℕ → ℕ → List Line → List ℕ
shown_lines_from_number number row [] = []
shown_lines_from_number number row (line ∷ lines) = shown_line number row line.node ++ shown_lines_from_number (number + 1) (row + lf_count line.text) lines

-- The lines of a file: each with its number, its kind and its first physical line, and behind it its definitions of aliases, each
-- with how many members it has. All numbers count from 1.
abbrev pub shown_lines_of_file : List Line → List ℕ
shown_lines_of_file lines = shown_lines_from_number 1 1 lines

-- what stands before the lines of a file: its number and its name
abbrev pub file_heading_text : ℕ → List ℕ → List ℕ
file_heading_text number name = codes "file " ++ decimal number ++ codes " " ++ name ++ codes "\n"

-- a file with its number, and its lines
abbrev pub shown_file_with_heading : ℕ → ParsedFile → List ℕ
shown_file_with_heading number file = file_heading_text number file.name ++ shown_lines_of_file file.lines

-- files that are numbered from this number on
abbrev pub shown_files_with_headings : ℕ → List ParsedFile → List ℕ
shown_files_with_headings number [] = []
shown_files_with_headings number (file ∷ files) = shown_file_with_heading number file ++ shown_files_with_headings (number + 1) files

-- A policy: its files, numbered from 1. Of one file only the lines are shown.
abbrev pub shown_policy_text : List ParsedFile → List ℕ
shown_policy_text [] = []
shown_policy_text (file ∷ []) = shown_lines_of_file file.lines
shown_policy_text (file ∷ other ∷ files) = shown_files_with_headings 1 (file ∷ other ∷ files)
