-- The policy of several files with another name for an alias.
use Rattle.std.specs.List.{AllByRecursion}
use Rattle.std.specs.Prelude.{ℕ, ◌≤◌, List, length, map, ◌≡◌, ◌+◌, true, if◌then◌else◌, [], ◌∷◌}
use Rattle.sudoers_text.specs.Fault.{line_limit, text_limit}
use Rattle.sudoers_text.specs.Line.{join}
use Rattle.sudoers_grammar.specs.declared.node.Kind.{Kind}
use Rattle.sudoers_grammar.specs.Renamed.{NamedAlias, node_with_alias_renamed, line_text_after_rename, renaming_of_alias_in_node}
use Rattle.sudoers_tree.specs.Line.{Line}
use Rattle.sudoers_tree.specs.Definition.{is_equal_kind}
use Rattle.sudoers_tree.specs.Files.{ParsedFile, lines_of_numbered_file}
use Rattle.sudoers_tree.specs.Load.{LoadedPolicy}
use Rattle.sudoers_tree.specs.Policy.{texts_of_lines}
use Rattle.sudoers_tree.specs.Walk.{WalkState, is_file_on_walk}

-- the alias of this name in this kind
abbrev pub named_alias_of_kind_and_name : Kind → List ℕ → NamedAlias
named_alias_of_kind_and_name k name = record { name = name; kinds = is_equal_kind k }

-- the line with another name for the alias, and what it says then
abbrev pub line_after_rename : NamedAlias → List ℕ → Line → Line
line_after_rename alias fresh line = record {
  text = line_text_after_rename alias fresh line.node line.text;
  node = node_with_alias_renamed (renaming_of_alias_in_node alias fresh line.node) line.node;
}

-- each line with another name for the alias of this name in this kind
abbrev pub lines_after_rename : Kind → List ℕ → List ℕ → List Line → List Line
lines_after_rename k name fresh lines = map (line_after_rename (named_alias_of_kind_and_name k name) fresh) lines

-- Each line is within the limit of a line, and all together are within that of a text.
abbrev pub AreLinesWithinLineAndTextLimits : List (List ℕ) → Type 0
AreLinesWithinLineAndTextLimits lines = AllByRecursion (λ (line : List ℕ). length line ≤ line_limit) lines × (length (join lines) ≤ text_limit)

-- a file with another name for the alias in its lines
abbrev pub parsed_file_after_rename : Kind → List ℕ → List ℕ → ParsedFile → ParsedFile
parsed_file_after_rename k name fresh file = record { name = file.name; lines = lines_after_rename k name fresh file.lines; fault = file.fault }

-- these files, the first of which has the number n, with another name for the alias in those that are on the walk
abbrev pub parsed_files_numbered_from_renamed_if_on_walk : ℕ → Kind → List ℕ → List ℕ → WalkState → List ParsedFile → List ParsedFile
parsed_files_numbered_from_renamed_if_on_walk n k name fresh w [] = []
parsed_files_numbered_from_renamed_if_on_walk n k name fresh w (file ∷ files) =
    (if is_file_on_walk w n then parsed_file_after_rename k name fresh file else file) ∷ parsed_files_numbered_from_renamed_if_on_walk (n + 1) k name fresh w files

abbrev pub parsed_files_after_rename : Kind → List ℕ → List ℕ → LoadedPolicy → List ParsedFile
parsed_files_after_rename k name fresh policy = parsed_files_numbered_from_renamed_if_on_walk 0 k name fresh policy.walk policy.files

-- The policy `new` is `policy` with another name for the alias: in the files on the walk, and in no other. The walk passes the same files in
-- the same order.
pub record IsPolicyAfterRename (k : Kind) (name fresh : List ℕ) (policy new : LoadedPolicy) : Type 0 where
  pub files : new.files ≡ parsed_files_after_rename k name fresh policy
  pub lines : new.walk.lines ≡ lines_after_rename k name fresh policy.walk.lines
  pub on : new.walk.on ≡ policy.walk.on

-- With the other name, each line of the files on the walk is within the limit of a line, and each of these files within that of a text.
abbrev pub RenamedFilesAreWithinLimits : Kind → List ℕ → List ℕ → LoadedPolicy → Type 0
RenamedFilesAreWithinLimits k name fresh policy =
    (f : ℕ) → is_file_on_walk policy.walk f ≡ true → AreLinesWithinLineAndTextLimits (texts_of_lines (lines_after_rename k name fresh (lines_of_numbered_file policy.files f)))
