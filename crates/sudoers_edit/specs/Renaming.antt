-- An alias given another name in all files on the walk.
use Rattle.std.specs.Prelude.{ℕ, Bool, not, ◌||◌, nat_lt, List, length, map, Result}
use Rattle.std.specs.List.{list_any}
use Rattle.sudoers_text.specs.Word.{is_name, is_reserved}
use Rattle.sudoers_grammar.specs.declared.node.Kind.{Kind}
use Rattle.sudoers_tree.specs.Definition.{definition_place_of_name}
use Rattle.sudoers_tree.specs.Fault.{is_some}
use Rattle.sudoers_tree.specs.Line.{Line}
use Rattle.sudoers_tree.specs.Load.{LoadedPolicy, named_file_of_parsed}
use Rattle.sudoers_tree.specs.Mention.{mentions_in_lines}
use Rattle.sudoers_tree.specs.Policy.{texts_of_lines}
use Rattle.sudoers_tree.specs.declared.named_files.NamedFile.{NamedFile}
use Rattle.sudoers_edit.specs.Landing.{is_line_too_long, result_unless_refused, policy_of_files_or_refusal}
use Rattle.sudoers_edit.specs.Renamed.{lines_after_rename, parsed_files_after_rename}
use Rattle.sudoers_edit.specs.declared.fault.EditFault.{EditFault}
use Rattle.sudoers_edit.specs.declared.fault.EditFault.TheVariants.{NoAlias, BadName, NameTaken, TooLarge}

-- the texts of lines with another name for an alias
abbrev pub texts_of_renamed_lines : Kind → List ℕ → List ℕ → List Line → List (List ℕ)
texts_of_renamed_lines k name fresh lines = texts_of_lines (lines_after_rename k name fresh lines)

-- the files of a policy with another name for an alias, in those that are on the walk
abbrev pub named_files_after_rename : Kind → List ℕ → List ℕ → LoadedPolicy → List NamedFile
named_files_after_rename k name fresh policy = map named_file_of_parsed (parsed_files_after_rename k name fresh policy)

-- The name is defined or mentioned in the kind.
abbrev pub is_alias_name_in_use : Kind → List ℕ → List Line → Bool
is_alias_name_in_use k fresh policy = is_some (definition_place_of_name k fresh policy) || nat_lt 0 (length (mentions_in_lines k fresh policy))

-- the policy with another name for the alias that the walk defines, or the first cause of its refusal
unfoldable pub policy_after_rename : Kind → List ℕ → List ℕ → LoadedPolicy → Result LoadedPolicy EditFault
policy_after_rename k name fresh policy =
    result_unless_refused (not (is_some (definition_place_of_name k name policy.walk.lines))) NoAlias (
    result_unless_refused (not (is_name fresh) || is_reserved fresh) BadName (
    result_unless_refused (is_alias_name_in_use k fresh policy.walk.lines) NameTaken (
    result_unless_refused (list_any is_line_too_long (texts_of_renamed_lines k name fresh policy.walk.lines)) TooLarge (
    policy_of_files_or_refusal (named_files_after_rename k name fresh policy)))))
