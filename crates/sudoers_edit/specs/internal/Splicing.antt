-- A device of the proof, which no public contract cites: members and definitions of a file of a policy, put in and taken out.
use Rattle.std.specs.Prelude.{◌≡◌, ◌<◌, ◌≤◌, ℕ, true, List, [], ◌∷◌, length, slice_get, Some, Ok}
use Rattle.std.specs.List.{AllByRecursion}
use Rattle.sudoers_text.specs.Fault.{line_limit}
use Rattle.sudoers_text.specs.Line.{join}
use Rattle.sudoers_text.specs.Whole.{is_logical_line}
use Rattle.sudoers_grammar.specs.Ascend.{AreOrderedAliasDefinitions}
use Rattle.sudoers_grammar.specs.Node.{Def}
use Rattle.sudoers_grammar.specs.declared.node.Kind.{Kind}
use Rattle.sudoers_tree.specs.Changed.{lines_with_one_replaced}
use Rattle.sudoers_tree.specs.FilePlaces.{file_place_of_definition}
use Rattle.sudoers_tree.specs.Files.{lines_of_numbered_file}
use Rattle.sudoers_tree.specs.Line.{Line}
use Rattle.sudoers_tree.specs.Load.{LoadedPolicy, named_files_of_policy, policy_or_load_fault}
use Rattle.sudoers_tree.specs.Single.{reading_of_single_line}
use Rattle.sudoers_tree.specs.declared.place.DefinitionFilePlace.{DefinitionFilePlace}
use Rattle.sudoers_edit.specs.SpliceEdits.{definitions_of_alias_line, replaced_lines_unless_too_long}
use Rattle.sudoers_edit.specs.Editing.{step, inv}
use Rattle.sudoers_edit.specs.Landing.{edit_result_and_then, policy_with_file_lines, files_with_bytes_replaced}
use Rattle.sudoers_edit.specs.internal.LeadingInFile.{line_texts_of_file}
use Rattle.sudoers_edit_script.specs.declared.edit.Edit.{Edit}

-- What is kept of lines is what their texts say alone. Their definitions stand in them one behind another. None is too long.
pub record AreSoundParsedLines (lines : List Line) : Type 0 where
  pub says : AllByRecursion (λ (line : Line). reading_of_single_line line.text ≡ Some line.node) lines
  pub ascend : (n : ℕ) (line : Line) (defs : List Def) → slice_get lines n ≡ Some line → definitions_of_alias_line line.node ≡ Some defs → AreOrderedAliasDefinitions 0 (length line.text) defs
  pub short : (n : ℕ) (line : Line) → slice_get lines n ≡ Some line → length line.text ≤ line_limit

-- The edit puts this text in the place of a line of this file, which says something. Its inverse is one edit, which leads back.
pub record EditReplacesFileLine (edit back_edit : Edit) (inverse : List Edit) (policy : LoadedPolicy) (f at : ℕ) (text : List ℕ) : Type 0 where
  pub here : f < length policy.files
  pub said_is : is_logical_line text ≡ true
  pub forth : step edit policy ≡ edit_result_and_then (replaced_lines_unless_too_long at text (line_texts_of_file policy f)) (policy_with_file_lines policy f)
  pub inverse_is : inverse ≡ inv edit policy
  pub back_is : inverse ≡ back_edit ∷ []
  pub back : (after : LoadedPolicy) → policy_or_load_fault (files_with_bytes_replaced f (join (lines_with_one_replaced at text (line_texts_of_file policy f))) (named_files_of_policy policy)) ≡ Ok after → f < length after.files
      → line_texts_of_file after f ≡ lines_with_one_replaced at text (line_texts_of_file policy f) → step back_edit after ≡ policy_with_file_lines after f (line_texts_of_file policy f)

-- The alias is defined on the walk at this place of a file, in this line, and so.
pub record IsAliasDefinedAt (k : Kind) (name : List ℕ) (policy : LoadedPolicy) (at : DefinitionFilePlace) (line : Line) (d : Def) : Type 0 where
  pub named : file_place_of_definition k name policy.walk ≡ Some at
  pub here : slice_get (lines_of_numbered_file policy.files at.file) at.line ≡ Some line
  pub defs : List Def
  pub makes : definitions_of_alias_line line.node ≡ Some defs
  pub stands : slice_get defs at.def ≡ Some d
