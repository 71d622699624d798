-- The files of an output of `edit`, before its edits and after them.
use Rattle.std.specs.Prelude.{ℕ, List, length, nat_lt, if◌then◌else◌, Option, Some, None, Result, Ok, Err}
use Rattle.sudoers_tree.specs.Load.{LoadedPolicy, named_files_of_policy, policy_or_load_fault}
use Rattle.sudoers_tree.specs.declared.named_files.NamedFile.{NamedFile}
use Rattle.sudoers_edit.specs.Editing.{policy_or_first_refusal}
use Rattle.sudoers_edit_script.specs.ScriptReading.{edits_spelled_by_text}
use Rattle.sudoers_run.specs.declared.fault.LayerFault.{LayerFault}
use Rattle.sudoers_run.specs.declared.fault.ToolFault.{ToolFault}
use Rattle.sudoers_run.specs.declared.fault.ToolFault.TheVariants as tool
use Rattle.sudoers_run.specs.declared.input_shape.EditInputShape.{EditInputShape}
use Rattle.sudoers_run.specs.declared.input_shape.EditInputShape.TheVariants as shape
use Rattle.sudoers_run.specs.Edit.{◌>>=◌, edit_input_limit, edit_result_with_layer_fault, files_of_text_in_shape, load_result_with_layer_fault, script_result_with_layer_fault, script_shape_and_policy_text}

-- the policy of these files, with the edits of the script made in it
abbrev pub policy_with_edits_taken_back : List ℕ → List NamedFile → Result LoadedPolicy LayerFault
policy_with_edits_taken_back script files =
    script_result_with_layer_fault (edits_spelled_by_text script) >>= (λ edits. load_result_with_layer_fault (policy_or_load_fault files) >>= (λ policy. edit_result_with_layer_fault (policy_or_first_refusal 0 edits policy)))

-- The files of an output: as they were before its edits, and as they are after them.
pub record FilesOfOutput : Type 0 where
  pub before : List NamedFile
  pub after : List NamedFile

abbrev pub files_around_edits : List NamedFile → Result LoadedPolicy LayerFault → Result FilesOfOutput ToolFault
files_around_edits after (Ok policy) = Ok (record { before = named_files_of_policy policy; after = after })
files_around_edits after (Err fault) = Err (tool.Layer fault)

abbrev pub files_of_script_and_files : List ℕ → Result (List NamedFile) ToolFault → Result FilesOfOutput ToolFault
files_of_script_and_files script (Ok after) = files_around_edits after (policy_with_edits_taken_back script after)
files_of_script_and_files script (Err fault) = Err fault

abbrev pub files_of_output_parts : Option (List ℕ × EditInputShape × List ℕ) → Result FilesOfOutput ToolFault
files_of_output_parts None = Err tool.NoMark
files_of_output_parts (Some (script, shape.OneText, text)) = Err tool.NoMark
files_of_output_parts (Some (script, shape.Bundle, text)) = files_of_script_and_files script (files_of_text_in_shape shape.Bundle text)

-- the files of an output, or why it is none
abbrev pub files_of_output : List ℕ → Result FilesOfOutput ToolFault
files_of_output output = if nat_lt edit_input_limit (length output) then Err tool.InputTooLarge else files_of_output_parts (script_shape_and_policy_text output)
