-- What `edit` writes for what it reads, and its faults in their order.
use Rattle.std.specs.Prelude.{◌≡◌, ◌⊎◌, ℕ, Bool, false, ◌&&◌, ◌==◌, nat_lt, codes, ◌+◌, ◌-◌, min, take, if◌then◌else◌, List, [], ◌∷◌, ◌++◌, length, Option, Some, None, Result, Ok, Err}
use Rattle.std.specs.List.{flat_map}
use Rattle.std.specs.Option.{option_map}
use Rattle.std.specs.Str.{bytes_eq}
use Rattle.sudoers_text.specs.Line.{join}
use Rattle.sudoers_text.specs.Ended.{ends_in_lf}
use Rattle.sudoers_tree.specs.Load.{LoadedPolicy, named_files_of_policy, policy_or_load_fault, single_file_named_policy}
use Rattle.sudoers_tree.specs.declared.named_files.NamedFile.{NamedFile}
use Rattle.sudoers_tree.specs.declared.load_fault.LoadFault.{LoadFault}
use Rattle.sudoers_bundle.specs.Bundle.{bundle_of_files, files_of_bundle_text}
use Rattle.sudoers_edit_script.specs.declared.edit.Edit.{Edit}
use Rattle.sudoers_edit.specs.declared.fault.EditFault.{EditFault}
use Rattle.sudoers_edit_script.specs.declared.script_reader.ScriptFault.{ScriptFault}
use Rattle.sudoers_edit_script.specs.declared.script_reader.ScriptFault.TheVariants as script
use Rattle.sudoers_run.specs.declared.fault.LayerFault.{LayerFault}
use Rattle.sudoers_run.specs.declared.fault.LayerFault.TheVariants as layer
use Rattle.sudoers_run.specs.declared.fault.ToolFault.{ToolFault}
use Rattle.sudoers_run.specs.declared.fault.ToolFault.TheVariants as tool
use Rattle.sudoers_edit.specs.Memory.{IsMemoryFreeLoadFault}
use Rattle.sudoers_run.specs.declared.input_shape.EditInputShape.{EditInputShape}
use Rattle.sudoers_run.specs.declared.input_shape.EditInputShape.TheVariants as shape
use Rattle.sudoers_run.specs.Faults.{IsScriptFaultNotMemory, IsEditRefusalNotMemory}
use Rattle.sudoers_edit_script.specs.Physical.{physical_lines}
use Rattle.sudoers_edit.specs.Editing.{policy_or_first_refusal, inv_run}
use Rattle.sudoers_edit_script.specs.Script.{edit_limit, spelling_of_edits}
use Rattle.sudoers_edit_script.specs.ScriptReading.{edits_spelled_by_text}

-- how many bytes `edit` reads
abbrev pub edit_input_limit : ℕ
edit_input_limit = 4000000

-- the mark: the line `%%`, which LF ends
abbrev pub is_end_mark_line : List ℕ → Bool
is_end_mark_line (a ∷ b ∷ c ∷ []) = (a == 37) && (b == 37) && (c == 10)
is_end_mark_line _ = false

-- a line that begins with `%% `, and which LF ends: the header of the first file of a bundle
abbrev pub is_bundle_header_line : List ℕ → Bool
is_bundle_header_line line = bytes_eq (take 3 line) (codes "%% ") && ends_in_lf line

-- the lines before the first mark or header, in which shape the policy is given, and its lines
abbrev pub script_shape_and_policy_lines : List (List ℕ) → Option (List (List ℕ) × EditInputShape × List (List ℕ))
script_shape_and_policy_lines [] = None
script_shape_and_policy_lines (line ∷ lines) =
    if is_end_mark_line line then Some ([], shape.OneText, lines)
    else (if is_bundle_header_line line then Some ([], shape.Bundle, line ∷ lines)
    else option_map (λ parts. (line ∷ parts.0, parts.1, parts.2)) (script_shape_and_policy_lines lines))

-- the script, in which shape the policy is given after it, and the text of the policy
abbrev pub script_shape_and_policy_text : List ℕ → Option (List ℕ × EditInputShape × List ℕ)
script_shape_and_policy_text text = option_map (λ parts. (join parts.0, parts.1, join parts.2)) (script_shape_and_policy_lines (physical_lines text))

abbrev pub bundle_result_with_tool_fault : {A : Type 0} → Result A ℕ → Result A ToolFault
bundle_result_with_tool_fault (Ok x) = Ok x
bundle_result_with_tool_fault (Err file) = Err (tool.BadBundle file)

-- the files that are given, or the number of the first that is broken
abbrev pub files_of_text_in_shape : EditInputShape → List ℕ → Result (List NamedFile) ToolFault
files_of_text_in_shape shape.OneText text = Ok (single_file_named_policy text)
files_of_text_in_shape shape.Bundle text = bundle_result_with_tool_fault (files_of_bundle_text text)

-- files as they were given
abbrev pub files_in_given_shape : EditInputShape → List NamedFile → List ℕ
files_in_given_shape shape.OneText files = 37 ∷ 37 ∷ 10 ∷ flat_map (λ (file : NamedFile). file.bytes) files
files_in_given_shape shape.Bundle files = bundle_of_files files

infixl 10 ◌>>=◌
abbrev pub ◌>>=◌ : {A B : Type 0} → Result A LayerFault → (A → Result B LayerFault) → Result B LayerFault
(Ok x) >>= next = next x
(Err fault) >>= next = Err fault

abbrev pub script_result_with_layer_fault : {A : Type 0} → Result A ScriptFault → Result A LayerFault
script_result_with_layer_fault (Ok x) = Ok x
script_result_with_layer_fault (Err fault) = Err (layer.Script fault)

abbrev pub load_result_with_layer_fault : {A : Type 0} → Result A LoadFault → Result A LayerFault
load_result_with_layer_fault (Ok x) = Ok x
load_result_with_layer_fault (Err fault) = Err (layer.Load fault)

abbrev pub edit_result_with_layer_fault : {A : Type 0} → Result A (ℕ × EditFault) → Result A LayerFault
edit_result_with_layer_fault (Ok x) = Ok x
edit_result_with_layer_fault (Err refused) = Err (layer.Edit refused.0 refused.1)

-- the spelling of the inverse edits, and the policy's files, unless the edits are too many
abbrev pub inverse_and_files_text : EditInputShape → List Edit → LoadedPolicy → Result (List ℕ) LayerFault
inverse_and_files_text form inverse policy =
    if nat_lt edit_limit (length inverse) then Err (layer.Script script.TooMany)
    else Ok (spelling_of_edits inverse ++ files_in_given_shape form (named_files_of_policy policy))

-- what comes of edits of this policy: the inverse script and the edited policy, or the first refusal
abbrev pub text_of_inverse_and_edited_policy : EditInputShape → List Edit → LoadedPolicy → Result (List ℕ) LayerFault
text_of_inverse_and_edited_policy form edits policy = edit_result_with_layer_fault (policy_or_first_refusal 0 edits policy) >>= (λ new. inverse_and_files_text form (inv_run edits policy) new)

-- how many of the edits stand after up to `undo` of them were taken back, and up to `redo` of these made again
abbrev pub edit_count_after_undo_redo : (undo redo made : ℕ) → ℕ
edit_count_after_undo_redo undo redo made = made - min undo made + min redo (min undo made)

-- the edits that then stand: the first ones
abbrev pub edits_after_undo_and_redo : (undo redo : ℕ) → List Edit → List Edit
edits_after_undo_and_redo undo redo edits = take (edit_count_after_undo_redo undo redo (length edits)) edits

-- what comes of those edits, unless one of all the edits is refused
abbrev pub edit_output_after_undo_redo : EditInputShape → (undo redo : ℕ) → List Edit → LoadedPolicy → Result (List ℕ) LayerFault
edit_output_after_undo_redo form undo redo edits policy =
    edit_result_with_layer_fault (policy_or_first_refusal 0 edits policy) >>= (λ _. text_of_inverse_and_edited_policy form (edits_after_undo_and_redo undo redo edits) policy)

-- the same of a script and files; or the first fault of the script, of the files, of the edits
abbrev pub edit_output_of_files : EditInputShape → (undo redo : ℕ) → List ℕ → List NamedFile → Result (List ℕ) LayerFault
edit_output_of_files form undo redo script files =
    script_result_with_layer_fault (edits_spelled_by_text script) >>= (λ edits. load_result_with_layer_fault (policy_or_load_fault files) >>= (λ policy. edit_output_after_undo_redo form undo redo edits policy))

abbrev pub layer_result_with_tool_fault : {A : Type 0} → Result A LayerFault → Result A ToolFault
layer_result_with_tool_fault (Ok x) = Ok x
layer_result_with_tool_fault (Err fault) = Err (tool.Layer fault)

abbrev pub result_after_reading_given_files : (List NamedFile → Result (List ℕ) ToolFault) → Result (List NamedFile) ToolFault → Result (List ℕ) ToolFault
result_after_reading_given_files next (Ok files) = next files
result_after_reading_given_files next (Err fault) = Err fault

abbrev pub edit_output_of_parts : (undo redo : ℕ) → Option (List ℕ × EditInputShape × List ℕ) → Result (List ℕ) ToolFault
edit_output_of_parts undo redo None = Err tool.NoMark
edit_output_of_parts undo redo (Some parts) = result_after_reading_given_files (λ files. layer_result_with_tool_fault (edit_output_of_files parts.1 undo redo parts.0 files)) (files_of_text_in_shape parts.1 parts.2)

-- what the program writes for an input, or why it gives up
abbrev pub edit_output_of_input : (undo redo : ℕ) → List ℕ → Result (List ℕ) ToolFault
edit_output_of_input undo redo input =
    if nat_lt edit_input_limit (length input) then Err tool.InputTooLarge else edit_output_of_parts undo redo (script_shape_and_policy_text input)

-- the stated fault, or want of memory
abbrev pub IsStatedLayerFaultOrMemory : {A : Type 0} → LayerFault → Result A LayerFault → Type 0
IsStatedLayerFaultOrMemory fault wanted = (fault ≡ layer.NoMemory) ⊎ (wanted ≡ Err fault)

-- a fault that the input has; those of the devices and of memory say nothing of it
abbrev pub IsStatedOrOutsideEditFault : (undo redo : ℕ) → ToolFault → List ℕ → Type 0
IsStatedOrOutsideEditFault undo redo tool.Read input = Unit {0}
IsStatedOrOutsideEditFault undo redo tool.Write input = Unit {0}
IsStatedOrOutsideEditFault undo redo tool.NoEnd input = Unit {0}
IsStatedOrOutsideEditFault undo redo (tool.Layer fault) input = (fault ≡ layer.NoMemory) ⊎ (edit_output_of_input undo redo input ≡ Err (tool.Layer fault))
IsStatedOrOutsideEditFault undo redo tool.NoMark input = edit_output_of_input undo redo input ≡ Err tool.NoMark
IsStatedOrOutsideEditFault undo redo (tool.BadBundle file) input = edit_output_of_input undo redo input ≡ Err (tool.BadBundle file)
IsStatedOrOutsideEditFault undo redo tool.InputTooLarge input = edit_output_of_input undo redo input ≡ Err tool.InputTooLarge

-- the faults of the input of `edit`: of its script, of its files, or of an edit
abbrev pub IsScriptFilesOrEditFault : LayerFault → Type 0
IsScriptFilesOrEditFault (layer.Script fault) = IsScriptFaultNotMemory fault
IsScriptFilesOrEditFault (layer.Edit place fault) = IsEditRefusalNotMemory fault
IsScriptFilesOrEditFault layer.NoMemory = Unit {0}
IsScriptFilesOrEditFault (layer.Gather fault) = ⊥
IsScriptFilesOrEditFault (layer.Load fault) = IsMemoryFreeLoadFault fault
IsScriptFilesOrEditFault (layer.Convert fault) = ⊥
IsScriptFilesOrEditFault (layer.Filter fault) = ⊥
IsScriptFilesOrEditFault (layer.People fault) = ⊥
IsScriptFilesOrEditFault (layer.Who fault) = ⊥
IsScriptFilesOrEditFault (layer.Ask fault) = ⊥

-- the faults of an input that was read
abbrev pub IsFaultOfInputAfterReading : ToolFault → Type 0
IsFaultOfInputAfterReading (tool.Layer fault) = IsScriptFilesOrEditFault fault
IsFaultOfInputAfterReading tool.NoMark = Unit {0}
IsFaultOfInputAfterReading (tool.BadBundle file) = Unit {0}
IsFaultOfInputAfterReading tool.Read = ⊥
IsFaultOfInputAfterReading tool.Write = ⊥
IsFaultOfInputAfterReading tool.NoEnd = ⊥
IsFaultOfInputAfterReading tool.InputTooLarge = ⊥

-- the faults of `edit`
abbrev pub IsEditFault : ToolFault → Type 0
IsEditFault (tool.Layer fault) = IsScriptFilesOrEditFault fault
IsEditFault tool.Read = Unit {0}
IsEditFault tool.NoEnd = Unit {0}
IsEditFault tool.InputTooLarge = Unit {0}
IsEditFault tool.NoMark = Unit {0}
IsEditFault (tool.BadBundle file) = Unit {0}
IsEditFault tool.Write = Unit {0}
