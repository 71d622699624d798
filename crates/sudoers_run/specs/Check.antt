-- What `check` writes for a policy.
use Rattle.std.specs.Prelude.{ℕ, Bool, if◌then◌else◌, List, [], ◌++◌, codes, Option, Result, Ok, Err}
use Rattle.std.specs.List.{flat_map}
use Rattle.std.specs.Result.{result_ok}
use Rattle.sudoers_grammar.specs.Piece.{has_byte}
use Rattle.sudoers_tree.specs.declared.named_files.NamedFile.{NamedFile}
use Rattle.sudoers_tree.specs.declared.load_fault.LoadFault.{LoadFault}
use Rattle.sudoers_tree.specs.Load.{LoadedPolicy, has_file_with_name, policy_or_load_fault}
use Rattle.sudoers_tree.specs.Targets.{base_name_of_file_name, is_includable_base_name}
use Rattle.sudoers_check.specs.Report.{report_of_walk, report_text, is_report_parsed_ok}
use Rattle.sudoers_files.specs.Gather.{gathered_files_or_fault}
use Rattle.sudoers_files.specs.declared.unread_includes.MissingFolderOrSkippedFile.{MissingFolderOrSkippedFile}
use Rattle.sudoers_files.specs.declared.unread_includes.MissingFolderOrSkippedFile.TheVariants.{Folder, File}
use Rattle.sudoers_files.specs.Unread.{unread_includes_of_files}
use Rattle.sudoers_run.specs.declared.fault.LayerFault.{LayerFault}
use Rattle.sudoers_run.specs.declared.fault.ToolFault.{ToolFault}
use Rattle.sudoers_run.specs.declared.command_words.CheckWords.{CheckWords}
use Rattle.sudoers_run.specs.Policy.{IsFaultBeforeLoading, IsStatedOrOutsideFault, result_after_loading_from_root, result_after_gathering}
use Rattle.sudoers_run.specs.Faults.{IsWriteFaultOr}
use Rattle.sudoers_run.specs.FaultText.{load_fault_message}

-- the report on a policy, or the text of the fault of files that are no policy
abbrev pub check_report_text : Bool → Result LoadedPolicy LoadFault → List ℕ
check_report_text strict (Ok policy) = report_text policy strict (report_of_walk policy.walk)
check_report_text strict (Err fault) = load_fault_message fault ++ codes "\n"

-- 0 for a policy that passes, else 1
abbrev pub check_exit_status : Bool → Result LoadedPolicy LoadFault → ℕ
check_exit_status strict (Ok policy) = if is_report_parsed_ok strict (report_of_walk policy.walk) then 0 else 1
check_exit_status strict (Err fault) = 1

-- the status for the policy that these files are from `root` on, or why they cannot be gathered
abbrev pub check_status_from_root : Bool → List ℕ → List NamedFile → Result ℕ LayerFault
check_status_from_root strict root known = result_after_loading_from_root (λ policy. Ok (check_exit_status strict policy)) root known

-- the policy that these files are from `root` on, none if they have an error, or why they cannot be gathered
abbrev pub policy_if_loaded_from_root : List ℕ → List NamedFile → Result (Option LoadedPolicy) LayerFault
policy_if_loaded_from_root root known = result_after_loading_from_root (λ policy. Ok (result_ok policy)) root known

-- why an include of its folder does not read the file with this name
abbrev pub unread_reason_of_name : List ℕ → List ℕ
unread_reason_of_name name =
    if is_includable_base_name (base_name_of_file_name name) then codes "no regular file"
    else (if has_byte 46 (base_name_of_file_name name) then codes "its name contains '.'" else codes "its name ends in '~'")

-- the line that says that a file or a folder is not read, and why
abbrev pub not_read_line : List ℕ → List ℕ → List ℕ
not_read_line name reason = name ++ codes ": not read: " ++ reason ++ codes "\n"

-- the line for a missing folder, or for a file unless it is among the files `found`, since another line may include it by its name
abbrev pub unread_line_unless_found : List NamedFile → MissingFolderOrSkippedFile → List ℕ
unread_line_unless_found found (Folder dir) = not_read_line dir (codes "no such folder")
unread_line_unless_found found (File name) = if has_file_with_name name found then [] else not_read_line name (unread_reason_of_name name)

-- the lines for what is not read
abbrev pub unread_lines_text : List NamedFile → List MissingFolderOrSkippedFile → List ℕ
unread_lines_text found all = flat_map (unread_line_unless_found found) all

-- the report on the files `found`, which are gathered from the known ones, and the lines for what their includes do not read, if asked for
abbrev pub check_text_of_found : CheckWords → List NamedFile → List NamedFile → List ℕ
check_text_of_found words known found = check_report_text words.strict (policy_or_load_fault found) ++ (if words.skipped then unread_lines_text found (unread_includes_of_files known found) else [])

-- the text, or nothing with `quiet`
abbrev pub text_unless_quiet : Bool → List ℕ → List ℕ
text_unless_quiet quiet text = if quiet then [] else text

-- what is written
abbrev pub check_output : CheckWords → List ℕ → List NamedFile → Result (List ℕ) LayerFault
check_output words root known = result_after_gathering (λ found. Ok (text_unless_quiet words.quiet (check_text_of_found words known found))) (gathered_files_or_fault known root)

-- A fault of gathering is the one that the files have. Faults of devices and of memory may come whatever the files are.
abbrev pub IsStatedOrOutsideCheckFault : Bool → List ℕ → ToolFault → List NamedFile → Type 0
IsStatedOrOutsideCheckFault strict root fault known = IsWriteFaultOr (λ (said : LayerFault). IsStatedOrOutsideFault said (check_status_from_root strict root known)) fault

-- The faults of checking a policy. The faults of loading are no faults here: they are written as the report.
abbrev pub IsCheckFault : ToolFault → Type 0
IsCheckFault fault = IsWriteFaultOr IsFaultBeforeLoading fault
