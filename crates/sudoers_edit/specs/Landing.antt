-- Whether the files to which an edit leads are a policy, and why not.
use Rattle.std.specs.Prelude.{ℕ, Bool, nat_lt, if◌then◌else◌, List, [], length, Option, Some, None, Result, Ok, Err, zero, suc, ◌∷◌}
use Rattle.sudoers_text.specs.Fault.{line_limit}
use Rattle.sudoers_edit.specs.declared.fault.EditFault.{EditFault}
use Rattle.sudoers_text.specs.Line.{join}
use Rattle.sudoers_text.specs.Ended.{has_inner_line_without_lf}
use Rattle.sudoers_tree.specs.declared.named_files.NamedFile.{NamedFile}
use Rattle.sudoers_tree.specs.declared.load_fault.LoadFault.{LoadFault}
use Rattle.sudoers_tree.specs.Load.{LoadedPolicy, named_files_of_policy, policy_or_load_fault}
use Rattle.sudoers_edit.specs.declared.fault.EditFault.TheVariants.{OpenLine, TooLarge, NotPolicy, NoMemory}
use Rattle.sudoers_tree.specs.declared.load_fault.LoadFault.TheVariants as load
use Rattle.sudoers_text.specs.declared.fault.TextFault.TheVariants as text
use Rattle.sudoers_tree.specs.declared.fault.ReadFault.TheVariants as read

-- the refusal in its case; else what follows
abbrev pub result_unless_refused : {X : Type 0} → Bool → EditFault → Result X EditFault → Result X EditFault
result_unless_refused refused fault next = if refused then Err fault else next

-- the refusal where there is nothing; else what follows for what there is
abbrev pub result_or_refusal_if_none : {A X : Type 0} → Option A → EditFault → (A → Result X EditFault) → Result X EditFault
result_or_refusal_if_none None fault next = Err fault
result_or_refusal_if_none (Some x) fault next = next x

abbrev pub is_line_too_long : List ℕ → Bool
is_line_too_long line = nat_lt line_limit (length line)

abbrev pub LineTexts : Type 0
LineTexts = List (List ℕ)

-- A fault of loading as the refusal of an edit. A text past its limit is one fault, in whichever file, and so is want of memory.
abbrev pub edit_fault_of_load_fault : LoadFault → EditFault
edit_fault_of_load_fault load.NoMemory = NoMemory
edit_fault_of_load_fault load.TooManyFiles = NotPolicy load.TooManyFiles
edit_fault_of_load_fault (load.SameName name) = NotPolicy (load.SameName name)
edit_fault_of_load_fault (load.InFile name (read.Text text.TooLarge)) = TooLarge
edit_fault_of_load_fault (load.InFile name (read.Text (text.LineTooLong line))) = NotPolicy (load.InFile name (read.Text (text.LineTooLong line)))
edit_fault_of_load_fault (load.InFile name (read.Text (text.Nul at))) = NotPolicy (load.InFile name (read.Text (text.Nul at)))
edit_fault_of_load_fault (load.InFile name (read.Text text.OpenContinuation)) = NotPolicy (load.InFile name (read.Text text.OpenContinuation))
edit_fault_of_load_fault (load.InFile name (read.Text text.NoMemory)) = NotPolicy (load.InFile name (read.Text text.NoMemory))
edit_fault_of_load_fault (load.InFile name (read.Syntax line col why)) = NotPolicy (load.InFile name (read.Syntax line col why))
edit_fault_of_load_fault (load.InFile name (read.Reserved kind alias)) = NotPolicy (load.InFile name (read.Reserved kind alias))
edit_fault_of_load_fault (load.InFile name (read.Duplicate kind alias)) = NotPolicy (load.InFile name (read.Duplicate kind alias))
edit_fault_of_load_fault (load.InFile name (read.TooMany kind)) = NotPolicy (load.InFile name (read.TooMany kind))
edit_fault_of_load_fault (load.InFile name (read.NotLoaded line other)) = NotPolicy (load.InFile name (read.NotLoaded line other))
edit_fault_of_load_fault (load.InFile name (read.Twice line other)) = NotPolicy (load.InFile name (read.Twice line other))
edit_fault_of_load_fault (load.InFile name (read.TooDeep line)) = NotPolicy (load.InFile name (read.TooDeep line))
edit_fault_of_load_fault (load.InFile name read.NoMemory) = NotPolicy (load.InFile name read.NoMemory)

-- what follows for what there is, or its refusal
abbrev pub edit_result_and_then : {A B : Type 0} → Result A EditFault → (A → Result B EditFault) → Result B EditFault
edit_result_and_then (Ok x) next = next x
edit_result_and_then (Err fault) next = Err fault

-- the policy that files are, or the refusal of the edit that leads to them
abbrev pub policy_or_edit_fault : Result LoadedPolicy LoadFault → Result LoadedPolicy EditFault
policy_or_edit_fault (Ok policy) = Ok policy
policy_or_edit_fault (Err fault) = Err (edit_fault_of_load_fault fault)

abbrev pub policy_of_files_or_refusal : List NamedFile → Result LoadedPolicy EditFault
policy_of_files_or_refusal files = policy_or_edit_fault (policy_or_load_fault files)

-- the files with other bytes of the one with this number
abbrev pub files_with_bytes_replaced : ℕ → List ℕ → List NamedFile → List NamedFile
files_with_bytes_replaced f bytes [] = []
files_with_bytes_replaced zero bytes (file ∷ files) = record { name = file.name; bytes = bytes } ∷ files
files_with_bytes_replaced (suc f) bytes (file ∷ files) = file ∷ files_with_bytes_replaced f bytes files

-- the policy in which the file with this number has these lines, if only the last of them may lack LF, and it is one
abbrev pub policy_with_file_lines : LoadedPolicy → ℕ → LineTexts → Result LoadedPolicy EditFault
policy_with_file_lines policy f lines = result_unless_refused (has_inner_line_without_lf lines) OpenLine (policy_of_files_or_refusal (files_with_bytes_replaced f (join lines) (named_files_of_policy policy)))
