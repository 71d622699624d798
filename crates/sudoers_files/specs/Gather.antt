-- The gathering of files as a function that computes. By the law `gather_is` it is the gathering that `Gathers.antt` defines.
use Rattle.std.specs.Prelude.{◌≡◌, ℕ, zero, suc, nat_le, List, [], ◌∷◌, ◌++◌, length, Option, Some, None, Result, Ok, Err, if◌then◌else◌}
use Rattle.sudoers_tree.specs.declared.named_files.NamedFile.{NamedFile}
use Rattle.sudoers_tree.specs.Load.{file_limit, has_file_with_name}
use Rattle.sudoers_files.specs.declared.fault.FileFault.{FileFault}
use Rattle.sudoers_files.specs.declared.fault.FileFault.TheVariants as file_fault
use Rattle.sudoers_files.specs.declared.fault.GatherFault.{GatherFault}
use Rattle.sudoers_files.specs.declared.fault.GatherFault.TheVariants.{NoRoot, Device, TooManyFiles, NoMemory}
use Rattle.sudoers_files.specs.Shelf.{FileDeviceState, IsFailureCountAfter, IsEndlessCountAfter, named_file_bytes_truncated_past_limit}
use Rattle.sudoers_files.specs.Included.{file_names_included_by_file}

-- a fault of a file, as one of gathering
abbrev pub gather_fault_of_file_fault : FileFault → GatherFault
gather_fault_of_file_fault file_fault.Failed = Device file_fault.Failed
gather_fault_of_file_fault file_fault.NoEnd = Device file_fault.NoEnd
gather_fault_of_file_fault file_fault.NoMemory = NoMemory

abbrev pub gather_result_and_then : Result (List NamedFile) GatherFault → (List NamedFile → Result (List NamedFile) GatherFault) → Result (List NamedFile) GatherFault
gather_result_and_then (Ok found) next = next found
gather_result_and_then (Err fault) next = Err fault

-- the outcome of a visit of a name after these files are found: the files that are found then, or a fault
abbrev pub GatherVisitFunction : Type 0
GatherVisitFunction = List NamedFile → List ℕ → Result (List NamedFile) GatherFault

-- the outcome of visits of these names, one after another
abbrev pub gathered_after_file_visits : GatherVisitFunction → List NamedFile → List (List ℕ) → Result (List NamedFile) GatherFault
gathered_after_file_visits gathered_after_file_visit found [] = Ok found
gathered_after_file_visits gathered_after_file_visit found (name ∷ names) = gather_result_and_then (gathered_after_file_visit found name) (λ now. gathered_after_file_visits gathered_after_file_visit now names)

-- the files that are found, then the file, then the files to which it leads
abbrev pub gathered_with_file_and_includes : GatherVisitFunction → List NamedFile → List NamedFile → NamedFile → Result (List NamedFile) GatherFault
gathered_with_file_and_includes gathered_after_file_visit files found file = gathered_after_file_visits gathered_after_file_visit (found ++ file ∷ []) (file_names_included_by_file files file)

-- the outcome `next` of the file, if it is there. If as many files are found as there may be, it is a fault. A missing file adds nothing.
abbrev pub gathered_unless_missing_or_full : (NamedFile → Result (List NamedFile) GatherFault) → List NamedFile → List ℕ → Option (List ℕ) → Result (List NamedFile) GatherFault
gathered_unless_missing_or_full next found name None = Ok found
gathered_unless_missing_or_full next found name (Some bytes) = if nat_le file_limit (length found) then Err TooManyFiles else next (record { name = name; bytes = bytes })

abbrev pub gathered_unless_found : (NamedFile → Result (List NamedFile) GatherFault) → List NamedFile → List NamedFile → List ℕ → Result (List NamedFile) GatherFault
gathered_unless_found next files found name = if has_file_with_name name found then Ok found else gathered_unless_missing_or_full next found name (named_file_bytes_truncated_past_limit name files)

-- the outcome of a visit of a name, where files may be nested `left` levels deeper
abbrev pub gathered_after_file_visit : ℕ → List NamedFile → GatherVisitFunction
gathered_after_file_visit zero files found name = gathered_unless_found (λ file. Err TooManyFiles) files found name
gathered_after_file_visit (suc left) files found name = gathered_unless_found (gathered_with_file_and_includes (gathered_after_file_visit left files) files found) files found name

abbrev pub gathered_from_root_bytes : List NamedFile → List ℕ → Option (List ℕ) → Result (List NamedFile) GatherFault
gathered_from_root_bytes files root None = Err NoRoot
gathered_from_root_bytes files root (Some bytes) = gathered_with_file_and_includes (gathered_after_file_visit file_limit files) files [] (record { name = root; bytes = bytes })

-- the root and the files to which it leads, or the fault of gathering them
unfoldable pub gathered_files_or_fault : List NamedFile → List ℕ → Result (List NamedFile) GatherFault
gathered_files_or_fault files root = gathered_from_root_bytes files root (named_file_bytes_truncated_past_limit root files)

-- ---- what a gathering does to its files

-- how the counts differ after a fault; want of memory is never a fault of the device
abbrev pub AreCountsAfterGatherFault : GatherFault → FileDeviceState → FileDeviceState → Type 0
AreCountsAfterGatherFault (Device file_fault.NoMemory) old new = ⊥
AreCountsAfterGatherFault (Device fault) old new = IsFailureCountAfter fault old.failures new.failures × IsEndlessCountAfter fault old.endless new.endless
AreCountsAfterGatherFault NoRoot old new = (new.failures ≡ old.failures) × (new.endless ≡ old.endless)
AreCountsAfterGatherFault TooManyFiles old new = (new.failures ≡ old.failures) × (new.endless ≡ old.endless)
AreCountsAfterGatherFault NoMemory old new = (new.failures ≡ old.failures) × (new.endless ≡ old.endless)

-- The files do not change. With `Device` a call has failed, or has reported no end. With any other result no call has.
abbrev pub IsGatherDeviceOutcome : {A : Type 0} → Result A GatherFault → FileDeviceState → FileDeviceState → Type 0
IsGatherDeviceOutcome (Ok x) old new = new ≡ old
IsGatherDeviceOutcome (Err fault) old new = (new.files ≡ old.files) × AreCountsAfterGatherFault fault old new

-- a fault of the device or of memory, which may come whatever the files are
abbrev pub IsFaultOfDeviceOrMemory : GatherFault → Type 0
IsFaultOfDeviceOrMemory (Device fault) = Unit {0}
IsFaultOfDeviceOrMemory NoMemory = Unit {0}
IsFaultOfDeviceOrMemory NoRoot = ⊥
IsFaultOfDeviceOrMemory TooManyFiles = ⊥
