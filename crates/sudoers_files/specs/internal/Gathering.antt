-- Devices of the proof, which no public contract cites: a gathering that is under way.
use Rattle.std.specs.Prelude.{◌≡◌, ◌⊎◌, ℕ, true, List, None, Result, Ok, Err, Vec}
use Rattle.std.specs.BTreeSet.{BTreeSet, contains_by}
use Rattle.std.specs.Cmp.Lexicographic.{slice_cmp}
use Rattle.std.specs.List.{AllByRecursion}
use Rattle.std.specs.Ordering.{nat_cmp}
use Rattle.std.specs.declared.alloc.Global.{Global}
use Rattle.std.specs.declared.cmp.Ordering.{Ordering}
use Rattle.sudoers_tree.specs.declared.named_files.NamedFile.{NamedFile}
use Rattle.sudoers_tree.specs.Load.{has_file_with_name}
use Rattle.sudoers_files.specs.declared.fault.GatherFault.{GatherFault}
use Rattle.sudoers_files.specs.Folder.{sorted_file_names_in_folder}
use Rattle.sudoers_files.specs.Gather.{IsFaultOfDeviceOrMemory}
use Rattle.sudoers_files.specs.Shelf.{named_file_bytes_truncated_past_limit, included_base_names_in}

-- A call has found the files that are wanted, or its fault is the one that is wanted. A fault of the device or of memory may come instead.
abbrev pub IsGatherStepOutcome : Result (Unit {0}) GatherFault → List NamedFile → Result (List NamedFile) GatherFault → Type 0
IsGatherStepOutcome (Ok u) found wanted = wanted ≡ Ok found
IsGatherStepOutcome (Err fault) found wanted = IsFaultOfDeviceOrMemory fault ⊎ (wanted ≡ Err fault)

-- The name is among those of the files `found`, or no file has it.
abbrev pub IsFoundOrMissing : List NamedFile → List NamedFile → List ℕ → Type 0
IsFoundOrMissing known found name = (has_file_with_name name found ≡ true) ⊎ (named_file_bytes_truncated_past_limit name known ≡ None)

abbrev pub AreFoundOrMissing : List NamedFile → List NamedFile → List (List ℕ) → Type 0
AreFoundOrMissing known found = AllByRecursion (IsFoundOrMissing known found)

-- the order of names, by their bytes
abbrev pub name_byte_order : Vec ℕ Global → Vec ℕ Global → Ordering
name_byte_order name other = slice_cmp nat_cmp name.items other.items

-- Of each of the folders, every name that an include of it reads is settled.
abbrev pub AreFilesOfFoldersFoundOrMissing : List NamedFile → List NamedFile → BTreeSet (Vec ℕ Global) → Type 0
AreFilesOfFoldersFoundOrMissing known found folders = (folder : Vec ℕ Global) → contains_by (name_byte_order folder) folders ≡ true
    → AreFoundOrMissing known found (sorted_file_names_in_folder folder.items (included_base_names_in folder.items known))
