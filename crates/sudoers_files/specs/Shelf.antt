-- Files by their names: the files that are known, the counts of their device, and what a call returns.
use Rattle.std.specs.Prelude.{◌≡◌, ℕ, not, ◌+◌, ◌-◌, ◌^◌, ◌≤◌, ◌<◌, ◌⊎◌, List, [], ◌∷◌, ◌++◌, length, take, Option, Some, None, Result, Ok, Err, IfOk, IfSome, Vec, if◌then◌else◌}
use Rattle.std.specs.declared.alloc.Global.{Global}
use Rattle.std.specs.List.{filter}
use Rattle.std.specs.Option.{option_map}
use Rattle.std.specs.Str.{bytes_eq}
use Rattle.sudoers_text.specs.Fault.{text_limit}
use Rattle.sudoers_tree.specs.declared.named_files.NamedFile.{NamedFile}
use Rattle.sudoers_tree.specs.Lead.{folder_of}
use Rattle.sudoers_tree.specs.Targets.{base_name_of_file_name, is_includable_base_name}
use Rattle.sudoers_files.specs.Device.{IsCountHigherOrAtMaximum}
use Rattle.sudoers_files.specs.declared.fault.FileFault.{FileFault}
use Rattle.sudoers_files.specs.declared.fault.FileFault.TheVariants.{Failed, NoEnd, NoMemory}

-- The files, if they are known. Two counts of their device: how often it failed, and how often a file of it had no end. Each count stops
-- at the greatest number.
pub record FileDeviceState : Type 0 where
  pub files : Option (List NamedFile)
  pub failures : ℕ
  pub endless : ℕ

-- `Failed` raises the count of failures. Other faults do not change it.
abbrev pub IsFailureCountAfter : FileFault → ℕ → ℕ → Type 0
IsFailureCountAfter Failed old new = IsCountHigherOrAtMaximum old new
IsFailureCountAfter NoEnd old new = new ≡ old
IsFailureCountAfter NoMemory old new = new ≡ old

-- `NoEnd` raises the count of files without an end. Other faults do not change it.
abbrev pub IsEndlessCountAfter : FileFault → ℕ → ℕ → Type 0
IsEndlessCountAfter Failed old new = new ≡ old
IsEndlessCountAfter NoEnd old new = IsCountHigherOrAtMaximum old new
IsEndlessCountAfter NoMemory old new = new ≡ old

-- A call does not change the files. Its fault is counted.
abbrev pub IsFaultCounted : {A : Type 0} → Result A FileFault → FileDeviceState → FileDeviceState → Type 0
IsFaultCounted (Ok x) old new = new ≡ old
IsFaultCounted (Err fault) old new = (new.files ≡ old.files) × IsFailureCountAfter fault old.failures new.failures × IsEndlessCountAfter fault old.endless new.endless

-- the bytes of the file with this name, up to the first past the limit of a text; of two files with one name, those of the first
abbrev pub named_file_bytes_truncated_past_limit : List ℕ → List NamedFile → Option (List ℕ)
named_file_bytes_truncated_past_limit name [] = None
named_file_bytes_truncated_past_limit name (file ∷ files) = if bytes_eq name file.name then Some (take (text_limit + 1) file.bytes) else named_file_bytes_truncated_past_limit name files

-- the names, without their folder, of the files in the folder `dir`
abbrev pub base_names_in_folder : List ℕ → List NamedFile → List (List ℕ)
base_names_in_folder dir [] = []
base_names_in_folder dir (file ∷ files) = if bytes_eq (folder_of file.name) (dir ++ 47 ∷ []) then base_name_of_file_name file.name ∷ base_names_in_folder dir files else base_names_in_folder dir files

-- What a call that reads a file returns, and what it does to the files.
pub record IsFileReadResult (result : Result (Option (List ℕ)) FileFault) (name : List ℕ) (old new : FileDeviceState) : Type 0 where
  pub counts : IsFaultCounted result old new
  pub told : IfOk result (λ bytes. IfSome old.files (λ files. bytes ≡ named_file_bytes_truncated_past_limit name files))
  pub most : IfOk result (λ bytes. IfSome bytes (λ bytes. length bytes ≤ text_limit + 1))

-- the other names, if there is a name
abbrev others_unless_empty : List (List ℕ) → List (List ℕ) → Option (List (List ℕ))
others_unless_empty [] others = None
others_unless_empty (name ∷ names) others = Some others

-- those of these names that an include of the folder reads
abbrev pub included_base_names_in : List ℕ → List NamedFile → List (List ℕ)
included_base_names_in dir files = filter is_includable_base_name (base_names_in_folder dir files)

-- the names of the other files in the folder; none at all if no file is in it, as then there is no such folder
abbrev pub unread_base_names_in : List ℕ → List NamedFile → Option (List (List ℕ))
unread_base_names_in dir files = others_unless_empty (base_names_in_folder dir files) (filter (λ base. not (is_includable_base_name base)) (base_names_in_folder dir files))

-- What a call that lists a folder returns, and what it does to the files. `names_of` gives the names for files that are known.
pub record IsFolderListing (result : Result (Vec (List ℕ) Global) FileFault) (names_of : List NamedFile → List (List ℕ)) (old new : FileDeviceState) : Type 0 where
  pub counts : IsFaultCounted result old new
  pub told : IfOk result (λ names. IfSome old.files (λ files. names.items ≡ names_of files))

-- the same of the names that an include of the folder does not read
pub record IsUnreadListing (result : Result (Option (Vec (List ℕ) Global)) FileFault) (dir : List ℕ) (old new : FileDeviceState) : Type 0 where
  pub counts : IsFaultCounted result old new
  pub told : IfOk result (λ names. IfSome old.files (λ files. option_map (λ (some : Vec (List ℕ) Global). some.items) names ≡ unread_base_names_in dir files))
