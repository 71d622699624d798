-- What `show` writes for a policy.
use Rattle.std.specs.Prelude.{◌⊎◌, ℕ, List, Result, Ok, Err}
use Rattle.sudoers_tree.specs.declared.named_files.NamedFile.{NamedFile}
use Rattle.sudoers_tree.specs.declared.load_fault.LoadFault.{LoadFault}
use Rattle.sudoers_tree.specs.Load.{LoadedPolicy}
use Rattle.sudoers_run.specs.declared.fault.LayerFault.{LayerFault}
use Rattle.sudoers_run.specs.declared.fault.LayerFault.TheVariants as layer
use Rattle.sudoers_run.specs.declared.fault.ToolFault.{ToolFault}
use Rattle.sudoers_edit.specs.Memory.{IsMemoryFreeLoadFault}
use Rattle.sudoers_run.specs.Policy.{IsFaultBeforeLoading, IsStatedOrOutsideFault, result_after_loading_from_root}
use Rattle.sudoers_run.specs.Faults.{IsWriteFaultOr}
use Rattle.sudoers_run.specs.Shown.{shown_policy_text}

-- what is shown of a policy, or the fault of files that are no policy
abbrev pub show_output_or_load_fault : Result LoadedPolicy LoadFault → Result (List ℕ) LayerFault
show_output_or_load_fault (Ok policy) = Ok (shown_policy_text policy.files)
show_output_or_load_fault (Err fault) = Err (layer.Load fault)

-- the same of the policy that these files are from `root` on
abbrev pub show_output : List ℕ → List NamedFile → Result (List ℕ) LayerFault
show_output root known = result_after_loading_from_root show_output_or_load_fault root known

-- The fault is the one that the files have. Faults of devices and of memory may come whatever the files are.
abbrev pub IsStatedOrOutsideShowFault : List ℕ → ToolFault → List NamedFile → Type 0
IsStatedOrOutsideShowFault root fault known = IsWriteFaultOr (λ (said : LayerFault). IsStatedOrOutsideFault said (show_output root known)) fault

-- the faults of loading files that are gathered
abbrev pub IsLoadOrMemoryFault : LayerFault → Type 0
IsLoadOrMemoryFault (layer.Load fault) = IsMemoryFreeLoadFault fault
IsLoadOrMemoryFault layer.NoMemory = Unit {0}
IsLoadOrMemoryFault fault = ⊥

-- the faults of showing a policy
abbrev pub IsShowFault : ToolFault → Type 0
IsShowFault fault = IsWriteFaultOr (λ (said : LayerFault). IsFaultBeforeLoading said ⊎ IsLoadOrMemoryFault said) fault
