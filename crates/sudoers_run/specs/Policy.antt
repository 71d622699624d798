-- The policy of the commands that follow include lines: that of files, from a root on.
use Rattle.std.specs.Prelude.{◌≡◌, ◌⊎◌, ℕ, List, Result, Ok, Err}
use Rattle.sudoers_tree.specs.declared.named_files.NamedFile.{NamedFile}
use Rattle.sudoers_tree.specs.declared.load_fault.LoadFault.{LoadFault}
use Rattle.sudoers_tree.specs.Load.{LoadedPolicy, policy_or_load_fault}
use Rattle.sudoers_files.specs.declared.fault.FileFault.TheVariants as device
use Rattle.sudoers_files.specs.declared.fault.GatherFault.{GatherFault}
use Rattle.sudoers_files.specs.declared.fault.GatherFault.TheVariants as gather
use Rattle.sudoers_files.specs.Gather.{AreCountsAfterGatherFault, gathered_files_or_fault}
use Rattle.sudoers_files.specs.Shelf.{FileDeviceState}
use Rattle.sudoers_run.specs.declared.fault.LayerFault.{LayerFault}
use Rattle.sudoers_run.specs.declared.fault.LayerFault.TheVariants as layer
use Rattle.sudoers_run.specs.declared.fault.ToolFault.{ToolFault}
use Rattle.sudoers_run.specs.declared.fault.ToolFault.TheVariants as tool

-- the outcome `next` of files that are gathered, or why they cannot be gathered
abbrev pub result_after_gathering : {A : Type 0} → (List NamedFile → Result A LayerFault) → Result (List NamedFile) GatherFault → Result A LayerFault
result_after_gathering next (Ok found) = next found
result_after_gathering next (Err fault) = Err (layer.Gather fault)

-- the outcome `next` of loading files that are gathered, or why they cannot be gathered
abbrev pub result_after_loading_gathered_files : {A : Type 0} → (Result LoadedPolicy LoadFault → Result A LayerFault) → Result (List NamedFile) GatherFault → Result A LayerFault
result_after_loading_gathered_files next = result_after_gathering (λ found. next (policy_or_load_fault found))

-- the outcome `next` of the policy that these files are from `root` on, or why they cannot be gathered
abbrev pub result_after_loading_from_root : {A : Type 0} → (Result LoadedPolicy LoadFault → Result A LayerFault) → List ℕ → List NamedFile → Result A LayerFault
result_after_loading_from_root next root known = result_after_loading_gathered_files next (gathered_files_or_fault known root)

-- The files are gathered from `root` on, and this is the outcome of loading them.
pub record IsPolicyFromRoot (root : List ℕ) (policy : Result LoadedPolicy LoadFault) (known : List NamedFile) : Type 0 where
  pub files : List NamedFile
  pub gathers : gathered_files_or_fault known root ≡ Ok files
  pub loads : policy_or_load_fault files ≡ policy

-- an error of a device or of memory, which may come whatever the files and the words are
abbrev pub IsLayerFaultOfDeviceOrMemory : LayerFault → Type 0
IsLayerFaultOfDeviceOrMemory layer.NoMemory = Unit {0}
IsLayerFaultOfDeviceOrMemory (layer.Gather (gather.Device fault)) = Unit {0}
IsLayerFaultOfDeviceOrMemory fault = ⊥

-- the stated error, or one of a device or of memory
abbrev pub IsStatedOrOutsideFault : {A : Type 0} → LayerFault → Result A LayerFault → Type 0
IsStatedOrOutsideFault fault wanted = IsLayerFaultOfDeviceOrMemory fault ⊎ (wanted ≡ Err fault)

-- an error of gathering other than want of memory
abbrev pub IsGatherFaultNotMemory : GatherFault → Type 0
IsGatherFaultNotMemory gather.NoMemory = ⊥
IsGatherFaultNotMemory (gather.Device device.NoMemory) = ⊥
IsGatherFaultNotMemory fault = Unit {0}

-- an error with which no policy is loaded: of gathering, or want of memory
abbrev pub IsFaultBeforeLoading : LayerFault → Type 0
IsFaultBeforeLoading layer.NoMemory = Unit {0}
IsFaultBeforeLoading (layer.Gather fault) = IsGatherFaultNotMemory fault
IsFaultBeforeLoading fault = ⊥

-- the stated error of gathering, or one of a device or of memory
abbrev pub IsStatedOrOutsideGatherFault : List ℕ → LayerFault → List NamedFile → Type 0
IsStatedOrOutsideGatherFault root fault known = IsLayerFaultOfDeviceOrMemory fault ⊎ ((why : GatherFault) × (fault ≡ layer.Gather why) × (gathered_files_or_fault known root ≡ Err why))

-- A command does not change its files. Its error is `Device` only if a call of them has failed or reported no end. With any other result no
-- call has.
abbrev pub CommandLeavesFilesUnchanged : {A : Type 0} → Result A ToolFault → FileDeviceState → FileDeviceState → Type 0
CommandLeavesFilesUnchanged (Err (tool.Layer (layer.Gather fault))) old new = (new.files ≡ old.files) × AreCountsAfterGatherFault fault old new
CommandLeavesFilesUnchanged result old new = (new.files ≡ old.files) × (new.failures ≡ old.failures) × (new.endless ≡ old.endless)
