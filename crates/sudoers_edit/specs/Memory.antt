-- Where want of memory is told: as the fault `NoMemory`, and nowhere inside another.
use Rattle.sudoers_text.specs.declared.fault.TextFault.TheVariants as text
use Rattle.sudoers_tree.specs.declared.fault.ReadFault.{ReadFault}
use Rattle.sudoers_tree.specs.declared.fault.ReadFault.TheVariants as read
use Rattle.sudoers_tree.specs.declared.load_fault.LoadFault.{LoadFault}
use Rattle.sudoers_tree.specs.declared.load_fault.LoadFault.TheVariants as load
use Rattle.sudoers_edit.specs.declared.fault.EditFault.{EditFault}
use Rattle.sudoers_edit.specs.declared.fault.EditFault.TheVariants as edit

-- a fault that a text has: want of memory is none
abbrev pub IsMemoryFreeReadFault : ReadFault → Type 0
IsMemoryFreeReadFault read.NoMemory = ⊥
IsMemoryFreeReadFault (read.Text text.NoMemory) = ⊥
IsMemoryFreeReadFault fault = Unit {0}

-- a fault that files have
abbrev pub IsMemoryFreeLoadFault : LoadFault → Type 0
IsMemoryFreeLoadFault load.NoMemory = ⊥
IsMemoryFreeLoadFault (load.InFile name fault) = IsMemoryFreeReadFault fault
IsMemoryFreeLoadFault fault = Unit {0}

-- Want of memory is not told as a fault of the files to which an edit leads.
abbrev pub HasNoInnerMemoryFault : EditFault → Type 0
HasNoInnerMemoryFault (edit.NotPolicy fault) = IsMemoryFreeLoadFault fault
HasNoInnerMemoryFault fault = Unit {0}
