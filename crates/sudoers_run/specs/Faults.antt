-- What is said of the faults of a command.
use Rattle.sudoers_edit.specs.declared.fault.EditFault.{EditFault}
use Rattle.sudoers_edit.specs.declared.fault.EditFault.TheVariants as edit
use Rattle.sudoers_edit.specs.Memory.{HasNoInnerMemoryFault}
use Rattle.sudoers_cvt_rewrite.specs.declared.filter_text.FilterFault.{FilterFault}
use Rattle.sudoers_cvt_rewrite.specs.declared.filter_text.FilterFault.TheVariants as filter
use Rattle.sudoers_edit_script.specs.declared.script_reader.ScriptFault.{ScriptFault}
use Rattle.sudoers_edit_script.specs.declared.script_reader.ScriptFault.TheVariants as script
use Rattle.sudoers_list_people.specs.declared.fault.PeopleFault.{PeopleFault}
use Rattle.sudoers_list_people.specs.declared.fault.PeopleFault.TheVariants as people
use Rattle.sudoers_list_people.specs.declared.fault.WhoFault.{WhoFault}
use Rattle.sudoers_list_people.specs.declared.fault.WhoFault.TheVariants as who
use Rattle.sudoers_match_list.specs.declared.verdict.AskFault.{AskFault}
use Rattle.sudoers_match_list.specs.declared.verdict.AskFault.TheVariants as ask
use Rattle.sudoers_run.specs.declared.fault.LayerFault.{LayerFault}
use Rattle.sudoers_run.specs.declared.fault.ToolFault.{ToolFault}
use Rattle.sudoers_run.specs.declared.fault.ToolFault.TheVariants as tool

-- Of a fault of the devices nothing is asked, and of one of a layer this. No other faults come.
abbrev pub IsDeviceFaultOr : (LayerFault → Type 0) → ToolFault → Type 0
IsDeviceFaultOr P tool.Read = Unit {0}
IsDeviceFaultOr P tool.Write = Unit {0}
IsDeviceFaultOr P tool.NoEnd = Unit {0}
IsDeviceFaultOr P (tool.Layer fault) = P fault
IsDeviceFaultOr P tool.NoMark = ⊥
IsDeviceFaultOr P (tool.BadBundle file) = ⊥
IsDeviceFaultOr P tool.InputTooLarge = ⊥

-- Of a failed write nothing is asked, and of a fault of a layer this. No other faults come.
abbrev pub IsWriteFaultOr : (LayerFault → Type 0) → ToolFault → Type 0
IsWriteFaultOr P tool.Write = Unit {0}
IsWriteFaultOr P (tool.Layer fault) = P fault
IsWriteFaultOr P tool.Read = ⊥
IsWriteFaultOr P tool.NoEnd = ⊥
IsWriteFaultOr P tool.NoMark = ⊥
IsWriteFaultOr P (tool.BadBundle file) = ⊥
IsWriteFaultOr P tool.InputTooLarge = ⊥

-- ---- Want of memory is the one fault `NoMemory`. No fault of a layer is it or holds it. For a policy `IsOfText` and `IsOfFiles` say so.

abbrev pub IsScriptFaultNotMemory : ScriptFault → Type 0
IsScriptFaultNotMemory script.NoMemory = ⊥
IsScriptFaultNotMemory fault = Unit {0}

abbrev pub IsEditRefusalNotMemory : EditFault → Type 0
IsEditRefusalNotMemory edit.NoMemory = ⊥
IsEditRefusalNotMemory fault = HasNoInnerMemoryFault fault

abbrev pub IsFilterFaultNotMemory : FilterFault → Type 0
IsFilterFaultNotMemory filter.NoMemory = ⊥
IsFilterFaultNotMemory fault = Unit {0}

abbrev pub IsPeopleFaultNotMemory : PeopleFault → Type 0
IsPeopleFaultNotMemory people.NoMemory = ⊥
IsPeopleFaultNotMemory fault = Unit {0}

abbrev pub IsWhoFaultNotMemory : WhoFault → Type 0
IsWhoFaultNotMemory who.NoMemory = ⊥
IsWhoFaultNotMemory fault = Unit {0}

abbrev pub IsAskFaultNotMemory : AskFault → Type 0
IsAskFaultNotMemory ask.NoMemory = ⊥
IsAskFaultNotMemory fault = Unit {0}
