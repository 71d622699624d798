-- A layer's fault as the program tells it: want of memory is one fault, wherever it was met.
use Rattle.sudoers_run.specs.declared.fault.ToolFault.{ToolFault}
use Rattle.sudoers_run.specs.declared.fault.ToolFault.TheVariants as tool
use Rattle.std.specs.Prelude.{ℕ}
use Rattle.sudoers_tree.specs.declared.load_fault.LoadFault.{LoadFault}
use Rattle.sudoers_tree.specs.declared.load_fault.LoadFault.TheVariants as load
use Rattle.sudoers_bundle.specs.declared.fault.BundleFault.{BundleFault}
use Rattle.sudoers_bundle.specs.declared.fault.BundleFault.TheVariants as bundle
use Rattle.sudoers_files.specs.declared.fault.GatherFault.{GatherFault}
use Rattle.sudoers_files.specs.declared.fault.GatherFault.TheVariants as gather
use Rattle.sudoers_edit.specs.declared.fault.EditFault.{EditFault}
use Rattle.sudoers_edit.specs.declared.fault.EditFault.TheVariants as edit
use Rattle.sudoers_edit_script.specs.declared.script_reader.ScriptFault.{ScriptFault}
use Rattle.sudoers_edit_script.specs.declared.script_reader.ScriptFault.TheVariants as script
use Rattle.sudoers_cvt_rules.specs.declared.fault.CvtFault.{CvtFault}
use Rattle.sudoers_cvt_rules.specs.declared.fault.CvtFault.TheVariants as cvt
use Rattle.sudoers_cvt_rewrite.specs.declared.filter_text.FilterFault.{FilterFault}
use Rattle.sudoers_cvt_rewrite.specs.declared.filter_text.FilterFault.TheVariants as filter
use Rattle.sudoers_list_people.specs.declared.fault.PeopleFault.{PeopleFault}
use Rattle.sudoers_list_people.specs.declared.fault.PeopleFault.TheVariants as people
use Rattle.sudoers_list_people.specs.declared.fault.WhoFault.{WhoFault}
use Rattle.sudoers_list_people.specs.declared.fault.WhoFault.TheVariants as who
use Rattle.sudoers_match_list.specs.declared.verdict.AskFault.{AskFault}
use Rattle.sudoers_match_list.specs.declared.verdict.AskFault.TheVariants as ask
use Rattle.sudoers_run.specs.declared.fault.LayerFault.{LayerFault}
use Rattle.sudoers_run.specs.declared.fault.LayerFault.TheVariants as layer

abbrev pub layer_fault_of_gather : GatherFault → LayerFault
layer_fault_of_gather gather.NoRoot = layer.Gather gather.NoRoot
layer_fault_of_gather (gather.Device fault) = layer.Gather (gather.Device fault)
layer_fault_of_gather gather.TooManyFiles = layer.Gather gather.TooManyFiles
layer_fault_of_gather gather.NoMemory = layer.NoMemory

abbrev pub layer_fault_of_load : LoadFault → LayerFault
layer_fault_of_load load.TooManyFiles = layer.Load load.TooManyFiles
layer_fault_of_load (load.SameName file) = layer.Load (load.SameName file)
layer_fault_of_load (load.InFile file fault) = layer.Load (load.InFile file fault)
layer_fault_of_load load.NoMemory = layer.NoMemory

abbrev pub layer_fault_of_script : ScriptFault → LayerFault
layer_fault_of_script (script.BadWord line) = layer.Script (script.BadWord line)
layer_fault_of_script (script.BadNumber line) = layer.Script (script.BadNumber line)
layer_fault_of_script (script.NoPayload line) = layer.Script (script.NoPayload line)
layer_fault_of_script script.TooMany = layer.Script script.TooMany
layer_fault_of_script script.NoMemory = layer.NoMemory

abbrev pub layer_fault_of_edit : ℕ → EditFault → LayerFault
layer_fault_of_edit place edit.NoFile = layer.Edit place edit.NoFile
layer_fault_of_edit place edit.NoLine = layer.Edit place edit.NoLine
layer_fault_of_edit place edit.NotOneLine = layer.Edit place edit.NotOneLine
layer_fault_of_edit place edit.OpenLine = layer.Edit place edit.OpenLine
layer_fault_of_edit place edit.NoAlias = layer.Edit place edit.NoAlias
layer_fault_of_edit place edit.NoPlace = layer.Edit place edit.NoPlace
layer_fault_of_edit place edit.OnlyOne = layer.Edit place edit.OnlyOne
layer_fault_of_edit place edit.BadName = layer.Edit place edit.BadName
layer_fault_of_edit place edit.NameTaken = layer.Edit place edit.NameTaken
layer_fault_of_edit place edit.BadSplice = layer.Edit place edit.BadSplice
layer_fault_of_edit place edit.EndAsIs = layer.Edit place edit.EndAsIs
layer_fault_of_edit place edit.TooLarge = layer.Edit place edit.TooLarge
layer_fault_of_edit place (edit.NotPolicy fault) = layer.Edit place (edit.NotPolicy fault)
layer_fault_of_edit place edit.NoMemory = layer.NoMemory

abbrev pub layer_fault_of_cvt : CvtFault → LayerFault
layer_fault_of_cvt cvt.Cycle = layer.Convert cvt.Cycle
layer_fault_of_cvt cvt.TooLarge = layer.Convert cvt.TooLarge
layer_fault_of_cvt cvt.NotUtf8 = layer.Convert cvt.NotUtf8
layer_fault_of_cvt cvt.NoMemory = layer.NoMemory

abbrev pub layer_fault_of_filter : FilterFault → LayerFault
layer_fault_of_filter filter.BadKey = layer.Filter filter.BadKey
layer_fault_of_filter filter.Empty = layer.Filter filter.Empty
layer_fault_of_filter filter.NoMemory = layer.NoMemory

abbrev pub layer_fault_of_people : PeopleFault → LayerFault
layer_fault_of_people (people.BadRow file line) = layer.People (people.BadRow file line)
layer_fault_of_people people.TooLarge = layer.People people.TooLarge
layer_fault_of_people people.NoMemory = layer.NoMemory

abbrev pub layer_fault_of_who : WhoFault → LayerFault
layer_fault_of_who who.NoUser = layer.Who who.NoUser
layer_fault_of_who who.NoGroup = layer.Who who.NoGroup
layer_fault_of_who who.BadAddress = layer.Who who.BadAddress
layer_fault_of_who who.BadMoment = layer.Who who.BadMoment
layer_fault_of_who who.NoMemory = layer.NoMemory

abbrev pub layer_fault_of_ask : AskFault → LayerFault
layer_fault_of_ask ask.Cycle = layer.Ask ask.Cycle
layer_fault_of_ask ask.TooLong = layer.Ask ask.TooLong
layer_fault_of_ask ask.NoMemory = layer.NoMemory

abbrev pub tool_fault_of_bundle : BundleFault → ToolFault
tool_fault_of_bundle (bundle.BadFile file) = tool.BadBundle file
tool_fault_of_bundle bundle.NoMemory = tool.Layer layer.NoMemory
