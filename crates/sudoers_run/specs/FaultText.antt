-- The text that is shown for a fault.
use Rattle.std.specs.Prelude.{ℕ, ◌+◌, List, ◌++◌, codes}
use Rattle.std.specs.Fmt.{decimal}
use Rattle.sudoers_text.specs.declared.fault.TextFault.{TextFault}
use Rattle.sudoers_text.specs.declared.fault.TextFault.TheVariants as text
use Rattle.sudoers_grammar.specs.declared.fault.Why.{Why}
use Rattle.sudoers_grammar.specs.declared.fault.Why.TheVariants as why
use Rattle.sudoers_grammar.specs.declared.node.Kind.{Kind}
use Rattle.sudoers_tree.specs.declared.fault.ReadFault.{ReadFault}
use Rattle.sudoers_tree.specs.declared.fault.ReadFault.TheVariants as read
use Rattle.sudoers_grammar.specs.Kind.{alias_line_keyword}
use Rattle.sudoers_tree.specs.declared.load_fault.LoadFault.{LoadFault}
use Rattle.sudoers_tree.specs.declared.load_fault.LoadFault.TheVariants as load
use Rattle.sudoers_files.specs.declared.fault.FileFault.TheVariants as file_fault
use Rattle.sudoers_files.specs.declared.fault.GatherFault.{GatherFault}
use Rattle.sudoers_files.specs.declared.fault.GatherFault.TheVariants as gather
use Rattle.sudoers_edit.specs.declared.fault.EditFault.{EditFault}
use Rattle.sudoers_edit.specs.declared.fault.EditFault.TheVariants as edit
use Rattle.sudoers_edit_script.specs.declared.script_reader.ScriptFault.{ScriptFault}
use Rattle.sudoers_edit_script.specs.declared.script_reader.ScriptFault.TheVariants as script
use Rattle.sudoers_cvt_rules.specs.declared.fault.CvtFault.{CvtFault}
use Rattle.sudoers_cvt_rules.specs.declared.fault.CvtFault.TheVariants as cvt
use Rattle.sudoers_cvt_rewrite.specs.declared.filter_text.FilterFault.{FilterFault}
use Rattle.sudoers_cvt_rewrite.specs.declared.filter_text.FilterFault.TheVariants as filter
use Rattle.sudoers_list_people.specs.declared.fault.PeopleFile.{PeopleFile}
use Rattle.sudoers_list_people.specs.declared.fault.PeopleFile.TheVariants as file
use Rattle.sudoers_list_people.specs.declared.fault.PeopleFault.{PeopleFault}
use Rattle.sudoers_list_people.specs.declared.fault.PeopleFault.TheVariants as people
use Rattle.sudoers_list_people.specs.declared.fault.WhoFault.{WhoFault}
use Rattle.sudoers_list_people.specs.declared.fault.WhoFault.TheVariants as who
use Rattle.sudoers_match_list.specs.declared.verdict.AskFault.{AskFault}
use Rattle.sudoers_match_list.specs.declared.verdict.AskFault.TheVariants as ask
use Rattle.sudoers_run.specs.declared.fault.LayerFault.{LayerFault}
use Rattle.sudoers_run.specs.declared.fault.LayerFault.TheVariants as layer
use Rattle.sudoers_run.specs.declared.fault.ToolFault.{ToolFault}
use Rattle.sudoers_run.specs.declared.fault.ToolFault.TheVariants as tool

-- a fault of the policy's text: its lines count from 1, its bytes from 0
abbrev pub text_fault_message : TextFault → List ℕ → List ℕ
text_fault_message text.TooLarge file = file ++ codes ": TooLarge"
text_fault_message (text.LineTooLong line) file = file ++ codes ":" ++ decimal line ++ codes ":1: line too long"
text_fault_message (text.Nul at) file = file ++ codes ": NUL at byte " ++ decimal at
text_fault_message text.OpenContinuation file = file ++ codes ": OpenContinuation"
text_fault_message text.NoMemory file = codes "NoMemory"

abbrev pub syntax_reason_name : Why → List ℕ
syntax_reason_name why.UnexpectedByte = codes "UnexpectedByte"
syntax_reason_name why.UnexpectedToken = codes "UnexpectedToken"
syntax_reason_name why.EndOfLine = codes "EndOfLine"
syntax_reason_name why.OpenQuote = codes "OpenQuote"
syntax_reason_name why.EmptyName = codes "EmptyName"
syntax_reason_name why.BadId = codes "BadId"
syntax_reason_name why.BadAddress = codes "BadAddress"
syntax_reason_name why.BadStamp = codes "BadStamp"
syntax_reason_name why.Regex = codes "Regex"

-- a kind's name in a file
abbrev pub alias_name_in_file_text : List ℕ → Kind → List ℕ → List ℕ
alias_name_in_file_text file k name = file ++ codes ": " ++ alias_line_keyword k ++ codes " " ++ name

-- an include line of a file, and the name to which it leads
abbrev pub include_line_text : List ℕ → ℕ → List ℕ → List ℕ
include_line_text file line name = file ++ codes ":" ++ decimal line ++ codes ":1: include " ++ name

-- a fault of a policy: its lines and columns count from 1
abbrev pub policy_file_fault_message : ReadFault → List ℕ → List ℕ
policy_file_fault_message (read.Text fault) file = text_fault_message fault file
policy_file_fault_message (read.Syntax line col why) file =
    file ++ codes ":" ++ decimal line ++ codes ":" ++ decimal col ++ codes ": syntax error: " ++ syntax_reason_name why
policy_file_fault_message (read.Reserved k name) file = alias_name_in_file_text file k name ++ codes " reserved"
policy_file_fault_message (read.Duplicate k name) file = alias_name_in_file_text file k name ++ codes " defined twice"
policy_file_fault_message (read.TooMany k) file = file ++ codes ": too many " ++ alias_line_keyword k
policy_file_fault_message (read.NotLoaded line name) file = include_line_text file line name ++ codes " not loaded"
policy_file_fault_message (read.Twice line name) file = include_line_text file line name ++ codes " twice"
policy_file_fault_message (read.TooDeep line) file = file ++ codes ":" ++ decimal line ++ codes ":1: includes nested too deep"
policy_file_fault_message read.NoMemory file = codes "NoMemory"

-- a fault of files that are loaded, each with its name
abbrev pub load_fault_message : LoadFault → List ℕ
load_fault_message load.TooManyFiles = codes "TooManyFiles"
load_fault_message (load.SameName file) = codes "SameName"
load_fault_message (load.InFile file fault) = policy_file_fault_message fault file
load_fault_message load.NoMemory = codes "NoMemory"

-- a fault of files that are gathered
abbrev pub gather_fault_name : GatherFault → List ℕ
gather_fault_name gather.NoRoot = codes "NoRoot"
gather_fault_name (gather.Device file_fault.Failed) = codes "Failed"
gather_fault_name (gather.Device file_fault.NoEnd) = codes "NoEnd"
gather_fault_name (gather.Device file_fault.NoMemory) = codes "NoMemory"
gather_fault_name gather.TooManyFiles = codes "TooManyFiles"
gather_fault_name gather.NoMemory = codes "NoMemory"

-- a fault at a line of the script
abbrev pub script_line_message : ℕ → List ℕ → List ℕ
script_line_message line name = codes "script:" ++ decimal line ++ codes ": " ++ name

abbrev pub script_fault_message : ScriptFault → List ℕ
script_fault_message (script.BadWord line) = script_line_message line (codes "BadWord")
script_fault_message (script.BadNumber line) = script_line_message line (codes "BadNumber")
script_fault_message (script.NoPayload line) = script_line_message line (codes "NoPayload")
script_fault_message script.TooMany = codes "TooMany"
script_fault_message script.NoMemory = codes "NoMemory"

-- a refusal of the edit at a place: its number counts from 1
abbrev pub numbered_edit_message : ℕ → List ℕ → List ℕ
numbered_edit_message place name = codes "edit " ++ decimal (place + 1) ++ codes ": " ++ name

-- Want of memory has one text, wherever it was met.
abbrev pub edit_fault_message : ℕ → EditFault → List ℕ
edit_fault_message place edit.NoFile = numbered_edit_message place (codes "NoFile")
edit_fault_message place edit.NoLine = numbered_edit_message place (codes "NoLine")
edit_fault_message place edit.NotOneLine = numbered_edit_message place (codes "NotOneLine")
edit_fault_message place edit.OpenLine = numbered_edit_message place (codes "OpenLine")
edit_fault_message place edit.NoAlias = numbered_edit_message place (codes "NoAlias")
edit_fault_message place edit.NoPlace = numbered_edit_message place (codes "NoPlace")
edit_fault_message place edit.OnlyOne = numbered_edit_message place (codes "OnlyOne")
edit_fault_message place edit.BadName = numbered_edit_message place (codes "BadName")
edit_fault_message place edit.NameTaken = numbered_edit_message place (codes "NameTaken")
edit_fault_message place edit.BadSplice = numbered_edit_message place (codes "BadSplice")
edit_fault_message place edit.EndAsIs = numbered_edit_message place (codes "EndAsIs")
edit_fault_message place edit.TooLarge = numbered_edit_message place (codes "TooLarge")
edit_fault_message place (edit.NotPolicy fault) = numbered_edit_message place (codes "NotPolicy: ") ++ load_fault_message fault
edit_fault_message place edit.NoMemory = codes "NoMemory"

abbrev pub convert_fault_name : CvtFault → List ℕ
convert_fault_name cvt.Cycle = codes "Cycle"
convert_fault_name cvt.TooLarge = codes "TooLarge"
convert_fault_name cvt.NotUtf8 = codes "NotUtf8"
convert_fault_name cvt.NoMemory = codes "NoMemory"

abbrev pub filter_fault_name : FilterFault → List ℕ
filter_fault_name filter.BadKey = codes "BadKey"
filter_fault_name filter.Empty = codes "Empty"
filter_fault_name filter.NoMemory = codes "NoMemory"

-- a fault of passwd or of group: rows count from 1
abbrev pub people_file_name : PeopleFile → List ℕ
people_file_name file.Passwd = codes "passwd"
people_file_name file.Group = codes "group"

abbrev pub people_fault_message : PeopleFault → List ℕ
people_fault_message (people.BadRow f line) = people_file_name f ++ codes ":" ++ decimal line ++ codes ": BadRow"
people_fault_message people.TooLarge = codes "TooLarge"
people_fault_message people.NoMemory = codes "NoMemory"

abbrev pub who_fault_name : WhoFault → List ℕ
who_fault_name who.NoUser = codes "NoUser"
who_fault_name who.NoGroup = codes "NoGroup"
who_fault_name who.BadAddress = codes "BadAddress"
who_fault_name who.BadMoment = codes "BadMoment"
who_fault_name who.NoMemory = codes "NoMemory"

abbrev pub ask_fault_name : AskFault → List ℕ
ask_fault_name ask.Cycle = codes "Cycle"
ask_fault_name ask.TooLong = codes "TooLong"
ask_fault_name ask.NoMemory = codes "NoMemory"

abbrev pub layer_fault_message : LayerFault → List ℕ
layer_fault_message (layer.Gather fault) = gather_fault_name fault
layer_fault_message (layer.Load fault) = load_fault_message fault
layer_fault_message (layer.Script fault) = script_fault_message fault
layer_fault_message (layer.Edit place fault) = edit_fault_message place fault
layer_fault_message (layer.Convert fault) = convert_fault_name fault
layer_fault_message (layer.Filter fault) = filter_fault_name fault
layer_fault_message (layer.People fault) = people_fault_message fault
layer_fault_message (layer.Who fault) = who_fault_name fault
layer_fault_message (layer.Ask fault) = ask_fault_name fault
layer_fault_message layer.NoMemory = codes "NoMemory"

abbrev pub tool_fault_message : ToolFault → List ℕ
tool_fault_message tool.Read = codes "Read"
tool_fault_message tool.Write = codes "Write"
tool_fault_message tool.NoEnd = codes "NoEnd"
tool_fault_message (tool.Layer fault) = layer_fault_message fault
tool_fault_message tool.NoMark = codes "NoMark"
tool_fault_message (tool.BadBundle file) = codes "BadBundle"
tool_fault_message tool.InputTooLarge = codes "InputTooLarge"
