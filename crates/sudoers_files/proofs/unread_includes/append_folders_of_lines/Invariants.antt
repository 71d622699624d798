use Rattle.std.proofs.Common.{◌≡◌, ◌++◌, drop}
use Rattle.sudoers_files.specs.Included.{names_from_include_leads_of_lines}
use Rattle.sudoers_files.specs.Unread.{folder_of_lead}
use Rattle.sudoers_files.proofs.unread_includes.append_folders_of_lines.Given as goal

abbrev pub invariant-loop-line : goal.invariant-loop-line
invariant-loop-line l = l.folders.items ++ names_from_include_leads_of_lines folder_of_lead l.name (drop l.line-index l.lines) ≡ l.fn.folders.items ++ names_from_include_leads_of_lines folder_of_lead l.name l.lines
