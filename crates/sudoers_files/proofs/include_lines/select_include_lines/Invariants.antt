use Rattle.std.proofs.Common.{◌≡◌, ◌++◌, ℕ, [], List, Option, None, drop}
use Rattle.sudoers_tree.specs.declared.include_leads.Lead.{Lead}
use Rattle.sudoers_files.specs.Included.{names_from_include_leads_of_lines}
use Rattle.sudoers_files.proofs.include_lines.select_include_lines.Given as goal

-- The names for the lines that are kept and for those still to come are the names for all lines, whatever `of` gives.
abbrev pub invariant-loop-number : goal.invariant-loop-number
invariant-loop-number l =
    (of : Option Lead → List (List ℕ)) → of None ≡ [] → names_from_include_leads_of_lines of l.name l.kept.items ++ names_from_include_leads_of_lines of l.name (drop l.number l.lines) ≡ names_from_include_leads_of_lines of l.name l.lines
