use Rattle.std.proofs.Common.{map, take}
use Rattle.sudoers_match_member.specs.declared.request.Request.{Request}
use Rattle.sudoers_tree.specs.Line.{line_of_row}
use Rattle.sudoers_undecided.specs.internal.Counted.{AreHostAliases, AreUserAliases}
use Rattle.sudoers_undecided.specs.internal.Rights.{AddsListsOfLines}
use Rattle.sudoers_undecided.proofs.rights.append_lists_of_scopes.Given as goal

abbrev pub invariant-loop-line : goal.invariant-loop-line
invariant-loop-line l = (r : Request) → AreUserAliases l.fn.policy r l.fn.users → AreHostAliases l.fn.policy r l.fn.hosts
    → AddsListsOfLines l.fn.policy r (take l.line (map (line_of_row l.lines.tables.now) l.lines.rows.now)) l.fn.lists l.lists
