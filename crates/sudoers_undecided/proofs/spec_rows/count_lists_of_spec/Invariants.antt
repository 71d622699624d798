use Rattle.std.proofs.Common.{◌≡◌, ℕ, true, map, drop}
use Rattle.sudoers_check.specs.Chain.{ListHasElement}
use Rattle.sudoers_line_rows.specs.Tables.{host_group_in_tables}
use Rattle.sudoers_line_rows.specs.View.{members_of_view}
use Rattle.sudoers_match.specs.Rows.{AreRowsPerFlatAtomOfHostGroup}
use Rattle.sudoers_undecided.specs.internal.Counted.{CountsPartsSoFar, counted_list}
use Rattle.sudoers_undecided.proofs.spec_rows.count_lists_of_spec.Given as goal

abbrev pub invariant-loop-row : goal.invariant-loop-row
invariant-loop-row l = record {
  noted : l.counted.has_users ≡ true → ListHasElement l.counted.users.items (counted_list l.line l.users l.standing.holds);
  so_far : (i : ℕ) → CountsPartsSoFar (AreRowsPerFlatAtomOfHostGroup l.asked.policy.now i (members_of_view l.users)) l.asked.policy.now l.asked.request.now l.asked.scopes.now l.fn.counted l.counted
      (map (host_group_in_tables l.groups.tables.now) l.groups.rows.now) l.row-index (drop l.row-index (map (host_group_in_tables l.groups.tables.now) l.groups.rows.now));
}
