use Rattle.sudoers_match.proofs.Common.{AllByRecursion, drop, line_of_row, map, specs_with_line_numbers, true, ◌++◌, ◌≡◌}
use Rattle.sudoers_match.specs.declared.specs_for_users.SpecOnLine.{SpecOnLine}
use Rattle.sudoers_match.specs.ForRequest.{numbered_spec_of_view}
use Rattle.sudoers_match.proofs.specs_for_users.list_specs_with_lines.Given as goal

abbrev pub invariant-loop-line : goal.invariant-loop-line
invariant-loop-line l = record {
  all : map numbered_spec_of_view l.specs.items ++ specs_with_line_numbers l.line (map (line_of_row l.lines.tables.now) (drop l.line l.lines.rows.now))
      ≡ specs_with_line_numbers 0 (map (line_of_row l.lines.tables.now) l.lines.rows.now);
  matter : AllByRecursion (λ (s : SpecOnLine). s.matters ≡ true) l.specs.items;
}
