use Rattle.sudoers_check.proofs.Common.{ap, arith, drop, drop_all, line_of_row, map, rules, ◌≡◌}
use Rattle.sudoers_check.proofs.Located.{definition_count_in_lines, definition_count_in_valid_lines_is_limited, definitions_from_lines_have_total_count}
use Rattle.sudoers_check.proofs.definition_numbers.DefinitionNumbers.new.Goals as goal

pub loop-line-init : goal.loop-line-init
loop-line-init c = (search rules, omega (arith, definition_count_in_valid_lines_is_limited _ c.is_walk.ensures, ap definition_count_in_lines c.lines-lines.ensures), omega arith)

pub invariant_of-result-clause-count_is : goal.invariant_of-result-clause-count_is
invariant_of-result-clause-count_is c =
    let t = c.lines-lines.result.tables.now in
    let rows = c.lines-lines.result.rows.now in
    let none : drop c.loop-line.line rows ≡ _ = drop_all c.loop-line.line rows (search rules) in
    let whole : definition_count_in_lines (map (line_of_row t) rows) ≡ definition_count_in_lines c.args.walk = ap definition_count_in_lines c.lines-lines.ensures in
    omega (arith, c.loop-line.invariant.2, ap (λ left. definition_count_in_lines (map (line_of_row t) left)) none, whole, definitions_from_lines_have_total_count 0 c.args.walk)
