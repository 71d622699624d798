use Rattle.std.proofs.Common.{◌≡◌, ◌++◌, drop, map}
use Rattle.sudoers_tree.specs.Line.{line_of_row}
use Rattle.sudoers_tree.specs.Policy.{texts_of_lines}
use Rattle.sudoers_plan.specs.GivenText.{is_line_of_text}
use Rattle.sudoers_plan.specs.Plan.{line_texts_of_file}
use Rattle.sudoers_plan.specs.Numbers.{numbers_of_passing}
use Rattle.sudoers_plan.proofs.line_wishes.find_equal_lines.Given as goal

abbrev pub invariant-loop-number : goal.invariant-loop-number
invariant-loop-number l =
    l.numbers.items ++ numbers_of_passing (is_line_of_text l.wanted) l.number (texts_of_lines (map (line_of_row l.lines.tables.now) (drop l.number l.lines.rows.now)))
    ≡ numbers_of_passing (is_line_of_text l.wanted) 0 (line_texts_of_file l.policy l.file)
